-- What it tells of two items that no key of the one is one that the other asks for.
use mathlib.Core.Path.{◌≡◌, refl, sym, ap, ap₂, ◌∙◌}
use mathlib.Core.Bool.{Bool, true, false, cond}
use mathlib.Core.List.{List, [], ◌∷◌}
use Prim.Native.Nat.{ℕ, zero, suc, ◌/◌, ◌%◌, ◌^◌, ◌≤◌, ◌<◌}
use native.Mathlib.Omega.{arith}
use native.Mathlib.Decide.{dec_lt, ℕ_discrete}
use lib.ListN.{length, get_or}
use lib.Dec.{eqb, ltb}
use borrow.Author.Tests.{eq-eqb, ne_eqb, eqb-true, eqb-false, lt-ltb, le-ltb}
use Rattle.masks.specs.Masks.{bit, single}
use Rattle.masks.proofs.Laws.{bit_single_other}
use Rattle.hrg.specs.Grammars.{Rule}
use Rattle.hrg.specs.Trees.{at}
use Rattle.hrg.specs.Items.{is_open_at}
use Rattle.agenda.specs.declared.ChartItem.{ChartItem}
use Rattle.agenda.specs.declared.Record.{Record}
use Rattle.agenda.specs.Steps.{improved}
use Rattle.questions.specs.Abstract.{grammar_of}
use Rattle.rules.specs.Wants.{want_of}
use Rattle.keys.specs.Pivots.{position_of, node_of, EdgePivot, JoinPivot}
use Rattle.keys.specs.Keys.{base_of, mixed, bucket_of, word_of, image_of, key_word, place_of, place_node, place_word, asked_from, places_from, sought_from, rule_word, symbol_word, uses_in, KeyTable, place_key, five_keys, keys_by, word_for, uses_of, keys_of, query_of}

-- ---- buckets
pub bucket_positive : (tag s k a : ℕ) → 0 < bucket_of tag s k a
unfolding bucket_of mixed
bucket_positive tag s k a = omega arith

mixed_few : (b a : ℕ) → mixed b a ≤ 2048
unfolding mixed
mixed_few b a = omega arith

bucket_few : (tag s k a : ℕ) → bucket_of tag s k a ≤ 2048
unfolding bucket_of
bucket_few tag s k a = mixed_few (base_of tag s k) a

-- ---- images
pub image_there : (w : ℕ) (f : List ℕ) → node_of w < 8 → image_of w f ≡ at f (node_of w)
unfolding image_of
image_there w f h = rw (lt-ltb (node_of w) 8 h)

pub image_none : (w : ℕ) (f : List ℕ) → 8 ≤ node_of w → image_of w f ≡ 64
unfolding image_of
image_none w f h = rw (le-ltb (node_of w) 8 h)

-- only the node tells
image_same : (w w' : ℕ) (f : List ℕ) → node_of w ≡ node_of w' → image_of w f ≡ image_of w' f
unfolding image_of
image_same w w' f e = ap (λ v. cond (ltb v 8) (at f v) 64) e

-- ---- the word of a base and a node
module _ (tag s k v : ℕ) (tagged : 0 < tag % 128) (few : v < 16) where
  abbrev word : ℕ
  word = word_of tag s k v

  word_there : word ≡ 0 → ⊥
  unfolding word_of base_of
  word_there e = omega arith

  word_base : word / 16 ≡ base_of tag s k
  unfolding word_of
  word_base = omega arith

  word_node : node_of word ≡ v
  unfolding word_of
  word_node = omega arith

  -- the key by it, where w has the same node
  word_keys : (w u tag' s' : ℕ) (L : List ℕ) → node_of w ≡ v → keys_by word u tag' s' L ≡ (bucket_of tag s k (image_of w L) ∷ 0 ∷ 0 ∷ 0 ∷ 0 ∷ [])
  unfolding keys_by bucket_of
  word_keys w u tag' s' L e =
      rw (ne_eqb word 0 word_there)
      (ap₂ (λ b a. mixed b a ∷ 0 ∷ 0 ∷ 0 ∷ 0 ∷ []) word_base (image_same word w L (word_node ∙ sym e)))

-- of active items
module _ (tag want w r p : ℕ) where
  pub word_edge : want < 64 → key_word tag want w r p ≡ word_of tag want (position_of w) (node_of w)
  unfolding key_word
  word_edge h = rw (ne_eqb want 80 (λ e. omega arith), lt-ltb want 64 h)

  pub word_join : 64 ≤ want → (want ≡ 80 → ⊥) → key_word tag want w r p ≡ word_of 3 r p (node_of w)
  unfolding key_word
  word_join h n = rw (ne_eqb want 80 n, le-ltb want 64 h)

  pub word_none : want ≡ 80 → key_word tag want w r p ≡ 0
  unfolding key_word
  word_none e = rw (eq-eqb want 80 e)

-- of passive ones
pub place_there : (tag s u : ℕ) → place_of u < 5 → place_word tag s u ≡ word_of tag s (place_of u) (place_node (place_of u))
unfolding place_word
place_there tag s u h = rw (lt-ltb (place_of u) 5 h)

pub place_none : (tag s u : ℕ) → 5 ≤ place_of u → place_word tag s u ≡ 0
unfolding place_word
place_none tag s u h = rw (le-ltb (place_of u) 5 h)

-- a symbol that is not asked for has none
pub place_nowhere : (tag s : ℕ) → place_word tag s 0 ≡ 0
unfolding place_word place_of
place_nowhere tag s = refl

pub node_first : (i : ℕ) → i < 4 → place_node i ≡ i
unfolding place_node
node_first i h = rw (lt-ltb i 4 h)

node_few : (i : ℕ) → place_node i < 16
unfolding place_node
node_few i = go (dec_lt i 4)
  where
    go : Dec (i < 4) → cond (ltb i 4) i 8 < 16
    go (yes d) = rw (lt-ltb i 4 d) (omega arith)
    go (no d) = rw (le-ltb i 4 (omega arith)) (omega arith)

-- no node stands in the last place
last_image : (L : List ℕ) → image_of (place_node 4) L ≡ 64
unfolding image_of place_node
last_image L = refl

-- ---- the keys of a passive item
abbrev pub listed_keys : ℕ → ℕ → ℕ → List ℕ → List ℕ
listed_keys u tag s L = keys_by (place_word tag s u) u tag s L

used_key : (used tag s i a : ℕ) → used ≡ 1 → place_key used tag s i a ≡ bucket_of tag s i a
unfolding place_key
used_key used tag s i a e = rw e

-- a set with an only place has no other
only_is : (u : ℕ) → place_of u < 5 → u ≡ single (place_of u)
unfolding place_of single
only_is u = go (eqb u 1) (eqb u 2) (eqb u 4) (eqb u 8) (eqb u 16) refl refl refl refl refl
  where
    go : (a b c d e : Bool) → eqb u 1 ≡ a → eqb u 2 ≡ b → eqb u 4 ≡ c → eqb u 8 ≡ d → eqb u 16 ≡ e
        → cond a 0 (cond b 1 (cond c 2 (cond d 3 (cond e 4 5)))) < 5 → u ≡ 2 ^ cond a 0 (cond b 1 (cond c 2 (cond d 3 (cond e 4 5))))
    go true b c d e p q r s t h = eqb-true u 1 p
    go false true c d e p q r s t h = eqb-true u 2 q
    go false false true d e p q r s t h = eqb-true u 4 r
    go false false false true e p q r s t h = eqb-true u 8 s
    go false false false false true p q r s t h = eqb-true u 16 t
    go false false false false false p q r s t h = absurd (omega arith)

only_place : (u k : ℕ) → place_of u < 5 → bit u k ≡ 1 → k ≡ place_of u
only_place u k h e = go (ℕ_discrete k (place_of u))
  where
    go : Dec (k ≡ place_of u) → k ≡ place_of u
    go (yes d) = d
    go (no d) = absurd (omega (arith, ap (λ u. bit u k) (only_is u h), bit_single_other (place_of u) k d))

module _ (u tag s : ℕ) (L : List ℕ) (tagged : 0 < tag % 128) where
  listed_one : place_of u < 5 → listed_keys u tag s L ≡ (bucket_of tag s (place_of u) (image_of (place_node (place_of u)) L) ∷ 0 ∷ 0 ∷ 0 ∷ 0 ∷ [])
  listed_one h =
      let v = place_node (place_of u) in
      ap (λ w. keys_by w u tag s L) (place_there tag s u h)
      ∙ word_keys tag s (place_of u) v tagged (node_few (place_of u)) v u tag s L (omega (arith, node_few (place_of u)))

  listed_all : 5 ≤ place_of u → listed_keys u tag s L ≡ five_keys u tag s L
  unfolding keys_by
  listed_all h = ap (λ w. keys_by w u tag s L) (place_none tag s u h)

  five_at : (k : ℕ) → k < 5 → bit u k ≡ 1 → get_or (five_keys u tag s L) k 0 ≡ bucket_of tag s k (image_of (place_node k) L)
  unfolding five_keys image_of place_node
  five_at zero h e = used_key (bit u 0) tag s 0 (at L 0) e
  five_at (suc zero) h e = used_key (bit u 1) tag s 1 (at L 1) e
  five_at (suc (suc zero)) h e = used_key (bit u 2) tag s 2 (at L 2) e
  five_at (suc (suc (suc zero))) h e = used_key (bit u 3) tag s 3 (at L 3) e
  five_at (suc (suc (suc (suc zero)))) h e = used_key (bit u 4) tag s 4 64 e
  five_at (suc (suc (suc (suc (suc k))))) h e = absurd (omega arith)

  -- a place that is used has its key among the five
  listed_at : (k : ℕ) → k < 5 → bit u k ≡ 1 → (i : ℕ) × (i < 5) × (get_or (listed_keys u tag s L) i 0 ≡ bucket_of tag s k (image_of (place_node k) L))
  listed_at k h e = go (dec_lt (place_of u) 5)
    where
      go : Dec (place_of u < 5) → (i : ℕ) × (i < 5) × (get_or (listed_keys u tag s L) i 0 ≡ bucket_of tag s k (image_of (place_node k) L))
      go (yes d) = (0, omega arith, ap (λ (l : List ℕ). get_or l 0 0) (listed_one d) ∙ ap (λ k. bucket_of tag s k (image_of (place_node k) L)) (sym (only_place u k d e)))
      go (no d) = (k, h, ap (λ (l : List ℕ). get_or l k 0) (listed_all (omega arith)) ∙ five_at k h e)

-- ---- an edge
-- the pivot's position and its open node, at which the map and the list differ
pub record Differ (R : Rule) (p : ℕ) (A f L : List ℕ) (w : ℕ) : Type 0 where
  pub position : position_of w < length A
  pub node : node_of w ≡ at A (position_of w)
  pub opened : is_open_at R p (node_of w) ≡ true
  pub differ : at f (node_of w) ≡ at L (position_of w) → ⊥

module _ (u tag s w : ℕ) (R : Rule) (p : ℕ) (A f L : List ℕ) (tagged : 0 < tag % 128) (size : length A ≤ 4) (inside : (k : ℕ) → k < length A → at A k < 8) (pivot : EdgePivot R p A w) (used : bit u (position_of w) ≡ 1)
    (apart : (i : ℕ) → i < 5 → bucket_of tag s (position_of w) (image_of w f) ≡ get_or (listed_keys u tag s L) i 0 → ⊥) where
  pub edge_differ : Differ R p A f L w
  edge_differ = go (eqb w 72) refl
    where
      -- the place of w has a key that is not the active item's
      other : (k a : ℕ) → k < 5 → position_of w ≡ k → image_of (place_node k) L ≡ a → image_of w f ≡ a → ⊥
      other k a h e n m =
          let x = listed_at u tag s L tagged k h (ap (bit u) (sym e) ∙ used) in
          apart x.0 x.1 (ap₂ (λ k a. bucket_of tag s k a) e (m ∙ sym n) ∙ sym x.2)

      go : (b : Bool) → eqb w 72 ≡ b → Differ R p A f L w
      go true e =
          let z = eqb-true w 72 e in
          absurd (other 4 64 (omega arith) (omega arith) (last_image L) (image_none w f (omega arith)))
      go false e =
          let n = eqb-false w 72 e in
          let k = pivot.position n in
          let v = node_first (position_of w) (omega arith) in
          let m : node_of (place_node (position_of w)) ≡ position_of w = omega arith in
          record {
            position = k;
            node = pivot.node n;
            opened = pivot.opened n;
            differ = λ d. other (position_of w) (at L (position_of w)) (omega arith) refl (image_there (place_node (position_of w)) L (omega arith) ∙ ap (at L) m) (image_there w f (omega (arith, pivot.node n, inside (position_of w) k)) ∙ d);
          }

-- ---- a join
module _ (R : Rule) (p p' w w' : ℕ) (f k : List ℕ) (pivot : JoinPivot R p p' w w') (apart : image_of w f ≡ image_of w' k → ⊥) where
  pub join_node : node_of w < 8
  join_node = go (dec_lt (node_of w) 8)
    where
      go : Dec (node_of w < 8) → node_of w < 8
      go (yes d) = d
      go (no d) = absurd (apart (image_none w f (omega arith) ∙ sym (image_none w' k (omega (arith, pivot.same)))))

  pub join_differ : at f (node_of w) ≡ at k (node_of w) → ⊥
  join_differ e =
      apart (image_there w f join_node ∙ e ∙ ap (at k) pivot.same ∙ sym (image_there w' k (omega (arith, pivot.same, join_node))))

-- ---- keys of items
module _ (g t : List ℕ) (K : KeyTable g t) (x : ChartItem) where
  abbrev want : ℕ
  want = want_of (grammar_of g) x.of x.plan

  abbrev pivot : ℕ
  pivot = K.pivot x.of x.plan

  abbrev uses : ℕ
  uses = uses_in t x.of

  module _ (active : eqb x.kind 0 ≡ true) where
    for_active : (a b : ℕ) → word_for t a b x ≡ rule_word t a x.of x.plan
    unfolding word_for
    for_active a b = rw active

    keyed : (a b u tag' tag s k : ℕ) → 0 < tag % 128 → rule_word t a x.of x.plan ≡ word_of tag s k (node_of pivot) → get_or (keys_by (word_for t a b x) u tag' x.of x.nodes) 0 0 ≡ bucket_of tag s k (image_of pivot x.nodes)
    keyed a b u tag' tag s k tagged e =
        ap (λ w. get_or (keys_by w u tag' x.of x.nodes) 0 0) (for_active a b ∙ e)
        ∙ ap (λ (l : List ℕ). get_or l 0 0) (word_keys tag s k (node_of pivot) tagged (omega arith) pivot u tag' x.of x.nodes refl)

    pub edge_keys : want < 64 → get_or (keys_of t x) 0 0 ≡ bucket_of 2 want (position_of pivot) (image_of pivot x.nodes)
    unfolding keys_of
    edge_keys h = keyed 0 places_from (uses_of t x) 1 2 want (position_of pivot) (omega arith) (K.listed x.of x.plan ∙ word_edge 2 want pivot x.of x.plan h)

    pub join_keys : 64 ≤ want → (want ≡ 80 → ⊥) → get_or (keys_of t x) 0 0 ≡ bucket_of 3 x.of x.plan (image_of pivot x.nodes)
    unfolding keys_of
    join_keys h n = keyed 0 places_from (uses_of t x) 1 3 x.of x.plan (omega arith) (K.listed x.of x.plan ∙ word_join 2 want pivot x.of x.plan h n)

    pub edge_query : want < 64 → get_or (query_of t x) 0 0 ≡ bucket_of 1 want (position_of pivot) (image_of pivot x.nodes)
    unfolding query_of
    edge_query h = keyed asked_from sought_from (uses_of t x) 2 1 want (position_of pivot) (omega arith) (K.asked x.of x.plan ∙ word_edge 1 want pivot x.of (want % 64) h)

    pub join_query : 64 ≤ want → (want ≡ 80 → ⊥) → get_or (query_of t x) 0 0 ≡ bucket_of 3 x.of (want % 64) (image_of pivot x.nodes)
    unfolding query_of
    join_query h n = keyed asked_from sought_from (uses_of t x) 2 3 x.of (want % 64) (omega arith) (K.asked x.of x.plan ∙ word_join 1 want pivot x.of (want % 64) h n)

  module _ (passive : eqb x.kind 0 ≡ false) where
    for_passive : (a b : ℕ) → word_for t a b x ≡ symbol_word t b x.of
    unfolding word_for
    for_passive a b = rw passive

    uses_passive : uses_of t x ≡ uses
    unfolding uses_of
    uses_passive = rw passive

    pub passive_keys : keys_of t x ≡ listed_keys uses 1 x.of x.nodes
    unfolding keys_of
    passive_keys = ap₂ (λ w u. keys_by w u 1 x.of x.nodes) (for_passive 0 places_from ∙ K.place x.of) uses_passive

    pub passive_query : query_of t x ≡ listed_keys uses 2 x.of x.nodes
    unfolding query_of
    passive_query = ap₂ (λ w u. keys_by w u 2 x.of x.nodes) (for_passive asked_from sought_from ∙ K.sought x.of) uses_passive

-- ---- the count of an item does not tell
pub improved_keys : (t : List ℕ) (y x : Record) → keys_of t (improved y x).item ≡ keys_of t y.item
unfolding keys_of word_for uses_of
improved_keys t y x = refl

-- ---- keys are at most 2,048
place_few : (used tag s i a : ℕ) → place_key used tag s i a ≤ 2048
unfolding place_key
place_few used tag s i a = go (eqb used 0)
  where
    go : (b : Bool) → cond b 0 (bucket_of tag s i a) ≤ 2048
    go true = omega arith
    go false = bucket_few tag s i a

five_few : (a b c d e : ℕ) → a ≤ 2048 → b ≤ 2048 → c ≤ 2048 → d ≤ 2048 → e ≤ 2048 → (i : ℕ) → get_or (a ∷ b ∷ c ∷ d ∷ e ∷ []) i 0 ≤ 2048
five_few a b c d e p q u v t zero = p
five_few a b c d e p q u v t (suc zero) = q
five_few a b c d e p q u v t (suc (suc zero)) = u
five_few a b c d e p q u v t (suc (suc (suc zero))) = v
five_few a b c d e p q u v t (suc (suc (suc (suc zero)))) = t
five_few a b c d e p q u v t (suc (suc (suc (suc (suc i))))) = omega arith

all_few : (u tag s : ℕ) (L : List ℕ) (i : ℕ) → get_or (five_keys u tag s L) i 0 ≤ 2048
unfolding five_keys
all_few u tag s L i =
    five_few (place_key (bit u 0) tag s 0 (at L 0)) (place_key (bit u 1) tag s 1 (at L 1)) (place_key (bit u 2) tag s 2 (at L 2)) (place_key (bit u 3) tag s 3 (at L 3)) (place_key (bit u 4) tag s 4 64)
    (place_few (bit u 0) tag s 0 (at L 0)) (place_few (bit u 1) tag s 1 (at L 1)) (place_few (bit u 2) tag s 2 (at L 2)) (place_few (bit u 3) tag s 3 (at L 3)) (place_few (bit u 4) tag s 4 64) i

by_few : (w u tag s : ℕ) (L : List ℕ) (i : ℕ) → get_or (keys_by w u tag s L) i 0 ≤ 2048
unfolding keys_by
by_few w u tag s L i = go (eqb w 0)
  where
    go : (b : Bool) → get_or (cond b (five_keys u tag s L) (mixed (w / 16) (image_of w L) ∷ 0 ∷ 0 ∷ 0 ∷ 0 ∷ [])) i 0 ≤ 2048
    go true = all_few u tag s L i
    go false = five_few (mixed (w / 16) (image_of w L)) 0 0 0 0 (mixed_few (w / 16) (image_of w L)) (omega arith) (omega arith) (omega arith) (omega arith) i

pub keys_few : (t : List ℕ) (x : ChartItem) (i : ℕ) → get_or (keys_of t x) i 0 ≤ 2048
unfolding keys_of
keys_few t x i = by_few (word_for t 0 places_from x) (uses_of t x) 1 x.of x.nodes i

pub query_few : (t : List ℕ) (x : ChartItem) (i : ℕ) → get_or (query_of t x) i 0 ≤ 2048
unfolding query_of
query_few t x i = by_few (word_for t asked_from sought_from x) (uses_of t x) 2 x.of x.nodes i
