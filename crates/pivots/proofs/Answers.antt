-- What the functions of keys answer, by their tests.
use mathlib.Core.Path.{◌≡◌, refl, sym, ap, ap₂, ◌∙◌}
use mathlib.Core.List.{List, [], ◌∷◌}
use Prim.Native.Nat.{ℕ, ◌+◌, ◌*◌, ◌/◌, ◌%◌, ◌≤◌, ◌<◌}
use native.Mathlib.Omega.{arith}
use lib.ListN.{length, get_or}
use borrow.Author.Tests.{eq-eqb, ne_eqb}
use Rattle.std.specs.Prelude.{Option, Some, None, IfSome}
use Rattle.masks.specs.Masks.{bit}
use Rattle.hrg.specs.Trees.{at}
use Rattle.agenda.specs.declared.ChartItem.{ChartItem}
use Rattle.joins.proofs.MapLaws.{get_d_any}
use Rattle.keys.specs.Pivots.{position_of, node_of}
use Rattle.keys.specs.Keys.{base_of, mixed, bucket_of, word_of, image_of, key_word, place_of, place_node, place_word, uses_from, rule_word, symbol_word, uses_in, place_key, five_keys, keys_by, word_for, uses_of, keys_from}
use Rattle.keys.proofs.KeyLaws.{word_edge, word_join, word_none, place_there, place_none, node_first, image_there, image_none}

-- ---- words of the table
word_by_lem : (tag s k v b x : ℕ) → b ≡ base_of tag s k → x ≡ 16 * b + v → x ≡ word_of tag s k v
unfolding word_of
word_by_lem tag s k v b x e q = q ∙ ap (λ b. 16 * b + v) e

module _ (tag want w r p : ℕ) where
  pub idle_word : want ≡ 80 → 0 ≡ key_word tag want w r p
  idle_word e = sym (word_none tag want w r p e)

  pub edge_word_is : (b : ℕ) → want < 64 → b ≡ base_of tag want (position_of w) → 16 * b + node_of w ≡ key_word tag want w r p
  edge_word_is b h e = word_by_lem tag want (position_of w) (node_of w) b _ e refl ∙ sym (word_edge tag want w r p h)

  pub join_word_is : (b : ℕ) → (want ≡ 80 → ⊥) → 64 ≤ want → b ≡ base_of 3 r p → 16 * b + node_of w ≡ key_word tag want w r p
  join_word_is b n h e = word_by_lem 3 r p (node_of w) b _ e refl ∙ sym (word_join tag want w r p h n)

pub place_past : (u : ℕ) → (u ≡ 1 → ⊥) → (u ≡ 2 → ⊥) → (u ≡ 4 → ⊥) → (u ≡ 8 → ⊥) → (u ≡ 16 → ⊥) → 5 ≡ place_of u
unfolding place_of
place_past u a b c d e = rw (ne_eqb u 1 a, ne_eqb u 2 b, ne_eqb u 4 c, ne_eqb u 8 d, ne_eqb u 16 e)

module _ (tag s u i : ℕ) (is : i ≡ place_of u) where
  pub no_place : 5 ≤ i → 0 ≡ place_word tag s u
  no_place h = sym (place_none tag s u (omega arith))

  place_by : (b v : ℕ) → i < 5 → b ≡ base_of tag s i → v ≡ place_node i → 16 * b + v ≡ place_word tag s u
  place_by b v h e n =
      word_by_lem tag s i v b _ e refl
      ∙ ap (word_of tag s i) n
      ∙ ap (λ i. word_of tag s i (place_node i)) is
      ∙ sym (place_there tag s u (omega arith))

  pub last_place : (b : ℕ) → b ≡ base_of tag s i → i ≡ 4 → 16 * b + 8 ≡ place_word tag s u
  unfolding place_node
  last_place b e q = place_by b 8 (omega arith) e (ap place_node (sym q))

  pub node_place : (b : ℕ) → b ≡ base_of tag s i → i < 5 → (i ≡ 4 → ⊥) → 16 * b + i ≡ place_word tag s u
  node_place b e h n = place_by b i h e (sym (node_first i (omega arith)))

-- ---- words of an item's kind
module _ (t : List ℕ) (x : ChartItem) where
  pub active_word : (rules symbols w : ℕ) → x.kind ≡ 0 → w ≡ rule_word t rules x.of x.plan → w ≡ word_for t rules symbols x
  unfolding word_for
  active_word rules symbols w e q = rw (eq-eqb x.kind 0 e) q

  pub passive_word : (rules symbols w : ℕ) → (x.kind ≡ 0 → ⊥) → w ≡ symbol_word t symbols x.of → w ≡ word_for t rules symbols x
  unfolding word_for
  passive_word rules symbols w n q = rw (ne_eqb x.kind 0 n) q

  pub uses_active : x.kind ≡ 0 → 0 ≡ uses_of t x
  unfolding uses_of
  uses_active e = rw (eq-eqb x.kind 0 e)

  pub uses_passive : (u : ℕ) → (x.kind ≡ 0 → ⊥) → u ≡ symbol_word t uses_from x.of → u ≡ uses_of t x
  unfolding uses_of uses_in
  uses_passive u n q = rw (ne_eqb x.kind 0 n) q

-- ---- one key
pub image_no : (w : ℕ) (f : List ℕ) → 8 ≤ node_of w → 64 ≡ image_of w f
image_no w f h = sym (image_none w f h)

-- one of eight places is there
place_read : (f : List ℕ) → length f ≡ 8 → (k : ℕ) → k < 8 → get_or f k 0 ≡ at f k
place_read f size k h = get_d_any f k 0 64 (omega arith)

pub image_read : (w : ℕ) (f : List ℕ) → node_of w < 8 → length f ≡ 8 → get_or f (node_of w) 0 ≡ image_of w f
image_read w f h size = place_read f size (node_of w) h ∙ sym (image_there w f h)

module _ (used tag s i a : ℕ) where
  pub place_unused : used ≡ 0 → 0 ≡ place_key used tag s i a
  unfolding place_key
  place_unused e = rw (eq-eqb used 0 e)

  pub place_key_is : (b x : ℕ) → (used ≡ 0 → ⊥) → b ≡ base_of tag s i → x ≡ mixed b a → x ≡ place_key used tag s i a
  unfolding place_key bucket_of
  place_key_is b x n e q = rw (ne_eqb used 0 n) (q ∙ ap (λ b. mixed b a) e)

-- ---- the keys of an item, by its word and its uses
-- the last digit is a member's bit
bit_first : (u : ℕ) → u % 2 ≡ bit u 0
unfolding bit
bit_first u = omega arith

module _ (s : ℕ) (L : List ℕ) (w u tag : ℕ) where
  abbrev keys : List ℕ
  keys = keys_by w u tag s L

  abbrev placed : ℕ → ℕ → ℕ → ℕ
  placed d i a = place_key (d % 2) tag s i a

  pub by_word : (a k : ℕ) → (w ≡ 0 → ⊥) → a ≡ image_of w L → k ≡ mixed (w / 16) a → (k ∷ 0 ∷ 0 ∷ 0 ∷ 0 ∷ []) ≡ keys
  unfolding keys_by
  by_word a k n e q = rw (ne_eqb w 0 n) (ap (λ k. k ∷ 0 ∷ 0 ∷ 0 ∷ 0 ∷ []) (q ∙ ap (mixed (w / 16)) e))

  module _ (none : w ≡ 0) where
    pub by_none : u ≡ 0 → (0 ∷ 0 ∷ 0 ∷ 0 ∷ 0 ∷ []) ≡ keys
    unfolding keys_by five_keys place_key bit
    by_none e = sym (ap₂ (λ w u. keys_by w u tag s L) none e)

    module _ (size : length L ≡ 8) where
      -- a place as it is read
      abbrev node : ℕ → ℕ
      node k = get_or L k 0

      pub by_five : (a b c d e : ℕ) → a ≡ placed u 0 (node 0) → b ≡ placed (u / 2) 1 (node 1) → c ≡ placed (u / 4) 2 (node 2)
          → d ≡ placed (u / 8) 3 (node 3) → e ≡ placed (u / 16) 4 64 → (a ∷ b ∷ c ∷ d ∷ e ∷ []) ≡ keys
      unfolding keys_by five_keys bit
      by_five a b c d e h i j k l =
          let first : a ≡ place_key (bit u 0) tag s 0 (node 0) = h ∙ ap (λ n. place_key n tag s 0 (node 0)) (bit_first u) in
          let n0 = place_read L size 0 (omega arith) in
          let n1 = place_read L size 1 (omega arith) in
          let n2 = place_read L size 2 (omega arith) in
          let n3 = place_read L size 3 (omega arith) in
          let all : (a ∷ b ∷ c ∷ d ∷ e ∷ []) ≡ five_keys u tag s L = cc in
          rw (eq-eqb w 0 none) all

-- by an item's own
pub keys_from_lem : (t : List ℕ) (x : ChartItem) (rules symbols tag w u : ℕ) → u ≡ uses_of t x → (ks : List ℕ) → w ≡ word_for t rules symbols x → ks ≡ keys_by w u tag x.of x.nodes
    → ks ≡ keys_from t rules symbols tag x
keys_from_lem t x rules symbols tag w u uses ks e q = q ∙ ap₂ (λ w u. keys_by w u tag x.of x.nodes) e uses

-- a key that is the only one, whatever the tag is
pub only_at : (t : List ℕ) (rules symbols tag : ℕ) (x : ChartItem) (o : Option ℕ)
    → IfSome o (λ key. (tag : ℕ) → (key ∷ 0 ∷ 0 ∷ 0 ∷ 0 ∷ []) ≡ keys_from t rules symbols tag x) → IfSome o (λ key. (key ∷ 0 ∷ 0 ∷ 0 ∷ 0 ∷ []) ≡ keys_from t rules symbols tag x)
only_at t rules symbols tag x None is = is
only_at t rules symbols tag x (Some key) is = is tag
