-- The listing of the records under a passive record ends exactly where partners spell a tree that is small enough,
-- and then has a record for each application.
use mathlib.Core.Path.{◌≡◌, refl, sym, ap, ◌∙◌, subst}
use mathlib.Core.List.{List, [], ◌∷◌, ◌++◌, append_assoc, append-nil}
use Prim.Native.Nat.{ℕ, zero, suc, ◌+◌, ◌-◌, ◌≤◌, ◌<◌}
use native.Mathlib.Nat.{add_assoc, suc-add}
use native.Mathlib.Omega.{arith}
use lib.ListN.{length, get_or, length-append}
use Rattle.hrg.specs.Grammars.{Kind, terminal, nonterminal, Edge, Graph, Grammar, kind_of, right_of}
use Rattle.hrg.specs.Trees.{Tree, Parts, apply, end, edge, tree}
use Rattle.preorder.specs.Rows.{size, size_in}
use Rattle.agenda.specs.declared.Record.{Record}
use Rattle.extraction.specs.Extraction.{rule_at, partners_at, place_at, Spelt, nothing, spelt, SpeltParts, nothing_in, spelt_in, with_tree, with_part, parts_by, applied, tree_at}
use Rattle.extraction.specs.Listing.{cons_if, children_from, children_at, Listing, endless, listed, listed_with, listing}

-- ---- listings
abbrev pub before : List ℕ → Listing → Listing
before is endless = endless
before is (listed js) = listed (is ++ js)

before_cons : (j : ℕ) (is : List ℕ) (l : Listing) → listed_with j (before is l) ≡ before (j ∷ is) l
before_cons j is endless = refl
before_cons j is (listed js) = refl

before_before : (is js : List ℕ) (l : Listing) → before is (before js l) ≡ before (is ++ js) l
before_before is js endless = refl
before_before is js (listed ks) = ap listed (sym (append_assoc is js ks))

before_none : (l : Listing) → before [] l ≡ l
before_none endless = refl
before_none (listed js) = refl

never_listed : {js : List ℕ} → endless ≡ listed js → ⊥
never_listed e = let z : ◌≡◌ {A = ℕ} 0 1 = cc in omega (arith, z)

-- the list that a listing with one record more in front has
pub record Tail (j : ℕ) (l : Listing) (xs : List ℕ) : Type 0 where
  pub rest : List ℕ
  pub whole : xs ≡ j ∷ rest
  pub ends : l ≡ listed rest

tail_of_lem : (j : ℕ) (l : Listing) (xs : List ℕ) → listed_with j l ≡ listed xs → Tail j l xs
tail_of_lem j endless xs e = absurd (never_listed e)
tail_of_lem j (listed js) xs e = record { rest = js; whole = (cc); ends = refl }

module _ (look : ℕ → Record) (G : Grammar) where
  -- a listing that ends has at most k records, and is the same with more
  pub listing_length : (k : ℕ) (js xs : List ℕ) → listing look G k js ≡ listed xs → length xs ≤ k
  unfolding listing
  listing_length zero [] xs e = let q : xs ≡ [] = (cc) in omega (arith, ap length q)
  listing_length zero (j ∷ js) xs e = absurd (never_listed e)
  listing_length (suc k) [] xs e = let q : xs ≡ [] = (cc) in omega (arith, ap length q)
  listing_length (suc k) (j ∷ js) xs e =
      let t = tail_of_lem j (listing look G k (children_at look G j ++ js)) xs e in
      omega (arith, ap length t.whole, listing_length k (children_at look G j ++ js) t.rest t.ends)

  pub listing_more : (k : ℕ) (js xs : List ℕ) → listing look G k js ≡ listed xs → listing look G (suc k) js ≡ listed xs
  unfolding listing
  listing_more zero [] xs e = e
  listing_more zero (j ∷ js) xs e = absurd (never_listed e)
  listing_more (suc k) [] xs e = e
  listing_more (suc k) (j ∷ js) xs e =
      let t = tail_of_lem j (listing look G k (children_at look G j ++ js)) xs e in
      ap (listed_with j) (listing_more k (children_at look G j ++ js) t.rest t.ends) ∙ ap listed (sym t.whole)

  pub listing_most : (m k : ℕ) (js xs : List ℕ) → listing look G k js ≡ listed xs → listing look G (m + k) js ≡ listed xs
  listing_most zero k js xs e = ap (λ (n : ℕ). listing look G n js) (omega arith) ∙ e
  listing_most (suc m) k js xs e =
      ap (λ (n : ℕ). listing look G n js) (omega arith) ∙ listing_more (m + k) js xs (listing_most m k js xs e)

  -- ---- the records under the record at j, of at most d levels, from the top
  unfoldable pub flat : (ℕ → List ℕ) → List ℕ → List ℕ
  flat f [] = []
  flat f (b ∷ bs) = f b ++ flat f bs

  unfoldable pub records_under : ℕ → ℕ → List ℕ
  unfolding flat
  records_under zero j = []
  records_under (suc d) j = j ∷ flat (λ b. records_under d b) (children_at look G j)

-- ---- how a tree is spelt
-- The parts of the edges es from edge i on are spelt as ps.
pub data PartsSpelt (rec : ℕ → Spelt) (G : Grammar) (bs : List ℕ) : List Edge → ℕ → Parts → Type 0 where
  no_edges : {i : ℕ} → PartsSpelt rec G bs [] i end
  an_edge : {e : Edge} {es : List Edge} {i : ℕ} {ps : Parts} → kind_of G e.label ≡ terminal → PartsSpelt rec G bs es (i + 1) ps
      → PartsSpelt rec G bs (e ∷ es) i (edge (get_or bs i 0) ps)
  a_tree : {e : Edge} {es : List Edge} {i : ℕ} {t : Tree} {ps : Parts} → kind_of G e.label ≡ nonterminal → rec (get_or bs i 0) ≡ spelt t → PartsSpelt rec G bs es (i + 1) ps
      → PartsSpelt rec G bs (e ∷ es) i (tree t ps)

never_in : {ps : Parts} → nothing_in ≡ spelt_in ps → ⊥
never_in e = let z : ◌≡◌ {A = ℕ} 0 1 = cc in omega (arith, z)

never_spelt : {t : Tree} → nothing ≡ spelt t → ⊥
never_spelt e = let z : ◌≡◌ {A = ℕ} 0 1 = cc in omega (arith, z)

module _ (rec : ℕ → Spelt) (G : Grammar) (bs : List ℕ) where
  with_part_is : (e : Edge) (es : List Edge) (i : ℕ) (ps : Parts) (kind : Kind) → kind_of G e.label ≡ kind → (s : Spelt) → rec (get_or bs i 0) ≡ s → (rest : SpeltParts)
      → ((qs : Parts) → rest ≡ spelt_in qs → PartsSpelt rec G bs es (i + 1) qs) → with_part kind rec (get_or bs i 0) rest ≡ spelt_in ps → PartsSpelt rec G bs (e ∷ es) i ps
  with_part_is e es i ps terminal k s r nothing_in ih q = absurd (never_in q)
  with_part_is e es i ps terminal k s r (spelt_in qs) ih q =
      let same : ps ≡ edge (get_or bs i 0) qs = (cc) in
      subst (λ (p : Parts). PartsSpelt rec G bs (e ∷ es) i p) (sym same) (an_edge k (ih qs refl))
  with_part_is e es i ps nonterminal k nothing r rest ih q = absurd (never_in (sym (ap (λ (s : Spelt). with_tree s rest) r) ∙ q))
  with_part_is e es i ps nonterminal k (spelt t) r nothing_in ih q = absurd (never_in (sym (ap (λ (s : Spelt). with_tree s nothing_in) r) ∙ q))
  with_part_is e es i ps nonterminal k (spelt t) r (spelt_in qs) ih q =
      let made : spelt_in (tree t qs) ≡ spelt_in ps = sym (ap (λ (s : Spelt). with_tree s (spelt_in qs)) r) ∙ q in
      let same : ps ≡ tree t qs = (cc) in
      subst (λ (p : Parts). PartsSpelt rec G bs (e ∷ es) i p) (sym same) (a_tree k r (ih qs refl))

  pub parts_spelt : (es : List Edge) (i : ℕ) (ps : Parts) → parts_by rec G bs es i ≡ spelt_in ps → PartsSpelt rec G bs es i ps
  unfolding parts_by
  parts_spelt [] i ps q = let same : ps ≡ end = (cc) in subst (λ (p : Parts). PartsSpelt rec G bs [] i p) (sym same) no_edges
  parts_spelt (e ∷ es) i ps q =
      with_part_is e es i ps (kind_of G e.label) refl (rec (get_or bs i 0)) refl (parts_by rec G bs es (i + 1)) (parts_spelt es (i + 1)) q

-- The tree of the passive record at j has its rule, its placement and parts that are spelt.
pub record Applied (look : ℕ → Record) (G : Grammar) (H : Graph) (d j : ℕ) (t : Tree) : Type 0 where
  pub parts : Parts
  pub whole : t ≡ apply (rule_at look j) (place_at look G H j) parts
  pub spelled : PartsSpelt (λ b. tree_at look G H d b) G (partners_at look G j) (right_of G (rule_at look j)).edges 0 parts

module _ (look : ℕ → Record) (G : Grammar) (H : Graph) where
  pub tree_applied : (d j : ℕ) (t : Tree) → tree_at look G H (suc d) j ≡ spelt t → Applied look G H d j t
  unfolding tree_at
  tree_applied d j t q =
      go (parts_by (λ b. tree_at look G H d b) G (partners_at look G j) (right_of G (rule_at look j)).edges 0) refl q
    where
      go : (ps : SpeltParts) → parts_by (λ b. tree_at look G H d b) G (partners_at look G j) (right_of G (rule_at look j)).edges 0 ≡ ps
          → applied (rule_at look j) (place_at look G H j) ps ≡ spelt t → Applied look G H d j t
      go nothing_in e q = absurd (never_spelt q)
      go (spelt_in ps) e q =
          record { parts = ps; whole = (cc); spelled = parts_spelt (λ b. tree_at look G H d b) G (partners_at look G j) (right_of G (rule_at look j)).edges 0 ps e }

  -- no level, no tree
  pub tree_none : (j : ℕ) (t : Tree) → tree_at look G H 0 j ≡ spelt t → ⊥
  unfolding tree_at
  tree_none j t q = never_spelt q

  -- ---- the listing of a tree
  abbrev Lists : ℕ → Type 0
  Lists d =
      (j : ℕ) (t : Tree) → tree_at look G H d j ≡ spelt t → (k : ℕ) (js : List ℕ)
      → listing look G (size t + k) (j ∷ js) ≡ before (records_under look G d j) (listing look G k js)

  module _ (d : ℕ) (ih : Lists d) (bs : List ℕ) where
    abbrev under : List Edge → ℕ → List ℕ
    under es i = flat look G (λ b. records_under look G d b) (children_from G bs es i)

    lists_parts : (es : List Edge) (i : ℕ) (ps : Parts) → PartsSpelt (λ b. tree_at look G H d b) G bs es i ps → (k : ℕ) (js : List ℕ)
        → listing look G (size_in ps + k) (children_from G bs es i ++ js) ≡ before (under es i) (listing look G k js)
    unfolding size children_from flat
    lists_parts [] i end no_edges k js = ap (λ (n : ℕ). listing look G n js) (omega arith) ∙ sym (before_none (listing look G k js))
    lists_parts [] i (edge g ps) s k js = elim s [ ]
    lists_parts [] i (tree t ps) s k js = elim s [ ]
    lists_parts (e ∷ es) i end s k js = elim s [ ]
    lists_parts (e ∷ es) i (edge g ps) (an_edge q s) k js = rw q (lists_parts es (i + 1) ps s k js)
    lists_parts (e ∷ es) i (tree t ps) (a_tree q r s) k js =
        rw q
        (ap (λ (n : ℕ). listing look G n (get_or bs i 0 ∷ (children_from G bs es (i + 1) ++ js))) (add_assoc (size t) (size_in ps) k)
        ∙ ih (get_or bs i 0) t r (size_in ps + k) (children_from G bs es (i + 1) ++ js)
        ∙ ap (before (records_under look G d (get_or bs i 0))) (lists_parts es (i + 1) ps s k js)
        ∙ before_before (records_under look G d (get_or bs i 0)) (under es (i + 1)) (listing look G k js))

  pub lists_tree : (d : ℕ) → Lists d
  unfolding records_under listing children_at size
  lists_tree zero j t q k js = absurd (tree_none j t q)
  lists_tree (suc d) j t q k js =
      let a = tree_applied d j t q in
      let es = (right_of G (rule_at look j)).edges in
      let bs = partners_at look G j in
      ap (λ (n : ℕ). listing look G n (j ∷ js)) (ap (λ (u : Tree). size u + k) a.whole ∙ suc-add (size_in a.parts) k)
      ∙ ap (listed_with j) (lists_parts d (lists_tree d) bs es 0 a.parts a.spelled k js)
      ∙ before_cons j (under d (lists_tree d) bs es 0) (listing look G k js)

-- ---- where no tree is spelt, the listing is endless
-- One of the records bs has no tree.
pub record NoTree (rec : ℕ → Spelt) (bs : List ℕ) : Type 0 where
  pub first : List ℕ
  pub at : ℕ
  pub rest : List ℕ
  pub split : bs ≡ first ++ at ∷ rest
  pub none : rec at ≡ nothing

no_tree_later : (rec : ℕ → Spelt) (b : ℕ) (bs : List ℕ) → NoTree rec bs → NoTree rec (b ∷ bs)
no_tree_later rec b bs n = record { first = b ∷ n.first; at = n.at; rest = n.rest; split = ap (λ (l : List ℕ). b ∷ l) n.split; none = n.none }

never_nothing : {ps : Parts} → spelt_in ps ≡ nothing_in → ⊥
never_nothing e = never_in (sym e)

module _ (rec : ℕ → Spelt) (G : Grammar) (bs : List ℕ) where
  part_none : (i : ℕ) (kind : Kind) (s : Spelt) → rec (get_or bs i 0) ≡ s → (rest : SpeltParts) (cs : List ℕ) → (rest ≡ nothing_in → NoTree rec cs)
      → with_part kind rec (get_or bs i 0) rest ≡ nothing_in → NoTree rec (cons_if kind (get_or bs i 0) cs)
  part_none i terminal s r nothing_in cs ih q = ih refl
  part_none i terminal s r (spelt_in ps) cs ih q = absurd (never_nothing q)
  part_none i nonterminal nothing r rest cs ih q = record { first = []; at = get_or bs i 0; rest = cs; split = refl; none = r }
  part_none i nonterminal (spelt t) r nothing_in cs ih q = no_tree_later rec (get_or bs i 0) cs (ih refl)
  part_none i nonterminal (spelt t) r (spelt_in ps) cs ih q = absurd (never_nothing (sym (ap (λ (s : Spelt). with_tree s (spelt_in ps)) r) ∙ q))

  parts_none : (es : List Edge) (i : ℕ) → parts_by rec G bs es i ≡ nothing_in → NoTree rec (children_from G bs es i)
  unfolding parts_by children_from
  parts_none [] i q = absurd (never_nothing q)
  parts_none (e ∷ es) i q =
      part_none i (kind_of G e.label) (rec (get_or bs i 0)) refl (parts_by rec G bs es (i + 1)) (children_from G bs es (i + 1)) (parts_none es (i + 1)) q

module _ (look : ℕ → Record) (G : Grammar) (H : Graph) where
  tree_none_below : (d j : ℕ) → tree_at look G H (suc d) j ≡ nothing → NoTree (λ b. tree_at look G H d b) (children_at look G j)
  unfolding tree_at children_at
  tree_none_below d j q =
      parts_none (λ b. tree_at look G H d b) G (partners_at look G j) (right_of G (rule_at look j)).edges 0
      (go (parts_by (λ b. tree_at look G H d b) G (partners_at look G j) (right_of G (rule_at look j)).edges 0) q)
    where
      go : (ps : SpeltParts) → applied (rule_at look j) (place_at look G H j) ps ≡ nothing → ps ≡ nothing_in
      go nothing_in q = refl
      go (spelt_in ps) q = absurd (never_spelt (sym q))

  endless_in : (k d : ℕ) → k ≤ d → (first : List ℕ) (j : ℕ) (js : List ℕ) → tree_at look G H d j ≡ nothing → listing look G k (first ++ j ∷ js) ≡ endless
  unfolding listing
  endless_in zero d l [] j js q = refl
  endless_in zero d l (i ∷ first) j js q = refl
  endless_in (suc k) zero l first j js q = absurd (omega arith)
  endless_in (suc k) (suc d) l [] j js q =
      let n = tree_none_below d j q in
      ap (listed_with j)
      (ap (λ (bs : List ℕ). listing look G k (bs ++ js)) n.split
      ∙ ap (listing look G k) (append_assoc n.first (n.at ∷ n.rest) js)
      ∙ endless_in k d (omega arith) n.first n.at (n.rest ++ js) n.none)
  endless_in (suc k) (suc d) l (i ∷ first) j js q =
      ap (listed_with i)
      (ap (listing look G k) (sym (append_assoc (children_at look G i) first (j ∷ js)))
      ∙ endless_in k (suc d) (omega arith) (children_at look G i ++ first) j js q)

  -- ---- the theorems
  -- partners in a circle, or more levels than the listing may have records
  pub listing_none : (k j : ℕ) → tree_at look G H k j ≡ nothing → listing look G k (j ∷ []) ≡ endless
  listing_none k j q = endless_in k k (omega arith) [] j [] q

  -- a record for each application
  module _ (d : ℕ) (ih : (j : ℕ) (t : Tree) → tree_at look G H d j ≡ spelt t → length (records_under look G d j) ≡ size t) (bs : List ℕ) where
    length_parts : (es : List Edge) (i : ℕ) (ps : Parts) → PartsSpelt (λ b. tree_at look G H d b) G bs es i ps
        → length (flat look G (λ b. records_under look G d b) (children_from G bs es i)) ≡ size_in ps
    unfolding size children_from flat
    length_parts [] i end no_edges = refl
    length_parts [] i (edge g ps) s = elim s [ ]
    length_parts [] i (tree t ps) s = elim s [ ]
    length_parts (e ∷ es) i end s = elim s [ ]
    length_parts (e ∷ es) i (edge g ps) (an_edge q s) = rw q (length_parts es (i + 1) ps s)
    length_parts (e ∷ es) i (tree t ps) (a_tree q r s) =
        let rest = flat look G (λ b. records_under look G d b) (children_from G bs es (i + 1)) in
        rw q (omega (arith, length-append (records_under look G d (get_or bs i 0)) rest, ih (get_or bs i 0) t r, length_parts es (i + 1) ps s))

  pub length_under : (d j : ℕ) (t : Tree) → tree_at look G H d j ≡ spelt t → length (records_under look G d j) ≡ size t
  unfolding records_under children_at size
  length_under zero j t q = absurd (tree_none look G H j t q)
  length_under (suc d) j t q =
      let a = tree_applied look G H d j t q in
      ap suc (length_parts d (length_under d) (partners_at look G j) (right_of G (rule_at look j)).edges 0 a.parts a.spelled) ∙ sym (ap size a.whole)

  pub listing_tree : (d j : ℕ) (t : Tree) → tree_at look G H d j ≡ spelt t → (k : ℕ) → size t ≤ k → listing look G k (j ∷ []) ≡ listed (records_under look G d j)
  unfolding listing
  listing_tree d j t q k l =
      let m = k - size t in
      let whole : k ≡ size t + m = omega (arith, l) in
      ap (λ (n : ℕ). listing look G n (j ∷ [])) whole ∙ lists_tree look G H d j t q m [] ∙ ap (before (records_under look G d j)) (nil m)
      ∙ ap listed (append-nil (records_under look G d j))
    where
      nil : (m : ℕ) → listing look G m [] ≡ listed []
      nil zero = refl
      nil (suc m) = refl

  -- more applications than the listing may have
  pub listing_large : (d j : ℕ) (t : Tree) → tree_at look G H d j ≡ spelt t → (k : ℕ) → k < size t → listing look G k (j ∷ []) ≡ endless
  listing_large d j t q k l = go (listing look G k (j ∷ [])) refl
    where
      go : (x : Listing) → listing look G k (j ∷ []) ≡ x → x ≡ endless
      go endless e = refl
      go (listed xs) e =
          let m = size t - k in
          let sum : size t ≡ m + k = omega (arith, l) in
          let more : listing look G (size t) (j ∷ []) ≡ listed xs = ap (λ (n : ℕ). listing look G n (j ∷ [])) sum ∙ listing_most look G m k (j ∷ []) xs e in
          let whole : listing look G (size t) (j ∷ []) ≡ listed (records_under look G d j) = listing_tree d j t q (size t) (omega arith) in
          let same : xs ≡ records_under look G d j = (cc) in
          absurd (omega (arith, l, listing_length look G k (j ∷ []) xs e, ap length same, length_under d j t q))
