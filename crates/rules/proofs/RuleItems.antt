-- What a rule makes, over any grammar and graph: nothing but at one plan node.
use mathlib.Core.Path.{◌≡◌, refl, sym, ap, ap₂, ◌∙◌}
use mathlib.Core.Bool.{Bool, true, false, ◌&&◌, cond}
use mathlib.Core.List.{List, [], ◌∷◌, ◌++◌, map, append-nil}
use Prim.Native.Nat.{ℕ, zero, suc, ◌<◌}
use native.Mathlib.Omega.{arith}
use native.Mathlib.Decide.{dec_lt}
use lib.ListN.{length, take}
use lib.Dec.{eqb}
use borrow.Author.Tests.{ne_eqb, eqb-true}
use Rattle.masks.specs.Masks.{disjoint, single}
use Rattle.hrg.specs.Counts.{hit, occurs}
use Rattle.hrg.specs.Grammars.{Kind, terminal, Graph, PlanNode, leaf, introduce, join, Rule, Grammar, kind_of, rank_of, rule_of, right_of, plan_of, plan_node, edge_at}
use Rattle.hrg.specs.Items.{Item, active, passive, attach}
use Rattle.hrg.specs.WellFormed.{children}
use Rattle.hrg.specs.ClosureRun.{guard, each_to, combine, is_terminal, with_edge, nonterminal_at, join_at, binary_of}
use Rattle.hrg.proofs.Sums.{hit_self}
use Rattle.agenda.specs.Records.{record_of, item_of}
use Rattle.agenda.specs.Consequences.{terminal_at, with_terminal}
use Rattle.agenda.specs.declared.ChartItem.{ChartItem}
use Rattle.rules.specs.Rules.{terminal_items, binary_at}

-- ---- lists by tests
pub guard_none : {A : Type 0} (b : Bool) → guard {A = A} b [] ≡ []
guard_none true = refl
guard_none false = refl

pub each_none : {A : Type 0} (n : ℕ) (F : ℕ → List A) → ((q : ℕ) → q < n → F q ≡ []) → each_to n F ≡ []
each_none zero F h = refl
each_none (suc n) F h = ap₂ ◌++◌ (h n (omega arith)) (each_none n F (λ q l. h q (omega arith)))

-- what is made at one number alone
pub each_only : {A : Type 0} (n q : ℕ) (F : ℕ → List A) → q < n → ((q' : ℕ) → q' < n → (q' ≡ q → ⊥) → F q' ≡ []) → each_to n F ≡ F q
each_only zero q F l h = absurd (omega arith)
each_only {A} (suc n) q F l h = go (dec_lt q n) (λ d. each_only n q F d (λ q' k e. h q' (omega arith) e))
  where
    go : Dec (q < n) → (q < n → each_to n F ≡ F q) → F n ++ each_to n F ≡ F q
    go (yes d) rest = ap₂ ◌++◌ (h n (omega arith) (λ e. omega arith)) (rest d)
    go (no d) rest =
        let e : n ≡ q = omega arith in
        ap₂ ◌++◌ (ap F e) (each_none n F (λ q' k. h q' (omega arith) (λ s. omega arith))) ∙ append-nil (F q)

each_same : {A : Type 0} (n : ℕ) (F K : ℕ → List A) → ((q : ℕ) → q < n → F q ≡ K q) → each_to n F ≡ each_to n K
each_same zero F K h = refl
each_same (suc n) F K h = ap₂ ◌++◌ (h n (omega arith)) (each_same n F K (λ q l. h q (omega arith)))

-- ---- a plan node that has no child p makes nothing of an item at p
not_first : (p c : ℕ) (l : List ℕ) → occurs p (c ∷ l) ≡ 0 → eqb c p ≡ false
unfolding occurs
not_first p c l h = ne_eqb c p (λ e. omega (arith, hit_self p, ap (λ y. hit p y) e))

terminal_none : (G : Grammar) (H : Graph) (r p m : ℕ) (f : List ℕ) (e q : ℕ) (n : PlanNode) → occurs p (children n) ≡ 0 → terminal_at G H r p m f e q n ≡ []
unfolding terminal_at
terminal_none G H r p m f e q leaf h = refl
terminal_none G H r p m f e q (introduce c i) h = rw (not_first p c [] h)
terminal_none G H r p m f e q (join a b) h = refl

nonterminal_none : (H : Graph) (R : Rule) (r p m : ℕ) (f : List ℕ) (s m' : ℕ) (L : List ℕ) (q : ℕ) (n : PlanNode) → occurs p (children n) ≡ 0 → nonterminal_at H R r p m f s m' L q n ≡ []
unfolding nonterminal_at
nonterminal_none H R r p m f s m' L q leaf h = refl
nonterminal_none H R r p m f s m' L q (introduce c i) h = rw (not_first p c [] h)
nonterminal_none H R r p m f s m' L q (join a b) h = refl

join_none : (H : Graph) (R : Rule) (r p m : ℕ) (f : List ℕ) (p' m' : ℕ) (k : List ℕ) (q : ℕ) (n : PlanNode) → occurs p (children n) ≡ 0 → join_at H R r p m f p' m' k q n ≡ []
unfolding join_at
join_none H R r p m f p' m' k q leaf h = refl
join_none H R r p m f p' m' k q (introduce c i) h = refl
join_none H R r p m f p' m' k q (join a b) h = rw (not_first p a (b ∷ []) h)

module _ (G : Grammar) (H : Graph) (r p m : ℕ) (f : List ℕ) where
  abbrev pl : List PlanNode
  pl = plan_of G r

  module _ (none : (q : ℕ) → q < length pl → occurs p (children (plan_node pl q)) ≡ 0) where
    pub binary_nowhere : (b : Item) → binary_of G H (active r p m f) b ≡ []
    unfolding binary_of
    binary_nowhere (passive s m' L) = each_none (length pl) _ (λ q l. nonterminal_none H (rule_of G r) r p m f s m' L q (plan_node pl q) (none q l))
    binary_nowhere (active r' p' m' k) =
        ap (guard (eqb r r')) (each_none (length pl) _ (λ q l. join_none H (rule_of G r) r p m f p' m' k q (plan_node pl q) (none q l))) ∙ guard_none (eqb r r')

  module _ (q : ℕ) (known : q < length pl) (only : (q' : ℕ) → q' < length pl → (q' ≡ q → ⊥) → occurs p (children (plan_node pl q')) ≡ 0) where
    pub binary_place : (b : Item) → binary_of G H (active r p m f) b ≡ binary_at G H (active r p m f) b q
    unfolding binary_of binary_at
    binary_place (passive s m' L) =
        each_only (length pl) q (λ q. nonterminal_at H (rule_of G r) r p m f s m' L q (plan_node pl q)) known
        (λ q' l n. nonterminal_none H (rule_of G r) r p m f s m' L q' (plan_node pl q') (only q' l n))
    binary_place (active r' p' m' k) =
        ap (guard (eqb r r'))
        (each_only (length pl) q (λ q. join_at H (rule_of G r) r p m f p' m' k q (plan_node pl q)) known
        (λ q' l n. join_none H (rule_of G r) r p m f p' m' k q' (plan_node pl q') (only q' l n)))

    pub terminal_place : (e : ℕ) → terminal_items G H (active r p m f) e ≡ terminal_at G H r p m f e q (plan_node pl q)
    unfolding terminal_items
    terminal_place e =
        each_only (length pl) q (λ q. terminal_at G H r p m f e q (plan_node pl q)) known (λ q' l n. terminal_none G H r p m f e q' (plan_node pl q') (only q' l n))

-- ---- a plan node whose first child is not p makes nothing of a first item at p
abbrev pub first_is : PlanNode → ℕ → Bool
first_is leaf p = false
first_is (introduce c i) p = eqb c p
first_is (join a b) p = eqb a p

nonterminal_first : (H : Graph) (R : Rule) (r p m : ℕ) (f : List ℕ) (s m' : ℕ) (L : List ℕ) (q : ℕ) (n : PlanNode) → first_is n p ≡ false → nonterminal_at H R r p m f s m' L q n ≡ []
unfolding nonterminal_at
nonterminal_first H R r p m f s m' L q leaf h = refl
nonterminal_first H R r p m f s m' L q (introduce c i) h = rw h
nonterminal_first H R r p m f s m' L q (join a b) h = refl

join_first : (H : Graph) (R : Rule) (r p m : ℕ) (f : List ℕ) (p' m' : ℕ) (k : List ℕ) (q : ℕ) (n : PlanNode) → first_is n p ≡ false → join_at H R r p m f p' m' k q n ≡ []
unfolding join_at
join_first H R r p m f p' m' k q leaf h = refl
join_first H R r p m f p' m' k q (introduce c i) h = refl
join_first H R r p m f p' m' k q (join a b) h = rw h

pub first_none : (G : Grammar) (H : Graph) (r p m : ℕ) (f : List ℕ) (b : Item) (q : ℕ) → first_is (plan_node (plan_of G r) q) p ≡ false → binary_at G H (active r p m f) b q ≡ []
unfolding binary_at
first_none G H r p m f (passive s m' L) q h = nonterminal_first H (rule_of G r) r p m f s m' L q (plan_node (plan_of G r) q) h
first_none G H r p m f (active r' p' m' k) q h =
    ap (guard (eqb r r')) (join_first H (rule_of G r) r p m f p' m' k q (plan_node (plan_of G r) q) h) ∙ guard_none (eqb r r')

-- ---- items in eight places
pub item_active : (G : Grammar) (x : ChartItem) → eqb x.kind 0 ≡ true → item_of G x ≡ active x.of x.plan x.edges (take (right_of G x.of).nodes x.nodes)
unfolding item_of
item_active G x e = rw e

pub item_passive : (G : Grammar) (x : ChartItem) → eqb x.kind 0 ≡ false → item_of G x ≡ passive x.of x.edges (take (rank_of G x.of) x.nodes)
unfolding item_of
item_passive G x e = rw e

-- the terminal rule on records is that on items
pub with_terminal_lem : (G : Grammar) (H : Graph) (i : Item) (n j e : ℕ) → with_terminal G H i n j e ≡ map (λ (i : Item). record_of i n j e) (terminal_items G H i e)
unfolding with_terminal terminal_items
with_terminal_lem G H (active r p m f) n j e = refl
with_terminal_lem G H (passive s m L) n j e = refl

-- ---- what makes nothing
apart_none : (H : Graph) (R : Rule) (r q m₁ m₂ : ℕ) (f k : List ℕ) → disjoint m₁ m₂ ≡ false → combine H R r q m₁ m₂ f k ≡ []
unfolding combine
apart_none H R r q m₁ m₂ f k h = rw h

nonterminal_apart : (H : Graph) (R : Rule) (r p m : ℕ) (f : List ℕ) (s m' : ℕ) (L : List ℕ) (q : ℕ) (n : PlanNode) → disjoint m m' ≡ false → nonterminal_at H R r p m f s m' L q n ≡ []
unfolding nonterminal_at
nonterminal_apart H R r p m f s m' L q leaf h = refl
nonterminal_apart H R r p m f s m' L q (introduce c i) h =
    ap (guard (eqb c p && eqb s (edge_at R.production.right.edges i).label))
    (apart_none H R r q m m' f (attach R.production.right.nodes (edge_at R.production.right.edges i).attachment L) h)
    ∙ guard_none (eqb c p && eqb s (edge_at R.production.right.edges i).label)
nonterminal_apart H R r p m f s m' L q (join a b) h = refl

join_apart : (H : Graph) (R : Rule) (r p m : ℕ) (f : List ℕ) (p' m' : ℕ) (k : List ℕ) (q : ℕ) (n : PlanNode) → disjoint m m' ≡ false → join_at H R r p m f p' m' k q n ≡ []
unfolding join_at
join_apart H R r p m f p' m' k q leaf h = refl
join_apart H R r p m f p' m' k q (introduce c i) h = refl
join_apart H R r p m f p' m' k q (join a b) h = ap (guard (eqb a p && eqb b p')) (apart_none H R r q m m' f k h) ∙ guard_none (eqb a p && eqb b p')

binary_passive : (G : Grammar) (H : Graph) (s m : ℕ) (L : List ℕ) (b : Item) → binary_of G H (passive s m L) b ≡ []
unfolding binary_of
binary_passive G H s m L b = refl

-- the edge set of an item
abbrev pub edges_of : Item → ℕ
edges_of (active r p m f) = m
edges_of (passive s m L) = m

pub binary_apart : (G : Grammar) (H : Graph) (a b : Item) → disjoint (edges_of a) (edges_of b) ≡ false → binary_of G H a b ≡ []
unfolding binary_of
binary_apart G H (passive s m L) b h = refl
binary_apart G H (active r p m f) (passive s m' L) h =
    each_none (length (plan_of G r)) _ (λ q l. nonterminal_apart H (rule_of G r) r p m f s m' L q (plan_node (plan_of G r) q) h)
binary_apart G H (active r p m f) (active r' p' m' k) h =
    ap (guard (eqb r r')) (each_none (length (plan_of G r)) _ (λ q l. join_apart H (rule_of G r) r p m f p' m' k q (plan_node (plan_of G r) q) h)) ∙ guard_none (eqb r r')

pub item_edges : (G : Grammar) (x : ChartItem) → edges_of (item_of G x) ≡ x.edges
unfolding item_of
item_edges G x = go (eqb x.kind 0)
  where
    go : (b : Bool) → edges_of (cond b (active x.of x.plan x.edges (take (right_of G x.of).nodes x.nodes)) (passive x.of x.edges (take (rank_of G x.of) x.nodes))) ≡ x.edges
    go true = refl
    go false = refl

module _ (G : Grammar) (H : Graph) (x y : ChartItem) where
  pub pair_apart : disjoint x.edges y.edges ≡ false → binary_of G H (item_of G x) (item_of G y) ≡ []
  pair_apart h = binary_apart G H (item_of G x) (item_of G y) (ap₂ disjoint (item_edges G x) (item_edges G y) ∙ h)

  pub pair_passive : eqb x.kind 0 ≡ false → binary_of G H (item_of G x) (item_of G y) ≡ []
  pair_passive a = ap (λ (i : Item). binary_of G H i (item_of G y)) (item_passive G x a) ∙ binary_passive G H _ _ _ (item_of G y)

-- ---- a graph edge is as good as a passive item of its own symbol, set and nodes
module _ (G : Grammar) (H : Graph) (e : ℕ) (kind : kind_of G (edge_at H.edges e).label ≡ terminal) where
  abbrev label : ℕ
  label = (edge_at H.edges e).label

  two_tests : {A : Type 0} (b : Bool) (s : ℕ) (l : List A) → guard (b && is_terminal (kind_of G s)) (guard (eqb label s) l) ≡ guard (b && eqb label s) l
  two_tests false s l = refl
  two_tests true s l = go (eqb label s) refl
    where
      go : (t : Bool) → eqb label s ≡ t → guard (is_terminal (kind_of G s)) (guard t l) ≡ guard t l
      go true h = ap (λ (k : Kind). guard (is_terminal k) l) (ap (λ z. kind_of G z) (sym (eqb-true label s h)) ∙ kind)
      go false h = guard_none (is_terminal (kind_of G s))

  edge_at_is : (r p m : ℕ) (f : List ℕ) (q : ℕ) (n : PlanNode) → terminal_at G H r p m f e q n ≡ nonterminal_at H (rule_of G r) r p m f label (single e) (edge_at H.edges e).attachment q n
  unfolding terminal_at with_edge nonterminal_at
  edge_at_is r p m f q leaf = refl
  edge_at_is r p m f q (introduce c i) = two_tests (eqb c p) (edge_at (right_of G r).edges i).label _
  edge_at_is r p m f q (join a b) = refl

  pub edge_pair : (a : Item) → terminal_items G H a e ≡ binary_of G H a (passive label (single e) (edge_at H.edges e).attachment)
  unfolding terminal_items binary_of
  edge_pair (active r p m f) = each_same (length (plan_of G r)) _ _ (λ q l. edge_at_is r p m f q (plan_node (plan_of G r) q))
  edge_pair (passive s m L) = refl
