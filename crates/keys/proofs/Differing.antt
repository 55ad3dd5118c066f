-- Maps that differ at a node make nothing, and neither do two items all of whose joins make nothing.
use mathlib.Core.Path.{◌≡◌, refl, sym, ap, ◌∙◌}
use mathlib.Core.Bool.{Bool, true, false, ◌&&◌}
use mathlib.Core.List.{List, [], ◌∷◌}
use Prim.Native.Nat.{ℕ, zero, suc, ◌≤◌, ◌<◌}
use native.Mathlib.Omega.{arith}
use lib.ListN.{length}
use lib.Dec.{eqb}
use borrow.Author.Tests.{eq-eqb, ne_eqb, eqb-true, lt-leb}
use Rattle.masks.specs.Masks.{disjoint}
use Rattle.hrg.specs.Counts.{occurs}
use Rattle.hrg.specs.Grammars.{Graph, PlanNode, leaf, introduce, join, Rule, Grammar, rule_of, right_of, plan_of, plan_node, edge_at}
use Rattle.hrg.specs.Trees.{at}
use Rattle.hrg.specs.Items.{active, passive, node_for, attach}
use Rattle.hrg.specs.ClosureRun.{guard, agree, combine, nonterminal_at, join_at, binary_of}
use Rattle.hrg.proofs.Sums.{hit_self, occurs_at, at_tabulate}
use Rattle.hrg.proofs.WellFormedTest.{every_false}
use Rattle.rules.proofs.RuleItems.{guard_none, each_none}
use Rattle.rules.proofs.Meeting.{rule_or_none}

-- ---- maps
agree_false : (n : ℕ) (f k : List ℕ) (v : ℕ) → v < n → at f v < 64 → at k v < 64 → (at f v ≡ at k v → ⊥) → agree n f k ≡ false
unfolding agree
agree_false n f k v l a b d = sym (every_false n _ v l (rw (lt-leb 64 (at f v) a, lt-leb 64 (at k v) b, ne_eqb (at f v) (at k v) d)))

pub differ_none : (H : Graph) (R : Rule) (r q m₁ m₂ : ℕ) (f k : List ℕ) (v : ℕ) → v < R.production.right.nodes → at f v < 64 → at k v < 64 → (at f v ≡ at k v → ⊥)
    → combine H R r q m₁ m₂ f k ≡ []
unfolding combine
differ_none H R r q m₁ m₂ f k v l a b d = rw (agree_false R.production.right.nodes f k v l a b d) (guard_none (disjoint m₁ m₂))

-- the node of L that stands for the k-th node of an edge, whose nodes are distinct
node_at : (A L : List ℕ) (k : ℕ) → k < length A → ((x : ℕ) → occurs x A ≤ 1) → node_for (at A k) A L ≡ at L k
unfolding node_for occurs
node_at [] L k l once = absurd (omega arith)
node_at (a ∷ A) [] k l once = refl
node_at (a ∷ A) (b ∷ L) zero l once = rw (eq-eqb a a refl)
node_at (a ∷ A) (b ∷ L) (suc k) l once =
    rw (ne_eqb (at A k) a (λ e. omega (arith, once a, hit_self a, ap (λ x. occurs x A) e, occurs_at A k (omega arith))))
    (node_at A L k (omega arith) (λ x. omega (arith, once x)))

pub attach_at : (n : ℕ) (A L : List ℕ) (k : ℕ) → k < length A → at A k < n → ((x : ℕ) → occurs x A ≤ 1) → at (attach n A L) (at A k) ≡ at L k
unfolding attach
attach_at n A L k l h once = at_tabulate n (λ x. node_for x A L) (at A k) h ∙ node_at A L k l once

-- ---- items
passed_or_none : {A : Type 0} (s t : Bool) (l : List A) → (s ≡ true → t ≡ true → l ≡ []) → guard (s && t) l ≡ []
passed_or_none true true l h = h refl refl
passed_or_none true false l h = refl
passed_or_none false t l h = refl

module _ (G : Grammar) (H : Graph) (r p m : ℕ) (f : List ℕ) where
  pub edges_none : (s m' : ℕ) (L : List ℕ)
      → ((q c i : ℕ) → q < length (plan_of G r) → plan_node (plan_of G r) q ≡ introduce c i → c ≡ p → s ≡ (edge_at (right_of G r).edges i).label
      → combine H (rule_of G r) r q m m' f (attach (right_of G r).nodes (edge_at (right_of G r).edges i).attachment L) ≡ [])
      → binary_of G H (active r p m f) (passive s m' L) ≡ []
  unfolding binary_of nonterminal_at
  edges_none s m' L none = each_none (length (plan_of G r)) _ (λ q l. node q l (plan_node (plan_of G r) q) refl)
    where
      node : (q : ℕ) → q < length (plan_of G r) → (n : PlanNode) → plan_node (plan_of G r) q ≡ n → nonterminal_at H (rule_of G r) r p m f s m' L q n ≡ []
      node q l leaf e = refl
      node q l (introduce c i) e = passed_or_none (eqb c p) (eqb s (edge_at (right_of G r).edges i).label) _ (λ x y. none q c i l e (eqb-true c p x) (eqb-true s (edge_at (right_of G r).edges i).label y))
      node q l (join a b) e = refl

  pub joins_none : (r' p' m' : ℕ) (k : List ℕ)
      → ((q a b : ℕ) → q < length (plan_of G r) → plan_node (plan_of G r) q ≡ join a b → a ≡ p → b ≡ p' → r ≡ r' → combine H (rule_of G r) r q m m' f k ≡ [])
      → binary_of G H (active r p m f) (active r' p' m' k) ≡ []
  unfolding binary_of join_at
  joins_none r' p' m' k none = rule_or_none (eqb r r') _ (λ t. each_none (length (plan_of G r)) _ (λ q l. node (eqb-true r r' t) q l (plan_node (plan_of G r) q) refl))
    where
      node : r ≡ r' → (q : ℕ) → q < length (plan_of G r) → (n : PlanNode) → plan_node (plan_of G r) q ≡ n → join_at H (rule_of G r) r p m f p' m' k q n ≡ []
      node t q l leaf e = refl
      node t q l (introduce c i) e = refl
      node t q l (join a b) e = passed_or_none (eqb a p) (eqb b p') _ (λ x y. none q a b l e (eqb-true a p x) (eqb-true b p' y) t)
