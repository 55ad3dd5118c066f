-- Which rule nodes are open at a plan node: each of them lies on an edge that is introduced there or was open at a
-- child.
use mathlib.Core.Path.{◌≡◌, refl, ap, ◌∙◌}
use mathlib.Core.Logic.{◌⊎◌, inl, inr}
use mathlib.Core.Bool.{true, false}
use mathlib.Core.List.{List, [], ◌∷◌}
use Prim.Native.Nat.{ℕ, suc, ◌+◌, ◌<◌}
use native.Mathlib.Omega.{arith}
use lib.ListN.{length}
use Rattle.hrg.specs.Counts.{occurs}
use Rattle.hrg.specs.Grammars.{Graph, leaf, introduce, join, Rule, Grammar, plan_node, edge_at}
use Rattle.hrg.specs.Items.{below, is_open_at}
use Rattle.hrg.specs.WellFormed.{RuleOk}
use Rattle.hrg.proofs.Plans.{introduce_lower, join_lower, inside_introduce, inside_join, below_leaf, below_introduce, below_join, below_known, below_root}
use Rattle.hrg.proofs.Degrees.{places, degree_le, degree_pos, degree_zero, zero_or, by_test}
use Rattle.hrg.proofs.Sides.{tentacles, tentacles_append, tentacles_one, once, open_at_in, open_at_of, below_of}

module _ {G : Grammar} (R : Rule) (ok : RuleOk G R) where
  abbrev right : Graph
  right = R.production.right

  -- the tentacles at x of the edges below p
  abbrev under : ℕ → ℕ → ℕ
  under p x = tentacles right (below R.plan p) x

  -- an open rule node is a node of the rule
  pub open_inside : (p x : ℕ) → p < length R.plan → is_open_at R p x ≡ true → x < right.nodes
  open_inside p x l o =
      let b = below_of R ok p l x (open_at_in R ok p l x o).0 in
      (ok.right.edge b.edge (below_known (length right.edges) R.plan ok.plan p b.edge b.under)).listed.inside x b.on

  -- none is open at a leaf
  pub open_leaf : (p x : ℕ) → p < length R.plan → plan_node R.plan p ≡ leaf → is_open_at R p x ≡ false
  unfolding occurs
  open_leaf p x l e =
      by_test (is_open_at R p x)
      (λ o. absurd (omega (arith, (open_at_in R ok p l x o).0, ap (λ (is : List ℕ). tentacles right is x) (below_leaf (length right.edges) R.plan ok.plan p e), degree_zero (λ i. occurs i []) right.edges x (λ i. refl))))
      (λ o. o)

  -- one that is open where an edge is introduced was open at the child, or lies on that edge
  pub open_introduce : (p c i x : ℕ) → plan_node R.plan p ≡ introduce c i → is_open_at R p x ≡ true → (is_open_at R c x ≡ true) ⊎ (0 < occurs x (edge_at right.edges i).attachment)
  open_introduce p c i x e o =
      let l = inside_introduce (length right.edges) R.plan ok.plan p c i e in
      let d = introduce_lower (length right.edges) R.plan ok.plan p c i e in
      let t = open_at_in R ok p l x o in
      let sum : under p x ≡ under c x + tentacles right (i ∷ []) x
      = ap (λ (is : List ℕ). tentacles right is x) (below_introduce (length right.edges) R.plan ok.plan p c i e) ∙ tentacles_append right (below R.plan c) (i ∷ []) x in
      zero_or (under c x) (λ z. inr (omega (arith, tentacles_one right i x))) (λ h. inl (open_at_of R ok c (omega arith) x h (omega arith)))

  -- .. and one that is open where two are joined was open at one of them
  pub open_join : (p a b x : ℕ) → plan_node R.plan p ≡ join a b → is_open_at R p x ≡ true → (is_open_at R a x ≡ true) ⊎ (is_open_at R b x ≡ true)
  open_join p a b x e o =
      let l = inside_join (length right.edges) R.plan ok.plan p a b e in
      let d = join_lower (length right.edges) R.plan ok.plan p a b e in
      let t = open_at_in R ok p l x o in
      let sum : under p x ≡ under a x + under b x
      = ap (λ (is : List ℕ). tentacles right is x) (below_join (length right.edges) R.plan ok.plan p a b e) ∙ tentacles_append right (below R.plan a) (below R.plan b) x in
      zero_or (under a x) (λ z. inr (open_at_of R ok b (omega arith) x (omega arith) (omega arith))) (λ h. inl (open_at_of R ok a (omega arith) x h (omega arith)))

  -- every external node is open at the root
  pub open_root : (p x : ℕ) → suc p ≡ length R.plan → 0 < occurs x right.externals → is_open_at R p x ≡ true
  unfolding places
  open_root p x r h =
      let l : p < length R.plan = omega arith in
      let on = ok.right.covered x (ok.right.externals.inside x h) in
      let here = below_root (length right.edges) R.plan ok.plan p on.edge r on.known in
      open_at_of R ok p l x (degree_pos (λ i. occurs i (below R.plan p)) right.edges x on.edge (omega arith) on.on)
      (omega (arith, degree_le (λ i. occurs i (below R.plan p)) (λ i. 1) right.edges x (once R ok p l)))
