-- T5: no true item has an empty edge set, but for active items with nothing below but leaves.
use mathlib.Core.Path.{◌≡◌, refl, ap}
use mathlib.Core.List.{List, [], ◌∷◌}
use Prim.Native.Nat.{ℕ, zero, suc, ◌<◌}
use native.Mathlib.Nat.{not-suc-le-zero}
use native.Mathlib.Omega.{arith}
use lib.ListN.{length, length-append, length-map}
use Rattle.masks.specs.Masks.{bit}
use Rattle.masks.proofs.Laws.{bit_empty}
use Rattle.hrg.specs.Grammars.{Graph, PlanNode, leaf, introduce, join, Grammar, rule_of, plan_of, plan_node, edge_at}
use Rattle.hrg.specs.Items.{below, active, passive}
use Rattle.hrg.specs.Truth.{edges_below, LeavesOnly, a_leaf, a_join, Truth}
use Rattle.hrg.specs.WellFormed.{GrammarOk, PlanOk}
use Rattle.hrg.proofs.Degrees.{zero_or}
use Rattle.hrg.proofs.Plans.{below_introduce, below_join, join_lower}
use Rattle.hrg.proofs.TreeNodes.{tree_edge, parts_edge}

filled : (m e : ℕ) → 0 < bit m e → 0 < m
filled zero e h = absurd (omega (arith, bit_empty e))
filled (suc m) e h = omega arith

-- nothing below: a leaf, or a join of such nodes
pub leaves_only : (edges : ℕ) (pl : List PlanNode) → PlanOk edges pl → (k p : ℕ) → p < k → length (below pl p) ≡ 0 → LeavesOnly pl p
leaves_only edges pl ok zero p l z = absurd (not-suc-le-zero l)
leaves_only edges pl ok (suc k) p l z = go (plan_node pl p) refl (λ q b. leaves_only edges pl ok k q (omega arith))
  where
    go : (s : PlanNode) → plan_node pl p ≡ s → ((q : ℕ) → q < p → length (below pl q) ≡ 0 → LeavesOnly pl q) → LeavesOnly pl p
    go leaf q ih = a_leaf p q
    go (introduce c i) q ih = absurd (omega (arith, ap length (below_introduce edges pl ok p c i q), length-append (below pl c) (i ∷ [])))
    go (join a b) q ih =
        let s = ap length (below_join edges pl ok p a b q) in
        let t = length-append (below pl a) (below pl b) in
        let low = join_lower edges pl ok p a b q in
        a_join p a b q (ih a low.0 (omega (arith, s, t))) (ih b low.1 (omega (arith, s, t)))

module _ (G : Grammar) (H : Graph) (ok : GrammarOk G) where
  pub passive_filled : (s m n : ℕ) (L : List ℕ) → Truth G H (passive s m L) n → 0 < m
  passive_filled s m n L t = let e = tree_edge G H ok t.tree s L t.fits in filled m e.edge (omega (arith, t.edges e.edge, e.used))

  pub active_filled : (r p m n : ℕ) (f : List ℕ) → Truth G H (active r p m f) n → (LeavesOnly (plan_of G r) p → ⊥) → 0 < m
  active_filled r p m n f t none =
      let R = rule_of G r in
      zero_or (length (below R.plan p))
      (λ z. absurd (none (leaves_only _ R.plan (ok.rule r t.0).plan (suc p) p (omega arith) z)))
      (λ z. let e = parts_edge G H ok t.2.parts t.2.place (edges_below R p) t.2.fits (omega (arith, length-map (below R.plan p) (λ (i : ℕ). edge_at R.production.right.edges i))) in
      filled m e.edge (omega (arith, t.2.edges e.edge, e.used)))
