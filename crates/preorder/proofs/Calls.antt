-- A replay that does not fail with k calls left does the same with more.
use mathlib.Core.Path.{◌≡◌, refl, sym, ap, ◌∙◌}
use mathlib.Core.Bool.{Bool, true, false, ◌&&◌}
use mathlib.Core.List.{List, [], ◌∷◌, ◌++◌}
use Prim.Native.Nat.{ℕ, zero, suc, ◌+◌}
use lib.ListN.{length, get_or}
use lib.Dec.{ltb}
use Rattle.hrg.specs.Grammars.{Kind, terminal, nonterminal, Edge, Graph, Grammar, kind_of, right_of}
use Rattle.hrg.specs.Trees.{images}
use Rattle.preorder.specs.Replay.{State, reached, failed, check, by_kind, rule_in, place_in, fields_in, new_nodes, row_test, edge_test, part_test, replay_at, replay_edges}
use Rattle.preorder.proofs.Sound.{never, stays_failed}

-- a check passes the same way over what does not change
check_more : (b : Bool) (x y : State) (n : ℕ) (es vs : List ℕ) → (x ≡ reached n es vs → y ≡ reached n es vs) → check b x ≡ reached n es vs → check b y ≡ reached n es vs
check_more true x y n es vs f e = f e
check_more false x y n es vs f e = e

module _ (G : Grammar) (H : Graph) (rows : List (List ℕ)) where
  abbrev MoreAt : ℕ → Type 0
  MoreAt k =
      (s : ℕ) (L : List ℕ) (n : ℕ) (es vs : List ℕ) (n' : ℕ) (es' vs' : List ℕ) → replay_at k G H rows s L (reached n es vs) ≡ reached n' es' vs'
      → replay_at (suc k) G H rows s L (reached n es vs) ≡ reached n' es' vs'

  abbrev MoreEdges : ℕ → Type 0
  MoreEdges k =
      (place : List ℕ) (rs : List Edge) (fs : List ℕ) (n : ℕ) (es vs : List ℕ) (n' : ℕ) (es' vs' : List ℕ)
      → replay_edges k G H rows place rs fs (reached n es vs) ≡ reached n' es' vs' → replay_edges (suc k) G H rows place rs fs (reached n es vs) ≡ reached n' es' vs'

  more_at : (k : ℕ) → MoreEdges k → MoreAt (suc k)
  unfolding replay_at
  more_at k more s L n es vs n' es' vs' e =
      let row = get_or rows n [] in
      let P = right_of G (rule_in row) in
      check_more (ltb n (length rows) && row_test G H n s L vs row) _ _ n' es' vs'
      (more (place_in P row) P.edges (fields_in P row) (n + 1) es (vs ++ new_nodes P row) n' es' vs') e

  module _ (k : ℕ) (at : MoreAt k) (edges : MoreEdges k) (place : List ℕ) (e : Edge) (rs : List Edge) (f : ℕ) (fs : List ℕ) (n : ℕ) (es vs : List ℕ) (n' : ℕ) (es' vs' : List ℕ) where
    abbrev L : List ℕ
    L = images place e.attachment

    -- with so many calls left: over a graph edge, and over a tree
    abbrev used : ℕ → State
    used j = replay_edges j G H rows place rs fs (reached n (es ++ f ∷ []) vs)

    abbrev first : ℕ → State
    first j = replay_at j G H rows e.label L (reached n es vs)

    abbrev below : ℕ → State
    below j = replay_edges j G H rows place rs fs (first j)

    after_tree : (st : State) → first k ≡ st → replay_edges k G H rows place rs fs st ≡ reached n' es' vs' → below (suc k) ≡ reached n' es' vs'
    after_tree failed h q = absurd (never (sym (stays_failed G H rows k place rs fs) ∙ q))
    after_tree (reached n₁ es₁ vs₁) h q =
        ap (λ (st : State). replay_edges (suc k) G H rows place rs fs st) (at e.label L n es vs n₁ es₁ vs₁ h)
        ∙ edges place rs fs n₁ es₁ vs₁ n' es' vs' q

    by_kind_is : (kind : Kind) → by_kind kind (check (edge_test H e.label L es f) (used k)) (check (part_test n f) (below k)) ≡ reached n' es' vs'
        → by_kind kind (check (edge_test H e.label L es f) (used (suc k))) (check (part_test n f) (below (suc k))) ≡ reached n' es' vs'
    by_kind_is terminal q =
        check_more (edge_test H e.label L es f) (used k) (used (suc k)) n' es' vs' (edges place rs fs n (es ++ f ∷ []) vs n' es' vs') q
    by_kind_is nonterminal q = check_more (part_test n f) (below k) (below (suc k)) n' es' vs' (after_tree (first k) refl) q

  more_edges : (k : ℕ) → MoreAt k → MoreEdges k → MoreEdges (suc k)
  unfolding replay_edges
  more_edges k at edges place [] [] n es vs n' es' vs' q = q
  more_edges k at edges place [] (f ∷ fs) n es vs n' es' vs' q = absurd (never q)
  more_edges k at edges place (e ∷ rs) [] n es vs n' es' vs' q = absurd (never q)
  more_edges k at edges place (e ∷ rs) (f ∷ fs) n es vs n' es' vs' q = by_kind_is k at edges place e rs f fs n es vs n' es' vs' (kind_of G e.label) q

  pub more_calls : (k : ℕ) → MoreAt k × MoreEdges k
  unfolding replay_at
  more_calls zero = (λ s L n es vs n' es' vs' q. absurd (never q), λ place rs fs n es vs n' es' vs' q. absurd (never q))
  more_calls (suc k) = let h = more_calls k in (more_at k h.1, more_edges k h.0 h.1)
