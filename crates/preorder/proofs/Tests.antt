-- What the tests of the replay say.
use mathlib.Core.Path.{◌≡◌, refl, ap, subst}
use mathlib.Core.Bool.{Bool, true, false}
use mathlib.Core.List.{List, [], ◌∷◌, ◌++◌}
use Prim.Native.Nat.{ℕ, zero, suc, ◌+◌, ◌≤◌}
use native.Mathlib.Omega.{arith}
use lib.Dec.{T, eqb, eqb→eq}
use borrow.Author.Tests.{eq-eqb}
use Rattle.hrg.specs.Counts.{hit, occurs}
use Rattle.hrg.specs.Grammars.{Graph, Grammar, right_of}
use Rattle.hrg.specs.WellFormedTest.{Decides}
use Rattle.hrg.specs.ClosureRun.{same_list}
use Rattle.hrg.proofs.Sums.{hit_self, hit_eq, hit_le, occurs_append}
use Rattle.hrg.proofs.WellFormedTest.{decides_map, ◌and◌, decides_le, decides_eq, decides_each}
use Rattle.hrg.proofs.ClosureRun.{of_and, list_eq, list_same}
use Rattle.preorder.specs.Replay.{State, reached, check, fresh, Fresh, rule_in, place_in, row_test, RowOk, edge_test, EdgeFits}

-- ---- no number twice
abbrev pub Once : List ℕ → Type 0
Once l = (v : ℕ) → occurs v l ≤ 1

once_more : (w : ℕ) (used : List ℕ) → occurs w used ≡ 0 → Once used → Once (w ∷ used)
unfolding occurs
once_more w used e o v = go (hit v w) refl
  where
    go : (k : ℕ) → hit v w ≡ k → hit v w + occurs v used ≤ 1
    go zero q = omega (arith, o v)
    go (suc k) q = omega (arith, hit_le v w, ap (λ (x : ℕ). occurs x used) (hit_eq v w (omega arith)))

pub fresh_once : (used vs : List ℕ) → Fresh used vs → Once used → Once (used ++ vs)
unfolding fresh occurs
fresh_once used vs f o v = omega (arith, occurs_append v used vs, go used vs f.passes o)
  where
    go : (used vs : List ℕ) → T (fresh used vs) → Once used → occurs v used + occurs v vs ≤ 1
    go used [] t o = omega (arith, o v)
    go used (w ∷ vs) t o =
        let b = of_and (eqb (occurs w used) 0) _ t in
        omega (arith, go (w ∷ used) vs b.1 (once_more w used (eqb→eq _ _ b.0) o))

pub once_fresh : (used vs : List ℕ) → Once (used ++ vs) → Fresh used vs
unfolding fresh occurs
once_fresh used vs o = record { passes = go used vs (λ v. omega (arith, occurs_append v used vs, o v)) }
  where
    go : (used vs : List ℕ) → ((v : ℕ) → occurs v used + occurs v vs ≤ 1) → T (fresh used vs)
    go used [] o = tt
    go used (w ∷ vs) o =
        rw (eq-eqb (occurs w used) 0 (omega (arith, o w, hit_self w))) (go (w ∷ used) vs (λ v. omega (arith, o v)))

pub itself : (b : Bool) → Decides b (T b)
itself b = record { sound = λ t. t; complete = λ t. t }

decides_fresh : (used vs : List ℕ) → Decides (fresh used vs) (Fresh used vs)
decides_fresh used vs = record { sound = λ t. record { passes = t }; complete = λ f. f.passes }

pub decides_list : (xs ys : List ℕ) → Decides (same_list xs ys) (xs ≡ ys)
decides_list xs ys = record { sound = list_eq xs ys; complete = λ e. subst (λ (l : List ℕ). T (same_list xs l)) e (rw (list_same xs) tt) }

-- ---- the row of an application
pub decides_row : (G : Grammar) (H : Graph) (n s : ℕ) (L used row : List ℕ) → Decides (row_test G H n s L used row) (RowOk G H n s L used row)
unfolding row_test
decides_row G H n s L used row =
    let P = right_of G (rule_in row) in
    decides_map
    (
    decides_eq _ _
    and decides_le _ _
    and decides_eq _ _
    and decides_eq _ _
    and decides_each (place_in P row) (λ v. decides_le (suc v) H.nodes)
    and decides_list _ _
    and decides_fresh _ _
    )
    (λ t. record { number = t.0.0.0.0.0.0; known = t.0.0.0.0.0.1; lhs = t.0.0.0.0.1; sized = t.0.0.0.1; placed = t.0.0.1; externals = t.0.1; new = t.1 })
    (λ r. ((((((r.number, r.known), r.lhs), r.sized), r.placed), r.externals), r.new))

-- ---- a graph edge
pub decides_edge : (H : Graph) (s : ℕ) (L used : List ℕ) (g : ℕ) → Decides (edge_test H s L used g) (EdgeFits H s L used g)
unfolding edge_test
decides_edge H s L used g =
    decides_map
    (
    decides_le _ _
    and decides_eq _ _
    and decides_list _ _
    and decides_fresh _ _
    )
    (λ t. record { known = t.0.0.0; label = t.0.0.1; attachment = t.0.1; new = t.1 })
    (λ r. (((r.known, r.label), r.attachment), r.new))

-- ---- a check that did not fail
pub record Passed (b : Bool) (st : State) (n : ℕ) (es vs : List ℕ) : Type 0 where
  pub test : T b
  pub state : st ≡ reached n es vs

pub passed : (b : Bool) (st : State) (n : ℕ) (es vs : List ℕ) → check b st ≡ reached n es vs → Passed b st n es vs
passed true st n es vs e = record { test = tt; state = e }
passed false st n es vs e = let z : ◌≡◌ {A = ℕ} 0 1 = cc in absurd (omega arith)

pub pass : (b : Bool) (st : State) → T b → check b st ≡ st
pass true st t = refl
pass false st t = absurd t
