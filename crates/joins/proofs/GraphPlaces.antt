-- Maps and lists whose places hold none or a node of the graph: what is taken, padded and attached of such is such.
use mathlib.Core.Path.{◌≡◌, refl, sym, subst}
use mathlib.Core.Logic.{◌⊎◌, inl}
use mathlib.Core.Bool.{Bool, true, false}
use mathlib.Core.List.{List, [], ◌∷◌}
use Prim.Native.Nat.{ℕ, suc, ◌≤◌, ◌<◌}
use native.Mathlib.Omega.{arith}
use native.Mathlib.Decide.{dec_lt}
use lib.ListN.{length, take}
use lib.Seq.{get_or-take, length-take-le}
use lib.Dec.{eqb}
use Rattle.hrg.specs.Counts.{tabulate}
use Rattle.hrg.specs.Trees.{unplaced, at, padded}
use Rattle.hrg.specs.Items.{either, node_for, attach}
use Rattle.hrg.proofs.Sums.{length_tabulate, at_tabulate}
use Rattle.joins.specs.Joins.{Into}
use Rattle.joins.proofs.EdgeMaps.{length_padded, at_padded, at_past}

-- the number of one place
abbrev pub Placeable : ℕ → ℕ → Type 0
Placeable n v = (v ≡ unplaced) ⊎ (v < n)

module _ (n : ℕ) where
  pub in_padded : (F : List ℕ) → Into n F → Into n (padded F)
  in_padded F h = λ i. go i (dec_lt i 8)
    where
      go : (i : ℕ) → Dec (i < 8) → Placeable n (at (padded F) i)
      go i (yes l) = subst (Placeable n) (sym (at_padded F i l)) (h i)
      go i (no l) = inl (at_past (padded F) i (omega (arith, l, length_padded F)))

  pub in_take : (k : ℕ) (l : List ℕ) → k ≤ length l → Into n l → Into n (take k l)
  in_take k l long h = λ i. go i (dec_lt i k)
    where
      go : (i : ℕ) → Dec (i < k) → Placeable n (at (take k l) i)
      go i (yes d) = subst (Placeable n) (sym (get_or-take k l i unplaced d)) (h i)
      go i (no d) = inl (at_past (take k l) i (omega (arith, d, length-take-le k l long)))

  choose_in : (b : Bool) (u v : ℕ) → Placeable n u → Placeable n v → Placeable n (either b u v)
  choose_in true u v p q = q
  choose_in false u v p q = p

  node_in_is : (x : ℕ) (A L : List ℕ) → Into n L → Placeable n (node_for x A L)
  unfolding node_for
  node_in_is x [] L h = inl refl
  node_in_is x (a ∷ A) [] h = inl refl
  node_in_is x (a ∷ A) (b ∷ L) h =
      choose_in (eqb x a) (node_for x A L) b (node_in_is x A L (λ i. h (suc i))) (h 0)

  pub in_attach : (k : ℕ) (A L : List ℕ) → Into n L → Into n (attach k A L)
  unfolding attach
  in_attach k A L h = λ i. go i (dec_lt i k)
    where
      go : (i : ℕ) → Dec (i < k) → Placeable n (at (tabulate k (λ x. node_for x A L)) i)
      go i (yes d) = subst (Placeable n) (sym (at_tabulate k (λ x. node_for x A L) i d)) (node_in_is i A L h)
      go i (no d) = inl (at_past (tabulate k (λ x. node_for x A L)) i (omega (arith, d, length_tabulate k (λ x. node_for x A L))))
