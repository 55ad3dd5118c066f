-- A finite range that holds every true item of a graph: what makes the agenda end. It is far too long to compute.
use mathlib.Core.Path.{◌≡◌, refl, sym, ◌∙◌}
use mathlib.Core.Bool.{Bool, true, false}
use mathlib.Core.List.Memᴰ.{append_left as in_left}
use mathlib.Core.List.Memᴰ.{append_right as in_right}
use mathlib.Core.List.Memᴰ.{cast as in_cast}
use mathlib.Core.List.Memᴰ.{head as here}
use mathlib.Core.List.Memᴰ.{map as in_map}
use mathlib.Core.List.{List, [], ◌∷◌, ◌++◌, map, Memᴰ as In}
use Prim.Native.Nat.{ℕ, zero, suc, ◌^◌, ◌≤◌, ◌<◌}
use native.Mathlib.Decide.{dec_lt}
use native.Mathlib.Omega.{arith}
use lib.ListN.{length, get_or-eq_default}
use Rattle.masks.specs.Masks.{bit}
use Rattle.masks.proofs.Laws.{bits_lt}
use Rattle.hrg.specs.Counts.{occurs, tabulate}
use Rattle.hrg.specs.Grammars.{Graph, Grammar, rule_of, lhs_of, right_of, plan_of}
use Rattle.hrg.specs.Trees.{unplaced, at, images, Tree, apply, edges_of, edges_in, Fits}
use Rattle.hrg.specs.Items.{Item, active, passive, is_open_at, keep_if, restrict}
use Rattle.hrg.specs.Truth.{ActiveTruth, Truth}
use Rattle.hrg.specs.WellFormed.{GrammarOk, GraphOk}
use Rattle.hrg.specs.ClosureRun.{each_to}
use Rattle.hrg.proofs.Sums.{none_left}
use Rattle.hrg.proofs.TreeNodes.{edges_known, parts_known}
use Rattle.hrg.proofs.ClosureRun.{in_to}

-- the lists of n numbers below k
unfoldable pub lists : ℕ → ℕ → List (List ℕ)
lists k zero = [] ∷ []
lists k (suc n) = each_to k (λ v. map (λ (l : List ℕ). v ∷ l) (lists k n))

unfoldable pub active_range : Grammar → Graph → ℕ → List Item
active_range G H r =
    each_to (length (plan_of G r)) (λ p. each_to (2 ^ length H.edges) (λ m. map (λ (f : List ℕ). active r p m f) (lists (suc unplaced) (right_of G r).nodes)))

unfoldable pub passive_range : Grammar → Graph → ℕ → List Item
passive_range G H r = each_to (2 ^ length H.edges) (λ m. map (λ (L : List ℕ). passive (lhs_of G r) m L) (lists (suc unplaced) (length (right_of G r).externals)))

unfoldable pub range : Grammar → Graph → List Item
range G H = each_to (length G.rules) (λ r. active_range G H r ++ passive_range G H r)

-- ---- members of the lists
module _ (k : ℕ) where
  lists_cons : (v n : ℕ) {l : List ℕ} → v < k → In l (lists k n) → In (v ∷ l) (lists k (suc n))
  unfolding lists
  lists_cons v n h m = in_to k (λ v. map (λ (l : List ℕ). v ∷ l) (lists k n)) v h (in_map (λ (l : List ℕ). v ∷ l) m)

  module _ (f : ℕ → ℕ) (small : (x : ℕ) → f x < k) where
    lists_map : (xs : List ℕ) → In (map f xs) (lists k (length xs))
    unfolding lists
    lists_map [] = here refl
    lists_map (x ∷ xs) = lists_cons (f x) (length xs) (small x) (lists_map xs)

  lists_tabulate : (n : ℕ) (f : ℕ → ℕ) → ((x : ℕ) → f x < k) → In (tabulate n f) (lists k n)
  unfolding lists tabulate
  lists_tabulate zero f small = here refl
  lists_tabulate (suc n) f small = lists_cons (f 0) n (small 0) (lists_tabulate n (λ i. f (suc i)) (λ x. small (suc x)))

-- ---- items that are true
-- whether a rule node is placed or not, its entry is below 65
entry_small : (place : List ℕ) (n : ℕ) → length place ≡ n → ((x : ℕ) → x < n → at place x ≤ unplaced) → (x : ℕ) → at place x < suc unplaced
entry_small place n e h x = go (dec_lt x n)
  where
    go : Dec (x < n) → at place x < suc unplaced
    go (yes l) = omega (arith, h x l)
    go (no g) = omega (arith, get_or-eq_default place unplaced {n = x} (omega arith))

keep_small : (b : Bool) (v : ℕ) → v < suc unplaced → keep_if b v < suc unplaced
keep_small true v h = h
keep_small false v h = omega arith

module _ (G : Grammar) (H : Graph) (good : GrammarOk G) (ok : GraphOk G H) where
  pub mask_small : (m : ℕ) (gs : List ℕ) → ((e : ℕ) → occurs e gs ≡ bit m e) → ((e : ℕ) → 0 < occurs e gs → e < length H.edges) → m < 2 ^ length H.edges
  mask_small m gs edges known = bits_lt (length H.edges) m (λ e l. sym (edges e) ∙ none_left (occurs e gs) (λ h. omega (arith, known e h)))

  active_in : (r p m : ℕ) (f : List ℕ) (n : ℕ) → p < length (plan_of G r) → ActiveTruth G H (rule_of G r) p m f n → In (active r p m f) (active_range G H r)
  unfolding active_range restrict
  active_in r p m f n l t =
      in_to (length (plan_of G r)) _ p l
      (in_to (2 ^ length H.edges) _ m (mask_small m (edges_in t.parts) t.edges (λ e. parts_known G H good t.parts e t.place _ t.fits))
      (in_map (λ (f : List ℕ). active r p m f) (in_cast t.map
      (lists_tabulate (suc unplaced) (right_of G r).nodes _ (λ x. keep_small (is_open_at (rule_of G r) p x) _ (entry_small t.place _ t.sized small x))))))
    where
      -- whether x lies below is not asked: with a larger entry it could lie neither there nor elsewhere
      small : (x : ℕ) → x < (right_of G r).nodes → at t.place x ≤ unplaced
      small x h = go (dec_lt unplaced (at t.place x))
        where
          go : Dec (unplaced < at t.place x) → at t.place x ≤ unplaced
          go (no g) = omega arith
          go (yes l) = omega (arith, t.others x h (λ b. omega (arith, t.placed x h b, ok.side.node_count.upper)))

  passive_in : (t : Tree) (s m : ℕ) (L : List ℕ) → Fits G H s L t → m < 2 ^ length H.edges → In (passive s m L) (range G H)
  unfolding range passive_range
  passive_in (apply r place ps) s m L w h =
      let s_is : lhs_of G r ≡ s = w.0.lhs in
      let L-is : images place (right_of G r).externals ≡ L = w.0.externals in
      in_to (length G.rules) _ r w.0.known (in_right (active_range G H r) (in_to (2 ^ length H.edges) _ m h (in_cast (cc)
      (in_map (λ (L : List ℕ). passive (lhs_of G r) m L)
      (lists_map (suc unplaced) (λ x. at place x) (entry_small place _ w.0.sized (λ x l. omega (arith, w.0.placed x l, ok.side.node_count.upper))) (right_of G r).externals)))))

  pub in_range : (i : Item) (n : ℕ) → Truth G H i n → In i (range G H)
  unfolding range
  in_range (active r p m f) n t = in_to (length G.rules) _ r t.0 (in_left (passive_range G H r) (active_in r p m f n t.1 t.2))
  in_range (passive s m L) n t =
      passive_in t.tree s m L t.fits (mask_small m (edges_of t.tree) t.edges (λ e. edges_known G H good t.tree s e L t.fits))
