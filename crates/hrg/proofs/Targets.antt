-- What a derivation is to end in, by counts: the whole graph, and the subgraph of an edge set with its listed nodes.
use mathlib.Core.Path.{◌≡◌, refl, sym, ◌∙◌}
use mathlib.Core.Bool.{Bool, true, false, ◌&&◌, ◌||◌}
use mathlib.Core.Logic.{◌⊎◌, inl, inr}
use mathlib.Core.List.{List, [], ◌∷◌}
use Prim.Native.Nat.{ℕ, zero, suc, ◌^◌, ◌≤◌, ◌<◌}
use native.Mathlib.Nat.{not-suc-le-zero, le_of_suc-le-suc, lt_of_not-le}
use native.Mathlib.Decide.{dec_lt}
use native.Mathlib.Omega.{arith}
use lib.ListN.{length}
use lib.Dec.{ltb, ltb→lt, lt→ltb}
use Rattle.masks.specs.Masks.{bit, member}
use Rattle.masks.proofs.Laws.{bit_le, lt_bits, member_true, true_member}
use Rattle.hrg.specs.Counts.{occurs, up_to, select, Reordered, none, keep, swap, trans}
use Rattle.hrg.specs.Grammars.{Edge, Graph, touches, edge_at}
use Rattle.hrg.specs.Replacement.{Hypergraph, hypergraph_of, subgraph}
use Rattle.hrg.proofs.Sums.{none_left, occurs_up_to, occurs_past, occurs_kept, occurs_dropped}
use Rattle.hrg.proofs.Degrees.{by_test, test_T, T_test}
use Rattle.hrg.proofs.Sides.{edges_at}
use Rattle.hrg.proofs.Soundness.{edges_all}

pub reordered_occurs : {xs ys : List ℕ} → Reordered xs ys → (i : ℕ) → occurs i xs ≡ occurs i ys
unfolding occurs
reordered_occurs none i = refl
reordered_occurs (keep r) i = omega (arith, reordered_occurs r i)
reordered_occurs swap i = omega arith
reordered_occurs (trans r s) i = reordered_occurs r i ∙ reordered_occurs s i

-- ---- a count that is 1 just for the numbers below n that pass a test
pub count_up_to : (n v k : ℕ) → k ≤ 1 → (0 < k → v < n) → (v < n → 0 < k) → k ≡ occurs v (up_to n)
count_up_to n v k few low some = go (dec_lt v n)
  where
    go : Dec (v < n) → k ≡ occurs v (up_to n)
    go (yes l) = omega (arith, some l, occurs_up_to n v l)
    go (no l) = none_left k (λ h. l (low h)) ∙ sym (occurs_past n v (omega arith))

pub up_to_once : (n v : ℕ) → occurs v (up_to n) ≤ 1
up_to_once n v = go (dec_lt v n)
  where
    go : Dec (v < n) → occurs v (up_to n) ≤ 1
    go (yes l) = omega (arith, occurs_up_to n v l)
    go (no l) = omega (arith, occurs_past n v (omega arith))

pub up_to_low : (n v : ℕ) → 0 < occurs v (up_to n) → v < n
up_to_low n v h = go (dec_lt v n)
  where
    go : Dec (v < n) → v < n
    go (yes l) = l
    go (no l) = absurd (omega (arith, occurs_past n v (omega arith)))

module _ (t : ℕ → Bool) where
  pub select_le : (v : ℕ) (xs : List ℕ) → occurs v (select t xs) ≤ occurs v xs
  select_le v xs = by_test (t v) (λ q. omega (arith, occurs_kept t v xs q)) (λ q. omega (arith, occurs_dropped t v xs q))

  pub select_passed : (v : ℕ) (xs : List ℕ) → 0 < occurs v (select t xs) → t v ≡ true
  select_passed v xs h = by_test (t v) (λ q. q) (λ q. absurd (omega (arith, occurs_dropped t v xs q)))

  pub count_select : (n v k : ℕ) → k ≤ 1 → (0 < k → v < n) → (0 < k → t v ≡ true) → (v < n → t v ≡ true → 0 < k) → k ≡ occurs v (select t (up_to n))
  count_select n v k few low passed some =
      by_test (t v)
      (λ q. count_up_to n v k few low (λ l. some l q) ∙ sym (occurs_kept t v (up_to n) q))
      (λ q. none_left k (λ h. not_both (passed h) q) ∙ sym (occurs_dropped t v (up_to n) q))
    where
      not_both : t v ≡ true → t v ≡ false → ⊥
      not_both p q = test_T false (sym q ∙ p)

-- ---- whether a node lies on an edge that passes a test
or_cases : (a b c : Bool) → ((a && b) || c) ≡ true → ((a ≡ true) × (b ≡ true)) ⊎ (c ≡ true)
or_cases true true c q = inl (refl, refl)
or_cases true false c q = inr q
or_cases false b c q = inr q

or_left : (a b c : Bool) → a ≡ true → b ≡ true → ((a && b) || c) ≡ true
or_left true true c p q = refl
or_left true false c p q = absurd (test_T false q)
or_left false b c p q = absurd (test_T false p)

or_right : (a c : Bool) → c ≡ true → (a || c) ≡ true
or_right true c q = refl
or_right false c q = q

or_split : (a c : Bool) → (a || c) ≡ true → (a ≡ true) ⊎ (c ≡ true)
or_split true c q = inl refl
or_split false c q = inr q

or_first : (a c : Bool) → a ≡ true → (a || c) ≡ true
or_first true c q = refl
or_first false c q = absurd (test_T false q)

positive : (k : ℕ) → 0 < k → ltb 0 k ≡ true
positive k h = T_test (ltb 0 k) (lt→ltb 0 k h)

pub touches_in : (t : ℕ → Bool) (es : List Edge) (x : ℕ) → touches t es x ≡ true → (i : ℕ) × (i < length es) × (t i ≡ true) × (0 < occurs x (edge_at es i).attachment)
unfolding touches
touches_in t [] x q = absurd (test_T false q)
touches_in t (e ∷ es) x q = go (or_cases (t 0) (ltb 0 (occurs x e.attachment)) (touches (λ i. t (suc i)) es x) q) (touches_in (λ i. t (suc i)) es x)
  where
    go : ((t 0 ≡ true) × (ltb 0 (occurs x e.attachment) ≡ true)) ⊎ (touches (λ i. t (suc i)) es x ≡ true)
        → (touches (λ i. t (suc i)) es x ≡ true → (i : ℕ) × (i < length es) × (t (suc i) ≡ true) × (0 < occurs x (edge_at es i).attachment))
        → (i : ℕ) × (i < suc (length es)) × (t i ≡ true) × (0 < occurs x (edge_at (e ∷ es) i).attachment)
    go (inl p) ih = (0, omega arith, p.0, ltb→lt 0 _ (test_T _ p.1))
    go (inr p) ih = let k = ih p in (suc k.0, omega (arith, k.1), k.2, k.3)

pub touches_of : (t : ℕ → Bool) (es : List Edge) (x i : ℕ) → i < length es → t i ≡ true → 0 < occurs x (edge_at es i).attachment → touches t es x ≡ true
unfolding touches
touches_of t [] x i l p q = absurd (not-suc-le-zero l)
touches_of t (e ∷ es) x zero l p q = or_left (t 0) (ltb 0 (occurs x e.attachment)) (touches (λ i. t (suc i)) es x) p (positive _ q)
touches_of t (e ∷ es) x (suc i) l p q =
    or_right (t 0 && ltb 0 (occurs x e.attachment)) (touches (λ i. t (suc i)) es x) (touches_of (λ i. t (suc i)) es x i (le_of_suc-le-suc l) p q)

-- A target with the graph edges gs and with nodes of the graph, none twice.
pub record Target (H : Graph) (K : Hypergraph) (gs : List ℕ) : Type 0 where
  pub edges : K.edges ≡ edges_at H gs
  pub known : (g : ℕ) → 0 < occurs g gs → g < length H.edges
  pub once : (v : ℕ) → occurs v K.nodes ≤ 1
  pub inside : (v : ℕ) → 0 < occurs v K.nodes → v < H.nodes

pub whole_target : (H : Graph) → Target H (hypergraph_of H) (up_to (length H.edges))
unfolding hypergraph_of
whole_target H =
    record { edges = sym (edges_all H.edges); known = up_to_low (length H.edges); once = up_to_once H.nodes; inside = up_to_low H.nodes }

-- the edges of a set, each as often as its bit says
pub set_edges : (H : Graph) (m : ℕ) → m < 2 ^ length H.edges → (e : ℕ) → bit m e ≡ occurs e (select (λ e. member m e) (up_to (length H.edges)))
set_edges H m small e =
    count_select (λ e. member m e) (length H.edges) e (bit m e) (bit_le m e) low
    (λ h. true_member m e (omega (arith, bit_le m e)))
    (λ l q. omega (arith, member_true m e q))
  where
    low : 0 < bit m e → e < length H.edges
    low h = lt_of_not-le (λ l. omega (arith, lt_bits (length H.edges) m e small l))

-- Node v is listed or lies on an edge of the set.
pub data Lies (H : Graph) (L : List ℕ) (m v : ℕ) : Type 0 where
  listed : 0 < occurs v L → Lies H L m v
  on_edge_is : (e : ℕ) → e < length H.edges → 0 < bit m e → 0 < occurs v (edge_at H.edges e).attachment → Lies H L m v

module _ (H : Graph) (L : List ℕ) (m : ℕ) where
  lies_passed : (v : ℕ) → Lies H L m v → (ltb 0 (occurs v L) || touches (λ e. member m e) H.edges v) ≡ true
  lies_passed v (listed h) = or_first (ltb 0 (occurs v L)) (touches (λ e. member m e) H.edges v) (positive _ h)
  lies_passed v (on_edge_is e l b o) =
      or_right (ltb 0 (occurs v L)) (touches (λ e. member m e) H.edges v) (touches_of (λ e. member m e) H.edges v e l (true_member m e (omega (arith, bit_le m e))) o)

  passed_lies : (v : ℕ) → (ltb 0 (occurs v L) || touches (λ e. member m e) H.edges v) ≡ true → Lies H L m v
  passed_lies v q = go (or_split (ltb 0 (occurs v L)) (touches (λ e. member m e) H.edges v) q)
    where
      go : (ltb 0 (occurs v L) ≡ true) ⊎ (touches (λ e. member m e) H.edges v ≡ true) → Lies H L m v
      go (inl p) = listed (ltb→lt 0 _ (test_T _ p))
      go (inr p) = let k = touches_in (λ e. member m e) H.edges v p in on_edge_is k.0 k.1 (omega (arith, member_true m k.0 k.2)) k.3

  pub subgraph_nodes : (v k : ℕ) → k ≤ 1 → (0 < k → v < H.nodes) → (0 < k → Lies H L m v) → (Lies H L m v → 0 < k) → k ≡ occurs v (subgraph H L m).nodes
  unfolding subgraph
  subgraph_nodes v k few low lies some =
      count_select (λ v. ltb 0 (occurs v L) || touches (λ e. member m e) H.edges v) H.nodes v k few low (λ h. lies_passed v (lies h)) (λ l q. some (passed_lies v q))

  pub subgraph_target : Target H (subgraph H L m) (select (λ e. member m e) (up_to (length H.edges)))
  unfolding subgraph
  subgraph_target =
      let kept : ℕ → Bool = λ v. ltb 0 (occurs v L) || touches (λ e. member m e) H.edges v in
      let k = length H.edges in
      record {
        edges = refl;
        known = λ g h. up_to_low k g (omega (arith, select_le (λ e. member m e) g (up_to k)));
        once = λ v. omega (arith, select_le kept v (up_to H.nodes), up_to_once H.nodes v);
        inside = λ v h. up_to_low H.nodes v (omega (arith, select_le kept v (up_to H.nodes)));
      }

  pub subgraph_externals : (subgraph H L m).externals ≡ L
  unfolding subgraph
  subgraph_externals = refl
