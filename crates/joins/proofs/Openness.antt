-- Open graph nodes one by one, by the words of the graph's table, and of a union of edge sets.
use mathlib.Core.Path.{◌≡◌, refl, sym, ap, ap₂, ◌∙◌}
use mathlib.Core.Bool.{Bool, true, false, ◌&&◌, ◌||◌, not, or-true, false≢true}
use mathlib.Core.Logic.{◌⊎◌, inl, inr}
use mathlib.Core.List.{List}
use Prim.Native.Nat.{ℕ, zero, suc, ◌+◌, ◌-◌, ◌*◌, ◌/◌, ◌%◌, ◌^◌, ◌<◌}
use native.Mathlib.Nat.{pow-suc}
use native.Mathlib.Omega.{arith}
use native.Mathlib.Decide.{dec_lt}
use lib.ListN.{get_or}
use lib.Bits.{bit_and}
use lib.Pow.{shr-shr}
use lib.Dec.{eqb, ltb}
use borrow.Author.Tests.{eq-eqb, ne_eqb, eqb-true, eqb-false, lt-ltb, ltb-true, not-true}
use Rattle.masks.specs.Masks.{bit, member, ◌∪◌, single, Found}
use Rattle.masks.proofs.Laws.{member_true, true_member, member_false, false_member, nonempty, lt_bits, member_union, member_single}
use Rattle.hrg.specs.Counts.{occurs, tabulate}
use Rattle.hrg.specs.Grammars.{touches}
use Rattle.hrg.specs.Items.{is_boundary, is_open}
use Rattle.hrg.proofs.Sums.{occurs_at, occurs_find, at_tabulate, length_tabulate}
use Rattle.hrg.proofs.Degrees.{and_true}
use Rattle.questions.specs.Layout.{rank_at, graph_edges, graph_label, graph_node}
use Rattle.questions.specs.Abstract.{graph_of}
use Rattle.joins.specs.Joins.{Accepted, some_both, Spans, edges_on, open_by}
use Rattle.joins.specs.Graphs.{on_edge, marks_to, marks, GraphTable}
use Rattle.joins.proofs.Known.{graph_size}
use Rattle.joins.proofs.PlanMasks.{member_none}
use Rattle.joins.proofs.Touching.{member_both, touches_some}
use Rattle.joins.proofs.GraphLaws.{edge_nodes_lem, edge_few, label_few, node_few, some_in, by_four}

-- ---- tests
pub bool_same : (a b : Bool) → (a ≡ true → b ≡ true) → (b ≡ true → a ≡ true) → a ≡ b
bool_same true b p q = sym (p refl)
bool_same false true p q = q refl
bool_same false false p q = refl

pub either_way : {X : Type 0} (p q : Bool) → (p || q) ≡ true → (p ≡ true → X) → (q ≡ true → X) → X
either_way true q h a b = a refl
either_way false q h a b = b h

-- a number that passes both tests
pub some_find : (t a : ℕ → Bool) (n : ℕ) → some_both t a n ≡ true → (i : ℕ) × (i < n) × (t i ≡ true) × (a i ≡ true)
unfolding some_both
some_find t a zero h = absurd (false≢true h)
some_find t a (suc n) h = go (some_both t a n) refl h (some_find t a n)
  where
    go : (p : Bool) → some_both t a n ≡ p → (p || (t n && a n)) ≡ true → (some_both t a n ≡ true → (i : ℕ) × (i < n) × (t i ≡ true) × (a i ≡ true)) → (i : ℕ) × (i < suc n) × (t i ≡ true) × (a i ≡ true)
    go true e y ih = let z = ih e in (z.0, omega (arith, z.1), z.2, z.3)
    go false e y ih = (n, omega arith, (and_true (t n) (a n) y).0, (and_true (t n) (a n) y).1)

-- ---- the numbers that are not in a set
bit_flip : (k m e : ℕ) → m < 2 ^ k → e < k → bit (2 ^ k - 1 - m) e + bit m e ≡ 1
unfolding bit
bit_flip zero m e h l = absurd (omega arith)
bit_flip (suc k) m zero h l = omega (arith, pow-suc 2 k)
bit_flip (suc k) m (suc e) h l =
    let s : suc e ≡ 1 + e = omega arith in
    let half : (2 ^ suc k - 1 - m) / 2 ≡ 2 ^ k - 1 - m / 2 = omega (arith, pow-suc 2 k) in
    ap₂ (λ a b. a % 2 + b % 2)
    (ap (λ j. (2 ^ suc k - 1 - m) / 2 ^ j) s ∙ sym (shr-shr (2 ^ suc k - 1 - m) 1 e) ∙ ap (λ n. n / 2 ^ e) half)
    (ap (λ j. m / 2 ^ j) s ∙ sym (shr-shr m 1 e))
    ∙ bit_flip k (m / 2) e (omega (arith, pow-suc 2 k)) (omega arith)

pub member_others : (m e : ℕ) → m < 2 ^ 64 → e < 64 → member (2 ^ 64 - 1 - m) e ≡ not (member m e)
member_others m e h l = go (member m e) refl
  where
    go : (t : Bool) → member m e ≡ t → member (2 ^ 64 - 1 - m) e ≡ not t
    go true t = false_member (2 ^ 64 - 1 - m) e (omega (arith, bit_flip 64 m e h l, member_true m e t))
    go false t = true_member (2 ^ 64 - 1 - m) e (omega (arith, bit_flip 64 m e h l, member_false m e t))

-- a member of a number below 2 ^ 64
pub member_few : (m e : ℕ) → m < 2 ^ 64 → member m e ≡ true → e < 64
member_few m e small h = go (dec_lt e 64)
  where
    go : Dec (e < 64) → e < 64
    go (yes l) = l
    go (no l) = absurd (omega (arith, member_true m e h, lt_bits 64 m e small (omega arith)))

-- ---- nodes on the edges of a set
pub touches_on : (g h : List ℕ) (t : ℕ → Bool) (v : ℕ) → touches t (graph_of g h).edges v ≡ some_both t (λ e. on_edge g h v e) (graph_edges h)
touches_on g h t v = touches_some t (graph_of g h).edges v ∙ ap (some_both t (λ e. on_edge g h v e)) (graph_size g h)

pub touches_in : (g h : List ℕ) (t : ℕ → Bool) (v e : ℕ) → e < graph_edges h → t e ≡ true → on_edge g h v e ≡ true → touches t (graph_of g h).edges v ≡ true
touches_in g h t v e l p q = touches_on g h t v ∙ some_in t (λ e. on_edge g h v e) (graph_edges h) e l p q

pub touches_find : (g h : List ℕ) (t : ℕ → Bool) (v : ℕ) → touches t (graph_of g h).edges v ≡ true → (e : ℕ) × (e < graph_edges h) × (t e ≡ true) × (on_edge g h v e ≡ true)
touches_find g h t v p = some_find t (λ e. on_edge g h v e) (graph_edges h) (sym (touches_on g h t v) ∙ p)

-- ---- the words of a node
module _ (g h t : List ℕ) (accepted : Accepted g h) (table : GraphTable g h t) (v : ℕ) (few : v < 64) where
  abbrev on : ℕ
  on = edges_on t v

  abbrev word_at : ℕ → ℕ
  word_at k = get_or t (321 + 64 * k + v) 0

  word_find : (k e : ℕ) → k < 4 → e < 64 → member (word_at k) e ≡ true → (e < graph_edges h) × (on_edge g h v e ≡ true)
  unfolding marks_to
  word_find k e l f p =
      let i = 321 + 64 * k + v in
      let both = and_true (ltb e (graph_edges h)) (marks g h e i) (sym (table.marked i e (omega arith) (omega arith) f) ∙ p) in
      let known : e < graph_edges h = ltb-true e (graph_edges h) both.0 in
      let other : eqb i (257 + graph_label h e) ≡ false = ne_eqb i (257 + graph_label h e) (λ s. omega (arith, label_few g h accepted e known (graph_label h e) refl)) in
      let (j, jl, _, s) = some_find (λ k. true) (λ k. eqb i (321 + 64 * k + graph_node h e k)) (rank_at g (graph_label h e)) (ap (λ b. b || some_both (λ k. true) (λ k. eqb i (321 + 64 * k + graph_node h e k)) (rank_at g (graph_label h e))) (sym other) ∙ both.1) in
      let same : graph_node h e j ≡ v = omega (arith, eqb-true i (321 + 64 * j + graph_node h e j) s, node_few g h accepted e known j (graph_node h e j) jl refl) in
      let ns = tabulate (rank_at g (graph_label h e)) (λ k. graph_node h e k) in
      let there : 0 < occurs v ns = rw (at_tabulate (rank_at g (graph_label h e)) (λ k. graph_node h e k) j jl, same) at (occurs_at ns j (omega (arith, length_tabulate (rank_at g (graph_label h e)) (λ k. graph_node h e k)))) in
      (known, ap (λ (l : List ℕ). ltb 0 (occurs v l)) (edge_nodes_lem g h e known) ∙ lt-ltb 0 (occurs v ns) there)

  field_in : (e : ℕ) → e < graph_edges h → on_edge g h v e ≡ true → (k : ℕ) × (k < 4) × (member (word_at k) e ≡ true)
  unfolding marks_to
  field_in e known p =
      let rank = rank_at g (graph_label h e) in
      let ns = tabulate rank (λ k. graph_node h e k) in
      let (k, kl, s) = occurs_find v ns (ltb-true 0 (occurs v ns) (ap (λ (l : List ℕ). ltb 0 (occurs v l)) (sym (edge_nodes_lem g h e known)) ∙ p)) in
      let low : k < rank = omega (arith, length_tabulate rank (λ k. graph_node h e k)) in
      let node : graph_node h e k ≡ v = sym (at_tabulate rank (λ k. graph_node h e k) k low) ∙ s in
      let i = 321 + 64 * k + v in
      let here : eqb i (321 + 64 * k + graph_node h e k) ≡ true = eq-eqb i (321 + 64 * k + graph_node h e k) (omega (arith, node)) in
      let mark : marks g h e i ≡ true = ap (λ b. eqb i (257 + graph_label h e) || b) (some_in (λ k. true) (λ k. eqb i (321 + 64 * k + graph_node h e k)) rank k low refl here) ∙ or-true (eqb i (257 + graph_label h e)) in
      (k, omega arith, table.marked i e (omega arith) (omega arith) (edge_few g h accepted e known) ∙ ap₂ ◌&&◌ (lt-ltb e (graph_edges h) known) mark)

  member_on : (e : ℕ) → member on e ≡ ((member (word_at 0) e || member (word_at 1) e) || (member (word_at 2) e || member (word_at 3) e))
  unfolding ◌∪◌
  member_on e =
      member_union (word_at 0 ∪ word_at 1) (word_at 2 ∪ word_at 3) e ∙ ap₂ ◌||◌ (member_union (word_at 0) (word_at 1) e) (member_union (word_at 2) (word_at 3) e)

  on_find : (e : ℕ) → e < 64 → member on e ≡ true → (e < graph_edges h) × (on_edge g h v e ≡ true)
  on_find e f p =
      either_way (member (word_at 0) e || member (word_at 1) e) (member (word_at 2) e || member (word_at 3) e) (sym (member_on e) ∙ p)
      (λ q. either_way (member (word_at 0) e) (member (word_at 1) e) q (word_find 0 e (omega arith) f) (word_find 1 e (omega arith) f))
      (λ q. either_way (member (word_at 2) e) (member (word_at 3) e) q (word_find 2 e (omega arith) f) (word_find 3 e (omega arith) f))

  on_in : (e : ℕ) → e < graph_edges h → on_edge g h v e ≡ true → member on e ≡ true
  on_in e known p =
      let (k, l, q) = field_in e known p in
      by_four (λ k. member (word_at k) e ≡ true → member on e ≡ true)
      (λ q. member_on e ∙ rw q)
      (λ q. member_on e ∙ rw (q, or-true))
      (λ q. member_on e ∙ rw (q, or-true))
      (λ q. member_on e ∙ rw (q, or-true, or-true))
      k l q

  -- the node is on an edge of the set s
  meets : (s : ℕ) (T : ℕ → Bool) → s < 2 ^ 64 → ((e : ℕ) → e < 64 → member s e ≡ T e) → not (eqb (bit_and on s) 0) ≡ touches T (graph_of g h).edges v
  meets s T small same = bool_same (not (eqb (bit_and on s) 0)) (touches T (graph_of g h).edges v) forth back
    where
      forth : not (eqb (bit_and on s) 0) ≡ true → touches T (graph_of g h).edges v ≡ true
      forth p =
          let (e, b) = nonempty (bit_and on s) (omega (arith, eqb-false (bit_and on s) 0 (not-true (eqb (bit_and on s) 0) p))) in
          let (x, y) = and_true (member on e) (member s e) (sym (member_both on s e) ∙ true_member (bit_and on s) e b) in
          let few : e < 64 = member_few s e small y in
          let (known, z) = on_find e few x in
          touches_in g h T v e known (sym (same e few) ∙ y) z

      back : touches T (graph_of g h).edges v ≡ true → not (eqb (bit_and on s) 0) ≡ true
      back p =
          let (e, known, x, y) = touches_find g h T v p in
          let both : member (bit_and on s) e ≡ true = member_both on s e ∙ ap₂ ◌&&◌ (on_in e known y) (same e (edge_few g h accepted e known) ∙ x) in
          ap not (ne_eqb (bit_and on s) 0 (λ z. false≢true (sym (member_none e) ∙ ap (λ k. member k e) (sym z) ∙ both)))

  pub open_by_is : (m : ℕ) → m < 2 ^ 64 → open_by t m v ≡ is_open (graph_of g h) m v
  unfolding open_by is_open is_boundary
  open_by_is m small =
      ap (λ b. b && (not (eqb (bit_and on m) 0) && (member (get_or t 256 0) v || not (eqb (bit_and on (2 ^ 64 - 1 - m)) 0)))) (lt-ltb v 64 few)
      ∙ ap₂ ◌&&◌ (meets m (λ e. member m e) small (λ e l. refl))
      (ap₂ ◌||◌ (table.externals.members v few) (meets (2 ^ 64 - 1 - m) (λ e. not (member m e)) (omega arith) (λ e l. member_others m e small l)))

-- .. by the words that are read
pub open_read : (t : List ℕ) (m v : ℕ) (here : Bool) → v < 64 → Found (get_or t 256 0) v here
    → (not (eqb (bit_and (edges_on t v) m) 0) && (here || not (eqb (bit_and (edges_on t v) (2 ^ 64 - 1 - m)) 0))) ≡ open_by t m v
unfolding open_by
open_read t m v here l found = rw (lt-ltb v 64 l, found.value)

pub open_few : (t : List ℕ) (m v : ℕ) → open_by t m v ≡ true → v < 64
unfolding open_by
open_few t m v p = ltb-true v 64 (and_true (ltb v 64) (not (eqb (bit_and (edges_on t v) m) 0) && (member (get_or t 256 0) v || not (eqb (bit_and (edges_on t v) (2 ^ 64 - 1 - m)) 0))) p).0

-- ---- an open node of a set is one of a part of it, if it is on an edge of the part
open_part : (g h : List ℕ) (m part v e : ℕ) → ((i : ℕ) → member part i ≡ true → member m i ≡ true) → e < graph_edges h → member part e ≡ true → on_edge g h v e ≡ true
    → is_open (graph_of g h) m v ≡ true → is_open (graph_of g h) part v ≡ true
unfolding is_open is_boundary
open_part g h m part v e less known here there p =
    ap₂ ◌&&◌ (touches_in g h (λ i. member part i) v e known here there)
    (either_way external (touches (λ i. not (member m i)) (graph_of g h).edges v) (and_true (touches (λ i. member m i) (graph_of g h).edges v) _ p).1
    (λ x. ap (λ b. b || touches (λ i. not (member part i)) (graph_of g h).edges v) x)
    (λ x. ap (λ b. external || b) (wider x) ∙ or-true external))
  where
    external : Bool
    external = ltb 0 (occurs v (graph_of g h).externals)

    outside : (i : ℕ) → not (member m i) ≡ true → (b : Bool) → member part i ≡ b → not (member part i) ≡ true
    outside i x true q = absurd (false≢true (ap not (sym (less i q)) ∙ x))
    outside i x false q = ap not q

    wider : touches (λ i. not (member m i)) (graph_of g h).edges v ≡ true → touches (λ i. not (member part i)) (graph_of g h).edges v ≡ true
    wider x =
        let (i, l, y, z) = touches_find g h (λ i. not (member m i)) v x in
        touches_in g h (λ i. not (member part i)) v i l (outside i y (member part i) refl) z

open_edge : (g h : List ℕ) (m v : ℕ) → is_open (graph_of g h) m v ≡ true → (e : ℕ) × (e < graph_edges h) × (member m e ≡ true) × (on_edge g h v e ≡ true)
unfolding is_open is_boundary
open_edge g h m v p = touches_find g h (λ e. member m e) v (and_true (touches (λ e. member m e) (graph_of g h).edges v) _ p).0

-- an open node of one edge is a node of that edge
pub open_single : (g h : List ℕ) (e v : ℕ) → is_open (graph_of g h) (single e) v ≡ true → on_edge g h v e ≡ true
open_single g h e v p =
    let (i, _, x, y) = open_edge g h (single e) v p in
    ap (on_edge g h v) (sym (eqb-true i e (sym (member_single e i) ∙ x))) ∙ y

-- an open node of a union is one of a part
pub open_union : (g h : List ℕ) (a b v : ℕ) → is_open (graph_of g h) (a ∪ b) v ≡ true → (is_open (graph_of g h) a v ≡ true) ⊎ (is_open (graph_of g h) b v ≡ true)
open_union g h a b v p =
    let (e, known, x, y) = open_edge g h (a ∪ b) v p in
    either_way (member a e) (member b e) (sym (member_union a b e) ∙ x)
    (λ q. inl (open_part g h (a ∪ b) a v e (λ i z. member_union a b i ∙ ap (λ c. c || member b i) z) known q y p))
    (λ q. inr (open_part g h (a ∪ b) b v e (λ i z. member_union a b i ∙ ap (λ c. member a i || c) z ∙ or-true (member a i)) known q y p))

-- any set holds the open nodes of no edges
pub spans_none : (g h : List ℕ) (o : ℕ) → Spans g h 0 o
spans_none g h o = record { each = λ v l p. let (e, _, x, _) = open_edge g h 0 v p in absurd (false≢true (sym (member_none e) ∙ x)) }
