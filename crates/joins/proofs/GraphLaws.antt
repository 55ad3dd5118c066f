-- The table of a graph: how its words are filled, and what they tell of a set of edges.
use mathlib.Core.Path.{◌≡◌, refl, sym, ap, ap₂, ◌∙◌}
use mathlib.Core.Bool.{Bool, true, false, ◌&&◌, ◌||◌, not, or-false, or-true, or_assoc, and-false}
use mathlib.Core.List.{List, []}
use Prim.Native.Nat.{ℕ, zero, suc, ◌+◌, ◌-◌, ◌*◌, ◌/◌, ◌%◌, ◌^◌, ◌≤◌, ◌<◌}
use native.Mathlib.Omega.{arith}
use native.Mathlib.Decide.{dec_lt}
use lib.ListN.{length, get_or, set, replicate, length-set, get_or-eq_default}
use lib.Seq.{get_or-set_same, get_or-set_other}
use lib.Bits.{bit_or}
use lib.Pow.{shr-shr}
use lib.Dec.{eqb, ltb}
use borrow.Author.Tests.{eq-eqb, ne_eqb, eqb-true, eqb-false, lt-ltb, le-ltb}
use Rattle.masks.specs.Masks.{bit, member, ◌∪◌, Found, Added}
use Rattle.masks.proofs.Laws.{member_union}
use Rattle.hrg.specs.Counts.{occurs, tabulate}
use Rattle.hrg.specs.Grammars.{Edge, no_edge, touches, edge_at}
use Rattle.hrg.specs.Items.{is_boundary, is_open}
use Rattle.hrg.proofs.Sums.{occurs_at, at_tabulate, length_tabulate}
use Rattle.questions.specs.Layout.{rank_at, start_symbol, graph_edges, graph_label, graph_node, graph_external}
use Rattle.questions.specs.Abstract.{graph_of}
use Rattle.questions.proofs.WellFormedLists.{get_d_build}
use Rattle.questions.proofs.WellFormedLent.{checked_grammar_ok}
use Rattle.joins.specs.declared.Sides.{Sides}
use Rattle.joins.specs.Joins.{Accepted, NodesIn, some_both, Boundary, OpenIn}
use Rattle.joins.specs.Graphs.{graph_table_words, nodes_of, on_edge, marks_to, marks, Indexed, EdgeSets, Group, Grouped, GraphTable, Touched}
use Rattle.joins.proofs.Known.{graph_ok, graph_size, graph_nodes_lem, graph_nodes_few, graph_edges_few}
use Rattle.joins.proofs.PlanMasks.{member_none, set_next}
use Rattle.joins.proofs.Touching.{some_same, touches_some}

-- ---- some of the numbers below a bound
some_append : (t a : ℕ → Bool) (n k : ℕ) → some_both t a (n + k) ≡ (some_both t a n || some_both (λ i. t (n + i)) (λ i. a (n + i)) k)
unfolding some_both
some_append t a n zero = let e : n + 0 ≡ n = omega arith in rw e (sym (or-false (some_both t a n)))
some_append t a n (suc k) =
    let e : n + suc k ≡ suc (n + k) = omega arith in
    rw e
    (ap (λ b. b || (t (n + k) && a (n + k))) (some_append t a n k)
    ∙ or_assoc (some_both t a n) (some_both (λ i. t (n + i)) (λ i. a (n + i)) k) (t (n + k) && a (n + k)))

some_none : (t a : ℕ → Bool) (n : ℕ) → ((i : ℕ) → i < n → a i ≡ false) → some_both t a n ≡ false
unfolding some_both
some_none t a zero h = refl
some_none t a (suc n) h = rw (some_none t a n (λ i l. h i (omega arith)), h n (omega arith)) (and-false (t n))

some_past : (t a : ℕ → Bool) (n k : ℕ) → n ≤ k → ((i : ℕ) → n ≤ i → a i ≡ false) → some_both t a k ≡ some_both t a n
some_past t a n k l h =
    let e : k ≡ n + (k - n) = omega arith in
    ap (some_both t a) e
    ∙ some_append t a n (k - n)
    ∙ ap (λ b. some_both t a n || b) (some_none (λ i. t (n + i)) (λ i. a (n + i)) (k - n) (λ i d. h (n + i) (omega arith)))
    ∙ or-false (some_both t a n)

pub some_in : (t a : ℕ → Bool) (n i : ℕ) → i < n → t i ≡ true → a i ≡ true → some_both t a n ≡ true
unfolding some_both
some_in t a zero i l p q = absurd (omega arith)
some_in t a (suc n) i l p q = go (dec_lt i n) (some_in t a n i)
  where
    go : Dec (i < n) → (i < n → t i ≡ true → a i ≡ true → some_both t a n ≡ true) → (some_both t a n || (t n && a n)) ≡ true
    go (yes d) ih = rw (ih d p q)
    go (no d) ih = let e : n ≡ i = omega arith in rw (e, p, q) (or-true (some_both t a i))

-- ---- four bits of a number
pub by_four : (P : ℕ → Type 0) → P 0 → P 1 → P 2 → P 3 → (k : ℕ) → k < 4 → P k
by_four P a b c d zero h = a
by_four P a b c d (suc zero) h = b
by_four P a b c d (suc (suc zero)) h = c
by_four P a b c d (suc (suc (suc zero))) h = d
by_four P a b c d (suc (suc (suc (suc k)))) h = absurd (omega arith)

pub four_bits : (m b k : ℕ) → k < 4 → member (m / 2 ^ (4 * b) % 16) k ≡ member m (4 * b + k)
unfolding member bit
four_bits m b k h =
    ap (λ n. eqb n 1)
    (by_four (λ k. m / 2 ^ (4 * b) % 16 / 2 ^ k % 2 ≡ m / 2 ^ (4 * b + k) % 2)
    (omega (arith, shr-shr m (4 * b) 0)) (omega (arith, shr-shr m (4 * b) 1)) (omega (arith, shr-shr m (4 * b) 2)) (omega (arith, shr-shr m (4 * b) 3)) k h)

bit_other : (v k : ℕ) → v < 16 → k < 4 → bit (15 - v) k + bit v k ≡ 1
unfolding bit
bit_other v k l h =
    by_four (λ k. (15 - v) / 2 ^ k % 2 + v / 2 ^ k % 2 ≡ 1) (omega arith) (omega arith) (omega arith) (omega arith) k h

pub four_others : (v k : ℕ) → v < 16 → k < 4 → member (15 - v) k ≡ not (member v k)
unfolding member
four_others v k l h = go (bit v k) (bit (15 - v) k) (bit_other v k l h)
  where
    go : (a b : ℕ) → b + a ≡ 1 → eqb b 1 ≡ not (eqb a 1)
    go zero b e = eq-eqb b 1 (omega arith)
    go (suc a) b e = let z : a ≡ 0 = omega arith in let y : b ≡ 0 = omega arith in rw (z, y)

-- ---- the sets of the edges
edge_past : (g h : List ℕ) (e : ℕ) → graph_edges h ≤ e → nodes_of g h e ≡ []
edge_past g h e l = ap (λ (d : Edge). d.attachment) (get_or-eq_default (graph_of g h).edges no_edge {n = e} (omega (arith, graph_size g h)))

pub graph_edge : (g h : List ℕ) (e : ℕ) → e < graph_edges h
    → edge_at (graph_of g h).edges e ≡ record { label = graph_label h e; attachment = tabulate (rank_at g (graph_label h e)) (λ k. graph_node h e k) }
unfolding graph_of
graph_edge g h e l = get_d_build (graph_edges h) (λ e. record { label = graph_label h e; attachment = tabulate (rank_at g (graph_label h e)) (λ k. graph_node h e k) }) e no_edge l

pub edge_nodes_lem : (g h : List ℕ) (e : ℕ) → e < graph_edges h → nodes_of g h e ≡ tabulate (rank_at g (graph_label h e)) (λ k. graph_node h e k)
edge_nodes_lem g h e l = ap (λ (d : Edge). d.attachment) (graph_edge g h e l)

pub off_past : (g h : List ℕ) (x e : ℕ) → graph_edges h ≤ e → on_edge g h x e ≡ false
unfolding occurs
off_past g h x e l = ap (λ (ns : List ℕ). ltb 0 (occurs x ns)) (edge_past g h e l)

-- the edges before n have their sets, the others none
pub record SetsTo (g h sets : List ℕ) (n : ℕ) : Type 0 where
  pub size : length sets ≡ 64
  pub before : (e : ℕ) → e < n → NodesIn (get_or sets e 0) (nodes_of g h e)
  pub after : (e : ℕ) → n ≤ e → get_or sets e 0 ≡ 0

zero_word : (n i : ℕ) → ◌≡◌ {A = ℕ} (get_or (replicate n 0) i 0) 0
zero_word zero i = refl
zero_word (suc n) zero = refl
zero_word (suc n) (suc i) = zero_word n i

pub sets_none : (g h : List ℕ) → SetsTo g h (replicate 64 0) 0
sets_none g h = record { size = refl; before = λ e l. absurd (omega arith); after = λ e l. zero_word 64 e }

pub sets_next : (g h sets : List ℕ) (e label rank on : ℕ) → e < graph_edges h → e < 64 → label ≡ graph_label h e → rank ≡ rank_at g label
    → NodesIn on (tabulate rank (λ k. graph_node h e k)) → SetsTo g h sets e → SetsTo g h (set sets e on) (e + 1)
sets_next g h sets e label rank on known few a b nodes p = record {
  size = length-set sets e on ∙ p.size;
  before = set_next (λ d m. NodesIn m (nodes_of g h d)) sets e on 0 (omega (arith, p.size)) p.before (rw (edge_nodes_lem g h e known) (rw (b, a) at nodes));
  after = λ d l. get_or-set_other sets e d on 0 (λ s. omega arith) ∙ p.after d (omega arith);
}

pub sets_all : (g h sets : List ℕ) (n k : ℕ) → n ≡ graph_edges h → n ≤ k → SetsTo g h sets k → EdgeSets g h sets
unfolding occurs
sets_all g h sets n k size l p = record { each = λ e few. go e (dec_lt e k) }
  where
    go : (e : ℕ) → Dec (e < k) → NodesIn (get_or sets e 0) (nodes_of g h e)
    go e (yes d) = p.before e d
    go e (no d) = rw (p.after e (omega arith), edge_past g h e (omega arith)) (record { members = λ x f. member_none x })

-- ---- the words of a group
pub chosen_in : (v k on : ℕ) (b : Bool) → Found v k b → b ≡ true → (x : ℕ) → member on x ≡ (member v k && member on x)
chosen_in v k on b found t x = rw (sym found.value ∙ t)

pub chosen_out : (v k on : ℕ) (b : Bool) → Found v k b → b ≡ false → (x : ℕ) → member 0 x ≡ (member v k && member on x)
chosen_out v k on b found t x = rw (sym found.value ∙ t) (member_none x)

-- so far of the first n of the four edges
pub record GroupTo (sets : List ℕ) (i m n : ℕ) : Type 0 where
  pub members : (x : ℕ) → member m x ≡ some_both (λ k. member (i % 16) k) (λ k. member (get_or sets (4 * (i / 16) + k) 0) x) n

pub group_none : (sets : List ℕ) (i : ℕ) → GroupTo sets i 0 0
unfolding some_both
group_none sets i = record { members = λ x. member_none x }

pub group_next : (sets : List ℕ) (i m k on : ℕ) → ((x : ℕ) → member on x ≡ (member (i % 16) k && member (get_or sets (4 * (i / 16) + k) 0) x))
    → GroupTo sets i m k → GroupTo sets i (bit_or m on) (k + 1)
unfolding ◌∪◌ some_both
group_next sets i m k on here p = record {
  members = λ x. let s : k + 1 ≡ suc k = omega arith in rw s (member_union m on x ∙ ap₂ ◌||◌ (p.members x) (here x));
}

pub group_all : (sets : List ℕ) (i m k : ℕ) → k ≤ 4 → 4 ≤ k → GroupTo sets i m k → Group sets i m
group_all sets i m k a b p = let e : k ≡ 4 = omega arith in record { members = λ x. rw e at (p.members x) }

-- the words before i
pub record GroupsTo (sets t u : List ℕ) (i : ℕ) : Type 0 where
  pub size : length u ≡ graph_table_words
  pub before : (j : ℕ) → j < i → Group sets j (get_or u j 0)
  pub after : (j : ℕ) → 256 ≤ j → get_or u j 0 ≡ get_or t j 0

pub groups_none : (sets t : List ℕ) → length t ≡ graph_table_words → GroupsTo sets t t 0
groups_none sets t size = record { size = size; before = λ j l. absurd (omega arith); after = λ j l. refl }

pub groups_next : (sets t u : List ℕ) (i m : ℕ) → i < 256 → Group sets i m → GroupsTo sets t u i → GroupsTo sets t (set u i m) (i + 1)
groups_next sets t u i m few here p = record {
  size = length-set u i m ∙ p.size;
  before = set_next (Group sets) u i m 0 (omega (arith, p.size)) p.before here;
  after = λ j l. get_or-set_other u i j m 0 (λ s. omega arith) ∙ p.after j l;
}

pub groups_all : (h sets t u : List ℕ) (n i : ℕ) → n ≡ graph_edges h → 16 * ((n + 3) / 4) ≤ i → GroupsTo sets t u i → Grouped h sets t u
groups_all h sets t u n i e l p = record { size = p.size; each = λ j d. p.before j (omega arith); after = p.after }

-- ---- the words of an edge
module _ (g h : List ℕ) (accepted : Accepted g h) (e : ℕ) (known : e < graph_edges h) where
  pub edge_few : e < 64
  edge_few = omega (arith, graph_edges_few g h accepted)

  pub label_few : (s : ℕ) → s ≡ graph_label h e → s < 64
  label_few s a =
      omega (
        arith,
        ap (λ (d : Edge). d.label) (graph_edge g h e known),
        ((graph_ok g h accepted).side.edge e (omega (arith, graph_size g h))).known,
        (checked_grammar_ok g accepted.grammar).symbol_count_is.upper,
      )

  pub node_few : (k x : ℕ) → k < rank_at g (graph_label h e) → x ≡ graph_node h e k → x < 64
  node_few k x l a =
      let rank = rank_at g (graph_label h e) in
      let there : get_or (nodes_of g h e) k 64 ≡ graph_node h e k = ap (λ (ns : List ℕ). get_or ns k 64) (edge_nodes_lem g h e known) ∙ at_tabulate rank (λ k. graph_node h e k) k l in
      let size : length (nodes_of g h e) ≡ rank = ap length (edge_nodes_lem g h e known) ∙ length_tabulate rank (λ k. graph_node h e k) in
      let found = rw there at (occurs_at (nodes_of g h e) k (omega (arith, size))) in
      omega (
        arith,
        graph_nodes_lem g h,
        graph_nodes_few g h accepted,
        ((graph_ok g h accepted).side.edge e (omega (arith, graph_size g h))).listed.inside (graph_node h e k) found,
      )

pub place_in_lem : (g h : List ℕ) (e label rank k : ℕ) → label ≡ graph_label h e → rank ≡ rank_at g label → k < rank → k < rank_at g (graph_label h e)
place_in_lem g h e label rank k a b l = rw (b, a) at l

-- the edges before e and so far e itself, of which n places are in
pub record MarkedTo (g h t : List ℕ) (e n : ℕ) : Type 0 where
  pub size : length t ≡ graph_table_words
  pub each : (i d : ℕ) → i < graph_table_words → d < 64 → member (get_or t i 0) d ≡ ((ltb d e && marks g h d i) || (eqb d e && marks_to h e n i))

-- one word more
word_more : (t : List ℕ) (i e w : ℕ) (p q r : Bool) → Added (get_or t i 0) e w → i < length t → (j d : ℕ) → d < 64
    → member (get_or t j 0) d ≡ (p || (eqb d e && q)) → r ≡ (q || eqb j i) → member (get_or (set t i w) j 0) d ≡ (p || (eqb d e && r))
word_more t i e w p q r added l j d few before is = go (eqb j i) refl is
  where
    more : (p s q : Bool) → ((p || (s && q)) || s) ≡ (p || (s && true))
    more true s q = refl
    more false true q = or-true q
    more false false q = refl

    go : (b : Bool) → eqb j i ≡ b → r ≡ (q || b) → member (get_or (set t i w) j 0) d ≡ (p || (eqb d e && r))
    go true s z =
        let same : j ≡ i = eqb-true j i s in
        ap (λ k. member (get_or (set t i w) k 0) d) same
        ∙ ap (λ k. member k d) (get_or-set_same t i w 0 l)
        ∙ added.members d few
        ∙ ap (λ b. b || eqb d e) (ap (λ k. member (get_or t k 0) d) (sym same) ∙ before)
        ∙ more p (eqb d e) q
        ∙ ap (λ b. p || (eqb d e && b)) (sym (z ∙ or-true q))
    go false s z =
        ap (λ k. member k d) (get_or-set_other t i j w 0 (eqb-false j i s))
        ∙ before
        ∙ ap (λ b. p || (eqb d e && b)) (sym (z ∙ or-false q))

pub marked_label : (g h t : List ℕ) (e label w : ℕ) → label < 64 → label ≡ graph_label h e → Added (get_or t (257 + label) 0) e w → Indexed g h t e → MarkedTo g h (set t (257 + label) w) e 0
unfolding marks_to some_both
marked_label g h t e label w few a added before = record {
  size = length-set t (257 + label) w ∙ before.size;
  each = λ i d l f.
      word_more t (257 + label) e w (ltb d e && marks g h d i) false (marks_to h e 0 i) added (omega (arith, before.size)) i d f
      (before.each i d l f ∙ sym (ap (λ b. (ltb d e && marks g h d i) || b) (and-false (eqb d e)) ∙ or-false (ltb d e && marks g h d i)))
      (or-false (eqb i (257 + graph_label h e)) ∙ ap (λ k. eqb i (257 + k)) (sym a));
}

pub marked_place : (g h t : List ℕ) (e k x w : ℕ) → k < 4 → x < 64 → x ≡ graph_node h e k → Added (get_or t (321 + 64 * k + x) 0) e w → MarkedTo g h t e k → MarkedTo g h (set t (321 + 64 * k + x) w) e (k + 1)
unfolding marks_to some_both
marked_place g h t e k x w low few a added before = record {
  size = length-set t (321 + 64 * k + x) w ∙ before.size;
  each = λ i d l f.
      word_more t (321 + 64 * k + x) e w (ltb d e && marks g h d i) (marks_to h e k i) (marks_to h e (k + 1) i) added (omega (arith, before.size)) i d f
      (before.each i d l f)
      (let s : k + 1 ≡ suc k = omega arith in
      rw (s, a) (sym (or_assoc (eqb i (257 + graph_label h e)) (some_both (λ k. true) (λ k. eqb i (321 + 64 * k + graph_node h e k)) k) (eqb i (321 + 64 * k + graph_node h e k)))));
}

pub marked_edge : (g h t : List ℕ) (e n k label : ℕ) → label ≡ graph_label h e → n ≡ rank_at g label → k ≤ n → n ≤ k → MarkedTo g h t e k → Indexed g h t (e + 1)
marked_edge g h t e n k label a b l m p = record { size = p.size; each = λ i d x y. p.each i d x y ∙ go i d (dec_lt d e) (eqb d e) refl }
  where
    places : k ≡ rank_at g (graph_label h e)
    places = let s : k ≡ n = omega arith in s ∙ b ∙ ap (rank_at g) a

    go : (i d : ℕ) → Dec (d < e) → (b : Bool) → eqb d e ≡ b → ((ltb d e && marks g h d i) || (eqb d e && marks_to h e k i)) ≡ (ltb d (e + 1) && marks g h d i)
    go i d (yes l) b s = rw (lt-ltb d e l, lt-ltb d (e + 1) (omega arith), ne_eqb d e (λ q. omega arith)) (or-false (marks g h d i))
    go i d (no l) true s = let q : d ≡ e = eqb-true d e s in rw (le-ltb d e (omega arith), lt-ltb d (e + 1) (omega arith), s, places, q)
    go i d (no l) false s = let q : d ≡ e → ⊥ = eqb-false d e s in rw (le-ltb d e (omega arith), le-ltb d (e + 1) (omega arith), s)

pub indexed_none : (g h : List ℕ) → Indexed g h (replicate graph_table_words 0) 0
indexed_none g h = record { size = refl; each = λ i e l f. ap (λ w. member w e) (zero_word graph_table_words i) ∙ member_none e ∙ sym (ap (λ b. b && marks g h e i) (le-ltb e 0 (omega arith))) }

pub indexed_all : (g h t : List ℕ) (n e : ℕ) → n ≡ graph_edges h → e ≤ n → n ≤ e → Indexed g h t e → Indexed g h t (graph_edges h)
indexed_all g h t n e a l m p = let q : graph_edges h ≡ e = omega arith in rw q p

-- ---- the whole table
pub table_is : (g h t u sets : List ℕ) (ext : ℕ) → Accepted g h → Indexed g h t (graph_edges h) → EdgeSets g h sets → Grouped h sets t u
    → NodesIn ext (tabulate (rank_at g (start_symbol g)) (λ k. graph_external h k)) → GraphTable g h (set u 256 ext)
unfolding graph_of
table_is g h t u sets ext accepted indexed edges grouped externals = record {
  touched = λ b v x l few f. ap (λ w. member w x) (get_or-set_other u 256 (16 * b + v) ext 0 (λ e. omega (arith, graph_edges_few g h accepted))) ∙ word b v x l few f;
  externals = rw (get_or-set_same u 256 ext 0 (omega (arith, grouped.size))) externals;
  marked = λ i e l k f.
      ap (λ w. member w e) (get_or-set_other u 256 i ext 0 (λ s. omega arith) ∙ grouped.after i (omega arith)) ∙ indexed.each i e k f;
}
  where
    word : (b v x : ℕ) → 4 * b < graph_edges h → v < 16 → x < 64 → member (get_or u (16 * b + v) 0) x ≡ some_both (λ k. member v k) (λ k. on_edge g h x (4 * b + k)) 4
    word b v x l few f =
        let p : (16 * b + v) / 16 ≡ b = omega arith in
        let q : (16 * b + v) % 16 ≡ v = omega arith in
        (rw (p, q) at ((grouped.each (16 * b + v) (omega arith)).members x))
        ∙ some_same (λ k. member v k) (λ k. member v k) (λ k. member (get_or sets (4 * b + k) 0) x) (λ k. on_edge g h x (4 * b + k)) 4 (λ k d. refl)
        (λ k d. (edges.each (4 * b + k) (omega (arith, graph_edges_few g h accepted))).members x f)

-- ---- the nodes on the edges of a set, four by four
pub record TouchedTo (g h : List ℕ) (m b rest i o : ℕ) : Type 0 where
  pub shifted : rest ≡ m / 2 ^ (4 * b)
  pub inside : (x : ℕ) → x < 64 → member i x ≡ some_both (λ e. member m e) (λ e. on_edge g h x e) (4 * b)
  pub outside : (x : ℕ) → x < 64 → member o x ≡ some_both (λ e. not (member m e)) (λ e. on_edge g h x e) (4 * b)

pub touched_none : (g h : List ℕ) (m : ℕ) → TouchedTo g h m 0 m 0 0
unfolding some_both
touched_none g h m = record { shifted = omega arith; inside = λ x l. member_none x; outside = λ x l. member_none x }

module _ (g h t : List ℕ) (table : GraphTable g h t) (m b rest i o : ℕ) (known : 4 * b < graph_edges h) (p : TouchedTo g h m b rest i o) where
  more : (T : ℕ → Bool) (w v x : ℕ) → v < 16 → x < 64 → ((k : ℕ) → k < 4 → member v k ≡ T (4 * b + k)) → member w x ≡ some_both T (λ e. on_edge g h x e) (4 * b)
      → member (bit_or w (get_or t (16 * b + v) 0)) x ≡ some_both T (λ e. on_edge g h x e) (4 * (b + 1))
  unfolding ◌∪◌
  more T w v x few l same before =
      let e : 4 * (b + 1) ≡ 4 * b + 4 = omega arith in
      member_union w (get_or t (16 * b + v) 0) x
      ∙ ap₂ ◌||◌ before
      (table.touched b v x known few l
      ∙ some_same (λ k. member v k) (λ k. T (4 * b + k)) (λ k. on_edge g h x (4 * b + k)) (λ k. on_edge g h x (4 * b + k)) 4 same (λ k d. refl))
      ∙ sym (ap (some_both T (λ e. on_edge g h x e)) e ∙ some_append T (λ e. on_edge g h x e) (4 * b) 4)

  bits : (k : ℕ) → k < 4 → member (rest % 16) k ≡ member m (4 * b + k)
  bits k l = ap (λ r. member (r % 16) k) p.shifted ∙ four_bits m b k l

  pub touched_next : TouchedTo g h m (b + 1) (rest / 16) (bit_or i (get_or t (16 * b + rest % 16) 0)) (bit_or o (get_or t (16 * b + (15 - rest % 16)) 0))
  touched_next = record {
    shifted =
        let e : 4 * (b + 1) ≡ 4 * b + 4 = omega arith in
        ap (λ r. r / 16) p.shifted ∙ shr-shr m (4 * b) 4 ∙ ap (λ k. m / 2 ^ k) (sym e);
    inside = λ x l. more (λ e. member m e) i (rest % 16) x (omega arith) l bits (p.inside x l);
    outside = λ x l.
        more (λ e. not (member m e)) o (15 - rest % 16) x (omega arith) l (λ k d. four_others (rest % 16) k (omega arith) d ∙ ap not (bits k d)) (p.outside x l);
  }

pub touched_all : (g h : List ℕ) (m n b rest i o : ℕ) → n ≡ graph_edges h → n ≤ 4 * b → TouchedTo g h m b rest i o → Touched g h m (record { inside = i; outside = o })
touched_all g h m n b rest i o e l p = record {
  inside = λ x f. p.inside x f ∙ whole (λ e. member m e) x;
  outside = λ x f. p.outside x f ∙ whole (λ e. not (member m e)) x;
}
  where
    whole : (T : ℕ → Bool) (x : ℕ) → some_both T (λ e. on_edge g h x e) (4 * b) ≡ touches T (graph_of g h).edges x
    whole T x =
        some_past T (λ e. on_edge g h x e) (graph_edges h) (4 * b) (omega arith) (λ d k. off_past g h x d k)
        ∙ ap (some_both T (λ e. on_edge g h x e)) (sym (graph_size g h))
        ∙ sym (touches_some T (graph_of g h).edges x)

pub open_touched : (g h : List ℕ) (m ext o : ℕ) (s : Sides) → Touched g h m s → NodesIn ext (graph_of g h).externals → Boundary s ext o → OpenIn g h m o
unfolding is_open is_boundary
open_touched g h m ext o s touched externals made = record {
  members = λ x l. made.members x l ∙ ap₂ ◌&&◌ (touched.inside x l) (ap₂ ◌||◌ (externals.members x l) (touched.outside x l));
}
