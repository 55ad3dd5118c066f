-- Laws of `stored` and `line_field`: what a table holds after a line was stored in it, and where lines stand.
use mathlib.Core.Path.{◌≡◌, refl, sym, ap, ◌∙◌}
use mathlib.Core.Logic.{◌≢◌}
use mathlib.Core.Bool.{Bool, true, false, cond, ◌&&◌, false≢true}
use mathlib.Core.List.{List, [], ◌∷◌, ◌++◌}
use Prim.Native.Nat.{ℕ, zero, suc, ◌+◌, ◌-◌, ◌*◌, ◌/◌, ◌%◌, ◌^◌, ◌≤◌, ◌<◌}
use native.Mathlib.Nat.{zero-div, div-one}
use native.Mathlib.Omega.{arith}
use native.Mathlib.Decide.{dec_lt}
use lib.ListN.{length, get_or, take, drop, replicate, length-set, get_or-append, get_or-eq_default, length-replicate, get_or-replicate}
use lib.Pow.{pow-add, shr-shr}
use lib.Seq.{get_or-set_same, get_or-set_other, set-append_left}
use lib.Dec.{eqb, ltb}
use borrow.Author.Tests.{ltb-true, lt-ltb, le-ltb, ne_eqb}
use Rattle.hrg.specs.Counts.{tabulate}
use Rattle.questions.specs.Layout.{symbol_place, rule_stride, edges_from, plans_from, graph_edge_place, rule_place, edge_place, plan_place, place_of, in_table, word_field, line_field, packed, stored, grammar_words, graph_words}
use Rattle.questions.specs.declared.Due.{Due}
use Rattle.questions.specs.declared.Due.TheVariants.{Grammar, Symbol, Rule, RuleEdge, PlanLine, Graph, GraphEdge, Nothing}

-- ---- tabulated lists
pub get_d_tabulate : (n : ℕ) (f : ℕ → ℕ) (x d : ℕ) → x < n → get_or (tabulate n f) x d ≡ f x
unfolding tabulate
get_d_tabulate zero f x d h = absurd (omega arith)
get_d_tabulate (suc n) f zero d h = refl
get_d_tabulate (suc n) f (suc x) d h = get_d_tabulate n (λ i. f (suc i)) x d (omega arith)

pub take_tabulate : (n m : ℕ) (f : ℕ → ℕ) → n ≤ m → take n (tabulate m f) ≡ tabulate n f
unfolding tabulate
take_tabulate zero m f h = refl
take_tabulate (suc n) zero f h = absurd (omega arith)
take_tabulate (suc n) (suc m) f h = ap (λ (l : List ℕ). f 0 ∷ l) (take_tabulate n m (λ i. f (suc i)) (omega arith))

pub tabulate_four : (f : ℕ → ℕ) (a b c d : ℕ) → a ≡ f 0 → b ≡ f 1 → c ≡ f 2 → d ≡ f 3 → a ∷ b ∷ c ∷ d ∷ [] ≡ tabulate 4 f
unfolding tabulate
tabulate_four f a b c d p q r s = rw (p, q, r, s)

-- ---- a field of a word
-- the fields after the first
later_field : (w j : ℕ) → w / 2 ^ (7 * suc j) ≡ w / 128 / 2 ^ (7 * j)
later_field w j = ap (λ k. w / 2 ^ k) (let e : 7 * suc j ≡ 7 + 7 * j = omega arith in e) ∙ sym (shr-shr w 7 (7 * j))

rest_at : (fs : List ℕ) (j : ℕ) → get_or (drop 1 fs) j 0 ≡ get_or fs (suc j) 0
rest_at [] j = refl
rest_at (f ∷ fs) j = refl

packed_first : (a b : ℕ) → (a % 128 + 128 * b) % 128 ≡ a % 128
packed_first a b = omega arith

packed_later : (a b : ℕ) → (a % 128 + 128 * b) / 128 ≡ b
packed_later a b = omega arith

pub field_small : (t : List ℕ) (p j : ℕ) → line_field t p j < 128
unfolding line_field word_field
field_small t p j = omega arith

-- two tables with one word at a place have one line there
pub same_line : (c t : List ℕ) (q j : ℕ) → get_or c q 0 ≡ get_or t q 0 → line_field c q j ≡ line_field t q j
unfolding line_field
same_line c t q j e = ap (λ w. word_field w j) e

-- the fields of a packed word
packed_field : (n : ℕ) (fs : List ℕ) (j : ℕ) → j < n → word_field (packed n fs) j ≡ get_or fs j 0 % 128
unfolding packed word_field
packed_field zero fs j h = absurd (omega arith)
packed_field (suc n) fs zero h =
    ap (λ w. w % 128) (div-one (packed (suc n) fs)) ∙ packed_first (get_or fs 0 0) (packed n (drop 1 fs))
packed_field (suc n) fs (suc j) h =
    ap (λ w. w % 128) (later_field (get_or fs 0 0 % 128 + 128 * packed n (drop 1 fs)) j ∙ ap (λ w. w / 2 ^ (7 * j)) (packed_later (get_or fs 0 0) (packed n (drop 1 fs))))
    ∙ packed_field n (drop 1 fs) j (omega arith) ∙ ap (λ x. x % 128) (rest_at fs j)

pub packed_small : (n : ℕ) (fs : List ℕ) → packed n fs < 2 ^ (7 * n)
unfolding packed
packed_small zero fs = omega arith
packed_small (suc n) fs =
    let size : 2 ^ (7 * suc n) ≡ 128 * 2 ^ (7 * n) = ap (λ k. 2 ^ k) (let e : 7 * suc n ≡ 7 + 7 * n = omega arith in e) ∙ pow-add 2 7 (7 * n) in
    omega (arith, size, packed_small n (drop 1 fs))

-- it has nothing behind as many as there are
packed_none : (n : ℕ) → packed n [] ≡ 0
unfolding packed
packed_none zero = refl
packed_none (suc n) = omega (arith, packed_none n)

pub packed_short : (n : ℕ) (fs : List ℕ) (m : ℕ) → length fs ≤ m → packed n fs / 2 ^ (7 * m) ≡ 0
unfolding packed
packed_short n [] m h = ap (λ w. w / 2 ^ (7 * m)) (packed_none n) ∙ zero-div (2 ^ (7 * m))
packed_short zero (f ∷ fs) m h = zero-div (2 ^ (7 * m))
packed_short (suc n) (f ∷ fs) zero h = absurd (omega arith)
packed_short (suc n) (f ∷ fs) (suc m) h =
    later_field (f % 128 + 128 * packed n fs) m ∙ ap (λ w. w / 2 ^ (7 * m)) (packed_later f (packed n fs)) ∙ packed_short n fs m (omega arith)

-- what has nothing behind n fields has nothing behind more
past_later : (w n m : ℕ) → w / 2 ^ (7 * n) ≡ 0 → n ≤ m → w / 2 ^ (7 * m) ≡ 0
past_later w n m z h =
    ap (λ k. w / 2 ^ k) (let e : 7 * m ≡ 7 * n + 7 * (m - n) = omega arith in e)
    ∙ sym (shr-shr w (7 * n) (7 * (m - n))) ∙ ap (λ x. x / 2 ^ (7 * (m - n))) z ∙ zero-div (2 ^ (7 * (m - n)))

-- a word that has these fields, and nothing behind its first n
packed_back : (n w : ℕ) (fs : List ℕ) → w / 2 ^ (7 * n) ≡ 0 → ((j : ℕ) → j < n → word_field w j ≡ get_or fs j 0) → packed n fs ≡ w
unfolding packed word_field
packed_back zero w fs z h = sym (sym (div-one w) ∙ z)
packed_back (suc n) w fs z h =
    let first : w % 128 ≡ get_or fs 0 0 = ap (λ x. x % 128) (sym (div-one w)) ∙ h 0 (omega arith) in
    let later : packed n (drop 1 fs) ≡ w / 128
    = packed_back n (w / 128) (drop 1 fs) (sym (later_field w n) ∙ z)
    (λ j l. ap (λ x. x % 128) (sym (later_field w j)) ∙ h (suc j) (omega arith) ∙ sym (rest_at fs j)) in
    omega arith

-- the word of a line, from its fields
pub packed_line : (w n : ℕ) (fs : List ℕ) → n ≤ 9 → length fs ≡ n → w / 2 ^ (7 * n) ≡ 0 → ((j : ℕ) → j < n → word_field w j ≡ get_or fs j 0) → packed 9 fs ≡ w
unfolding word_field
packed_line w n fs l e z h = packed_back 9 w fs (past_later w n 9 z l) (λ j b. go j (dec_lt j n))
  where
    go : (j : ℕ) → Dec (j < n) → word_field w j ≡ get_or fs j 0
    go j (yes d) = h j d
    go j (no d) = ap (λ x. x % 128) (past_later w n j z (omega arith)) ∙ sym (get_or-eq_default fs 0 {n = j} (omega arith))

-- ---- a stored line
module _ (t : List ℕ) (p : ℕ) (fs : List ℕ) where
  pub length_stored : length (stored t p fs) ≡ length t
  unfolding stored
  length_stored = length-set t p (packed 9 fs)

  pub stored_same : p < length t → get_or (stored t p fs) p 0 ≡ packed 9 fs
  unfolding stored
  stored_same fits = get_or-set_same t p (packed 9 fs) 0 fits

  pub stored_other : (q : ℕ) → q ≢ p → get_or (stored t p fs) q 0 ≡ get_or t q 0
  unfolding stored
  stored_other q n = get_or-set_other t p q (packed 9 fs) 0 n

  -- fields of seven bits are read as they were stored
  pub field_stored_same : p < length t → ((j : ℕ) → get_or fs j 0 < 128) → (j : ℕ) → j < 9 → line_field (stored t p fs) p j ≡ get_or fs j 0
  unfolding line_field
  field_stored_same fits small j h =
      ap (λ w. word_field w j) (stored_same fits) ∙ packed_field 9 fs j h ∙ omega (arith, small j)

  pub field_stored_other : (q j : ℕ) → q ≢ p → line_field (stored t p fs) q j ≡ line_field t q j
  field_stored_other q j n = same_line (stored t p fs) t q j (stored_other q n)

-- ---- a table with more behind it: what stands there is not looked at
module _ (c rest : List ℕ) where
  pub field_front : (q j : ℕ) → q < length c → line_field (c ++ rest) q j ≡ line_field c q j
  field_front q j h = same_line (c ++ rest) c q j (get_or-append c rest 0 q h)

  pub stored_longer : (p : ℕ) (fs : List ℕ) → p < length c → stored (c ++ rest) p fs ≡ stored c p fs ++ rest
  unfolding stored
  stored_longer p fs h = set-append_left c rest p (packed 9 fs) h

-- a cleared table has zeros
pub cleared : (n q : ℕ) → ◌≡◌ {A = ℕ} (get_or (replicate n 0) q 0) 0
cleared n q = go (dec_lt q n)
  where
    go : Dec (q < n) → ◌≡◌ {A = ℕ} (get_or (replicate n 0) q 0) 0
    go (yes l) = get_or-replicate n q 0 0 l
    go (no l) = get_or-eq_default (replicate n 0) 0 {n = q} (omega (arith, length-replicate {A = ℕ} n 0))

-- ---- places
-- the lines of a grammar file, and of a graph file
unfoldable pub of_grammar : Due → Bool
of_grammar Grammar = true
of_grammar (Symbol s) = true
of_grammar (Rule r) = true
of_grammar (RuleEdge r i) = true
of_grammar (PlanLine r q) = true
of_grammar Graph = false
of_grammar (GraphEdge e) = false
of_grammar Nothing = false

unfoldable pub of_graph : Due → Bool
of_graph Grammar = false
of_graph (Symbol s) = false
of_graph (Rule r) = false
of_graph (RuleEdge r i) = false
of_graph (PlanLine r q) = false
of_graph Graph = true
of_graph (GraphEdge e) = true
of_graph Nothing = false

both_below : (a b m n : ℕ) → (ltb a m && ltb b n) ≡ true → (a < m) × (b < n)
both_below a b m n = go (ltb a m) refl
  where
    go : (x : Bool) → ltb a m ≡ x → (x && ltb b n) ≡ true → (a < m) × (b < n)
    go true e h = (ltb-true a m e, ltb-true b n h)
    go false e h = absurd (false≢true h)

pub place_inside : (d : Due) → in_table d ≡ true → of_grammar d ≡ true → place_of d < grammar_words
unfolding place_of in_table of_grammar
place_inside Grammar h l = omega arith
place_inside (Symbol s) h l = omega (arith, ltb-true s 64 h)
place_inside (Rule r) h l = omega (arith, ltb-true r 64 h)
place_inside (RuleEdge r i) h l = omega (arith, both_below r i 64 8 h)
place_inside (PlanLine r q) h l = omega (arith, both_below r q 64 16 h)
place_inside Graph h l = absurd (false≢true l)
place_inside (GraphEdge e) h l = absurd (false≢true l)
place_inside Nothing h l = absurd (false≢true l)

pub graph_place_inside : (d : Due) → in_table d ≡ true → of_graph d ≡ true → place_of d < graph_words
unfolding place_of in_table of_graph
graph_place_inside Grammar h l = absurd (false≢true l)
graph_place_inside (Symbol s) h l = absurd (false≢true l)
graph_place_inside (Rule r) h l = absurd (false≢true l)
graph_place_inside (RuleEdge r i) h l = absurd (false≢true l)
graph_place_inside (PlanLine r q) h l = absurd (false≢true l)
graph_place_inside Graph h l = omega arith
graph_place_inside (GraphEdge e) h l = omega (arith, ltb-true e 64 h)
graph_place_inside Nothing h l = absurd (false≢true l)

-- ---- different lines of one file stand at different places: a place tells its line
-- how far behind its R line the E lines and the P lines of a rule start
abbrev edges_behind : ℕ
edges_behind = edges_from 0 - rule_place 0

abbrev plans_behind : ℕ
plans_behind = plans_from 0 - rule_place 0

rule_line : ℕ → ℕ → Due
rule_line r k = cond (eqb k 0) (Rule r) (cond (ltb k plans_behind) (RuleEdge r (k - edges_behind)) (PlanLine r (k - plans_behind)))

grammar_line : ℕ → Due
grammar_line p =
    cond (eqb p 0) Grammar
    (cond (ltb p (rule_place 0)) (Symbol (p - symbol_place 0)) (rule_line ((p - rule_place 0) / rule_stride) ((p - rule_place 0) % rule_stride)))

graph_line : ℕ → Due
graph_line p = cond (eqb p 0) Graph (GraphEdge (p - graph_edge_place 0))

first_line_lem : grammar_line 0 ≡ Grammar
unfolding grammar_line
first_line_lem = refl

symbol_line : (s : ℕ) → s < 64 → grammar_line (symbol_place s) ≡ Symbol s
unfolding grammar_line
symbol_line s h =
    let same : symbol_place s - symbol_place 0 ≡ s = omega arith in
    rw (ne_eqb (symbol_place s) 0 (λ z. omega arith), lt-ltb (symbol_place s) (rule_place 0) (omega arith), same)

rule_line_lem : (p r k : ℕ) → p ≡ rule_place r + k → k < rule_stride → grammar_line p ≡ rule_line r k
unfolding grammar_line
rule_line_lem p r k e h =
    let rule : (p - rule_place 0) / rule_stride ≡ r = omega arith in
    let line : (p - rule_place 0) % rule_stride ≡ k = omega arith in
    rw (ne_eqb p 0 (λ z. omega arith), le-ltb p (rule_place 0) (omega arith), rule, line)

line_there : (d : Due) → in_table d ≡ true → of_grammar d ≡ true → grammar_line (place_of d) ≡ d
unfolding place_of in_table of_grammar rule_line
line_there Grammar h l = first_line_lem
line_there (Symbol s) h l = symbol_line s (ltb-true s 64 h)
line_there (Rule r) h l = rule_line_lem (rule_place r) r 0 (omega arith) (omega arith)
line_there (RuleEdge r i) h l =
    let two = both_below r i 64 8 h in
    let same : edges_behind + i - edges_behind ≡ i = omega arith in
    rule_line_lem (edge_place r i) r (edges_behind + i) (omega arith) (omega arith)
    ∙ rw (ne_eqb (edges_behind + i) 0 (λ z. omega arith), lt-ltb (edges_behind + i) plans_behind (omega arith), same)
line_there (PlanLine r q) h l =
    let two = both_below r q 64 16 h in
    let same : plans_behind + q - plans_behind ≡ q = omega arith in
    rule_line_lem (plan_place r q) r (plans_behind + q) (omega arith) (omega arith)
    ∙ rw (ne_eqb (plans_behind + q) 0 (λ z. omega arith), le-ltb (plans_behind + q) plans_behind (omega arith), same)
line_there Graph h l = absurd (false≢true l)
line_there (GraphEdge e) h l = absurd (false≢true l)
line_there Nothing h l = absurd (false≢true l)

graph_line_there : (d : Due) → of_graph d ≡ true → graph_line (place_of d) ≡ d
unfolding place_of of_graph graph_line
graph_line_there Grammar l = absurd (false≢true l)
graph_line_there (Symbol s) l = absurd (false≢true l)
graph_line_there (Rule r) l = absurd (false≢true l)
graph_line_there (RuleEdge r i) l = absurd (false≢true l)
graph_line_there (PlanLine r q) l = absurd (false≢true l)
graph_line_there Graph l = refl
graph_line_there (GraphEdge e) l =
    let same : graph_edge_place e - graph_edge_place 0 ≡ e = omega arith in
    rw (ne_eqb (graph_edge_place e) 0 (λ z. omega arith), same)
graph_line_there Nothing l = absurd (false≢true l)

pub place_apart : (a b : Due) → in_table a ≡ true → in_table b ≡ true → of_grammar a ≡ true → of_grammar b ≡ true → place_of a ≡ place_of b → a ≡ b
place_apart a b h k l m e = sym (line_there a h l) ∙ ap grammar_line e ∙ line_there b k m

pub graph_place_apart : (a b : Due) → of_graph a ≡ true → of_graph b ≡ true → place_of a ≡ place_of b → a ≡ b
graph_place_apart a b l m e = sym (graph_line_there a l) ∙ ap graph_line e ∙ graph_line_there b m
