-- Question 8 for tables: the check passes exactly the tables that some text and some former contents could have filled.
use mathlib.Core.Path.{◌≡◌, refl, sym, ap, ap₂, ◌∙◌}
use mathlib.Core.Bool.{Bool, true, false, cond}
use mathlib.Core.List.{List, [], ◌++◌}
use Prim.Native.Nat.{ℕ, zero, suc, ◌+◌, ◌-◌, ◌≤◌, ◌<◌, min}
use native.Mathlib.Nat.{not-suc-le-zero}
use native.Mathlib.Omega.{arith}
use lib.ListN.{length, get_or, take, drop, replicate, length-replicate, length-append, take-append-drop}
use lib.Seq.{ext_get_or, get_or-take, take_at}
use lib.Dec.{ltb, leb, leb→le}
use Rattle.hrg.specs.Counts.{tabulate}
use Rattle.hrg.specs.ClosureRun.{same_list}
use Rattle.hrg.proofs.ClosureRun.{list_eq, list_same}
use Rattle.hrg.specs.WellFormedTest.{Decides}
use Rattle.hrg.proofs.WellFormedTest.{◌and◌, decides_le}
use Rattle.hrg.proofs.Sums.{length_tabulate}
use Rattle.hrg.proofs.Degrees.{test_T, T_test}
use Rattle.format.specs.Lines.{lines_of}
use Rattle.format.specs.Writing.{Writable, line_text}
use Rattle.questions.specs.Layout.{symbol_place, rule_place, edge_place, plan_place, graph_edge_place, place_of, line_field, stored, grammar_words, graph_words, symbol_count, rule_count, rule_edges, rule_plan, graph_edges, rank_at}
use Rattle.questions.specs.Questions.{judge}
use Rattle.questions.specs.Reading.{next, Verdict, refused, accepted, when_done, go_on, read_lines, grammar_verdict, graph_verdict, delivered, Outcome, read_grammar, Done, Refused}
use Rattle.questions.specs.Checking.{fields_due, stored_fields, check_lines, filled_by, check_grammar, check_graph, FilledGrammar, FilledGraph}
use Rattle.questions.specs.Walk.{Room, Walk, done, line}
use Rattle.questions.proofs.StoredLaws.{get_d_tabulate, length_stored, field_stored_same, same_line}
use Rattle.questions.proofs.WellFormedWalk.{IsLine, room_place, room_next, next_forward, judged_line, walk_onward, onward_agree}
use Rattle.questions.proofs.WellFormedReading.{read_walk, check_walk}
use Rattle.questions.proofs.Refusals.{grammar_refused_first, grammar_passed_first}
use Rattle.questions.proofs.TableTextLines.{letter_at, letter_capital, written_read, delivered_long}
use Rattle.questions.proofs.SmallFields.{count_due, judge_small}
use Rattle.questions.specs.declared.Due.{Due}
use Rattle.questions.specs.declared.Due.TheVariants.{Grammar, Symbol, Rule, RuleEdge, PlanLine, Graph, GraphEdge, Nothing}

pub when_line : (due : Due) → IsLine due → (a b : Verdict) → when_done due a b ≡ b
when_line Grammar l a b = refl
when_line (Symbol s) l a b = refl
when_line (Rule r) l a b = refl
when_line (RuleEdge r i) l a b = refl
when_line (PlanLine r q) l a b = refl
when_line Graph l a b = refl
when_line (GraphEdge e) l a b = refl
when_line Nothing l a b = absurd l

-- a line that is due has 1 to 9 fields
count_few : (g c : List ℕ) (due : Due) (fs : List ℕ) → IsLine due → (1 ≤ count_due g c due fs) × (count_due g c due fs ≤ 9)
count_few g c Grammar fs h = (omega arith, omega arith)
count_few g c (Symbol s) fs h = (omega arith, omega arith)
count_few g c (Rule r) fs h = (omega arith, omega arith)
count_few g c (RuleEdge r i) fs h = (omega arith, omega arith)
count_few g c (PlanLine r q) fs h = (omega arith, omega arith)
count_few g c Graph fs h = (omega arith, omega arith)
count_few g c (GraphEdge e) fs h = (omega arith, omega arith)
count_few g c Nothing fs h = absurd h

-- ---- from a walk to a text
pub record ReadBack (g c : List ℕ) (due : Due) (v : Verdict) : Type 0 where
  pub text : List ℕ
  pub read : read_lines g c due (lines_of text) ≡ v

-- the lines of a walk, written one after the other, are read as the walk goes
walk_text : {g t c : List ℕ} {d : Due} {fss : List (List ℕ)} (n : ℕ) → Walk g t c d fss → Room n d → ReadBack g c d (accepted t)
unfolding read_lines lines_of
walk_text n done m = record { text = []; read = refl }
walk_text {g} {t} n (line {c} {due} {fs} h w) m =
    let p = judge_small g c n due m fs h in
    let l = judged_line g c due fs h in
    let few = count_few g c due fs l in
    let writable : Writable (letter_at due) fs = record { capital = letter_capital due l; some = omega (arith, p.1, few.0); few = omega (arith, p.1, few.1); small = λ k. omega (arith, p.0 k) } in
    let c' = stored c (place_of due) fs in
    let back = walk_text n w (room_next n c' due m) in
    record { text = line_text (letter_at due) fs ++ back.text; read = written_read g c due fs back.text h writable ∙ back.read }

-- ---- from a walk to the check
-- at most so many lines are left
abbrev left : Due → ℕ
left Grammar = grammar_words
left (Symbol s) = grammar_words - symbol_place s
left (Rule r) = grammar_words - rule_place r
left (RuleEdge r i) = grammar_words - edge_place r i
left (PlanLine r q) = grammar_words - plan_place r q
left Graph = graph_words
left (GraphEdge e) = graph_words - graph_edge_place e
left Nothing = 0

cond_left : (k : ℕ) (b : Bool) (x y : Due) → left x < k → left y < k → left (cond b x y) < k
cond_left k true x y a c = a
cond_left k false x y a c = c

left_falls : (n : ℕ) (t : List ℕ) (d : Due) → IsLine d → Room n d → left (next t d) < left d
unfolding next
left_falls n t Grammar l h = omega arith
left_falls n t (Symbol s) l h = cond_left (grammar_words - symbol_place s) (ltb (s + 1) (min 64 (symbol_count t))) (Symbol (s + 1)) (Rule 0) (omega (arith, h.0)) (omega (arith, h.0))
left_falls n t (Rule r) l h = omega (arith, h.0)
left_falls n t (RuleEdge r i) l h = cond_left (grammar_words - edge_place r i) (ltb (i + 1) (min 8 (rule_edges t r))) (RuleEdge r (i + 1)) (PlanLine r 0) (omega (arith, h.0, h.1)) (omega (arith, h.0, h.1))
left_falls n t (PlanLine r q) l h =
    cond_left (grammar_words - plan_place r q) (ltb (q + 1) (min 16 (rule_plan t r))) (PlanLine r (q + 1)) (cond (ltb (r + 1) (min 64 (rule_count t))) (Rule (r + 1)) Nothing) (omega (arith, h.0, h.1)) (cond_left (grammar_words - plan_place r q) (ltb (r + 1) (min 64 (rule_count t))) (Rule (r + 1)) Nothing (omega (arith, h.0, h.1)) (omega (arith, h.0, h.1)))
left_falls n t Graph l h = omega arith
left_falls n t (GraphEdge e) l h = cond_left (graph_words - graph_edge_place e) (ltb (e + 1) (min 64 (graph_edges t))) (GraphEdge (e + 1)) Nothing (omega (arith, h.0)) (omega (arith, h.0))
left_falls n t Nothing l h = absurd l

-- the fields that a table holds at a place are those that were stored there
fields_stored : (g c t : List ℕ) (due : Due) (fs : List ℕ) → IsLine due → length fs ≡ count_due g c due fs → ((j : ℕ) → j < 9 → line_field t (place_of due) j ≡ get_or fs j 0) → stored_fields g c t due ≡ fs
unfolding stored_fields fields_due
fields_stored g c t due fs l n w =
    let same : fields_due g c t due ≡ length fs = count due w ∙ sym n in
    let few = count_few g c due fs l in
    let long = length_tabulate (fields_due g c t due) (λ j. line_field t (place_of due) j) in
    ext_get_or 0 (tabulate (fields_due g c t due) (λ j. line_field t (place_of due) j)) fs (long ∙ same)
    (λ j k. get_d_tabulate (fields_due g c t due) (λ j. line_field t (place_of due) j) j 0 (omega (arith, long)) ∙ w j (omega (arith, long, same, n, few.1)))
  where
    count : (due : Due) → ((j : ℕ) → j < 9 → line_field t (place_of due) j ≡ get_or fs j 0) → fields_due g c t due ≡ count_due g c due fs
    count Grammar w = refl
    count (Symbol s) w = refl
    count (Rule r) w = ap (λ (x : ℕ). 5 + rank_at c x) (w 1 (omega arith))
    count (RuleEdge r i) w = ap (λ (x : ℕ). 1 + rank_at c x) (w 0 (omega arith))
    count (PlanLine r q) w = refl
    count Graph w = refl
    count (GraphEdge e) w = ap (λ (x : ℕ). 1 + rank_at g x) (w 0 (omega arith))
    count Nothing w = refl

-- a table that has the fields of the walk's end passes the check
walk_check : {g u c : List ℕ} {d : Due} {fss : List (List ℕ)} (k : ℕ) (t : List ℕ) → Walk g u c d fss → Room (length c) d → left d < k
    → ((q j : ℕ) → q < length c → line_field t q j ≡ line_field u q j) → check_lines k g t c d ≡ accepted u
unfolding check_lines
walk_check zero t w m fuel same = absurd (not-suc-le-zero fuel)
walk_check (suc k) t done m fuel same = refl
walk_check {g} {u} (suc k) t (line {c} {due} {fs} h w) m fuel same =
    let l = judged_line g c due fs h in
    let p = place_of due in
    let fits = room_place (length c) due m in
    let c' = stored c p fs in
    let size = length_stored c p fs in
    let m' = room_next (length c') c' due (rw size m) in
    let s = judge_small g c (length c) due m fs h in
    let forward = next_forward (length c) c' due l m in
    let fields : stored_fields g c t due ≡ fs
    = fields_stored g c t due fs l s.1 (λ j b. same p j fits ∙ sym (onward_agree (walk_onward w m') p j forward b) ∙ field_stored_same c p fs fits s.0 j b) in
    when_line due l (accepted c) _
    ∙ ap (λ (x : List ℕ). go_on (judge g c due x) (check_lines k g t (stored c p x) (next (stored c p x) due))) fields
    ∙ ap₂ go_on h
    (walk_check {c = c'} k t w m' (omega (arith, left_falls (length c) c' due l m)) (λ q j a. same q j (rw size at a)))

-- ---- the theorems

passed : {b : Bool} {P : Type 0} → Decides b P → b ≡ true → P
passed {b} d q = d.sound (test_T b q)

any : (b : Bool) → Decides b (b ≡ true)
any b = record { sound = λ t. T_test b t; complete = λ q. test_T b q }

-- a check that passes gives the accepted table, and that it is the table's own words
pub filled_by_lem : (size : ℕ) (t : List ℕ) (v : Verdict) → filled_by size t v ≡ true → (c : List ℕ) × (v ≡ accepted c) × (size ≤ length t) × (c ≡ take size t)
filled_by_lem size t (refused k) q = absurd (test_T false q)
filled_by_lem size t (accepted c) q =
    let d = passed (decides_le size (length t) and any (same_list c (take size t))) q in
    (c, refl, d.0, list_eq c (take size t) (test_T (same_list c (take size t)) d.1))

pub by_filled : (size : ℕ) (t c : List ℕ) → size ≤ length t → c ≡ take size t → filled_by size t (accepted c) ≡ true
by_filled size t c l e =
    T_test _ ((decides_le size (length t) and any (same_list c (take size t))).complete (l, ap (λ (x : List ℕ). same_list x (take size t)) e ∙ list_same (take size t)))

abbrev done' : List ℕ → Outcome
done' t = record { answer = Done; table = t }

abbrev short : List ℕ → Outcome
short t = record { answer = Refused 8; table = t }

delivered_done : (size : ℕ) (v : Verdict) (former t : List ℕ) → delivered size v former ≡ done' t
    → (c : List ℕ) × (v ≡ accepted c) × (size ≤ length former) × (t ≡ c ++ drop size former)
unfolding delivered
delivered_done size (refused k) former t q = let e : Refused k ≡ Done = ap (λ (o : Outcome). o.answer) q in let z : ◌≡◌ {A = ℕ} 0 1 = cc in absurd (omega arith)
delivered_done size (accepted c) former t q = go (leb size (length former)) refl q
  where
    go : (b : Bool) → leb size (length former) ≡ b
        → cond b (done' (c ++ drop size former)) (short former) ≡ done' t
        → (c' : List ℕ) × (accepted c ≡ accepted c') × (size ≤ length former) × (t ≡ c' ++ drop size former)
    go true e q = (c, refl, leb→le size (length former) (test_T _ e), sym (ap (λ (o : Outcome). o.table) q))
    go false e q = let d : Refused 8 ≡ Done = ap (λ (o : Outcome). o.answer) q in let z : ◌≡◌ {A = ℕ} 0 1 = cc in absurd (omega arith)

-- the fields of a table are those of its beginning
pub field_take : (size : ℕ) (t : List ℕ) (p j : ℕ) → p < size → line_field (take size t) p j ≡ line_field t p j
field_take size t p j l = same_line (take size t) t p j (get_or-take size t p 0 l)

-- for one file: its size in words, its first line, and fuel for all of its lines
module _ (size fuel : ℕ) (first : Due) (room : Room size first) (enough : left first < fuel) (g : List ℕ) where
  zeros_room : Room (length (replicate {A = ℕ} size 0)) first
  zeros_room = rw (length-replicate {A = ℕ} size 0) room

  check_reads : (t : List ℕ) → filled_by size t (check_lines fuel g t (replicate size 0) first) ≡ true
      → (text : List ℕ) × (read_lines g (replicate size 0) first (lines_of text) ≡ accepted (take size t)) × (size ≤ length t)
  check_reads t q =
      let a = filled_by_lem size t _ q in
      let w = (check_walk fuel g t (replicate size 0) a.0 first a.1).1 in
      let b = walk_text size w room in
      (b.text, b.read ∙ ap accepted a.3, a.2)

  reads_check : (t text c former : List ℕ) → t ≡ c ++ drop size former → read_lines g (replicate size 0) first (lines_of text) ≡ accepted c
      → filled_by size t (check_lines fuel g t (replicate size 0) first) ≡ true
  reads_check t text c former e q =
      let w = read_walk g c (replicate size 0) first (lines_of text) q in
      let long : length c ≡ size = (walk_onward w zeros_room).same_length ∙ length-replicate {A = ℕ} size 0 in
      let fits : size ≤ length t = omega (arith, ap length e, length-append c (drop size former)) in
      let own : c ≡ take size t = sym (ap (take size) e ∙ take_at c (drop size former) size long) in
      let same : (q j : ℕ) → q < length (replicate {A = ℕ} size 0) → line_field t q j ≡ line_field c q j
      = λ q j a. sym (ap (λ (x : List ℕ). line_field x q j) own ∙ field_take size t q j (omega (arith, length-replicate {A = ℕ} size 0))) in
      ap (filled_by size t) (walk_check fuel t w zeros_room enough same) ∙ by_filled size t c fits own

-- Question 8 of a grammar table.
pub check_grammar_filled : (t : List ℕ) → check_grammar t ≡ true → FilledGrammar t
unfolding check_grammar read_grammar grammar_verdict
check_grammar_filled t q =
    let a = check_reads grammar_words (suc grammar_words) Grammar (omega arith) (omega arith) [] t q in
    record {
      text = a.0;
      former = t;
      read = ap (λ (v : Verdict). delivered grammar_words v t) a.1 ∙ delivered_long grammar_words (accepted (take grammar_words t)) (take grammar_words t) t refl a.2 ∙ ap done' (take-append-drop grammar_words t);
    }

pub grammar_filled_check : (t : List ℕ) → FilledGrammar t → check_grammar t ≡ true
unfolding check_grammar read_grammar grammar_verdict
grammar_filled_check t f =
    let a = delivered_done grammar_words (grammar_verdict f.text) f.former t f.read in
    reads_check grammar_words (suc grammar_words) Grammar (omega arith) (omega arith) [] t f.text a.0 f.former a.3 a.1

-- Question 8 of a graph table, with an accepted grammar table.
pub check_graph_filled : (g t : List ℕ) → check_grammar g ≡ true → check_graph g t ≡ true → FilledGraph g t
unfolding check_graph graph_verdict
check_graph_filled g t ok q =
    let a = check_reads graph_words (suc graph_words) Graph (omega arith) (omega arith) g t q in
    record {
      text = a.0;
      former = t;
      read = grammar_passed_first g a.0 t ok
          ∙ ap (λ (v : Verdict). delivered graph_words v t) a.1 ∙ delivered_long graph_words (accepted (take graph_words t)) (take graph_words t) t refl a.2 ∙ ap done' (take-append-drop graph_words t);
    }

pub graph_filled_check : (g t : List ℕ) → FilledGraph g t → (check_grammar g ≡ true) × (check_graph g t ≡ true)
unfolding check_graph graph_verdict
graph_filled_check g t f = go (check_grammar g) refl
  where
    go : (b : Bool) → check_grammar g ≡ b → (check_grammar g ≡ true) × (check_graph g t ≡ true)
    go false e =
        let d : Refused 8 ≡ Done = ap (λ (o : Outcome). o.answer) (sym (grammar_refused_first g f.text f.former e) ∙ f.read) in
        let z : ◌≡◌ {A = ℕ} 0 1 = cc in
        absurd (omega arith)
    go true e =
        let a = delivered_done graph_words (graph_verdict g f.text) f.former t (sym (grammar_passed_first g f.text f.former e) ∙ f.read) in
        (e, reads_check graph_words (suc graph_words) Graph (omega arith) (omega arith) g t f.text a.0 f.former a.3 a.1)
