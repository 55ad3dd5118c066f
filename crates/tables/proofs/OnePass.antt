-- Question 8's pass: the lines judged where they stand give the verdict of the lines judged and stored in a cleared
-- table.
use Prim.Native.Nat.{ℕ, zero, suc, ◌+◌, ◌*◌, ◌/◌, ◌^◌, ◌≤◌, ◌<◌}
use native.Mathlib.Omega.{arith}
use native.Mathlib.Decide.{dec_lt, ℕ_discrete}
use mathlib.Core.Path.{◌≡◌, refl, sym, ap, ◌∙◌, subst}
use mathlib.Core.Logic.{◌⊎◌, inl, inr}
use mathlib.Core.Bool.{Bool, true, false, false≢true}
use mathlib.Core.List.{List, []}
use lib.ListN.{length, get_or, take, replicate, length-take, length-replicate}
use lib.Seq.{get_or-take, ext_get_or}
use borrow.Author.Tests.{lt-leb}
use Rattle.hrg.specs.Counts.{tabulate}
use Rattle.hrg.proofs.Sums.{length_tabulate}
use Rattle.questions.specs.declared.Due.{Due}
use Rattle.questions.specs.declared.Due.TheVariants.{Grammar, Symbol, Rule, RuleEdge, PlanLine, Graph, GraphEdge, Nothing}
use Rattle.questions.specs.Layout.{symbol_place, rule_place, edge_place, place_of, line_field, packed, stored, grammar_words, graph_words, symbol_count, rank_at}
use Rattle.questions.specs.Questions.{judge_rule, judge_rule_edge, judge}
use Rattle.questions.specs.Reading.{Verdict, refused, accepted, when_done, go_on, next}
use Rattle.questions.specs.Checking.{fields_due, stored_fields, check_lines, filled_by, check_grammar, check_graph}
use Rattle.questions.specs.Walk.{Room}
use Rattle.questions.proofs.StoredLaws.{get_d_tabulate, packed_short, packed_line, length_stored, stored_same, stored_other, same_line, cleared as cleared_zero}
use Rattle.questions.proofs.WellFormedQuestions.{passes_rule, passes_edge}
use Rattle.questions.proofs.WellFormedWalk.{IsLine, reach, reach_line, room_place, room_next, next_forward, judged_line, Agree, Before, next_agree, judge_agree, before_next, walk_onward}
use Rattle.questions.proofs.WellFormedReading.{check_walk}
use Rattle.questions.proofs.Filled.{when_line, filled_by_lem, by_filled}
use Rattle.tables.specs.Concluding.{Zero, behind, Rest, last, line, Concludes}

-- a table that is too short
short_filled : (size : ℕ) (t : List ℕ) (v : Verdict) → length t < size → false ≡ filled_by size t v
short_filled size t (refused k) h = refl
short_filled size t (accepted c) h = rw (lt-leb size (length t) h)

-- ---- the lines passed
line_or_none : (d : Due) → IsLine d ⊎ (d ≡ Nothing)
line_or_none Grammar = inl tt
line_or_none (Symbol s) = inl tt
line_or_none (Rule r) = inl tt
line_or_none (RuleEdge r i) = inl tt
line_or_none (PlanLine r q) = inl tt
line_or_none Graph = inl tt
line_or_none (GraphEdge e) = inl tt
line_or_none Nothing = inr refl

when_none : (d : Due) → d ≡ Nothing → (v w : Verdict) → when_done d v w ≡ v
when_none d n v w = ap (λ (e : Due). when_done e v w) n

-- The lines before `due` stand in t as in the table c of the definition, whose other words are 0; `from` is the first
-- place behind them, and `left` counts a line for each place from there on, and one more.
record Passing (size : ℕ) (g t : List ℕ) (goal : Bool) (left : ℕ) (due : Due) (from : ℕ) : Type 0 where
  c : List ℕ
  inside : from ≤ size
  long : length c ≡ size
  room : Room size due
  before : Before c due
  same : (q : ℕ) → q < from → get_or c q 0 ≡ get_or t q 0
  clear : (q : ℕ) → from ≤ q → get_or c q 0 ≡ 0
  low : from ≤ reach due
  enough : size + 1 ≤ left + from
  verdict : filled_by size t (check_lines left g t c due) ≡ goal

-- a line has at most nine fields
fields_few : (g t : List ℕ) (due : Due) → fields_due g t t due ≤ 9
unfolding fields_due
fields_few g t Grammar = omega arith
fields_few g t (Symbol s) = omega arith
fields_few g t (Rule r) = omega arith
fields_few g t (RuleEdge r i) = omega arith
fields_few g t (PlanLine r q) = omega arith
fields_few g t Graph = omega arith
fields_few g t (GraphEdge e) = omega arith
fields_few g t Nothing = omega arith

pass_start : (size : ℕ) (g t : List ℕ) (left : ℕ) (first : Due) → Room size first → Before (replicate size 0) first → size + 1 ≤ left
    → Passing size g t (filled_by size t (check_lines left g t (replicate size 0) first)) left first 0
pass_start size g t left first room b e = record {
  c = replicate size 0;
  inside = omega arith;
  long = length-replicate {A = ℕ} size 0;
  room = room;
  before = b;
  same = λ q l. absurd (omega arith);
  clear = λ q l. cleared_zero size q;
  low = omega arith;
  enough = omega arith;
  verdict = refl;
}

not_goal : (goal : Bool) → (goal ≡ true → ⊥) → false ≡ goal
not_goal true h = absurd (h refl)
not_goal false h = refl

one_turn : (k : ℕ) (g t c : List ℕ) (due : Due)
    → check_lines (suc k) g t c due
    ≡ when_done due (accepted c) (go_on (judge g c due (stored_fields g c t due))
    (check_lines k g t (stored c (place_of due) (stored_fields g c t due)) (next (stored c (place_of due) (stored_fields g c t due)) due)))
unfolding check_lines
one_turn k g t c due = refl

filled_refused : (size : ℕ) (t : List ℕ) (k : ℕ) (v : Verdict) → (k ≡ 0 → ⊥) → filled_by size t (go_on k v) ≡ false
filled_refused size t zero v h = absurd (h refl)
filled_refused size t (suc k) v h = refl

-- ---- the fields of a line, by the ranks of c or by those of t: alike, or the line is refused by both
rule_far : (k : List ℕ) (r n : ℕ) (f : ℕ → ℕ) → symbol_count k ≤ 64 → 64 ≤ f 1 → judge_rule k r (tabulate (5 + n) f) ≡ 0 → ⊥
rule_far k r n f m l h = omega (arith, ((passes_rule k r (tabulate (5 + n) f)).sound h).symbol, get_d_tabulate (5 + n) f 1 0 (omega arith))

edge_far : (k : List ℕ) (r i n : ℕ) (f : ℕ → ℕ) → symbol_count k ≤ 64 → 64 ≤ f 0 → judge_rule_edge k r i (tabulate (1 + n) f) ≡ 0 → ⊥
edge_far k r i n f m l h = omega (arith, ((passes_edge k r i (tabulate (1 + n) f)).sound h).symbol, get_d_tabulate (1 + n) f 0 0 (omega arith))

module _ (g c t : List ℕ) where
  abbrev Alike : Due → Type 0
  Alike d = (stored_fields g c t d ≡ stored_fields g t t d) ⊎ ((judge g c d (stored_fields g c t d) ≡ 0 → ⊥) × (judge g t d (stored_fields g t t d) ≡ 0 → ⊥))

  rank_alike : (x p : ℕ) → x < 64 → rule_place 0 ≤ p → Agree c t p → rank_at c x ≡ rank_at t x
  rank_alike x p l h a = rw (a (symbol_place x) 2 (omega arith) (omega arith))

  rule_alike : (r : ℕ) → symbol_count c ≤ 64 → Agree c t (rule_place r) → Dec (line_field t (rule_place r) 1 < 64) → Alike (Rule r)
  unfolding stored_fields fields_due place_of judge
  rule_alike r b a (yes l) = inl (ap (λ n. tabulate (5 + n) (λ j. line_field t (rule_place r) j)) (rank_alike (line_field t (rule_place r) 1) (rule_place r) l (omega arith) a))
  rule_alike r b a (no l) =
      inr (
        rule_far c r (rank_at c (line_field t (rule_place r) 1)) (λ j. line_field t (rule_place r) j) b (omega arith),
        rule_far t r (rank_at t (line_field t (rule_place r) 1)) (λ j. line_field t (rule_place r) j) (omega (arith, a 0 0 (omega arith) (omega arith))) (omega arith),
      )

  edge_alike : (r i : ℕ) → symbol_count c ≤ 64 → Agree c t (edge_place r i) → Dec (line_field t (edge_place r i) 0 < 64) → Alike (RuleEdge r i)
  unfolding stored_fields fields_due place_of judge
  edge_alike r i b a (yes l) = inl (ap (λ n. tabulate (1 + n) (λ j. line_field t (edge_place r i) j)) (rank_alike (line_field t (edge_place r i) 0) (edge_place r i) l (omega arith) a))
  edge_alike r i b a (no l) =
      inr (
        edge_far c r i (rank_at c (line_field t (edge_place r i) 0)) (λ j. line_field t (edge_place r i) j) b (omega arith),
        edge_far t r i (rank_at t (line_field t (edge_place r i) 0)) (λ j. line_field t (edge_place r i) j) (omega (arith, a 0 0 (omega arith) (omega arith))) (omega arith),
      )

  fields_alike : (d : Due) → Before c d → Agree c t (place_of d) → Alike d
  unfolding stored_fields fields_due place_of
  fields_alike Grammar b a = inl refl
  fields_alike (Symbol s) b a = inl refl
  fields_alike (Rule r) b a = rule_alike r b a (dec_lt (line_field t (rule_place r) 1) 64)
  fields_alike (RuleEdge r i) b a = edge_alike r i b.0 a (dec_lt (line_field t (edge_place r i) 0) 64)
  fields_alike (PlanLine r q) b a = inl refl
  fields_alike Graph b a = inl refl
  fields_alike (GraphEdge e) b a = inl refl
  fields_alike Nothing b a = inl refl

-- ---- one turn
module _ (size : ℕ) (g t : List ℕ) (goal : Bool) (fits : size ≤ length t) (left : ℕ) (due : Due) (from : ℕ) (P : Passing size g t goal (suc left) due from) where
  abbrev c : List ℕ
  c = P.c

  -- where the table is one that a text filled, the words of t are those of c before the line that is due
  module _ (yes : goal ≡ true) where
    final : (u : List ℕ) × (check_lines (suc left) g t c due ≡ accepted u) × (size ≤ length t) × (u ≡ take size t)
    final = filled_by_lem size t (check_lines (suc left) g t c due) (P.verdict ∙ yes)

    as_before : (q : ℕ) → q < reach due → q < size → get_or t q 0 ≡ get_or c q 0
    as_before q l f =
        sym (get_or-take size t q 0 f) ∙ ap (λ (u : List ℕ). get_or u q 0) (sym final.3)
        ∙ sym ((walk_onward (check_walk (suc left) g t c final.0 due final.1).1 (subst (λ n. Room n due) (sym P.long) P.room)).same_words q l)

  -- nothing is due
  module _ (n : due ≡ Nothing) where
    ended : filled_by size t (accepted c) ≡ goal
    ended = sym (ap (filled_by size t) (one_turn left g t c due ∙ when_none due n _ _)) ∙ P.verdict

    same_word : Zero t from size → (q : ℕ) → q < size → Dec (q < from) → get_or c q 0 ≡ get_or t q 0
    same_word z q f (yes d) = P.same q d
    same_word z q f (no d) = P.clear q (omega arith) ∙ sym (z q (omega arith) f)

    whole : Zero t from size → c ≡ take size t
    whole z =
        ext_get_or 0 c (take size t) (P.long ∙ sym (length-take size t ∙ omega arith))
        (λ q f. same_word z q (omega (arith, P.long)) (dec_lt q from) ∙ sym (get_or-take size t q 0 (omega (arith, P.long))))

    cleared : c ≡ take size t → Zero t from size
    cleared e q a b = sym (get_or-take size t q 0 b) ∙ ap (λ (u : List ℕ). get_or u q 0) (sym e) ∙ P.clear q a

    own : goal ≡ true → c ≡ take size t
    own y = let f = filled_by_lem size t (accepted c) (ended ∙ y) in same f.0 f.1 ∙ f.3
      where
        same : (u : List ℕ) → accepted c ≡ accepted u → c ≡ u
        same u e = cc

    pass_last : goal ≡ true → Zero t from size
    pass_last y = cleared (own y)

    pass_whole : Zero t from size → goal ≡ true
    pass_whole z = sym ended ∙ by_filled size t c fits (whole z)

  -- a line is due
  module _ (is_line : IsLine due) where
    pass_at : place_of due < size
    pass_at = room_place size due P.room

    pass_clear : goal ≡ true → Zero t from (place_of due)
    pass_clear y q a k = as_before y q (omega (arith, reach_line due is_line)) (omega (arith, pass_at)) ∙ P.clear q a

    module _ (z : Zero t from (place_of due)) where
      same_before : (q : ℕ) → q < place_of due → get_or c q 0 ≡ get_or t q 0
      same_before q k = go (dec_lt q from)
        where
          go : Dec (q < from) → get_or c q 0 ≡ get_or t q 0
          go (yes d) = P.same q d
          go (no d) = P.clear q (omega arith) ∙ sym (z q (omega arith) k)

      agree : Agree c t (place_of due)
      agree q j k b = same_line c t q j (same_before q k)

      -- the fields by the ranks of c, and by those of t
      abbrev fsc : List ℕ
      fsc = stored_fields g c t due

      abbrev fs : List ℕ
      fs = stored_fields g t t due

      judged_c : (gs : List ℕ) → judge g c due gs ≡ judge g t due gs
      judged_c gs = judge_agree g c t due gs P.before agree

      turned : filled_by size t (go_on (judge g c due fsc) (check_lines left g t (stored c (place_of due) fsc) (next (stored c (place_of due) fsc) due))) ≡ goal
      turned = sym (ap (filled_by size t) (one_turn left g t c due ∙ when_line due is_line _ _)) ∙ P.verdict

      refused_c : (judge g c due fsc ≡ 0 → ⊥) → false ≡ goal
      refused_c h = sym (filled_refused size t (judge g c due fsc) _ h) ∙ turned

      pass_no : (judge g t due (stored_fields g t t due) ≡ 0 → ⊥) → false ≡ goal
      pass_no h = go (fields_alike g c t due P.before agree)
        where
          go : Alike g c t due → false ≡ goal
          go (inl a) = refused_c (λ y. h (sym (judged_c (stored_fields g t t due)) ∙ ap (judge g c due) (sym a) ∙ y))
          go (inr a) = refused_c a.0

      pass_judged : goal ≡ true → judge g t due (stored_fields g t t due) ≡ 0
      pass_judged y = go (ℕ_discrete (judge g t due (stored_fields g t t due)) 0)
        where
          go : Dec (judge g t due (stored_fields g t t due) ≡ 0) → judge g t due (stored_fields g t t due) ≡ 0
          go (yes e) = e
          go (no n) = absurd (false≢true (pass_no n ∙ y))

      -- a line that passes
      module _ (passed : judge g t due (stored_fields g t t due) ≡ 0) where
        same_fields : fsc ≡ fs
        same_fields = go (fields_alike g c t due P.before agree)
          where
            go : Alike g c t due → fsc ≡ fs
            go (inl a) = a
            go (inr a) = absurd (a.1 passed)

        passed_c : judge g c due fs ≡ 0
        passed_c = judged_c fs ∙ passed

        -- the line stored
        abbrev c' : List ℕ
        c' = stored c (place_of due) fs

        fits_c : place_of due < length c
        fits_c = omega (arith, pass_at, P.long)

        long_c : length c' ≡ size
        long_c = length_stored c (place_of due) fs ∙ P.long

        onward : filled_by size t (check_lines left g t c' (next c' due)) ≡ goal
        onward =
            sym (ap (λ (hs : List ℕ). filled_by size t (go_on (judge g c due hs) (check_lines left g t (stored c (place_of due) hs) (next (stored c (place_of due) hs) due)))) same_fields
            ∙ ap (λ (m : ℕ). filled_by size t (go_on m (check_lines left g t c' (next c' due)))) passed_c)
            ∙ turned

        room_c : (u : List ℕ) → Room size (next u due)
        room_c u = room_next size u due P.room

        forward : (u : List ℕ) → place_of due < reach (next u due)
        forward u = next_forward size u due is_line P.room

        length_fs : length fs ≡ fields_due g t t due
        unfolding stored_fields
        length_fs = length_tabulate (fields_due g t t due) (λ j. line_field t (place_of due) j)

        -- c has nothing behind the fields of the line
        pass_behind : goal ≡ true → behind t (place_of due) (fields_due g t t due) ≡ 0
        unfolding behind
        pass_behind y =
            let f = filled_by_lem size t (check_lines left g t c' (next c' due)) (onward ∙ y) in
            let w = (check_walk left g t c' f.0 (next c' due) f.1).1 in
            ap (λ x. x / 2 ^ (7 * fields_due g t t due))
            (sym (get_or-take size t (place_of due) 0 pass_at) ∙ ap (λ (u : List ℕ). get_or u (place_of due) 0) (sym f.3)
            ∙ sym ((walk_onward w (subst (λ m. Room m (next c' due)) (sym long_c) (room_c c'))).same_words (place_of due) (forward c'))
            ∙ stored_same c (place_of due) fs fits_c)
            ∙ packed_short 9 fs (fields_due g t t due) (omega (arith, length_fs))

        module _ (tail : behind t (place_of due) (fields_due g t t due) ≡ 0) where
          own_line : packed 9 fs ≡ get_or t (place_of due) 0
          unfolding behind stored_fields line_field
          own_line =
              packed_line (get_or t (place_of due) 0) (fields_due g t t due) fs (fields_few g t due) length_fs tail
              (λ j b. sym (get_d_tabulate (fields_due g t t due) (λ i. line_field t (place_of due) i) j 0 b))

          same_c : (q : ℕ) → q < suc (place_of due) → get_or c' q 0 ≡ get_or t q 0
          same_c q a = go (dec_lt q (place_of due))
            where
              go : Dec (q < place_of due) → get_or c' q 0 ≡ get_or t q 0
              go (yes d) = stored_other c (place_of due) fs q (λ x. omega arith) ∙ same_before q d
              go (no d) =
                  let same : q ≡ place_of due = omega arith in
                  ap (λ r. get_or c' r 0) same ∙ stored_same c (place_of due) fs fits_c ∙ own_line ∙ ap (λ r. get_or t r 0) (sym same)

          next_c : next c' due ≡ next t due
          next_c = next_agree c' t due (λ q j k b. same_line c' t q j (same_c q k))

          pass_next : Passing size g t goal left (next t due) (place_of due + 1)
          pass_next = subst (λ (d : Due). Passing size g t goal left d (place_of due + 1)) next_c (record {
            c = c';
            inside = omega (arith, pass_at);
            long = long_c;
            room = room_c c';
            before = before_next g c due fs (subst (λ m. Room m due) (sym P.long) P.room) P.before passed_c;
            same = λ q k. same_c q (omega arith);
            clear = λ q a. stored_other c (place_of due) fs q (λ x. omega arith) ∙ P.clear q (omega (arith, P.low, reach_line due is_line));
            low = omega (arith, forward c');
            enough = omega (arith, P.enough, P.low, reach_line due is_line);
            verdict = onward;
          })

-- ---- the verdict, and what stands in t
module _ (size : ℕ) (g t : List ℕ) (goal : Bool) (fits : size ≤ length t) where
  one_more : (left : ℕ) (due : Due) (from : ℕ) (P : Passing size g t goal (suc left) due from) → goal ≡ true
      → ((d : Due) (f : ℕ) → Passing size g t goal left d f → Rest size g t d f) → Rest size g t due from
  one_more left due from P y more = go (line_or_none due)
    where
      go : IsLine due ⊎ (due ≡ Nothing) → Rest size g t due from
      go (inl l) =
          let z = pass_clear size g t goal fits left due from P l y in
          let passed = pass_judged size g t goal fits left due from P l z y in
          let tail = pass_behind size g t goal fits left due from P l z passed y in
          line z (record { passed = passed; rest = tail }) (more (next t due) (place_of due + 1) (pass_next size g t goal fits left due from P l z passed tail))
      go (inr n) = subst (λ (d : Due). Rest size g t d from) (sym n) (last (pass_last size g t goal fits left due from P n y))

  stands_in : (left : ℕ) (due : Due) (from : ℕ) → Passing size g t goal left due from → goal ≡ true → Rest size g t due from
  stands_in zero due from P y = absurd (omega (arith, P.enough, P.inside))
  stands_in (suc left) due from P y = one_more left due from P y (λ d f Q. stands_in left d f Q y)

  in_order : (left : ℕ) (due : Due) (from : ℕ) → Rest size g t due from → Passing size g t goal left due from → goal ≡ true
  in_order zero due from r P = absurd (omega (arith, P.enough, P.inside))
  in_order (suc left) due from (last z) P = pass_whole size g t goal fits left due from P refl z
  in_order (suc left) due from (line z s r) P =
      in_order left (next t due) (place_of due + 1) r
      (pass_next size g t goal fits left due from P (judged_line g t due (stored_fields g t t due) s.passed) z s.passed s.rest)

-- the answer by what stands in t is the definition's
verdict_is : (size : ℕ) (g t : List ℕ) (left : ℕ) (first : Due) → size ≤ length t → Room size first → Before (replicate size 0) first → size + 1 ≤ left
    → (b : Bool) → Concludes size g t first 0 b → b ≡ filled_by size t (check_lines left g t (replicate size 0) first)
verdict_is size g t left first fits room before e true C = sym (in_order size g t _ fits left first 0 (C.yes refl) (pass_start size g t left first room before e))
verdict_is size g t left first fits room before e false C =
    not_goal _ (λ y. C.no refl (stands_in size g t _ fits left first 0 (pass_start size g t left first room before e) y))

-- ---- the two tables
pub grammar_short : (t : List ℕ) → length t < grammar_words → false ≡ check_grammar t
unfolding check_grammar
grammar_short t h = short_filled grammar_words t (check_lines (suc grammar_words) [] t (replicate grammar_words 0) Grammar) h

pub grammar_is : (t : List ℕ) → grammar_words ≤ length t → (b : Bool) → Concludes grammar_words [] t Grammar 0 b → b ≡ check_grammar t
unfolding check_grammar
grammar_is t fits b C = verdict_is grammar_words [] t (suc grammar_words) Grammar fits (omega arith) tt (omega arith) b C

pub graph_short : (g t : List ℕ) → length t < graph_words → false ≡ check_graph g t
unfolding check_graph
graph_short g t h = short_filled graph_words t (check_lines (suc graph_words) g t (replicate graph_words 0) Graph) h

pub graph_is : (g t : List ℕ) → graph_words ≤ length t → (b : Bool) → Concludes graph_words g t Graph 0 b → b ≡ check_graph g t
unfolding check_graph
graph_is g t fits b C = verdict_is graph_words g t (suc graph_words) Graph fits (omega arith) tt (omega arith) b C
