-- Tables that pass question 8 hold a well-formed grammar and graph. A lent table may be longer than the largest
-- grammar or graph: what stands behind is never looked at.
use mathlib.Core.Path.{◌≡◌, refl, sym, ap, ◌∙◌, subst}
use mathlib.Core.Bool.{true, false≢true}
use mathlib.Core.List.{List, [], ◌++◌}
use Prim.Native.Nat.{ℕ, suc, ◌≤◌}
use native.Mathlib.Omega.{arith}
use lib.ListN.{length, take, drop, replicate, length-append, length-replicate, take-append-drop}
use lib.Dec.{leb}
use Rattle.hrg.specs.ClosureRun.{same_list}
use Rattle.hrg.specs.WellFormed.{GrammarOk, GraphOk}
use Rattle.hrg.proofs.ClosureRun.{list_eq}
use Rattle.hrg.proofs.Degrees.{test_T}
use Rattle.questions.specs.Layout.{place_of, stored, grammar_words, graph_words}
use Rattle.questions.specs.Reading.{next, Verdict, refused, accepted}
use Rattle.questions.specs.Checking.{check_lines, filled_by, check_grammar, check_graph}
use Rattle.questions.specs.Abstract.{grammar_of, graph_of}
use Rattle.questions.specs.Walk.{Room, Walk, done, line}
use Rattle.questions.specs.declared.Due.{Due}
use Rattle.questions.specs.declared.Due.TheVariants.{Grammar, Graph}
use Rattle.questions.proofs.StoredLaws.{length_stored, field_front, stored_longer}
use Rattle.questions.proofs.WellFormedWalk.{and_snd, room_place, room_next, judged_line, Before, judge_agree, next_agree, before_next, walk_lines}
use Rattle.questions.proofs.WellFormedReading.{check_walk, GrammarStands, grammar_stands, GraphStands, graph_stands}
use Rattle.questions.proofs.WellFormedAccepted.{standing_ok}
use Rattle.questions.proofs.WellFormedGraph.{standing_graph_ok}

-- ---- a table with more behind it: the same lines lead through it
pub walk_longer : {g t c : List ℕ} {d : Due} {fss : List (List ℕ)} (rest : List ℕ) → Walk g t c d fss → Room (length c) d → Before c d → Walk g (t ++ rest) (c ++ rest) d fss
walk_longer rest done m b = done
walk_longer {g} {t} rest (line {c} {due} {fs} {fss} h w) m b =
    let k = judged_line g c due fs h in
    let p = place_of due in
    let fits = room_place (length c) due m in
    let c' = stored c p fs in
    let size = length_stored c p fs in
    let m' = room_next (length c') c' due (rw size m) in
    let judged = sym (judge_agree g c (c ++ rest) due fs b (λ q j l i. sym (field_front c rest q j (omega arith)))) ∙ h in
    let order : next c' due ≡ next (c' ++ rest) due = next_agree c' (c' ++ rest) due (λ q j l i. sym (field_front c' rest q j (omega arith))) in
    let further = walk_longer rest w m' (before_next g c due fs m b h) in
    line judged
    (subst (λ (u : List ℕ). Walk g (t ++ rest) u (next u due) fss) (sym (stored_longer c rest p fs fits))
    (subst (λ (d : Due). Walk g (t ++ rest) (c' ++ rest) d fss) order further))

-- ---- a table that passes the check
-- the table is what its lines lead to, and what stands behind
passed_check : (size : ℕ) (t : List ℕ) (v : Verdict) → filled_by size t v ≡ true → (c : List ℕ) × (v ≡ accepted c) × (c ++ drop size t ≡ t)
passed_check size t (refused k) h = absurd (false≢true h)
passed_check size t (accepted c) h =
    let same = list_eq c (take size t) (test_T (same_list c (take size t)) (and_snd (leb size (length t)) (same_list c (take size t)) h)) in
    (c, refl, ap (λ (l : List ℕ). l ++ drop size t) same ∙ take-append-drop size t)

zeros : (n : ℕ) → length (replicate {A = ℕ} n 0) ≡ n
zeros n = length-replicate {A = ℕ} n 0

longer : (n : ℕ) (rest : List ℕ) → n ≤ length (replicate {A = ℕ} n 0 ++ rest)
longer n rest = omega (arith, zeros n, length-append (replicate {A = ℕ} n 0) rest)

-- its lines stand in it
pub checked_grammar_stands : (t : List ℕ) → check_grammar t ≡ true → GrammarStands t
unfolding check_grammar
checked_grammar_stands t h =
    let (c, v, e) = passed_check grammar_words t (check_lines (suc grammar_words) [] t (replicate grammar_words 0) Grammar) h in
    let (fss, w) = check_walk (suc grammar_words) [] t (replicate grammar_words 0) c Grammar v in
    let w' = walk_longer (drop grammar_words t) w (omega (arith, zeros grammar_words)) tt in
    subst GrammarStands e (grammar_stands (c ++ drop grammar_words t) (walk_lines w' (longer grammar_words (drop grammar_words t)) tt))

pub checked_graph_stands : (g t : List ℕ) → check_graph g t ≡ true → GraphStands g t
unfolding check_graph
checked_graph_stands g t h =
    let (c, v, e) = passed_check graph_words t (check_lines (suc graph_words) g t (replicate graph_words 0) Graph) h in
    let (fss, w) = check_walk (suc graph_words) g t (replicate graph_words 0) c Graph v in
    let w' = walk_longer (drop graph_words t) w (omega (arith, zeros graph_words)) tt in
    subst (GraphStands g) e (graph_stands g (c ++ drop graph_words t) (walk_lines w' (longer graph_words (drop graph_words t)) tt))

-- so that it is a well-formed grammar or graph
pub checked_grammar_ok : (t : List ℕ) → check_grammar t ≡ true → GrammarOk (grammar_of t)
checked_grammar_ok t h = standing_ok t (checked_grammar_stands t h)

pub checked_graph_ok : (g t : List ℕ) → check_grammar g ≡ true → check_graph g t ≡ true → GraphOk (grammar_of g) (graph_of g t)
checked_graph_ok g t k h = standing_graph_ok g t (checked_graph_stands g t h) (checked_grammar_ok g k)
