-- Which refusal comes first (a line whose fixed fields are not all there is 3, a grammar table that fails question 8
-- is 8 whatever the graph text), and what a refusal leaves: every word of the lent table.
use mathlib.Core.Path.{◌≡◌, refl, sym, ap, ◌∙◌}
use mathlib.Core.Bool.{Bool, true, false, cond, false≢true}
use mathlib.Core.List.{List}
use Prim.Native.Nat.{ℕ, ◌+◌, ◌≤◌, ◌<◌}
use native.Mathlib.Omega.{arith}
use lib.ListN.{length}
use lib.Dec.{T, leb, leb→le}
use denote.Enum.Declared.{tag_of}
use Rattle.questions.specs.contracts.Refusal.{the_type}
use Rattle.std.specs.Prelude.{⊤, Result, Ok, Err, is_err}
use Rattle.questions.specs.Refusing.{number_of, number_in}
use Rattle.questions.specs.declared.Refusal.{Refusal}
use Rattle.questions.specs.declared.Refusal.TheVariants.{Shape, Letter, Fields, Count, Nodes, Uncovered, Plan, Unfit}
use Rattle.questions.specs.Layout.{grammar_words, graph_words}
use Rattle.questions.specs.Questions.{judge_grammar, judge_symbol, judge_rule, judge_rule_edge, judge_plan, judge_graph, judge_graph_edge, judge}
use Rattle.questions.specs.Reading.{Verdict, refused, accepted, Outcome, delivered, grammar_verdict, graph_verdict, read_grammar, Done, Refused}
use Rattle.questions.specs.Checking.{check_grammar, read_graph}
use Rattle.questions.proofs.WellFormedWalk.{IsLine}
use Rattle.questions.specs.declared.Due.{Due}
use Rattle.questions.specs.declared.Due.TheVariants.{Grammar, Symbol, Rule, RuleEdge, PlanLine, Graph, GraphEdge, Nothing}

-- ---- the number of a refusal is the code's, and not 0
pub number_cast : (r : Refusal) → tag_of the_type r + 1 ≡ number_of r
number_cast Shape = refl
number_cast Letter = refl
number_cast Fields = refl
number_cast Count = refl
number_cast Nodes = refl
number_cast Uncovered = refl
number_cast Plan = refl
number_cast Unfit = refl

pub number_some : (r : Refusal) → number_of r ≡ 0 → ⊥
number_some Shape e = absurd (omega arith)
number_some Letter e = absurd (omega arith)
number_some Fields e = absurd (omega arith)
number_some Count e = absurd (omega arith)
number_some Nodes e = absurd (omega arith)
number_some Uncovered e = absurd (omega arith)
number_some Plan e = absurd (omega arith)
number_some Unfit e = absurd (omega arith)

pub err_some : (r : Result ⊤ Refusal) (b : Bool) → b ≡ is_err r → b ≡ true → number_in r ≡ 0 → ⊥
err_some (Ok x) b e t = absurd (false≢true (sym e ∙ t))
err_some (Err k) b e t = number_some k

pub ok_none : (r : Result ⊤ Refusal) (b : Bool) → b ≡ is_err r → b ≡ false → number_in r ≡ 0
ok_none (Ok x) b e f = refl
ok_none (Err k) b e f = absurd (false≢true (sym f ∙ e))

-- ---- the fixed fields of a line
abbrev pub fixed_fields : Due → ℕ
fixed_fields Grammar = 3
fixed_fields (Symbol s) = 3
fixed_fields (Rule r) = 5
fixed_fields (RuleEdge r i) = 1
fixed_fields (PlanLine r q) = 3
fixed_fields Graph = 2
fixed_fields (GraphEdge e) = 1
fixed_fields Nothing = 0

short_test : (n m : ℕ) → m < n → leb n m ≡ false
short_test n m h = go (leb n m) (leb→le n m)
  where
    go : (b : Bool) → (T b → n ≤ m) → b ≡ false
    go true f = absurd (omega (arith, f tt))
    go false f = refl

pub missing_refused : (g t : List ℕ) (due : Due) (fs : List ℕ) → IsLine due → length fs < fixed_fields due → judge g t due fs ≡ 3
unfolding judge judge_grammar judge_symbol judge_rule judge_rule_edge judge_plan judge_graph judge_graph_edge
missing_refused g t Grammar fs l h = rw (short_test 3 (length fs) h) refl
missing_refused g t (Symbol s) fs l h = rw (short_test 3 (length fs) h) refl
missing_refused g t (Rule r) fs l h = rw (short_test 5 (length fs) h) refl
missing_refused g t (RuleEdge r i) fs l h = rw (short_test 1 (length fs) h) refl
missing_refused g t (PlanLine r q) fs l h = rw (short_test 3 (length fs) h) refl
missing_refused g t Graph fs l h = rw (short_test 2 (length fs) h) refl
missing_refused g t (GraphEdge e) fs l h = rw (short_test 1 (length fs) h) refl
missing_refused g t Nothing fs l h = absurd l

-- ---- the graph reader judges the grammar table before the text: one that fails question 8 is refused 8, with one that passes the text decides
pub grammar_refused_first : (g text former : List ℕ) → check_grammar g ≡ false → read_graph g text former ≡ record { answer = Refused 8; table = former }
unfolding read_graph
grammar_refused_first g text former h = ap (λ (b : Bool). cond b (delivered graph_words (graph_verdict g text) former) (record { answer = Refused 8; table = former })) h

pub grammar_passed_first : (g text former : List ℕ) → check_grammar g ≡ true → read_graph g text former ≡ delivered graph_words (graph_verdict g text) former
unfolding read_graph
grammar_passed_first g text former h = ap (λ (b : Bool). cond b (delivered graph_words (graph_verdict g text) former) (record { answer = Refused 8; table = former })) h

-- ---- a refusal leaves every word of the lent table
either : (b : Bool) (done short : Outcome) (former : List ℕ) (k : ℕ) → (done.answer ≡ Refused k → done.table ≡ former) → short.table ≡ former
    → (cond b done short).answer ≡ Refused k → (cond b done short).table ≡ former
either true done short former k y n h = y h
either false done short former k y n h = n

pub refusal_keeps : (size : ℕ) (v : Verdict) (former : List ℕ) (k : ℕ) → (delivered size v former).answer ≡ Refused k → (delivered size v former).table ≡ former
unfolding delivered
refusal_keeps size (refused j) former k h = refl
refusal_keeps size (accepted t) former k h =
    either (leb size (length former)) _ _ former k (λ (e : Done ≡ Refused k). let z : ◌≡◌ {A = ℕ} 0 1 = cc in absurd (omega arith)) refl h

pub grammar_refusal_keeps : (text former : List ℕ) (k : ℕ) → (read_grammar text former).answer ≡ Refused k → (read_grammar text former).table ≡ former
unfolding read_grammar
grammar_refusal_keeps text former k h = refusal_keeps grammar_words (grammar_verdict text) former k h

pub graph_refusal_keeps : (g text former : List ℕ) (k : ℕ) → (read_graph g text former).answer ≡ Refused k → (read_graph g text former).table ≡ former
unfolding read_graph
graph_refusal_keeps g text former k h =
    either (check_grammar g) (delivered graph_words (graph_verdict g text) former) (record { answer = Refused 8; table = former }) former k
    (refusal_keeps graph_words (graph_verdict g text) former k) refl h
