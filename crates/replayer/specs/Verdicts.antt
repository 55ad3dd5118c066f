-- Questions 8 and 13: what `replay` answers, for every input.
use Rattle.std.specs.Prelude.{◌≡◌, ◌↔◌, Bool, false, cond, ◌&&◌, List, ℕ, Result, Ok, Err}
use Rattle.questions.specs.Checking.{check_grammar, check_graph}
use Rattle.questions.specs.Abstract.{grammar_of, graph_of}
use Rattle.joins.specs.Joins.{Accepted}
use Rattle.derivation.specs.Derivations.{replay_text, DerivationOf}
use Rattle.replayer.specs.declared.ReplayError.{ReplayError}
use Rattle.replayer.specs.declared.ReplayError.TheVariants.{Unfit, NoDerivation}

-- what `replay` answers: the file is a derivation of the graph, or why it does not pass
abbrev pub Verdict : Type 0
Verdict = Result (Unit {0}) ReplayError

-- 01's number of each answer, 0 for a pass
abbrev pub number_of : Verdict → ℕ
number_of (Err Unfit) = 8
number_of (Err NoDerivation) = 13
number_of (Ok tt) = 0

-- question 8: could an accepted grammar text and a graph text read with it have filled the tables?
unfoldable pub fit_tables : List ℕ → List ℕ → Bool
fit_tables g h = check_grammar g && check_graph g h

unfoldable pub replay_of : List ℕ → List ℕ → List ℕ → Verdict
unfolding fit_tables replay_text
replay_of g h text = cond (fit_tables g h) (cond (replay_text (grammar_of g) (graph_of g h) text) (Ok tt) (Err NoDerivation)) (Err Unfit)

-- A pass is said of exactly the texts of derivations of the graph, and 8 of exactly the tables that no texts have
-- filled.
pub record Exact (g h text : List ℕ) (r : Verdict) : Type 0 where
  pub unfit : (number_of r ≡ 8) ↔ (fit_tables g h ≡ false)
  pub passed : (number_of r ≡ 0) ↔ (Accepted g h × DerivationOf (grammar_of g) (graph_of g h) text)
