-- An accepted grammar table is as long as the largest one.
use mathlib.Core.Path.{◌≡◌}
use mathlib.Core.Bool.{true}
use mathlib.Core.List.{List, []}
use Prim.Native.Nat.{ℕ, suc, ◌≤◌}
use native.Mathlib.Omega.{arith}
use lib.ListN.{length, take, replicate}
use lib.Dec.{leb}
use borrow.Author.Tests.{leb-true}
use Rattle.hrg.specs.ClosureRun.{same_list}
use Rattle.questions.specs.Layout.{grammar_words}
use Rattle.questions.specs.Reading.{Verdict, refused, accepted}
use Rattle.questions.specs.Checking.{check_lines, filled_by, check_grammar}
use Rattle.questions.specs.declared.Due.TheVariants.{Grammar}
use Rattle.layout.proofs.Fields.{and_true}

filled_length : (size : ℕ) (t : List ℕ) (v : Verdict) → filled_by size t v ≡ true → size ≤ length t
filled_length size t (refused k) e = absurd (let z : ◌≡◌ {A = ℕ} 0 1 = cc in omega arith)
filled_length size t (accepted c) e = leb-true size (length t) (and_true (leb size (length t)) (same_list c (take size t)) e).0

pub grammar_length : (g : List ℕ) → check_grammar g ≡ true → grammar_words ≤ length g
unfolding check_grammar
grammar_length g e = filled_length grammar_words g (check_lines (suc grammar_words) [] g (replicate grammar_words 0) Grammar) e
