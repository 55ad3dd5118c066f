-- What the functions below `write` leave.
use Rattle.std.specs.Prelude.{◌≡◌, cond, List, ℕ, Err}
use Rattle.hrg.specs.Grammars.{Graph, Grammar}
use Rattle.derivation.specs.Derivations.{replay_text}
use Rattle.writing.specs.Writing.{Wrote, refused, write_text, Answer}
use Rattle.writing.specs.declared.WriteError.TheVariants.{Unfit}

-- an answer and the output's bytes are those of a writing
pub record Leaves (wrote : Wrote) (a : Answer) (out : List ℕ) : Type 0 where
  pub answer : a ≡ wrote.answer
  pub bytes : out ≡ wrote.out

-- a text is written only where it is a derivation of the graph
unfoldable pub delivered : Grammar → Graph → List ℕ → List ℕ → Wrote
unfolding replay_text write_text
delivered G H text out = cond (replay_text G H text) (write_text text out) (refused (Err Unfit) out)
