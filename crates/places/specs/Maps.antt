-- What two maps of eight places make, and what is asked of one.
use Rattle.std.specs.Prelude.{◌≡◌, Result, is_ok, MatchResult, Bool, ◌&&◌, not, cond, List, ℕ, eqb, ltb}
use Rattle.std.specs.Int.Bits.{bit_xor}
use Rattle.masks.specs.Masks.{member}
use Rattle.hrg.specs.Counts.{tabulate}
use Rattle.hrg.specs.Trees.{unplaced, at}
use Rattle.hrg.specs.Items.{or_else, joined, keep_if}
use Rattle.hrg.specs.ClosureRun.{agree, one_to_one}
use Rattle.hrg.specs.WellFormedTest.{every}
use Rattle.places.specs.declared.merging.Merged.{Merged}
use Rattle.places.specs.Words.{places_of}

-- their joined map where it stays, and its nodes elsewhere, each xor 64, so that a place with none has 0
pub record Parts (stays : ℕ) (f t : List ℕ) (x : Merged) : Type 0 where
  pub kept : places_of x.kept ≡ tabulate 8 (λ i. keep_if (member stays i) (or_else (at f i) (at t i)))
  pub dropped : places_of x.dropped ≡ tabulate 8 (λ i. bit_xor (keep_if (not (member stays i)) (or_else (at f i) (at t i))) 64)

-- whether they are one map and one to one, and its parts in either case
pub record Merges (stays : ℕ) (f t : List ℕ) (x : Result Merged Merged) : Type 0 where
  pub test : is_ok x ≡ (agree 8 f t && one_to_one 64 (joined 8 f t))
  pub parts : MatchResult x (Parts stays f t) (Parts stays f t)

-- each place in a set has a node below n, and each other none
unfoldable pub fits : ℕ → ℕ → List ℕ → Bool
unfolding every
fits n used l = every 8 (λ k. cond (member used k) (ltb (at l k) n) (eqb (at l k) unplaced))
