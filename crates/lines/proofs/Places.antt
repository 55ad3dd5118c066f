-- Where a line that was found ends.
use mathlib.Core.Path.{◌≡◌, ap, ◌∙◌}
use mathlib.Core.List.{List}
use Prim.Native.Nat.{ℕ, ◌+◌, ◌≤◌}
use native.Mathlib.Omega.{arith}
use lib.ListN.{length, drop}
use Rattle.format.specs.Lines.{line_of, line_end}
use Rattle.format.proofs.LineLaws.{line_of_length, end_in, end_le, after_feed, after_last}

pub found_end : (text : List ℕ) (from : ℕ) (line : List ℕ) → from ≤ length text → line ≡ line_of (drop from text) → from + length line ≡ line_end text from
found_end text from line h e = omega (arith, ap length e ∙ line_of_length (drop from text), end_in text from h)

pub ruleset found = (found_end, end_le, after_feed, after_last)
