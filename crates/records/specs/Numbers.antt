-- The number that a chart's header names.
use Rattle.std.specs.Prelude.{List, ℕ, get_or}

-- how many items the header names, which may be more than the words hold
abbrev pub number_in : List ℕ → ℕ
number_in w = get_or w 0 0
