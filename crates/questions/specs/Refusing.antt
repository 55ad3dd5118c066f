-- The numbers of the refusals (docs/REFUSALS.md): what a function that may refuse answers, as 01's number, and as the
-- definitions' answer.
use Rattle.std.specs.Prelude.{ℕ, ⊤, Result, Ok, Err}
use Rattle.questions.specs.Reading.{Answer, Done, Refused}
use Rattle.questions.specs.declared.Refusal.{Refusal}
use Rattle.questions.specs.declared.Refusal.TheVariants.{Shape, Letter, Fields, Count, Nodes, Uncovered, Plan, Unfit}

abbrev pub number_of : Refusal → ℕ
number_of Shape = 1
number_of Letter = 2
number_of Fields = 3
number_of Count = 4
number_of Nodes = 5
number_of Uncovered = 6
number_of Plan = 7
number_of Unfit = 8

-- 0 where nothing is refused
abbrev pub number_in : Result ⊤ Refusal → ℕ
number_in (Ok x) = 0
number_in (Err r) = number_of r

abbrev pub answer_of : Result ⊤ Refusal → Answer
answer_of (Ok x) = Done
answer_of (Err r) = Refused (number_of r)

-- 01's number of a reader's answer, 0 where the text is accepted
abbrev pub reading_number : Answer → ℕ
reading_number Done = 0
reading_number (Refused k) = k
