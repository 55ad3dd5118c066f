-- How a row is filled: from the lines of the text that the writer writes, one record for each.
use Rattle.std.specs.Prelude.{◌≡◌, cond, List, ℕ, zero, suc, ◌≤◌, length, take, drop, get_or, set, leb, Ok, Err}
use Rattle.format.specs.Lines.{line_of, after_line}
use Rattle.format.specs.Fields.{fields_of}
use Rattle.hrg.specs.Grammars.{Grammar}
use Rattle.questions.specs.Layout.{rule_nodes}
use Rattle.questions.specs.Abstract.{grammar_of}
use Rattle.writing.specs.Filling.{application_of, records_in, Choice, refuses, chooses, chosen_of, fill_of}
use Rattle.writing.specs.Demand.{FillChoices}
use Rattle.writing.specs.Writing.{Answer}
use Rattle.writing.specs.declared.WriteError.TheVariants.{NoRoom}
use Rattle.writing.specs.declared.Application.{Application}

-- ---- one record
-- the record of a line's fields, for every line
unfoldable pub application_read : List ℕ → List ℕ → Application
unfolding application_of
application_read g fields =
    let r = get_or fields 1 10000 in
    let k = rule_nodes g r in
    application_of r (take k (drop 2 fields)) (drop k (drop 2 fields))

unfoldable pub application_at : List ℕ → List ℕ → ℕ → Application
unfolding application_read line_of fields_of
application_at g text at = application_read g (fields_of (line_of (drop at text)))

-- ---- the row
-- where the line of record n begins: behind the first line, which has six bytes
unfoldable pub offset_of : List ℕ → ℕ → ℕ
unfolding after_line
offset_of text zero = 6
offset_of text (suc n) = after_line text (offset_of text n)

-- the first n records from the lines of a text
unfoldable pub filled_from : List ℕ → List ℕ → ℕ → List Application → List Application
unfolding application_at offset_of
filled_from g text zero former = former
filled_from g text (suc n) former = set (filled_from g text n former) n (application_at g text (offset_of text n))

-- ---- the text
abbrev pub count_in : Answer → ℕ
count_in (Ok n) = n
count_in (Err e) = 0

-- what `fill` answers for a row of so many records
abbrev pub answer_by : Grammar → Choice → ℕ → Answer
answer_by G (refuses a) room = a
answer_by G (chooses text) room = cond (leb (length (records_in G text)) room) (Ok (length (records_in G text))) (Err NoRoom)

-- The answer, with the derivation at the front of the text.
pub record Prepared (g h w : List ℕ) (room : ℕ) (a : Answer) (text : List ℕ) : Type 0 where
  pub answers : a ≡ answer_by (grammar_of g) (chosen_of g h w) room
  pub holds : (t : List ℕ) → chosen_of g h w ≡ chooses t → take (length t) text ≡ t
  pub fits : count_in a ≤ room

-- what `fill` answers and leaves, and what holds of the derivation that it chose
pub record Filling (g h w : List ℕ) (former : List Application) (a : Answer) (now : List Application) : Type 0 where
  pub answers : a ≡ (fill_of g h w former).answer
  pub leaves : now ≡ (fill_of g h w former).rows
  pub choices : FillChoices g h w former a now
