-- Parts of the tests of a row and of a text, as the smaller functions answer them.
use Rattle.std.specs.Prelude.{Bool, cond, ◌&&◌, Option, Some, None, List, ℕ, ◌+◌, length, drop, eqb, ltb}
use Rattle.format.specs.Lines.{Line, line_of, is_ended}
use Rattle.format.specs.Fields.{number_of}
use Rattle.format.specs.Shape.{letter_of, letter_kind, shape_of}
use Rattle.format.specs.declared.Letter.{Letter}
use Rattle.format.specs.declared.Letter.TheVariants.{Other}
use Rattle.hrg.specs.Grammars.{Grammar, lhs_of, right_of}
use Rattle.scripts.specs.Scripts.{opens}
use Rattle.preorder.specs.Replay.{number_in, rule_in}

-- the line at a place of a text
abbrev pub line_from : List ℕ → ℕ → Line
line_from text from = record { bytes = line_of (drop from text); ended = is_ended text from }

-- the letter of an ended line of the shape, `Other` of every other line
unfoldable pub letter_in : Line → Letter
letter_in l = cond (l.ended && shape_of l.bytes) (letter_kind (letter_of l.bytes)) Other

-- how many rows the first line says, where it opens the file
unfoldable pub said_count : List ℕ → Option ℕ
unfolding opens
said_count text = cond (opens (line_from text 0)) (Some (number_of (line_of text) 0)) None

-- the row has its own number, and a rule for an edge s with as many fields as the rule needs
unfoldable pub head_passes : Grammar → ℕ → ℕ → List ℕ → Bool
head_passes G n s row =
    let r = rule_in row in
    let P = right_of G r in
    eqb (number_in row) n
    && ltb r (length G.rules)
    && eqb (lhs_of G r) s
    && eqb (length row) (2 + (P.nodes + length P.edges))
