-- What a row that passed the tests of its size says, by the tables beside it.
use Rattle.std.specs.Prelude.{List, ℕ}
use Rattle.hrg.specs.Grammars.{Graph, right_of}
use Rattle.joins.specs.Tables.{grammar_in}
use Rattle.preorder.specs.Replay.{rule_in, place_in, new_nodes}
use Rattle.replayer.specs.declared.rows.Row.{Row}

-- the right side of its rule
abbrev pub side_of : Row → Graph
side_of row = right_of (grammar_in row.tables) (rule_in row.fields.now)

-- the graph node of each rule node
abbrev pub place_of : Row → List ℕ
place_of row = place_in (side_of row) row.fields.now

-- the graph nodes inside the application
abbrev pub new_of : Row → List ℕ
new_of row = new_nodes (side_of row) row.fields.now
