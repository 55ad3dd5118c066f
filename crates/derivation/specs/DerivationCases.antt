-- K2's derivation as the bytes that 01 prints, and texts with one fault each.
use Rattle.std.specs.Prelude.{List, [], ◌∷◌, ◌++◌, ℕ}

-- `D   2`
abbrev count_line : List ℕ
count_line = 68 ∷ 32 ∷ 32 ∷ 32 ∷ 50 ∷ 10 ∷ []

-- `A   0   1   0   2   1   0   1`
abbrev first_line : List ℕ
first_line =
    65 ∷ 32 ∷ 32 ∷ 32 ∷ 48 ∷ 32 ∷ 32 ∷ 32 ∷ 49 ∷ 32 ∷ 32 ∷ 32 ∷ 48 ∷ 32 ∷ 32 ∷ 32 ∷ 50 ∷ 32 ∷ 32 ∷ 32 ∷ 49 ∷ 32 ∷ 32 ∷ 32 ∷ 48 ∷ 32 ∷ 32 ∷ 32 ∷ 49 ∷ 10 ∷ []

-- `A   1   0   1   2   1`, without its line feed
abbrev second_line : List ℕ
second_line = 65 ∷ 32 ∷ 32 ∷ 32 ∷ 49 ∷ 32 ∷ 32 ∷ 32 ∷ 48 ∷ 32 ∷ 32 ∷ 32 ∷ 49 ∷ 32 ∷ 32 ∷ 32 ∷ 50 ∷ 32 ∷ 32 ∷ 32 ∷ 49 ∷ []

abbrev pub k2_text : List ℕ
k2_text = count_line ++ first_line ++ second_line ++ 10 ∷ []

-- the nodes of the second application exchanged: `A   1   0   2   1   1`
abbrev pub nodes_exchanged : List ℕ
nodes_exchanged =
    count_line ++ first_line
    ++ 65 ∷ 32 ∷ 32 ∷ 32 ∷ 49 ∷ 32 ∷ 32 ∷ 32 ∷ 48 ∷ 32 ∷ 32 ∷ 32 ∷ 50 ∷ 32 ∷ 32 ∷ 32 ∷ 49 ∷ 32 ∷ 32 ∷ 32 ∷ 49 ∷ 10 ∷ []

-- the last line not ended
abbrev pub not_ended : List ℕ
not_ended = count_line ++ first_line ++ second_line

-- an empty line behind the last
abbrev pub line_behind : List ℕ
line_behind = k2_text ++ 10 ∷ []

-- one application said, two there: `D   1`
abbrev pub count_less : List ℕ
count_less = (68 ∷ 32 ∷ 32 ∷ 32 ∷ 49 ∷ 10 ∷ []) ++ first_line ++ second_line ++ 10 ∷ []

abbrev pub refused_texts : List (List ℕ)
refused_texts = nodes_exchanged ∷ not_ended ∷ line_behind ∷ count_less ∷ [] ∷ []
