-- The graphs K1 to K10 with the grammars A and B (01, 'Graphs K1 to K10'), and what each must tell.
use Rattle.std.specs.Prelude.{Bool, true, false, List, [], ◌∷◌, ℕ}
use Prim.Native.Char.{code}
use Prim.Native.String.{String, [] as done, ◌∷◌ as ◌before◌, ◌++◌ as ◌and◌}
use Rattle.trials.specs.Trials.{Trial, Told}

infixr 50 ◌lines◌
-- the bytes of a text of ASCII characters
unfoldable pub bytes_of : String → List ℕ
bytes_of done = []
bytes_of (c before s) = code c ∷ bytes_of s

abbrev ◌lines◌ : String → String → String
a lines b = a and b

-- symbol 0 is terminal of rank 2, symbol 1 nonterminal of rank 2, the start
abbrev grammar_a : String
grammar_a =
    "G   2   2   1\n" lines "S   0   0   2\n" lines "S   1   1   2\n"
    lines "R   0   1   2   1   2   0   1\n" lines "E   0   0   1\n" lines "P   0   0   0\n" lines "P   1   0   0\n"
    lines "R   1   1   3   2   3   0   1\n" lines "E   0   0   2\n" lines "E   1   2   1\n" lines "P   0   0   0\n" lines "P   1   0   0\n" lines "P   1   1   1\n"

-- symbol 1 is the start, of rank 1, symbol 2 is X
abbrev grammar_b : String
grammar_b =
    "G   3   2   1\n" lines "S   0   0   2\n" lines "S   1   1   1\n" lines "S   2   1   2\n"
    lines "R   0   1   2   1   2   0\n" lines "E   2   0   1\n" lines "P   0   0   0\n" lines "P   1   0   0\n"
    lines "R   1   2   2   1   2   0   1\n" lines "E   0   0   1\n" lines "P   0   0   0\n" lines "P   1   0   0\n"

abbrev graph_k1 : String
graph_k1 = "H   2   1   0   1\n" lines "E   0   0   1\n"

abbrev graph_k2 : String
graph_k2 = "H   3   2   0   2\n" lines "E   0   0   1\n" lines "E   0   1   2\n"

abbrev graph_k3 : String
graph_k3 = "H   3   2   0   1\n" lines "E   0   0   1\n" lines "E   0   0   2\n"

abbrev graph_k4 : String
graph_k4 = "H   2   1   1   0\n" lines "E   0   0   1\n"

abbrev graph_k5 : String
graph_k5 = "H   2   1   0\n" lines "E   0   0   1\n"

abbrev graph_k6 : String
graph_k6 = "H   2   2   0   1\n" lines "E   0   0   1\n" lines "E   0   0   1\n"

abbrev derivation_k1 : String
derivation_k1 = "D   1\n" lines "A   0   0   0   1   0\n"

abbrev derivation_k2 : String
derivation_k2 = "D   2\n" lines "A   0   1   0   2   1   0   1\n" lines "A   1   0   1   2   1\n"

abbrev derivation_k5 : String
derivation_k5 = "D   2\n" lines "A   0   0   0   1   1\n" lines "A   1   1   0   1   0\n"

pub record Row : Type 0 where
  pub trial : Trial
  pub told : Told

-- the texts are accepted and the chart is started; then the runs and the writing tell what is given
abbrev row : String → String → ℕ → List ℕ → ℕ → List (List ℕ) → Bool → ℕ → String → Row
row grammar graph items runs room ran kept writing text =
    record {
      trial = record { grammar = bytes_of grammar; graph = bytes_of graph; items = items; runs = runs; room = room };
      told = record { opening = 0 ∷ 0 ∷ 0 ∷ []; ran = ran; kept = kept; writing = writing; bytes = bytes_of text };
    }

-- grammar, graph, items, runs, room; then of each run its number and steps, whether the chart stays, the writing's
-- number and its bytes
abbrev pub table : List Row
table =
    -- K1 to K6
    row grammar_a graph_k1 16 (100 ∷ []) 100 ((0 ∷ 5 ∷ []) ∷ []) false 0 derivation_k1
    ∷ row grammar_a graph_k2 16 (100 ∷ []) 100 ((0 ∷ 10 ∷ []) ∷ []) false 0 derivation_k2
    ∷ row grammar_a graph_k3 16 (100 ∷ []) 100 ((0 ∷ 8 ∷ []) ∷ []) false 11 ""
    ∷ row grammar_a graph_k4 16 (100 ∷ []) 100 ((0 ∷ 5 ∷ []) ∷ []) false 11 ""
    ∷ row grammar_b graph_k5 16 (100 ∷ []) 100 ((0 ∷ 6 ∷ []) ∷ []) false 0 derivation_k5
    ∷ row grammar_a graph_k6 16 (100 ∷ []) 100 ((0 ∷ 8 ∷ []) ∷ []) false 11 ""
    -- K7: a chart of 9, where every later run says 9, and one of 10
    ∷ row grammar_a graph_k2 9 (100 ∷ 1 ∷ 0 ∷ []) 100 ((9 ∷ 0 ∷ []) ∷ (9 ∷ 0 ∷ []) ∷ (9 ∷ 0 ∷ []) ∷ []) false 9 ""
    ∷ row grammar_a graph_k2 10 (100 ∷ []) 100 ((0 ∷ 10 ∷ []) ∷ []) false 0 derivation_k2
    -- K8: 9 steps, then one more
    ∷ row grammar_a graph_k2 10 (9 ∷ []) 100 ((10 ∷ 9 ∷ []) ∷ []) false 10 ""
    ∷ row grammar_a graph_k2 10 (9 ∷ 1 ∷ []) 100 ((10 ∷ 9 ∷ []) ∷ (0 ∷ 10 ∷ []) ∷ []) false 0 derivation_k2
    -- K9: no steps on a fresh chart
    ∷ row grammar_a graph_k2 10 (0 ∷ []) 100 ((10 ∷ 0 ∷ []) ∷ []) true 10 ""
    -- K10: 58 bytes lent, and 57
    ∷ row grammar_a graph_k2 10 (10 ∷ []) 58 ((0 ∷ 10 ∷ []) ∷ []) false 0 derivation_k2
    ∷ row grammar_a graph_k2 10 (10 ∷ []) 57 ((0 ∷ 10 ∷ []) ∷ []) false 12 ""
    ∷ []
