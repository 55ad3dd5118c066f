-- The derivation file (01, 'Derivation file', question 13): the text of a tree, and whether a text is that of a
-- derivation of the graph.
use Rattle.std.specs.Prelude.{◌≡◌, Bool, false, List, ℕ, ◌≤◌, length, T}
use Rattle.hrg.specs.Grammars.{Graph, Grammar}
use Rattle.hrg.specs.Trees.{Tree, Generates}
use Rattle.hrg.specs.WellFormed.{Between}
use Rattle.hrg.specs.Replacement.{Member, Replay}
use Rattle.scripts.specs.Scripts.{Script, bad, rows, rows_text, rows_in}
use Rattle.preorder.specs.Rows.{size, rows_of}
use Rattle.preorder.specs.Replay.{replays}

-- the text of a tree: a line for each application, numbered from the top
unfoldable pub derivation_text : Tree → List ℕ
derivation_text t = rows_text (rows_of t)

-- a text without rows does not replay
abbrev pub replay_script : Grammar → Graph → Script → Bool
replay_script G H bad = false
replay_script G H (rows rs) = replays G H rs

-- 'Is the file a derivation of this graph?'
unfoldable pub replay_text : Grammar → Graph → List ℕ → Bool
unfolding rows_in replays
replay_text G H text = replay_script G H (rows_in text)

-- The text is that of a tree that generates the graph and has at most 4,096 applications.
pub record DerivationOf (G : Grammar) (H : Graph) (text : List ℕ) : Type 0 where
  pub derivation : Tree
  pub written : text ≡ derivation_text derivation
  pub generates : Generates G H derivation
  pub small : size derivation ≤ 4096

-- By edge replacement: the applications of the text, from the top, are a sequence of replacement steps from the one
-- start edge to exactly the graph, which is so in the grammar's language.
pub record ReplayedFrom (G : Grammar) (H : Graph) (text : List ℕ) : Type 0 where
  pub derivation : Tree
  pub written : text ≡ derivation_text derivation
  pub count : Between 1 (size derivation) 4096
  pub replay : Replay G H derivation
  pub member : Member G H (size derivation)

-- a text that replays, with n applications, each a row
pub record PassingText (G : Grammar) (H : Graph) (n : ℕ) : Type 0 where
  pub text : List ℕ
  pub listed : List (List ℕ)
  pub read : rows_in text ≡ rows listed
  pub count : length listed ≡ n
  pub passes : T (replay_text G H text)
