-- What holds of `derive` on tables that texts have filled: it says everything of the graph that the chart and the
-- output hold.
use Rattle.std.specs.Prelude.{◌≡◌, true, ℕ, ◌≤◌, ◌<◌, List, length}
use Rattle.hrg.specs.Trees.{Tree, Generates}
use Rattle.questions.specs.Abstract.{grammar_of, graph_of}
use Rattle.derivation.specs.Derivations.{derivation_text, replay_text}
use Rattle.writing.specs.Demand.{ClosureSize, FewestTree}
use Rattle.programs.specs.Programs.{Derived, refused, derived, items, output_bytes}

pub data Deriving (g h : List ℕ) : Derived → Type 0 where
  -- the text of a tree with the fewest applications, which replays, and as many steps as the closure has items
  derives : (t : Tree) (steps : ℕ) → FewestTree (grammar_of g) (graph_of g h) t → replay_text (grammar_of g) (graph_of g h) (derivation_text t) ≡ true → length (derivation_text t) ≤ output_bytes
      → ClosureSize (grammar_of g) (graph_of g h) steps → steps ≤ items → Deriving g h (derived (derivation_text t) steps)
  -- 9: the closure has more items than the chart holds
  small : (size : ℕ) → ClosureSize (grammar_of g) (graph_of g h) size → items < size → Deriving g h (refused 9)
  -- 11: no tree generates the graph
  underivable : ((t : Tree) → Generates (grammar_of g) (graph_of g h) t → ⊥) → Deriving g h (refused 11)
  -- 12: the text of a tree with the fewest applications is longer than the output
  long : (t : Tree) → FewestTree (grammar_of g) (graph_of g h) t → output_bytes < length (derivation_text t) → Deriving g h (refused 12)
