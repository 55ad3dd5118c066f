-- The graph edges that an active item may make something with.
use Rattle.std.specs.Prelude.{◌≡◌, true, false, List, [], ℕ, ◌<◌}
use Rattle.masks.specs.Masks.{member}
use Rattle.hrg.specs.Grammars.{introduce, right_of, plan_of, plan_node, edge_at}
use Rattle.agenda.specs.Records.{item_of}
use Rattle.agenda.specs.declared.ChartItem.{ChartItem}
use Rattle.questions.specs.Layout.{graph_edges}
use Rattle.questions.specs.Abstract.{grammar_of, graph_of}
use Rattle.rules.specs.Rules.{terminal_items, ParentOf, ActiveAt}

-- the plan node above item x introduces rule edge i, which has the label `want`
pub record Introduces (g h : List ℕ) (x : ChartItem) (want i : ℕ) : Type 0 where
  pub above : ℕ
  pub here : ActiveAt g h x above
  pub parent : ParentOf g x.of x.plan above
  pub node : plan_node (plan_of (grammar_of g) x.of) above ≡ introduce x.plan i
  pub label : (edge_at (right_of (grammar_of g) x.of).edges i).label ≡ want

-- with a graph edge that is not in the set m item x makes nothing
pub record Candidates (g h : List ℕ) (x : ChartItem) (m : ℕ) : Type 0 where
  pub known : (e : ℕ) → e < 64 → member m e ≡ true → e < graph_edges h
  pub others : (e : ℕ) → e < graph_edges h → member m e ≡ false → terminal_items (grammar_of g) (graph_of g h) (item_of (grammar_of g) x) e ≡ []
