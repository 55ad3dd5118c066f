-- Items that show each open graph node of their edges, so that whoever joins them need not look for those.
use Rattle.std.specs.Prelude.{List, true, ◌≡◌, ℕ, ◌<◌}
use Rattle.hrg.specs.Grammars.{rule_of}
use Rattle.hrg.specs.Trees.{at}
use Rattle.hrg.specs.Items.{is_open, is_open_at}
use Rattle.agenda.specs.declared.ChartItem.{ChartItem}
use Rattle.questions.specs.Layout.{rank_at, rule_nodes}
use Rattle.questions.specs.Abstract.{grammar_of, graph_of}

-- graph node v is the image of an open rule node, where x is active, or one of the nodes of x, where it is passive
pub record Shown (g : List ℕ) (x : ChartItem) (v : ℕ) : Type 0 where
  pub active : x.kind ≡ 0 → (i : ℕ) × (i < rule_nodes g x.of) × (is_open_at (rule_of (grammar_of g) x.of) x.plan i ≡ true) × (at x.nodes i ≡ v)
  pub passive : (x.kind ≡ 0 → ⊥) → (i : ℕ) × (i < rank_at g x.of) × (at x.nodes i ≡ v)

-- every open graph node of its edges is shown
pub record Covering (g h : List ℕ) (x : ChartItem) : Type 0 where
  pub shown : (v : ℕ) → v < 64 → is_open (graph_of g h) x.edges v ≡ true → Shown g x v
