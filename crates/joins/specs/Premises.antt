-- Two sets and maps of rule nodes that may make an item, and what they make.
use Rattle.std.specs.Prelude.{◌≡◌, Bool, true, Option, IfSome, List, ℕ, take}
use Rattle.masks.specs.Masks.{◌∪◌}
use Rattle.hrg.specs.Grammars.{rule_of}
use Rattle.hrg.specs.ClosureRun.{combine}
use Rattle.questions.specs.Layout.{rule_nodes, graph_nodes}
use Rattle.questions.specs.Abstract.{grammar_of, graph_of}
use Rattle.joins.specs.Joins.{Accepted, KnownNode, OpenAt, BareFrom, Holds, Into, Makes}
use Rattle.joins.specs.Graphs.{GraphTable}

-- what is known of them, of rule r, of plan node q and of the tables; where it is sure, each map has the open nodes
-- of its set
pub record Premises (g h graph : List ℕ) (r q stays m₁ m₂ : ℕ) (sure : Bool) (f t : List ℕ) : Type 0 where
  pub accepted : Accepted g h
  pub node : KnownNode g r q
  pub table : GraphTable g h graph
  pub opened : OpenAt g r q stays
  pub first_holds : sure ≡ true → Holds g h m₁ (rule_nodes g r) f
  pub second_holds : sure ≡ true → Holds g h m₂ (rule_nodes g r) t
  pub first_bare : BareFrom (rule_nodes g r) f
  pub second_bare : BareFrom (rule_nodes g r) t
  pub first_into : Into (graph_nodes h) f
  pub second_into : Into (graph_nodes h) t

-- x says whether they make an item, and has its map
pub record Combines (g h : List ℕ) (r q m₁ m₂ : ℕ) (f t : List ℕ) (x : Option (List ℕ)) : Type 0 where
  pub makes : Makes (combine (graph_of g h) (rule_of (grammar_of g) r) r q m₁ m₂ (take (rule_nodes g r) f) (take (rule_nodes g r) t)) r q (m₁ ∪ m₂) x
  pub into : IfSome x (Into (graph_nodes h))
