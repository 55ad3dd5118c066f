-- What the functions say of a rule of any number.
use Rattle.std.specs.Prelude.{◌≡◌, Bool, true, false, List, ℕ, ◌<◌}
use Rattle.hrg.specs.Grammars.{Kind, terminal, nonterminal, plan_of, plan_node}
use Rattle.questions.specs.Abstract.{plan_from, grammar_of}
use Rattle.joins.specs.Joins.{KnownNode}
use Rattle.layout.specs.declared.plans.PlanLine.{PlanLine}

abbrev pub is_nonterminal : Kind → Bool
is_nonterminal terminal = false
is_nonterminal nonterminal = true

-- x is plan node p of rule r: an edge that it introduces has one of eight numbers, and its children are plan nodes of
-- the rule
pub record PlanLineOf (g : List ℕ) (r p : ℕ) (x : PlanLine) : Type 0 where
  pub node : plan_node (plan_of (grammar_of g) r) p ≡ plan_from x.kind x.first x.second
  pub edge : x.kind ≡ 1 → x.second < 8
  pub lower : (x.kind ≡ 0 → ⊥) → KnownNode g r x.first
  pub both : (x.kind ≡ 0 → ⊥) → (x.kind ≡ 1 → ⊥) → KnownNode g r x.second
