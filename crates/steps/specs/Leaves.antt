-- The leaf items of a grammar, rule by rule and plan node by plan node.
use Rattle.std.specs.Prelude.{List, map, ℕ, length, replicate}
use Rattle.hrg.specs.Grammars.{Grammar, plan_of, plan_node}
use Rattle.hrg.specs.Trees.{unplaced}
use Rattle.hrg.specs.Items.{Item}
use Rattle.hrg.specs.ClosureRun.{each_to, leaf_at}
use Rattle.agenda.specs.Records.{record_of}
use Rattle.agenda.specs.declared.ChartItem.{ChartItem}
use Rattle.agenda.specs.declared.Record.{Record}

-- the active item of plan node p that has no edges, no count and no images
abbrev pub leaf_item : ℕ → ℕ → ChartItem
leaf_item r p = record { kind = 0; of = r; plan = p; edges = 0; count = 0; nodes = replicate 8 unplaced }

-- the record of plan node p, if that is a leaf
unfoldable pub leaf_record : Grammar → ℕ → ℕ → List Record
unfolding leaf_at
leaf_record G r p = map (λ (i : Item). record_of i 0 0 0) (leaf_at G r p (plan_node (plan_of G r) p))

-- those of rule r
unfoldable pub rule_leaves : Grammar → ℕ → List Record
unfolding leaf_record
rule_leaves G r = each_to (length (plan_of G r)) (λ p. leaf_record G r p)
