use mathlib.Core.Path.{◌≡◌}
use lib.ListN.{length}
use Rattle.joins.specs.Tables.{grammar_in, graph_in}
use Rattle.extractor.proofs.TextLaws.{Written}
use Rattle.extractor.proofs.rows.write_rows.Given as goal

abbrev pub invariant-loop-k : goal.invariant-loop-k
invariant-loop-k l = Written l.chart
    (grammar_in l.t) (graph_in l.t) l.listed l.initial.text l.text l.sizes l.k l.at ×
    (length l.sizes ≡ length l.initial.sizes)
