use mathlib.Core.Path.{◌≡◌}
use Rattle.hrg.specs.Grammars.{right_of}
use Rattle.hrg.specs.Trees.{padded}
use Rattle.joins.specs.Tables.{grammar_in, graph_in}
use Rattle.records.specs.Words.{record_at}
use Rattle.extraction.specs.Extraction.{placed_by}
use Rattle.extractor.proofs.placing.place.Given as goal

abbrev pub invariant-loop-i : goal.invariant-loop-i
invariant-loop-i l = l.map ≡ padded (placed_by (λ k. record_at l.chart k) (grammar_in l.t) (graph_in l.t)
    (right_of (grammar_in l.t) l.r) l.bs l.i)
