use Prim.Native.Nat.{ℕ}
use mathlib.Core.List.{List}
use Rattle.agenda.specs.declared.Record.{Record}
use Rattle.records.specs.Words.{records_at}
use Rattle.index.specs.Index.{Indexed, Covered}
use Rattle.index.proofs.cover_all.Given as goal

abbrev pub invariant-loop-j : goal.invariant-loop-j
invariant-loop-j l = Covered l.t.tables.grammar.words.now l.t.tables.graph.now l.index
    (records_at l.chart l.j) × ((keys ls : List ℕ) (rs : List Record) → Indexed keys l.initial.index ls rs → Indexed keys l.index ls
    rs)
