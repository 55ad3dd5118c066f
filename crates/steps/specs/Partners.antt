-- What a handled record makes with another record.
use Rattle.std.specs.Prelude.{List, ◌++◌, ℕ}
use Rattle.hrg.specs.Grammars.{Graph, Grammar}
use Rattle.hrg.specs.ClosureRun.{guard}
use Rattle.agenda.specs.declared.Record.{Record}
use Rattle.agenda.specs.Records.{is_handled}
use Rattle.agenda.specs.Consequences.{pair}

-- x at place j with y at place k, in both orders, where y is handled
unfoldable pub with_record : Grammar → Graph → Record → ℕ → Record → ℕ → List Record
unfolding pair
with_record G H x j y k = guard (is_handled y) (pair G H x j y k ++ pair G H y k x j)
