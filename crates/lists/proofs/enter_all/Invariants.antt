use Rattle.std.proofs.Common.{◌≡◌, ◌+◌, drop}
use Rattle.lists.specs.Lists.{Ready}
use Rattle.lists.proofs.ListLaws.{entered_from}
use Rattle.lists.proofs.enter_all.Given as goal

abbrev pub invariant-loop-i : goal.invariant-loop-i
invariant-loop-i l = Ready l.ws × (entered_from l.ws (l.e + l.i) (drop l.i l.b-items) ≡ entered_from l.initial.ws l.e l.fn.bs)
