use Rattle.std.proofs.Common.{◌≡◌, fold, drop}
use Rattle.lists.specs.Cursors.{nearer}
use Rattle.lists.proofs.least.Given as goal

abbrev pub invariant-loop-c : goal.invariant-loop-c
invariant-loop-c l = fold nearer l.m (drop l.c-index l.c-items) ≡ fold nearer 20481 l.fn.cs
