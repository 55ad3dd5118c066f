-- Each word passes the test or one does not (proofs/Gaps).
use Prim.Native.Nat.{◌-◌}
use mathlib.Core.Path.{◌≡◌}
use lib.ListN.{take, drop}
use borrow.Author.Tests.{tests}
use Rattle.std.proofs.Common.{rules}
use Rattle.std.proofs.lemmas.Iterator.{cases_from_all, YieldsList-from_slice}
use Rattle.tables.proofs.Gaps.{zeros_by}
use Rattle.tables.proofs.checking.few_zeros.Goals as goal

pub returns : goal.returns
returns c = zeros_by _ _ _ c.requires.0 c.requires.1 _ (cases_from_all _ _ _ (λ x. x ≡ 0) (λ x. x ≡ 0 → ⊥) c.all.ensures.ran
    (YieldsList-from_slice (take (c.args.b - c.args.a) (drop c.args.a c.args.t.now)) cc) (λ x q k. search (rules, tests)) (λ x q k. search (rules, tests)))
