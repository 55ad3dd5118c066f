-- Every number passes, or one is above 9,999.
use Rattle.std.proofs.Common.{rules, ℕ, ◌≤◌, ◌<◌, ◌↔◌, IsTrue, length, get_or}
use Rattle.format.proofs.TestLaws.{all_by}
use Rattle.lines.proofs.all_small.Goals as goal

pub returns : goal.returns
returns c =
    let fields = c.args.fields.now in
    let passes : IsTrue c.all.result ↔ ((k : ℕ) → k < length fields → get_or fields k 0 ≤ 9999) = search rules in
    all_by (length fields) 9999 (λ k. get_or fields k 0) _ passes
