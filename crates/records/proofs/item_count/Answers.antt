-- The lesser of two numbers.
use borrow.Author.Rules.{rules}
use Rattle.records.specs.Words.{item_count}
use Rattle.records.proofs.item_count.Goals as goal

pub returns-then-n-cap : goal.returns-then-n-cap
unfolding item_count
returns-then-n-cap c = search rules

pub returns : goal.returns
unfolding item_count
returns c = search rules
