use native.Mathlib.Omega.{arith}
use Rattle.records.proofs.WordLaws.{word_past, word_from}
use Rattle.records.proofs.word_any.Goals as goal

pub returns-then-j-ge2305843009213693952 : goal.returns-then-j-ge2305843009213693952
returns-then-j-ge2305843009213693952 c = word_past _ _ c.args.k (omega arith)

pub returns : goal.returns
returns c = word_from _ _ _ _ c.word.ensures
