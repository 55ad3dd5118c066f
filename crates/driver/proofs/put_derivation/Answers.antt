-- The text, then the line behind it.
use borrow.Author.Rules.{rules}
use mathlib.Core.Path.{ap}
use mathlib.Core.List.{◌++◌}
use lib.ListN.{length, drop}
use Rattle.driver.proofs.PrintLaws.{prints_steps}
use Rattle.driver.proofs.put_derivation.Goals as goal

pub returns : goal.returns
returns c = prints_steps c.args.text.now
    _ _ _ _ _ c.requires (search rules) (ap (λ front. front ++ drop (length c.args.text.now) c.args.out.now) (search rules))
    c.write_number.ensures.0 c.write_number.ensures.1
