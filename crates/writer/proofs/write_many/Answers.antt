-- What a list of 1,024 holds is listed; more is listed again in a long one.
use native.Mathlib.Omega.{arith}
use Prim.Native.Nat.{ℕ}
use lib.ListN.{length-replicate}
use Rattle.writer.proofs.Deliveries.{listed_in}
use Rattle.extractor.proofs.ListLaws.{listed_more}
use Rattle.writer.proofs.write_many.Goals as goal

pub write_listed-requires : goal.write_listed-requires
write_listed-requires c =
    let size = length-replicate {A = ℕ} 1032 0 in
    let few = c.in-Some.ensures.few in (
      listed_more _ _ 1024 4096 _ _ _ (omega arith) (listed_in _ _ _ 1024 _ _ _ size c.in-Some.ensures),
      (omega (arith, few, c.list_applications.auto.list, size), omega (arith, few, size), omega (arith, few, size)),
      omega arith,
      omega arith,
    )
