-- What a short list holds is listed; more is listed again in longer ones.
use native.Mathlib.Omega.{arith}
use Prim.Native.Nat.{ℕ}
use lib.ListN.{length-replicate}
use Rattle.writer.proofs.Deliveries.{listed_in}
use Rattle.extractor.proofs.ListLaws.{listed_more}
use Rattle.writer.proofs.write_item.Goals as goal

pub write_listed-requires : goal.write_listed-requires
write_listed-requires c =
    let size = length-replicate {A = ℕ} 264 0 in (
      listed_more _ _ 256 4096 _ _ _ (omega arith) (listed_in _ _ _ 256 _ _ _ size c.in-Some.ensures),
      (omega (arith, c.in-Some.ensures.few, c.list_applications.auto.list, size), omega arith, omega arith),
      omega arith,
      omega arith,
    )

pub write_listed-requires-then-n-le256 : goal.write_listed-requires-then-n-le256
write_listed-requires-then-n-le256 c =
    let size = length-replicate {A = ℕ} 264 0 in (
      listed_more _ _ 256 4096 _ _ _ (omega arith) (listed_in _ _ _ 256 _ _ _ size c.in-Some.ensures),
      (omega (arith, c.in-Some.ensures.few, c.list_applications.auto.list, size), omega arith, omega arith),
      omega arith,
      omega arith,
    )
