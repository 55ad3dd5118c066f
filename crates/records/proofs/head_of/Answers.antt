use Prim.Native.Nat.{ℕ}
use mathlib.Core.Path.{refl}
use native.Mathlib.Omega.{arith}
use mir.Syntax.{w8}
use mir.Val.{Fits}
use lib.ListN.{get_or}
use borrow.Author.Rules.{rules}
use Rattle.records.specs.Words.{item_head}
use Rattle.records.proofs.head_of.Goals as goal

pub returns : goal.returns
unfolding item_head
returns c =
    let byte : (i : ℕ) → Fits w8 (get_or c.args.x.nodes i 0) = λ i. search rules in
    record {
      value = refl;
      small = omega arith;
      compact = record {
        kind = search rules;
        of = search rules;
        plan = search rules;
        places = record { size = search rules; bytes = λ i h. (byte i).fits };
      };
    }
