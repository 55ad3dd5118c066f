use Prim.Native.Nat.{ℕ}
use mathlib.Core.Path.{refl}
use mir.Syntax.{w8}
use mir.Val.{Fits}
use lib.ListN.{get_or}
use borrow.Author.Rules.{rules}
use Rattle.records.proofs.new_record.Goals as goal

pub returns : goal.returns
returns c =
    let byte : (i : ℕ) → Fits w8 (get_or c.args.x.nodes i 0) = λ i. search rules in (
      refl,
      record {
        item = record {
          kind = search rules;
          of = search rules;
          plan = search rules;
          places = record { size = search rules; bytes = λ i h. (byte i).fits };
        };
        first = search rules;
        second = search rules;
      },
    )
