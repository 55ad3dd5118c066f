-- Words of a chart that may be any number (question 8 does not ask them): counts, handled words and the mark.
use mathlib.Core.Path.{◌≡◌, refl}
use mathlib.Core.List.{List}
use Prim.Native.Nat.{ℕ}
use native.Mathlib.Omega.{arith}
use lib.ListN.{set, length-set}
use lib.Seq.{get_or-set_other}
use Rattle.hrg.specs.Grammars.{Graph, PlanNode, leaf, introduce, join, Grammar, plan_of, plan_node}
use Rattle.agenda.specs.Steps.{with_count}
use Rattle.agenda.specs.declared.Record.{Record}
use Rattle.records.specs.Numbers.{number_in}
use Rattle.records.specs.Words.{capacity, record_at}
use Rattle.records.proofs.Written.{header_records}
use Rattle.validity.specs.Checking.{known_partners, known_active, known_record, known_chart}

-- x with another count and handled word
abbrev pub counted : Record → ℕ → ℕ → Record
counted x n d = record { item = with_count x.item n; handled = d; first = x.first; second = x.second }

module _ (G : Grammar) (H : Graph) (n : ℕ) (x : Record) (c d : ℕ) where
  partners_free : (p : PlanNode) → known_partners G H n (counted x c d) p ≡ known_partners G H n x p
  unfolding known_partners
  partners_free leaf = refl
  partners_free (introduce a i) = refl
  partners_free (join a b) = refl

  -- the count and the handled word
  pub count_free : known_record G H n (counted x c d) ≡ known_record G H n x
  unfolding known_record known_active
  count_free = rw (partners_free (plan_node (plan_of G x.item.of) x.item.plan))

-- the mark
pub mark_free : (G : Grammar) (H : Graph) (w : List ℕ) (v : ℕ) → known_chart G H (set w 1 v) ≡ known_chart G H w
unfolding known_chart capacity
mark_free G H w v =
    let number : number_in (set w 1 v) ≡ number_in w = get_or-set_other w 1 0 v 0 (λ z. omega arith) in
    let same : (j : ℕ) → record_at (set w 1 v) j ≡ record_at w j = λ j. header_records w 1 v j (omega arith) in
    simp (number, length-set w 1 v, same)
