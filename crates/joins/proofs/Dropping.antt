-- The dropped nodes one by one, from the lowest byte of their word on.
use mathlib.Core.Path.{◌≡◌, sym, ap, ◌∙◌}
use mathlib.Core.Bool.{Bool, true, false}
use mathlib.Core.List.{List}
use Prim.Native.Nat.{ℕ, suc, ◌+◌, ◌-◌, ◌*◌, ◌/◌, ◌%◌, ◌^◌, ◌≤◌, ◌<◌}
use native.Mathlib.Nat.{zero-div, div-eq_of_lt, lt_of_lt_of_le}
use native.Mathlib.Omega.{arith}
use native.Mathlib.Decide.{dec_lt}
use borrow.Author.Tests.{le-ltb}
use lib.Bits.{bit_xor}
use lib.ListN.{get_or}
use lib.Pow.{pow_mono, shr-shr}
use Rattle.hrg.specs.Trees.{unplaced}
use Rattle.hrg.specs.WellFormedTest.{some}
use Rattle.hrg.proofs.Degrees.{test_T, T_test}
use Rattle.hrg.proofs.WellFormedTest.{decides_some}
use Rattle.places.specs.Words.{places_of}
use Rattle.places.proofs.Bytewise.{tests}
use Rattle.places.proofs.Reading.{place_at_lem}
use Rattle.joins.specs.Joins.{open_by, loses_one}
use Rattle.joins.proofs.Openness.{bool_same}

open_far : (t : List ℕ) (m v : ℕ) → 64 ≤ v → open_by t m v ≡ false
unfolding open_by
open_far t m v h = rw (le-ltb v 64 h)

-- the places passed have no open node, and rest has the others
pub record Passed (t : List ℕ) (m w rest : ℕ) : Type 0 where
  pub place : ℕ
  pub left : rest ≡ w / 2 ^ (8 * place)
  pub closed : (i : ℕ) → i < place → i < 8 → open_by t m (bit_xor (get_or (places_of w) i 0) unplaced) ≡ false

pub passed_none : (t : List ℕ) (m w : ℕ) → Passed t m w w
passed_none t m w = record { place = 0; left = omega arith; closed = λ i h l. absurd (omega arith) }

module _ (t : List ℕ) (m w rest : ℕ) (small : w < 2 ^ 64) (p : Passed t m w rest) where
  abbrev opened : ℕ → Bool
  opened i = open_by t m (bit_xor (get_or (places_of w) i 0) unplaced)

  byte_here : p.place < 8 → get_or (places_of w) p.place 0 ≡ rest % 256
  byte_here l = place_at_lem w p.place small l ∙ ap (λ v. v % 256) (sym p.left)

  pub passed_next : (v : ℕ) → v ≡ bit_xor (rest % 256) 64 → open_by t m v ≡ false → Passed t m w (rest / 256)
  passed_next v e shut = record {
    place = suc p.place;
    left =
        let s : 8 * p.place + 8 ≡ 8 * suc p.place = omega arith in
        ap (λ r. r / 256) p.left ∙ shr-shr w (8 * p.place) 8 ∙ ap (λ j. w / 2 ^ j) s;
    closed = λ i h l. go i h l (dec_lt i p.place);
  }
    where
      go : (i : ℕ) → i < suc p.place → i < 8 → Dec (i < p.place) → opened i ≡ false
      go i h l (yes d) = p.closed i d l
      go i h l (no d) =
          let s : i ≡ p.place = omega arith in
          ap opened s ∙ ap (λ b. open_by t m (bit_xor b unplaced)) (byte_here (omega arith)) ∙ ap (open_by t m) (sym e) ∙ shut

  -- a byte that stands for no node
  pub passed_bare : (v : ℕ) → v ≡ bit_xor (rest % 256) 64 → 64 ≤ v → Passed t m w (rest / 256)
  passed_bare v e h = passed_next v e (open_far t m v h)

  place_few : (rest ≡ 0 → ⊥) → Dec (p.place < 8) → p.place < 8
  place_few h (yes d) = d
  place_few h (no d) = absurd (h (p.left ∙ div-eq_of_lt (lt_of_lt_of_le small (pow_mono {i = 64} {j = 8 * p.place} (omega arith)))))

  pub passed_lost : (rest ≡ 0 → ⊥) → (v : ℕ) → v ≡ bit_xor (rest % 256) 64 → (b : Bool) → b ≡ open_by t m v → b ≡ true → true ≡ loses_one t m w
  unfolding loses_one
  passed_lost h v e b is fails =
      let l = place_few h (dec_lt p.place 8) in
      sym (T_test (some 8 opened) ((decides_some 8 (λ i. tests (opened i))).complete (p.place, l, ap (λ b. open_by t m (bit_xor b unplaced)) (byte_here l) ∙ ap (open_by t m) (sym e) ∙ sym is ∙ fails)))

  pub passed_all : rest ≡ 0 → false ≡ loses_one t m w
  unfolding loses_one
  passed_all z = bool_same false (some 8 opened) (λ f. absurd (no_test f)) (λ s. let (i, l, o) = (decides_some 8 (λ i. tests (opened i))).sound (test_T (some 8 opened) s) in sym (shut i l (dec_lt i p.place)) ∙ o)
    where
      no_test : false ≡ true → ⊥
      no_test f = test_T false f

      shut : (i : ℕ) → i < 8 → Dec (i < p.place) → opened i ≡ false
      shut i l (yes d) = p.closed i d l
      shut i l (no d) =
          let s : 8 * i ≡ 8 * p.place + 8 * (i - p.place) = omega arith in
          let none : w / 2 ^ (8 * i) ≡ 0 = ap (λ j. w / 2 ^ j) s ∙ sym (shr-shr w (8 * p.place) (8 * (i - p.place))) ∙ ap (λ r. r / 2 ^ (8 * (i - p.place))) (sym p.left ∙ z) ∙ zero-div (2 ^ (8 * (i - p.place))) in
          ap (λ b. open_by t m (bit_xor b unplaced)) (place_at_lem w i small l ∙ ap (λ r. r % 256) none) ∙ open_far t m 64 (omega arith)
