-- What the tests of lines in a derivation file say.
use Prim.Native.Nat.{ℕ, ◌≤◌}
use mathlib.Core.Path.{◌≡◌}
use mathlib.Core.Bool.{true}
use borrow.Author.Tests.{eqb-true, eq-eqb, leb-true, le-leb}
use Rattle.format.specs.Lines.{Line}
use Rattle.format.proofs.TestLaws.{both}
use Rattle.format.specs.Fields.{field_count, number_of}
use Rattle.format.specs.Shape.{letter_of, shape_of}
use Rattle.scripts.specs.Scripts.{has_letter, opens}

pub record Lettered (letter : ℕ) (l : Line) : Type 0 where
  pub closed : l.ended ≡ true
  pub shape : shape_of l.bytes ≡ true
  pub first : letter_of l.bytes ≡ letter

pub has_lettered : (letter : ℕ) (l : Line) → has_letter letter l ≡ true → Lettered letter l
unfolding has_letter
has_lettered letter l h =
    let a = both _ _ h in
    let b = both _ _ a.1 in
    record { closed = a.0; shape = b.0; first = eqb-true (letter_of l.bytes) letter b.1 }

pub lettered_has : (letter : ℕ) (l : Line) → Lettered letter l → has_letter letter l ≡ true
unfolding has_letter
lettered_has letter l h = rw (h.closed, h.shape) (eq-eqb (letter_of l.bytes) letter h.first)

pub record Opening (l : Line) : Type 0 where
  pub lettered : Lettered 68 l
  pub single : field_count l.bytes ≡ 1
  pub some : 1 ≤ number_of l.bytes 0
  pub few : number_of l.bytes 0 ≤ 4096

pub opens_opening : (l : Line) → opens l ≡ true → Opening l
unfolding opens
opens_opening l h =
    let n = number_of l.bytes 0 in
    let a = both _ _ h in
    let b = both _ _ a.1 in
    let c = both _ _ b.1 in
    record {
      lettered = has_lettered 68 l a.0;
      single = eqb-true (field_count l.bytes) 1 b.0;
      some = leb-true 1 n c.0;
      few = leb-true n 4096 c.1;
    }

pub opening_opens : (l : Line) → Opening l → opens l ≡ true
unfolding opens
opening_opens l h =
    let n = number_of l.bytes 0 in
    rw (lettered_has 68 l h.lettered, eq-eqb (field_count l.bytes) 1 h.single, le-leb 1 n h.some) (le-leb n 4096 h.few)
