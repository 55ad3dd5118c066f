-- Laws of the shape of a line and of its letter.
use Rattle.std.specs.Prelude.{ℕ, ◌+◌, ◌*◌, ◌≤◌, ◌≡◌, refl, Bool, true, false, cond, List, length, eqb, leb}
use Rattle.std.proofs.Common.{sym, ap, ◌∙◌, eqb-true, eq-eqb, leb-true, le-leb}
use Rattle.format.proofs.TestLaws.{both, all_at, all_of}
use Rattle.format.specs.Fields.{field_count, number_of}
use Rattle.format.specs.Shape.{letter_of, letter_kind, kind_letter, is_capital, shape_of, Shaped}
use Rattle.format.specs.declared.Letter.{Letter}
use Rattle.format.specs.declared.Letter.TheVariants.{G, S, R, E, P, H, D, A, Other}

-- ---- letters
pub capital_true : (b : ℕ) → is_capital b ≡ true → (65 ≤ b) × (b ≤ 90)
unfolding is_capital
capital_true b h =
    let two = both (leb 65 b) (leb b 90) h in
    (leb-true 65 b two.0, leb-true b 90 two.1)

pub true_capital : (b : ℕ) → (65 ≤ b) × (b ≤ 90) → is_capital b ≡ true
unfolding is_capital
true_capital b h = rw (le-leb 65 b h.0, le-leb b 90 h.1)

pub letter_kind_lem : (x : Letter) → letter_kind (kind_letter x) ≡ x
unfolding letter_kind kind_letter
letter_kind_lem G = refl
letter_kind_lem S = refl
letter_kind_lem R = refl
letter_kind_lem E = refl
letter_kind_lem P = refl
letter_kind_lem H = refl
letter_kind_lem D = refl
letter_kind_lem A = refl
letter_kind_lem Other = refl

-- one key of the choice: the letter is its own, or the rest decides
key : (b : ℕ) (x rest y : Letter) → (rest ≡ y → b ≡ kind_letter y) → cond (eqb b (kind_letter x)) x rest ≡ y → b ≡ kind_letter y
key b x rest y later = go (eqb b (kind_letter x)) refl
  where
    go : (t : Bool) → eqb b (kind_letter x) ≡ t → cond t x rest ≡ y → b ≡ kind_letter y
    go true e h = eqb-true b (kind_letter x) e ∙ ap kind_letter h
    go false e h = later h

-- a line of a kind starts with the letter of that kind
pub kind_letter_lem : (b : ℕ) (x : Letter) → letter_kind b ≡ x → (x ≡ Other → ⊥) → b ≡ kind_letter x
unfolding letter_kind kind_letter
kind_letter_lem b x h n =
    key b G _ x (key b S _ x (key b R _ x (key b E _ x (key b P _ x (key b H _ x (key b D _ x (key b A _ x (λ o. absurd (n (sym o)))))))))) h

-- ---- the test and what it says
pub shape_shaped : (line : List ℕ) → shape_of line ≡ true → Shaped line
unfolding shape_of
shape_shaped line h =
    let n = field_count line in
    let a = both (leb 1 n) _ h in
    let b = both (leb n 18) _ a.1 in
    let c = both (eqb (length line) (4 * n + 1)) _ b.1 in
    let d = both (is_capital (letter_of line)) _ c.1 in
    record {
      capital = capital_true (letter_of line) d.0;
      some = leb-true 1 n a.0;
      few = leb-true n 18 b.0;
      whole = eqb-true (length line) (4 * n + 1) c.0;
      numbers = λ k l. leb-true (number_of line k) 9999 (all_at n (λ i. leb (number_of line i) 9999) d.1 k l);
    }

pub shaped_shape : (line : List ℕ) → Shaped line → shape_of line ≡ true
unfolding shape_of
shaped_shape line s =
    let n = field_count line in
    rw (
      le-leb 1 n s.some,
      le-leb n 18 s.few,
      eq-eqb (length line) (4 * n + 1) s.whole,
      true_capital (letter_of line) s.capital,
    )
    (all_of n (λ k. leb (number_of line k) 9999) (λ k l. le-leb (number_of line k) 9999 (s.numbers k l)))
