-- Laws of writing: lengths, texts written one behind the other, and what is written at all.
use Rattle.std.specs.Prelude.{ℕ, suc, ◌+◌, ◌*◌, ◌≤◌, ◌<◌, ◌≡◌, refl, Bool, true, false, List, [], ◌∷◌, ◌++◌, length, get_or, take, set, leb}
use borrow.Rule.Slice.PartMut.{put_mid}
use Rattle.std.proofs.Common.{sym, ap, ◌∙◌, append_assoc, length-append, take-suc, length-take-le, arith, add-zero, add-suc, suc-add, add-one, le-leb, leb-true}
use Rattle.std.proofs.Math.ListN.{get_or-eq_default}
use Rattle.std.proofs.Math.Seq.{sets-eq}
use Rattle.std.proofs.lemmas.List.{drop-drop}
use Rattle.std.proofs.lemmas.List.Edits.{sets}
use Rattle.std.proofs.Math.Decide.{dec_lt}
use Rattle.std.proofs.lemmas.Bool.{lt-leb}
use Rattle.format.specs.Tests.{all_below}
use Rattle.format.proofs.TestLaws.{both, all_at, all_of}
use Rattle.format.specs.Fields.{field_text}
use Rattle.format.specs.Shape.{is_capital}
use Rattle.format.proofs.ShapeLaws.{capital_true, true_capital}
use Rattle.format.specs.Writing.{fields_text, line_body, line_text, Writable, writable, field_fits, line_fits, Put}

-- ---- lengths
pub field_text_length : (n : ℕ) → length (field_text n) ≡ 4
unfolding field_text
field_text_length n = refl

pub fields_text_length : (ns : List ℕ) → length (fields_text ns) ≡ 4 * length ns
unfolding fields_text field_text
fields_text_length [] = refl
fields_text_length (n ∷ ns) = omega (arith, fields_text_length ns)

pub line_body_length : (letter : ℕ) (ns : List ℕ) → length (line_body letter ns) ≡ 4 * length ns + 1
unfolding line_body
line_body_length letter ns = omega (arith, fields_text_length ns)

pub line_text_length : (letter : ℕ) (ns : List ℕ) → length (line_text letter ns) ≡ 4 * length ns + 2
unfolding line_text
line_text_length letter ns = rw length-append (omega (arith, line_body_length letter ns))

-- ---- one text behind the other
pub sets_append : (xs ys out : List ℕ) (at : ℕ) → sets out at (xs ++ ys) ≡ sets (sets out at xs) (at + length xs) ys
sets_append [] ys out at = rw add-zero
sets_append (x ∷ xs) ys out at = rw (add-suc at (length xs), ← suc-add at (length xs)) (sets_append xs ys (set out at x) (suc at))

pub fields_text_append : (ms ns : List ℕ) → fields_text (ms ++ ns) ≡ fields_text ms ++ fields_text ns
unfolding fields_text
fields_text_append [] ns = refl
fields_text_append (m ∷ ms) ns = rw (fields_text_append ms ns) (sym (append_assoc (field_text m) (fields_text ms) (fields_text ns)))

fields_text_one : (n : ℕ) → fields_text (n ∷ []) ≡ field_text n
unfolding fields_text field_text
fields_text_one n = refl

-- a text in the place of as many bytes
pub put_sets : (out new text : List ℕ) (at size : ℕ) → new ≡ text → size ≡ length text → at + length text ≤ length out
    → put_mid at size out new ≡ sets out at text
put_sets out new text at size p e h = rw (p, e, sets-eq text out at h, append_assoc) (ap (λ l. take at out ++ (text ++ l)) (drop-drop (length text) at out))

-- one turn of the loop that writes fields
pub fields_next : (out : List ℕ) (at : ℕ) (fields : List ℕ) (k : ℕ) → k < length fields
    → sets (sets out at (fields_text (take k fields))) (at + 4 * k) (field_text (get_or fields k 0)) ≡ sets out at (fields_text (take (k + 1) fields))
fields_next out at fields k h =
    let size : length (fields_text (take k fields)) ≡ 4 * k =
    fields_text_length (take k fields) ∙ ap (λ (n : ℕ). 4 * n) (length-take-le k fields (omega arith))
    in
    rw (add-one k, take-suc fields k 0 h, fields_text_append (take k fields) (get_or fields k 0 ∷ []), fields_text_one)
    (sym (sets_append (fields_text (take k fields)) (field_text (get_or fields k 0)) out at ∙ rw size))

pub line_sets : (out : List ℕ) (at letter : ℕ) (ns : List ℕ) (p : ℕ) → p ≡ at + 1 + 4 * length ns
    → set (sets (set out at letter) (at + 1) (fields_text ns)) p 10 ≡ sets out at (line_text letter ns)
unfolding line_text line_body
line_sets out at letter ns p e =
    rw (e, add-one at)
    (ap (λ (i : ℕ). set (sets (set out at letter) (suc at) (fields_text ns)) i 10) (ap (λ (n : ℕ). suc at + n) (sym (fields_text_length ns)))
    ∙ sym (sets_append (fields_text ns) (10 ∷ []) (set out at letter) (suc at)))

-- ---- what is written
pub writable_true : (letter : ℕ) (ns : List ℕ) → writable letter ns ≡ true → Writable letter ns
unfolding writable
writable_true letter ns h =
    let a = both (is_capital letter) _ h in
    let b = both (leb 1 (length ns)) _ a.1 in
    let c = both (leb (length ns) 18) _ b.1 in
    record {
      capital = capital_true letter a.0;
      some = leb-true 1 (length ns) b.0;
      few = leb-true (length ns) 18 c.0;
      small = λ k. go k c.1 (dec_lt k (length ns));
    }
  where
    go : (k : ℕ) → all_below (length ns) (λ i. leb (get_or ns i 0) 9999) ≡ true → Dec (k < length ns) → get_or ns k 0 ≤ 9999
    go k all (yes l) = leb-true (get_or ns k 0) 9999 (all_at (length ns) (λ i. leb (get_or ns i 0) 9999) all k l)
    go k all (no l) = rw (get_or-eq_default ns 0 {n = k} (omega arith)) (omega arith)

pub true_writable : (letter : ℕ) (ns : List ℕ) → Writable letter ns → writable letter ns ≡ true
unfolding writable
true_writable letter ns w =
    rw (true_capital letter w.capital, le-leb 1 (length ns) w.some, le-leb (length ns) 18 w.few)
    (all_of (length ns) (λ k. leb (get_or ns k 0) 9999) (λ k l. le-leb (get_or ns k 0) 9999 (w.small k)))

-- what is written is a number of four columns, or a line of the shape, and lies within the buffer
pub fits_field : (out : List ℕ) (at n : ℕ) → field_fits out at n ≡ true → (n ≤ 9999) × (at + 4 ≤ length out)
unfolding field_fits
fits_field out at n h =
    let two = both (leb n 9999) (leb (at + 4) (length out)) h in
    (leb-true n 9999 two.0, leb-true (at + 4) (length out) two.1)

pub fits_line : (out : List ℕ) (at letter : ℕ) (fields : List ℕ) (count : ℕ) → line_fits out at letter fields count ≡ true
    → Writable letter (take count fields) × (at + (4 * count + 2) ≤ length out)
unfolding line_fits
fits_line out at letter fields count h =
    let rest = (both (leb count 18) _ h).1 in
    let two = both (writable letter (take count fields)) (leb (at + (4 * count + 2)) (length out)) rest in
    (writable_true letter (take count fields) two.0, leb-true (at + (4 * count + 2)) (length out) two.1)

pub field_fits_lem : (out : List ℕ) (at n : ℕ) → n ≤ 9999 → at + 4 ≤ length out → field_fits out at n ≡ true
unfolding field_fits
field_fits_lem out at n h l = rw (le-leb n 9999 h, le-leb (at + 4) (length out) l)

pub line_fits_lem : (out : List ℕ) (at letter : ℕ) (fields : List ℕ) (count : ℕ) → count ≤ 18 → Writable letter (take count fields)
    → at + (4 * count + 2) ≤ length out → line_fits out at letter fields count ≡ true
unfolding line_fits
line_fits_lem out at letter fields count h w l =
    rw (le-leb count 18 h, true_writable letter (take count fields) w, le-leb (at + (4 * count + 2)) (length out) l)

pub field_large : (out : List ℕ) (at n : ℕ) → 9999 < n → field_fits out at n ≡ false
unfolding field_fits
field_large out at n h = rw (lt-leb n 9999 h)

pub field_room : (out : List ℕ) (at n : ℕ) → n ≤ 9999 → field_fits out at n ≡ leb (at + 4) (length out)
unfolding field_fits
field_room out at n h = rw (le-leb n 9999 h)

pub line_many : (out : List ℕ) (at letter : ℕ) (fields : List ℕ) (count : ℕ) → 18 < count → line_fits out at letter fields count ≡ false
unfolding line_fits
line_many out at letter fields count h = rw (lt-leb count 18 h)

pub line_not : (out : List ℕ) (at letter : ℕ) (fields : List ℕ) (count : ℕ) → count ≤ 18 → writable letter (take count fields) ≡ false
    → line_fits out at letter fields count ≡ false
unfolding line_fits
line_not out at letter fields count h w = rw (le-leb count 18 h, w)

pub line_room : (out : List ℕ) (at letter : ℕ) (fields : List ℕ) (count : ℕ) → count ≤ 18 → writable letter (take count fields) ≡ true
    → line_fits out at letter fields count ≡ leb (at + (4 * count + 2)) (length out)
unfolding line_fits
line_room out at letter fields count h w = rw (le-leb count 18 h, w)

-- ---- the two ways that a writing goes
pub put_refused : (fits : Bool) (out : List ℕ) (at : ℕ) (text : List ℕ) → fits ≡ false → Put fits out at text out at
put_refused fits out at text e = record { place = rw e; contents = rw e }

pub put_made : (fits : Bool) (out : List ℕ) (at : ℕ) (text now : List ℕ) (r : ℕ) → fits ≡ true → r ≡ at + length text → now ≡ sets out at text → Put fits out at text now r
put_made fits out at text now r e p q = record { place = p ∙ rw e; contents = q ∙ rw e }

module _ (out : List ℕ) (at : ℕ) (text now : List ℕ) (r : ℕ) where
  -- a text that fits is written
  pub put_done : (fits : Bool) → Put fits out at text now r → fits ≡ true → (r ≡ at + length text) × (now ≡ sets out at text)
  put_done fits p e = (p.place ∙ rw e, p.contents ∙ rw e)

  -- one that does not fit changes nothing
  pub put_none : (fits : Bool) → Put fits out at text now r → fits ≡ false → (r ≡ at) × (now ≡ out)
  put_none fits p e = (p.place ∙ rw e, p.contents ∙ rw e)

-- for code that tests, and writes or does not
pub ruleset putting = (field_large, field_room, line_many, line_not, line_room, put_refused, put_made)
