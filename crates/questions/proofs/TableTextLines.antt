-- Written lines are read back: the lines of a file, each with its fields and in their order, lead a reader to the
-- table that holds them.
use mathlib.Core.Path.{◌≡◌, refl, sym, ap, ◌∙◌, subst}
use mathlib.Core.Bool.{true, cond}
use mathlib.Core.List.{List, [], ◌∷◌, ◌++◌}
use Prim.Native.Nat.{ℕ, zero, suc, ◌+◌, ◌≤◌, ◌<◌}
use native.Mathlib.Omega.{arith}
use native.Mathlib.Decide.{dec_lt}
use lib.ListN.{length, get_or, drop, get_or-eq_default}
use lib.Dec.{ltb}
use borrow.Author.Tests.{le-leb, eq-eqb, lt-ltb, le-ltb}
use Rattle.hrg.specs.Counts.{occurs}
use Rattle.hrg.specs.WellFormed.{Listed}
use Rattle.hrg.proofs.Sums.{hit_self}
use Rattle.format.specs.Lines.{Line, lines_of}
use Rattle.format.specs.Shape.{kind_letter}
use Rattle.format.specs.Fields.{fields_of}
use Rattle.format.specs.Writing.{line_body, line_text, Writable}
use Rattle.format.proofs.RoundTrip.{written_letter, written_fields, written_shape, written_line}
use Rattle.questions.specs.Layout.{place_of, letter_due, line_field, stored}
use Rattle.questions.specs.Questions.{field, judge}
use Rattle.questions.specs.Reading.{next, judge_line, Verdict, accepted, read_lines, delivered, Done}
use Rattle.questions.specs.TableText.{series, lines_text}
use Rattle.questions.specs.Walk.{Room}
use Rattle.questions.specs.declared.Due.{Due}
use Rattle.questions.specs.declared.Due.TheVariants.{Grammar, Symbol, Rule, RuleEdge, PlanLine, Graph, GraphEdge, Nothing}
use Rattle.questions.proofs.SmallFields.{Small}
use Rattle.questions.proofs.StoredLaws.{length_stored, stored_other, field_stored_same, field_stored_other}
use Rattle.questions.proofs.WellFormedWalk.{IsLine, reach, room_place, reach_line, Agree, Before, next_agree, judge_agree, Onward, onward_agree}

-- ---- one written line
abbrev pub letter_at : Due → ℕ
letter_at d = kind_letter (letter_due d)

pub letter_capital : (d : Due) → IsLine d → (65 ≤ letter_at d) × (letter_at d ≤ 90)
unfolding letter_due kind_letter
letter_capital Grammar l = omega arith
letter_capital (Symbol s) l = omega arith
letter_capital (Rule r) l = omega arith
letter_capital (RuleEdge r i) l = omega arith
letter_capital (PlanLine r q) l = omega arith
letter_capital Graph l = omega arith
letter_capital (GraphEdge e) l = omega arith
letter_capital Nothing l = absurd l

line_judged : (g c : List ℕ) (d : Due) (fs : List ℕ) → judge g c d fs ≡ 0 → Writable (letter_at d) fs → judge_line g c d (record { bytes = line_body (letter_at d) fs; ended = true }) ≡ 0
unfolding judge_line
line_judged g c d fs h w =
    rw (
      written_shape (letter_at d) fs w,
      written_letter (letter_at d) fs,
      eq-eqb (letter_at d) (letter_at d) refl,
      written_fields (letter_at d) fs w.small,
    ) h

line_read : (g c : List ℕ) (d : Due) (l : Line) (ls : List Line) (fs : List ℕ) → judge_line g c d l ≡ 0 → fields_of l.bytes ≡ fs
    → read_lines g c d (l ∷ ls) ≡ read_lines g (stored c (place_of d) fs) (next (stored c (place_of d) fs) d) ls
unfolding read_lines
line_read g c d l ls fs h e = rw (h, e)

-- a line that passes is read and stored
pub written_read : (g c : List ℕ) (d : Due) (fs rest : List ℕ) → judge g c d fs ≡ 0 → Writable (letter_at d) fs
    → read_lines g c d (lines_of (line_text (letter_at d) fs ++ rest)) ≡ read_lines g (stored c (place_of d) fs) (next (stored c (place_of d) fs) d) (lines_of rest)
written_read g c d fs rest h w =
    ap (read_lines g c d) (written_line (letter_at d) fs rest (λ e. omega (arith, w.capital)))
    ∙ line_read g c d (record { bytes = line_body (letter_at d) fs; ended = true }) (lines_of rest) fs (line_judged g c d fs h w) (written_fields (letter_at d) fs w.small)

-- an accepted table is delivered in front of what stood behind
pub delivered_long : (size : ℕ) (v : Verdict) (t former : List ℕ) → v ≡ accepted t → size ≤ length former → delivered size v former ≡ record { answer = Done; table = t ++ drop size former }
unfolding delivered
delivered_long size v t former e h = rw (e, le-leb size (length former) h)

-- ---- fields of seven bits
-- they have a field of four columns
pub small_field : (fs : List ℕ) → Small fs → (k : ℕ) → get_or fs k 0 ≤ 9999
small_field fs s k = omega (arith, s k)

pub small_none : Small []
small_none k = omega arith

pub small_more : (a : ℕ) (fs : List ℕ) → a < 128 → Small fs → Small (a ∷ fs)
small_more a fs h s zero = h
small_more a fs h s (suc k) = s k

pub small_three : (a b c : ℕ) → a < 128 → b < 128 → c < 128 → Small (a ∷ b ∷ c ∷ [])
small_three a b c h l m = small_more a (b ∷ c ∷ []) h (small_more b (c ∷ []) l (small_more c [] m small_none))

pub small_two : (a b : ℕ) (l : List ℕ) → a < 128 → b < 128 → Small l → Small (a ∷ b ∷ l)
small_two a b l h m s = small_more a (b ∷ l) h (small_more b l m s)

member_occurs : (l : List ℕ) (k : ℕ) → k < length l → 0 < occurs (get_or l k 0) l
unfolding occurs
member_occurs [] k h = absurd (omega arith)
member_occurs (a ∷ l) zero h = omega (arith, hit_self a)
member_occurs (a ∷ l) (suc k) h = omega (arith, member_occurs l k (omega arith))

pub small_listed : (nodes rank : ℕ) (l : List ℕ) → nodes < 128 → Listed nodes rank l → Small l
small_listed nodes rank l h o k = go (dec_lt k (length l))
  where
    go : Dec (k < length l) → get_or l k 0 < 128
    go (yes b) = omega (arith, o.inside (get_or l k 0) (member_occurs l k b))
    go (no b) = omega (arith, get_or-eq_default l 0 {n = k} (omega arith))

-- ---- the lines of a file, one due after the other
pub data Chain (has : Due → Type 0) (after : Due → Due) : Due → List Due → Type 0 where
  end : Chain has after Nothing []
  link : {d : Due} {ds : List Due} → has d → Chain has after (after d) ds → Chain has after d (d ∷ ds)

-- the table with these lines stored
unfoldable pub filled : (Due → List ℕ) → List ℕ → List Due → List ℕ
filled fields c [] = c
filled fields c (d ∷ ds) = filled fields (stored c (place_of d) (fields d)) ds

pub data In (x : Due) : List Due → Type 0 where
  here : {ds : List Due} → In x (x ∷ ds)
  there : {d : Due} {ds : List Due} → In x ds → In x (d ∷ ds)

pub in_left : {x : Due} (ds es : List Due) → In x ds → In x (ds ++ es)
in_left ds es (here {ds = rest}) = here
in_left ds es (there {ds = rest} m) = there (in_left rest es m)

pub in_right : {x : Due} (ds es : List Due) → In x es → In x (ds ++ es)
in_right [] es m = m
in_right (d ∷ ds) es m = there (in_right ds es m)

pub in_series : (kind : ℕ → Due) (n k i : ℕ) → k ≤ i → i < k + n → In (kind i) (series kind k n)
unfolding series
in_series kind zero k i h l = absurd (omega arith)
in_series kind (suc n) k i h l = go (dec_lt k i) (λ b. in_series kind n (k + 1) i b (omega arith))
  where
    go : Dec (k < i) → (k + 1 ≤ i → In (kind i) (series kind (k + 1) n)) → In (kind i) (kind k ∷ series kind (k + 1) n)
    go (yes b) later = there (later (omega arith))
    go (no b) later = let same : k ≡ i = omega arith in subst (λ (x : ℕ). In (kind x) (kind k ∷ series kind (k + 1) n)) same here

-- m lines of one kind, and then the others
pub series_chain : (has : Due → Type 0) (after : Due → Due) (kind : ℕ → Due) (last : Due) (m : ℕ) → ((k : ℕ) → k < m → has (kind k))
    → ((k : ℕ) → after (kind k) ≡ cond (ltb (k + 1) m) (kind (k + 1)) last) → (rest : List Due) → Chain has after last rest
    → (n k : ℕ) → 1 ≤ n → k + n ≡ m → Chain has after (kind k) (series kind k n ++ rest)
unfolding series
series_chain has after kind last m known order rest tail zero k h e = absurd (omega arith)
series_chain has after kind last m known order rest tail (suc zero) k h e =
    let next_is : after (kind k) ≡ last = order k ∙ rw (le-ltb (k + 1) m (omega arith)) in
    link (known k (omega arith)) (subst (λ (x : Due). Chain has after x rest) (sym next_is) tail)
series_chain has after kind last m known order rest tail (suc (suc n)) k h e =
    let next_is : after (kind k) ≡ kind (k + 1) = order k ∙ rw (lt-ltb (k + 1) m (omega arith)) in
    link (known k (omega arith))
    (subst (λ (x : Due). Chain has after x (series kind (k + 1) (suc n) ++ rest)) (sym next_is)
    (series_chain has after kind last m known order rest tail (suc n) (k + 1) (omega arith) (omega arith)))

module _ (fields : Due → List ℕ) (has : Due → Type 0) (after : Due → Due) (size : ℕ)
    (is_line : (d : Due) → has d → IsLine d) (room : (d : Due) → has d → Room size d) (forward : (d : Due) → has d → place_of d < reach (after d)) where
  -- later lines change no earlier place
  pub chain_onward : {d : Due} {ds : List Due} → Chain has after d ds → (c : List ℕ) → length c ≡ size → Onward c (filled fields c ds) d
  unfolding filled
  chain_onward end c e = record { same_length = refl; same_words = λ q h. refl }
  chain_onward (link {d} {ds} h rest) c e =
      let p = place_of d in
      let kept = length_stored c p (fields d) in
      let later = chain_onward rest (stored c p (fields d)) (kept ∙ e) in
      let behind = forward d h in
      record {
        same_length = later.same_length ∙ kept;
        same_words = λ q l.
            let l' : q < p = rw (reach_line d (is_line d h)) at l in
            sym (stored_other c p (fields d) q (λ z. omega arith)) ∙ later.same_words q (omega arith);
      }

  -- each line stands at its place
  pub chain_holds : ((d : Due) → has d → Small (fields d)) → {d : Due} {ds : List Due} → Chain has after d ds → (c : List ℕ) → length c ≡ size → (x : Due) → In x ds
      → (j : ℕ) → j < 9 → line_field (filled fields c ds) (place_of x) j ≡ field (fields x) j
  unfolding filled
  chain_holds small end c e x m j l = elim m [ ]
  chain_holds small (link {d} {ds} h rest) c e x here j l =
      let p = place_of d in
      let fits : p < length c = rw e (room_place size d (room d h)) in
      let later = chain_onward rest (stored c p (fields d)) (length_stored c p (fields d) ∙ e) in
      sym (onward_agree later p j (forward d h) l) ∙ field_stored_same c p (fields d) fits (small d h) j l
  chain_holds small (link {d} {ds} h rest) c e x (there m) j l =
      chain_holds small rest (stored c (place_of d) (fields d)) (length_stored c (place_of d) (fields d) ∙ e) x m j l

  -- and the text of the lines is read so
  module _ (g t : List ℕ) (pass : (d : Due) → has d → judge g t d (fields d) ≡ 0) (before : (d : Due) → has d → Before t d)
      (order : (d : Due) → has d → next t d ≡ after d) (writes : (d : Due) → has d → Writable (letter_at d) (fields d)) where
    pub chain_read : {d : Due} {ds : List Due} → Chain has after d ds → (c : List ℕ) → length c ≡ size → filled fields c ds ≡ t
        → read_lines g c d (lines_of (lines_text fields ds)) ≡ accepted t
    unfolding filled lines_text read_lines lines_of
    chain_read end c e f = ap accepted f
    chain_read (link {d} {ds} h rest) c e f =
        let p = place_of d in
        let fs = fields d in
        let c' = stored c p fs in
        let e' : length c' ≡ size = length_stored c p fs ∙ e in
        let later : Onward c' t (after d) = subst (λ (u : List ℕ). Onward c' u (after d)) f (chain_onward rest c' e') in
        let behind = forward d h in
        let earlier : Agree t c p =
        λ q j l b. sym (onward_agree later q j (omega arith) b) ∙ field_stored_other c p fs q j (λ z. omega arith)
        in
        let judged : judge g c d fs ≡ 0 = sym (judge_agree g t c d fs (before d h) earlier) ∙ pass d h in
        let next_is : next c' d ≡ after d = next_agree c' t d (λ q j l b. onward_agree later q j (omega arith) b) ∙ order d h in
        written_read g c d fs (lines_text fields ds) judged (writes d h)
        ∙ ap (λ (x : Due). read_lines g c' x (lines_of (lines_text fields ds))) next_is
        ∙ chain_read rest c' e' f
