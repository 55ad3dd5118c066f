-- Laws of fields and places.
use Prim.Native.Nat.{ℕ, suc, ◌+◌, ◌-◌, ◌*◌, ◌%◌, ◌^◌, ◌≤◌, ◌<◌}
use native.Mathlib.Omega.{arith}
use native.Mathlib.Nat.{zero-div, div-eq_of_lt, lt_of_lt_of_le}
use mathlib.Core.Path.{◌≡◌, refl, sym, ap, ap₂, ◌∙◌}
use mathlib.Core.Bool.{Bool, true, false, ◌&&◌, cond}
use mathlib.Core.List.{List}
use lib.ListN.{length, get_or, drop, get_or-eq_default}
use lib.Pow.{pow_mono}
use lib.Seq.{get_or-drop, drop-drop}
use lib.Dec.{ltb}
use borrow.Author.Tests.{ltb-true}
use Rattle.questions.specs.declared.Due.{Due}
use Rattle.questions.specs.declared.Due.TheVariants.{Grammar, Symbol, Rule, RuleEdge, PlanLine, Graph, GraphEdge, Nothing}
use Rattle.questions.specs.Layout.{rule_place, in_table, word_field, line_field, packed}
use Rattle.questions.proofs.StoredLaws.{packed_small}

-- ---- fields
-- a word of 64 bits has no field from 10 on
pub field_past : (w j : ℕ) → w < 2 ^ 64 → 10 ≤ j → 0 ≡ word_field w j
unfolding word_field
field_past w j h l = sym (ap (λ x. x % 128) (div-eq_of_lt (lt_of_lt_of_le h (pow_mono (let m : 64 ≤ 7 * j = omega arith in m)))))

-- nor has a place past the end of the table
pub place_past : (t : List ℕ) (p j : ℕ) → length t ≤ p → 0 ≡ line_field t p j
unfolding line_field word_field
place_past t p j h = sym (ap (λ w. word_field w j) (get_or-eq_default t 0 {n = p} h) ∙ ap (λ w. w % 128) (zero-div (2 ^ (7 * j))))

pub field_there : (t : List ℕ) (p j x : ℕ) → x ≡ word_field (get_or t p 0) (0 + j) → x ≡ line_field t p j
unfolding line_field
field_there t p j x e = e ∙ ap (word_field (get_or t p 0)) (let z : 0 + j ≡ j = omega arith in z)

-- a rule's own line is at its first place
pub rule_line_lem : (t : List ℕ) (r j : ℕ) → line_field t (rule_place r + 0) j ≡ line_field t (rule_place r) j
rule_line_lem t r j = ap (λ p. line_field t p j) (let e : rule_place r + 0 ≡ rule_place r = omega arith in e)

-- ---- tests
pub and_true : (a b : Bool) → (a && b) ≡ true → (a ≡ true) × (b ≡ true)
and_true true b h = (refl, h)
and_true false b h = absurd (let z : ◌≡◌ {A = ℕ} 0 1 = cc in omega arith)

-- ---- places
-- what a line in the table has for numbers
abbrev pub Inside : Due → Type 0
Inside Grammar = Unit {0}
Inside (Symbol s) = s < 64
Inside (Rule r) = r < 64
Inside (RuleEdge r i) = (r < 64) × (i < 8)
Inside (PlanLine r q) = (r < 64) × (q < 16)
Inside Graph = Unit {0}
Inside (GraphEdge e) = e < 64
Inside Nothing = Unit {0}

pub inside : (d : Due) → in_table d ≡ true → Inside d
unfolding in_table
inside Grammar h = tt
inside (Symbol s) h = ltb-true s 64 h
inside (Rule r) h = ltb-true r 64 h
inside (RuleEdge r i) h =
    let both = and_true (ltb r 64) (ltb i 8) h in
    (ltb-true r 64 both.0, ltb-true i 8 both.1)
inside (PlanLine r q) h =
    let both = and_true (ltb r 64) (ltb q 16) h in
    (ltb-true r 64 both.0, ltb-true q 16 both.1)
inside Graph h = tt
inside (GraphEdge e) h = ltb-true e 64 h
inside Nothing h = tt

-- of a line that passed the test b and is d
pub known : (due d : Due) (b : Bool) → b ≡ in_table due → b ≡ true → due ≡ d → Inside d
known due d b e h p = inside d (sym (ap in_table p) ∙ sym e ∙ h)

pub chosen : {A : Type 0} (due d : Due) (b : Bool) (f : Due → A) (x : A) → b ≡ in_table due → b ≡ true → due ≡ d → f d ≡ cond (in_table due) (f due) x
chosen due d b f x e h p = rw (← e, h, p)

pub passed : {A : Type 0} (due : Due) (b : Bool) (f : Due → A) (x : A) → b ≡ in_table due → b ≡ false → x ≡ cond (in_table due) (f due) x
passed due b f x e h = rw (← e, h)

-- ---- a line stored
-- the word of the fields from k on, made from the last one to the first
module _ (fs : List ℕ) (w k : ℕ) (e : w ≡ packed (9 - k) (drop k fs)) where
  pub packed_room : 0 < k → w < 2 ^ 56
  packed_room h = rw (← e) at (lt_of_lt_of_le (packed_small (9 - k) (drop k fs)) (pow_mono (let l : 7 * (9 - k) ≤ 56 = omega arith in l)))

  pub packed_next : 0 < k → k ≤ 9 → (x : ℕ) → x ≡ get_or fs (k - 1) 0 → x % 128 + 128 * w ≡ packed (9 - (k - 1)) (drop (k - 1) fs)
  unfolding packed
  packed_next h l x f =
      let more : 9 - (k - 1) ≡ suc (9 - k) = omega arith in
      let before : k - 1 + 1 ≡ k = omega arith in
      let same : k - 1 + 0 ≡ k - 1 = omega arith in
      ap₂ (λ a b. a % 128 + 128 * b)
      (f ∙ sym (get_or-drop (k - 1) fs 0 0 ∙ ap (λ i. get_or fs i 0) same))
      (e ∙ sym (ap (packed (9 - k)) (drop-drop 1 (k - 1) fs ∙ ap (λ i. drop i fs) before)))
      ∙ ap (λ n. packed n (drop (k - 1) fs)) (sym more)

  pub packed_done : k ≤ 0 → w ≡ packed 9 fs
  packed_done h = let z : k ≡ 0 = omega arith in rw z at e

-- for the loop that makes the word
pub ruleset packing = (packed_room, packed_next)
