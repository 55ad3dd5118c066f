-- What the answers say: 9 of a marked chart, 10 where something waits, done where nothing does; the steps are the
-- handled records.
use Rattle.std.specs.Prelude.{Option, Some, None, Ok, Err}
use mathlib.Core.Path.{◌≡◌, refl, sym, ap, ◌∙◌}
use mathlib.Core.Logic.{◌≢◌}
use mathlib.Core.Bool.{Bool, cond}
use Prim.Native.Nat.{ℕ}
use native.Mathlib.Omega.{arith}
use lib.ListN.{length}
use lib.Dec.{eqb}
use borrow.Author.Tests.{eq-eqb, ne_eqb, eqb-true, eqb-false}
use Rattle.agenda.specs.Steps.{Chart, least_waiting, handled_count}
use Rattle.agenda.proofs.Adding.{cond_by}
use Rattle.charting.specs.Calls.{number_of, steps_of, when_waiting, answer_of, start_answer, Outcome}
use Rattle.charting.specs.declared.Unready.TheVariants.{TooSmall}

-- ---- by what waits
waiting_steps : (k : ℕ) (f : Option ℕ) → steps_of (when_waiting k f) ≡ k
waiting_steps k None = refl
waiting_steps k (Some j) = refl

waiting_done : (k : ℕ) (f : Option ℕ) → number_of (when_waiting k f) ≡ 0 → f ≡ None
waiting_done k None e = refl
waiting_done k (Some j) e = absurd (omega arith)

waiting_ten : (k : ℕ) (f : Option ℕ) → number_of (when_waiting k f) ≡ 10 → f ≢ None
waiting_ten k None e q = absurd (omega arith)
waiting_ten k (Some j) e q = let z : ◌≡◌ {A = ℕ} 0 1 = cc in omega arith

waiting_numbers : (k : ℕ) (f : Option ℕ) (n : ℕ) → n ≢ 0 → n ≢ 10 → number_of (when_waiting k f) ≢ n
waiting_numbers k None n a b e = a (sym e)
waiting_numbers k (Some j) n a b e = b (sym e)

-- ---- a run's answer
module _ (c : Chart) where
  abbrev next : Option ℕ
  next = least_waiting c.records (length c.records)

  abbrev waiting : Outcome
  waiting = when_waiting (handled_count c.records) next

  pub answer_marked : c.mark ≢ 0 → answer_of c ≡ Err TooSmall
  unfolding answer_of
  answer_marked m = ap (λ (b : Bool). cond b waiting (Err TooSmall)) (ne_eqb c.mark 0 m)

  pub answer_waiting : c.mark ≡ 0 → answer_of c ≡ waiting
  unfolding answer_of
  answer_waiting m = ap (λ (b : Bool). cond b waiting (Err TooSmall)) (eq-eqb c.mark 0 m)

  -- what holds of each answer
  answer_by_is : (P : Outcome → Type 0) → (c.mark ≡ 0 → P waiting) → (c.mark ≢ 0 → P (Err TooSmall)) → P (answer_of c)
  unfolding answer_of
  answer_by_is P f g = cond_by P (eqb c.mark 0) {x = waiting} {y = Err TooSmall} (λ t. f (eqb-true c.mark 0 t)) (λ t. g (eqb-false c.mark 0 t))

  -- never 8
  pub answer_fit : number_of (answer_of c) ≢ 8
  answer_fit = answer_by_is (λ a. number_of a ≢ 8) (λ m. waiting_numbers (handled_count c.records) next 8 (λ z. omega arith) (λ z. omega arith)) (λ m e. omega arith)

  pub answer_nine : number_of (answer_of c) ≡ 9 → c.mark ≢ 0
  answer_nine =
      answer_by_is (λ a. number_of a ≡ 9 → c.mark ≢ 0) (λ m e. absurd (waiting_numbers (handled_count c.records) next 9 (λ z. omega arith) (λ z. omega arith) e)) (λ m e. m)

  pub answer_other : number_of (answer_of c) ≢ 9 → c.mark ≡ 0
  answer_other = answer_by_is (λ a. number_of a ≢ 9 → c.mark ≡ 0) (λ m e. m) (λ m e. absurd (e refl))

  pub answer_steps : c.mark ≡ 0 → steps_of (answer_of c) ≡ handled_count c.records
  answer_steps m = ap steps_of (answer_waiting m) ∙ waiting_steps (handled_count c.records) next

  pub answer_done : number_of (answer_of c) ≡ 0 → (c.mark ≡ 0) × (next ≡ None)
  answer_done = answer_by_is (λ a. number_of a ≡ 0 → (c.mark ≡ 0) × (next ≡ None)) (λ m e. (m, waiting_done (handled_count c.records) next e)) (λ m e. absurd (omega arith))

  pub answer_ten : number_of (answer_of c) ≡ 10 → (c.mark ≡ 0) × (next ≢ None)
  answer_ten = answer_by_is (λ a. number_of a ≡ 10 → (c.mark ≡ 0) × (next ≢ None)) (λ m e. (m, waiting_ten (handled_count c.records) next e)) (λ m e. absurd (omega arith))

-- ---- a start's answer
module _ (c : Chart) where
  start_by_is : (P : Outcome → Type 0) → (c.mark ≡ 0 → P (Ok 0)) → (c.mark ≢ 0 → P (Err TooSmall)) → P (start_answer c)
  unfolding start_answer
  start_by_is P f g = cond_by P (eqb c.mark 0) {x = Ok 0} {y = Err TooSmall} (λ t. f (eqb-true c.mark 0 t)) (λ t. g (eqb-false c.mark 0 t))

  pub start_answer_fit : number_of (start_answer c) ≢ 8
  start_answer_fit = start_by_is (λ a. number_of a ≢ 8) (λ m e. omega arith) (λ m e. omega arith)

  pub start_answer_nine : number_of (start_answer c) ≡ 9 → c.mark ≢ 0
  start_answer_nine = start_by_is (λ a. number_of a ≡ 9 → c.mark ≢ 0) (λ m e. absurd (omega arith)) (λ m e. m)

  pub start_answer_done : number_of (start_answer c) ≡ 0 → c.mark ≡ 0
  start_answer_done = start_by_is (λ a. number_of a ≡ 0 → c.mark ≡ 0) (λ m e. m) (λ m e. absurd (omega arith))
