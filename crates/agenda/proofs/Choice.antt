-- The record that a step chooses: one of least count of those that are not handled.
use Rattle.std.specs.Prelude.{Option, Some, None}
use mathlib.Core.Path.{◌≡◌, subst}
use mathlib.Core.Logic.{◌⊎◌, inl, inr}
use mathlib.Core.Bool.{true, false}
use mathlib.Core.List.{List}
use Prim.Native.Nat.{ℕ, zero, suc, ◌≤◌, ◌<◌}
use native.Mathlib.Decide.{dec_lt}
use native.Mathlib.Omega.{arith}
use lib.Dec.{leb}
use borrow.Author.Tests.{leb-true, leb-false}
use Rattle.agenda.specs.Records.{is_handled}
use Rattle.agenda.specs.Consequences.{record_in}
use Rattle.agenda.specs.Steps.{lesser, least_waiting}
use Rattle.agenda.specs.declared.Record.{Record}
use Rattle.agenda.proofs.Adding.{apart, cond_by, or_true, or_false}

-- Among the first n records the one at j waits with the least count, or none waits.
pub data Chosen (rs : List Record) (n : ℕ) : Option ℕ → Type 0 where
  waits : {j : ℕ} → j < n → is_handled (record_in rs j) ≡ false → ((k : ℕ) → k < n → is_handled (record_in rs k) ≡ false → (record_in rs j).item.count ≤ (record_in rs k).item.count)
      → Chosen rs n (Some j)
  nothing : ((k : ℕ) → k < n → is_handled (record_in rs k) ≡ true) → Chosen rs n None

module _ (rs : List Record) (n : ℕ) where
  -- the numbers up to n, n by itself
  each : (P : ℕ → Type 0) → ((k : ℕ) → k < n → P k) → P n → (k : ℕ) → k < suc n → P k
  each P f p k l = go (dec_lt k n)
    where
      go : Dec (k < n) → P k
      go (yes h) = f k h
      go (no h) = let e : n ≡ k = omega arith in subst P e p

  abbrev NotLess : ℕ → ℕ → Type 0
  NotLess j k = is_handled (record_in rs k) ≡ false → (record_in rs j).item.count ≤ (record_in rs k).item.count

  next : (f : Option ℕ) → Chosen rs n f → Chosen rs (suc n) (lesser rs n f)
  unfolding lesser
  next None (nothing h) =
      cond_by (Chosen rs (suc n)) _ (λ e. nothing (each (λ k. is_handled (record_in rs k) ≡ true) h e))
      (λ e. waits {j = n} (omega arith) e (each (NotLess n) (λ k l q. absurd (apart (h k l) q)) (λ q. omega arith)))
  next (Some j) (waits l w h) =
      cond_by (Chosen rs (suc n)) _ (λ e. waits {j = j} (omega arith) w (each (NotLess j) h (last (or_true _ _ e))))
      (λ e. let t = or_false (is_handled (record_in rs n)) (leb (record_in rs j).item.count (record_in rs n).item.count) e in
      waits {j = n} (omega arith) t.0 (each (NotLess n) (λ k m q. omega (arith, h k m q, leb-false (record_in rs j).item.count (record_in rs n).item.count t.1)) (λ q. omega arith)))
    where
      last : (is_handled (record_in rs n) ≡ true) ⊎ (leb (record_in rs j).item.count (record_in rs n).item.count ≡ true) → NotLess j n
      last (inl e) q = absurd (apart e q)
      last (inr e) q = leb-true _ _ e

pub chosen : (rs : List Record) (n : ℕ) → Chosen rs n (least_waiting rs n)
unfolding least_waiting
chosen rs zero = nothing (λ k l. absurd (omega arith))
chosen rs (suc n) = next rs n (least_waiting rs n) (chosen rs n)
