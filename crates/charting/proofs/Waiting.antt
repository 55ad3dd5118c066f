-- A record waits exactly where not all of them are handled.
use Rattle.std.specs.Prelude.{Option, Some, None}
use mathlib.Core.Path.{◌≡◌, refl, ap}
use mathlib.Core.Bool.{Bool, true, false}
use mathlib.Core.List.{List, [], ◌∷◌}
use Prim.Native.Nat.{ℕ, zero, suc, ◌+◌, ◌<◌}
use native.Mathlib.Omega.{arith}
use lib.ListN.{length}
use Rattle.hrg.specs.Counts.{flag}
use Rattle.agenda.specs.Records.{is_handled}
use Rattle.agenda.specs.Consequences.{record_in}
use Rattle.agenda.specs.Steps.{least_waiting, handled_count}
use Rattle.agenda.specs.declared.Record.{Record}
use Rattle.agenda.proofs.Growth.{count_le}
use Rattle.agenda.proofs.Choice.{Chosen, waits, nothing, chosen}

all_counted : (rs : List Record) → ((k : ℕ) → k < length rs → is_handled (record_in rs k) ≡ true) → handled_count rs ≡ length rs
unfolding handled_count
all_counted [] f = refl
all_counted (x ∷ rs) f = go (is_handled x) (f 0 (omega arith)) (all_counted rs (λ k l. f (suc k) (omega arith)))
  where
    go : (b : Bool) → b ≡ true → handled_count rs ≡ length rs → flag b + handled_count rs ≡ suc (length rs)
    go true e h = omega arith
    go false e h = absurd (let z : ◌≡◌ {A = ℕ} 0 1 = cc in omega arith)

less_counted : (rs : List Record) (k : ℕ) → k < length rs → is_handled (record_in rs k) ≡ false → handled_count rs < length rs
unfolding handled_count
less_counted [] k l e = absurd (omega arith)
less_counted (x ∷ rs) zero l e = go (is_handled x) e
  where
    go : (b : Bool) → b ≡ false → flag b + handled_count rs < suc (length rs)
    go false e = omega (arith, count_le rs)
    go true e = absurd (let z : ◌≡◌ {A = ℕ} 0 1 = cc in omega arith)
less_counted (x ∷ rs) (suc k) l e = go (is_handled x) (less_counted rs k (omega arith) e)
  where
    go : (b : Bool) → handled_count rs < length rs → flag b + handled_count rs < suc (length rs)
    go true h = omega arith
    go false h = omega arith

module _ (rs : List Record) where
  pub none_waits : handled_count rs ≡ length rs → least_waiting rs (length rs) ≡ None
  none_waits e = go (least_waiting rs (length rs)) (chosen rs (length rs))
    where
      go : (f : Option ℕ) → Chosen rs (length rs) f → f ≡ None
      go None (nothing h) = refl
      go (Some j) (waits l w h) = absurd (omega (arith, less_counted rs j l w))

  pub some_waits : (handled_count rs ≡ length rs → ⊥) → (j : ℕ) × (least_waiting rs (length rs) ≡ Some j)
  some_waits n = go (least_waiting rs (length rs)) (chosen rs (length rs))
    where
      go : (f : Option ℕ) → Chosen rs (length rs) f → (j : ℕ) × (f ≡ Some j)
      go None (nothing h) = absurd (n (all_counted rs h))
      go (Some j) (waits l w h) = (j, refl)

  pub idle_counted : least_waiting rs (length rs) ≡ None → handled_count rs ≡ length rs
  idle_counted e = go (least_waiting rs (length rs)) (chosen rs (length rs)) e
    where
      some : Option ℕ → ℕ
      some None = 0
      some (Some j) = 1

      go : (f : Option ℕ) → Chosen rs (length rs) f → f ≡ None → handled_count rs ≡ length rs
      go None (nothing h) n = all_counted rs h
      go (Some j) (waits l w h) n = absurd (omega (arith, ap some n))
