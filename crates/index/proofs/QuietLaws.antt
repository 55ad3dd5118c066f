-- Quiet records by their words, and the ways of a cursor that skims over them.
use Prim.Native.Nat.{ℕ, ◌-◌, ◌*◌, ◌/◌, ◌≤◌, ◌<◌}
use mathlib.Core.Path.{◌≡◌, sym, ap, ◌∙◌}
use mathlib.Core.List.{List}
use mathlib.Core.Bool.{Bool, true, false}
use Rattle.masks.specs.Masks.{disjoint}
use Rattle.agenda.specs.Records.{is_handled}
use Rattle.records.specs.Words.{record_at}
use Rattle.lists.specs.Cursors.{after_of, Skims, goes}
use Rattle.index.specs.Quiet.{quiet_in}

module _ (w : List ℕ) (edges k e : ℕ) (d : Bool) (at : e ≡ (record_at w k).item.edges) (is : d ≡ disjoint edges e) where
  told : disjoint edges (record_at w k).item.edges ≡ d
  told = ap (disjoint edges) (sym at) ∙ sym is

  pub quiet_edges : d ≡ false → true ≡ quiet_in w edges k
  unfolding quiet_in
  quiet_edges h = rw (told ∙ h)

  pub quiet_waits : d ≡ true → is_handled (record_at w k) ≡ false → true ≡ quiet_in w edges k
  unfolding quiet_in
  quiet_waits h z = rw (told ∙ h, z)

  pub quiet_not : d ≡ true → is_handled (record_at w k) ≡ true → false ≡ quiet_in w edges k
  unfolding quiet_in
  quiet_not h z = rw (told ∙ h, z)

-- a turn of the loop
pub skim_on : (quiet : ℕ → Bool) (ws : List ℕ) (n c d r : ℕ) (b : Bool) → Skims quiet ws n c d → 0 < d → d ≤ 5 * n → b ≡ quiet ((d - 1) / 5) → b ≡ true → r ≡ after_of ws d → Skims quiet ws n c r
skim_on quiet ws n c d r b s p l q h e = goes r d s p l (sym q ∙ h) e
