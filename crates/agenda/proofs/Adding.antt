-- Records that are added to a chart: each is found again, with the lesser count, or has a record of its own; a full
-- chart is marked.
use Rattle.std.specs.Prelude.{Option, Some, None}
use mathlib.Core.Path.{◌≡◌, refl, sym, subst}
use mathlib.Core.Logic.{◌⊎◌, inl, inr}
use mathlib.Core.Bool.{Bool, true, false, ◌||◌, cond}
use mathlib.Core.List.Memᴰ.{head as here}
use mathlib.Core.List.Memᴰ.{not-nil as in_nil}
use mathlib.Core.List.Memᴰ.{tail as there}
use mathlib.Core.List.{List, [], ◌∷◌, ◌++◌, Memᴰ as In}
use Prim.Native.Nat.{ℕ, zero, suc, ◌≤◌, ◌<◌}
use native.Mathlib.Decide.{dec_lt}
use native.Mathlib.Omega.{arith}
use lib.ListN.{length, set}
use lib.Dec.{leb}
use borrow.Author.Tests.{leb-true, leb-false, ltb-true, ltb-false, eq-eqb, ne_eqb}
use Rattle.agenda.specs.Records.{same_chart_item, is_handled}
use Rattle.agenda.specs.Consequences.{record_in}
use Rattle.agenda.specs.Steps.{Chart, last_same, improved, placed, added, added_all}
use Rattle.agenda.specs.declared.Record.{Record}
use Rattle.agenda.proofs.Records.{bare, same_bare, bare_same}

-- No record is of the same item as x.
abbrev pub New : Record → List Record → Type 0
New x rs = (k : ℕ) → k < length rs → bare x ≡ bare (record_in rs k) → ⊥

-- One record more, in a chart that is not found too small by it.
pub data Adds (cap : ℕ) (x : Record) (rs : List Record) : List Record → Type 0 where
  kept : (k : ℕ) → k < length rs → bare x ≡ bare (record_in rs k) → (is_handled (record_in rs k) ≡ true) ⊎ ((record_in rs k).item.count ≤ x.item.count) → Adds cap x rs rs
  better : (k : ℕ) → k < length rs → bare x ≡ bare (record_in rs k) → is_handled (record_in rs k) ≡ false → x.item.count < (record_in rs k).item.count
      → Adds cap x rs (set rs k (improved (record_in rs k) x))
  new : New x rs → length rs < cap → Adds cap x rs (rs ++ (x ∷ []))

pub data AddsAll (cap : ℕ) : List Record → List Record → List Record → Type 0 where
  done : {rs : List Record} → AddsAll cap [] rs rs
  next : {x : Record} {xs rs ss ts : List Record} → Adds cap x rs ss → AddsAll cap xs ss ts → AddsAll cap (x ∷ xs) rs ts

-- The chart c holds the records xs besides rs, or some of them and was then full when one more was new.
pub data Ends (cap : ℕ) (xs rs : List Record) (c : Chart) : Type 0 where
  held : c.mark ≡ 0 → AddsAll cap xs rs c.records → Ends cap xs rs c
  full : (c.mark ≡ 0 → ⊥) → (ys : List Record) (x : Record) → ((y : Record) → In y ys → In y xs) → In x xs → AddsAll cap ys rs c.records → New x c.records
      → cap ≤ length c.records → Ends cap xs rs c

-- ---- what the search finds
pub data Search (x : Record) (rs : List Record) (n : ℕ) : Option ℕ → Type 0 where
  found : {k : ℕ} → k < n → bare x ≡ bare (record_in rs k) → Search x rs n (Some k)
  missing : ((k : ℕ) → k < n → bare x ≡ bare (record_in rs k) → ⊥) → Search x rs n None

pub apart : {b : Bool} → b ≡ true → b ≡ false → ⊥
apart x y = let z : ◌≡◌ {A = ℕ} 0 1 = cc in omega arith

-- a choice by a test
pub cond_by : {A : Type 0} (P : A → Type 0) (b : Bool) {x y : A} → (b ≡ true → P x) → (b ≡ false → P y) → P (cond b x y)
cond_by P true f g = f refl
cond_by P false f g = g refl

pub searched : (x : Record) (rs : List Record) (n : ℕ) → Search x rs n (last_same x.item rs n)
unfolding last_same
searched x rs zero = missing (λ k l e. omega arith)
searched x rs (suc n) =
    cond_by (Search x rs (suc n)) _ (λ e. found {k = n} (omega arith) (same_bare x.item (record_in rs n).item e)) (λ e. before e (last_same x.item rs n) (searched x rs n))
  where
    last : (k : ℕ) → k < suc n → same_chart_item x.item (record_in rs n).item ≡ false → bare x ≡ bare (record_in rs k) → Dec (k < n) → k < n
    last k l f e (yes h) = h
    last k l f e (no h) = let q : k ≡ n = omega arith in absurd (apart (bare_same x.item (record_in rs n).item (subst (λ (i : ℕ). bare x ≡ bare (record_in rs i)) q e)) f)

    before : same_chart_item x.item (record_in rs n).item ≡ false → (f : Option ℕ) → Search x rs n f → Search x rs (suc n) f
    before e (Some k) (found l s) = found {k = k} (omega arith) s
    before e None (missing g) = missing (λ k l s. g k (last k l e s (dec_lt k n)) s)

-- ---- one record
data Added (cap : ℕ) (x : Record) (c : Chart) : Chart → Type 0 where
  adds : {rs : List Record} → Adds cap x c.records rs → Added cap x c (record { mark = c.mark; records = rs })
  marks : New x c.records → cap ≤ length c.records → Added cap x c (record { mark = 1; records = c.records })

pub or_true : (a b : Bool) → a || b ≡ true → (a ≡ true) ⊎ (b ≡ true)
or_true true b e = inl refl
or_true false b e = inr e

pub or_false : (a b : Bool) → a || b ≡ false → (a ≡ false) × (b ≡ false)
or_false true b e = absurd (apart refl e)
or_false false b e = (refl, e)

placed_adds : (cap : ℕ) (x : Record) (c : Chart) (f : Option ℕ) → Search x c.records (length c.records) f → Added cap x c (placed cap x c f)
unfolding placed
placed_adds cap x c (Some k) (found l e) =
    cond_by (Added cap x c) _ (λ h. adds (kept k l e (less (or_true _ _ h)))) (λ h. let t = or_false (is_handled y) (leb y.item.count x.item.count) h in adds (better k l e t.0 (leb-false _ _ t.1)))
  where
    y : Record
    y = record_in c.records k

    less : (is_handled y ≡ true) ⊎ (leb y.item.count x.item.count ≡ true) → (is_handled y ≡ true) ⊎ (y.item.count ≤ x.item.count)
    less (inl h) = inl h
    less (inr h) = inr (leb-true _ _ h)
placed_adds cap x c None (missing g) = cond_by (Added cap x c) _ (λ h. adds (new g (ltb-true _ _ h))) (λ h. marks g (ltb-false _ _ h))

added_adds : (cap : ℕ) (x : Record) (c : Chart) → c.mark ≡ 0 → Added cap x c (added cap x c)
unfolding added
added_adds cap x c e =
    subst (λ (b : Bool). Added cap x c (cond b (placed cap x c (last_same x.item c.records (length c.records))) c)) (sym (eq-eqb c.mark 0 e))
    (placed_adds cap x c _ (searched x c.records (length c.records)))

-- ---- a marked chart stays as it is
pub marked_all : (cap : ℕ) (xs : List Record) (c : Chart) → (c.mark ≡ 0 → ⊥) → added_all cap xs c ≡ c
unfolding added_all added
marked_all cap [] c h = refl
marked_all cap (x ∷ xs) c h = rw (ne_eqb c.mark 0 h) (marked_all cap xs c h)

-- ---- all records
one_more : {cap : ℕ} {x : Record} {xs rs ss : List Record} {c : Chart} → Adds cap x rs ss → Ends cap xs ss c → Ends cap (x ∷ xs) rs c
one_more a (held m s) = held m (next a s)
one_more {x = x} {xs = xs} a (full m ys y sub i s n l) = full m (x ∷ ys) y both (there i) (next a s) n l
  where
    both : (z : Record) → In z (x ∷ ys) → In z (x ∷ xs)
    both z (here e) = here e
    both z (there m) = there (sub z m)

pub all_ends : (cap : ℕ) (xs : List Record) (c : Chart) → c.mark ≡ 0 → Ends cap xs c.records (added_all cap xs c)
unfolding added_all
all_ends cap [] c e = held e done
all_ends cap (x ∷ xs) c e = go (added cap x c) (added_adds cap x c e) (λ d m. all_ends cap xs d m)
  where
    go : (d : Chart) → Added cap x c d → ((d : Chart) → d.mark ≡ 0 → Ends cap xs d.records (added_all cap xs d)) → Ends cap (x ∷ xs) c.records (added_all cap xs d)
    go d (adds {rs = rs} a) rest = one_more a (rest (record { mark = c.mark; records = rs }) e)
    go d (marks n l) rest =
        rw (marked_all cap xs (record { mark = 1; records = c.records }) (λ z. omega arith))
        (full (λ z. omega arith) [] x (λ y m. absurd (in_nil m)) (here refl) done n l)

pub all_append : (cap : ℕ) (xs ys : List Record) (c : Chart) → added_all cap (xs ++ ys) c ≡ added_all cap ys (added_all cap xs c)
unfolding added_all
all_append cap [] ys c = refl
all_append cap (x ∷ xs) ys c = all_append cap xs ys (added cap x c)
