-- What adding records leaves and brings: places keep their items, handled records stay, and each record added is found.
use mathlib.Core.Path.{◌≡◌, refl, sym, ap, ◌∙◌, subst}
use mathlib.Core.Logic.{◌⊎◌, inl, inr}
use mathlib.Core.Bool.{Bool, true, false}
use mathlib.Core.List.Memᴰ.{head as here}
use mathlib.Core.List.Memᴰ.{not-nil as in_nil}
use mathlib.Core.List.Memᴰ.{tail as there}
use mathlib.Core.List.{List, [], ◌∷◌, ◌++◌, Memᴰ as In}
use Prim.Native.Nat.{ℕ, zero, suc, ◌+◌, ◌≤◌, ◌<◌}
use native.Mathlib.Decide.{dec_lt}
use native.Mathlib.Omega.{arith}
use lib.ListN.{length, set, length-append, length-set, get_or-append}
use lib.Seq.{get_or-append_seam, get_or-set_same, get_or-set_other}
use lib.Dec.{eqb}
use borrow.Author.Tests.{eqb-true, eqb-false, not-false, eq-eqb}
use Rattle.hrg.specs.Counts.{flag}
use Rattle.agenda.specs.Records.{is_handled}
use Rattle.agenda.specs.Consequences.{no_record, record_in}
use Rattle.agenda.specs.Steps.{Chart, with_count, improved, handled_count, added_all}
use Rattle.agenda.specs.declared.ChartItem.{ChartItem}
use Rattle.agenda.specs.declared.Record.{Record}
use Rattle.agenda.proofs.Records.{bare}
use Rattle.agenda.proofs.Adding.{Adds, kept, better, new, AddsAll, done, next, Ends, held, full, apart, all_ends, marked_all}

-- ---- places after a change
pub data SetAt (rs : List Record) (k : ℕ) (y : Record) (i : ℕ) : Type 0 where
  changed : i ≡ k → record_in (set rs k y) i ≡ y → SetAt rs k y i
  other : (i ≡ k → ⊥) → record_in (set rs k y) i ≡ record_in rs i → SetAt rs k y i

pub set_at : (rs : List Record) (k : ℕ) (y : Record) (i : ℕ) → k < length rs → SetAt rs k y i
set_at rs k y i l = go (eqb i k) refl
  where
    go : (b : Bool) → eqb i k ≡ b → SetAt rs k y i
    go true e = let q = eqb-true i k e in changed q (rw q (get_or-set_same rs k y no_record l))
    go false e = other (eqb-false i k e) (get_or-set_other rs k i y no_record (eqb-false i k e))

data SnocAt (rs : List Record) (x : Record) (i : ℕ) : Type 0 where
  last : i ≡ length rs → record_in (rs ++ (x ∷ [])) i ≡ x → SnocAt rs x i
  before : i < length rs → record_in (rs ++ (x ∷ [])) i ≡ record_in rs i → SnocAt rs x i

snoc_length : (rs : List Record) (x : Record) → length (rs ++ (x ∷ [])) ≡ suc (length rs)
snoc_length rs x = omega (arith, length-append rs (x ∷ []))

snoc_at : (rs : List Record) (x : Record) (i : ℕ) → i < length (rs ++ (x ∷ [])) → SnocAt rs x i
snoc_at rs x i l = go (dec_lt i (length rs))
  where
    go : Dec (i < length rs) → SnocAt rs x i
    go (yes h) = before h (get_or-append rs (x ∷ []) no_record i h)
    go (no h) = let e : i ≡ length rs = omega (arith, snoc_length rs x) in last e (rw e (get_or-append_seam rs x [] no_record))

-- a new record is not handled
abbrev pub Fresh : Record → Type 0
Fresh x = x.handled ≡ 0

pub unhandled : (x : Record) → is_handled x ≡ false → x.handled ≡ 0
unhandled x h = eqb-true x.handled 0 (not-false _ h)

pub fresh_test : (x : Record) → Fresh x → is_handled x ≡ false
fresh_test x e = rw (eq-eqb x.handled 0 e) refl

-- an unhandled record improved by a new one of its item is that one
improved_is : (y x : Record) → bare x ≡ bare y → is_handled y ≡ false → Fresh x → improved y x ≡ x
improved_is y x e h f =
    let item : x.item ≡ with_count y.item x.item.count = ap (λ (z : ChartItem). with_count z x.item.count) e in
    let mark : x.handled ≡ y.handled = f ∙ sym (unhandled y h) in
    rw (← item, ← mark)

-- ---- records that stay
pub record Grew (rs ts : List Record) : Type 0 where
  pub longer : length rs ≤ length ts
  pub item : (k : ℕ) → k < length rs → bare (record_in ts k) ≡ bare (record_in rs k)
  pub mark : (k : ℕ) → k < length rs → is_handled (record_in ts k) ≡ is_handled (record_in rs k)
  pub count : (k : ℕ) → k < length rs → (record_in ts k).item.count ≤ (record_in rs k).item.count
  pub stays : (k : ℕ) → k < length rs → is_handled (record_in rs k) ≡ true → record_in ts k ≡ record_in rs k

pub grew_refl : (rs : List Record) → Grew rs rs
grew_refl rs = record { longer = omega arith; item = λ k l. refl; mark = λ k l. refl; count = λ k l. omega arith; stays = λ k l h. refl }

pub grew_trans : {rs ss ts : List Record} → Grew rs ss → Grew ss ts → Grew rs ts
grew_trans {rs} {ss} {ts} g h =
    record {
      longer = omega (arith, g.longer, h.longer);
      item = λ k l. h.item k (in_ss k l) ∙ g.item k l;
      mark = λ k l. h.mark k (in_ss k l) ∙ g.mark k l;
      count = λ k l. omega (arith, h.count k (in_ss k l), g.count k l);
      stays = λ k l e. h.stays k (in_ss k l) (g.mark k l ∙ e) ∙ g.stays k l e;
    }
  where
    in_ss : (k : ℕ) → k < length rs → k < length ss
    in_ss k l = omega (arith, g.longer)

adds_grew : {cap : ℕ} {x : Record} {rs ts : List Record} → Adds cap x rs ts → Grew rs ts
adds_grew {rs = rs} (kept k l e c) = grew_refl rs
adds_grew {x = x} {rs = rs} (better k l e h c) =
    record {
      longer = omega (arith, length-set rs k y);
      item = λ i m. item i (set_at rs k y i l);
      mark = λ i m. mark i (set_at rs k y i l);
      count = λ i m. count i (set_at rs k y i l);
      stays = λ i m. stays i (set_at rs k y i l);
    }
  where
    y : Record
    y = improved (record_in rs k) x

    item : (i : ℕ) → SetAt rs k y i → bare (record_in (set rs k y) i) ≡ bare (record_in rs i)
    item i (changed q p) = ap bare p ∙ ap (λ (z : ℕ). bare (record_in rs z)) (sym q)
    item i (other n p) = ap bare p

    mark : (i : ℕ) → SetAt rs k y i → is_handled (record_in (set rs k y) i) ≡ is_handled (record_in rs i)
    mark i (changed q p) = ap is_handled p ∙ ap (λ (z : ℕ). is_handled (record_in rs z)) (sym q)
    mark i (other n p) = ap is_handled p

    count : (i : ℕ) → SetAt rs k y i → (record_in (set rs k y) i).item.count ≤ (record_in rs i).item.count
    count i (changed q p) = omega (arith, ap (λ (z : Record). z.item.count) p, ap (λ (z : ℕ). (record_in rs z).item.count) q, c)
    count i (other n p) = omega (arith, ap (λ (z : Record). z.item.count) p)

    stays : (i : ℕ) → SetAt rs k y i → is_handled (record_in rs i) ≡ true → record_in (set rs k y) i ≡ record_in rs i
    stays i (changed q p) t = absurd (apart (subst (λ (z : ℕ). is_handled (record_in rs z) ≡ true) q t) h)
    stays i (other n p) t = p
adds_grew {x = x} {rs = rs} (new n l) =
    record {
      longer = omega (arith, snoc_length rs x);
      item = λ i m. ap bare (same i m);
      mark = λ i m. ap is_handled (same i m);
      count = λ i m. omega (arith, ap (λ (z : Record). z.item.count) (same i m));
      stays = λ i m h. same i m;
    }
  where
    same : (i : ℕ) → i < length rs → record_in (rs ++ (x ∷ [])) i ≡ record_in rs i
    same i m = get_or-append rs (x ∷ []) no_record i m

pub all_grew : {cap : ℕ} {xs rs ts : List Record} → AddsAll cap xs rs ts → Grew rs ts
all_grew (done {rs = rs}) = grew_refl rs
all_grew (next a s) = grew_trans (adds_grew a) (all_grew s)

-- also where the chart becomes marked
ends_grew : {cap : ℕ} {xs rs : List Record} {d : Chart} → Ends cap xs rs d → Grew rs d.records
ends_grew (held m a) = all_grew a
ends_grew (full m ys x sub i a n l) = all_grew a

pub all_grown : (cap : ℕ) (xs : List Record) (c : Chart) → Grew c.records (added_all cap xs c).records
all_grown cap xs c = go (eqb c.mark 0) refl
  where
    go : (b : Bool) → eqb c.mark 0 ≡ b → Grew c.records (added_all cap xs c).records
    go true e = ends_grew (all_ends cap xs c (eqb-true c.mark 0 e))
    go false e = subst (λ (d : Chart). Grew c.records d.records) (sym (marked_all cap xs c (eqb-false c.mark 0 e))) (grew_refl c.records)

-- ---- no more than the chart holds
adds_held : {cap : ℕ} {x : Record} {rs ts : List Record} → Adds cap x rs ts → length rs ≤ cap → length ts ≤ cap
adds_held (kept k l e c) m = m
adds_held {x = x} {rs = rs} (better k l e h c) m = omega (arith, length-set rs k (improved (record_in rs k) x))
adds_held {x = x} {rs = rs} (new n l) m = omega (arith, snoc_length rs x)

pub all_held : {cap : ℕ} {xs rs ts : List Record} → AddsAll cap xs rs ts → length rs ≤ cap → length ts ≤ cap
all_held done m = m
all_held (next a s) m = all_held s (adds_held a m)

-- ---- no two records of one item
abbrev pub Differ : List Record → Type 0
Differ rs = (j k : ℕ) → j < length rs → k < length rs → bare (record_in rs j) ≡ bare (record_in rs k) → j ≡ k

adds_differ : {cap : ℕ} {x : Record} {rs ts : List Record} → Adds cap x rs ts → Differ rs → Differ ts
adds_differ (kept k l e c) d = d
adds_differ {cap} {x} {rs} (better k l e h c) d = λ i j m n q.
    let g = adds_grew {cap = cap} {x = x} {rs = rs} (better k l e h c) in
    let s = length-set rs k (improved (record_in rs k) x) in
    let u : i < length rs = omega arith in
    let v : j < length rs = omega arith in
    d i j u v (sym (g.item i u) ∙ q ∙ g.item j v)
adds_differ {x = x} {rs = rs} (new w l) d = λ i j m n q. go i j q (snoc_at rs x i m) (snoc_at rs x j n)
  where
    go : (i j : ℕ) → bare (record_in (rs ++ (x ∷ [])) i) ≡ bare (record_in (rs ++ (x ∷ [])) j) → SnocAt rs x i → SnocAt rs x j → i ≡ j
    go i j q (last a p) (last b r) = a ∙ sym b
    go i j q (last a p) (before b r) = absurd (w j b (sym (ap bare p) ∙ q ∙ ap bare r))
    go i j q (before a p) (last b r) = absurd (w i a (sym (ap bare r) ∙ sym q ∙ ap bare p))
    go i j q (before a p) (before b r) = d i j a b (sym (ap bare p) ∙ q ∙ ap bare r)

pub all_differ : {cap : ℕ} {xs rs ts : List Record} → AddsAll cap xs rs ts → Differ rs → Differ ts
all_differ done d = d
all_differ (next a s) d = all_differ s (adds_differ a d)

-- ---- each record is an old one at its place or one of those added
abbrev pub From : List Record → List Record → List Record → ℕ → Type 0
From xs rs ts k = ((k < length rs) × (record_in ts k ≡ record_in rs k)) ⊎ In (record_in ts k) xs

adds_from : {cap : ℕ} {x : Record} {rs ts : List Record} → Adds cap x rs ts → Fresh x → (k : ℕ) → k < length ts → ((k < length rs) × (record_in ts k ≡ record_in rs k)) ⊎ (record_in ts k ≡ x)
adds_from (kept k l e c) f i m = inl (m, refl)
adds_from {x = x} {rs = rs} (better k l e h c) f i m = go (set_at rs k y i l)
  where
    y : Record
    y = improved (record_in rs k) x

    go : SetAt rs k y i → ((i < length rs) × (record_in (set rs k y) i ≡ record_in rs i)) ⊎ (record_in (set rs k y) i ≡ x)
    go (changed q p) = inr (p ∙ improved_is (record_in rs k) x e h f)
    go (other n p) = inl (omega (arith, length-set rs k y), p)
adds_from {x = x} {rs = rs} (new w l) f i m = go (snoc_at rs x i m)
  where
    go : SnocAt rs x i → ((i < length rs) × (record_in (rs ++ (x ∷ [])) i ≡ record_in rs i)) ⊎ (record_in (rs ++ (x ∷ [])) i ≡ x)
    go (last a p) = inr p
    go (before a p) = inl (a, p)

pub all_from : {cap : ℕ} {xs rs ts : List Record} → AddsAll cap xs rs ts → ((x : Record) → In x xs → Fresh x) → (k : ℕ) → k < length ts → From xs rs ts k
all_from done f k l = inl (l, refl)
all_from (next {x = x} {xs = xs} {rs = rs} {ss = ss} {ts = ts} a s) f k l = go (all_from s (λ y m. f y (there m)) k l)
  where
    one : record_in ts k ≡ record_in ss k → ((k < length rs) × (record_in ss k ≡ record_in rs k)) ⊎ (record_in ss k ≡ x) → From (x ∷ xs) rs ts k
    one p (inl o) = inl (o.0, p ∙ o.1)
    one p (inr e) = inr (here (p ∙ e))

    go : From xs ss ts k → From (x ∷ xs) rs ts k
    go (inl o) = one o.1 (adds_from a (f x (here refl)) k o.0)
    go (inr m) = inr (there m)

-- ---- each record added is found
-- A record of x's item is handled or has no larger count.
pub record FoundIn (ts : List Record) (x : Record) : Type 0 where
  pub at : ℕ
  pub known : at < length ts
  pub same : bare x ≡ bare (record_in ts at)
  pub less : (is_handled (record_in ts at) ≡ true) ⊎ ((record_in ts at).item.count ≤ x.item.count)

pub found_grew : {rs ts : List Record} {x : Record} → Grew rs ts → FoundIn rs x → FoundIn ts x
found_grew {rs} {ts} {x} g f = record { at = f.at; known = omega (arith, f.known, g.longer); same = f.same ∙ sym (g.item f.at f.known); less = go f.less }
  where
    go : (is_handled (record_in rs f.at) ≡ true) ⊎ ((record_in rs f.at).item.count ≤ x.item.count) → (is_handled (record_in ts f.at) ≡ true) ⊎ ((record_in ts f.at).item.count ≤ x.item.count)
    go (inl h) = inl (g.mark f.at f.known ∙ h)
    go (inr l) = inr (omega (arith, g.count f.at f.known))

adds_found : {cap : ℕ} {x : Record} {rs ts : List Record} → Adds cap x rs ts → FoundIn ts x
adds_found (kept k l e c) = record { at = k; known = l; same = e; less = c }
adds_found {x = x} {rs = rs} (better k l e h c) =
    let y = improved (record_in rs k) x in
    let p = get_or-set_same rs k y no_record l in
    record { at = k; known = omega (arith, length-set rs k y); same = e ∙ sym (ap bare p); less = inr (omega (arith, ap (λ (z : Record). z.item.count) p)) }
adds_found {x = x} {rs = rs} (new w l) =
    let p = get_or-append_seam rs x [] no_record in
    record { at = length rs; known = omega (arith, snoc_length rs x); same = sym (ap bare p); less = inr (omega (arith, ap (λ (z : Record). z.item.count) p)) }

pub all_found : {cap : ℕ} {xs rs ts : List Record} → AddsAll cap xs rs ts → (x : Record) → In x xs → FoundIn ts x
all_found done x m = absurd (in_nil m)
all_found (next {ss = ss} a s) x (here e) = found_grew (all_grew s) (subst (λ (z : Record). FoundIn ss z) (sym e) (adds_found a))
all_found (next a s) x (there m) = all_found s x m

-- ---- the handled records
pub count_set : (rs : List Record) (k : ℕ) (y : Record) → k < length rs → handled_count (set rs k y) + flag (is_handled (record_in rs k)) ≡ handled_count rs + flag (is_handled y)
unfolding handled_count
count_set [] k y l = absurd (omega arith)
count_set (x ∷ rs) zero y l = omega arith
count_set (x ∷ rs) (suc k) y l = omega (arith, count_set rs k y (omega arith))

count_snoc : (rs : List Record) (x : Record) → handled_count (rs ++ (x ∷ [])) ≡ handled_count rs + flag (is_handled x)
unfolding handled_count
count_snoc [] x = omega arith
count_snoc (r ∷ rs) x = omega (arith, count_snoc rs x)

adds_count : {cap : ℕ} {x : Record} {rs ts : List Record} → Adds cap x rs ts → Fresh x → handled_count ts ≡ handled_count rs
adds_count (kept k l e c) f = refl
adds_count {x = x} {rs = rs} (better k l e h c) f = omega (arith, count_set rs k (improved (record_in rs k) x) l)
adds_count {x = x} {rs = rs} (new w l) f = omega (arith, count_snoc rs x, ap flag (fresh_test x f))

pub all_count : {cap : ℕ} {xs rs ts : List Record} → AddsAll cap xs rs ts → ((x : Record) → In x xs → Fresh x) → handled_count ts ≡ handled_count rs
all_count done f = refl
all_count (next a s) f = all_count s (λ y m. f y (there m)) ∙ adds_count a (f _ (here refl))

pub count_le : (rs : List Record) → handled_count rs ≤ length rs
unfolding handled_count
count_le [] = omega arith
count_le (x ∷ rs) = go (is_handled x) (count_le rs)
  where
    go : (b : Bool) → handled_count rs ≤ length rs → flag b + handled_count rs ≤ suc (length rs)
    go true h = omega arith
    go false h = omega arith
