-- Sums, and what `occurs` counts in lists that are appended, mapped, selected or tabulated.
use mathlib.Core.Path.{◌≡◌, refl, sym, ap, ap₂, ◌∙◌}
use mathlib.Core.Bool.{Bool, true, false, true≢false}
use mathlib.Core.List.{List, [], ◌∷◌, ◌++◌}
use Prim.Native.Nat.{ℕ, zero, suc, ◌+◌, ◌*◌, ◌≤◌, ◌<◌}
use native.Mathlib.Nat.{add-mul, one-mul, zero-mul, mul-le-mul_right, not-suc-le-zero, le_of_suc-le-suc, lt_of_not-le}
use native.Mathlib.Omega.{arith}
use native.Mathlib.Numerals.{add-one}
use lib.ListN.{length, get_or, take, drop}
use lib.Seq.{split_at, take-suc}
use lib.Dec.{T, eqb, eqb→eq, eqb_refl, eqb-suc-suc, eqb-suc-zero}
use Rattle.hrg.specs.Counts.{flag, hit, occurs, tabulate, up_to, cons_if, select}
use Rattle.hrg.specs.Grammars.{Graph}
use Rattle.hrg.specs.Trees.{at, images, internals}
use Rattle.hrg.specs.WellFormed.{Listed}

-- ---- one number against another
pub hit_le : (v w : ℕ) → hit v w ≤ 1
unfolding hit
hit_le v w = go (eqb v w)
  where
    go : (b : Bool) → flag b ≤ 1
    go true = omega arith
    go false = omega arith

pub hit_eq : (v w : ℕ) → 0 < hit v w → v ≡ w
unfolding hit
hit_eq v w h = eqb→eq v w (go (eqb v w) h)
  where
    go : (b : Bool) → 0 < flag b → T b
    go true h = tt
    go false h = absurd (not-suc-le-zero h)

pub hit_self : (v : ℕ) → hit v v ≡ 1
unfolding hit
hit_self v = go (eqb v v) (eqb_refl v)
  where
    go : (b : Bool) → T b → flag b ≡ 1
    go true h = refl
    go false h = absurd h

-- a count that is positive only where nothing can be
pub none_left : (k : ℕ) → (0 < k → ⊥) → k ≡ 0
none_left zero h = refl
none_left (suc k) h = absurd (h (omega arith))

pub hit_ne : (v w : ℕ) → (v ≡ w → ⊥) → hit v w ≡ 0
hit_ne v w h = none_left (hit v w) (λ p. h (hit_eq v w p))

pub hit_suc : (v w : ℕ) → hit (suc v) (suc w) ≡ hit v w
unfolding hit
hit_suc v w = ap flag (eqb-suc-suc v w)

-- ---- sums
-- f 0 + .. + f (n - 1)
unfoldable pub sum_to : ℕ → (ℕ → ℕ) → ℕ
sum_to zero f = 0
sum_to (suc n) f = f 0 + sum_to n (λ i. f (suc i))

pub sum_eq : (n : ℕ) (f g : ℕ → ℕ) → ((x : ℕ) → x < n → f x ≡ g x) → sum_to n f ≡ sum_to n g
unfolding sum_to
sum_eq zero f g h = refl
sum_eq (suc n) f g h = ap₂ ◌+◌ (h 0 (omega arith)) (sum_eq n (λ i. f (suc i)) (λ i. g (suc i)) (λ x l. h (suc x) (omega arith)))

pub sum_le : (n : ℕ) (f g : ℕ → ℕ) → ((x : ℕ) → x < n → f x ≤ g x) → sum_to n f ≤ sum_to n g
unfolding sum_to
sum_le zero f g h = omega arith
sum_le (suc n) f g h = omega (arith, h 0 (omega arith), sum_le n (λ i. f (suc i)) (λ i. g (suc i)) (λ x l. h (suc x) (omega arith)))

pub sum_add : (n : ℕ) (f g : ℕ → ℕ) → sum_to n (λ x. f x + g x) ≡ sum_to n f + sum_to n g
unfolding sum_to
sum_add zero f g = refl
sum_add (suc n) f g = omega (arith, sum_add n (λ i. f (suc i)) (λ i. g (suc i)))

pub sum_zero : (n : ℕ) (f : ℕ → ℕ) → ((x : ℕ) → x < n → f x ≡ 0) → sum_to n f ≡ 0
unfolding sum_to
sum_zero zero f h = refl
sum_zero (suc n) f h = omega (arith, h 0 (omega arith), sum_zero n (λ i. f (suc i)) (λ x l. h (suc x) (omega arith)))

pub sum_last : (n : ℕ) (f : ℕ → ℕ) → sum_to (suc n) f ≡ sum_to n f + f n
unfolding sum_to
sum_last zero f = omega arith
sum_last (suc n) f = omega (arith, sum_last n (λ x. f (suc x)))

pub sum_member : (n : ℕ) (f : ℕ → ℕ) (x : ℕ) → x < n → f x ≤ sum_to n f
unfolding sum_to
sum_member zero f x h = absurd (not-suc-le-zero h)
sum_member (suc n) f zero h = omega arith
sum_member (suc n) f (suc x) h = omega (arith, sum_member n (λ i. f (suc i)) x (le_of_suc-le-suc h))

pub sum_find : (n : ℕ) (f : ℕ → ℕ) → 0 < sum_to n f → (x : ℕ) × (x < n) × (0 < f x)
unfolding sum_to
sum_find zero f h = absurd (not-suc-le-zero h)
sum_find (suc n) f h = go (f 0) refl (sum_find n (λ x. f (suc x)))
  where
    go : (k : ℕ) → f 0 ≡ k → (0 < sum_to n (λ x. f (suc x)) → (x : ℕ) × (x < n) × (0 < f (suc x))) → (x : ℕ) × (x < suc n) × (0 < f x)
    go zero q ih = let t = ih (omega arith) in (suc t.0, omega arith, t.2)
    go (suc k) q ih = (0, omega arith, omega arith)

pub sum_pick : (n c : ℕ) (f : ℕ → ℕ) → c < n → sum_to n (λ q. hit q c * f q) ≡ f c
unfolding sum_to
sum_pick zero c f h = absurd (not-suc-le-zero h)
sum_pick (suc n) zero f h =
    omega (
      arith,
      ap (λ (k : ℕ). k * f 0) (hit_self 0) ∙ one-mul (f 0),
      sum_zero n (λ q. hit (suc q) 0 * f (suc q)) (λ q l. ap (λ (k : ℕ). k * f (suc q)) (hit_ne (suc q) 0 (λ e. omega arith)) ∙ zero-mul (f (suc q))),
    )
sum_pick (suc n) (suc c) f h =
    omega (
      arith,
      ap (λ (k : ℕ). k * f 0) (hit_ne 0 (suc c) (λ e. omega arith)) ∙ zero-mul (f 0),
      sum_eq n (λ q. hit (suc q) (suc c) * f (suc q)) (λ q. hit q c * f (suc q)) (λ q l. rw hit_suc),
      sum_pick n c (λ q. f (suc q)) (le_of_suc-le-suc h),
    )

-- ---- members and places
pub occurs_append : (v : ℕ) (xs ys : List ℕ) → occurs v (xs ++ ys) ≡ occurs v xs + occurs v ys
unfolding occurs
occurs_append v [] ys = omega arith
occurs_append v (x ∷ xs) ys = omega (arith, occurs_append v xs ys)

-- around a place of a list
pub occurs_around : (y : ℕ) (l : List ℕ) (i : ℕ) → i < length l → occurs y l ≡ occurs y (take i l) + (hit y (get_or l i 0) + occurs y (drop (suc i) l))
unfolding occurs
occurs_around y l i h = ap (occurs y) (split_at l i 0 h) ∙ occurs_append y (take i l) (get_or l i 0 ∷ drop (suc i) l)

pub occurs_next : (y : ℕ) (l : List ℕ) (i : ℕ) → i < length l → occurs y (take (i + 1) l) ≡ occurs y (take i l) + hit y (get_or l i 0)
unfolding occurs
occurs_next y l i h =
    ap (λ n. occurs y (take n l)) (add-one i) ∙ ap (occurs y) (take-suc l i 0 h) ∙ occurs_append y (take i l) (get_or l i 0 ∷ []) ∙ omega arith

pub occurs_sum : (v n : ℕ) (l : List ℕ) → length l ≡ n → occurs v l ≡ sum_to n (λ x. hit v (at l x))
unfolding occurs sum_to
occurs_sum v n l e = rw (← e) (go l)
  where
    go : (l : List ℕ) → occurs v l ≡ sum_to (length l) (λ x. hit v (at l x))
    go [] = refl
    go (w ∷ ws) = omega (arith, go ws)

pub occurs_find : (v : ℕ) (l : List ℕ) → 0 < occurs v l → (x : ℕ) × (x < length l) × (at l x ≡ v)
occurs_find v l h =
    let t = sum_find (length l) (λ x. hit v (at l x)) (omega (arith, occurs_sum v (length l) l refl)) in
    (t.0, t.1, sym (hit_eq v (at l t.0) t.2))

pub occurs_at : (l : List ℕ) (x : ℕ) → x < length l → 0 < occurs (at l x) l
occurs_at l x h =
    omega (arith, occurs_sum (at l x) (length l) l refl, sum_member (length l) (λ y. hit (at l x) (at l y)) x h, hit_self (at l x))

-- ---- sums over lists
unfoldable pub sum_over : (ℕ → ℕ) → List ℕ → ℕ
sum_over f [] = 0
sum_over f (x ∷ xs) = f x + sum_over f xs

pub sum_over_append : (f : ℕ → ℕ) (xs ys : List ℕ) → sum_over f (xs ++ ys) ≡ sum_over f xs + sum_over f ys
unfolding sum_over
sum_over_append f [] ys = omega arith
sum_over_append f (x ∷ xs) ys = omega (arith, sum_over_append f xs ys)

pub sum_over_member : (f : ℕ → ℕ) (xs : List ℕ) (x : ℕ) → 0 < occurs x xs → f x ≤ sum_over f xs
unfolding sum_over occurs
sum_over_member f [] x h = absurd (not-suc-le-zero h)
sum_over_member f (a ∷ xs) x h = go (hit x a) refl (sum_over_member f xs x)
  where
    go : (k : ℕ) → hit x a ≡ k → (0 < occurs x xs → f x ≤ sum_over f xs) → f x ≤ f a + sum_over f xs
    go zero e ih = omega (arith, ih (omega arith))
    go (suc k) e ih = omega (arith, ap f (hit_eq x a (omega arith)))

-- each number counts as often as it stands in the list
pub sum_over_lem : (n : ℕ) (f : ℕ → ℕ) (xs : List ℕ) → ((x : ℕ) → 0 < occurs x xs → x < n) → sum_over f xs ≡ sum_to n (λ x. occurs x xs * f x)
unfolding sum_over occurs
sum_over_lem n f [] h = sym (sum_zero n (λ x. 0 * f x) (λ x l. zero-mul (f x)))
sum_over_lem n f (a ∷ xs) h =
    omega (
      arith,
      sum_eq n (λ x. (hit x a + occurs x xs) * f x) (λ x. hit x a * f x + occurs x xs * f x) (λ x l. add-mul (hit x a) (occurs x xs) (f x)),
      sum_add n (λ x. hit x a * f x) (λ x. occurs x xs * f x),
      sum_pick n a f (h a (omega (arith, hit_self a))),
      sum_over_lem n f xs (λ x l. h x (omega arith)),
    )

pub occurs_map : (v : ℕ) (place xs : List ℕ) → occurs v (images place xs) ≡ sum_over (λ x. hit v (at place x)) xs
unfolding occurs sum_over
occurs_map v place [] = refl
occurs_map v place (x ∷ xs) = ap (λ (k : ℕ). hit v (at place x) + k) (occurs_map v place xs)

-- ---- tabulated and selected lists
pub length_tabulate : (n : ℕ) (f : ℕ → ℕ) → length (tabulate n f) ≡ n
unfolding tabulate
length_tabulate zero f = refl
length_tabulate (suc n) f = ap suc (length_tabulate n (λ i. f (suc i)))

pub at_tabulate : (n : ℕ) (f : ℕ → ℕ) (x : ℕ) → x < n → at (tabulate n f) x ≡ f x
unfolding tabulate
at_tabulate zero f x h = absurd (not-suc-le-zero h)
at_tabulate (suc n) f zero h = refl
at_tabulate (suc n) f (suc x) h = at_tabulate n (λ i. f (suc i)) x (le_of_suc-le-suc h)

pub tabulate_ext : (n : ℕ) (f g : ℕ → ℕ) → ((x : ℕ) → x < n → f x ≡ g x) → tabulate n f ≡ tabulate n g
unfolding tabulate
tabulate_ext zero f g h = refl
tabulate_ext (suc n) f g h = ap₂ ◌∷◌ (h 0 (omega arith)) (tabulate_ext n (λ i. f (suc i)) (λ i. g (suc i)) (λ x l. h (suc x) (omega arith)))

pub occurs_tabulate : (v n : ℕ) (f : ℕ → ℕ) → occurs v (tabulate n f) ≡ sum_to n (λ x. hit v (f x))
unfolding tabulate occurs sum_to
occurs_tabulate v zero f = refl
occurs_tabulate v (suc n) f = ap (λ (k : ℕ). hit v (f 0) + k) (occurs_tabulate v n (λ i. f (suc i)))

pub occurs_up_to : (n x : ℕ) → x < n → occurs x (up_to n) ≡ 1
unfolding up_to sum_to
occurs_up_to n x h = occurs_tabulate x n (λ i. i) ∙ go n x h
  where
    go : (n x : ℕ) → x < n → sum_to n (λ i. hit x i) ≡ 1
    go zero x h = absurd (not-suc-le-zero h)
    go (suc n) zero h = omega (arith, hit_self 0, sum_zero n (λ i. hit 0 (suc i)) (λ i l. hit_ne 0 (suc i) (λ e. omega arith)))
    go (suc n) (suc x) h = omega (arith, hit_ne (suc x) 0 (λ e. omega arith), sum_eq n (λ i. hit (suc x) (suc i)) (λ i. hit x i) (λ i l. hit_suc x i), go n x (le_of_suc-le-suc h))

pub occurs_past : (n x : ℕ) → n ≤ x → occurs x (up_to n) ≡ 0
unfolding up_to
occurs_past n x h = occurs_tabulate x n (λ i. i) ∙ sum_zero n (λ i. hit x i) (λ i l. hit_ne x i (λ e. omega arith))

-- a test keeps all copies of a number or none
pub occurs_kept : (t : ℕ → Bool) (x : ℕ) (xs : List ℕ) → t x ≡ true → occurs x (select t xs) ≡ occurs x xs
unfolding select occurs
occurs_kept t x [] e = refl
occurs_kept t x (y ∷ ys) e = go (t y) refl (occurs_kept t x ys e)
  where
    go : (b : Bool) → t y ≡ b → occurs x (select t ys) ≡ occurs x ys → occurs x (cons_if b y (select t ys)) ≡ hit x y + occurs x ys
    go true q ih = ap (λ (k : ℕ). hit x y + k) ih
    go false q ih = omega (arith, ih, hit_ne x y (λ p. true≢false (sym e ∙ ap t p ∙ q)))

pub occurs_dropped : (t : ℕ → Bool) (x : ℕ) (xs : List ℕ) → t x ≡ false → occurs x (select t xs) ≡ 0
unfolding select occurs
occurs_dropped t x [] e = refl
occurs_dropped t x (y ∷ ys) e = go (t y) refl (occurs_dropped t x ys e)
  where
    go : (b : Bool) → t y ≡ b → occurs x (select t ys) ≡ 0 → occurs x (cons_if b y (select t ys)) ≡ 0
    go false q ih = ih
    go true q ih = omega (arith, ih, hit_ne x y (λ p. true≢false (sym q ∙ ap t (sym p) ∙ e)))

-- ---- the internal and the external nodes of a graph
pub occurs_internals : (P : Graph) (x : ℕ) → x < P.nodes → occurs x P.externals ≤ 1 → occurs x (internals P) + occurs x P.externals ≡ 1
unfolding internals
occurs_internals P x h l = go (occurs x P.externals) refl
  where
    go : (k : ℕ) → occurs x P.externals ≡ k → occurs x (internals P) + occurs x P.externals ≡ 1
    go zero e = omega (arith, occurs_kept (λ y. eqb (occurs y P.externals) 0) x (up_to P.nodes) (ap (λ (k : ℕ). eqb k 0) e), occurs_up_to P.nodes x h)
    go (suc k) e =
        omega (arith, occurs_dropped (λ y. eqb (occurs y P.externals) 0) x (up_to P.nodes) (ap (λ (k : ℕ). eqb k 0) e ∙ eqb-suc-zero k))

pub internals_inside : (P : Graph) (x : ℕ) → 0 < occurs x (internals P) → x < P.nodes
unfolding internals
internals_inside P x h = go (eqb (occurs x P.externals) 0) refl
  where
    go : (b : Bool) → eqb (occurs x P.externals) 0 ≡ b → x < P.nodes
    go false e = absurd (omega (arith, occurs_dropped (λ y. eqb (occurs y P.externals) 0) x (up_to P.nodes) e))
    go true e =
        lt_of_not-le (λ l. omega (arith, occurs_kept (λ y. eqb (occurs y P.externals) 0) x (up_to P.nodes) e, occurs_past P.nodes x l))

-- how often graph node v is the image of a number in xs
image_sum : (v n : ℕ) (place xs : List ℕ) → ((x : ℕ) → 0 < occurs x xs → x < n) → occurs v (images place xs) ≡ sum_to n (λ x. occurs x xs * hit v (at place x))
image_sum v n place xs h = occurs_map v place xs ∙ sum_over_lem n (λ x. hit v (at place x)) xs h

pub images_le : (v n k : ℕ) (place xs : List ℕ) → length place ≡ n → Listed n k xs → occurs v (images place xs) ≤ occurs v place
images_le v n k place xs e l =
    omega (
      arith,
      image_sum v n place xs l.inside,
      sum_le n (λ x. occurs x xs * hit v (at place x)) (λ x. hit v (at place x)) (λ x i. omega (arith, mul-le-mul_right (hit v (at place x)) (l.once x), one-mul (hit v (at place x)))),
      occurs_sum v n place e,
    )

pub images_split : {k : ℕ} (v : ℕ) (P : Graph) (place : List ℕ) → length place ≡ P.nodes → Listed P.nodes k P.externals
    → occurs v (images place (internals P)) + occurs v (images place P.externals) ≡ occurs v place
images_split v P place e l =
    omega (
      arith,
      image_sum v P.nodes place (internals P) (internals_inside P),
      image_sum v P.nodes place P.externals l.inside,
      sum_add P.nodes inner outer,
      sum_eq P.nodes (λ x. inner x + outer x) (λ x. hit v (at place x)) each,
      occurs_sum v P.nodes place e,
    )
  where
    inner : ℕ → ℕ
    inner x = occurs x (internals P) * hit v (at place x)

    outer : ℕ → ℕ
    outer x = occurs x P.externals * hit v (at place x)

    each : (x : ℕ) → x < P.nodes → inner x + outer x ≡ hit v (at place x)
    each x h =
        sym (add-mul (occurs x (internals P)) (occurs x P.externals) (hit v (at place x)))
        ∙ ap (λ (k : ℕ). k * hit v (at place x)) (occurs_internals P x h (l.once x)) ∙ one-mul (hit v (at place x))
