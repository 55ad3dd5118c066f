-- How many tentacles end at a node, counted over weighed edges; boundary nodes by these counts.
use mathlib.Core.Path.{◌≡◌, refl, sym, ap, ap₂, ◌∙◌, subst}
use mathlib.Core.Bool.{Bool, true, false, ◌&&◌, ◌||◌, not}
use mathlib.Core.List.{List, [], ◌∷◌}
use Prim.Native.Nat.{ℕ, zero, suc, ◌+◌, ◌*◌, ◌≤◌, ◌<◌}
use native.Mathlib.Nat.{add-mul, mul-le-mul_right, not-suc-le-zero, zero-mul, one-mul}
use native.Mathlib.Omega.{arith}
use lib.ListN.{length}
use lib.Dec.{T, ltb, ltb→lt, lt→ltb}
use Rattle.hrg.specs.Counts.{flag, hit, occurs}
use Rattle.hrg.specs.Grammars.{Edge, Graph, touches, edge_at}
use Rattle.hrg.specs.Items.{is_boundary}
use Rattle.hrg.proofs.Sums.{hit_self, hit_ne, hit_suc}

-- the tentacles at x, those of edge number i counted w i times
unfoldable pub degree : (ℕ → ℕ) → List Edge → ℕ → ℕ
degree w [] x = 0
degree w (e ∷ es) x = w 0 * occurs x e.attachment + degree (λ i. w (suc i)) es x

-- all places of a node: its tentacles, and one more if it is external
unfoldable pub places : Graph → ℕ → ℕ
places P x = degree (λ i. 1) P.edges x + occurs x P.externals

pub degree_add : (f g h : ℕ → ℕ) (es : List Edge) (v : ℕ) → ((i : ℕ) → h i ≡ f i + g i) → degree h es v ≡ degree f es v + degree g es v
unfolding degree
degree_add f g h [] v q = refl
degree_add f g h (e ∷ es) v q =
    omega (
      arith,
      ap (λ (k : ℕ). k * occurs v e.attachment) (q 0) ∙ add-mul (f 0) (g 0) (occurs v e.attachment),
      degree_add (λ i. f (suc i)) (λ i. g (suc i)) (λ i. h (suc i)) es v (λ i. q (suc i)),
    )

pub degree_le : (f g : ℕ → ℕ) (es : List Edge) (v : ℕ) → ((i : ℕ) → f i ≤ g i) → degree f es v ≤ degree g es v
unfolding degree
degree_le f g [] v q = omega arith
degree_le f g (e ∷ es) v q =
    omega (arith, mul-le-mul_right (occurs v e.attachment) (q 0), degree_le (λ i. f (suc i)) (λ i. g (suc i)) es v (λ i. q (suc i)))

-- only the weights of the edges that are there matter
pub degree_same : (f g : ℕ → ℕ) (es : List Edge) (v : ℕ) → ((i : ℕ) → i < length es → f i ≡ g i) → degree f es v ≡ degree g es v
unfolding degree
degree_same f g [] v h = refl
degree_same f g (e ∷ es) v h =
    ap₂ ◌+◌ (ap (λ (k : ℕ). k * occurs v e.attachment) (h 0 (omega arith))) (degree_same (λ i. f (suc i)) (λ i. g (suc i)) es v (λ i l. h (suc i) (omega arith)))

pub degree_zero : (f : ℕ → ℕ) (es : List Edge) (v : ℕ) → ((i : ℕ) → f i ≡ 0) → degree f es v ≡ 0
unfolding degree
degree_zero f [] v h = refl
degree_zero f (e ∷ es) v h =
    omega (arith, ap (λ (k : ℕ). k * occurs v e.attachment) (h 0) ∙ zero-mul (occurs v e.attachment), degree_zero (λ i. f (suc i)) es v (λ i. h (suc i)))

mul_pos : (a b : ℕ) → 0 < a → 0 < b → 0 < a * b
mul_pos (suc a) b p q = omega (arith, mul-le-mul_right b p)
mul_pos zero b p q = absurd (not-suc-le-zero p)

pos_mul : (a b : ℕ) → 0 < a * b → (0 < a) × (0 < b)
pos_mul zero b h = absurd (not-suc-le-zero (subst (λ (k : ℕ). 0 < k) (zero-mul b) h))
pos_mul (suc a) zero h = omega arith
pos_mul (suc a) (suc b) h = (omega arith, omega arith)

pub degree_pos : (f : ℕ → ℕ) (es : List Edge) (v i : ℕ) → 0 < f i → 0 < occurs v (edge_at es i).attachment → 0 < degree f es v
unfolding degree occurs
degree_pos f [] v i p q = absurd (not-suc-le-zero q)
degree_pos f (e ∷ es) v zero p q = omega (arith, mul_pos (f 0) (occurs v e.attachment) p q)
degree_pos f (e ∷ es) v (suc i) p q = omega (arith, degree_pos (λ i. f (suc i)) es v i p q)

pub degree_find : (f : ℕ → ℕ) (es : List Edge) (v : ℕ) → 0 < degree f es v
    → (i : ℕ) × (i < length es) × (0 < f i) × (0 < occurs v (edge_at es i).attachment)
unfolding degree
degree_find f [] v h = absurd (not-suc-le-zero h)
degree_find f (e ∷ es) v h = go (degree_find (λ i. f (suc i)) es v) (f 0 * occurs v e.attachment) refl
  where
    go : (0 < degree (λ i. f (suc i)) es v → (i : ℕ) × (i < length es) × (0 < f (suc i)) × (0 < occurs v (edge_at es i).attachment))
        → (k : ℕ) → f 0 * occurs v e.attachment ≡ k → (i : ℕ) × (i < suc (length es)) × (0 < f i) × (0 < occurs v (edge_at (e ∷ es) i).attachment)
    go ih zero q = let t = ih (omega arith) in (suc t.0, omega arith, t.2, t.3)
    go ih (suc k) q = let r = pos_mul (f 0) (occurs v e.attachment) (omega arith) in (0, omega arith, r.0, r.1)

-- one edge alone
pub degree_one : (es : List Edge) (i v : ℕ) → degree (λ j. hit j i) es v ≡ occurs v (edge_at es i).attachment
unfolding degree occurs
degree_one [] i v = refl
degree_one (e ∷ es) zero v =
    omega (
      arith,
      ap (λ (k : ℕ). k * occurs v e.attachment) (hit_self 0) ∙ one-mul (occurs v e.attachment),
      degree_zero (λ j. hit (suc j) 0) es v (λ j. hit_ne (suc j) 0 (λ h. omega arith)),
    )
degree_one (e ∷ es) (suc i) v =
    omega (
      arith,
      ap (λ (k : ℕ). k * occurs v e.attachment) (hit_ne 0 (suc i) (λ h. omega arith)) ∙ zero-mul (occurs v e.attachment),
      degree_same (λ j. hit (suc j) (suc i)) (λ j. hit j i) es v (λ j l. hit_suc j i),
      degree_one es i v,
    )

-- ---- the tests of specs/Items as counts
pub zero_or : {X : Type 0} (k : ℕ) → (k ≡ 0 → X) → (0 < k → X) → X
zero_or zero f g = f refl
zero_or (suc k) f g = g (omega arith)

-- a test that passes, and one that does not
pub by_test : {X : Type 0} (b : Bool) → (b ≡ true → X) → (b ≡ false → X) → X
by_test true f g = f refl
by_test false f g = g refl

pub test_T : (b : Bool) → b ≡ true → T b
test_T true q = tt
test_T false q = let z : ◌≡◌ {A = ℕ} 0 1 = ap flag q in absurd (omega arith)

pub T_test : (b : Bool) → T b → b ≡ true
T_test true t = refl
T_test false t = absurd t

pub and_true : (a b : Bool) → (a && b) ≡ true → (a ≡ true) × (b ≡ true)
and_true true true q = (refl, refl)
and_true true false q = absurd (test_T false q)
and_true false true q = absurd (test_T false q)
and_true false false q = absurd (test_T false q)

positive : (k : ℕ) → 0 < k → ltb 0 k ≡ true
positive k h = T_test (ltb 0 k) (lt→ltb 0 k h)

touch_flag : (t : ℕ → Bool) (es : List Edge) (x : ℕ) → touches t es x ≡ ltb 0 (degree (λ i. flag (t i)) es x)
unfolding touches degree
touch_flag t [] x = refl
touch_flag t (e ∷ es) x = go (t 0) (occurs x e.attachment) (degree (λ i. flag (t (suc i))) es x) (touches (λ i. t (suc i)) es x) (touch_flag (λ i. t (suc i)) es x)
  where
    -- a sum is positive where a part is
    sum : (a b : ℕ) → (ltb 0 a || ltb 0 b) ≡ ltb 0 (a + b)
    sum zero b = let q : b ≡ 0 + b = omega arith in ap (λ (k : ℕ). ltb 0 k) q
    sum (suc a) b = ap (λ (c : Bool). c || ltb 0 b) (positive (suc a) (omega arith)) ∙ sym (positive (suc a + b) (omega arith))

    go : (b : Bool) (a k : ℕ) (c : Bool) → c ≡ ltb 0 k → ((b && ltb 0 a) || c) ≡ ltb 0 (flag b * a + k)
    go true a k c q = ap (λ (d : Bool). ltb 0 a || d) q ∙ sum a k ∙ ap (λ (z : ℕ). ltb 0 (z + k)) (sym (one-mul a))
    go false a k c q = let e : k ≡ 0 * a + k = omega (arith, zero-mul a) in q ∙ ap (λ (z : ℕ). ltb 0 z) e

flags : (t : ℕ → Bool) (es : List Edge) (x : ℕ) → degree (λ i. 1) es x ≡ degree (λ i. flag (t i)) es x + degree (λ i. flag (not (t i))) es x
flags t es x = degree_add (λ i. flag (t i)) (λ i. flag (not (t i))) (λ i. 1) es x (λ i. go (t i))
  where
    go : (b : Bool) → 1 ≡ flag b + flag (not b)
    go true = refl
    go false = refl

or_true : (a b : ℕ) → (ltb 0 a || ltb 0 b) ≡ true → 0 < a + b
or_true zero b q = omega (arith, ltb→lt 0 b (test_T (ltb 0 b) q))
or_true (suc a) b q = omega arith

true_or : (a b : ℕ) → 0 < a + b → (ltb 0 a || ltb 0 b) ≡ true
true_or zero b h = positive b (omega arith)
true_or (suc a) b h = ap (λ (c : Bool). c || ltb 0 b) (positive (suc a) (omega arith))

true_and : (a b : Bool) → a ≡ true → b ≡ true → (a && b) ≡ true
true_and true true p q = refl
true_and true false p q = q
true_and false b p q = p

module _ (t : ℕ → Bool) (P : Graph) (w : ℕ → ℕ) (same : (i : ℕ) → flag (t i) ≡ w i) (x : ℕ) where
  weights : degree (λ i. flag (t i)) P.edges x ≡ degree w P.edges x
  weights = degree_same (λ i. flag (t i)) w P.edges x (λ i l. same i)

  -- a boundary node has some of its places inside the set, and not all of them
  pub boundary_of : 0 < degree w P.edges x → degree w P.edges x < places P x → is_boundary t P x ≡ true
  unfolding is_boundary places
  boundary_of a b =
      true_and (touches t P.edges x) (ltb 0 (occurs x P.externals) || touches (λ i. not (t i)) P.edges x)
      (touch_flag t P.edges x ∙ positive (degree (λ i. flag (t i)) P.edges x) (omega (arith, weights)))
      (ap (λ (c : Bool). ltb 0 (occurs x P.externals) || c) (touch_flag (λ i. not (t i)) P.edges x)
      ∙ true_or (occurs x P.externals) (degree (λ i. flag (not (t i))) P.edges x) (omega (arith, weights, flags t P.edges x)))

  pub boundary_in : is_boundary t P x ≡ true → (0 < degree w P.edges x) × (degree w P.edges x < places P x)
  unfolding is_boundary places
  boundary_in q =
      let k = and_true (touches t P.edges x) (ltb 0 (occurs x P.externals) || touches (λ i. not (t i)) P.edges x) q in
      let a : 0 < degree (λ i. flag (t i)) P.edges x = ltb→lt 0 _ (test_T _ (sym (touch_flag t P.edges x) ∙ k.0)) in
      let b : 0 < occurs x P.externals + degree (λ i. flag (not (t i))) P.edges x
      = or_true (occurs x P.externals) (degree (λ i. flag (not (t i))) P.edges x) (ap (λ (c : Bool). ltb 0 (occurs x P.externals) || c) (sym (touch_flag (λ i. not (t i)) P.edges x)) ∙ k.1) in
      (omega (arith, weights), omega (arith, weights, flags t P.edges x))
