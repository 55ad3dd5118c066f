-- Lists built from a function, and numbers collected over the first members of a list: nodes on edges, children and
-- edges of plan nodes.
use mathlib.Core.Path.{◌≡◌, refl, sym, ap, ◌∙◌}
use mathlib.Core.List.{List, [], ◌∷◌, ◌++◌, append_assoc, append-nil}
use Prim.Native.Nat.{ℕ, zero, suc, ◌≤◌, ◌<◌}
use native.Mathlib.Omega.{arith}
use native.Mathlib.Decide.{dec_lt}
use lib.ListN.{length, get_or}
use lib.Seq.{ext_get_or}
use Rattle.hrg.specs.Counts.{occurs, tabulate}
use Rattle.hrg.specs.Grammars.{PlanNode, leaf}
use Rattle.hrg.specs.WellFormed.{children, introduced, all_children, all_introduced}
use Rattle.hrg.proofs.Sums.{occurs_append, length_tabulate}
use Rattle.questions.specs.Abstract.{build}
use Rattle.questions.proofs.StoredLaws.{get_d_tabulate}

-- ---- built lists
pub length_build : {A : Type 0} (n : ℕ) (f : ℕ → A) → length (build n f) ≡ n
unfolding build
length_build zero f = refl
length_build (suc n) f = ap suc (length_build n (λ i. f (suc i)))

pub get_d_build : {A : Type 0} (n : ℕ) (f : ℕ → A) (i : ℕ) (d : A) → i < n → get_or (build n f) i d ≡ f i
unfolding build
get_d_build zero f i d h = absurd (omega arith)
get_d_build (suc n) f zero d h = refl
get_d_build (suc n) f (suc i) d h = get_d_build n (λ i. f (suc i)) i d (omega arith)

-- a list is built from its own members
pub build_list : {A : Type 0} (d : A) (l : List A) (n : ℕ) (f : ℕ → A) → n ≡ length l → ((i : ℕ) → i < n → f i ≡ get_or l i d) → build n f ≡ l
build_list d l n f e h =
    ext_get_or d (build n f) l (length_build n f ∙ e) (λ i b. get_d_build n f i d (omega (arith, length_build n f)) ∙ h i (omega (arith, length_build n f)))

pub tabulate_list : (l : List ℕ) (n : ℕ) (f : ℕ → ℕ) → n ≡ length l → ((i : ℕ) → i < n → f i ≡ get_or l i 0) → tabulate n f ≡ l
tabulate_list l n f e h =
    ext_get_or 0 (tabulate n f) l (length_tabulate n f ∙ e) (λ i b. get_d_tabulate n f i 0 (omega (arith, length_tabulate n f)) ∙ h i (omega (arith, length_tabulate n f)))

-- ---- the numbers of the first n members
unfoldable pub collect : {A : Type 0} → (A → List ℕ) → A → List A → ℕ → List ℕ
collect f d l zero = []
collect f d l (suc n) = collect f d l n ++ f (get_or l n d)

module _ {A : Type 0} (f : A → List ℕ) (d : A) where
  collect_front : (x : A) (l : List A) (n : ℕ) → collect f d (x ∷ l) (suc n) ≡ f x ++ collect f d l n
  unfolding collect
  collect_front x l zero = sym (append-nil (f x))
  collect_front x l (suc n) = ap (λ (ns : List ℕ). ns ++ f (get_or l n d)) (collect_front x l n) ∙ append_assoc (f x) (collect f d l n) (f (get_or l n d))

  pub collect_le : (v : ℕ) (l : List A) (m n : ℕ) → m ≤ n → occurs v (collect f d l m) ≤ occurs v (collect f d l n)
  unfolding collect
  collect_le v l m zero h = let e : m ≡ 0 = omega arith in rw e (omega arith)
  collect_le v l m (suc n) h = go (dec_lt n m) (λ k. collect_le v l m n k)
    where
      go : Dec (n < m) → (m ≤ n → occurs v (collect f d l m) ≤ occurs v (collect f d l n)) → occurs v (collect f d l m) ≤ occurs v (collect f d l n ++ f (get_or l n d))
      go (yes k) ih = let e : m ≡ suc n = omega arith in rw e (omega arith)
      go (no k) ih = omega (arith, ih (omega arith), occurs_append v (collect f d l n) (f (get_or l n d)))

  -- a member's numbers are among them
  pub collect_member : (v : ℕ) (l : List A) (n i : ℕ) → i < n → occurs v (f (get_or l i d)) ≤ occurs v (collect f d l n)
  unfolding collect
  collect_member v l n i h =
      omega (arith, collect_le v l (suc i) n h, occurs_append v (collect f d l i) (f (get_or l i d)))

  -- and every number is some member's
  pub collect_find : (v : ℕ) (l : List A) (n : ℕ) → 0 < occurs v (collect f d l n) → (i : ℕ) × (i < n) × (0 < occurs v (f (get_or l i d)))
  unfolding collect occurs
  collect_find v l zero h = absurd (omega arith)
  collect_find v l (suc n) h = go (occurs v (f (get_or l n d))) refl (collect_find v l n)
    where
      go : (k : ℕ) → occurs v (f (get_or l n d)) ≡ k → (0 < occurs v (collect f d l n) → (i : ℕ) × (i < n) × (0 < occurs v (f (get_or l i d))))
          → (i : ℕ) × (i < suc n) × (0 < occurs v (f (get_or l i d)))
      go zero e ih = let t = ih (omega (arith, occurs_append v (collect f d l n) (f (get_or l n d)))) in (t.0, omega (arith, t.1), t.2)
      go (suc k) e ih = (n, omega arith, omega arith)

pub all_children_lem : (pl : List PlanNode) → all_children pl ≡ collect children leaf pl (length pl)
unfolding all_children collect
all_children_lem [] = refl
all_children_lem (x ∷ pl) = ap (λ (ns : List ℕ). children x ++ ns) (all_children_lem pl) ∙ sym (collect_front children leaf x pl (length pl))

pub all_introduced_lem : (pl : List PlanNode) → all_introduced pl ≡ collect introduced leaf pl (length pl)
unfolding all_introduced collect
all_introduced_lem [] = refl
all_introduced_lem (x ∷ pl) = ap (λ (ns : List ℕ). introduced x ++ ns) (all_introduced_lem pl) ∙ sym (collect_front introduced leaf x pl (length pl))
