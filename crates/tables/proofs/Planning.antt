-- Question 7's counts: children and introduced edges, line by line.
use Prim.Native.Nat.{ℕ, ◌+◌, ◌≤◌, min}
use native.Mathlib.Omega.{arith}
use native.Mathlib.Numerals.{add-one}
use mathlib.Core.Path.{◌≡◌, refl, sym, ap, ◌∙◌, subst}
use mathlib.Core.Bool.{Bool, true, false, ◌&&◌}
use mathlib.Core.List.{List, ◌++◌}
use lib.Dec.{ltb, leb, eqb}
use borrow.Author.Tests.{ne_eqb, le-leb}
use Rattle.masks.specs.Masks.{◌∪◌, full, Added}
use mir.Val.{bool_byte}
use Rattle.hrg.specs.Counts.{flag, hit, occurs}
use Rattle.hrg.specs.WellFormedTest.{each, every}
use Rattle.hrg.proofs.Sums.{occurs_append}
use Rattle.questions.specs.Layout.{plan_kind, plan_first, plan_second, rule_edges}
use Rattle.questions.specs.Questions.{covered, children_of, introduced_by, children_before, introduced_before, plan_so_far, plan_whole}
use Rattle.tables.specs.Marks.{marked, marks}
use Rattle.tables.specs.Plans.{named_in, named_before, Marked}
use Rattle.tables.specs.declared.plans.Named.{Named}
use Rattle.tables.specs.declared.plans.Named.TheVariants.{Child, Edge}
use Rattle.tables.proofs.Covering.{marked_by_lem, marks_append, marks_covered, covered_by}

-- whether two numbers are the same, as a number
module _ (a b x : ℕ) (e : x ≡ bool_byte (eqb a b)) where
  pub hit_from : x ≡ hit a b
  unfolding hit
  hit_from = e ∙ go (eqb a b)
    where
      go : (y : Bool) → bool_byte y ≡ flag y
      go true = refl
      go false = refl

  pub hit_few : x ≤ 1
  hit_few = go (eqb a b) e
    where
      go : (y : Bool) → x ≡ bool_byte y → x ≤ 1
      go true p = omega arith
      go false p = omega arith

-- ---- one line
pub children_one : (kind first second c x : ℕ) → kind ≡ 1 → x ≡ hit c first → x ≡ occurs c (children_of kind first second)
unfolding occurs children_of
children_one kind first second c x k e = rw k (omega arith)

pub children_two : (kind first second c x y : ℕ) → kind ≡ 2 → x ≡ hit c first → y ≡ hit c second → x + y ≡ occurs c (children_of kind first second)
unfolding occurs children_of
children_two kind first second c x y k e f = rw k (omega arith)

pub children_none : (kind first second c : ℕ) → (kind ≡ 1 → ⊥) → (kind ≡ 2 → ⊥) → 0 ≡ occurs c (children_of kind first second)
unfolding occurs children_of
children_none kind first second c p q = rw (ne_eqb kind 1 p, ne_eqb kind 2 q)

pub introduced_one : (kind first second i x : ℕ) → kind ≡ 1 → x ≡ hit i second → x ≡ occurs i (introduced_by kind first second)
unfolding occurs introduced_by
introduced_one kind first second i x k e = rw k (omega arith)

pub introduced_none : (kind first second i : ℕ) → (kind ≡ 1 → ⊥) → 0 ≡ occurs i (introduced_by kind first second)
unfolding occurs introduced_by
introduced_none kind first second i p = rw (ne_eqb kind 1 p)

-- ---- line by line
module _ (g : List ℕ) (r c : ℕ) where
  children_start : 0 ≡ occurs c (children_before g r 0)
  unfolding children_before occurs
  children_start = refl

  introduced_start : 0 ≡ occurs c (introduced_before g r 0)
  unfolding introduced_before occurs
  introduced_start = refl

  module _ (q kind first second sum x : ℕ) (k : kind ≡ plan_kind g r q) (f : first ≡ plan_first g r q) (s : second ≡ plan_second g r q) where
    children_next : sum ≡ occurs c (children_before g r q) → x ≡ occurs c (children_of kind first second) → sum + x ≡ occurs c (children_before g r (q + 1))
    unfolding children_before
    children_next e p =
        rw (add-one, occurs_append c (children_before g r q) (children_of (plan_kind g r q) (plan_first g r q) (plan_second g r q)), ← k, ← f, ← s)
        (omega arith)

    introduced_next : sum ≡ occurs c (introduced_before g r q) → x ≡ occurs c (introduced_by kind first second) → sum + x ≡ occurs c (introduced_before g r (q + 1))
    unfolding introduced_before
    introduced_next e p =
        rw (add-one, occurs_append c (introduced_before g r q) (introduced_by (plan_kind g r q) (plan_first g r q) (plan_second g r q)), ← k, ← s)
        (omega arith)

-- both
module _ (g : List ℕ) (r : ℕ) where
  pub named_start : (what : Named) → 0 ≡ named_before g r 0 what
  named_start (Child c) = children_start g r c
  named_start (Edge i) = introduced_start g r i

  pub named_next : (q kind first second sum x : ℕ) → kind ≡ plan_kind g r q → first ≡ plan_first g r q → second ≡ plan_second g r q
      → (what : Named) → sum ≡ named_before g r q what → x ≡ named_in kind first second what → sum + x ≡ named_before g r (q + 1) what
  named_next q kind first second sum x k f s (Child c) = children_next g r c q kind first second sum x k f s
  named_next q kind first second sum x k f s (Edge i) = introduced_next g r i q kind first second sum x k f s

pub both_times : (c x y : ℕ) (xs ys : List ℕ) → x ≡ occurs c xs → y ≡ occurs c ys → x + y ≡ occurs c (xs ++ ys)
both_times c x y xs ys p q = omega (arith, occurs_append c xs ys)

-- ---- a line keeps the plan so far
and_yes : (b : Bool) → (b && true) ≡ b
and_yes true = refl
and_yes false = refl

module _ (g : List ℕ) (r q first second : ℕ) where
  pub leaf_ok : (eqb first 0 && eqb second 0) ≡ plan_so_far g r q 0 first second
  unfolding plan_so_far each children_of introduced_by
  leaf_ok = simp and_yes

  pub introduce_ok : (kind times edges before : ℕ) → kind ≡ 1 → times ≡ occurs first (children_before g r q ++ children_of kind first second) → edges ≡ rule_edges g r
      → before ≡ occurs second (introduced_before g r q)
      → (ltb first q && eqb times 1 && (ltb second edges && eqb before 0)) ≡ plan_so_far g r q 1 first second
  unfolding plan_so_far each children_of introduced_by
  introduce_ok kind times edges before k p e i = rw (p, e, i, k) (simp and_yes)

  pub join_ok : (kind one other : ℕ) → kind ≡ 2 → one ≡ occurs first (children_before g r q ++ children_of kind first second)
      → other ≡ occurs second (children_before g r q ++ children_of kind first second)
      → ((ltb first q && ltb second q) && (eqb one 1 && eqb other 1)) ≡ plan_so_far g r q 2 first second
  unfolding plan_so_far each children_of introduced_by
  join_ok kind one other k p e = rw (p, e, k) (simp and_yes)

-- ---- the same as sets
module _ (m kind first second : ℕ) where
  pub marks_one : (x : ℕ) → kind ≡ 1 → Added m first x → x ≡ marks m (children_of kind first second)
  unfolding children_of marks
  marks_one x k a = rw k (marked_by_lem m first x a)

  pub marks_two : (x y : ℕ) → kind ≡ 2 → Added m first x → Added x second y → y ≡ marks m (children_of kind first second)
  unfolding children_of marks
  marks_two x y k a b = rw k (marked_by_lem x second y b ∙ ap (λ n. marked n second) (marked_by_lem m first x a))

  pub marks_none : (kind ≡ 1 → ⊥) → (kind ≡ 2 → ⊥) → m ≡ marks m (children_of kind first second)
  unfolding children_of marks
  marks_none p q = rw (ne_eqb kind 1 p, ne_eqb kind 2 q)

  pub marks_edge : (x : ℕ) → kind ≡ 1 → Added m second x → x ≡ marks m (introduced_by kind first second)
  unfolding introduced_by marks
  marks_edge x k a = rw k (marked_by_lem m second x a)

  pub marks_no_edge : (kind ≡ 1 → ⊥) → m ≡ marks m (introduced_by kind first second)
  unfolding introduced_by marks
  marks_no_edge p = rw (ne_eqb kind 1 p)

module _ (g : List ℕ) (r : ℕ) where
  pub marked_start : Marked g r 0 0 0
  unfolding children_before introduced_before marks
  marked_start = record { below = refl; edges = refl }

  pub marked_next : (q kind first second m n x y : ℕ) → kind ≡ plan_kind g r q → first ≡ plan_first g r q → second ≡ plan_second g r q → Marked g r q m n
      → x ≡ marks m (children_of kind first second) → y ≡ marks n (introduced_by kind first second) → Marked g r (q + 1) x y
  unfolding children_before introduced_before
  marked_next q kind first second m n x y k f s p a b = record {
    below = a ∙ rw (p.below, k, f, s, add-one) (sym (marks_append 0 (children_before g r q) (children_of (plan_kind g r q) (plan_first g r q) (plan_second g r q))));
    edges = b ∙ rw (p.edges, k, s, add-one) (sym (marks_append 0 (introduced_before g r q) (introduced_by (plan_kind g r q) (plan_first g r q) (plan_second g r q))));
  }

  pub marked_done : (n q x y : ℕ) → q ≤ n → n ≤ q → Marked g r q x y → Marked g r n x y
  marked_done n q x y a b p = subst (λ k. Marked g r k x y) (let e : q ≡ n = omega arith in e) p

-- every number below n is in the list
every_covered : (n : ℕ) (l : List ℕ) → n ≤ 64 → covered n l ≡ every n (λ c. ltb 0 (occurs c l))
unfolding covered
every_covered n l h = let few : min 64 n ≡ n = omega arith in rw (le-leb n 64 h, few)

-- a set has every number below n
pub every_marked : (n m : ℕ) (l : List ℕ) (b : Bool) → n ≤ 64 → m ≡ marks 0 l → b ≡ (leb n 64 && eqb (m ∪ full (min n 64)) m) → b ≡ every n (λ c. ltb 0 (occurs c l))
every_marked n m l b h p w = (w ∙ rw p (marks_covered n l)) ∙ every_covered n l h

pub all_marked : (nodes n first m : ℕ) (xs ys : List ℕ) (b : Bool) → n ≡ nodes → nodes ≤ 64 → first ≡ marks 0 xs → m ≡ marks first ys
    → b ≡ (leb n 64 && eqb (m ∪ full (min n 64)) m) → b ≡ every nodes (λ c. ltb 0 (occurs c (xs ++ ys)))
all_marked nodes n first m xs ys b e h p q w = covered_by nodes n first m xs ys b e p q w ∙ every_covered nodes (xs ++ ys) h

pub eight_edges : (n m e : ℕ) → n ≡ min 8 m → m ≡ e → (n ≡ min 8 e) × (min 8 e ≤ 64)
eight_edges n m e p q = (p ∙ ap (min 8) q, omega arith)

pub whole_ok : (g : List ℕ) (r q kind first second : ℕ) (a b : Bool)
    → a ≡ every q (λ c. ltb 0 (occurs c (children_before g r q ++ children_of kind first second)))
    → b ≡ every (min 8 (rule_edges g r)) (λ i. ltb 0 (occurs i (introduced_before g r q ++ introduced_by kind first second)))
    → (a && b) ≡ plan_whole g r q kind first second
unfolding plan_whole
whole_ok g r q kind first second a b p e = rw (p, e)
