-- A plan line judged by the sets of the lines before it: what they do not have is named by none of these lines.
use Prim.Native.Nat.{ℕ, zero, suc, ◌+◌, ◌-◌, ◌≤◌, ◌<◌, min}
use native.Mathlib.Omega.{arith}
use native.Mathlib.Numerals.{add-one}
use native.Mathlib.Decide.{ℕ_discrete}
use mathlib.Core.Path.{◌≡◌, refl, sym, ap, ap₂, ◌∙◌}
use mathlib.Core.Bool.{Bool, true, false, not, ◌&&◌, ◌||◌, cond, false≢true}
use mathlib.Core.List.{List, [], ◌∷◌, ◌++◌}
use lib.Dec.{ltb, leb, eqb}
use borrow.Author.Tests.{ltb-true, lt-ltb, le-ltb, eq-eqb, ne_eqb, le-leb, lt-leb, not-true, not-false}
use Rattle.masks.specs.Masks.{bit, member, ◌∪◌, full, Added}
use Rattle.masks.proofs.Laws.{bit_empty, member_true, member_false}
use Rattle.hrg.specs.Counts.{hit, occurs, tabulate}
use Rattle.hrg.proofs.Sums.{occurs_append, hit_self, hit_ne}
use Rattle.std.specs.Prelude.{Option, Some, None}
use Rattle.questions.specs.declared.Due.TheVariants.{PlanLine}
use Rattle.questions.specs.Layout.{plans_from, plan_place, grammar_words, place_of, plan_kind, plan_first, plan_second, rule_edges, rule_plan}
use Rattle.questions.specs.Questions.{ask, children_of, children_before, introduced_before, plan_so_far, plan_whole, judge_plan, judge}
use Rattle.questions.specs.Checking.{fields_due, stored_fields}
use Rattle.tables.specs.Marks.{marked, marks}
use Rattle.tables.specs.Plans.{Marked, introduce_fits, join_fits, With, Takes, line_kept, Keeps}
use Rattle.tables.specs.declared.plans.PlanMarks.{PlanMarks}
use Rattle.tables.proofs.LineFields.{ends_yes, ends_no}
use Rattle.tables.specs.Concluding.{behind, Standing, Stands, Leads, Reaches, Count, rule_after}
use Rattle.tables.proofs.Covering.{marks_append, marks_bit}
use Rattle.tables.proofs.Planning.{leaf_ok, introduce_ok, join_ok, marks_none, marks_no_edge, marks_one, marks_two, marks_edge, marked_next, every_marked, whole_ok}
use Rattle.tables.proofs.Leading.{reaches_no, reaches_yes, lines_start, lines_end, lines_no, lines_next, next_plan}

-- ---- tests
and_if : (a x y : Bool) → (a ≡ true → x ≡ y) → (a && x) ≡ (a && y)
and_if true x y f = f refl
and_if false x y f = refl

and_swap : (a x b y : Bool) → ((a && x) && (b && y)) ≡ ((a && b) && (x && y))
and_swap true true b y = refl
and_swap true false true y = refl
and_swap true false false y = refl
and_swap false x b y = refl

and_none : (a x b y : Bool) → ((a && x) && (b && false)) ≡ ((a && b) && (false && y))
and_none true true true y = refl
and_none true true false y = refl
and_none true false true y = refl
and_none true false false y = refl
and_none false x b y = refl

one_more : (k x : ℕ) → x ≡ k + 1 → eqb k 0 ≡ eqb x 1
one_more zero x e = sym (eq-eqb x 1 (omega arith))
one_more (suc k) x e = ne_eqb (suc k) 0 (λ p. omega arith) ∙ sym (ne_eqb x 1 (λ p. omega arith))

-- a number is not in the set exactly where no line names it
not_in : (l : List ℕ) (m x : ℕ) → m ≡ marks 0 l → x < 64 → not (member m x) ≡ eqb (occurs x l) 0
not_in l m x e h = go (member m x) refl (occurs x l) refl
  where
    set : bit m x ≡ bit (marks 0 l) x
    set = ap (λ k. bit k x) e

    go : (b : Bool) → member m x ≡ b → (k : ℕ) → occurs x l ≡ k → not b ≡ eqb k 0
    go true p zero q = absurd (omega (arith, set, member_true m x p, (marks_bit l 0 x h).0 (omega (arith, set, member_true m x p)), bit_empty x))
    go true p (suc k) q = sym (ne_eqb (suc k) 0 (λ z. omega arith))
    go false p zero q = refl
    go false p (suc k) q = absurd (omega (arith, set, member_false m x p, (marks_bit l 0 x h).1 (omega arith)))

-- ---- a line of each kind
module _ (g : List ℕ) (r q children introduced : ℕ) (M : Marked g r q children introduced) (few : q ≤ 16) (first second : ℕ) where
  introduce_fits_is : (edges : ℕ) → edges ≡ rule_edges g r → edges ≤ 8 → introduce_fits q edges children introduced first second ≡ plan_so_far g r q 1 first second
  unfolding introduce_fits children_of occurs
  introduce_fits_is edges e most =
      ap₂ ◌&&◌
      (and_if (ltb first q) _ _ (λ h.
      not_in (children_before g r q) children first M.below (omega (arith, ltb-true first q h))
      ∙ one_more (occurs first (children_before g r q)) (occurs first (children_before g r q ++ children_of 1 first second))
      (omega (arith, occurs_append first (children_before g r q) (first ∷ []), hit_self first))))
      (and_if (ltb second edges) _ _ (λ h.
      not_in (introduced_before g r q) introduced second M.edges (omega (arith, ltb-true second edges h))))
      ∙ introduce_ok g r q first second 1 _ edges _ refl refl e refl

  join_fits_is : join_fits q children first second ≡ plan_so_far g r q 2 first second
  unfolding join_fits children_of occurs marks
  join_fits_is = ap₂ ◌&&◌ (and_if (ltb first q) _ _ one) (and_if (ltb second q) _ _ other) ∙ go (ℕ_discrete first second) ∙ join_ok g r q first second 2 _ _ refl refl refl
    where
      one : ltb first q ≡ true → not (member children first) ≡ eqb (occurs first (children_before g r q)) 0
      one h = not_in (children_before g r q) children first M.below (omega (arith, ltb-true first q h))

      other : ltb second q ≡ true → not (member (marked children first) second) ≡ eqb (occurs second (children_before g r q ++ (first ∷ []))) 0
      other h =
          not_in (children_before g r q ++ (first ∷ [])) (marked children first) second
          (ap (λ m. marked m first) M.below ∙ sym (marks_append 0 (children_before g r q) (first ∷ []))) (omega (arith, ltb-true second q h))

      go : Dec (first ≡ second) → ((ltb first q && eqb (occurs first (children_before g r q)) 0) && (ltb second q && eqb (occurs second (children_before g r q ++ (first ∷ []))) 0))
          ≡ ((ltb first q && ltb second q) && (eqb (occurs first (children_before g r q ++ (first ∷ second ∷ []))) 1 && eqb (occurs second (children_before g r q ++ (first ∷ second ∷ []))) 1))
      go (yes e) =
          rw (
            ne_eqb (occurs second (children_before g r q ++ (first ∷ []))) 0 (λ z. omega (arith, occurs_append second (children_before g r q) (first ∷ []), ap (hit second) e, hit_self second)),
            ne_eqb (occurs first (children_before g r q ++ (first ∷ second ∷ []))) 1 (λ z. omega (arith, occurs_append first (children_before g r q) (first ∷ second ∷ []), ap (hit first) e, hit_self first)),
          )
          (and_none (ltb first q) (eqb (occurs first (children_before g r q)) 0) (ltb second q) (eqb (occurs second (children_before g r q ++ (first ∷ second ∷ []))) 1))
      go (no n) =
          rw (
            ← one_more (occurs first (children_before g r q)) (occurs first (children_before g r q ++ (first ∷ second ∷ []))) (omega (arith, occurs_append first (children_before g r q) (first ∷ second ∷ []), hit_ne first second n, hit_self first)),
            ← one_more (occurs second (children_before g r q ++ (first ∷ []))) (occurs second (children_before g r q ++ (first ∷ second ∷ []))) (omega (arith, occurs_append second (children_before g r q) (first ∷ second ∷ []), occurs_append second (children_before g r q) (first ∷ []), hit_self second)),
          )
          (and_swap (ltb first q) (eqb (occurs first (children_before g r q)) 0) (ltb second q) (eqb (occurs second (children_before g r q ++ (first ∷ []))) 0))

-- ---- the sets with a line
module _ (children introduced first second : ℕ) where
  pub with_one : (x y : ℕ) → Added children first x → Added introduced second y → With 1 first second children introduced x y
  with_one x y a b = record { below = marks_one children 1 first second x refl a; edges = marks_edge introduced 1 first second y refl b }

  pub with_two : (x y : ℕ) → Added children first x → Added x second y → With 2 first second children introduced y introduced
  with_two x y a b = record { below = marks_two children 2 first second x y refl a b; edges = marks_no_edge introduced 2 first second (λ z. omega arith) }

  pub with_none : With 0 first second children introduced children introduced
  with_none = record { below = marks_none children 0 first second (λ z. omega arith) (λ z. omega arith); edges = marks_no_edge introduced 0 first second (λ z. omega arith) }

-- ---- the line that stands in the table
module _ (g : List ℕ) (r q children introduced kind first second : ℕ) (M : Marked g r q children introduced) (few : q + 1 ≤ 16)
    (e0 : kind ≡ plan_kind g r q) (e1 : first ≡ plan_first g r q) (e2 : second ≡ plan_second g r q) where
  -- a line of kind k that fits keeps the plan so far
  kept_known : (k : ℕ) → kind ≡ k → k ≤ 2 → (b : Bool) → b ≡ plan_so_far g r q k first second → (found : Option PlanMarks)
      → Takes b k first second (record { children = children; introduced = introduced }) found → Keeps g r q found
  unfolding line_kept
  kept_known k same low b p found w = go found w
    where
      so : b ≡ line_kept g r q
      so = p ∙ rw (← e0, ← e1, ← e2, same, le-leb k 2 low) refl

      go : (f : Option PlanMarks) → Takes b k first second (record { children = children; introduced = introduced }) f → Keeps g r q f
      go None v = sym so ∙ v
      go (Some m) v = record {
        so = sym so ∙ v.0;
        sets = marked_next g r q k first second children introduced m.children m.introduced (sym same ∙ e0) e1 e2 M v.1.below v.1.edges;
      }

  pub keeps_none : kind ≡ 0 → (found : Option PlanMarks)
      → Takes (eqb first 0 && eqb second 0) 0 first second (record { children = children; introduced = introduced }) found → Keeps g r q found
  keeps_none same = kept_known 0 same (omega arith) _ (leaf_ok g r q first second)

  pub keeps_one : kind ≡ 1 → (edges : ℕ) → Count edges (rule_edges g r) 8 → (found : Option PlanMarks)
      → Takes (introduce_fits q edges children introduced first second) 1 first second (record { children = children; introduced = introduced }) found → Keeps g r q found
  keeps_one same edges c = kept_known 1 same (omega arith) _ (introduce_fits_is g r q children introduced M (omega arith) first second edges c.same c.few)

  pub keeps_two : kind ≡ 2 → (found : Option PlanMarks)
      → Takes (join_fits q children first second) 2 first second (record { children = children; introduced = introduced }) found → Keeps g r q found
  keeps_two same = kept_known 2 same (omega arith) _ (join_fits_is g r q children introduced M (omega arith) first second)

  pub keeps_unknown : 2 < kind → line_kept g r q ≡ false
  unfolding line_kept
  keeps_unknown h = rw (← e0, lt-leb kind 2 h) refl

-- ---- the answer of a line where it stands
-- the plan is whole with line q as its last
unfoldable pub line_whole : List ℕ → ℕ → ℕ → Bool
line_whole g r q = plan_whole g r q (plan_kind g r q) (plan_first g r q) (plan_second g r q)

-- by the two sets
pub plan_whole_lem : (g : List ℕ) (r n q children introduced edges : ℕ) → n ≡ q + 1 → n ≤ 16 → Count edges (rule_edges g r) 8 → Marked g r n children introduced
    → (a b : Bool) → a ≡ (leb q 64 && eqb (children ∪ full (min q 64)) children) → b ≡ (leb edges 64 && eqb (introduced ∪ full (min edges 64)) introduced)
    → (a && b) ≡ line_whole g r q
unfolding line_whole children_before introduced_before
plan_whole_lem g r n q children introduced edges last few c M a b p e =
    let line : n ≡ suc q = last ∙ add-one q in
    let all : min 8 (rule_edges g r) ≡ edges = omega (arith, c.same, c.few) in
    whole_ok g r q (plan_kind g r q) (plan_first g r q) (plan_second g r q) a b
    (every_marked q children (children_before g r (suc q)) a (omega arith) (M.below ∙ ap (λ k. marks 0 (children_before g r k)) line) p)
    (rw all (every_marked edges introduced (introduced_before g r (suc q)) b (omega (arith, c.few)) (M.edges ∙ ap (λ k. marks 0 (introduced_before g r k)) line) e))

answered : (a b c : Bool) → ask 3 a (ask 7 (b && c) 0) ≡ 0 → ((a && b) ≡ true) × (c ≡ true)
answered true true true e = (refl, refl)
answered true true false e = absurd (omega arith)
answered true false c e = absurd (omega arith)
answered false b c e = absurd (omega arith)

passing : (a b c : Bool) → (a && b) ≡ true → c ≡ true → ask 3 a (ask 7 (b && c) 0) ≡ 0
passing true true true p e = refl
passing true true false p e = absurd (false≢true e)
passing true false c p e = absurd (false≢true p)
passing false b c p e = absurd (false≢true p)

module _ (t : List ℕ) (r q : ℕ) where
  -- what the last line is asked, and no other
  unfoldable pub closes : Bool
  closes = ltb (q + 1) (rule_plan t r) || line_whole t r q

  plan_answer : judge [] t (PlanLine r q) (stored_fields [] t t (PlanLine r q))
      ≡ ask 3 (leb (plan_kind t r q) 2) (ask 7 (plan_so_far t r q (plan_kind t r q) (plan_first t r q) (plan_second t r q) && closes) 0)
  unfolding judge judge_plan stored_fields fields_due tabulate place_of line_whole closes
  plan_answer = refl

  standing_kept : Standing [] t (PlanLine r q) → (line_kept t r q ≡ true) × (closes ≡ true)
  unfolding line_kept
  standing_kept s = answered (leb (plan_kind t r q) 2) (plan_so_far t r q (plan_kind t r q) (plan_first t r q) (plan_second t r q)) closes (sym plan_answer ∙ s.passed)

  pub line_not_kept : line_kept t r q ≡ false → Stands [] t (PlanLine r q) false
  line_not_kept e = record { yes = λ y. absurd (false≢true y); no = λ y s. false≢true (sym e ∙ (standing_kept s).0) }

  module _ (z : Bool) (zs : z ≡ eqb (behind t (plan_place r q) 3) 0) where
    pub line_not_zero : not z ≡ true → Stands [] t (PlanLine r q) false
    unfolding place_of fields_due
    line_not_zero e = record { yes = λ y. absurd (false≢true y); no = λ y s. ends_no t (plan_place r q) 3 z zs (not-true z e) s.rest }

    pub line_stands : line_kept t r q ≡ true → not z ≡ false → (w : Bool) → w ≡ closes → Stands [] t (PlanLine r q) w
    unfolding place_of fields_due line_kept
    line_stands kept clear w e = record {
      yes = λ y. record {
        passed = plan_answer ∙ passing (leb (plan_kind t r q) 2) (plan_so_far t r q (plan_kind t r q) (plan_first t r q) (plan_second t r q)) closes kept (sym e ∙ y);
        rest = ends_yes t (plan_place r q) 3 z zs (not-false z clear);
      };
      no = λ y s. false≢true (sym y ∙ e ∙ (standing_kept s).1);
    }

-- ---- line after line: q lines are passed, all but the last of the plan for good, and that one if the plan is whole
pub record Passed (t : List ℕ) (r n q : ℕ) : Type 0 where
  pub before : q < n → Leads grammar_words [] t (PlanLine r 0) (plans_from r) (cond (ltb q n) (PlanLine r q) (rule_after t r)) (plan_place r q)
  pub last : n ≤ q → (b : Bool) → b ≡ line_whole t r (n - 1) → Reaches grammar_words [] t (PlanLine r 0) (plans_from r) (rule_after t r) (plan_place r n) b

pub passed_start : (t : List ℕ) (r n : ℕ) → 1 ≤ n → Passed t r n 0
passed_start t r n some = record { before = λ h. lines_start grammar_words [] t (PlanLine r) (rule_after t r) n _ _ (omega arith) some; last = λ h. absurd (omega arith) }

module _ (t : List ℕ) (r n q : ℕ) (P : Passed t r n q) (h : q < n) where
  pub passed_no : Stands [] t (PlanLine r q) false → Reaches grammar_words [] t (PlanLine r 0) (plans_from r) (rule_after t r) (plan_place r n) false
  passed_no s = reaches_no grammar_words [] t (PlanLine r 0) (rule_after t r) _ _ (lines_no grammar_words [] t (PlanLine r 0) _ (PlanLine r) (rule_after t r) n q _ (P.before h) h tt false s refl)

  module _ (c : Count n (rule_plan t r) 16) (stands : (w : Bool) → w ≡ closes t r q → Stands [] t (PlanLine r q) w) where
    over : Stands [] t (PlanLine r q) true → Leads grammar_words [] t (PlanLine r 0) (plans_from r) (cond (ltb (q + 1) n) (PlanLine r (q + 1)) (rule_after t r)) (plan_place r (q + 1))
    unfolding place_of
    over s =
        lines_next grammar_words [] t (PlanLine r 0) _ (PlanLine r) (rule_after t r) n q _ (P.before h) h tt true s refl refl (next_plan t n r q c) _ (omega arith)

    more : q + 1 < n → true ≡ closes t r q
    unfolding closes
    more l = rw (← c.same, lt-ltb (q + 1) n l)

    final : n ≤ q + 1 → (b : Bool) → b ≡ line_whole t r (n - 1) → b ≡ closes t r q
    unfolding closes
    final l b e = rw (← c.same, le-ltb (q + 1) n l) (e ∙ ap (line_whole t r) (let same : n - 1 ≡ q = omega arith in same))

    pub passed_next : Passed t r n (q + 1)
    passed_next = record { before = λ l. over (stands true (more l)); last = λ l b e. go l b (stands b (final l b e)) }
      where
        go : n ≤ q + 1 → (b : Bool) → Stands [] t (PlanLine r q) b → Reaches grammar_words [] t (PlanLine r 0) (plans_from r) (rule_after t r) (plan_place r n) b
        go l true s = reaches_yes grammar_words [] t (PlanLine r 0) (rule_after t r) _ _ (lines_end grammar_words [] t (PlanLine r 0) _ (PlanLine r) (rule_after t r) n (q + 1) _ (over s) l _ (omega arith))
        go l false s = passed_no s
