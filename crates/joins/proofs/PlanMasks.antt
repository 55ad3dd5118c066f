-- The mask of the edges below a plan node, from the masks of its children.
use mathlib.Core.Path.{◌≡◌, refl, sym, ap, ◌∙◌}
use mathlib.Core.Bool.{Bool, true, false, ◌||◌}
use mathlib.Core.List.{List, [], ◌∷◌, ◌++◌}
use Prim.Native.Nat.{ℕ, zero, suc, ◌+◌, ◌<◌}
use native.Mathlib.Omega.{arith}
use native.Mathlib.Decide.{dec_lt}
use lib.ListN.{length, get_or, set, length-set}
use lib.Seq.{get_or-set_same, get_or-set_other}
use lib.Dec.{eqb, ltb}
use borrow.Author.Tests.{lt-ltb, ne_eqb}
use Rattle.masks.specs.Masks.{member, single, Added, United}
use Rattle.masks.proofs.Laws.{member_union, member_single, false_member, bit_empty}
use Rattle.hrg.specs.Counts.{hit, occurs}
use Rattle.hrg.specs.Grammars.{PlanNode, leaf, introduce, join, plan_of, plan_node}
use Rattle.hrg.specs.Items.{below}
use Rattle.hrg.specs.WellFormed.{PlanOk}
use Rattle.hrg.proofs.Sums.{hit_self, occurs_append}
use Rattle.hrg.proofs.Plans.{introduce_lower, join_lower, below_leaf, below_introduce, below_join, below_known}
use Rattle.questions.specs.Layout.{rule_edges, plan_kind, plan_first, plan_second}
use Rattle.questions.specs.Abstract.{plan_from, grammar_of}
use Rattle.joins.specs.Joins.{KnownNode, EdgesBelow, MasksBelow}
use Rattle.joins.proofs.Known.{plan_ok, plan_few, edges_few, plan_node_is}

pub member_none : (e : ℕ) → member 0 e ≡ false
member_none e = false_member 0 e (bit_empty e)

-- ---- one word more of a list
-- what is known of the words before i of a list holds of one more, where that is stored
pub set_next : (P : ℕ → ℕ → Type 0) (l : List ℕ) (i v d : ℕ) → i < length l → ((x : ℕ) → x < i → P x (get_or l x d)) → P i v → (x : ℕ) → x < i + 1 → P x (get_or (set l i v) x d)
set_next P l i v d h before here x b = go (dec_lt x i)
  where
    go : Dec (x < i) → P x (get_or (set l i v) x d)
    go (yes a) = rw (get_or-set_other l i x v d (λ e. omega arith)) (before x a)
    go (no a) = let e : x ≡ i = omega arith in rw (e, get_or-set_same l i v d h) here

-- ---- a number in one of two lists
pub some_sum : (a b : ℕ) → ltb 0 (a + b) ≡ (ltb 0 a || ltb 0 b)
some_sum zero b = ap (λ k. ltb 0 k) (let e : 0 + b ≡ b = omega arith in e)
some_sum (suc a) b = lt-ltb 0 (suc a + b) (omega arith) ∙ ap (λ p. p || ltb 0 b) (sym (lt-ltb 0 (suc a) (omega arith)))

pub some_hit : (x y : ℕ) → ltb 0 (hit x y) ≡ eqb x y
unfolding hit
some_hit x y = go (eqb x y) refl
  where
    go : (b : Bool) → eqb x y ≡ b → ltb 0 (hit x y) ≡ b
    go true e = rw e
    go false e = rw e

pub some_append : (x : ℕ) (xs ys : List ℕ) → ltb 0 (occurs x (xs ++ ys)) ≡ (ltb 0 (occurs x xs) || ltb 0 (occurs x ys))
some_append x xs ys = ap (λ k. ltb 0 k) (occurs_append x xs ys) ∙ some_sum (occurs x xs) (occurs x ys)

pub some_one : (x y : ℕ) → ltb 0 (occurs x (y ∷ [])) ≡ eqb x y
unfolding occurs
some_one x y = ap (λ k. ltb 0 k) (let e : hit x y + 0 ≡ hit x y = omega arith in e) ∙ some_hit x y

pub alone : (x : ℕ) → 0 < occurs x (x ∷ [])
unfolding occurs
alone x = omega (arith, hit_self x)

-- ---- one plan node
module _ (g : List ℕ) (r q : ℕ) (known : KnownNode g r q) where
  abbrev pl : List PlanNode
  pl = plan_of (grammar_of g) r

  ok : PlanOk (rule_edges g r) pl
  ok = plan_ok g r known.grammar known.rule

  pub node_is : (kind : ℕ) → kind ≡ plan_kind g r q → plan_node pl q ≡ plan_from kind (plan_first g r q) (plan_second g r q)
  node_is kind e = plan_node_is g r known.grammar known.rule q known.node ∙ ap (λ k. plan_from k (plan_first g r q) (plan_second g r q)) (sym e)

  pub introduced_is : (kind first second : ℕ) → kind ≡ plan_kind g r q → first ≡ plan_first g r q → second ≡ plan_second g r q → kind ≡ 1 → plan_node pl q ≡ introduce first second
  introduced_is kind first second a b c e = node_is kind a ∙ rw (e, b, c)

  pub joined_is : (kind first second : ℕ) → kind ≡ plan_kind g r q → first ≡ plan_first g r q → second ≡ plan_second g r q → (kind ≡ 0 → ⊥) → (kind ≡ 1 → ⊥)
      → plan_node pl q ≡ join first second
  joined_is kind first second a b c x y = node_is kind a ∙ rw (ne_eqb kind 0 x, ne_eqb kind 1 y, b, c)

  pub below_few : q < 16
  below_few = omega (arith, plan_few g r known.grammar known.rule, known.node)

  pub leaf_mask : (kind : ℕ) → kind ≡ plan_kind g r q → kind ≡ 0 → EdgesBelow g r q 0
  unfolding occurs
  leaf_mask kind a e =
      let node : plan_node pl q ≡ leaf = node_is kind a ∙ rw e in
      record { members = λ i. member_none i ∙ sym (ap (λ (l : List ℕ). ltb 0 (occurs i l)) (below_leaf (rule_edges g r) pl ok q node)) }

  module _ (kind first second : ℕ) (a : kind ≡ plan_kind g r q) (b : first ≡ plan_first g r q) (c : second ≡ plan_second g r q) where
    pub introduce_first : kind ≡ 1 → first < q
    introduce_first e = introduce_lower (rule_edges g r) pl ok q first second (introduced_is kind first second a b c e)

    pub join_both : (kind ≡ 0 → ⊥) → (kind ≡ 1 → ⊥) → (first < q) × (second < q)
    join_both x y = join_lower (rule_edges g r) pl ok q first second (joined_is kind first second a b c x y)

    module _ (ms : List ℕ) (before : MasksBelow g r q ms) (m : ℕ) where
      pub introduce_mask : kind ≡ 1 → Added (get_or ms first 0) second m → EdgesBelow g r q m
      introduce_mask e added =
          let node = introduced_is kind first second a b c e in
          let list = below_introduce (rule_edges g r) pl ok q first second node in
          let there : second < 64 =
          omega (
            arith,
            edges_few g r known.grammar known.rule,
            below_known (rule_edges g r) pl ok q second (omega (arith, ap (λ (l : List ℕ). occurs second l) list, occurs_append second (below pl first) (second ∷ []), alone second)),
          )
          in
          record {
            members = λ i.
                ap (λ k. member k i) (added.value there)
                ∙ member_union (get_or ms first 0) (single second) i
                ∙ rw (member_single, (before.each first (introduce_first e)).members i, ← some_one i second)
                (sym (ap (λ (l : List ℕ). ltb 0 (occurs i l)) list ∙ some_append i (below pl first) (second ∷ [])));
          }

      pub join_mask : (kind ≡ 0 → ⊥) → (kind ≡ 1 → ⊥) → United (get_or ms first 0) (get_or ms second 0) m → EdgesBelow g r q m
      join_mask x y united =
          let node = joined_is kind first second a b c x y in
          let both = join_both x y in
          record {
            members = λ i.
                ap (λ k. member k i) united.value
                ∙ member_union (get_or ms first 0) (get_or ms second 0) i
                ∙ rw ((before.each first both.0).members i, (before.each second both.1).members i)
                (sym (ap (λ (l : List ℕ). ltb 0 (occurs i l)) (below_join (rule_edges g r) pl ok q first second node) ∙ some_append i (below pl first) (below pl second)));
          }

-- ---- the loop over plan nodes
pub masks_none : (g ms : List ℕ) (r : ℕ) → MasksBelow g r 0 ms
masks_none g ms r = record { each = λ p h. absurd (omega arith) }

pub masks_more : (g ms : List ℕ) (r q m : ℕ) → q < length ms → MasksBelow g r q ms → EdgesBelow g r q m → MasksBelow g r (q + 1) (set ms q m)
masks_more g ms r q m h before here = record { each = set_next (EdgesBelow g r) ms q m 0 h before.each here }

pub set_size : (ms : List ℕ) (q m n : ℕ) → length ms ≡ n → length (set ms q m) ≡ n
set_size ms q m n h = length-set ms q m ∙ h
