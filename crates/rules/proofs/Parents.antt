-- A plan node is a child at most once: what the search for its parent shows.
use mathlib.Core.Path.{◌≡◌, sym, ap, ◌∙◌}
use mathlib.Core.Bool.{Bool, true, false, ◌||◌}
use mathlib.Core.List.{List, [], ◌∷◌}
use Prim.Native.Nat.{ℕ, zero, suc, ◌≤◌, ◌<◌}
use native.Mathlib.Omega.{arith}
use native.Mathlib.Decide.{dec_lt}
use lib.ListN.{length, get_or-eq_default}
use lib.Dec.{eqb, ltb}
use borrow.Author.Tests.{ltb-true}
use Rattle.hrg.specs.Counts.{occurs}
use Rattle.hrg.specs.Grammars.{Rule, no_rule, PlanNode, leaf, introduce, join, plan_of, plan_node}
use Rattle.hrg.specs.WellFormed.{children, all_children, PlanOk}
use Rattle.hrg.proofs.Sums.{occurs_append, none_left}
use Rattle.questions.specs.Layout.{rule_count, rule_edges, rule_plan, plan_kind, plan_first, plan_second}
use Rattle.questions.specs.Checking.{check_grammar}
use Rattle.questions.specs.Abstract.{grammar_of}
use Rattle.questions.proofs.WellFormedAccepted.{rules_length}
use Rattle.joins.specs.Joins.{KnownNode}
use Rattle.std.specs.Prelude.{None}
use Rattle.rules.specs.Rules.{ParentOf, Childless, Above}
use Rattle.joins.proofs.Known.{plan_ok, plan_size}
use Rattle.joins.proofs.PlanMasks.{some_one, some_append, node_is, introduced_is, joined_is}

-- ---- any plan
some_child : (pl : List PlanNode) (c q : ℕ) → 0 < occurs c (children (plan_node pl q)) → 0 < occurs c (all_children pl)
unfolding all_children occurs
some_child [] c q h = absurd (omega arith)
some_child (n ∷ pl) c zero h = omega (arith, occurs_append c (children n) (all_children pl))
some_child (n ∷ pl) c (suc q) h = omega (arith, some_child pl c q h, occurs_append c (children n) (all_children pl))

two_parents : (pl : List PlanNode) (c p q : ℕ) → p < q → 0 < occurs c (children (plan_node pl p)) → 0 < occurs c (children (plan_node pl q)) → 1 < occurs c (all_children pl)
unfolding all_children occurs
two_parents [] c p q l h k = absurd (omega arith)
two_parents (n ∷ pl) c p zero l h k = absurd (omega arith)
two_parents (n ∷ pl) c zero (suc q) l h k = omega (arith, some_child pl c q k, occurs_append c (children n) (all_children pl))
two_parents (n ∷ pl) c (suc p) (suc q) l h k = omega (arith, two_parents pl c p q (omega arith) h k, occurs_append c (children n) (all_children pl))

-- ---- whether p is a child of q, by the fields of q's line
module _ (g : List ℕ) (r q p : ℕ) (known : KnownNode g r q) where
  abbrev test : Bool
  test = ltb 0 (occurs p (children (plan_node (plan_of (grammar_of g) r) q)))

  test_is : (n : PlanNode) → plan_node (plan_of (grammar_of g) r) q ≡ n → ltb 0 (occurs p (children n)) ≡ test
  test_is n e = ap (λ (n : PlanNode). ltb 0 (occurs p (children n))) (sym e)

  pub child_leaf : (kind : ℕ) → kind ≡ plan_kind g r q → kind ≡ 0 → false ≡ test
  unfolding occurs
  child_leaf kind a e = test_is leaf (node_is g r q known kind a ∙ rw e)

  module _ (kind first second : ℕ) (a : kind ≡ plan_kind g r q) (b : first ≡ plan_first g r q) (c : second ≡ plan_second g r q) where
    pub child_introduce : kind ≡ 1 → eqb p first ≡ test
    child_introduce e = sym (some_one p first) ∙ test_is (introduce first second) (introduced_is g r q known kind first second a b c e)

    pub child_join : (kind ≡ 0 → ⊥) → (kind ≡ 1 → ⊥) → (eqb p first || eqb p second) ≡ test
    child_join x y =
        rw (← some_one p first, ← some_one p second)
        (sym (some_append p (first ∷ []) (second ∷ [])) ∙ test_is (join first second) (joined_is g r q known kind first second a b c x y))

-- ---- of an accepted grammar table
module _ (g : List ℕ) (r p : ℕ) (checked : check_grammar g ≡ true) (rule : r < rule_count g) where
  abbrev pl : List PlanNode
  pl = plan_of (grammar_of g) r

  ok : PlanOk (rule_edges g r) pl
  ok = plan_ok g r checked rule

  pub child_lower : (q : ℕ) → q < rule_plan g r → 0 < occurs p (children (plan_node pl q)) → p < q
  child_lower q l h = ok.lower q p (omega (arith, plan_size g r checked rule)) h

  pub once : (q q' : ℕ) → q < q' → q' < rule_plan g r → 0 < occurs p (children (plan_node pl q)) → 0 < occurs p (children (plan_node pl q')) → ⊥
  once q q' l n h k =
      omega (arith, two_parents pl p q q' l h k, child_lower q (omega arith) h, ok.child_once p (omega (arith, child_lower q (omega arith) h, plan_size g r checked rule)))

  pub parent_found : (q : ℕ) → q < rule_plan g r → ltb 0 (occurs p (children (plan_node pl q))) ≡ true → ParentOf g r p q
  parent_found q n t = record { only = λ q' l k. go q' l k (dec_lt q q') (dec_lt q' q) }
    where
      here : 0 < occurs p (children (plan_node pl q))
      here = ltb-true 0 (occurs p (children (plan_node pl q))) t

      go : (q' : ℕ) → q' < rule_plan g r → 0 < occurs p (children (plan_node pl q')) → Dec (q < q') → Dec (q' < q) → q' ≡ q
      go q' l k (yes d) e = absurd (once q q' d l here k)
      go q' l k (no d) (yes e) = absurd (once q' q e n k here)
      go q' l k (no d) (no e) = omega arith

-- ---- for any rule and plan node
pub above_none : (g : List ℕ) (r p : ℕ) → Childless g r p → Above g r p None
above_none g r p none = record { known = tt; parent = tt; nowhere = none }

pub above_unknown : (g : List ℕ) (r p : ℕ) → rule_count g ≤ r → Above g r p None
above_unknown g r p h =
    above_none g r p (record {
      none = λ q l. absurd (omega (arith, ap (λ (R : Rule). length R.plan) (get_or-eq_default (grammar_of g).rules no_rule {n = r} (omega (arith, rules_length g)))));
    })

module _ (g : List ℕ) (r p : ℕ) (checked : check_grammar g ≡ true) (rule : r < rule_count g) where
  pub above_past : rule_plan g r ≤ p → Above g r p None
  above_past h =
      above_none g r p (record { none = λ q l. none_left _ (λ o. omega (arith, child_lower g r p checked rule q (omega (arith, plan_size g r checked rule)) o, plan_size g r checked rule)) })
