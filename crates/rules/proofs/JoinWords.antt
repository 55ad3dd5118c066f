-- What the word of a plan node tells: which child an item stands at, and what the node asks for beside it.
use mathlib.Core.Path.{◌≡◌, refl, sym, ap, subst, ◌∙◌}
use mathlib.Core.Bool.{Bool, true, false, cond}
use mathlib.Core.List.{List}
use Prim.Native.Nat.{ℕ, ◌+◌, ◌*◌, ◌/◌, ◌%◌, ◌<◌}
use native.Mathlib.Omega.{arith}
use lib.Dec.{eqb, ltb}
use borrow.Author.Tests.{eqb-true, eqb-false, lt-ltb}
use Rattle.hrg.specs.Counts.{occurs}
use Rattle.hrg.specs.Grammars.{PlanNode, leaf, introduce, plan_of, plan_node}
use Rattle.hrg.specs.WellFormed.{children}
use Rattle.hrg.proofs.Plans.{introduce_known}
use Rattle.questions.specs.Layout.{rule_edges, edge_label, plan_kind, plan_first, plan_second}
use Rattle.questions.specs.Abstract.{grammar_of}
use Rattle.joins.specs.Joins.{KnownNode, KnownEdge, nodes_word}
use Rattle.joins.proofs.Known.{plan_ok}
use Rattle.joins.proofs.PlanMasks.{some_one, node_is, introduced_is}
use Rattle.joins.proofs.EdgeMaps.{edge_label_few}
use Rattle.rules.specs.Plans.{edge_word, second_word, join_word, JoinAt}

parts : (w a b : ℕ) → w ≡ a + 64 * b → a < 64 → (w % 64 ≡ a) × (w / 64 ≡ b)
parts w a b e l = (omega arith, omega arith)

third : (w a : ℕ) → w ≡ 3 + 4 * a → w % 4 ≡ 3
third w a e = omega arith

-- ---- the children of a plan node, by its kind
module _ (g : List ℕ) (r q : ℕ) (known : KnownNode g r q) where
  abbrev node : PlanNode
  node = plan_node (plan_of (grammar_of g) r) q

  pub child_kind : (p : ℕ) → 0 < occurs p (children node) → plan_kind g r q ≡ 0 → ⊥
  unfolding occurs
  child_kind p h e =
      let here : node ≡ leaf = node_is g r q known (plan_kind g r q) refl ∙ rw e in
      omega (arith, ap (λ (n : PlanNode). occurs p (children n)) here)

  -- the one that introduces an edge
  module _ (introduces : plan_kind g r q ≡ 1) where
    pub introduced : node ≡ introduce (plan_first g r q) (plan_second g r q)
    introduced = introduced_is g r q known (plan_kind g r q) (plan_first g r q) (plan_second g r q) refl refl refl introduces

    pub child_first : (p : ℕ) → 0 < occurs p (children node) → plan_first g r q ≡ p
    child_first p h =
        sym (eqb-true p (plan_first g r q) (sym (some_one p (plan_first g r q)) ∙ ap (λ (n : PlanNode). ltb 0 (occurs p (children n))) (sym introduced) ∙ lt-ltb 0 (occurs p (children node)) h))

    pub second_known : KnownEdge g r (plan_second g r q)
    second_known = record {
      grammar = known.grammar;
      rule = known.rule;
      edge = introduce_known (rule_edges g r) (plan_of (grammar_of g) r) (plan_ok g r known.grammar known.rule) q (plan_first g r q) (plan_second g r q) introduced;
    }

-- ---- what is asked for beside an item at the first child
module _ (g : List ℕ) (r q w : ℕ) (is : w ≡ second_word g r q) where
  by_kind_is : (b : Bool) → eqb (plan_kind g r q) 1 ≡ b → w ≡ cond b (1 + 4 * edge_word g r (plan_second g r q)) (2 + 4 * plan_second g r q)
  unfolding second_word
  by_kind_is b t = is ∙ ap (λ b. cond b (1 + 4 * edge_word g r (plan_second g r q)) (2 + 4 * plan_second g r q)) t

  pub second_edge : w % 4 ≡ 1 → KnownNode g r q → (plan_kind g r q ≡ 1) × (w / 4 % 64 ≡ edge_label g r (plan_second g r q)) × (w / 4 / 64 ≡ nodes_word g r (plan_second g r q))
  unfolding edge_word
  second_edge one known = go (eqb (plan_kind g r q) 1) refl
    where
      i : ℕ
      i = plan_second g r q

      go : (b : Bool) → eqb (plan_kind g r q) 1 ≡ b → (plan_kind g r q ≡ 1) × (w / 4 % 64 ≡ edge_label g r i) × (w / 4 / 64 ≡ nodes_word g r i)
      go true t =
          let kind = eqb-true (plan_kind g r q) 1 t in
          let (label, nodes) = parts (w / 4) (edge_label g r i) (nodes_word g r i) (omega (arith, by_kind_is true t)) (edge_label_few g r i (second_known g r q known kind)) in
          (kind, label, nodes)
      go false t = absurd (omega (arith, by_kind_is false t))

  -- the same for the number i of that edge
  module _ (one : w % 4 ≡ 1) (known : KnownNode g r q) (i : ℕ) (second : i ≡ plan_second g r q) where
    pub asked_known : KnownEdge g r i
    asked_known = subst (λ i. KnownEdge g r i) (sym second) (second_known g r q known (second_edge one known).0)

    pub asked_label : w / 4 % 64 ≡ edge_label g r i
    asked_label = (second_edge one known).1 ∙ ap (edge_label g r) (sym second)

    pub asked_nodes : w / 4 / 64 ≡ nodes_word g r i
    asked_nodes = (second_edge one known).2 ∙ ap (nodes_word g r) (sym second)

  pub second_other : (w % 4 ≡ 1 → ⊥) → (plan_kind g r q ≡ 1 → ⊥) × (w / 4 ≡ plan_second g r q)
  second_other other = go (eqb (plan_kind g r q) 1) refl
    where
      go : (b : Bool) → eqb (plan_kind g r q) 1 ≡ b → (plan_kind g r q ≡ 1 → ⊥) × (w / 4 ≡ plan_second g r q)
      go true t = absurd (other (omega (arith, by_kind_is true t)))
      go false t = (eqb-false (plan_kind g r q) 1 t, omega (arith, by_kind_is false t))

  -- 3 is for an item at the second child
  second_kind : w % 4 ≡ 3 → ⊥
  second_kind three = go (eqb (plan_kind g r q) 1) refl
    where
      go : (b : Bool) → eqb (plan_kind g r q) 1 ≡ b → ⊥
      go true t = omega (arith, by_kind_is true t)
      go false t = omega (arith, by_kind_is false t)

-- ---- which child an item stands at
module _ (g : List ℕ) (r p w : ℕ) (at_child : JoinAt g r p w) where
  abbrev above : ℕ
  above = w % 32

  by_child : (b : Bool) → eqb (plan_first g r above) p ≡ b → w / 32 ≡ cond b (second_word g r above) (3 + 4 * plan_first g r above)
  unfolding join_word
  by_child b t = let told = at_child.word ∙ ap (λ b. above + 32 * cond b (second_word g r above) (3 + 4 * plan_first g r above)) t in omega (arith, told)

  pub join_first : (w / 32 % 4 ≡ 3 → ⊥) → (plan_first g r above ≡ p) × (w / 32 ≡ second_word g r above)
  join_first first = go (eqb (plan_first g r above) p) refl
    where
      go : (b : Bool) → eqb (plan_first g r above) p ≡ b → (plan_first g r above ≡ p) × (w / 32 ≡ second_word g r above)
      go true t = (eqb-true (plan_first g r above) p t, by_child true t)
      go false t = absurd (first (third (w / 32) (plan_first g r above) (by_child false t)))

  module _ (later : w / 32 % 4 ≡ 3) where
    pub join_later : (plan_first g r above ≡ p → ⊥) × (w / 32 / 4 ≡ plan_first g r above)
    join_later = go (eqb (plan_first g r above) p) refl
      where
        go : (b : Bool) → eqb (plan_first g r above) p ≡ b → (plan_first g r above ≡ p → ⊥) × (w / 32 / 4 ≡ plan_first g r above)
        go true t = absurd (second_kind g r above (w / 32) (by_child true t) later)
        go false t = (eqb-false (plan_first g r above) p t, omega (arith, by_child false t))

    -- an item at the second child is below a join
    pub later_joins : KnownNode g r above → (plan_kind g r above ≡ 0 → ⊥) × (plan_kind g r above ≡ 1 → ⊥)
    later_joins known = (child_kind g r above known p at_child.child, λ e. join_later.0 (child_first g r above known e p at_child.child))
