-- A rule of any number, read off an accepted grammar table.
use mathlib.Core.Path.{◌≡◌, refl, sym, ap, ◌∙◌}
use mathlib.Core.Bool.{Bool, true, false, cond, not}
use mathlib.Core.List.{List}
use Prim.Native.Nat.{ℕ, ◌≤◌, ◌<◌}
use native.Mathlib.Omega.{arith}
use native.Mathlib.Decide.{dec_lt}
use lib.ListN.{length, get_or-eq_default}
use lib.Dec.{eqb}
use borrow.Author.Tests.{eqb-true, eqb-false, ne_eqb}
use Rattle.hrg.specs.Grammars.{terminal, nonterminal, Edge, introduce, join, Rule, no_rule, kind_of, rank_of, rule_of, right_of, plan_of, plan_node, edge_at}
use Rattle.hrg.specs.WellFormed.{PlanOk}
use Rattle.hrg.proofs.Plans.{introduce_known, introduce_lower, join_lower}
use Rattle.questions.specs.Layout.{rule_count, rule_nodes, rule_edges, rule_plan, rank_at, kind_field, edge_label, plan_kind, plan_first, plan_second}
use Rattle.questions.specs.Checking.{check_grammar}
use Rattle.questions.specs.Abstract.{kind_from, plan_from, grammar_of}
use Rattle.questions.proofs.WellFormedAccepted.{symbols_length, rules_length, kind_is, rank_is, rule_is, edge_is, plan_length}
use Rattle.joins.specs.Joins.{KnownNode, KnownEdge}
use Rattle.joins.proofs.Known.{right_nodes, right_edges, plan_size, plan_ok, plan_node_is, nodes_few, edges_few}
use Rattle.joins.proofs.EdgeMaps.{edge_ok}
use Rattle.extractor.specs.Reading.{PlanLineOf, is_nonterminal}

-- ---- an unknown rule
pub unknown : (g : List ℕ) (r : ℕ) → rule_count g ≤ r → rule_of (grammar_of g) r ≡ no_rule
unknown g r h = get_or-eq_default (grammar_of g).rules no_rule (omega (arith, rules_length g))

pub edges_none : (g : List ℕ) (r : ℕ) → rule_count g ≤ r → 0 ≡ length (right_of (grammar_of g) r).edges
edges_none g r h = sym (ap (λ (R : Rule). length R.production.right.edges) (unknown g r h))

pub plan_none : (g : List ℕ) (r : ℕ) → rule_count g ≤ r → 0 ≡ length (plan_of (grammar_of g) r)
plan_none g r h = sym (ap (λ (R : Rule). length R.plan) (unknown g r h))

-- ---- a number x that is counted of a rule, 0 where it is unknown
pub nodes_counted : (g : List ℕ) (r x : ℕ) → check_grammar g ≡ true → (r < rule_count g → x ≡ rule_nodes g r) → (rule_count g ≤ r → x ≡ 0)
    → (x ≡ (right_of (grammar_of g) r).nodes) × (x ≤ 8)
nodes_counted g r x checked known other = go (dec_lt r (rule_count g))
  where
    go : Dec (r < rule_count g) → (x ≡ (right_of (grammar_of g) r).nodes) × (x ≤ 8)
    go (yes d) = (known d ∙ sym (right_nodes g r checked d), omega (arith, known d, nodes_few g r checked d))
    go (no d) =
        let none = other (omega arith) in
        (none ∙ sym (ap (λ (R : Rule). R.production.right.nodes) (unknown g r (omega arith))), omega (arith, none))

pub edges_counted : (g : List ℕ) (r x : ℕ) → check_grammar g ≡ true → (r < rule_count g → x ≡ rule_edges g r) → (rule_count g ≤ r → x ≡ 0)
    → (x ≡ length (right_of (grammar_of g) r).edges) × (x ≤ 8)
edges_counted g r x checked known other = go (dec_lt r (rule_count g))
  where
    go : Dec (r < rule_count g) → (x ≡ length (right_of (grammar_of g) r).edges) × (x ≤ 8)
    go (yes d) = (known d ∙ sym (right_edges g r checked d), omega (arith, known d, edges_few g r checked d))
    go (no d) =
        let none = other (omega arith) in
        (none ∙ edges_none g r (omega arith), omega (arith, none))

pub plan_counted : (g : List ℕ) (r x : ℕ) → (r < rule_count g → x ≡ rule_plan g r) → (rule_count g ≤ r → x ≡ 0)
    → x ≡ length (plan_of (grammar_of g) r)
plan_counted g r x known other = go (dec_lt r (rule_count g))
  where
    go : Dec (r < rule_count g) → x ≡ length (plan_of (grammar_of g) r)
    go (yes d) = known d ∙ sym (ap (λ (R : Rule). length R.plan) (rule_is g r d) ∙ plan_length g r)
    go (no d) = other (omega arith) ∙ plan_none g r (omega arith)

-- a rule that has an edge or a plan node is known
pub known_by_edge : (g : List ℕ) (r i : ℕ) → i < length (right_of (grammar_of g) r).edges → r < rule_count g
known_by_edge g r i h = go (dec_lt r (rule_count g))
  where
    go : Dec (r < rule_count g) → r < rule_count g
    go (yes d) = d
    go (no d) = absurd (omega (arith, edges_none g r (omega arith)))

pub known_by_node : (g : List ℕ) (r p : ℕ) → p < length (plan_of (grammar_of g) r) → r < rule_count g
known_by_node g r p h = go (dec_lt r (rule_count g))
  where
    go : Dec (r < rule_count g) → r < rule_count g
    go (yes d) = d
    go (no d) = absurd (omega (arith, plan_none g r (omega arith)))

pub known_edge : (g : List ℕ) (r i : ℕ) → check_grammar g ≡ true → i < length (right_of (grammar_of g) r).edges → KnownEdge g r i
known_edge g r i checked h =
    let known = known_by_edge g r i h in
    record { grammar = checked; rule = known; edge = omega (arith, right_edges g r checked known) }

pub known_node : (g : List ℕ) (r p : ℕ) → check_grammar g ≡ true → p < length (plan_of (grammar_of g) r) → KnownNode g r p
known_node g r p checked h =
    let known = known_by_node g r p h in
    record { grammar = checked; rule = known; node = omega (arith, plan_size g r checked known) }

-- ---- a plan node
pub line_at_lem : (g : List ℕ) (r p kind first second : ℕ) → KnownNode g r p → kind ≡ plan_kind g r p → first ≡ plan_first g r p → second ≡ plan_second g r p
    → PlanLineOf g r p (record { kind = kind; first = first; second = second })
line_at_lem g r p kind first second known a b c = record {
  node = node;
  edge = λ z. omega (arith, introduce_known (rule_edges g r) (plan_of (grammar_of g) r) ok p first second (introduced z), edges_few g r known.grammar known.rule);
  lower = λ y. below first (lower y (eqb kind 1) refl);
  both = λ y z. below second (join_lower (rule_edges g r) (plan_of (grammar_of g) r) ok p first second (joins y z)).1;
}
  where
    ok : PlanOk (rule_edges g r) (plan_of (grammar_of g) r)
    ok = plan_ok g r known.grammar known.rule

    node : plan_node (plan_of (grammar_of g) r) p ≡ plan_from kind first second
    node = plan_node_is g r known.grammar known.rule p known.node ∙ rw (a, b, c)

    introduced : kind ≡ 1 → plan_node (plan_of (grammar_of g) r) p ≡ introduce first second
    introduced z = node ∙ rw z

    joins : (kind ≡ 0 → ⊥) → (kind ≡ 1 → ⊥) → plan_node (plan_of (grammar_of g) r) p ≡ join first second
    joins y z = node ∙ rw (ne_eqb kind 0 y, ne_eqb kind 1 z)

    lower : (kind ≡ 0 → ⊥) → (t : Bool) → eqb kind 1 ≡ t → first < p
    lower y true e = introduce_lower (rule_edges g r) (plan_of (grammar_of g) r) ok p first second (introduced (eqb-true kind 1 e))
    lower y false e = (join_lower (rule_edges g r) (plan_of (grammar_of g) r) ok p first second (joins y (eqb-false kind 1 e))).0

    below : (q : ℕ) → q < p → KnownNode g r q
    below q h = record { grammar = known.grammar; rule = known.rule; node = omega (arith, known.node) }

-- ---- the label of an edge
module _ (g : List ℕ) (r i : ℕ) (known : KnownEdge g r i) where
  pub label_is : (edge_at (right_of (grammar_of g) r).edges i).label ≡ edge_label g r i
  label_is =
      ap (λ (R : Rule). (edge_at R.production.right.edges i).label) (rule_is g r known.rule) ∙ ap (λ (e : Edge). e.label) (edge_is g r i known.edge)

  pub label_known : edge_label g r i < length (grammar_of g).symbols
  label_known = omega (arith, (edge_ok g r i known).known, label_is)

  pub label_rank : rank_of (grammar_of g) (edge_at (right_of (grammar_of g) r).edges i).label ≡ rank_at g (edge_label g r i)
  label_rank = ap (λ s. rank_of (grammar_of g) s) label_is ∙ rank_is g (edge_label g r i) (omega (arith, label_known, symbols_length g))

  pub label_kind_is : (s w : ℕ) → s ≡ edge_label g r i → w ≡ kind_field g s → kind_of (grammar_of g) (edge_at (right_of (grammar_of g) r).edges i).label ≡ kind_from w
  label_kind_is s w a b =
      ap (λ s. kind_of (grammar_of g) s) label_is ∙ kind_is g (edge_label g r i) (omega (arith, label_known, symbols_length g)) ∙ rw (b, a)

  pub label_test : (s w : ℕ) → s ≡ edge_label g r i → w ≡ kind_field g s → not (eqb w 0) ≡ is_nonterminal (kind_of (grammar_of g) (edge_at (right_of (grammar_of g) r).edges i).label)
  label_test s w a b = test (eqb w 0) ∙ ap is_nonterminal (sym (label_kind_is s w a b))
    where
      test : (b : Bool) → not b ≡ is_nonterminal (cond b terminal nonterminal)
      test true = refl
      test false = refl
