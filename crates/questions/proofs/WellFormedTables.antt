-- A table that holds the lines of a grammar, or of a graph: its lines pass questions 3 to 7 exactly where the
-- grammar, or the graph, is well-formed.
use mathlib.Core.Path.{◌≡◌, refl, sym, ap, ap₂, ◌∙◌}
use mathlib.Core.Logic.{◌⊎◌, inl, inr}
use mathlib.Core.List.{List, ◌++◌}
use Prim.Native.Nat.{ℕ, zero, suc, ◌+◌, ◌≤◌, ◌<◌, pred}
use native.Mathlib.Omega.{arith}
use native.Mathlib.Decide.{dec_lt}
use lib.ListN.{length, get_or}
use Rattle.hrg.specs.Counts.{occurs, tabulate}
use Rattle.hrg.specs.Grammars
use Rattle.hrg.specs.Grammars.{Kind, terminal, nonterminal, PlanNode, leaf, introduce, join, Edge, no_edge, kind_of, rank_of, lhs_of, right_of, plan_of, plan_node, edge_at}
use Rattle.hrg.specs.WellFormed.{Listed, OnEdge, children, introduced}
use Rattle.questions.specs.Layout.{plan_place, place_of, line_field, symbol_count, rule_count, start_symbol, kind_field, rank_at, rule_symbol, rule_nodes, rule_edges, rule_plan, rule_external, edge_label, edge_node, plan_kind, plan_first, plan_second}
use Rattle.questions.specs.Questions.{field, nodes_on_edges, children_of, introduced_by, children_before, introduced_before}
use Rattle.questions.specs.TableText.{kind_number, plan_fields, grammar_fields}
use Rattle.questions.specs.declared.Due.{Due}
use Rattle.questions.specs.declared.Due.TheVariants.{Grammar, Symbol, Rule, RuleEdge, PlanLine, Graph, GraphEdge, Nothing}
use Rattle.questions.proofs.WellFormedQuestions.{InOrder}
use Rattle.questions.proofs.WellFormedLists.{collect, collect_member, collect_find, tabulate_list}
use Rattle.questions.proofs.WellFormedPlans.{children_to, introduced_to}

-- ---- listed nodes
pub in_order_listed : (nodes rank : ℕ) (l : List ℕ) → length l ≡ rank → InOrder nodes l → Listed nodes rank l
in_order_listed nodes rank l e o =
    record { ranked = e; inside = λ x h. omega (arith, o.inside x h); once = λ x. go (occurs x l) (o.once x) }
  where
    go : (k : ℕ) → (0 < k → k ≤ 1) → k ≤ 1
    go zero f = omega arith
    go (suc k) f = f (omega arith)

pub listed_in_order : (nodes rank : ℕ) (l : List ℕ) → nodes ≤ 64 → Listed nodes rank l → InOrder nodes l
listed_in_order nodes rank l h o = record { inside = λ x k. omega (arith, o.inside x k); once = λ x k. o.once x }

-- ---- the nodes on the first n edges
abbrev pub attached_to : List Edge → ℕ → List ℕ
attached_to es n = collect (λ (e : Edge). e.attachment) no_edge es n

pub attached_on : (es : List Edge) (x : ℕ) → 0 < occurs x (attached_to es (length es)) → OnEdge es x
attached_on es x h =
    let t = collect_find (λ (e : Edge). e.attachment) no_edge x es (length es) h in
    record { edge = t.0; known = t.1; on = t.2 }

pub on_attached : (es : List Edge) (x : ℕ) → OnEdge es x → 0 < occurs x (attached_to es (length es))
on_attached es x o = omega (arith, o.on, collect_member (λ (e : Edge). e.attachment) no_edge x es (length es) o.edge o.known)

-- question 6 at the last edge line, and at any
module _ (es : List Edge) (nodes : ℕ) where
  abbrev pub Covering : ℕ → Type 0
  Covering i = (i + 1 < length es) ⊎ ((x : ℕ) → x < nodes → 0 < occurs x (attached_to es i ++ (edge_at es i).attachment))

  pub covering_side : 1 ≤ length es → ((i : ℕ) → i < length es → Covering i) → (x : ℕ) → x < nodes → OnEdge es x
  unfolding collect
  covering_side some h x l = go (pred (length es)) (omega arith) (h (pred (length es)) (omega arith))
    where
      go : (i : ℕ) → suc i ≡ length es → Covering i → OnEdge es x
      go i e (inl k) = absurd (omega arith)
      go i e (inr k) = attached_on es x (rw (← e) (k x l))

  pub side_covering : ((x : ℕ) → x < nodes → OnEdge es x) → (i : ℕ) → i < length es → Covering i
  unfolding collect
  side_covering h i l = go (dec_lt (i + 1) (length es))
    where
      go : Dec (i + 1 < length es) → Covering i
      go (yes k) = inl k
      go (no k) =
          let end : length es ≡ suc i = omega arith in
          inr (λ x b. rw end at (on_attached es x (h x b)))

-- ---- kinds and plan nodes as numbers
pub number_nonterminal : (k : Kind) → kind_number k ≡ 1 → k ≡ nonterminal
number_nonterminal terminal e = absurd (omega arith)
number_nonterminal nonterminal e = refl

pub nonterminal_number : (k : Kind) → k ≡ nonterminal → kind_number k ≡ 1
nonterminal_number k e = rw e

pub number_le : (k : Kind) → kind_number k ≤ 1
number_le terminal = omega arith
number_le nonterminal = omega arith

-- the children that its plan line names, and the edge that it introduces
abbrev pub line_children : PlanNode → List ℕ
line_children x = children_of (field (plan_fields x) 0) (field (plan_fields x) 1) (field (plan_fields x) 2)

abbrev pub line_introduced : PlanNode → List ℕ
line_introduced x = introduced_by (field (plan_fields x) 0) (field (plan_fields x) 1) (field (plan_fields x) 2)

pub children_of_lem : (x : PlanNode) → line_children x ≡ children x
unfolding children_of
children_of_lem leaf = refl
children_of_lem (introduce c i) = refl
children_of_lem (join a b) = refl

pub introduced_by_lem : (x : PlanNode) → line_introduced x ≡ introduced x
unfolding introduced_by
introduced_by_lem leaf = refl
introduced_by_lem (introduce c i) = refl
introduced_by_lem (join a b) = refl

pub plan_kind_lem : (x : PlanNode) → field (plan_fields x) 0 ≤ 2
plan_kind_lem leaf = omega arith
plan_kind_lem (introduce c i) = omega arith
plan_kind_lem (join a b) = omega arith

pub plan_three : (x : PlanNode) → length (plan_fields x) ≡ 3
plan_three leaf = refl
plan_three (introduce c i) = refl
plan_three (join a b) = refl

pub plan_leaf : (x : PlanNode) → (field (plan_fields x) 0 ≡ 0 → ⊥) ⊎ ((field (plan_fields x) 1 ≡ 0) × (field (plan_fields x) 2 ≡ 0))
plan_leaf leaf = inr (refl, refl)
plan_leaf (introduce c i) = inl (λ e. omega arith)
plan_leaf (join a b) = inl (λ e. omega arith)

-- ---- tables that hold a grammar
-- the lines of a grammar
abbrev pub HasLine : Grammars.Grammar → Due → Type 0
HasLine G Grammar = Unit {0}
HasLine G (Symbol s) = s < length G.symbols
HasLine G (Rule r) = r < length G.rules
HasLine G (RuleEdge r i) = (r < length G.rules) × (i < length (right_of G r).edges)
HasLine G (PlanLine r q) = (r < length G.rules) × (q < length (plan_of G r))
HasLine G Graph = ⊥
HasLine G (GraphEdge e) = ⊥
HasLine G Nothing = ⊥

pub record GrammarIn (G : Grammars.Grammar) (t : List ℕ) : Type 0 where
  pub lines : (d : Due) → HasLine G d → (j : ℕ) → j < 9 → line_field t (place_of d) j ≡ field (grammar_fields G d) j
  pub ranks : (s : ℕ) → s < length G.symbols → rank_of G s ≤ 4

-- the lines of edges are as long as the ranks say
abbrev pub Ranked : Grammars.Grammar → List Edge → ℕ → Type 0
Ranked G es i = ((edge_at es i).label < length G.symbols) × (length (edge_at es i).attachment ≡ rank_of G (edge_at es i).label)

module _ (G : Grammars.Grammar) (t : List ℕ) (held : GrammarIn G t) where
  pub symbol_count_is : symbol_count t ≡ length G.symbols
  unfolding place_of grammar_fields
  symbol_count_is = held.lines Grammar tt 0 (omega arith)

  pub rule_count_is : rule_count t ≡ length G.rules
  unfolding place_of grammar_fields
  rule_count_is = held.lines Grammar tt 1 (omega arith)

  pub start_symbol_is : start_symbol t ≡ G.start
  unfolding place_of grammar_fields
  start_symbol_is = held.lines Grammar tt 2 (omega arith)

  module _ (s : ℕ) (h : s < length G.symbols) where
    pub kind_field_lem : kind_field t s ≡ kind_number (kind_of G s)
    unfolding place_of grammar_fields
    kind_field_lem = held.lines (Symbol s) h 1 (omega arith)

    pub rank_at_lem : rank_at t s ≡ rank_of G s
    unfolding place_of grammar_fields
    rank_at_lem = omega (arith, held.lines (Symbol s) h 2 (omega arith), held.ranks s h)

  module _ (r : ℕ) (h : r < length G.rules) where
    pub rule_symbol_lem : rule_symbol t r ≡ lhs_of G r
    unfolding place_of grammar_fields
    rule_symbol_lem = held.lines (Rule r) h 1 (omega arith)

    pub rule_nodes_lem : rule_nodes t r ≡ (right_of G r).nodes
    unfolding place_of grammar_fields
    rule_nodes_lem = held.lines (Rule r) h 2 (omega arith)

    pub rule_edges_lem : rule_edges t r ≡ length (right_of G r).edges
    unfolding place_of grammar_fields
    rule_edges_lem = held.lines (Rule r) h 3 (omega arith)

    pub rule_plan_lem : rule_plan t r ≡ length (plan_of G r)
    unfolding place_of grammar_fields
    rule_plan_lem = held.lines (Rule r) h 4 (omega arith)

    pub rule_external_lem : (k : ℕ) → k < 4 → rule_external t r k ≡ get_or (right_of G r).externals k 0
    unfolding place_of grammar_fields
    rule_external_lem k l = held.lines (Rule r) h (5 + k) (omega arith) ∙ rw (five k)
      where
        five : (k : ℕ) → 5 + k ≡ suc (suc (suc (suc (suc k))))
        five k = omega arith

    module _ (i : ℕ) (l : i < length (right_of G r).edges) where
      pub edge_label_is : edge_label t r i ≡ (edge_at (right_of G r).edges i).label
      unfolding place_of grammar_fields
      edge_label_is = held.lines (RuleEdge r i) (h, l) 0 (omega arith)

      pub edge_node_is : (k : ℕ) → k < 8 → edge_node t r i k ≡ get_or (edge_at (right_of G r).edges i).attachment k 0
      unfolding place_of grammar_fields
      edge_node_is k b = held.lines (RuleEdge r i) (h, l) (1 + k) (omega arith) ∙ rw (one k)
        where
          one : (k : ℕ) → 1 + k ≡ suc k
          one k = omega arith

      pub edge_nodes_lem : Ranked G (right_of G r).edges i → tabulate (rank_at t (edge_label t r i)) (edge_node t r i) ≡ (edge_at (right_of G r).edges i).attachment
      edge_nodes_lem k =
          let e = edge_at (right_of G r).edges i in
          let rank : rank_at t (edge_label t r i) ≡ rank_of G e.label = ap (rank_at t) edge_label_is ∙ rank_at_lem e.label k.0 in
          let small = held.ranks e.label k.0 in
          tabulate_list e.attachment (rank_at t (edge_label t r i)) (edge_node t r i) (rank ∙ sym k.1) (λ j b. edge_node_is j (omega arith))

    pub nodes_on_edges_lem : (n : ℕ) → n ≤ length (right_of G r).edges → ((i : ℕ) → i < n → Ranked G (right_of G r).edges i)
        → nodes_on_edges t r n ≡ attached_to (right_of G r).edges n
    unfolding nodes_on_edges collect
    nodes_on_edges_lem zero l k = refl
    nodes_on_edges_lem (suc n) l k = ap₂ ◌++◌ (nodes_on_edges_lem n (omega arith) (λ i b. k i (omega arith))) (edge_nodes_lem n l (k n (omega arith)))

    module _ (q : ℕ) (l : q < length (plan_of G r)) where
      pub plan_field : (j : ℕ) → j < 9 → line_field t (plan_place r q) j ≡ field (plan_fields (plan_node (plan_of G r) q)) j
      unfolding place_of grammar_fields
      plan_field j b = held.lines (PlanLine r q) (h, l) j b

      children_words : children_of (plan_kind t r q) (plan_first t r q) (plan_second t r q) ≡ children (plan_node (plan_of G r) q)
      children_words = rw (plan_field 0 (omega arith), plan_field 1 (omega arith), plan_field 2 (omega arith)) (children_of_lem (plan_node (plan_of G r) q))

      introduced_words : introduced_by (plan_kind t r q) (plan_first t r q) (plan_second t r q) ≡ introduced (plan_node (plan_of G r) q)
      introduced_words = rw (plan_field 0 (omega arith), plan_field 1 (omega arith), plan_field 2 (omega arith)) (introduced_by_lem (plan_node (plan_of G r) q))

    pub children_before_lem : (n : ℕ) → n ≤ length (plan_of G r) → children_before t r n ≡ children_to (plan_of G r) n
    unfolding children_before collect
    children_before_lem zero l = refl
    children_before_lem (suc n) l = ap₂ ◌++◌ (children_before_lem n (omega arith)) (children_words n l)

    pub introduced_before_lem : (n : ℕ) → n ≤ length (plan_of G r) → introduced_before t r n ≡ introduced_to (plan_of G r) n
    unfolding introduced_before collect
    introduced_before_lem zero l = refl
    introduced_before_lem (suc n) l = ap₂ ◌++◌ (introduced_before_lem n (omega arith)) (introduced_words n l)

    -- how often numbers stand among the children and edges up to plan line q
    module _ (q : ℕ) (l : q < length (plan_of G r)) where
      pub children_so_far : (c : ℕ) → occurs c (children_before t r q ++ line_children (plan_node (plan_of G r) q)) ≡ occurs c (children_to (plan_of G r) q ++ children (plan_node (plan_of G r) q))
      children_so_far c = rw (children_before_lem q (omega arith), children_of_lem (plan_node (plan_of G r) q))

      pub introduced_so_far : (i : ℕ) → occurs i (introduced_before t r q ++ line_introduced (plan_node (plan_of G r) q)) ≡ occurs i (introduced_to (plan_of G r) q ++ introduced (plan_node (plan_of G r) q))
      introduced_so_far i = rw (introduced_before_lem q (omega arith), introduced_by_lem (plan_node (plan_of G r) q))
