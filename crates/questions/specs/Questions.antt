-- Questions 3 to 7 of 01, one definition for each kind of line, over the lines stored so far. The first no is the
-- result; 0 is no refusal.
use Rattle.std.specs.Prelude.{Bool, true, false, ◌&&◌, ◌||◌, not, cond, List, [], ◌∷◌, ◌++◌, ℕ, zero, suc, ◌+◌, min, length, get_or, drop, eqb, ltb, leb}
use Rattle.hrg.specs.Counts.{hit, occurs, tabulate}
use Rattle.hrg.specs.WellFormedTest.{every, each, between_test}
use Rattle.questions.specs.Layout.{symbol_count, start_symbol, kind_field, rank_at, rule_nodes, rule_edges, rule_plan, edge_label, edge_node, plan_kind, plan_first, plan_second, graph_nodes, graph_edges, graph_label, graph_node}
use Rattle.questions.specs.declared.Due.{Due}
use Rattle.questions.specs.declared.Due.TheVariants.{Grammar, Symbol, Rule, RuleEdge, PlanLine, Graph, GraphEdge, Nothing}

-- a question with the number k of its refusal, and what comes after a yes
abbrev pub ask : ℕ → Bool → ℕ → ℕ
ask k true rest = rest
ask k false rest = k

-- field k
abbrev pub field : List ℕ → ℕ → ℕ
field fs k = get_or fs k 0

-- question 5: listed nodes are in range and distinct (no graph or rule has more than 64 nodes)
unfoldable pub listed : ℕ → List ℕ → Bool
unfolding each occurs hit
listed nodes l = each l (λ x. ltb x (min 64 nodes)) && each l (λ x. leb (occurs x l) 1)

-- question 6: every node is in the list
unfoldable pub covered : ℕ → List ℕ → Bool
unfolding every occurs hit
covered nodes l = leb nodes 64 && every (min 64 nodes) (λ x. ltb 0 (occurs x l))

-- ---- `G`: symbols (1-64), rules (1-64), start symbol
unfoldable pub judge_grammar : List ℕ → ℕ
judge_grammar fs =
    ask 3 (leb 3 (length fs) && between_test 1 (field fs 0) 64 && between_test 1 (field fs 1) 64 && ltb (field fs 2) (field fs 0))
    (ask 4 (eqb (length fs) 3) 0)

-- ---- `S`: its number, kind, rank. Ranks are 1-4; the start is nonterminal and may also have rank 0
unfoldable pub judge_symbol : List ℕ → ℕ → List ℕ → ℕ
judge_symbol g s fs =
    ask 3 (
    leb 3 (length fs) && eqb (field fs 0) s && leb (field fs 1) 1 && leb (field fs 2) 4
    && (leb 1 (field fs 2) || eqb s (start_symbol g)) && (eqb (field fs 1) 1 || not (eqb s (start_symbol g)))
    )
    (ask 4 (eqb (length fs) 3) 0)

-- ---- `R`: its number, its nonterminal, nodes (1-8), edges (1-8), plan nodes (2-16), then its external nodes
unfoldable pub judge_rule : List ℕ → ℕ → List ℕ → ℕ
unfolding listed
judge_rule g r fs =
    ask 3 (
    leb 5 (length fs) && eqb (field fs 0) r && ltb (field fs 1) (symbol_count g) && eqb (kind_field g (field fs 1)) 1
    && between_test 1 (field fs 2) 8 && between_test 1 (field fs 3) 8 && between_test 2 (field fs 4) 16
    )
    (ask 4 (eqb (length fs) (5 + rank_at g (field fs 1)))
    (ask 5 (listed (field fs 2) (drop 5 fs)) 0))

-- the nodes on the first n edges of rule r
unfoldable pub nodes_on_edges : List ℕ → ℕ → ℕ → List ℕ
unfolding tabulate
nodes_on_edges g r zero = []
nodes_on_edges g r (suc n) = nodes_on_edges g r n ++ tabulate (rank_at g (edge_label g r n)) (λ k. edge_node g r n k)

-- ---- `E` of a rule: symbol of rank 1 or more, then that many nodes; with the last one, is every node on an edge?
unfoldable pub judge_rule_edge : List ℕ → ℕ → ℕ → List ℕ → ℕ
unfolding listed covered nodes_on_edges
judge_rule_edge g r i fs =
    ask 3 (leb 1 (length fs) && ltb (field fs 0) (symbol_count g) && leb 1 (rank_at g (field fs 0)))
    (ask 4 (eqb (length fs) (1 + rank_at g (field fs 0)))
    (ask 5 (listed (rule_nodes g r) (drop 1 fs))
    (ask 6 (ltb (i + 1) (rule_edges g r) || covered (rule_nodes g r) (nodes_on_edges g r i ++ drop 1 fs)) 0)))

-- the children that a plan line names, and the edges that it introduces, by its three fields
unfoldable pub children_of : ℕ → ℕ → ℕ → List ℕ
children_of kind first second = cond (eqb kind 1) (first ∷ []) (cond (eqb kind 2) (first ∷ second ∷ []) [])

unfoldable pub introduced_by : ℕ → ℕ → ℕ → List ℕ
introduced_by kind first second = cond (eqb kind 1) (second ∷ []) []

-- those of the first n plan lines of rule r
unfoldable pub children_before : List ℕ → ℕ → ℕ → List ℕ
unfolding children_of
children_before g r zero = []
children_before g r (suc n) = children_before g r n ++ children_of (plan_kind g r n) (plan_first g r n) (plan_second g r n)

unfoldable pub introduced_before : List ℕ → ℕ → ℕ → List ℕ
unfolding introduced_by
introduced_before g r zero = []
introduced_before g r (suc n) = introduced_before g r n ++ introduced_by (plan_kind g r n) (plan_first g r n) (plan_second g r n)

-- question 7 at its own line: a leaf has 0 and 0; a child is below the line's number and not yet a child; an edge is
-- one of the rule's and not yet introduced
unfoldable pub plan_so_far : List ℕ → ℕ → ℕ → ℕ → ℕ → ℕ → Bool
unfolding each occurs hit children_of introduced_by children_before introduced_before
plan_so_far g r q kind first second =
    (not (eqb kind 0) || (eqb first 0 && eqb second 0))
    && each (children_of kind first second) (λ c. ltb c q)
    && each (children_of kind first second) (λ c. eqb (occurs c (children_before g r q ++ children_of kind first second)) 1)
    && each (introduced_by kind first second) (λ i. ltb i (rule_edges g r) && eqb (occurs i (introduced_before g r q)) 0)

-- question 7 at the last line: every plan node but the last is a child, and each edge is introduced
unfoldable pub plan_whole : List ℕ → ℕ → ℕ → ℕ → ℕ → ℕ → Bool
unfolding every occurs hit children_of introduced_by children_before introduced_before
plan_whole g r q kind first second =
    every q (λ c. ltb 0 (occurs c (children_before g r q ++ children_of kind first second)))
    && every (min 8 (rule_edges g r)) (λ i. ltb 0 (occurs i (introduced_before g r q ++ introduced_by kind first second)))

-- ---- `P`: kind, first, second
unfoldable pub judge_plan : List ℕ → ℕ → ℕ → List ℕ → ℕ
unfolding plan_so_far plan_whole
judge_plan g r q fs =
    ask 3 (leb 3 (length fs) && leb (field fs 0) 2)
    (ask 4 (eqb (length fs) 3)
    (ask 7 (
    plan_so_far g r q (field fs 0) (field fs 1) (field fs 2)
    && (ltb (q + 1) (rule_plan g r) || plan_whole g r q (field fs 0) (field fs 1) (field fs 2))
    )
    0))

-- ---- `H`: nodes (1-64), edges (1-64), then external nodes, as many as the start's rank
unfoldable pub judge_graph : List ℕ → List ℕ → ℕ
unfolding listed
judge_graph g fs =
    ask 3 (leb 2 (length fs) && between_test 1 (field fs 0) 64 && between_test 1 (field fs 1) 64)
    (ask 4 (eqb (length fs) (2 + rank_at g (start_symbol g)))
    (ask 5 (listed (field fs 0) (drop 2 fs)) 0))

-- the nodes on the first n edges of the graph
unfoldable pub nodes_on_graph : List ℕ → List ℕ → ℕ → List ℕ
unfolding tabulate
nodes_on_graph g h zero = []
nodes_on_graph g h (suc n) = nodes_on_graph g h n ++ tabulate (rank_at g (graph_label h n)) (λ k. graph_node h n k)

-- ---- `E` of a graph: a terminal symbol, then as many nodes as its rank
unfoldable pub judge_graph_edge : List ℕ → List ℕ → ℕ → List ℕ → ℕ
unfolding listed covered nodes_on_graph
judge_graph_edge g h e fs =
    ask 3 (leb 1 (length fs) && ltb (field fs 0) (symbol_count g) && eqb (kind_field g (field fs 0)) 0)
    (ask 4 (eqb (length fs) (1 + rank_at g (field fs 0)))
    (ask 5 (listed (graph_nodes h) (drop 1 fs))
    (ask 6 (ltb (e + 1) (graph_edges h) || covered (graph_nodes h) (nodes_on_graph g h e ++ drop 1 fs)) 0)))

-- questions 3 to 7 for the line that is due in the table t; a graph's lines are judged with the grammar table g
unfoldable pub judge : List ℕ → List ℕ → Due → List ℕ → ℕ
unfolding judge_grammar judge_symbol judge_rule judge_rule_edge judge_plan judge_graph judge_graph_edge
judge g t Grammar fs = judge_grammar fs
judge g t (Symbol s) fs = judge_symbol t s fs
judge g t (Rule r) fs = judge_rule t r fs
judge g t (RuleEdge r i) fs = judge_rule_edge t r i fs
judge g t (PlanLine r q) fs = judge_plan t r q fs
judge g t Graph fs = judge_graph g fs
judge g t (GraphEdge e) fs = judge_graph_edge g t e fs
judge g t Nothing fs = 2
