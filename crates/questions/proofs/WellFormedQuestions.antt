-- Questions 3 to 7 as propositions: a line passes exactly when what its questions ask holds.
use mathlib.Core.Path.{◌≡◌, refl}
use mathlib.Core.Logic.{◌⊎◌}
use mathlib.Core.Bool.{Bool, true, false, not}
use mathlib.Core.List.{List, ◌++◌}
use Prim.Native.Nat.{ℕ, suc, ◌+◌, ◌≤◌, ◌<◌, min}
use native.Mathlib.Omega.{arith}
use lib.ListN.{length, drop}
use Rattle.hrg.specs.Counts.{occurs}
use Rattle.hrg.specs.WellFormed.{Between}
use Rattle.hrg.specs.WellFormedTest.{Decides}
use Rattle.hrg.proofs.WellFormedTest.{decides_map, ◌and◌, ◌or◌, decides_le, decides_eq, decides_between, decides_every, decides_each}
use Rattle.questions.specs.Layout.{symbol_count, start_symbol, kind_field, rank_at, rule_nodes, rule_edges, rule_plan, graph_nodes, graph_edges}
use Rattle.questions.specs.Questions.{ask, field, listed, covered, judge_grammar, judge_symbol, judge_rule, nodes_on_edges, judge_rule_edge, children_of, introduced_by, children_before, introduced_before, plan_so_far, plan_whole, judge_plan, judge_graph, nodes_on_graph, judge_graph_edge}

-- a verdict of 0, no refusal, says P
pub record Passes (n : ℕ) (P : Type 0) : Type 0 where
  pub sound : n ≡ 0 → P
  pub complete : P → n ≡ 0

passes_map : {n : ℕ} {P Q : Type 0} → Passes n P → (P → Q) → (Q → P) → Passes n Q
passes_map d f g = record { sound = λ e. f (d.sound e); complete = λ q. d.complete (g q) }

-- after the last question
passed : Passes 0 (Unit {0})
passed = record { sound = λ e. tt; complete = λ u. refl }

asks : {b : Bool} {n : ℕ} {P Q : Type 0} (k : ℕ) → Decides b P → Passes n Q → Passes (ask (suc k) b n) (P × Q)
asks {b = true} k d r = record { sound = λ e. (d.sound tt, r.sound e); complete = λ p. r.complete p.1 }
asks {b = false} k d r = record { sound = λ e. absurd (omega arith); complete = λ p. absurd (d.complete p.0) }

decides_not : {b : Bool} {P : Type 0} → Decides b P → Decides (not b) (P → ⊥)
decides_not {b = true} d = record { sound = λ t. absurd t; complete = λ f. f (d.sound tt) }
decides_not {b = false} d = record { sound = λ t p. d.complete p; complete = λ f. tt }

-- ---- questions 5 and 6
-- listed nodes are in range and distinct
pub record InOrder (nodes : ℕ) (l : List ℕ) : Type 0 where
  pub inside : (x : ℕ) → 0 < occurs x l → x < min 64 nodes
  pub once : (x : ℕ) → 0 < occurs x l → occurs x l ≤ 1

decides_listed : (nodes : ℕ) (l : List ℕ) → Decides (listed nodes l) (InOrder nodes l)
unfolding listed
decides_listed nodes l =
    decides_map
    (decides_each l (λ x. decides_le (suc x) (min 64 nodes)) and decides_each l (λ x. decides_le (occurs x l) 1))
    (λ p. record { inside = p.0; once = p.1 })
    (λ r. (r.inside, r.once))

pub record Covers (nodes : ℕ) (l : List ℕ) : Type 0 where
  pub few : nodes ≤ 64
  pub all : (x : ℕ) → x < min 64 nodes → 0 < occurs x l

decides_covered : (nodes : ℕ) (l : List ℕ) → Decides (covered nodes l) (Covers nodes l)
unfolding covered
decides_covered nodes l =
    decides_map
    (decides_le nodes 64 and decides_every (min 64 nodes) (λ x. decides_le 1 (occurs x l)))
    (λ p. record { few = p.0; all = p.1 })
    (λ r. (r.few, r.all))

-- ---- the lines of a grammar
pub record PassedGrammar (fs : List ℕ) : Type 0 where
  pub symbols : Between 1 (field fs 0) 64
  pub rules : Between 1 (field fs 1) 64
  pub start : field fs 2 < field fs 0
  pub count : length fs ≡ 3

pub passes_grammar : (fs : List ℕ) → Passes (judge_grammar fs) (PassedGrammar fs)
unfolding judge_grammar
passes_grammar fs =
    passes_map
    (asks 2 (decides_le 3 (length fs) and decides_between 1 (field fs 0) 64 and decides_between 1 (field fs 1) 64 and decides_le (suc (field fs 2)) (field fs 0))
    (asks 3 (decides_eq (length fs) 3)
    passed))
    (λ p. record { symbols = p.0.0.0.1; rules = p.0.0.1; start = p.0.1; count = p.1.0 })
    (λ r. ((((omega (arith, r.count), r.symbols), r.rules), r.start), (r.count, tt)))

pub record PassedSymbol (t : List ℕ) (s : ℕ) (fs : List ℕ) : Type 0 where
  pub number : field fs 0 ≡ s
  pub kind : field fs 1 ≤ 1
  pub upper : field fs 2 ≤ 4
  pub lower : (1 ≤ field fs 2) ⊎ (s ≡ start_symbol t)
  pub start_kind : (field fs 1 ≡ 1) ⊎ (s ≡ start_symbol t → ⊥)
  pub count : length fs ≡ 3

pub passes_symbol : (t : List ℕ) (s : ℕ) (fs : List ℕ) → Passes (judge_symbol t s fs) (PassedSymbol t s fs)
unfolding judge_symbol
passes_symbol t s fs =
    passes_map
    (asks 2 (
    decides_le 3 (length fs) and decides_eq (field fs 0) s and decides_le (field fs 1) 1 and decides_le (field fs 2) 4
    and (decides_le 1 (field fs 2) or decides_eq s (start_symbol t)) and (decides_eq (field fs 1) 1 or decides_not (decides_eq s (start_symbol t)))
    )
    (asks 3 (decides_eq (length fs) 3)
    passed))
    (λ p. record { number = p.0.0.0.0.0.1; kind = p.0.0.0.0.1; upper = p.0.0.0.1; lower = p.0.0.1; start_kind = p.0.1; count = p.1.0 })
    (λ r. ((((((omega (arith, r.count), r.number), r.kind), r.upper), r.lower), r.start_kind), (r.count, tt)))

pub record PassedRule (t : List ℕ) (r : ℕ) (fs : List ℕ) : Type 0 where
  pub number : field fs 0 ≡ r
  pub symbol : field fs 1 < symbol_count t
  pub kind : kind_field t (field fs 1) ≡ 1
  pub nodes : Between 1 (field fs 2) 8
  pub edges : Between 1 (field fs 3) 8
  pub plan : Between 2 (field fs 4) 16
  pub count : length fs ≡ 5 + rank_at t (field fs 1)
  pub externals : InOrder (field fs 2) (drop 5 fs)

pub passes_rule : (t : List ℕ) (r : ℕ) (fs : List ℕ) → Passes (judge_rule t r fs) (PassedRule t r fs)
unfolding judge_rule
passes_rule t r fs =
    passes_map
    (asks 2 (
    decides_le 5 (length fs) and decides_eq (field fs 0) r and decides_le (suc (field fs 1)) (symbol_count t) and decides_eq (kind_field t (field fs 1)) 1
    and decides_between 1 (field fs 2) 8 and decides_between 1 (field fs 3) 8 and decides_between 2 (field fs 4) 16
    )
    (asks 3 (decides_eq (length fs) (5 + rank_at t (field fs 1)))
    (asks 4 (decides_listed (field fs 2) (drop 5 fs))
    passed)))
    (λ p. record { number = p.0.0.0.0.0.0.1; symbol = p.0.0.0.0.0.1; kind = p.0.0.0.0.1; nodes = p.0.0.0.1; edges = p.0.0.1; plan = p.0.1; count = p.1.0; externals = p.1.1.0 })
    (λ q. (((((((omega (arith, q.count), q.number), q.symbol), q.kind), q.nodes), q.edges), q.plan), (q.count, (q.externals, tt))))

pub record PassedEdge (t : List ℕ) (r i : ℕ) (fs : List ℕ) : Type 0 where
  pub symbol : field fs 0 < symbol_count t
  pub rank : 1 ≤ rank_at t (field fs 0)
  pub count : length fs ≡ 1 + rank_at t (field fs 0)
  pub attached : InOrder (rule_nodes t r) (drop 1 fs)
  pub covers : (i + 1 < rule_edges t r) ⊎ Covers (rule_nodes t r) (nodes_on_edges t r i ++ drop 1 fs)

pub passes_edge : (t : List ℕ) (r i : ℕ) (fs : List ℕ) → Passes (judge_rule_edge t r i fs) (PassedEdge t r i fs)
unfolding judge_rule_edge
passes_edge t r i fs =
    passes_map
    (asks 2 (decides_le 1 (length fs) and decides_le (suc (field fs 0)) (symbol_count t) and decides_le 1 (rank_at t (field fs 0)))
    (asks 3 (decides_eq (length fs) (1 + rank_at t (field fs 0)))
    (asks 4 (decides_listed (rule_nodes t r) (drop 1 fs))
    (asks 5 (decides_le (suc (i + 1)) (rule_edges t r) or decides_covered (rule_nodes t r) (nodes_on_edges t r i ++ drop 1 fs))
    passed))))
    (λ p. record { symbol = p.0.0.1; rank = p.0.1; count = p.1.0; attached = p.1.1.0; covers = p.1.1.1.0 })
    (λ q. (((omega (arith, q.count), q.symbol), q.rank), (q.count, (q.attached, (q.covers, tt)))))

-- question 7 at its own line
pub record SoFar (t : List ℕ) (r q kind first second : ℕ) : Type 0 where
  pub leaf : (kind ≡ 0 → ⊥) ⊎ ((first ≡ 0) × (second ≡ 0))
  pub lower : (c : ℕ) → 0 < occurs c (children_of kind first second) → c < q
  pub once : (c : ℕ) → 0 < occurs c (children_of kind first second) → occurs c (children_before t r q ++ children_of kind first second) ≡ 1
  pub known : (i : ℕ) → 0 < occurs i (introduced_by kind first second) → (i < rule_edges t r) × (occurs i (introduced_before t r q) ≡ 0)

decides_so_far : (t : List ℕ) (r q kind first second : ℕ) → Decides (plan_so_far t r q kind first second) (SoFar t r q kind first second)
unfolding plan_so_far
decides_so_far t r q kind first second =
    decides_map
    (
    (decides_not (decides_eq kind 0) or (decides_eq first 0 and decides_eq second 0))
    and decides_each (children_of kind first second) (λ c. decides_le (suc c) q)
    and decides_each (children_of kind first second) (λ c. decides_eq (occurs c (children_before t r q ++ children_of kind first second)) 1)
    and decides_each (introduced_by kind first second) (λ i. decides_le (suc i) (rule_edges t r) and decides_eq (occurs i (introduced_before t r q)) 0)
    )
    (λ p. record { leaf = p.0.0.0; lower = p.0.0.1; once = p.0.1; known = p.1 })
    (λ s. (((s.leaf, s.lower), s.once), s.known))

-- question 7 at the last line
pub record Whole (t : List ℕ) (r q kind first second : ℕ) : Type 0 where
  pub children : (c : ℕ) → c < q → 0 < occurs c (children_before t r q ++ children_of kind first second)
  pub edges : (i : ℕ) → i < min 8 (rule_edges t r) → 0 < occurs i (introduced_before t r q ++ introduced_by kind first second)

decides_whole : (t : List ℕ) (r q kind first second : ℕ) → Decides (plan_whole t r q kind first second) (Whole t r q kind first second)
unfolding plan_whole
decides_whole t r q kind first second =
    decides_map
    (
    decides_every q (λ c. decides_le 1 (occurs c (children_before t r q ++ children_of kind first second)))
    and decides_every (min 8 (rule_edges t r)) (λ i. decides_le 1 (occurs i (introduced_before t r q ++ introduced_by kind first second)))
    )
    (λ p. record { children = p.0; edges = p.1 })
    (λ w. (w.children, w.edges))

pub record PassedPlan (t : List ℕ) (r q : ℕ) (fs : List ℕ) : Type 0 where
  pub kind : field fs 0 ≤ 2
  pub count : length fs ≡ 3
  pub so_far : SoFar t r q (field fs 0) (field fs 1) (field fs 2)
  pub whole : (q + 1 < rule_plan t r) ⊎ Whole t r q (field fs 0) (field fs 1) (field fs 2)

pub passes_plan : (t : List ℕ) (r q : ℕ) (fs : List ℕ) → Passes (judge_plan t r q fs) (PassedPlan t r q fs)
unfolding judge_plan
passes_plan t r q fs =
    passes_map
    (asks 2 (decides_le 3 (length fs) and decides_le (field fs 0) 2)
    (asks 3 (decides_eq (length fs) 3)
    (asks 6 (
    decides_so_far t r q (field fs 0) (field fs 1) (field fs 2)
    and (decides_le (suc (q + 1)) (rule_plan t r) or decides_whole t r q (field fs 0) (field fs 1) (field fs 2))
    )
    passed)))
    (λ p. record { kind = p.0.1; count = p.1.0; so_far = p.1.1.0.0; whole = p.1.1.0.1 })
    (λ l. ((omega (arith, l.count), l.kind), (l.count, ((l.so_far, l.whole), tt))))

-- ---- the lines of a graph, with the grammar table g
pub record PassedGraph (g fs : List ℕ) : Type 0 where
  pub nodes : Between 1 (field fs 0) 64
  pub edges : Between 1 (field fs 1) 64
  pub count : length fs ≡ 2 + rank_at g (start_symbol g)
  pub externals : InOrder (field fs 0) (drop 2 fs)

pub passes_graph : (g fs : List ℕ) → Passes (judge_graph g fs) (PassedGraph g fs)
unfolding judge_graph
passes_graph g fs =
    passes_map
    (asks 2 (decides_le 2 (length fs) and decides_between 1 (field fs 0) 64 and decides_between 1 (field fs 1) 64)
    (asks 3 (decides_eq (length fs) (2 + rank_at g (start_symbol g)))
    (asks 4 (decides_listed (field fs 0) (drop 2 fs))
    passed)))
    (λ p. record { nodes = p.0.0.1; edges = p.0.1; count = p.1.0; externals = p.1.1.0 })
    (λ q. (((omega (arith, q.count), q.nodes), q.edges), (q.count, (q.externals, tt))))

pub record PassedGraphEdge (g h : List ℕ) (e : ℕ) (fs : List ℕ) : Type 0 where
  pub symbol : field fs 0 < symbol_count g
  pub kind : kind_field g (field fs 0) ≡ 0
  pub count : length fs ≡ 1 + rank_at g (field fs 0)
  pub attached : InOrder (graph_nodes h) (drop 1 fs)
  pub covers : (e + 1 < graph_edges h) ⊎ Covers (graph_nodes h) (nodes_on_graph g h e ++ drop 1 fs)

pub passes_graph_edge : (g h : List ℕ) (e : ℕ) (fs : List ℕ) → Passes (judge_graph_edge g h e fs) (PassedGraphEdge g h e fs)
unfolding judge_graph_edge
passes_graph_edge g h e fs =
    passes_map
    (asks 2 (decides_le 1 (length fs) and decides_le (suc (field fs 0)) (symbol_count g) and decides_eq (kind_field g (field fs 0)) 0)
    (asks 3 (decides_eq (length fs) (1 + rank_at g (field fs 0)))
    (asks 4 (decides_listed (graph_nodes h) (drop 1 fs))
    (asks 5 (decides_le (suc (e + 1)) (graph_edges h) or decides_covered (graph_nodes h) (nodes_on_graph g h e ++ drop 1 fs))
    passed))))
    (λ p. record { symbol = p.0.0.1; kind = p.0.1; count = p.1.0; attached = p.1.1.0; covers = p.1.1.1.0 })
    (λ q. (((omega (arith, q.count), q.symbol), q.kind), (q.count, (q.attached, (q.covers, tt)))))
