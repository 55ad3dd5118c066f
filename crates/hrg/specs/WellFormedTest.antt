-- A computed test for each clause of well-formedness (specs/WellFormed). proofs/WellFormedTest shows that each
-- decides its clause.
use Rattle.std.specs.Prelude.{Bool, true, false, ◌&&◌, ◌||◌, List, [], ◌∷◌, ℕ, zero, suc, ◌-◌, length, T, eqb, leb, ltb}
use Rattle.hrg.specs.Counts.{hit, occurs}
use Rattle.hrg.specs.Grammars.{Kind, terminal, nonterminal, Edge, Graph, PlanNode, Rule, Grammar, kind_of, rank_of, rule_of, plan_node, edge_at}
use Rattle.hrg.specs.WellFormed.{children, all_children, all_introduced}

-- The test passes exactly where the proposition holds.
pub record Decides (b : Bool) (P : Type 0) : Type 0 where
  pub sound : T b → P
  pub complete : P → T b

-- ---- small tests
abbrev pub same_kind : Kind → Kind → Bool
same_kind terminal terminal = true
same_kind terminal nonterminal = false
same_kind nonterminal terminal = false
same_kind nonterminal nonterminal = true

abbrev pub between_test : ℕ → ℕ → ℕ → Bool
between_test low n high = leb low n && leb n high

-- every number below n passes
unfoldable pub every : ℕ → (ℕ → Bool) → Bool
every zero t = true
every (suc n) t = let rest = every n (λ i. t (suc i)) in t 0 && rest

-- some number below n passes
unfoldable pub some : ℕ → (ℕ → Bool) → Bool
some zero t = false
some (suc n) t = t 0 || some n (λ i. t (suc i))

-- every number of the list passes
unfoldable pub each : List ℕ → (ℕ → Bool) → Bool
each [] t = true
each (x ∷ xs) t = t x && each xs t

-- ---- the clauses
unfoldable pub listed_test : ℕ → ℕ → List ℕ → Bool
unfolding hit occurs each
listed_test nodes rank l = eqb (length l) rank && each l (λ x. ltb x nodes) && each l (λ x. leb (occurs x l) 1)

unfoldable pub edge_test : Grammar → ℕ → Edge → Bool
unfolding listed_test
edge_test G nodes e = ltb e.label (length G.symbols) && leb 1 (rank_of G e.label) && listed_test nodes (rank_of G e.label) e.attachment

unfoldable pub on_edge_test : List Edge → ℕ → Bool
unfolding hit occurs some
on_edge_test es x = some (length es) (λ i. ltb 0 (occurs x (edge_at es i).attachment))

unfoldable pub side_test : Grammar → Graph → ℕ → ℕ → ℕ → Bool
unfolding every listed_test edge_test on_edge_test
side_test G H rank nodes edges =
    between_test 1 H.nodes nodes
    && between_test 1 (length H.edges) edges
    && listed_test H.nodes rank H.externals
    && every (length H.edges) (λ i. edge_test G H.nodes (edge_at H.edges i))
    && every H.nodes (λ x. on_edge_test H.edges x)

unfoldable pub plan_test : ℕ → List PlanNode → Bool
unfolding hit occurs every each all_children all_introduced
plan_test edges pl =
    between_test 2 (length pl) 16
    && every (length pl) (λ p. each (children (plan_node pl p)) (λ c. ltb c p))
    && every (length pl - 1) (λ q. eqb (occurs q (all_children pl)) 1)
    && every edges (λ i. eqb (occurs i (all_introduced pl)) 1)
    && each (all_introduced pl) (λ i. ltb i edges)

unfoldable pub rule_test : Grammar → Rule → Bool
unfolding side_test plan_test
rule_test G R =
    ltb R.production.lhs (length G.symbols)
    && same_kind (kind_of G R.production.lhs) nonterminal
    && side_test G R.production.right (rank_of G R.production.lhs) 8 8
    && plan_test (length R.production.right.edges) R.plan

unfoldable pub symbol_test : Grammar → ℕ → Bool
symbol_test G s = leb (rank_of G s) 4 && (eqb s G.start || leb 1 (rank_of G s))

unfoldable pub grammar_test : Grammar → Bool
unfolding every symbol_test rule_test
grammar_test G =
    between_test 1 (length G.symbols) 64
    && between_test 1 (length G.rules) 64
    && ltb G.start (length G.symbols)
    && same_kind (kind_of G G.start) nonterminal
    && every (length G.symbols) (λ s. symbol_test G s)
    && every (length G.rules) (λ r. rule_test G (rule_of G r))

unfoldable pub graph_test : Grammar → Graph → Bool
unfolding every side_test
graph_test G H =
    side_test G H (rank_of G G.start) 64 64 && every (length H.edges) (λ g. same_kind (kind_of G (edge_at H.edges g).label) terminal)
