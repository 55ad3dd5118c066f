-- The computed test decides well-formedness, clause by clause; and K1 to K6 pass it.
use mathlib.Core.Path.{◌≡◌, refl, sym, subst}
use mathlib.Core.Logic.{◌⊎◌, inl, inr}
use mathlib.Core.Bool.{Bool, true, false, ◌&&◌, ◌||◌}
use mathlib.Core.List.{List, [], ◌∷◌, map}
use Prim.Native.Nat.{ℕ, zero, suc, ◌+◌, ◌-◌, ◌≤◌, ◌<◌}
use native.Mathlib.Nat.{not-suc-le-zero, le_of_suc-le-suc}
use native.Mathlib.Omega.{arith}
use lib.ListN.{length}
use lib.Dec.{T, eqb, leb, leb→le, le→leb, eqb→eq, eqb_refl}
use Rattle.hrg.specs.Counts.{hit, occurs}
use Rattle.hrg.specs.Grammars.{Kind, terminal, nonterminal, Edge, Graph, PlanNode, Rule, Grammar, kind_of, rank_of, rule_of, plan_node, edge_at}
use Rattle.hrg.specs.WellFormed.{Between, Listed, EdgeOk, OnEdge, SideOk, children, all_children, all_introduced, PlanOk, RuleOk, SymbolOk, GrammarOk, GraphOk}
use Rattle.hrg.specs.WellFormedTest.{Decides, same_kind, between_test, every, some, each, listed_test, edge_test, on_edge_test, side_test, plan_test, rule_test, symbol_test, grammar_test, graph_test}
use Rattle.hrg.specs.Cases.{Case, cases}
use Rattle.hrg.proofs.Sums.{hit_self, hit_eq}

-- ---- one test that fails
pub every_false : (n : ℕ) (t : ℕ → Bool) (i : ℕ) → i < n → t i ≡ false → false ≡ every n t
unfolding every
every_false zero t i h e = absurd (omega arith)
every_false (suc n) t zero h e = rw e
every_false (suc n) t (suc i) h e = go (t 0) (every n (λ j. t (suc j))) (every_false n (λ j. t (suc j)) i (omega arith) e)
  where
    go : (a b : Bool) → false ≡ b → false ≡ (a && b)
    go true b p = p
    go false b p = refl

-- ---- tests of compound propositions
pub decides_map : {b : Bool} {P Q : Type 0} → Decides b P → (P → Q) → (Q → P) → Decides b Q
decides_map d f g = record { sound = λ t. f (d.sound t); complete = λ q. d.complete (g q) }

infixl 10 ◌and◌
pub ◌and◌ : {a b : Bool} {P Q : Type 0} → Decides a P → Decides b Q → Decides (a && b) (P × Q)
◌and◌ {a = true} c d = record { sound = λ t. (c.sound tt, d.sound t); complete = λ p. d.complete p.1 }
◌and◌ {a = false} c d = record { sound = λ t. absurd t; complete = λ p. c.complete p.0 }

infixl 10 ◌or◌
pub ◌or◌ : {a b : Bool} {P Q : Type 0} → Decides a P → Decides b Q → Decides (a || b) (P ⊎ Q)
◌or◌ {a = true} c d = record { sound = λ t. inl (c.sound tt); complete = λ p. tt }
◌or◌ {a = false} {b} {P} {Q} c d = record { sound = λ t. inr (d.sound t); complete = go }
  where
    go : P ⊎ Q → T b
    go (inl p) = absurd (c.complete p)
    go (inr q) = d.complete q

pub decides_le : (m n : ℕ) → Decides (leb m n) (m ≤ n)
decides_le m n = record { sound = leb→le m n; complete = le→leb m n }

pub decides_eq : (m n : ℕ) → Decides (eqb m n) (m ≡ n)
decides_eq m n = record { sound = eqb→eq m n; complete = λ e. subst (λ (k : ℕ). T (eqb m k)) e (eqb_refl m) }

pub decides_kind : (k j : Kind) → Decides (same_kind k j) (k ≡ j)
decides_kind terminal terminal = record { sound = λ t. refl; complete = λ e. tt }
decides_kind terminal nonterminal = record { sound = λ t. absurd t; complete = λ e. let z : ◌≡◌ {A = ℕ} 0 1 = cc in omega arith }
decides_kind nonterminal terminal = record { sound = λ t. absurd t; complete = λ e. let z : ◌≡◌ {A = ℕ} 0 1 = cc in omega arith }
decides_kind nonterminal nonterminal = record { sound = λ t. refl; complete = λ e. tt }

pub decides_between : (low n high : ℕ) → Decides (between_test low n high) (Between low n high)
decides_between low n high =
    decides_map (decides_le low n and decides_le n high) (λ t. record { lower = t.0; upper = t.1 }) (λ r. (r.lower, r.upper))

pub decides_every : (n : ℕ) {t : ℕ → Bool} {P : ℕ → Type 0} → ((i : ℕ) → Decides (t i) (P i)) → Decides (every n t) ((i : ℕ) → i < n → P i)
unfolding every
decides_every zero d = record { sound = λ t i h. absurd (not-suc-le-zero h); complete = λ f. tt }
decides_every (suc n) {t} {P} d = decides_map (d 0 and decides_every n (λ i. d (suc i))) (λ p. go p) (λ f. (f 0 (omega arith), λ i h. f (suc i) (omega arith)))
  where
    go : P 0 × ((i : ℕ) → i < n → P (suc i)) → (i : ℕ) → i < suc n → P i
    go p zero h = p.0
    go p (suc i) h = p.1 i (le_of_suc-le-suc h)

pub decides_some : (n : ℕ) {t : ℕ → Bool} {P : ℕ → Type 0} → ((i : ℕ) → Decides (t i) (P i)) → Decides (some n t) ((i : ℕ) × (i < n) × P i)
unfolding some
decides_some zero d = record { sound = λ t. absurd t; complete = λ p. absurd (not-suc-le-zero p.1) }
decides_some (suc n) {t} {P} d = decides_map (d 0 or decides_some n (λ i. d (suc i))) (λ s. go s) (λ p. back p.0 p.1 p.2)
  where
    go : P 0 ⊎ ((i : ℕ) × (i < n) × P (suc i)) → (i : ℕ) × (i < suc n) × P i
    go (inl p) = (0, omega arith, p)
    go (inr p) = (suc p.0, omega (arith, p.1), p.2)

    back : (i : ℕ) → i < suc n → P i → P 0 ⊎ ((i : ℕ) × (i < n) × P (suc i))
    back zero h p = inl p
    back (suc i) h p = inr (i, le_of_suc-le-suc h, p)

-- of all numbers, only those in the list count
pub decides_each : (l : List ℕ) {t : ℕ → Bool} {P : ℕ → Type 0} → ((x : ℕ) → Decides (t x) (P x)) → Decides (each l t) ((x : ℕ) → 0 < occurs x l → P x)
unfolding each occurs
decides_each [] d = record { sound = λ t x h. absurd (not-suc-le-zero h); complete = λ f. tt }
decides_each (a ∷ l) {t} {P} d = decides_map (d a and decides_each l d) (λ p x h. go p x (hit x a) refl h) (λ f. (f a (omega (arith, hit_self a)), λ x h. f x (omega arith)))
  where
    go : P a × ((x : ℕ) → 0 < occurs x l → P x) → (x k : ℕ) → hit x a ≡ k → 0 < hit x a + occurs x l → P x
    go p x zero e h = p.1 x (omega arith)
    go p x (suc k) e h = subst P (sym (hit_eq x a (omega arith))) p.0

-- ---- the clauses
pub decides_listed : (nodes rank : ℕ) (l : List ℕ) → Decides (listed_test nodes rank l) (Listed nodes rank l)
unfolding listed_test
decides_listed nodes rank l =
    decides_map
    (decides_eq (length l) rank and decides_each l (λ x. decides_le (suc x) nodes) and decides_each l (λ x. decides_le (occurs x l) 1))
    (λ t. record { ranked = t.0.0; inside = t.0.1; once = λ x. go (occurs x l) (t.1 x) })
    (λ r. ((r.ranked, r.inside), λ x h. r.once x))
  where
    go : (k : ℕ) → (0 < k → k ≤ 1) → k ≤ 1
    go zero f = omega arith
    go (suc k) f = f (omega arith)

pub decides_edge : (G : Grammar) (nodes : ℕ) (e : Edge) → Decides (edge_test G nodes e) (EdgeOk G nodes e)
unfolding edge_test
decides_edge G nodes e =
    decides_map
    (
    decides_le (suc e.label) (length G.symbols)
    and decides_le 1 (rank_of G e.label)
    and decides_listed nodes (rank_of G e.label) e.attachment
    )
    (λ t. record { known = t.0.0; positive = t.0.1; listed = t.1 })
    (λ r. ((r.known, r.positive), r.listed))

pub decides_on_edge : (es : List Edge) (x : ℕ) → Decides (on_edge_test es x) (OnEdge es x)
unfolding on_edge_test
decides_on_edge es x =
    decides_map
    (decides_some (length es) (λ i. decides_le 1 (occurs x (edge_at es i).attachment)))
    (λ t. record { edge = t.0; known = t.1; on = t.2 })
    (λ r. (r.edge, r.known, r.on))

pub decides_side : (G : Grammar) (H : Graph) (rank nodes edges : ℕ) → Decides (side_test G H rank nodes edges) (SideOk G H rank nodes edges)
unfolding side_test
decides_side G H rank nodes edges =
    decides_map
    (
    decides_between 1 H.nodes nodes
    and decides_between 1 (length H.edges) edges
    and decides_listed H.nodes rank H.externals
    and decides_every (length H.edges) (λ i. decides_edge G H.nodes (edge_at H.edges i))
    and decides_every H.nodes (λ x. decides_on_edge H.edges x)
    )
    (λ t. record { node_count = t.0.0.0.0; edge_count = t.0.0.0.1; externals = t.0.0.1; edge = t.0.1; covered = t.1 })
    (λ r. ((((r.node_count, r.edge_count), r.externals), r.edge), r.covered))

pub decides_plan : (edges : ℕ) (pl : List PlanNode) → Decides (plan_test edges pl) (PlanOk edges pl)
unfolding plan_test
decides_plan edges pl =
    decides_map
    (
    decides_between 2 (length pl) 16
    and decides_every (length pl) (λ p. decides_each (children (plan_node pl p)) (λ c. decides_le (suc c) p))
    and decides_every (length pl - 1) (λ q. decides_eq (occurs q (all_children pl)) 1)
    and decides_every edges (λ i. decides_eq (occurs i (all_introduced pl)) 1)
    and decides_each (all_introduced pl) (λ i. decides_le (suc i) edges)
    )
    (λ t. record { size = t.0.0.0.0; lower = λ p c h. t.0.0.0.1 p h c; child_once = λ q h. t.0.0.1 q (omega arith); edge_once = t.0.1; edge_known = t.1 })
    (λ r. ((((r.size, λ p h c. r.lower p c h), λ q h. r.child_once q (omega arith)), r.edge_once), r.edge_known))

pub decides_rule : (G : Grammar) (R : Rule) → Decides (rule_test G R) (RuleOk G R)
unfolding rule_test
decides_rule G R =
    decides_map
    (
    decides_le (suc R.production.lhs) (length G.symbols)
    and decides_kind (kind_of G R.production.lhs) nonterminal
    and decides_side G R.production.right (rank_of G R.production.lhs) 8 8
    and decides_plan (length R.production.right.edges) R.plan
    )
    (λ t. record { lhs_known = t.0.0.0; lhs_kind = t.0.0.1; right = t.0.1; plan = t.1 })
    (λ r. (((r.lhs_known, r.lhs_kind), r.right), r.plan))

pub decides_symbol : (G : Grammar) (s : ℕ) → Decides (symbol_test G s) (SymbolOk G s)
unfolding symbol_test
decides_symbol G s =
    decides_map
    (decides_le (rank_of G s) 4 and (decides_eq s G.start or decides_le 1 (rank_of G s)))
    (λ t. record { upper = t.0; lower = t.1 })
    (λ r. (r.upper, r.lower))

-- ---- the theorems
pub grammar_decides : (G : Grammar) → Decides (grammar_test G) (GrammarOk G)
unfolding grammar_test
grammar_decides G =
    decides_map
    (
    decides_between 1 (length G.symbols) 64
    and decides_between 1 (length G.rules) 64
    and decides_le (suc G.start) (length G.symbols)
    and decides_kind (kind_of G G.start) nonterminal
    and decides_every (length G.symbols) (λ s. decides_symbol G s)
    and decides_every (length G.rules) (λ r. decides_rule G (rule_of G r))
    )
    (λ t. record { symbol_count_is = t.0.0.0.0.0; rule_count_is = t.0.0.0.0.1; start_known = t.0.0.0.1; start_kind = t.0.0.1; symbol = t.0.1; rule = t.1 })
    (λ r. (((((r.symbol_count_is, r.rule_count_is), r.start_known), r.start_kind), r.symbol), r.rule))

pub graph_decides : (G : Grammar) (H : Graph) → Decides (graph_test G H) (GraphOk G H)
unfolding graph_test
graph_decides G H =
    decides_map
    (decides_side G H (rank_of G G.start) 64 64 and decides_every (length H.edges) (λ g. decides_kind (kind_of G (edge_at H.edges g).label) terminal))
    (λ t. record { side = t.0; terminals = t.1 })
    (λ r. (r.side, r.terminals))

-- K1 to K6 are well-formed: the hypotheses can be met
pub cases_pass : map (λ (c : Case). grammar_test c.grammar && graph_test c.grammar c.graph) cases ≡ true ∷ true ∷ true ∷ true ∷ true ∷ true ∷ []
unfolding grammar_test graph_test
cases_pass = refl
