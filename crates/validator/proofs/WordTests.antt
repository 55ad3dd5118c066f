-- Question 8's tests on records, one law per way that a function can go: each is the definition's test on the grammar
-- and the graph of accepted tables.
use mathlib.Core.Path.{◌≡◌, refl, sym, ap, ap₂, ◌∙◌}
use mathlib.Core.Bool.{Bool, true, false, ◌&&◌, not, cond}
use mathlib.Core.List.{List, [], ◌∷◌}
use Prim.Native.Nat.{ℕ, ◌+◌, ◌≤◌, ◌<◌, min}
use native.Mathlib.Omega.{arith}
use native.Mathlib.Decide.{dec_lt}
use lib.ListN.{length}
use lib.Dec.{eqb, ltb, leb}
use lib.Bits.{bit_and}
use borrow.Author.Tests.{eq-eqb, ne_eqb, lt-ltb, le-ltb, le-leb, lt-leb}
use Rattle.masks.specs.Masks.{member, full, within, Filled}
use Rattle.hrg.specs.Counts.{occurs}
use Rattle.hrg.specs.Grammars.{terminal, nonterminal, Edge, Rule, PlanNode, leaf, introduce, join, kind_of, rank_of, right_of, plan_of, plan_node, edge_at}
use Rattle.hrg.specs.Trees.{at}
use Rattle.hrg.specs.Items.{below}
use Rattle.hrg.specs.ClosureRun.{is_terminal}
use Rattle.hrg.specs.WellFormedTest.{every}
use Rattle.hrg.proofs.Sums.{occurs_append}
use Rattle.hrg.proofs.Plans.{below_introduce, below_known}
use Rattle.hrg.proofs.WellFormedTest.{every_false}
use Rattle.places.specs.Words.{places_of, Packed}
use Rattle.places.specs.Maps.{fits}
use Rattle.places.proofs.Reading.{places_packed}
use Rattle.questions.specs.Layout.{symbol_place, rule_place, symbol_count, kind_field, rank_at, rule_edges, rule_plan, edge_label, plan_kind, plan_first, plan_second, graph_edges}
use Rattle.questions.specs.Abstract.{plan_from, grammar_of, graph_of}
use Rattle.questions.specs.Checking.{check_grammar}
use Rattle.questions.proofs.WellFormedLent.{checked_grammar_ok}
use Rattle.questions.proofs.WellFormedAccepted.{symbols_length, rules_length, kind_is, rank_is, rule_is, edge_is}
use Rattle.joins.specs.Joins.{KnownNode, KnownEdge, Accepted, OpenAt}
use Rattle.joins.proofs.Known.{rule_ok, right_edges, plan_size, plan_ok, plan_node_is, graph_size, graph_nodes_lem, graph_edges_few, graph_nodes_few, symbol_there, rule_there}
use Rattle.joins.proofs.PlanMasks.{alone}
use Rattle.joins.proofs.MapLaws.{every_true, every_same}
use Rattle.agenda.specs.declared.Record.{Record}
use Rattle.agenda.specs.Records.{is_handled}
use Rattle.agenda.specs.Steps.{handled_count}
use Rattle.records.specs.Numbers.{number_in}
use Rattle.records.specs.Words.{capacity, item_count, record_at, records_at}
use Rattle.records.proofs.WordLaws.{handled_more, handled_same}
use Rattle.validity.specs.Checking.{known_edges, known_place, known_places, in_graph, known_second, known_partners, known_active, known_passive, known_record, known_chart}
use Rattle.validity.specs.Existing.{open_place, listed_place}
use Rattle.validator.specs.Sizes.{Sized}
use Rattle.validator.specs.declared.Sizes.{Sizes}

-- ---- bounds
pub below_equal : (x a b : ℕ) → a ≡ b → x < a → x < b
below_equal x a b e l = omega arith

pub below_capacity : (w : List ℕ) (j n cap : ℕ) → cap ≡ capacity w → n ≤ cap → j < n → j < capacity w
below_capacity w j n cap e l i = omega arith

-- ---- tests one after another
-- the first i tests pass
pub record Passed (t : ℕ → Bool) (i : ℕ) : Type 0 where
  pub each : (k : ℕ) → k < i → t k ≡ true

pub passed_none : (t : ℕ → Bool) → Passed t 0
passed_none t = record { each = λ k l. absurd (omega arith) }

pub passed_next : (t : ℕ → Bool) (i : ℕ) → t i ≡ true → Passed t i → Passed t (i + 1)
passed_next t i e p = record { each = λ k l. go k l (dec_lt k i) }
  where
    go : (k : ℕ) → k < i + 1 → Dec (k < i) → t k ≡ true
    go k l (yes h) = p.each k h
    go k l (no h) = let q : k ≡ i = omega arith in ap t q ∙ e

pub passed_all : (n i : ℕ) (t : ℕ → Bool) → n ≤ i → Passed t i → true ≡ every n t
passed_all n i t h p = sym (every_true n t (λ k l. p.each k (omega arith)))

and_no : (a b : Bool) → a ≡ false → a && b ≡ false
and_no a b e = rw e

and_so : (a b : Bool) → a ≡ true → a && b ≡ b
and_so a b e = rw e

-- a graph has at most 64 edges
pub all_graph_edges : (g h : List ℕ) → Accepted g h → (n all : ℕ) → n ≡ graph_edges h → Filled n all → all ≡ full (graph_edges h)
all_graph_edges g h ok n all e f = f.value ∙ ap full (let whole : min n 64 ≡ graph_edges h = omega (arith, graph_edges_few g h ok) in whole)

-- ---- edges and places
-- the eight places tested at once
pub places_by : (n used w : ℕ) (ns : List ℕ) (b : Bool) → Packed ns w → b ≡ fits n used (places_of w) → b ≡ known_places n (λ k. member used k) ns
unfolding known_places known_place fits
places_by n used w ns b p e = e ∙ ap (fits n used) (places_packed p)

-- only the eight places are asked
places_same : (n : ℕ) (a b : ℕ → Bool) (ns : List ℕ) → ((k : ℕ) → k < 8 → a k ≡ b k) → known_places n a ns ≡ known_places n b ns
unfolding known_places
places_same n a b ns h = every_same 8 (λ k. known_place n (a k) (at ns k)) (λ k. known_place n (b k) (at ns k)) (λ k l. ap (λ (t : Bool). known_place n t (at ns k)) (h k l))

module _ (nodes edges all used : ℕ) (x : Record) (e : all ≡ full edges) where
  abbrev inside : Bool
  inside = in_graph nodes edges (λ k. member used k) x

  graph_test_is : (t b : Bool) → t ≡ eqb (bit_and x.item.edges all) x.item.edges → b ≡ known_places nodes (λ k. member used k) x.item.nodes → t && b ≡ inside
  unfolding in_graph known_edges within
  graph_test_is t b p q = ap₂ ◌&&◌ (p ∙ ap (λ m. eqb (bit_and x.item.edges m) x.item.edges) e) q

  pub graph_not : (bit_and x.item.edges all ≡ x.item.edges → ⊥) → false ≡ inside
  graph_not f = graph_test_is false (known_places nodes (λ k. member used k) x.item.nodes) (sym (ne_eqb (bit_and x.item.edges all) x.item.edges f)) refl

  pub graph_by : (b : Bool) → bit_and x.item.edges all ≡ x.item.edges → b ≡ known_places nodes (λ k. member used k) x.item.nodes → b ≡ inside
  graph_by b y q = graph_test_is true b (sym (eq-eqb (bit_and x.item.edges all) x.item.edges y)) q

graph_same : (nodes edges n m : ℕ) (a b : ℕ → Bool) (x : Record) → nodes ≡ n → edges ≡ m → ((k : ℕ) → k < 8 → a k ≡ b k) → in_graph nodes edges a x ≡ in_graph n m b x
unfolding in_graph
graph_same nodes edges n m a b x p q h =
    ap₂ (λ (i j : ℕ). known_edges j x.item.edges && known_places i a x.item.nodes) p q ∙ ap (λ (t : Bool). known_edges m x.item.edges && t) (places_same n a b x.item.nodes h)

-- ---- kinds of symbols
terminal_if : (b : Bool) → is_terminal (cond b terminal nonterminal) ≡ b
terminal_if true = refl
terminal_if false = refl

kind_test : (g : List ℕ) (s : ℕ) → s < symbol_count g → is_terminal (kind_of (grammar_of g) s) ≡ eqb (kind_field g s) 0
kind_test g s h = ap is_terminal (kind_is g s h) ∙ terminal_if (eqb (kind_field g s) 0)

module _ (g : List ℕ) (r i : ℕ) (known : KnownEdge g r i) where
  abbrev edge : Edge
  edge = edge_at (right_of (grammar_of g) r).edges i

  label_is : edge.label ≡ edge_label g r i
  label_is =
      ap (λ (R : Rule). (edge_at R.production.right.edges i).label) (rule_is g r known.rule) ∙ ap (λ (e : Edge). e.label) (edge_is g r i known.edge)

  label_known : edge_label g r i < symbol_count g
  label_known =
      let l : i < length (right_of (grammar_of g) r).edges = omega (arith, right_edges g r known.grammar known.rule, known.edge) in
      omega (arith, label_is, symbols_length g, ((rule_ok g r known.grammar known.rule).right.edge i l).known)

  pub label_here : (label : ℕ) → label ≡ edge_label g r i → label < symbol_count g
  label_here label e = omega (arith, label_known)

  label_kind_is : (label kind : ℕ) → label ≡ edge_label g r i → kind ≡ kind_field g label → is_terminal (kind_of (grammar_of g) edge.label) ≡ eqb kind 0
  label_kind_is label kind a b =
      ap (λ s. is_terminal (kind_of (grammar_of g) s)) label_is ∙ kind_test g (edge_label g r i) label_known ∙ ap (λ w. eqb w 0) (sym (b ∙ ap (kind_field g) a))

-- ---- lines that an accepted grammar table has
pub symbol_inside : (g : List ℕ) → check_grammar g ≡ true → (s : ℕ) → s < symbol_count g → symbol_place s < length g
symbol_inside g checked s h = symbol_there g s checked (omega (arith, (checked_grammar_ok g checked).symbol_count_is.upper, symbols_length g))

-- ---- plan nodes
module _ (g : List ℕ) (r q : ℕ) (known : KnownNode g r q) (kind : ℕ) (a : kind ≡ plan_kind g r q) where
  abbrev node : PlanNode
  node = plan_node (plan_of (grammar_of g) r) q

  node_is : node ≡ plan_from kind (plan_first g r q) (plan_second g r q)
  node_is = plan_node_is g r known.grammar known.rule q known.node ∙ ap (λ k. plan_from k (plan_first g r q) (plan_second g r q)) (sym a)

  leaf_is : kind ≡ 0 → node ≡ leaf
  leaf_is e = node_is ∙ rw e

  introduced_is : (i : ℕ) → kind ≡ 1 → i ≡ plan_second g r q → node ≡ introduce (plan_first g r q) i
  introduced_is i e c = node_is ∙ rw (e, c)

  joined_is : (kind ≡ 0 → ⊥) → (kind ≡ 1 → ⊥) → node ≡ join (plan_first g r q) (plan_second g r q)
  joined_is u v = node_is ∙ rw (ne_eqb kind 0 u, ne_eqb kind 1 v)

  -- an edge that is introduced is one of the rule's
  pub introduced_known : (i : ℕ) → kind ≡ 1 → i ≡ plan_second g r q → KnownEdge g r i
  introduced_known i e c =
      let pl = plan_of (grammar_of g) r in
      let ok = plan_ok g r known.grammar known.rule in
      let first = plan_first g r q in
      let list = below_introduce (rule_edges g r) pl ok q first i (introduced_is i e c) in
      record {
        grammar = known.grammar;
        rule = known.rule;
        edge = below_known (rule_edges g r) pl ok q i (omega (arith, ap (λ (l : List ℕ). occurs i l) list, occurs_append i (below pl first) (i ∷ []), alone i));
      }

-- ---- partners
module _ (g h : List ℕ) (n : ℕ) (x : Record) where
  module _ (i : ℕ) (known : KnownEdge g x.item.of i) (label kind : ℕ) (a : label ≡ edge_label g x.item.of i) (b : kind ≡ kind_field g label) where
    second_by : known_second (grammar_of g) (graph_of g h) n x i ≡ cond (eqb kind 0) (ltb x.second (graph_edges h)) (ltb x.second n)
    unfolding known_second
    second_by = ap₂ (λ (t : Bool) (m : ℕ). cond t (ltb x.second m) (ltb x.second n)) (label_kind_is g x.item.of i known label kind a b) (graph_size g h)

    pub second_edge : (m : ℕ) → kind ≡ 0 → m ≡ graph_edges h → ltb x.second m ≡ known_second (grammar_of g) (graph_of g h) n x i
    second_edge m e q = sym (second_by ∙ rw (e, ← q))

    pub second_item : (kind ≡ 0 → ⊥) → ltb x.second n ≡ known_second (grammar_of g) (graph_of g h) n x i
    second_item e = sym (second_by ∙ rw (ne_eqb kind 0 e))

  module _ (known : KnownNode g x.item.of x.item.plan) (kind : ℕ) (a : kind ≡ plan_kind g x.item.of x.item.plan) where
    abbrev partners : PlanNode → Bool
    partners p = known_partners (grammar_of g) (graph_of g h) n x p

    abbrev own : PlanNode
    own = plan_node (plan_of (grammar_of g) x.item.of) x.item.plan

    pub partners_leaf : kind ≡ 0 → eqb x.first 0 && eqb x.second 0 ≡ partners own
    unfolding known_partners
    partners_leaf e = sym (ap partners (leaf_is g x.item.of x.item.plan known kind a e))

    pub partners_introduce : (i : ℕ) (b : Bool) → kind ≡ 1 → i ≡ plan_second g x.item.of x.item.plan → b ≡ known_second (grammar_of g) (graph_of g h) n x i
        → ltb x.first n && b ≡ partners own
    unfolding known_partners
    partners_introduce i b e c s = ap (λ (t : Bool). ltb x.first n && t) s ∙ sym (ap partners (introduced_is g x.item.of x.item.plan known kind a i e c))

    pub partners_join : (kind ≡ 0 → ⊥) → (kind ≡ 1 → ⊥) → ltb x.first n && ltb x.second n ≡ partners own
    unfolding known_partners
    partners_join u v = sym (ap partners (joined_is g x.item.of x.item.plan known kind a u v))

-- ---- records
and_third : (a b c d : Bool) → a ≡ true → b ≡ true → c ≡ false → a && b && c && d ≡ false
and_third a b c d x y z = rw (x, y, z)

and_last : (a b c d : Bool) → a ≡ true → b ≡ true → c ≡ true → a && b && c && d ≡ d
and_last a b c d x y z = rw (x, y, z)

and_rest : (a b c d e f : Bool) → a ≡ true → b ≡ true → c ≡ true → d && e && f ≡ a && b && c && d && e && f
and_rest a b c d e f x y z = rw (x, y, z)

-- what the numbers of the tables say of a rule, a plan node and a symbol
module _ (g h : List ℕ) (s : Sizes) (sized : Sized g h s) where
  pub rule_inside : (r : ℕ) → r < s.rules → rule_place r < length g
  rule_inside r l = rule_there g r sized.tables.grammar (omega (arith, sized.rules))

  pub node_known : (r p size : ℕ) → r < s.rules → size ≡ rule_plan g r → p < size → KnownNode g r p
  node_known r p size l e i = record { grammar = sized.tables.grammar; rule = omega (arith, sized.rules); node = omega arith }

  pub symbol_known : (i : ℕ) → i < s.symbols → symbol_place i < length g
  symbol_known i l = symbol_inside g sized.tables.grammar i (omega (arith, sized.symbols))

  -- all graph edges as a set, and a bound that no node's number reaches
  pub in_sizes : (s.all ≡ full s.edges) × (s.nodes ≤ 64)
  in_sizes = (sized.all ∙ ap full (sym sized.edges), omega (arith, sized.nodes, graph_nodes_few g h sized.tables))

module _ (g h : List ℕ) (s : Sizes) (sized : Sized g h s) (n : ℕ) (x : Record) where
  -- a set of places, and the places that the item uses
  module _ (used : ℕ) (place : ℕ → Bool) (same : (k : ℕ) → k < 64 → member used k ≡ place k) (t : Bool) (c : t ≡ in_graph s.nodes s.edges (λ k. member used k) x) where
    in_tables : in_graph (graph_of g h).nodes (length (graph_of g h).edges) place x ≡ t
    in_tables =
        graph_same (graph_of g h).nodes (length (graph_of g h).edges) s.nodes s.edges place (λ k. member used k) x
        (graph_nodes_lem g h ∙ sym sized.nodes) (graph_size g h ∙ sym sized.edges) (λ k l. sym (same k (omega arith))) ∙ sym c

  abbrev active : Bool
  active = known_active (grammar_of g) (graph_of g h) n x

  pub active_no_rule : s.rules ≤ x.item.of → false ≡ active
  unfolding known_active
  active_no_rule l = simp (le-ltb x.item.of (length (grammar_of g).rules) (omega (arith, rules_length g, sized.rules)))

  module _ (rule : x.item.of < s.rules) (size : ℕ) (b : size ≡ rule_plan g x.item.of) where
    has_rule : ltb x.item.of (length (grammar_of g).rules) ≡ true
    has_rule = lt-ltb x.item.of (length (grammar_of g).rules) (omega (arith, rules_length g, sized.rules))

    plan_is : length (plan_of (grammar_of g) x.item.of) ≡ size
    plan_is = plan_size g x.item.of sized.tables.grammar (omega (arith, sized.rules)) ∙ sym b

    pub active_no_node : size ≤ x.item.plan → false ≡ active
    unfolding known_active
    active_no_node l = simp (has_rule, le-ltb x.item.plan (length (plan_of (grammar_of g) x.item.of)) (omega (arith, plan_is)))

    module _ (node : x.item.plan < size) where
      has_node : ltb x.item.plan (length (plan_of (grammar_of g) x.item.of)) ≡ true
      has_node = lt-ltb x.item.plan (length (plan_of (grammar_of g) x.item.of)) (omega (arith, plan_is))

      module _ (o : ℕ) (opened : OpenAt g x.item.of x.item.plan o) (t : Bool) (c : t ≡ in_graph s.nodes s.edges (λ k. member o k) x) where
        pub active_outside : t ≡ false → false ≡ active
        unfolding known_active
        active_outside f = sym (and_third _ _ _ _ has_rule has_node (in_tables o (open_place (grammar_of g) x.item) opened.members t c ∙ f))

        pub active_by : (p : Bool) → t ≡ true → p ≡ known_partners (grammar_of g) (graph_of g h) n x (plan_node (plan_of (grammar_of g) x.item.of) x.item.plan) → p ≡ active
        unfolding known_active
        active_by p f e = e ∙ sym (and_last _ _ _ _ has_rule has_node (in_tables o (open_place (grammar_of g) x.item) opened.members t c ∙ f))

  abbrev passive : Bool
  passive = known_passive (grammar_of g) (graph_of g h) n x

  pub passive_no_symbol : s.symbols ≤ x.item.of → false ≡ passive
  unfolding known_passive
  passive_no_symbol l = simp (le-ltb x.item.of (length (grammar_of g).symbols) (omega (arith, symbols_length g, sized.symbols)))

  module _ (symbol : x.item.of < s.symbols) (kind : ℕ) (b : kind ≡ kind_field g x.item.of) where
    has_symbol : ltb x.item.of (length (grammar_of g).symbols) ≡ true
    has_symbol = lt-ltb x.item.of (length (grammar_of g).symbols) (omega (arith, symbols_length g, sized.symbols))

    kind_by : not (is_terminal (kind_of (grammar_of g) x.item.of)) ≡ not (eqb kind 0)
    kind_by = ap not (kind_test g x.item.of (omega (arith, sized.symbols)) ∙ ap (λ w. eqb w 0) (sym b))

    pub passive_terminal : kind ≡ 0 → false ≡ passive
    unfolding known_passive
    passive_terminal e = simp (has_symbol, kind_by ∙ ap not (eq-eqb kind 0 e))

    module _ (other : kind ≡ 0 → ⊥) (rank listed : ℕ) (r : rank ≡ rank_at g x.item.of) (l : Filled rank listed) (t : Bool) (c : t ≡ in_graph s.nodes s.edges (λ k. member listed k) x) where
      has_kind : not (is_terminal (kind_of (grammar_of g) x.item.of)) ≡ true
      has_kind = kind_by ∙ ap not (ne_eqb kind 0 other)

      rank_of_lem : rank_of (grammar_of g) x.item.of ≡ rank
      rank_of_lem = rank_is g x.item.of (omega (arith, sized.symbols)) ∙ sym r

      listed_in : in_graph (graph_of g h).nodes (length (graph_of g h).edges) (listed_place (grammar_of g) x.item) x ≡ t
      listed_in = in_tables listed (listed_place (grammar_of g) x.item) (λ k d. l.members k d ∙ ap (ltb k) (sym rank_of_lem)) t c

      pub passive_outside : t ≡ false → false ≡ passive
      unfolding known_passive
      passive_outside f = simp (and_third _ _ _ (ltb x.first n) has_symbol has_kind (listed_in ∙ f))

      pub passive_by : t ≡ true → ltb x.first n && eqb x.item.plan 0 && eqb x.second 0 ≡ passive
      unfolding known_passive
      passive_by f = and_rest _ _ _ (ltb x.first n) (eqb x.item.plan 0) (eqb x.second 0) has_symbol has_kind (listed_in ∙ f)

module _ (g h : List ℕ) (n : ℕ) (x : Record) where
  abbrev tested : Bool
  tested = known_record (grammar_of g) (graph_of g h) n x

  pub record_active : (b : Bool) → x.item.kind ≡ 0 → b ≡ known_active (grammar_of g) (graph_of g h) n x → b ≡ tested
  unfolding known_record
  record_active b e t = t ∙ sym (rw (eq-eqb x.item.kind 0 e))

  pub record_passive : (b : Bool) → x.item.kind ≡ 1 → b ≡ known_passive (grammar_of g) (graph_of g h) n x → b ≡ tested
  unfolding known_record
  record_passive b e t = t ∙ sym (rw (ne_eqb x.item.kind 0 (omega arith), eq-eqb x.item.kind 1 e))

  pub record_other : (x.item.kind ≡ 0 → ⊥) → (x.item.kind ≡ 1 → ⊥) → false ≡ tested
  unfolding known_record
  record_other u v = sym (rw (ne_eqb x.item.kind 0 u, ne_eqb x.item.kind 1 v))

-- ---- the chart
-- the test of the record at a place
abbrev pub record_test : List ℕ → List ℕ → ℕ → List ℕ → ℕ → Bool
record_test g h n w j = known_record (grammar_of g) (graph_of g h) n (record_at w j)

module _ (g h w : List ℕ) (n : ℕ) (e : n ≡ number_in w) where
  chart_by : known_chart (grammar_of g) (graph_of g h) w ≡ leb n (capacity w) && every n (record_test g h n w)
  unfolding known_chart
  chart_by = ap (λ m. leb m (capacity w) && every m (record_test g h m w)) (sym e)

  pub chart_over : (cap : ℕ) → cap ≡ capacity w → cap < n → false ≡ known_chart (grammar_of g) (graph_of g h) w
  chart_over cap c l = sym (chart_by ∙ and_no (leb n (capacity w)) _ (lt-leb n (capacity w) (omega arith)))

  module _ (cap : ℕ) (c : cap ≡ capacity w) (l : n ≤ cap) where
    chart_rest : known_chart (grammar_of g) (graph_of g h) w ≡ every n (record_test g h n w)
    chart_rest = chart_by ∙ and_so (leb n (capacity w)) _ (le-leb n (capacity w) (omega arith))

    pub chart_not : (j : ℕ) (x : Record) (b : Bool) → j < n → x ≡ record_at w j → b ≡ known_record (grammar_of g) (graph_of g h) n x → b ≡ false
        → false ≡ known_chart (grammar_of g) (graph_of g h) w
    chart_not j x b i r t f = every_false n (record_test g h n w) j i (ap (known_record (grammar_of g) (graph_of g h) n) (sym r) ∙ sym t ∙ f) ∙ sym chart_rest

    pub chart_next : (j : ℕ) (x : Record) (b : Bool) → x ≡ record_at w j → b ≡ known_record (grammar_of g) (graph_of g h) n x → b ≡ true
        → Passed (record_test g h n w) j → Passed (record_test g h n w) (j + 1)
    chart_next j x b r t f p = passed_next (record_test g h n w) j (ap (known_record (grammar_of g) (graph_of g h) n) (sym r) ∙ sym t ∙ f) p

    pub chart_all : (j : ℕ) → n ≤ j → Passed (record_test g h n w) j → true ≡ known_chart (grammar_of g) (graph_of g h) w
    chart_all j i p = passed_all n j (record_test g h n w) i p ∙ sym chart_rest

-- one record more, handled or not
module _ (w : List ℕ) (j d : ℕ) (x : Record) (e : x ≡ record_at w j) where
  pub count_more : (x.handled ≡ 0 → ⊥) → d ≡ handled_count (records_at w j) → d + 1 ≡ handled_count (records_at w (j + 1))
  count_more h = handled_more w j d (ap (λ (y : Record). is_handled y) (sym e) ∙ ap not (ne_eqb x.handled 0 h))

  pub count_same : x.handled ≡ 0 → d ≡ handled_count (records_at w j) → d ≡ handled_count (records_at w (j + 1))
  count_same h = handled_same w j d (ap (λ (y : Record). is_handled y) (sym e) ∙ ap not (eq-eqb x.handled 0 h))

-- the records passed in the end are all items that a chart has which holds as many as it names
module _ (w : List ℕ) (n cap j : ℕ) (e : n ≡ number_in w) (c : cap ≡ capacity w) (l : n ≤ cap) (few : j ≤ n) (all : n ≤ j) where
  all_items : j ≡ item_count w
  unfolding item_count
  all_items = omega arith

  pub count_all : (d : ℕ) → d ≡ handled_count (records_at w j) → d ≡ handled_count (records_at w (item_count w))
  count_all d t = t ∙ ap (λ k. handled_count (records_at w k)) all_items
