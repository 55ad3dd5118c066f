-- Records that pass question 8 and items are one to one, and what the places of such a record hold.
use mathlib.Core.Path.{◌≡◌, refl, sym, ap, ◌∙◌, subst}
use mathlib.Core.Logic.{◌⊎◌, inl, inr, ◌↔◌}
use mathlib.Core.Bool.{Bool, true, false}
use mathlib.Core.List.{List}
use Prim.Native.Nat.{ℕ, ◌≤◌, ◌<◌}
use native.Mathlib.Omega.{arith}
use native.Mathlib.Decide.{dec_lt}
use lib.ListN.{length, take, length-take}
use lib.Seq.{get_or-take}
use borrow.Author.Tests.{ltb-true, lt-ltb}
use Rattle.hrg.specs.Grammars.{Graph, Grammar, rank_of, rule_of, right_of, plan_of}
use Rattle.hrg.specs.Trees.{unplaced, at, padded}
use Rattle.hrg.specs.WellFormed.{GrammarOk, GraphOk}
use Rattle.hrg.proofs.Degrees.{by_test}
use Rattle.questions.specs.Layout.{rule_nodes, graph_nodes}
use Rattle.questions.specs.Abstract.{grammar_of, graph_of}
use Rattle.questions.proofs.WellFormedLent.{checked_grammar_ok}
use Rattle.questions.proofs.WellFormedAccepted.{rules_length}
use Rattle.joins.specs.Joins.{Accepted, BareFrom, Into}
use Rattle.joins.proofs.Known.{right_nodes, graph_nodes_lem}
use Rattle.joins.proofs.EdgeMaps.{is_padded, at_past, same_bare as bare_equal}
use Rattle.agenda.specs.Records.{chart_item, item_of, same_chart_item}
use Rattle.agenda.specs.Steps.{with_count}
use Rattle.agenda.specs.declared.ChartItem.{ChartItem}
use Rattle.agenda.specs.declared.Record.{Record}
use Rattle.agenda.proofs.Records.{item_active, item_passive, Formed, bare_item_of, bare_item, item_bare, same_bare, bare_same}
use Rattle.validity.specs.Checking.{known_record}
use Rattle.validity.specs.Existing.{open_place, listed_place, NoneElse, ImageOfItem, active_image, passive_image, ExistingParts, ExistingRecord, an_active, a_passive}
use Rattle.validity.proofs.ExistingTest.{known_image, known_existing}
use Rattle.validity.proofs.OpenNodes.{open_inside}

-- ---- eight places of which those that are used lie before k
module _ (k : ℕ) (ns : List ℕ) (used : ℕ → Bool) (size : length ns ≡ 8) (inside : (i : ℕ) → used i ≡ true → i < k) (none : NoneElse used ns) where
  else_none : (i : ℕ) → k ≤ i → at ns i ≡ unplaced
  else_none i l = by_test (used i) (λ e. absurd (omega (arith, inside i e))) (λ e. go e (dec_lt i 8))
    where
      go : used i ≡ false → Dec (i < 8) → at ns i ≡ unplaced
      go e (yes d) = none.none i d e
      go e (no d) = at_past ns i (omega arith)

  -- they are the first k of them and none behind
  places_formed : ns ≡ padded (take k ns)
  places_formed = is_padded ns (take k ns) size (λ i l. go i (dec_lt i k))
    where
      go : (i : ℕ) → Dec (i < k) → at ns i ≡ at (take k ns) i
      go i (yes d) = sym (get_or-take k ns i unplaced d)
      go i (no d) = else_none i (omega arith) ∙ sym (at_past (take k ns) i (omega (arith, length-take k ns)))

  places_bare : BareFrom k ns
  places_bare = record { past = else_none }

  places_into : (n : ℕ) → ((i : ℕ) → i < 8 → used i ≡ true → at ns i < n) → Into n ns
  places_into n node i = go (dec_lt i 8)
    where
      go : Dec (i < 8) → (at ns i ≡ unplaced) ⊎ (at ns i < n)
      go (yes d) = by_test (used i) (λ e. inr (node i d e)) (λ e. inl (none.none i d e))
      go (no d) = inl (at_past ns i (omega arith))

-- ---- a known record of eight places
-- by its kind: what both clauses say of it
pub data KnownAs (G : Grammar) (H : Graph) (x : Record) : Type 0 where
  as_active : x.item.kind ≡ 0 → x.item.of < length G.rules → x.item.plan < length (plan_of G x.item.of) → NoneElse (open_place G x.item) x.item.nodes
      → ExistingParts H (open_place G x.item) x → KnownAs G H x
  as_passive : x.item.kind ≡ 1 → x.item.of < length G.symbols → x.item.plan ≡ 0 → NoneElse (listed_place G x.item) x.item.nodes → ExistingParts H (listed_place G x.item) x
      → KnownAs G H x

module _ (G : Grammar) (H : Graph) (n : ℕ) (x : Record) (known : known_record G H n x ≡ true) where
  pub known_as : KnownAs G H x
  known_as = go (known_image G H n x known) (known_existing G H n x known)
    where
      go : ImageOfItem G x → ExistingRecord G H n x → KnownAs G H x
      go (active_image k a u) (an_active e r p s q) = as_active k r p a s
      go (passive_image k a u v) (a_passive e r t s q) = as_passive k r u a s
      go (active_image k a u) (a_passive e r t s q) = absurd (omega arith)
      go (passive_image k a u v) (an_active e r p s q) = absurd (omega arith)

module _ (G : Grammar) (H : Graph) (ok : GrammarOk G) (n : ℕ) (x : Record) (size : length x.item.nodes ≡ 8) (known : known_record G H n x ≡ true) where
  open_few : x.item.of < length G.rules → x.item.plan < length (plan_of G x.item.of) → (i : ℕ) → open_place G x.item i ≡ true → i < (right_of G x.item.of).nodes
  open_few r p i = open_inside (rule_of G x.item.of) (ok.rule x.item.of r) x.item.plan i p

  -- the record is that of its item
  pub image_formed : x.item ≡ chart_item (item_of G x.item) x.item.count
  image_formed = go (known_as G H n x known)
    where
      with_nodes : ℕ → ℕ → List ℕ → ChartItem
      with_nodes k p ns = record { kind = k; of = x.item.of; plan = p; edges = x.item.edges; count = x.item.count; nodes = ns }

      go : KnownAs G H x → x.item ≡ chart_item (item_of G x.item) x.item.count
      go (as_active k r p a s) =
          let ns = places_formed (right_of G x.item.of).nodes x.item.nodes (open_place G x.item) size (open_few r p) a in
          rw (item_active G x.item k) (ap (λ i. with_nodes i x.item.plan x.item.nodes) k ∙ ap (with_nodes 0 x.item.plan) ns)
      go (as_passive k r p a s) =
          let ns = places_formed (rank_of G x.item.of) x.item.nodes (listed_place G x.item) size (λ i. ltb-true i (rank_of G x.item.of)) a in
          rw (item_passive G x.item (λ z. omega arith))
          (ap (λ i. with_nodes i x.item.plan x.item.nodes) k ∙ ap (λ i. with_nodes 1 i x.item.nodes) p ∙ ap (with_nodes 1 0) ns)

  -- .. and so without its count
  pub known_formed : Formed G x
  known_formed = ap (λ (i : ChartItem). with_count i 0) image_formed ∙ bare_item_of (item_of G x.item) x.item.count

  -- an active one has no node from its rule's nodes on, a passive one none from its symbol's rank on
  pub known_bare : x.item.kind ≡ 0 → BareFrom (right_of G x.item.of).nodes x.item.nodes
  known_bare e = go (known_as G H n x known)
    where
      go : KnownAs G H x → BareFrom (right_of G x.item.of).nodes x.item.nodes
      go (as_active k r p a s) = places_bare (right_of G x.item.of).nodes x.item.nodes (open_place G x.item) size (open_few r p) a
      go (as_passive k r p a s) = absurd (omega arith)

  pub known_list_bare : x.item.kind ≡ 1 → BareFrom (rank_of G x.item.of) x.item.nodes
  known_list_bare e = go (known_as G H n x known)
    where
      go : KnownAs G H x → BareFrom (rank_of G x.item.of) x.item.nodes
      go (as_active k r p a s) = absurd (omega arith)
      go (as_passive k r p a s) = places_bare (rank_of G x.item.of) x.item.nodes (listed_place G x.item) size (λ i. ltb-true i (rank_of G x.item.of)) a

  -- .. and a node of the graph before, at each place that it uses
  pub known_open : x.item.kind ≡ 0 → (i : ℕ) → open_place G x.item i ≡ true → at x.item.nodes i < H.nodes
  known_open e i o = go (known_as G H n x known)
    where
      go : KnownAs G H x → at x.item.nodes i < H.nodes
      go (as_active k r p a s) = s.node i (omega (arith, open_few r p i o, (ok.rule x.item.of r).right.node_count.upper)) o
      go (as_passive k r p a s) = absurd (omega arith)

  pub known_listed : x.item.kind ≡ 1 → (i : ℕ) → i < rank_of G x.item.of → at x.item.nodes i < H.nodes
  known_listed e i l = go (known_as G H n x known)
    where
      go : KnownAs G H x → at x.item.nodes i < H.nodes
      go (as_active k r p a s) = absurd (omega arith)
      go (as_passive k r p a s) = s.node i (omega (arith, (ok.symbol x.item.of r).upper)) (lt-ltb i (rank_of G x.item.of) l)

  -- each place has none or a node of the graph
  pub known_into : Into H.nodes x.item.nodes
  known_into = go (known_as G H n x known)
    where
      go : KnownAs G H x → Into H.nodes x.item.nodes
      go (as_active k r p a s) = places_into (right_of G x.item.of).nodes x.item.nodes (open_place G x.item) size (open_few r p) a H.nodes s.node
      go (as_passive k r p a s) =
          places_into (rank_of G x.item.of) x.item.nodes (listed_place G x.item) size (λ i. ltb-true i (rank_of G x.item.of)) a H.nodes s.node

  module _ (good : GraphOk G H) where
    few : H.nodes ≤ unplaced
    few = good.side.node_count.upper

    -- every place that is used has a number below 64
    pub open_placed : x.item.kind ≡ 0 → (i : ℕ) → open_place G x.item i ≡ true → at x.item.nodes i < unplaced
    open_placed e i o = omega (arith, known_open e i o, few)

    pub listed_placed : x.item.kind ≡ 1 → (i : ℕ) → i < rank_of G x.item.of → at x.item.nodes i < unplaced
    listed_placed e i l = omega (arith, known_listed e i l, few)

-- ---- one to one
-- two known records are found the same exactly where they stand for the same item
module _ (G : Grammar) (H : Graph) (ok : GrammarOk G) (n m : ℕ) (x y : Record) (first : length x.item.nodes ≡ 8) (second : length y.item.nodes ≡ 8)
    (known : known_record G H n x ≡ true) (other : known_record G H m y ≡ true) where
  pub image_same : item_of G x.item ≡ item_of G y.item → same_chart_item x.item y.item ≡ true
  image_same e = bare_same x.item y.item (item_bare G x y (known_formed G H ok n x first known) (known_formed G H ok m y second other) e)

  pub one_to_one_is : (same_chart_item x.item y.item ≡ true) ↔ (item_of G x.item ≡ item_of G y.item)
  one_to_one_is = (λ e. bare_item G x y (same_bare x.item y.item e), image_same)

-- ---- over accepted tables
module _ (g h : List ℕ) (accepted : Accepted g h) (n : ℕ) (x : Record) (size : length x.item.nodes ≡ 8) (known : known_record (grammar_of g) (graph_of g h) n x ≡ true) where
  pub table_into : Into (graph_nodes h) x.item.nodes
  table_into = subst (λ k. Into k x.item.nodes) (graph_nodes_lem g h) (known_into (grammar_of g) (graph_of g h) (checked_grammar_ok g accepted.grammar) n x size known)

  pub table_bare : x.item.kind ≡ 0 → BareFrom (rule_nodes g x.item.of) x.item.nodes
  table_bare e = go (known_as (grammar_of g) (graph_of g h) n x known)
    where
      go : KnownAs (grammar_of g) (graph_of g h) x → BareFrom (rule_nodes g x.item.of) x.item.nodes
      go (as_active k r p a s) =
          bare_equal (rule_nodes g x.item.of) (right_of (grammar_of g) x.item.of).nodes x.item.nodes x.item.nodes
          (sym (right_nodes g x.item.of accepted.grammar (omega (arith, rules_length g)))) refl
          (known_bare (grammar_of g) (graph_of g h) (checked_grammar_ok g accepted.grammar) n x size known e)
      go (as_passive k r p a s) = absurd (omega arith)
