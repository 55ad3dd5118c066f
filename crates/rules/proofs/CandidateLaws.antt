-- A graph edge that makes nothing with an item: of another label, in the item's set, or on another node than the map
-- has at a place.
use mathlib.Core.Path.{◌≡◌, refl, sym, ap, ◌∙◌, subst}
use mathlib.Core.Bool.{Bool, true, false, ◌&&◌, not, cond, false≢true, or-true}
use mathlib.Core.List.{List, [], ◌∷◌, ◌++◌, map}
use Prim.Native.Nat.{ℕ, zero, suc, ◌+◌, ◌-◌, ◌*◌, ◌^◌, ◌≤◌, ◌<◌}
use native.Mathlib.Omega.{arith}
use native.Mathlib.Numerals.{add-one}
use lib.ListN.{length, get_or, take}
use lib.Seq.{get_or-take}
use lib.Bits.{bit_and}
use lib.Dec.{eqb, ltb}
use borrow.Author.Tests.{eq-eqb, ne_eqb, eqb-true, eqb-false, lt-ltb, ltb-true, not-false}
use Rattle.masks.specs.Masks.{member, disjoint, single}
use Rattle.masks.proofs.Laws.{member_true, bit_single_self, disjoint_holds, disjoint_sum}
use Rattle.hrg.specs.Grammars.{Edge, Graph, Grammar, Rule, PlanNode, leaf, introduce, join, rule_of, right_of, plan_of, plan_node, kind_of, edge_at}
use Rattle.hrg.specs.Trees.{unplaced, at}
use Rattle.hrg.specs.Items.{Item, active, passive, attach}
use Rattle.hrg.specs.ClosureRun.{guard, is_terminal, combine, with_edge, binary_of}
use Rattle.hrg.proofs.Sums.{none_left, at_tabulate, length_tabulate}
use Rattle.hrg.proofs.Degrees.{test_T, and_true}
use Rattle.hrg.proofs.Plans.{introduce_known}
use Rattle.agenda.specs.Records.{record_of, item_of}
use Rattle.agenda.specs.Consequences.{terminal_at, with_terminal}
use Rattle.agenda.specs.declared.ChartItem.{ChartItem}
use Rattle.questions.specs.Layout.{rank_at, rule_nodes, rule_edges, rule_plan, edge_label, edge_node, plan_kind, plan_first, plan_second, graph_edges, graph_label, graph_node}
use Rattle.questions.specs.Abstract.{plan_from, grammar_of, graph_of}
use Rattle.joins.specs.Joins.{Accepted, KnownEdge}
use Rattle.joins.specs.Graphs.{nodes_of, marks_to, marks, GraphTable}
use Rattle.joins.proofs.Known.{right_nodes, nodes_few, plan_ok, plan_size, graph_ok, graph_size}
use Rattle.joins.proofs.PlanMasks.{node_is, member_none}
use Rattle.joins.proofs.Touching.{member_both}
use Rattle.joins.proofs.Openness.{member_others}
use Rattle.joins.proofs.MapLaws.{get_d_any}
use Rattle.joins.proofs.EdgeMaps.{edge_ok, edge_rank, edge_label_is, node_there, edge_node_known, attach_place}
use Rattle.joins.proofs.GraphLaws.{edge_nodes_lem, edge_few, label_few, node_few, some_in}
use Rattle.joins.proofs.Combining.{combine_differ}
use Rattle.std.specs.Prelude.{Some, None}
use Rattle.rules.specs.Rules.{terminal_items, Above}
use Rattle.rules.specs.Wants.{wants_at, want_of}
use Rattle.rules.specs.Candidates.{Introduces, Candidates}
use Rattle.rules.proofs.NodeLists.{label_is}
use Rattle.rules.proofs.RuleItems.{guard_none, terminal_place, with_terminal_lem, item_active, item_edges, binary_apart, edge_pair}
use Rattle.rules.proofs.RuleAnswers.{terminal_passive}
use Rattle.rules.proofs.WantLaws.{want_missing, want_found}
use Rattle.rules.proofs.Meeting.{passive_none}

-- ---- the numbers of a set that are not in another
without : (a b e : ℕ) → b < 2 ^ 64 → e < 64 → member (bit_and a (2 ^ 64 - 1 - b)) e ≡ (member a e && not (member b e))
without a b e h l = member_both a (2 ^ 64 - 1 - b) e ∙ ap (λ t. member a e && t) (member_others b e h l)

-- ---- the plan node above introduces the edge that is wanted
second_is : (kind first second c j : ℕ) → plan_from kind first second ≡ introduce c j → second ≡ j
second_is kind first second c j e = go (eqb kind 0) (eqb kind 1) e
  where
    go : (s t : Bool) → cond s leaf (cond t (introduce first second) (join first second)) ≡ introduce c j → second ≡ j
    go true t e = cc
    go false true e = cc
    go false false e = cc

module _ (G : Grammar) (r p want : ℕ) (few : want < 64) where
  abbrev label_of : ℕ → ℕ
  label_of i = (edge_at (right_of G r).edges i).label

  introduced : (n : PlanNode) → want ≡ get_or (wants_at G r p n) 0 80 → (j : ℕ) × (n ≡ introduce p j) × (label_of j ≡ want)
  unfolding wants_at
  introduced leaf e = absurd (omega arith)
  introduced (introduce c j) e = go (eqb c p) refl e
    where
      go : (s : Bool) → eqb c p ≡ s → want ≡ get_or (guard s (label_of j ∷ [])) 0 80 → (i : ℕ) × (introduce c j ≡ introduce p i) × (label_of i ≡ want)
      go true s e = (j, ap (λ c. introduce c j) (eqb-true c p s), sym e)
      go false s e = absurd (omega arith)
  introduced (join a b) e = absurd (go (eqb a p) (eqb b p) e)
    where
      go : (s t : Bool) → want ≡ get_or (guard s ((64 + b) ∷ []) ++ guard t ((64 + a) ∷ [])) 0 80 → ⊥
      go true t e = omega arith
      go false true e = omega arith
      go false false e = omega arith

module _ (g h : List ℕ) (accepted : Accepted g h) (x : ChartItem) where
  abbrev G : Grammar
  G = grammar_of g

  abbrev H : Graph
  H = graph_of g h

  abbrev items : ℕ → List Item
  items e = terminal_items G H (item_of G x) e

  as_pair : (e : ℕ) → e < graph_edges h → items e ≡ binary_of G H (item_of G x) (passive (edge_at H.edges e).label (single e) (nodes_of g h e))
  as_pair e l = edge_pair G H e ((graph_ok g h accepted).terminals e (omega (arith, graph_size g h))) (item_of G x)

  -- ---- an edge of the item's own set
  own_none : (e : ℕ) → e < graph_edges h → member x.edges e ≡ true → items e ≡ []
  own_none e l m =
      as_pair e l ∙ binary_apart G H (item_of G x) (passive (edge_at H.edges e).label (single e) (nodes_of g h e)) (ap (λ k. disjoint k (single e)) (item_edges G x) ∙ go (disjoint x.edges (single e)) refl)
    where
      go : (b : Bool) → disjoint x.edges (single e) ≡ b → disjoint x.edges (single e) ≡ false
      go true t = absurd (omega (arith, disjoint_sum x.edges (single e) (disjoint_holds x.edges (single e) (test_T _ t)) e, member_true x.edges e m, bit_single_self e))
      go false t = t

  none_known : (e : ℕ) → member 0 e ≡ true → e < graph_edges h
  none_known e t = absurd (false≢true (sym (member_none e) ∙ t))

  pub candidates_passive : (x.kind ≡ 0 → ⊥) → Candidates g h x 0
  candidates_passive n = record { known = λ e l t. none_known e t; others = λ e l t. terminal_passive G H x e (ne_eqb x.kind 0 n) }

  -- ---- what an active item wants
  module _ (is_active : x.kind ≡ 0) (want : ℕ) (is : want ≡ want_of G x.of x.plan) where
    x_is : item_of G x ≡ active x.of x.plan x.edges (take (right_of G x.of).nodes x.nodes)
    x_is = item_active G x (eq-eqb x.kind 0 is_active)

    label_none : (e : ℕ) → e < graph_edges h → (graph_label h e ≡ want → ⊥) → items e ≡ []
    label_none e l n =
        as_pair e l
        ∙ ap (λ (i : Item). binary_of G H i (passive (edge_at H.edges e).label (single e) (nodes_of g h e))) x_is
        ∙ passive_none g accepted.grammar H x.of x.plan x.edges (take (right_of G x.of).nodes x.nodes) (edge_at H.edges e).label (single e) (nodes_of g h e)
        (λ k s. n (sym (label_is g h e l) ∙ sym s ∙ sym is))

    pub candidates_none : 64 ≤ want → Candidates g h x 0
    candidates_none far = record {
      known = λ e l t. none_known e t;
      others = λ e l t. label_none e l (λ s. omega (arith, label_few g h accepted e l (graph_label h e) refl));
    }

    module _ (near : want < 64) where
      -- the plan node above
      pub candidates_nowhere : Above g x.of x.plan None → Candidates g h x 0
      candidates_nowhere none = absurd (omega (arith, is, want_missing g x.of x.plan none))

      module _ (q : ℕ) (above : Above g x.of x.plan (Some q)) where
        pub introduces : (i : ℕ) → i ≡ plan_second g x.of q → Introduces g h x want i
        introduces i second =
            let k = above.known in
            let node = plan_node (plan_of G x.of) q in
            let told : want ≡ get_or (wants_at G x.of x.plan node) 0 80 = is ∙ sym (want_found g x.of x.plan q above (get_or (wants_at G x.of x.plan node) 0 80) refl) in
            let (j, shape, label) = introduced G x.of x.plan want near node told in
            let same : i ≡ j = second ∙ second_is (plan_kind g x.of q) (plan_first g x.of q) (plan_second g x.of q) x.plan j (sym (node_is g x.of q k (plan_kind g x.of q) refl) ∙ shape) in
            record {
              above = q;
              here = record { accepted = accepted; node = k; is_active = is_active };
              parent = above.parent;
              node = shape ∙ ap (introduce x.plan) (sym same);
              label = ap (λ j. (edge_at (right_of G x.of).edges j).label) same ∙ label;
            }

      -- the edges of the label that are not in the item's set
      module _ (small : x.edges < 2 ^ 64) (t : List ℕ) (table : GraphTable g h t) where
        labelled : (e : ℕ) → e < 64 → member (get_or t (257 + want) 0) e ≡ (ltb e (graph_edges h) && marks g h e (257 + want))
        labelled e l = table.marked (257 + want) e (omega arith) (omega arith) l

        marked : (e : ℕ) → e < graph_edges h → graph_label h e ≡ want → member (get_or t (257 + want) 0) e ≡ true
        unfolding marks_to
        marked e l s = labelled e (edge_few g h accepted e l) ∙ rw (lt-ltb e (graph_edges h) l, s, eq-eqb (257 + want) (257 + want) refl)

        pub candidates_first : Candidates g h x (bit_and (get_or t (257 + want) 0) (2 ^ 64 - 1 - x.edges))
        candidates_first = record {
          known = λ e l m.
              let both = and_true (member (get_or t (257 + want) 0) e) (not (member x.edges e)) (sym (without (get_or t (257 + want) 0) x.edges e small l) ∙ m) in
              ltb-true e (graph_edges h) (and_true (ltb e (graph_edges h)) (marks g h e (257 + want)) (sym (labelled e l) ∙ both.0)).0;
          others = λ e l m. go e l (eqb (graph_label h e) want) refl (sym (without (get_or t (257 + want) 0) x.edges e small (edge_few g h accepted e l)) ∙ m);
        }
          where
            go : (e : ℕ) → e < graph_edges h → (b : Bool) → eqb (graph_label h e) want ≡ b → (member (get_or t (257 + want) 0) e && not (member x.edges e)) ≡ false → items e ≡ []
            go e l false s m = label_none e l (eqb-false (graph_label h e) want s)
            go e l true s m =
                own_none e l (not-false (member x.edges e) (sym (ap (λ b. b && not (member x.edges e)) (marked e l (eqb-true (graph_label h e) want s))) ∙ m))

-- ---- the edges of m that have the image a k at each place k before n, where that is one
unfoldable pub fitted : List ℕ → (ℕ → ℕ) → ℕ → ℕ → ℕ
fitted t a zero m = m
fitted t a (suc k) m = let rest = fitted t a k m in cond (ltb (a k) 64) (bit_and rest (get_or t (321 + 64 * k + a k) 0)) rest

pub fitted_next : (t : List ℕ) (a : ℕ → ℕ) (k m v rest r : ℕ) → rest ≡ fitted t a k m → v ≡ a k → r ≡ cond (ltb v 64) (bit_and rest (get_or t (321 + 64 * k + v) 0)) rest
    → r ≡ fitted t a (k + 1) m
unfolding fitted
fitted_next t a k m v rest r e d is = is ∙ rw (e, d, add-one k)

-- ---- an edge on another node than the map has
module _ (g h : List ℕ) (x : ChartItem) (want i : ℕ) (up : Introduces g h x want i) (eight : length x.nodes ≡ 8) where
  abbrev 𝐆 : Grammar
  𝐆 = grammar_of g

  abbrev 𝐇 : Graph
  𝐇 = graph_of g h

  abbrev R : Rule
  R = rule_of 𝐆 x.of

  abbrev f : List ℕ
  f = take R.production.right.nodes x.nodes

  abbrev rule_edge : Edge
  rule_edge = edge_at R.production.right.edges i

  size : length (plan_of 𝐆 x.of) ≡ rule_plan g x.of
  size = plan_size g x.of up.here.node.grammar up.here.node.rule

  pub edge_known : KnownEdge g x.of i
  edge_known =
      let k = up.here.node in
      record { grammar = k.grammar; rule = k.rule; edge = introduce_known (rule_edges g x.of) (plan_of 𝐆 x.of) (plan_ok g x.of k.grammar k.rule) up.above x.plan i up.node }

  -- the label read in the rule is the one wanted
  label_word : edge_label g x.of i ≡ want
  label_word = sym (edge_label_is g x.of i edge_known) ∙ up.label

  pub place_known : (k rank : ℕ) → rank ≡ rank_at g want → k < rank → k < rank_at g (edge_label g x.of i)
  place_known k rank e l = rw label_word (omega (arith, e, l))

  module _ (e : ℕ) (known : e < graph_edges h) where
    abbrev made : List Item
    made = combine 𝐇 R x.of up.above x.edges (single e) f (attach R.production.right.nodes rule_edge.attachment (nodes_of g h e))

    items_are : terminal_items 𝐆 𝐇 (item_of 𝐆 x) e
        ≡ guard (eqb x.plan x.plan && is_terminal (kind_of 𝐆 rule_edge.label)) (guard (eqb (edge_at 𝐇.edges e).label rule_edge.label) made)
    unfolding terminal_at with_edge
    items_are =
        ap (λ (it : Item). terminal_items 𝐆 𝐇 it e) (item_active 𝐆 x (eq-eqb x.kind 0 up.here.is_active))
        ∙ terminal_place 𝐆 𝐇 x.of x.plan x.edges f up.above (omega (arith, up.here.node.node, size))
        (λ q l n. none_left _ (λ o. n (up.parent.only q (omega (arith, l, size)) o))) e
        ∙ ap (terminal_at 𝐆 𝐇 x.of x.plan x.edges f e up.above) up.node

    module _ (k y a : ℕ) (l : k < rank_at g (edge_label g x.of i)) (node : y ≡ edge_node g x.of i k) (image : a ≡ get_or x.nodes y 0) (few : a < 64) where
      right : R.production.right.nodes ≡ rule_nodes g x.of
      right = right_nodes g x.of up.here.node.grammar up.here.node.rule

      inside : y < R.production.right.nodes
      inside = omega (arith, right, edge_node_known g x.of i edge_known k y l node)

      first : at f y ≡ a
      first =
          get_or-take R.production.right.nodes x.nodes y unplaced inside
          ∙ get_d_any x.nodes y unplaced 0 (omega (arith, eight, right, inside, nodes_few g x.of up.here.node.grammar up.here.node.rule))
          ∙ sym image

      module _ (s : (edge_at 𝐇.edges e).label ≡ rule_edge.label) where
        place : k < rank_at g (graph_label h e)
        place = rw (sym (label_is g h e known) ∙ s ∙ edge_label_is g x.of i edge_known) l

        second : at (attach R.production.right.nodes rule_edge.attachment (nodes_of g h e)) y ≡ graph_node h e k
        second =
            attach_place R.production.right.nodes rule_edge.attachment (nodes_of g h e) k y (edge_ok g x.of i edge_known).listed.once
            (omega (arith, edge_rank g x.of i edge_known, l))
            (omega (arith, ap length (edge_nodes_lem g h e known), length_tabulate (rank_at g (graph_label h e)) (λ k. graph_node h e k), place))
            (node ∙ sym (node_there g x.of i edge_known k l)) inside
            ∙ ap (λ (ns : List ℕ). at ns k) (edge_nodes_lem g h e known)
            ∙ at_tabulate (rank_at g (graph_label h e)) (λ k. graph_node h e k) k place

        differ : (graph_node h e k ≡ a → ⊥) → made ≡ []
        differ n =
            combine_differ 𝐇 R x.of up.above x.edges (single e) f (attach R.production.right.nodes rule_edge.attachment (nodes_of g h e)) y inside
            (omega (arith, first)) (omega (arith, second, node_few g h up.here.accepted e known k (graph_node h e k) place refl)) (λ q. n (sym second ∙ sym q ∙ first))

      other_node : (k < rank_at g (graph_label h e) → graph_node h e k ≡ a → ⊥) → terminal_items 𝐆 𝐇 (item_of 𝐆 x) e ≡ []
      other_node n = items_are ∙ go (eqb (edge_at 𝐇.edges e).label rule_edge.label) refl
        where
          test : Bool
          test = eqb x.plan x.plan && is_terminal (kind_of 𝐆 rule_edge.label)

          go : (b : Bool) → eqb (edge_at 𝐇.edges e).label rule_edge.label ≡ b → guard test (guard b made) ≡ []
          go true s = let same = eqb-true (edge_at 𝐇.edges e).label rule_edge.label s in ap (guard test) (differ same (n (place same))) ∙ guard_none test
          go false s = guard_none test

  -- one place more
  module _ (t : List ℕ) (table : GraphTable g h t) (k y a m : ℕ) (place : k < rank_at g (edge_label g x.of i)) (node : y ≡ edge_node g x.of i k) (image : a ≡ get_or x.nodes y 0) (c : Candidates g h x m) where
    few_places : k < 4
    few_places = omega (arith, place)

    abbrev w : ℕ
    w = get_or t (321 + 64 * k + a) 0

    module _ (few : a < 64) where
      marked_place : (e : ℕ) → e < graph_edges h → k < rank_at g (graph_label h e) → graph_node h e k ≡ a → member w e ≡ true
      unfolding marks_to
      marked_place e l p s =
          table.marked (321 + 64 * k + a) e (omega arith) (omega (arith, few_places)) (edge_few g h up.here.accepted e l)
          ∙ rw (
            lt-ltb e (graph_edges h) l,
            some_in (λ j. true) (λ j. eqb (321 + 64 * k + a) (321 + 64 * j + graph_node h e j)) (rank_at g (graph_label h e)) k p refl
                (eq-eqb (321 + 64 * k + a) (321 + 64 * k + graph_node h e k) (ap (λ b. 321 + 64 * k + b) (sym s))),
          ) (or-true (eqb (321 + 64 * k + a) (257 + graph_label h e)))

      narrow : Candidates g h x (bit_and m w)
      narrow = record {
        known = λ e l q. c.known e l (and_true (member m e) (member w e) (sym (member_both m w e) ∙ q)).0;
        others = λ e l q. go e l (member m e) refl (sym (member_both m w e) ∙ q);
      }
        where
          go : (e : ℕ) → e < graph_edges h → (b : Bool) → member m e ≡ b → (member m e && member w e) ≡ false → terminal_items 𝐆 𝐇 (item_of 𝐆 x) e ≡ []
          go e l false s q = c.others e l s
          go e l true s q =
              other_node e l k y a place node image few
              (λ p r. false≢true (sym (sym (ap (λ b. b && member w e) s) ∙ q) ∙ marked_place e l p r))

    candidates_next : (r : ℕ) → r ≡ cond (ltb a 64) (bit_and m (get_or t (321 + 64 * k + a) 0)) m → Candidates g h x r
    candidates_next r e = rw e (go (ltb a 64) refl)
      where
        go : (b : Bool) → ltb a 64 ≡ b → Candidates g h x (cond b (bit_and m (get_or t (321 + 64 * k + a) 0)) m)
        go true s = narrow (ltb-true a 64 s)
        go false s = c

  -- all places before n
  places_fitted : (t : List ℕ) → GraphTable g h t → (n m : ℕ) → n ≤ rank_at g want → Candidates g h x m
      → Candidates g h x (fitted t (λ k. get_or x.nodes (edge_node g x.of i k) 0) n m)
  unfolding fitted
  places_fitted t table zero m l c = c
  places_fitted t table (suc k) m l c =
      candidates_next t table k (edge_node g x.of i k) _ _ (place_known k (rank_at g want) refl (omega arith)) refl refl
      (places_fitted t table k m (omega arith) c) _ refl

  pub candidates_fitted : (t : List ℕ) → GraphTable g h t → (n m r : ℕ) → n ≤ rank_at g want → Candidates g h x m
      → r ≡ fitted t (λ k. get_or x.nodes (edge_node g x.of i k) 0) n m → Candidates g h x r
  candidates_fitted t table n m r l c e = subst (Candidates g h x) (sym e) (places_fitted t table n m l c)

-- ---- what steps read off the answer
pub no_terminal : (g h : List ℕ) (x : ChartItem) (m : ℕ) → Candidates g h x m → (n j e : ℕ) → e < graph_edges h → member m e ≡ false
    → with_terminal (grammar_of g) (graph_of g h) (item_of (grammar_of g) x) n j e ≡ []
no_terminal g h x m c n j e l t =
    with_terminal_lem (grammar_of g) (graph_of g h) (item_of (grammar_of g) x) n j e ∙ ap (map (λ (i : Item). record_of i n j e)) (c.others e l t)
