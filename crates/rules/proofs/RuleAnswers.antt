-- What the rules make over accepted tables, and what callers read off the answers.
use mathlib.Core.Path.{◌≡◌, refl, sym, ap, ap₂, ◌∙◌, subst}
use mathlib.Core.Bool.{Bool, true, false, ◌&&◌, cond}
use mathlib.Core.Logic.{inl, inr}
use mathlib.Core.List.{List, [], ◌∷◌, map}
use Prim.Native.Nat.{ℕ, ◌/◌, ◌%◌, ◌≤◌, ◌<◌}
use native.Mathlib.Omega.{arith}
use native.Mathlib.Decide.{dec_lt}
use lib.ListN.{length, take}
use lib.Seq.{get_or-take, length-take-le}
use lib.Bits.{bit_or}
use lib.Dec.{eqb}
use borrow.Author.Tests.{eq-eqb, ne_eqb, ltb-true}
use Rattle.std.specs.Prelude.{Option, Some, None}
use Rattle.masks.specs.Masks.{◌∪◌, single, Added}
use Rattle.masks.proofs.Laws.{bit_empty, union_of}
use Rattle.hrg.specs.Counts.{occurs}
use Rattle.hrg.specs.Grammars.{Edge, Graph, PlanNode, leaf, introduce, join, Rule, Grammar, rank_of, rule_of, right_of, plan_of, plan_node, edge_at}
use Rattle.hrg.specs.Trees.{unplaced, at, padded}
use Rattle.hrg.specs.Items.{Item, active, passive, is_open, attach}
use Rattle.hrg.specs.WellFormed.{children, EdgeOk}
use Rattle.hrg.specs.ClosureRun.{guard, combine, nonterminal_at, join_at, binary_of}
use Rattle.hrg.proofs.Sums.{none_left, occurs_at, occurs_find}
use Rattle.agenda.specs.Records.{chart_item, record_of, item_of, plus}
use Rattle.agenda.specs.Consequences.{with_terminal, pair}
use Rattle.agenda.specs.declared.ChartItem.{ChartItem}
use Rattle.agenda.specs.declared.Record.{Record}
use Rattle.questions.specs.Layout.{rank_at, rule_nodes, edge_label, plan_kind, plan_first, plan_second, graph_nodes, graph_edges, graph_label}
use Rattle.questions.specs.Abstract.{grammar_of, graph_of}
use Rattle.questions.proofs.WellFormedLent.{checked_grammar_ok}
use Rattle.joins.specs.Joins.{Accepted, KnownNode, KnownEdge, BareFrom, Into, Makes, edge_nodes}
use Rattle.rules.specs.Plans.{second_word}
use Rattle.rules.specs.Coverage.{Shown, Covering}
use Rattle.rules.specs.Rules.{Gives, Second, terminal_items, binary_at, made_of, Above, Usable, StandsFor}
use Rattle.joins.proofs.Known.{right_nodes, nodes_few, plan_size, graph_size, graph_nodes_lem, graph_ok, graph_edges_few}
use Rattle.joins.proofs.PlanMasks.{node_is, joined_is}
use Rattle.joins.proofs.EdgeMaps.{edge_ok, edge_label_is as rule_label, edge_rank, rank_cap, node_there, edge_node_known, at_padded, at_past, take_padded, padded_bare, length_attach, attach_place}
use Rattle.joins.proofs.Openness.{open_single}
use Rattle.joins.proofs.GraphPlaces.{Placeable, in_padded, in_take, in_attach}
use Rattle.rules.proofs.JoinWords.{introduced, second_edge, asked_known, asked_label, second_other}
use Rattle.rules.proofs.NodeLists.{label_is, edge_ranked}
use Rattle.rules.proofs.Covering.{made_covering}
use Rattle.rules.proofs.RuleItems.{guard_none, binary_nowhere, binary_place, first_is, first_none, item_active, item_passive, with_terminal_lem, pair_passive, edge_pair}

-- ---- the one plan node above
module _ (g : List ℕ) (H : Graph) (r p m : ℕ) (f : List ℕ) where
  module _ (x : ℕ) (above : Above g r p (Some x)) where
    only : (q : ℕ) → q < length (plan_of (grammar_of g) r) → (q ≡ x → ⊥) → occurs p (children (plan_node (plan_of (grammar_of g) r) q)) ≡ 0
    only q l n =
        let k = above.known in
        none_left _ (λ o. n (above.parent.only q (omega (arith, l, plan_size g r k.grammar k.rule)) o))

    inside : x < length (plan_of (grammar_of g) r)
    inside = let k = above.known in omega (arith, k.node, plan_size g r k.grammar k.rule)

    binary_above : (b : Item) → binary_of (grammar_of g) H (active r p m f) b ≡ binary_at (grammar_of g) H (active r p m f) b x
    binary_above b = binary_place (grammar_of g) H r p m f x inside only b

  binary_missing : Above g r p None → (b : Item) → binary_of (grammar_of g) H (active r p m f) b ≡ []
  binary_missing above b = binary_nowhere (grammar_of g) H r p m f above.nowhere.none b

pub terminal_passive : (G : Grammar) (H : Graph) (x : ChartItem) (e : ℕ) → eqb x.kind 0 ≡ false → terminal_items G H (item_of G x) e ≡ []
unfolding terminal_items
terminal_passive G H x e h = ap (λ (i : Item). terminal_items G H i e) (item_passive G x h)

and_no : (a b : Bool) → b ≡ false → (a && b) ≡ false
and_no true b h = h
and_no false b h = refl

single_added : (e m : ℕ) → e < 64 → Added 0 e m → m ≡ single e
single_added e m h added = added.value h ∙ sym (union_of (single e) 0 (single e) (λ k. omega (arith, bit_empty k)))

-- ---- the rules at one plan node
module _ (g : List ℕ) (r q : ℕ) (known : KnownNode g r q) where
  abbrev G : Grammar
  G = grammar_of g

  abbrev R : Rule
  R = rule_of G r

  abbrev n : ℕ
  n = rule_nodes g r

  abbrev node : PlanNode
  node = plan_node (plan_of G r) q

  size : R.production.right.nodes ≡ n
  size = right_nodes g r known.grammar known.rule

  -- an item that is not at the first child
  first_other : (H : Graph) (p m : ℕ) (f : List ℕ) (b : Item) → (plan_first g r q ≡ p → ⊥) → binary_at G H (active r p m f) b q ≡ []
  first_other H p m f b other =
      first_none G H r p m f b q (ap (λ (n : PlanNode). first_is n p) (node_is g r q known (plan_kind g r q) refl) ∙ go (eqb (plan_kind g r q) 0) (eqb (plan_kind g r q) 1))
    where
      go : (a b : Bool) → first_is (cond a leaf (cond b (introduce (plan_first g r q) (plan_second g r q)) (join (plan_first g r q) (plan_second g r q)))) p ≡ false
      go true b = refl
      go false true = ne_eqb (plan_first g r q) p other
      go false false = ne_eqb (plan_first g r q) p other

  module _ (y : ChartItem) where
    second_none : ((H : Graph) (p m : ℕ) (f : List ℕ) → binary_at G H (active r p m f) (item_of G y) q ≡ []) → Second g r q y None
    second_none h = record { none = h; some = tt; bare = tt; held = tt; into = tt }

    second_some : (t : List ℕ) → ((H : Graph) (p m : ℕ) (f : List ℕ) → plan_first g r q ≡ p → binary_at G H (active r p m f) (item_of G y) q ≡ combine H R r q m y.edges f (take n t)) → BareFrom n t
        → ((v : ℕ) → Shown g y v → (i : ℕ) × (i < n) × (at t i ≡ v)) → ((n : ℕ) → Into n y.nodes → Into n t) → Second g r q y (Some t)
    second_some t h past held into = record { none = tt; some = h; bare = past; held = held; into = into }

    with_active : y.kind ≡ 0 → (H : Graph) (p m : ℕ) (f : List ℕ)
        → binary_at G H (active r p m f) (item_of G y) q ≡ guard (eqb r y.of) (join_at H R r p m f y.plan y.edges (take (right_of G y.of).nodes y.nodes) q node)
    unfolding binary_at
    with_active e H p m f = ap (λ (b : Item). binary_at G H (active r p m f) b q) (item_active G y (eq-eqb y.kind 0 e))

    with_passive : (y.kind ≡ 0 → ⊥) → (H : Graph) (p m : ℕ) (f : List ℕ)
        → binary_at G H (active r p m f) (item_of G y) q ≡ nonterminal_at H R r p m f y.of y.edges (take (rank_of G y.of) y.nodes) q node
    unfolding binary_at
    with_passive e H p m f = ap (λ (b : Item). binary_at G H (active r p m f) b q) (item_passive G y (ne_eqb y.kind 0 e))

    -- the nonterminal rule
    module _ (w i : ℕ) (asks : w ≡ second_word g r q) (for_edge : w % 4 ≡ 1) (second : i ≡ plan_second g r q) where
      edge_node_is : node ≡ introduce (plan_first g r q) i
      edge_node_is = introduced g r q known (second_edge g r q w asks for_edge known).0 ∙ ap (introduce (plan_first g r q)) (sym second)

      edge_known : KnownEdge g r i
      edge_known = asked_known g r q w asks for_edge known i second

      abbrev edge : Edge
      edge = edge_at R.production.right.edges i

      edge_label_is : edge.label ≡ edge_label g r i
      edge_label_is = rule_label g r i edge_known

      pub filled_active : y.kind ≡ 0 → Second g r q y None
      unfolding join_at
      filled_active e =
          second_none
          (λ H p m f.
          with_active e H p m f
          ∙ ap (λ (n : PlanNode). guard (eqb r y.of) (join_at H R r p m f y.plan y.edges (take (right_of G y.of).nodes y.nodes) q n)) edge_node_is
          ∙ guard_none (eqb r y.of))

      abbrev joint : Graph → ℕ → List ℕ → List Item
      joint H m f = combine H R r q m y.edges f (attach R.production.right.nodes edge.attachment (take (rank_of G y.of) y.nodes))

      filled_items : (y.kind ≡ 0 → ⊥) → (H : Graph) (p m : ℕ) (f : List ℕ)
          → binary_at G H (active r p m f) (item_of G y) q ≡ guard (eqb (plan_first g r q) p && eqb y.of edge.label) (joint H m f)
      unfolding nonterminal_at
      filled_items e H p m f =
          with_passive e H p m f
          ∙ ap (λ (n : PlanNode). nonterminal_at H R r p m f y.of y.edges (take (rank_of G y.of) y.nodes) q n) edge_node_is

      module _ (is_passive : y.kind ≡ 0 → ⊥) where
        label : w / 4 % 64 ≡ edge_label g r i
        label = asked_label g r q w asks for_edge known i second

        pub filled_label : (w / 4 % 64 ≡ y.of → ⊥) → Second g r q y None
        filled_label e =
            second_none
            (λ H p m f.
            filled_items is_passive H p m f
            ∙ ap (λ b. guard b (joint H m f)) (and_no (eqb (plan_first g r q) p) (eqb y.of edge.label) (ne_eqb y.of edge.label (λ s. e (label ∙ sym (s ∙ edge_label_is))))))

        pub filled_made : (t : List ℕ) → w / 4 % 64 ≡ y.of → length y.nodes ≡ 8 → t ≡ padded (attach n (edge_nodes g r i) (take (rank_at g (edge_label g r i)) y.nodes)) → Second g r q y (Some t)
        filled_made t s eight t-is =
            second_some t
            (λ H p m f d.
            filled_items is_passive H p m f
            ∙ ap₂ (λ a b. guard (a && b) (joint H m f)) (eq-eqb (plan_first g r q) p d) (eq-eqb y.of edge.label same)
            ∙ ap (combine H R r q m y.edges f) map_is)
            (subst (BareFrom n) (sym t-is) (padded_bare n (attach n edge.attachment L) (omega (arith, length_attach n edge.attachment L))))
            (λ v shown.
            let (k, l, e) = shown.passive is_passive in
            let there : k < rank = omega (arith, l, ap (rank_at g) (sym s ∙ label)) in
            let x = at edge.attachment k in
            let inside : x < n = edge_node_known g r i edge_known k x there (node_there g r i edge_known k there) in (
              x,
              inside,
              ap (λ (t : List ℕ). at t x) t-is
                  ∙ at_padded (attach n edge.attachment L) x (omega (arith, inside, nodes_few g r known.grammar known.rule))
                  ∙ attach_place n edge.attachment L k x (edge_ok g r i edge_known).listed.once (omega (arith, there, edge_rank g r i edge_known)) (omega (arith, there, long)) refl inside
                  ∙ get_or-take rank y.nodes k unplaced there
                  ∙ e,
            ))
            (λ k h. subst (Into k) (sym t-is) (in_padded k (attach n edge.attachment L) (in_attach k n edge.attachment L (in_take k rank y.nodes short h))))
          where
            rank : ℕ
            rank = rank_at g (edge_label g r i)

            L : List ℕ
            L = take rank y.nodes

            short : rank ≤ length y.nodes
            short = omega (arith, eight, rank_cap g (edge_label g r i))

            long : length L ≡ rank
            long = length-take-le rank y.nodes short

            same : y.of ≡ edge.label
            same = sym s ∙ label ∙ sym edge_label_is

            ranks : rank_of G y.of ≡ rank_at g (edge_label g r i)
            ranks = ap (rank_of G) same ∙ sym (edge_ok g r i edge_known).listed.ranked ∙ edge_rank g r i edge_known

            map_is : attach R.production.right.nodes edge.attachment (take (rank_of G y.of) y.nodes) ≡ take n t
            map_is =
                ap₂ (λ (s t : ℕ). attach s edge.attachment (take t y.nodes)) size ranks
                ∙ sym (ap (take n) t-is ∙ take_padded n (attach n edge.attachment (take (rank_at g (edge_label g r i)) y.nodes)) (length_attach n edge.attachment _)
                (nodes_few g r known.grammar known.rule))

    -- the join rule
    module _ (w : ℕ) (asks : w ≡ second_word g r q) (not_leaf : plan_kind g r q ≡ 0 → ⊥) (not_edge : w % 4 ≡ 1 → ⊥) where
      abbrev d : ℕ
      d = w / 4

      join_node : node ≡ join (plan_first g r q) d
      join_node =
          let other = second_other g r q w asks not_edge in
          joined_is g r q known (plan_kind g r q) (plan_first g r q) d refl refl other.1 not_leaf other.0

      pub joined_passive : (y.kind ≡ 0 → ⊥) → Second g r q y None
      unfolding nonterminal_at
      joined_passive e =
          second_none
          (λ H p m f. with_passive e H p m f ∙ ap (λ (n : PlanNode). nonterminal_at H R r p m f y.of y.edges (take (rank_of G y.of) y.nodes) q n) join_node)

      module _ (is_active : y.kind ≡ 0) where
        abbrev both : Graph → ℕ → List ℕ → List ℕ → List Item
        both H m f k = combine H R r q m y.edges f k

        joined_items : (H : Graph) (p m : ℕ) (f : List ℕ)
            → binary_at G H (active r p m f) (item_of G y) q
            ≡ guard (eqb r y.of) (guard (eqb (plan_first g r q) p && eqb d y.plan) (both H m f (take (right_of G y.of).nodes y.nodes)))
        unfolding join_at
        joined_items H p m f =
            with_active is_active H p m f
            ∙ ap (λ (n : PlanNode). guard (eqb r y.of) (join_at H R r p m f y.plan y.edges (take (right_of G y.of).nodes y.nodes) q n)) join_node

        pub joined_rule : (y.of ≡ r → ⊥) → Second g r q y None
        joined_rule e =
            second_none
            (λ H p m f.
            joined_items H p m f
            ∙ ap (λ b. guard b (guard (eqb (plan_first g r q) p && eqb d y.plan) (both H m f (take (right_of G y.of).nodes y.nodes)))) (ne_eqb r y.of (λ s. e (sym s))))

        pub joined_second : (d ≡ y.plan → ⊥) → Second g r q y None
        joined_second e =
            second_none
            (λ H p m f.
            joined_items H p m f
            ∙ ap (λ b. guard (eqb r y.of) (guard b (both H m f (take (right_of G y.of).nodes y.nodes)))) (and_no (eqb (plan_first g r q) p) (eqb d y.plan) (ne_eqb d y.plan e))
            ∙ guard_none (eqb r y.of))

        pub joined_made : (t : List ℕ) → y.of ≡ r → d ≡ y.plan → BareFrom (rule_nodes g y.of) y.nodes → t ≡ y.nodes → Second g r q y (Some t)
        joined_made t s e past t-is =
            second_some t
            (λ H p m f c.
            joined_items H p m f
            ∙ ap (λ b. guard b (guard (eqb (plan_first g r q) p && eqb d y.plan) (both H m f (take (right_of G y.of).nodes y.nodes)))) (eq-eqb r y.of (sym s))
            ∙ ap₂ (λ a b. guard (a && b) (both H m f (take (right_of G y.of).nodes y.nodes))) (eq-eqb (plan_first g r q) p c) (eq-eqb d y.plan e)
            ∙ ap (both H m f) (ap (λ i. take (right_of G i).nodes y.nodes) s ∙ ap₂ (λ i (l : List ℕ). take i l) size (sym t-is)))
            (subst (λ i. BareFrom (rule_nodes g i) t) s (subst (BareFrom (rule_nodes g y.of)) (sym t-is) past))
            (λ v shown.
            let (i, l, _, e') = shown.active is_active in
            (i, omega (arith, l, ap (rule_nodes g) s), ap (λ (t : List ℕ). at t i) t-is ∙ e'))
            (λ k h. subst (Into k) (sym t-is) h)

-- ---- over accepted tables
module _ (g h : List ℕ) where
  abbrev G' : Grammar
  G' = grammar_of g

  abbrev H : Graph
  H = graph_of g h

  -- ---- answers
  pub gives_none : (sure : Bool) (l : List Item) (n : ℕ) → l ≡ [] → Gives g h sure l n None
  gives_none sure l n e = record { none = e; one = tt; covering = λ _. tt }

  pub gives_same : (sure : Bool) (l k : List Item) (n : ℕ) (m : Option ChartItem) → l ≡ k → Gives g h sure l n m → Gives g h sure k n m
  gives_same sure l k n m e a = subst (λ (l : List Item). Gives g h sure l n m) e a

  -- ---- a pair
  module _ (x y : ChartItem) where
    abbrev pairs : List Item
    pairs = binary_of G' H (item_of G' x) (item_of G' y)

    pub pair_not : (x.kind ≡ 0 → ⊥) → pairs ≡ []
    pair_not k = pair_passive G' H x y (ne_eqb x.kind 0 k)

    module _ (k : x.kind ≡ 0) where
      is : item_of G' x ≡ active x.of x.plan x.edges (take (right_of G' x.of).nodes x.nodes)
      is = item_active G' x (eq-eqb x.kind 0 k)

      pub pair_nowhere : Above g x.of x.plan None → pairs ≡ []
      pair_nowhere above = ap (λ (i : Item). binary_of G' H i (item_of G' y)) is ∙ binary_missing g H _ _ _ _ above (item_of G' y)

      module _ (q : ℕ) (above : Above g x.of x.plan (Some q)) where
        pair_at : pairs ≡ binary_at G' H (active x.of x.plan x.edges (take (right_of G' x.of).nodes x.nodes)) (item_of G' y) q
        pair_at = ap (λ (i : Item). binary_of G' H i (item_of G' y)) is ∙ binary_above g H _ _ _ _ q above (item_of G' y)

        pub pair_other : (plan_first g x.of q ≡ x.plan → ⊥) → pairs ≡ []
        pair_other other = pair_at ∙ first_other g x.of q above.known H _ _ _ (item_of G' y) other

        pub pair_neither : Second g x.of q y None → pairs ≡ []
        pair_neither second = pair_at ∙ second.none H _ _ _

        module _ (t : List ℕ) (second : Second g x.of q y (Some t)) (first : plan_first g x.of q ≡ x.plan) where
          abbrev joint_items : List Item
          joint_items = combine H (rule_of G' x.of) x.of q x.edges y.edges (take (rule_nodes g x.of) x.nodes) (take (rule_nodes g x.of) t)

          pair_both : joint_items ≡ pairs
          pair_both =
              let known = above.known in
              sym
              (pair_at ∙ second.some H _ _ _ first
              ∙ ap (λ i. combine H (rule_of G' x.of) x.of q x.edges y.edges (take i x.nodes) (take (rule_nodes g x.of) t))
              (right_nodes g x.of known.grammar known.rule))

          pub pair_unmade : Makes joint_items x.of q (x.edges ∪ y.edges) None → pairs ≡ []
          pair_unmade makes = sym pair_both ∙ makes.none

          -- the one item
          pub pair_made : (sure : Bool) (made : List ℕ) (n : ℕ) → Makes joint_items x.of q (x.edges ∪ y.edges) (Some made)
              → Accepted g h → Gives g h sure pairs n (Some (record { kind = 0; of = x.of; plan = q; edges = bit_or x.edges y.edges; count = n; nodes = made }))
          unfolding ◌∪◌
          pair_made sure made n makes accepted = record {
            none = tt;
            one =
                let one = makes.one in
                ap (map (λ (i : Item). chart_item i n)) (sym pair_both ∙ one.item) ∙ ap (λ (l : List ℕ). item l ∷ []) (sym one.places);
            covering = λ s. made_covering g h x.of q x.edges y.edges x.nodes t made accepted above.known makes n;
          }
            where
              item : List ℕ → ChartItem
              item l = record { kind = 0; of = x.of; plan = q; edges = bit_or x.edges y.edges; count = n; nodes = l }

  -- ---- a graph edge
  module _ (e : ℕ) (accepted : Accepted g h) (known : e < graph_edges h) where
    abbrev graph_edge : Edge
    graph_edge = edge_at H.edges e

    edge_inside : e < length H.edges
    edge_inside = omega (arith, graph_size g h)

    as_pair : (i : Item) → terminal_items G' H i e ≡ binary_of G' H i (passive graph_edge.label (single e) graph_edge.attachment)
    as_pair i = edge_pair G' H e ((graph_ok g h accepted).terminals e edge_inside) i

    module _ (m : ℕ) (added : Added 0 e m) where
      set_is : m ≡ single e
      set_is = single_added e m (omega (arith, graph_edges_few g h accepted)) added

      -- the item of the edge
      module _ (s : ℕ) (l : List ℕ) (label : s ≡ graph_label h e) (nodes : l ≡ padded graph_edge.attachment) where
        abbrev edge_item : ChartItem
        edge_item = record { kind = 1; of = s; plan = 0; edges = m; count = 0; nodes = l }

        ok : EdgeOk G' H.nodes graph_edge
        ok = (graph_ok g h accepted).side.edge e edge_inside

        few : rank_of G' graph_edge.label ≤ 8
        few = omega (arith, ((checked_grammar_ok g accepted.grammar).symbol graph_edge.label ok.known).upper)

        list_is : take (rank_of G' s) l ≡ graph_edge.attachment
        list_is =
            ap₂ (λ (k : ℕ) (l : List ℕ). take (rank_of G' k) l) (label ∙ sym (label_is g h e known)) nodes
            ∙ take_padded (rank_of G' graph_edge.label) graph_edge.attachment ok.listed.ranked few

        y_is : item_of G' edge_item ≡ passive graph_edge.label (single e) graph_edge.attachment
        y_is =
            item_passive G' edge_item refl
            ∙ ap₂ (λ (s m : ℕ). passive s m (take (rank_of G' edge_item.of) l)) (label ∙ sym (label_is g h e known)) set_is
            ∙ ap (passive graph_edge.label (single e)) list_is

        -- its open nodes are those of the edge
        pub edge_covering : Covering g h edge_item
        edge_covering = record {
          shown = λ v l p.
              let on = open_single g h e v (ap (λ i. is_open H i v) (sym set_is) ∙ p) in
              let (k, d, q) = occurs_find v graph_edge.attachment (ltb-true 0 (occurs v graph_edge.attachment) on) in
              record {
                active = λ z. absurd (omega (arith, z));
                passive = λ _. (k, omega (arith, d, edge_ranked g h e known, ap (rank_at g) label), ap (λ (l : List ℕ). at l k) nodes ∙ at_padded graph_edge.attachment k (omega (arith, d, few, ok.listed.ranked)) ∙ q);
              };
        }

        -- so a rule may take it
        edge_usable : (sure : Bool) → Usable g h sure edge_item
        edge_usable sure = record {
          into = subst (Into (graph_nodes h)) (sym nodes) (in_padded (graph_nodes h) graph_edge.attachment (λ i. place i (dec_lt i (length graph_edge.attachment))));
          bare = λ z. absurd (omega (arith, z));
          covering = λ _. edge_covering;
        }
          where
            place : (i : ℕ) → Dec (i < length graph_edge.attachment) → Placeable (graph_nodes h) (at graph_edge.attachment i)
            place i (yes d) = inr (omega (arith, ok.listed.inside (at graph_edge.attachment i) (occurs_at graph_edge.attachment i d), graph_nodes_lem g h))
            place i (no d) = inl (at_past graph_edge.attachment i (omega (arith, d)))

        pub edge_stands : StandsFor g h e edge_item
        edge_stands = record {
          usable = edge_usable;
          pairs = λ x. ap (binary_of G' H (item_of G' x)) y_is ∙ sym (as_pair (item_of G' x));
        }

  -- ---- what callers read off an answer: the records that the rule makes
  fresh_records : (l : List Item) (n a b : ℕ) → map (λ (i : Item). record_of i n a b) l ≡ map (λ (x : ChartItem). made_of x a b) (map (λ (i : Item). chart_item i n) l)
  fresh_records [] n a b = refl
  fresh_records (i ∷ l) n a b = ap (λ (rs : List Record). record_of i n a b ∷ rs) (fresh_records l n a b)

  -- none, or the one of m
  abbrev pub records_by : Option ChartItem → ℕ → ℕ → List Record
  records_by None a b = []
  records_by (Some m) a b = made_of m a b ∷ []

  given_records : (sure : Bool) (m : Option ChartItem) (l : List Item) (n a b : ℕ) → Gives g h sure l n m → map (λ (i : Item). record_of i n a b) l ≡ records_by m a b
  given_records sure None l n a b answer = ap (map (λ (i : Item). record_of i n a b)) answer.none
  given_records sure (Some m) l n a b answer = fresh_records l n a b ∙ ap (map (λ (x : ChartItem). made_of x a b)) answer.one

  module _ (sure : Bool) (m : Option ChartItem) where
    pub pair_records : (x y : Record) (j k : ℕ) → Gives g h sure (binary_of G' H (item_of G' x.item) (item_of G' y.item)) (plus x.item.count y.item.count) m
        → pair G' H x j y k ≡ records_by m j k
    unfolding pair
    pair_records x y j k answer = given_records sure m (binary_of G' H (item_of G' x.item) (item_of G' y.item)) (plus x.item.count y.item.count) j k answer

    pub terminal_records : (x : ChartItem) (n j e : ℕ) → Gives g h sure (terminal_items G' H (item_of G' x) e) n m → with_terminal G' H (item_of G' x) n j e ≡ records_by m j e
    terminal_records x n j e answer = with_terminal_lem G' H (item_of G' x) n j e ∙ given_records sure m (terminal_items G' H (item_of G' x) e) n j e answer
