-- Two items make nothing where no key of the one is one that the other asks for.
use mathlib.Core.Path.{◌≡◌, refl, sym, ap, ap₂, ◌∙◌, subst}
use mathlib.Core.Bool.{Bool, true, false}
use mathlib.Core.List.{List, []}
use Prim.Native.Nat.{ℕ, ◌+◌, ◌%◌, ◌≤◌, ◌<◌}
use native.Mathlib.Omega.{arith}
use lib.ListN.{length, get_or, take}
use lib.Seq.{get_or-take}
use lib.Dec.{eqb}
use borrow.Author.Tests.{eqb-true, eqb-false}
use Rattle.masks.specs.Masks.{bit}
use Rattle.masks.proofs.Laws.{member_true}
use Rattle.hrg.specs.Grammars.{Graph, Grammar, introduce, join, rule_of, rank_of, right_of, plan_of, plan_node, edge_at}
use Rattle.hrg.specs.Trees.{at}
use Rattle.hrg.specs.Items.{active, passive, is_open_at, attach}
use Rattle.hrg.specs.ClosureRun.{combine, binary_of}
use Rattle.hrg.proofs.Sums.{occurs_at}
use Rattle.hrg.proofs.Plans.{introduce_known}
use Rattle.agenda.specs.Records.{item_of}
use Rattle.agenda.specs.declared.ChartItem.{ChartItem}
use Rattle.questions.specs.Layout.{rank_at, rule_count, rule_nodes, rule_edges}
use Rattle.questions.specs.Checking.{check_grammar}
use Rattle.questions.specs.Abstract.{grammar_of}
use Rattle.questions.proofs.WellFormedAccepted.{symbols_length, rank_is}
use Rattle.joins.specs.Joins.{KnownEdge, edge_nodes}
use Rattle.joins.proofs.Known.{plan_ok, right_nodes, nodes_few}
use Rattle.joins.proofs.EdgeMaps.{edge_ok}
use Rattle.rules.specs.Wants.{want_of}
use Rattle.rules.proofs.RuleItems.{item_active, item_passive, pair_passive}
use Rattle.rules.proofs.Meeting.{rule, label_few, want_label, few, want_first, want_second}
use Rattle.keys.specs.Pivots.{position_of, node_of, EdgePivot, JoinPivot}
use Rattle.keys.specs.Keys.{bucket_of, image_of, uses_in, KeyTable, keys_of, query_of, AllPlaced}
use Rattle.keys.proofs.Differing.{differ_none, attach_at, edges_none, joins_none}
use Rattle.keys.proofs.KeyLaws.{bucket_positive, listed_keys, edge_differ, join_node, join_differ, edge_keys, join_keys, edge_query, join_query, passive_keys, passive_query}

-- no rule makes anything of x and y, in either order
pub record Unjoined (G : Grammar) (H : Graph) (x y : ChartItem) : Type 0 where
  pub forth : binary_of G H (item_of G x) (item_of G y) ≡ []
  pub back : binary_of G H (item_of G y) (item_of G x) ≡ []

module _ (g t : List ℕ) (checked : check_grammar g ≡ true) (K : KeyTable g t) (H : Graph) where
  abbrev G : Grammar
  G = grammar_of g

  abbrev pivot_at : ℕ → ℕ → ℕ
  pivot_at = K.pivot

  abbrev pivot_for : ChartItem → ℕ
  pivot_for x = pivot_at x.of x.plan

  -- ---- an active item and a passive one
  -- tag: the one that the active item's key and the passive one's have in common
  module _ (tag r p m m' s : ℕ) (f L : List ℕ) (tagged : 0 < tag % 128)
      (placed : (v : ℕ) → is_open_at (rule_of G r) p v ≡ true → at f v < 64)
      (listed : (k : ℕ) → k < rank_of G s → at L k < 64)
      (apart : (i : ℕ) → i < 5 → want_of G r p ≡ s → s < 64 → bucket_of tag s (position_of (pivot_at r p)) (image_of (pivot_at r p) f) ≡ get_or (listed_keys (uses_in t s) tag s L) i 0 → ⊥) where
    pub edge_keyless : binary_of G H (active r p m (take (right_of G r).nodes f)) (passive s m' (take (rank_of G s) L)) ≡ []
    edge_keyless = edges_none G H r p m _ s m' _ (λ q c i l node e label. at_edge q c i l node e label)
      where
        at_edge : (q c i : ℕ) → q < length (plan_of G r) → plan_node (plan_of G r) q ≡ introduce c i → c ≡ p → s ≡ (edge_at (right_of G r).edges i).label
            → combine H (rule_of G r) r q m m' (take (right_of G r).nodes f) (attach (right_of G r).nodes (edge_at (right_of G r).edges i).attachment (take (rank_of G s) L)) ≡ []
        at_edge q c i l node e label =
            let d : r < rule_count g = rule g checked r q l in
            let known : KnownEdge g r i = record { grammar = checked; rule = d; edge = introduce_known (rule_edges g r) (plan_of G r) (plan_ok g r checked d) q c i node } in
            let ok = edge_ok g r i known in
            let nodes : (right_of G r).nodes ≡ rule_nodes g r = right_nodes g r checked d in
            let small : s < 64 = omega (arith, label, label_few g checked r q l c i node) in
            let wanted : want_of G r p ≡ s = ap (want_of G r) (sym e) ∙ want_label g checked r q l c i node ∙ sym label in
            let rank : rank_of G s ≡ rank_at g s = rank_is g s (omega (arith, ok.known, label, symbols_length g)) in
            let size : length (edge_nodes g r i) ≡ rank_of G s = ok.listed.ranked ∙ ap (rank_of G) (sym label) in
            let inside : (k : ℕ) → k < length (edge_nodes g r i) → at (edge_nodes g r i) k < rule_nodes g r
            = λ k h. ok.listed.inside (at (edge_nodes g r i) k) (occurs_at (edge_nodes g r i) k h) in
            let pivot : EdgePivot (rule_of G r) p (edge_nodes g r i) (pivot_at r p) = subst (λ p. EdgePivot (rule_of G r) p (edge_nodes g r i) (pivot_at r p)) e (K.taken.edge r q c i l node) in
            let w = pivot_at r p in
            let four : length (edge_nodes g r i) ≤ 4 = omega (arith, size, rank) in
            let used : bit (uses_in t s) (position_of w) ≡ 1 = member_true (uses_in t s) (position_of w) (K.taken.used r p s wanted small) in
            let x = edge_differ (uses_in t s) tag s w (rule_of G r) p (edge_nodes g r i) f L tagged four (λ k h. omega (arith, inside k h, nodes_few g r checked d)) pivot used (λ j h z. apart j h wanted small z) in
            let low : node_of w < (right_of G r).nodes = omega (arith, x.node, inside (position_of w) x.position, nodes) in
            let own : at (take (right_of G r).nodes f) (node_of w) ≡ at f (node_of w) = get_or-take (right_of G r).nodes f (node_of w) 64 low in
            let other : at (attach (right_of G r).nodes (edge_nodes g r i) (take (rank_of G s) L)) (node_of w) ≡ at L (position_of w) =
            ap (at (attach (right_of G r).nodes (edge_nodes g r i) (take (rank_of G s) L))) x.node
            ∙ attach_at (right_of G r).nodes (edge_nodes g r i) (take (rank_of G s) L) (position_of w) x.position (omega (arith, x.node, low)) ok.listed.once
            ∙ get_or-take (rank_of G s) L (position_of w) 64 (omega (arith, x.position, size)) in
            differ_none H (rule_of G r) r q m m' _ _ (node_of w) low
            (omega (arith, own, placed (node_of w) x.opened))
            (omega (arith, other, listed (position_of w) (omega (arith, x.position, size))))
            (λ z. x.differ (sym own ∙ z ∙ other))

  -- ---- two active items
  -- p and p' are the children of one join
  record Siblings (r p p' : ℕ) : Type 0 where
    low : p < 16
    low' : p' < 16
    wanted : want_of G r p ≡ 64 + p'
    wanted' : want_of G r p' ≡ 64 + p
    pivot : JoinPivot (rule_of G r) p p' (pivot_at r p) (pivot_at r p')

  siblings : (r q a b : ℕ) → q < length (plan_of G r) → plan_node (plan_of G r) q ≡ join a b → Siblings r a b
  siblings r q a b l node = record {
    low = (few g checked r q l a b node).0;
    low' = (few g checked r q l a b node).1;
    wanted = want_second g checked r q l a b node;
    wanted' = want_first g checked r q l a b node;
    pivot = K.taken.join r q a b l node;
  }

  turned : (r p p' : ℕ) → Siblings r p p' → Siblings r p' p
  turned r p p' s = record {
    low = s.low';
    low' = s.low;
    wanted = s.wanted';
    wanted' = s.wanted;
    pivot = record {
      same = sym s.pivot.same;
      known = λ h. let e = s.pivot.same in omega (arith, s.pivot.known (omega arith));
      first = λ h. ap (is_open_at (rule_of G r) p') (sym s.pivot.same) ∙ s.pivot.second (omega (arith, s.pivot.same));
      second = λ h. ap (is_open_at (rule_of G r) p) (sym s.pivot.same) ∙ s.pivot.first (omega (arith, s.pivot.same));
    };
  }

  module _ (r p p' q m m' : ℕ) (f k : List ℕ) (s : Siblings r p p')
      (placed : (v : ℕ) → is_open_at (rule_of G r) p v ≡ true → at f v < 64)
      (placed' : (v : ℕ) → is_open_at (rule_of G r) p' v ≡ true → at k v < 64)
      (apart : image_of (pivot_at r p) f ≡ image_of (pivot_at r p') k → ⊥) where
    abbrev n : ℕ
    n = (right_of G r).nodes

    abbrev v : ℕ
    v = node_of (pivot_at r p)

    v_few : v < 8
    v_few = join_node (rule_of G r) p p' _ _ f k s.pivot apart

    v_known : v < n
    v_known = s.pivot.known v_few

    here : at (take n f) v < 64
    here = omega (arith, get_or-take n f v 64 v_known, placed v (s.pivot.first v_few))

    there : at (take n k) v < 64
    there = omega (arith, get_or-take n k v 64 v_known, placed' v (s.pivot.second v_few))

    differ : at (take n f) v ≡ at (take n k) v → ⊥
    differ z =
        join_differ (rule_of G r) p p' _ _ f k s.pivot apart
        (sym (get_or-take n f v 64 v_known) ∙ z ∙ get_or-take n k v 64 v_known)

    forth_none : combine H (rule_of G r) r q m m' (take n f) (take n k) ≡ []
    forth_none = differ_none H (rule_of G r) r q m m' _ _ v v_known here there differ

    back_none : combine H (rule_of G r) r q m' m (take n k) (take n f) ≡ []
    back_none = differ_none H (rule_of G r) r q m' m _ _ v v_known there here (λ z. differ (sym z))

  -- ---- two items
  module _ (x y : ChartItem) (ok : AllPlaced G x) (ok' : AllPlaced G y)
      (apart : (i i' : ℕ) → i < 5 → i' < 5 → 0 < get_or (query_of t x) i 0 → get_or (query_of t x) i 0 ≡ get_or (keys_of t y) i' 0 → ⊥) where
    with_passive : eqb x.kind 0 ≡ true → eqb y.kind 0 ≡ false → Unjoined G H x y
    with_passive a b = record {
      forth =
          ap₂ (binary_of G H) (item_active G x a) (item_passive G y b)
          ∙ edge_keyless 1 x.of x.plan _ _ y.of x.nodes y.nodes (omega arith) (ok.active (eqb-true x.kind 0 a)) (ok'.passive (eqb-false y.kind 0 b))
          (λ i h e l z. met i h e l z);
      back = pair_passive G H y x b;
    }
      where
        met : (i : ℕ) → i < 5 → want_of G x.of x.plan ≡ y.of → y.of < 64 → bucket_of 1 y.of (position_of (pivot_for x)) (image_of (pivot_for x) x.nodes) ≡ get_or (listed_keys (uses_in t y.of) 1 y.of y.nodes) i 0 → ⊥
        met i h e l z =
            let q = edge_query g t K x a (omega arith) ∙ ap (λ s. bucket_of 1 s (position_of (pivot_for x)) (image_of (pivot_for x) x.nodes)) e in
            apart 0 i (omega arith) h
            (omega (arith, q, bucket_positive 1 y.of (position_of (pivot_for x)) (image_of (pivot_for x) x.nodes)))
            (q ∙ z ∙ ap (λ (l : List ℕ). get_or l i 0) (sym (passive_keys g t K y b)))

    passive_with : eqb x.kind 0 ≡ false → eqb y.kind 0 ≡ true → Unjoined G H x y
    passive_with a b = record {
      forth = pair_passive G H x y a;
      back =
          ap₂ (binary_of G H) (item_active G y b) (item_passive G x a)
          ∙ edge_keyless 2 y.of y.plan _ _ x.of y.nodes x.nodes (omega arith) (ok'.active (eqb-true y.kind 0 b)) (ok.passive (eqb-false x.kind 0 a))
          (λ i h e l z. met i h e l z);
    }
      where
        met : (i : ℕ) → i < 5 → want_of G y.of y.plan ≡ x.of → x.of < 64 → bucket_of 2 x.of (position_of (pivot_for y)) (image_of (pivot_for y) y.nodes) ≡ get_or (listed_keys (uses_in t x.of) 2 x.of x.nodes) i 0 → ⊥
        met i h e l z =
            let q : get_or (query_of t x) i 0 ≡ get_or (listed_keys (uses_in t x.of) 2 x.of x.nodes) i 0 = ap (λ (l : List ℕ). get_or l i 0) (passive_query g t K x a) in
            let k = edge_keys g t K y b (omega arith) ∙ ap (λ s. bucket_of 2 s (position_of (pivot_for y)) (image_of (pivot_for y) y.nodes)) e in
            apart i 0 h (omega arith) (omega (arith, q, z, bucket_positive 2 x.of (position_of (pivot_for y)) (image_of (pivot_for y) y.nodes))) (q ∙ sym z ∙ sym k)

    module _ (a : eqb x.kind 0 ≡ true) (b : eqb y.kind 0 ≡ true) where
      -- the keys of two children of a join
      met_join : x.of ≡ y.of → Siblings x.of x.plan y.plan → image_of (pivot_at x.of x.plan) x.nodes ≡ image_of (pivot_at x.of y.plan) y.nodes → ⊥
      met_join e s z =
          let low = s.low in
          let low' = s.low' in
          let wanted = s.wanted in
          let wanted' : want_of G y.of y.plan ≡ 64 + x.plan = ap (λ r. want_of G r y.plan) (sym e) ∙ s.wanted' in
          let child : want_of G x.of x.plan % 64 ≡ y.plan = omega arith in
          let q = join_query g t K x a (omega arith) (λ e. omega arith) in
          let k = join_keys g t K y b (omega arith) (λ e. omega arith) in
          let same : image_of (pivot_at x.of x.plan) x.nodes ≡ image_of (pivot_at y.of y.plan) y.nodes = z ∙ ap (λ r. image_of (pivot_at r y.plan) y.nodes) e in
          apart 0 0 (omega arith) (omega arith)
          (omega (arith, q, bucket_positive 3 x.of (want_of G x.of x.plan % 64) (image_of (pivot_at x.of x.plan) x.nodes)))
          (q ∙ ap₂ (λ p a. bucket_of 3 x.of p a) child same ∙ ap (λ r. bucket_of 3 r y.plan (image_of (pivot_at y.of y.plan) y.nodes)) e ∙ sym k)

      placed : (v : ℕ) → is_open_at (rule_of G x.of) x.plan v ≡ true → at x.nodes v < 64
      placed = ok.active (eqb-true x.kind 0 a)

      placed' : x.of ≡ y.of → (v : ℕ) → is_open_at (rule_of G x.of) y.plan v ≡ true → at y.nodes v < 64
      placed' e v o = ok'.active (eqb-true y.kind 0 b) v (ap (λ r. is_open_at (rule_of G r) y.plan v) (sym e) ∙ o)

      with_active : Unjoined G H x y
      with_active = record {
        forth =
            ap₂ (binary_of G H) (item_active G x a) (item_active G y b)
            ∙ joins_none G H x.of x.plan _ _ y.of y.plan _ _ (λ q c d l node e f r. first q (turn q c d l node e f) r);
        back =
            ap₂ (binary_of G H) (item_active G y b) (item_active G x a)
            ∙ joins_none G H y.of y.plan _ _ x.of x.plan _ _ (λ q c d l node e f r. second q (turn_back q c d (subst (λ r. q < length (plan_of G r)) r l) (subst (λ r. plan_node (plan_of G r) q ≡ join c d) r node) e f) r);
      }
        where
          turn : (q c d : ℕ) → q < length (plan_of G x.of) → plan_node (plan_of G x.of) q ≡ join c d → c ≡ x.plan → d ≡ y.plan → Siblings x.of x.plan y.plan
          turn q c d l node e f = subst (λ c. Siblings x.of c y.plan) e (subst (λ d. Siblings x.of c d) f (siblings x.of q c d l node))

          turn_back : (q c d : ℕ) → q < length (plan_of G x.of) → plan_node (plan_of G x.of) q ≡ join c d → c ≡ y.plan → d ≡ x.plan → Siblings x.of x.plan y.plan
          turn_back q c d l node e f = turned x.of y.plan x.plan (subst (λ c. Siblings x.of c x.plan) e (subst (λ d. Siblings x.of c d) f (siblings x.of q c d l node)))

          first : (q : ℕ) → Siblings x.of x.plan y.plan → x.of ≡ y.of
              → combine H (rule_of G x.of) x.of q x.edges y.edges (take (right_of G x.of).nodes x.nodes) (take (right_of G y.of).nodes y.nodes) ≡ []
          first q s e =
              ap (λ r. combine H (rule_of G x.of) x.of q x.edges y.edges (take (right_of G x.of).nodes x.nodes) (take (right_of G r).nodes y.nodes)) (sym e)
              ∙ forth_none x.of x.plan y.plan q x.edges y.edges x.nodes y.nodes s placed (placed' e) (met_join e s)

          second : (q : ℕ) → Siblings x.of x.plan y.plan → y.of ≡ x.of
              → combine H (rule_of G y.of) y.of q y.edges x.edges (take (right_of G y.of).nodes y.nodes) (take (right_of G x.of).nodes x.nodes) ≡ []
          second q s e =
              ap (λ r. combine H (rule_of G r) r q y.edges x.edges (take (right_of G r).nodes y.nodes) (take (right_of G x.of).nodes x.nodes)) e
              ∙ back_none x.of x.plan y.plan q x.edges y.edges x.nodes y.nodes s placed (placed' (sym e)) (met_join (sym e) s)

    -- x asks for no key that y has
    pub keyless : Unjoined G H x y
    keyless = go (eqb x.kind 0) (eqb y.kind 0) refl refl
      where
        go : (a b : Bool) → eqb x.kind 0 ≡ a → eqb y.kind 0 ≡ b → Unjoined G H x y
        go true true a b = with_active a b
        go true false a b = with_passive a b
        go false true a b = passive_with a b
        go false false a b = record { forth = pair_passive G H x y a; back = pair_passive G H y x b }
