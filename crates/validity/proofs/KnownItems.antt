-- The closure's rules keep to what exists: rules, plan nodes and nonterminals of the grammar, edges of the graph, and
-- a node of the graph for each open rule node or listed place, none for any other.
use mathlib.Core.Path.{◌≡◌, refl, sym, ap, ◌∙◌, subst}
use mathlib.Core.Logic.{◌⊎◌, inl, inr, ⊎_elim}
use mathlib.Core.Bool.{Bool, true, false, false≢true}
use mathlib.Core.List.{List, [], ◌∷◌}
use Prim.Native.Nat.{ℕ, zero, suc, ◌≤◌, ◌<◌}
use native.Mathlib.Omega.{arith}
use native.Mathlib.Decide.{dec_lt}
use lib.ListN.{length, take, length-take, length-map}
use lib.Seq.{get_or-take}
use lib.Dec.{eqb, ltb}
use borrow.Author.Tests.{eqb-true, eqb-false, ltb-true, ltb-false}
use Rattle.masks.specs.Masks.{member, ◌∪◌, single}
use Rattle.masks.proofs.Laws.{member_union, member_single}
use Rattle.hrg.specs.Counts.{occurs, tabulate}
use Rattle.hrg.specs.Grammars.{nonterminal, Graph, introduce, Rule, Grammar, kind_of, rank_of, rule_of, right_of, plan_of, plan_node, edge_at}
use Rattle.hrg.specs.Trees.{unplaced, at, images, padded}
use Rattle.hrg.specs.Items.{Item, active, passive, is_open_at, either, or_else, joined, keep_if, restrict, node_for, attach, Joins, LeafRule, leaf_rule, UnaryRule, terminal_rule, root_rule, BinaryRule, nonterminal_rule, join_rule}
use Rattle.hrg.specs.WellFormed.{RuleOk, GrammarOk, GraphOk}
use Rattle.hrg.proofs.Sums.{hit_self, hit_ne, occurs_at, at_tabulate, length_tabulate}
use Rattle.hrg.proofs.Degrees.{by_test}
use Rattle.hrg.proofs.Plans.{introduce_known}
use Rattle.hrg.proofs.Sides.{at_restrict, length_restrict, either_set, either_none}
use Rattle.joins.proofs.EdgeMaps.{at_padded, at_past}
use Rattle.joins.proofs.MapLaws.{at_joined}
use Rattle.joins.proofs.PlanMasks.{member_none}
use Rattle.agenda.specs.Records.{item_of}
use Rattle.agenda.specs.declared.Record.{Record}
use Rattle.agenda.proofs.Adding.{apart, or_true}
use Rattle.validity.specs.Existing.{open_place, listed_place, NoneElse, ImageOfItem, active_image, passive_image, ExistingParts, ExistingRecord, an_active, a_passive}
use Rattle.validity.proofs.OpenNodes.{open_inside, open_leaf, open_introduce, open_join, open_root}

-- ---- sets of edges: members below n only
abbrev pub EdgesOf : ℕ → ℕ → Type 0
EdgesOf n m = (e : ℕ) → member m e ≡ true → e < n

union_of : (n a b : ℕ) → EdgesOf n a → EdgesOf n b → EdgesOf n (a ∪ b)
union_of n a b f g e h = ⊎_elim (f e) (g e) (or_true (member a e) (member b e) (sym (member_union a b e) ∙ h))

single_of : (n g : ℕ) → g < n → EdgesOf n (single g)
single_of n g l e h = omega (arith, eqb-true e g (sym (member_single g e) ∙ h))

-- ---- maps and lists of nodes: each place that is used has one below n, and every other none
pub record NodesAt (n : ℕ) (used : ℕ → Bool) (f : List ℕ) : Type 0 where
  pub node : (k : ℕ) → used k ≡ true → at f k < n
  pub none : (k : ℕ) → used k ≡ false → at f k ≡ unplaced

-- each of the first k places has one
abbrev pub Lists : ℕ → ℕ → List ℕ → Type 0
Lists n k L = (i : ℕ) → i < k → at L i < n

lists_at : (n k : ℕ) (L : List ℕ) → length L ≤ k → Lists n k L → NodesAt n (λ i. ltb i k) L
lists_at n k L few h = record { node = λ i e. h i (ltb-true i k e); none = λ i e. at_past L i (omega (arith, ltb-false i k e)) }

at_lists : (n k : ℕ) (L : List ℕ) → NodesAt n (λ i. ltb i k) L → Lists n k L
at_lists n k L h i l = by_test (ltb i k) (h.node i) (λ e. absurd (omega (arith, ltb-false i k e)))

images_of : (n : ℕ) (f xs : List ℕ) → ((x : ℕ) → 0 < occurs x xs → at f x < n) → Lists n (length xs) (images f xs)
unfolding occurs
images_of n f [] h i l = absurd (omega arith)
images_of n f (x ∷ xs) h zero l = h x (omega (arith, hit_self x))
images_of n f (x ∷ xs) h (suc i) l = images_of n f xs (λ y q. h y (omega arith)) i (omega arith)

-- as many nodes as the edge has give each node of the edge one
for_of : (n : ℕ) → n ≤ unplaced → (x : ℕ) (A L : List ℕ) → Lists n (length A) L → 0 < occurs x A → node_for x A L < n
unfolding node_for occurs
for_of n few x [] L h o = absurd (omega arith)
for_of n few x (a ∷ A) [] h o = absurd (omega (arith, h 0 (omega arith)))
for_of n few x (a ∷ A) (b ∷ L) h o = go (eqb x a) refl (for_of n few x A L (λ i l. h (suc i) (omega arith)))
  where
    go : (t : Bool) → eqb x a ≡ t → (0 < occurs x A → node_for x A L < n) → either t (node_for x A L) b < n
    go true e later = h 0 (omega arith)
    go false e later = later (omega (arith, hit_ne x a (eqb-false x a e)))

attach_of : (n : ℕ) → n ≤ unplaced → (k x : ℕ) (A L : List ℕ) → x < k → Lists n (length A) L → 0 < occurs x A → at (attach k A L) x < n
unfolding attach
attach_of n few k x A L l h o = subst (λ v. v < n) (sym (at_tabulate k (λ x. node_for x A L) x l)) (for_of n few x A L h o)

-- two maps joined: each node that is open at p has an image by the first or else by the second
module _ (n : ℕ) (few : n ≤ unplaced) {G : Grammar} (R : Rule) (ok : RuleOk G R) (p : ℕ) (l : p < length R.plan) (f g : List ℕ) where
  abbrev whole : List ℕ
  whole = joined R.production.right.nodes f g

  first_of_lem : (x : ℕ) → at f x < n → or_else (at f x) (at g x) < n
  first_of_lem x h = subst (λ v. v < n) (sym (either_set (at f x) (at g x) (omega arith))) h

  second_of : (x : ℕ) → at f x ≡ unplaced → at g x < n → or_else (at f x) (at g x) < n
  second_of x e h = subst (λ v. v < n) (sym (either_none (at f x) (at g x) e)) h

  join_of : (used : ℕ → Bool) → NodesAt n used f → ((x : ℕ) → x < R.production.right.nodes → is_open_at R p x ≡ true → (used x ≡ true) ⊎ (at g x < n))
      → NodesAt n (is_open_at R p) (restrict R p whole)
  join_of used h some = record { node = node; none = λ x e. none x e (dec_lt x R.production.right.nodes) }
    where
      image : (x : ℕ) → (used x ≡ true) ⊎ (at g x < n) → or_else (at f x) (at g x) < n
      image x (inl e) = first_of_lem x (h.node x e)
      image x (inr q) = by_test (used x) (λ e. first_of_lem x (h.node x e)) (λ e. second_of x (h.none x e) q)

      node : (x : ℕ) → is_open_at R p x ≡ true → at (restrict R p whole) x < n
      node x o =
          let i = open_inside R ok p x l o in
          subst (λ v. v < n) (sym (at_restrict R ok p l whole x i ∙ ap (λ (t : Bool). keep_if t (at whole x)) o ∙ at_joined R.production.right.nodes f g x i)) (image x (some x i o))

      none : (x : ℕ) → is_open_at R p x ≡ false → Dec (x < R.production.right.nodes) → at (restrict R p whole) x ≡ unplaced
      none x o (yes i) = at_restrict R ok p l whole x i ∙ ap (λ (t : Bool). keep_if t (at whole x)) o
      none x o (no i) = at_past (restrict R p whole) x (omega (arith, length_restrict R ok p l whole))

-- the first k of eight places
take_of : (n k : ℕ) (ns : List ℕ) (used : ℕ → Bool) → k ≤ 8 → ((i : ℕ) → used i ≡ true → i < k) → NoneElse used ns → ((i : ℕ) → i < 8 → used i ≡ true → at ns i < n)
    → NodesAt n used (take k ns)
take_of n k ns used few inside else h = record { node = node; none = λ i e. none i e (dec_lt i k) }
  where
    node : (i : ℕ) → used i ≡ true → at (take k ns) i < n
    node i e = let l = inside i e in subst (λ v. v < n) (sym (get_or-take k ns i unplaced l)) (h i (omega arith) e)

    none : (i : ℕ) → used i ≡ false → Dec (i < k) → at (take k ns) i ≡ unplaced
    none i e (yes l) = get_or-take k ns i unplaced l ∙ else.none i (omega arith) e
    none i e (no l) = at_past (take k ns) i (omega (arith, length-take k ns))

-- ---- items
-- An item of rules, plan nodes, nonterminals, edges and nodes that exist, with a node for each open rule node or each
-- place of its list.
abbrev pub KnownItem : Grammar → Graph → Item → Type 0
KnownItem G H (active r p m f) = (r < length G.rules) × (p < length (plan_of G r)) × EdgesOf (length H.edges) m × NodesAt H.nodes (is_open_at (rule_of G r) p) f
KnownItem G H (passive s m L) = (s < length G.symbols) × (kind_of G s ≡ nonterminal) × EdgesOf (length H.edges) m × NodesAt H.nodes (λ k. ltb k (rank_of G s)) L

module _ (G : Grammar) (H : Graph) (ok : GrammarOk G) (good : GraphOk G H) where
  few : H.nodes ≤ unplaced
  few = good.side.node_count.upper

  pub leaf_item_is : {i : Item} → LeafRule G i → KnownItem G H i
  leaf_item_is (leaf_rule r p k l e) = (
    k,
    l,
    λ e h. absurd (apart h (member_none e)),
    record { node = λ x o. absurd (false≢true (sym (open_leaf (rule_of G r) (ok.rule r k) p x l e) ∙ o)); none = λ x o. bare x (dec_lt x (right_of G r).nodes) },
  )
    where
      bare : (x : ℕ) → Dec (x < (right_of G r).nodes) → at (tabulate (right_of G r).nodes (λ y. unplaced)) x ≡ unplaced
      bare x (yes i) = at_tabulate (right_of G r).nodes (λ y. unplaced) x i
      bare x (no i) = at_past (tabulate (right_of G r).nodes (λ y. unplaced)) x (omega (arith, length_tabulate (right_of G r).nodes (λ y. unplaced)))

  -- an item at p of one at the child c and of a map g that has a node for each node that is not open at c
  joins_item : {r p c m₁ m₂ m : ℕ} {f g h : List ℕ} → KnownItem G H (active r c m₁ f) → p < length (plan_of G r) → Joins H (rule_of G r) p m₁ m₂ f g m h
      → EdgesOf (length H.edges) m₂ → ((x : ℕ) → x < (right_of G r).nodes → is_open_at (rule_of G r) p x ≡ true → (is_open_at (rule_of G r) c x ≡ true) ⊎ (at g x < H.nodes))
      → KnownItem G H (active r p m h)
  joins_item {r} {p} {c} {m₁} {m₂} {f = f} {g = g} a l j b some = (
    a.0,
    l,
    subst (EdgesOf (length H.edges)) (sym j.union) (union_of (length H.edges) m₁ m₂ a.2 b),
    subst (NodesAt H.nodes (is_open_at (rule_of G r) p)) (sym j.map) (join_of H.nodes few (rule_of G r) (ok.rule r a.0) p l f g (is_open_at (rule_of G r) c) a.3 some),
  )

  -- where edge i is introduced, as many nodes as its label's rank are enough
  edge_map : (r p c i : ℕ) (L : List ℕ) → r < length G.rules → plan_node (plan_of G r) p ≡ introduce c i → Lists H.nodes (rank_of G (edge_at (right_of G r).edges i).label) L
      → (x : ℕ) → x < (right_of G r).nodes → is_open_at (rule_of G r) p x ≡ true
      → (is_open_at (rule_of G r) c x ≡ true) ⊎ (at (attach (right_of G r).nodes (edge_at (right_of G r).edges i).attachment L) x < H.nodes)
  edge_map r p c i L k e h x l o = ⊎_elim inl (λ on. inr (attach_of H.nodes few (right_of G r).nodes x A L l listed on)) (open_introduce (rule_of G r) (ok.rule r k) p c i x e o)
    where
      A : List ℕ
      A = (edge_at (right_of G r).edges i).attachment

      size : length A ≡ rank_of G (edge_at (right_of G r).edges i).label
      size = ((ok.rule r k).right.edge i (introduce_known (length (right_of G r).edges) (plan_of G r) (ok.rule r k).plan p c i e)).listed.ranked

      listed : Lists H.nodes (length A) L
      listed y q = h y (omega (arith, size))

  pub unary_item : {a i : Item} {k : ℕ} → UnaryRule G H a k i → KnownItem G H a → KnownItem G H i
  unary_item (terminal_rule r p c i g m₁ m f h l e w j) a =
      let E = edge_at H.edges g in
      let o = (good.side.edge g w.known).listed in
      joins_item a l j (single_of (length H.edges) g w.known)
      (edge_map r p c i E.attachment a.0 e (λ x q. o.inside (at E.attachment x) (occurs_at E.attachment x (omega (arith, o.ranked, ap (rank_of G) w.label)))))
  unary_item (root_rule r p m f e) a =
      let o = ok.rule r a.0 in
      let ext = (right_of G r).externals in
      let size = o.right.externals.ranked in
      let each = images_of H.nodes f ext (λ x q. a.3.node x (open_root (rule_of G r) o p x e q)) in (
        o.lhs_known,
        o.lhs_kind,
        a.2,
        lists_at H.nodes (rank_of G (rule_of G r).production.lhs) (images f ext) (omega (arith, size, length-map ext (λ (x : ℕ). at f x))) (λ i l. each i (omega (arith, size))),
      )

  pub binary_item : {a b i : Item} → BinaryRule G H a b i → KnownItem G H a → KnownItem G H b → KnownItem G H i
  binary_item (nonterminal_rule r p c i m₁ m₂ m f L h l e j) a b =
      joins_item a l j b.2 (edge_map r p c i L a.0 e (at_lists H.nodes (rank_of G (edge_at (right_of G r).edges i).label) L b.3))
  binary_item (join_rule r p c d m₁ m₂ m f g h l e j) a b =
      joins_item a l j b.2 (λ x i o. ⊎_elim inl (λ q. inr (b.3.node x q)) (open_join (rule_of G r) (ok.rule r a.0) p c d x e o))

  -- ---- the item of a record
  pub record_item : (n : ℕ) (x : Record) → ImageOfItem G x → ExistingRecord G H n x → KnownItem G H (item_of G x.item)
  unfolding item_of
  record_item n x (active_image k a u) (an_active e r p s q) =
      let R = rule_of G x.item.of in
      let o = ok.rule x.item.of r in
      rw e (r, p, s.edge, take_of H.nodes R.production.right.nodes x.item.nodes (open_place G x.item) o.right.node_count.upper (λ i. open_inside R o x.item.plan i p) a s.node)
  record_item n x (passive_image k a u v) (a_passive e r t s q) =
      let rank = rank_of G x.item.of in
      rw e (r, t, s.edge, take_of H.nodes rank x.item.nodes (listed_place G x.item) (omega (arith, (ok.symbol x.item.of r).upper)) (λ i. ltb-true i rank) a s.node)
  record_item n x (active_image k a u) (a_passive e r t s q) = absurd (omega arith)
  record_item n x (passive_image k a u v) (an_active e r p s q) = absurd (omega arith)

-- ---- the record of a known item
module _ (n : ℕ) (used : ℕ → Bool) (f : List ℕ) (h : NodesAt n used f) where
  pub padded_none : NoneElse used (padded f)
  padded_none = record { none = λ k l e. at_padded f k l ∙ h.none k e }

  padded_node : (k : ℕ) → k < 8 → used k ≡ true → at (padded f) k < n
  padded_node k l e = subst (λ v. v < n) (sym (at_padded f k l)) (h.node k e)

pub item_parts : (H : Graph) (used : ℕ → Bool) (x : Record) (f : List ℕ) → x.item.nodes ≡ padded f → EdgesOf (length H.edges) x.item.edges → NodesAt H.nodes used f
    → ExistingParts H used x
item_parts H used x f e a b = record { edge = a; node = λ k l u. subst (λ (ns : List ℕ). at ns k < H.nodes) (sym e) (padded_node H.nodes used f b k l u) }
