-- What a record makes with graph edges and handled records is exactly what the closure rules make of it.
use mathlib.Core.Path.{◌≡◌, refl, sym, subst}
use mathlib.Core.Logic.{◌⊎◌, inl, inr}
use mathlib.Core.Bool.{Bool, true, false, ◌&&◌}
use mathlib.Core.List.Memᴰ.{append_cases as in_append}
use mathlib.Core.List.Memᴰ.{append_left as in_left}
use mathlib.Core.List.Memᴰ.{append_right as in_right}
use mathlib.Core.List.Memᴰ.{eq_of_singleton as of_one}
use mathlib.Core.List.Memᴰ.{head as here}
use mathlib.Core.List.Memᴰ.{map as in_map}
use mathlib.Core.List.Memᴰ.{not-nil as in_nil}
use mathlib.Core.List.Memᴰ.{of_map}
use mathlib.Core.List.{List, ◌++◌, Memᴰ as In}
use Prim.Native.Nat.{ℕ, zero, suc, ◌<◌}
use native.Mathlib.Nat.{not-suc-le-zero}
use native.Mathlib.Decide.{dec_lt}
use native.Mathlib.Omega.{arith}
use lib.ListN.{length}
use lib.Dec.{T, eqb, eqb→eq}
use Rattle.masks.specs.Masks.{single}
use Rattle.hrg.specs.Grammars.{Edge, Graph, PlanNode, leaf, introduce, join, Grammar, cost, kind_of, rule_of, lhs_of, right_of, plan_of, plan_node, edge_at}
use Rattle.hrg.specs.Trees.{images, FitsEdge}
use Rattle.hrg.specs.Items.{Item, active, passive, attach, Joins, LeafRule, UnaryRule, terminal_rule, root_rule, BinaryRule}
use Rattle.hrg.specs.AgendaRun.{Conclusion}
use Rattle.hrg.specs.ClosureRun.{each_to, is_terminal, with_edge, root_at, leaves, binary_of}
use Rattle.hrg.proofs.ClosureRun.{of_and, eq_test, in_guard, of_guard, in_to, of_to, in_combine, of_combine, terminal_test, leaf_in, in_leaf, binary_in, in_binary}
use Rattle.agenda.specs.Records.{record_of, item_of, is_handled, plus}
use Rattle.agenda.specs.Consequences.{gather, record_in, at_root, terminal_at, with_terminal, pair, with_partner, consequences, leaf_records}
use Rattle.agenda.specs.declared.Record.{Record}
use Rattle.agenda.proofs.Records.{to_test, eqb_same}

-- The terminal rule of the closure, with graph edge g.
pub data TerminalRule (G : Grammar) (H : Graph) (g : ℕ) : Item → Item → Type 0 where
  terminal_with : (r p c i m₁ m : ℕ) (f h : List ℕ) → p < length (plan_of G r) → plan_node (plan_of G r) p ≡ introduce c i
      → FitsEdge G H (edge_at (right_of G r).edges i).label (edge_at H.edges g).attachment g
      → Joins H (rule_of G r) p m₁ (single g) f (attach (right_of G r).nodes (edge_at (right_of G r).edges i).attachment (edge_at H.edges g).attachment) m h
      → TerminalRule G H g (active r c m₁ f) (active r p m h)

-- The record at j makes item i with count n and partners a and b.
pub data Consequence (G : Grammar) (H : Graph) (rs : List Record) (j : ℕ) : Item → (n a b : ℕ) → Type 0 where
  from_root : {k s m : ℕ} {L : List ℕ} → UnaryRule G H (item_of G (record_in rs j).item) k (passive s m L) → Consequence G H rs j (passive s m L) (plus (record_in rs j).item.count k) j 0
  from_edge : {i : Item} {g : ℕ} → g < length H.edges → TerminalRule G H g (item_of G (record_in rs j).item) i → Consequence G H rs j i (record_in rs j).item.count j g
  from_first : {i : Item} {k : ℕ} → k < length rs → is_handled (record_in rs k) ≡ true → BinaryRule G H (item_of G (record_in rs j).item) (item_of G (record_in rs k).item) i
      → Consequence G H rs j i (plus (record_in rs j).item.count (record_in rs k).item.count) j k
  from_second : {i : Item} {k : ℕ} → k < length rs → is_handled (record_in rs k) ≡ true → BinaryRule G H (item_of G (record_in rs k).item) (item_of G (record_in rs j).item) i
      → Consequence G H rs j i (plus (record_in rs k).item.count (record_in rs j).item.count) k j

-- Record x is such a one.
pub record MadeBy (G : Grammar) (H : Graph) (rs : List Record) (j : ℕ) (x : Record) : Type 0 where
  pub item : Item
  pub count : ℕ
  pub first : ℕ
  pub second : ℕ
  pub by : Consequence G H rs j item count first second
  pub is : x ≡ record_of item count first second

-- ---- lists
module _ {A : Type 0} {i : A} where
  in_gather : (n : ℕ) (f : ℕ → List A) (k : ℕ) → k < n → In i (f k) → In i (gather n f)
  unfolding gather
  in_gather zero f k l m = absurd (not-suc-le-zero l)
  in_gather (suc n) f k l m = go (dec_lt k n) (λ l. in_gather n f k l m)
    where
      go : Dec (k < n) → (k < n → In i (gather n f)) → In i (gather n f ++ f n)
      go (yes l) below = in_left (f n) (below l)
      go (no g) below = in_right (gather n f) (rw (let e : n ≡ k = omega arith in e) m)

  of_gather : (n : ℕ) (f : ℕ → List A) → In i (gather n f) → (k : ℕ) × (k < n) × In i (f k)
  unfolding gather
  of_gather zero f m = absurd (in_nil m)
  of_gather (suc n) f m = go (in_append (gather n f) m) (of_gather n f)
    where
      go : In i (gather n f) ⊎ In i (f n) → (In i (gather n f) → (k : ℕ) × (k < n) × In i (f k)) → (k : ℕ) × (k < suc n) × In i (f k)
      go (inl m) below = let t = below m in (t.0, omega (arith, t.1), t.2)
      go (inr m) below = (n, omega arith, m)

abbrev edge_of : Grammar → ℕ → ℕ → Edge
edge_of G r i = edge_at (right_of G r).edges i

abbrev map_for : Grammar → Graph → ℕ → ℕ → ℕ → List ℕ
map_for G H r i g = attach (right_of G r).nodes (edge_of G r i).attachment (edge_at H.edges g).attachment

-- ---- the terminal rule with one graph edge
module _ (G : Grammar) (H : Graph) where
  pub terminal_unary : {g : ℕ} {a i : Item} → TerminalRule G H g a i → UnaryRule G H a 0 i
  terminal_unary {g} (terminal_with r p c i m₁ m f h l e w j) = terminal_rule r p c i g m₁ m f h l e w j

  terminal_in : {g : ℕ} {a i : Item} (n j : ℕ) → TerminalRule G H g a i → In (record_of i n j g) (with_terminal G H a n j g)
  unfolding with_terminal terminal_at with_edge
  terminal_in {g} n j (terminal_with r p c i m₁ m f h l e w v) =
      in_map (λ (i : Item). record_of i n j g) {a = active r p m h} (in_to (length (plan_of G r)) (λ q. terminal_at G H r c m₁ f g q (plan_node (plan_of G r) q)) p l (rw e
      (in_guard (eqb c c && is_terminal (kind_of G (edge_of G r i).label)) (rw (eqb_same c, w.kind) tt)
      (in_guard (eqb (edge_at H.edges g).label (edge_of G r i).label) (eq_test w.label)
      (in_combine H (rule_of G r) r p m₁ (single g) f (map_for G H r i g) v)))))

  of_terminal : {a : Item} (r p m : ℕ) (f : List ℕ) (g q : ℕ) (node : PlanNode) → g < length H.edges → q < length (plan_of G r) → plan_node (plan_of G r) q ≡ node
      → In a (terminal_at G H r p m f g q node) → TerminalRule G H g (active r p m f) a
  unfolding terminal_at with_edge
  of_terminal r p m f g q leaf b l e k = absurd (in_nil k)
  of_terminal r p m f g q (introduce c i) b l e k =
      let a = of_guard (eqb c p && is_terminal (kind_of G (edge_of G r i).label)) k in
      let t = of_and (eqb c p) _ a.0 in
      let d = of_guard (eqb (edge_at H.edges g).label (edge_of G r i).label) a.1 in
      of_combine H (rule_of G r) r q m (single g) f (map_for G H r i g) (TerminalRule G H g (active r p m f))
      (λ m' h j. subst (λ (z : ℕ). TerminalRule G H g (active r z m f) (active r q m' h)) (eqb→eq c p t.0) (terminal_with r q c i m m' f h l e (record { kind = terminal_test _ t.1; known = b; label = eqb→eq _ _ d.0; attachment = refl }) j))
      d.1
  of_terminal r p m f g q (join a b) u l e k = absurd (in_nil k)

  pub in_terminal : {x : Record} (n j g : ℕ) (a : Item) → g < length H.edges → In x (with_terminal G H a n j g) → (i : Item) × TerminalRule G H g a i × (x ≡ record_of i n j g)
  unfolding with_terminal
  in_terminal n j g (active r p m f) b k =
      let t = of_map (λ (i : Item). record_of i n j g) (each_to (length (plan_of G r)) (λ q. terminal_at G H r p m f g q (plan_node (plan_of G r) q))) k in
      let u = of_to (length (plan_of G r)) (λ q. terminal_at G H r p m f g q (plan_node (plan_of G r) q)) t.1 in
      (t.0, of_terminal r p m f g u.0 (plan_node (plan_of G r) u.0) b u.1 refl u.2, sym t.2)
  in_terminal n j g (passive s m L) b k = absurd (in_nil k)

  -- ---- the root rule
  root_in : {a : Item} {k s m : ℕ} {L : List ℕ} (n j : ℕ) → UnaryRule G H a k (passive s m L) → In (record_of (passive s m L) (plus n k) j 0) (at_root G a n j)
  unfolding at_root root_at
  root_in n j (root_rule r p m f e) = in_map (λ (c : Conclusion Item). record_of c.item (plus n c.constant) j 0) (in_guard (eqb (suc p) (length (plan_of G r))) (eq_test e) (here refl))

  pub in_root : {x : Record} (n j : ℕ) (a : Item) → In x (at_root G a n j)
      → (k s m : ℕ) × (L : List ℕ) × UnaryRule G H a k (passive s m L) × (x ≡ record_of (passive s m L) (plus n k) j 0)
  unfolding at_root root_at
  in_root n j (active r p m f) k =
      let t = of_map (λ (c : Conclusion Item). record_of c.item (plus n c.constant) j 0) (root_at (rule_of G r) p m f) k in
      let u = of_guard (eqb (suc p) (length (plan_of G r))) t.1 in
      (cost (rule_of G r), lhs_of G r, m, images f (right_of G r).externals, root_rule r p m f (eqb→eq _ _ u.0), rw (of_one u.1) at (sym t.2))
  in_root n j (passive s m L) k = absurd (in_nil k)

  -- ---- the rules of two premises
  pub in_pair : {z : Record} (x y : Record) (j k : ℕ) → In z (pair G H x j y k)
      → (i : Item) × BinaryRule G H (item_of G x.item) (item_of G y.item) i × (z ≡ record_of i (plus x.item.count y.item.count) j k)
  unfolding pair
  in_pair x y j k m =
      let t = of_map (λ (i : Item). record_of i (plus x.item.count y.item.count) j k) (binary_of G H (item_of G x.item) (item_of G y.item)) m in
      (t.0, in_binary G H (item_of G x.item) (item_of G y.item) t.1, sym t.2)

  pair_in : {i : Item} (x y : Record) (j k : ℕ) → BinaryRule G H (item_of G x.item) (item_of G y.item) i → In (record_of i (plus x.item.count y.item.count) j k) (pair G H x j y k)
  unfolding pair
  pair_in x y j k b = in_map (λ (i : Item). record_of i (plus x.item.count y.item.count) j k) (binary_in G H b)

  -- ---- all that a record makes
  module _ (rs : List Record) (j : ℕ) where
    abbrev roots : List Record
    roots = at_root G (item_of G (record_in rs j).item) (record_in rs j).item.count j

    abbrev with_edges : List Record
    with_edges = gather (length H.edges) (λ e. with_terminal G H (item_of G (record_in rs j).item) (record_in rs j).item.count j e)

    partner_in : {x : Record} (k : ℕ) → k < length rs → is_handled (record_in rs k) ≡ true
        → In x (pair G H (record_in rs j) j (record_in rs k) k ++ pair G H (record_in rs k) k (record_in rs j) j) → In x (consequences G H rs j)
    unfolding consequences with_partner
    partner_in k l h m = in_right (roots ++ with_edges) (in_gather (length rs) (λ k. with_partner G H rs j k) k l (in_guard (is_handled (record_in rs k)) (to_test h) m))

    pub consequence_in : {i : Item} {n a b : ℕ} → Consequence G H rs j i n a b → In (record_of i n a b) (consequences G H rs j)
    unfolding consequences
    consequence_in (from_root u) = in_left _ (in_left with_edges (root_in _ j u))
    consequence_in (from_edge {g = g} l t) = in_left _ (in_right roots (in_gather (length H.edges) (λ e. with_terminal G H (item_of G (record_in rs j).item) (record_in rs j).item.count j e) g l (terminal_in _ j t)))
    consequence_in (from_first {k = k} l h b) = partner_in k l h (in_left (pair G H (record_in rs k) k (record_in rs j) j) (pair_in (record_in rs j) (record_in rs k) j k b))
    consequence_in (from_second {k = k} l h b) = partner_in k l h (in_right (pair G H (record_in rs j) j (record_in rs k) k) (pair_in (record_in rs k) (record_in rs j) k j b))

    pub in_consequence : (x : Record) → In x (consequences G H rs j) → MadeBy G H rs j x
    unfolding consequences with_partner
    in_consequence x m = go (in_append (roots ++ with_edges) m)
      where
        rest : List Record
        rest = gather (length rs) (λ k. with_partner G H rs j k)

        by_root_is : In x roots → MadeBy G H rs j x
        by_root_is m = let t = in_root (record_in rs j).item.count j (item_of G (record_in rs j).item) m in
            record { item = passive t.1 t.2 t.3; count = plus (record_in rs j).item.count t.0; first = j; second = 0; by = from_root t.4; is = t.5 }

        by_edge : In x with_edges → MadeBy G H rs j x
        by_edge m =
            let t = of_gather (length H.edges) (λ e. with_terminal G H (item_of G (record_in rs j).item) (record_in rs j).item.count j e) m in
            let u = in_terminal (record_in rs j).item.count j t.0 (item_of G (record_in rs j).item) t.1 t.2 in
            record { item = u.0; count = (record_in rs j).item.count; first = j; second = t.0; by = from_edge t.1 u.1; is = u.2 }

        by_pair : (k : ℕ) → k < length rs → is_handled (record_in rs k) ≡ true → In x (pair G H (record_in rs j) j (record_in rs k) k) ⊎ In x (pair G H (record_in rs k) k (record_in rs j) j) → MadeBy G H rs j x
        by_pair k l h (inl m) =
            let t = in_pair (record_in rs j) (record_in rs k) j k m in
            record { item = t.0; count = plus (record_in rs j).item.count (record_in rs k).item.count; first = j; second = k; by = from_first l h t.1; is = t.2 }
        by_pair k l h (inr m) =
            let t = in_pair (record_in rs k) (record_in rs j) k j m in
            record { item = t.0; count = plus (record_in rs k).item.count (record_in rs j).item.count; first = k; second = j; by = from_second l h t.1; is = t.2 }

        of_test : (b : Bool) → T b → b ≡ true
        of_test true t = refl
        of_test false t = absurd t

        by_partner : In x rest → MadeBy G H rs j x
        by_partner m =
            let t = of_gather (length rs) (λ k. with_partner G H rs j k) m in
            let u = of_guard (is_handled (record_in rs t.0)) t.2 in
            by_pair t.0 t.1 (of_test _ u.0) (in_append (pair G H (record_in rs j) j (record_in rs t.0) t.0) u.1)

        next : In x roots ⊎ In x with_edges → MadeBy G H rs j x
        next (inl m) = by_root_is m
        next (inr m) = by_edge m

        go : In x (roots ++ with_edges) ⊎ In x rest → MadeBy G H rs j x
        go (inl m) = next (in_append roots m)
        go (inr m) = by_partner m

  pub leaf_record_in : {i : Item} → LeafRule G i → In (record_of i 0 0 0) (leaf_records G)
  unfolding leaf_records
  leaf_record_in l = in_map (λ (i : Item). record_of i 0 0 0) (leaf_in G l)

  pub in_leaf_record : (x : Record) → In x (leaf_records G) → (i : Item) × LeafRule G i × (x ≡ record_of i 0 0 0)
  unfolding leaf_records
  in_leaf_record x m = let t = of_map (λ (i : Item). record_of i 0 0 0) (leaves G) m in (t.0, in_leaf G t.1, sym t.2)
