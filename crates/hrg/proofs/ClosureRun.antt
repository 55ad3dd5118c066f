-- The functions of specs/ClosureRun give just what the closure rules say, of every grammar and graph.
use mathlib.Core.Path.{◌≡◌, refl, sym, subst, subst₂}
use mathlib.Core.Logic.{◌⊎◌, inl, inr}
use mathlib.Core.Bool.{Bool, true, false, not, ◌&&◌, ◌||◌}
use mathlib.Core.List.Memᴰ.{append_cases as in_append}
use mathlib.Core.List.Memᴰ.{append_left as in_left}
use mathlib.Core.List.Memᴰ.{append_right as in_right}
use mathlib.Core.List.Memᴰ.{eq_of_singleton as of_one}
use mathlib.Core.List.Memᴰ.{head as here}
use mathlib.Core.List.Memᴰ.{map as in_map}
use mathlib.Core.List.Memᴰ.{not-nil as in_nil}
use mathlib.Core.List.Memᴰ.{of_map}
use mathlib.Core.List.{List, [], ◌∷◌, ◌++◌, map, Memᴰ as In}
use Prim.Native.Nat.{ℕ, zero, suc, ◌≤◌, ◌<◌}
use native.Mathlib.Nat.{not-suc-le-zero}
use native.Mathlib.Decide.{dec_lt}
use native.Mathlib.Omega.{arith}
use lib.ListN.{length}
use lib.Dec.{T, eqb, leb, ltb, eqb→eq, eqb_refl, leb→le, le→leb, ltb→lt, lt→ltb, nleb→lt}
use borrow.Author.Tests.{eq-eqb}
use Rattle.masks.specs.Masks.{◌∪◌, disjoint, single}
use Rattle.masks.proofs.Laws.{disjoint_holds, holds_disjoint}
use Rattle.hrg.specs.Counts.{occurs}
use Rattle.hrg.specs.Grammars.{Kind, terminal, nonterminal, Edge, Graph, PlanNode, leaf, introduce, join, Rule, Grammar, kind_of, rule_of, right_of, plan_of, plan_node, edge_at}
use Rattle.hrg.specs.Trees.{unplaced, at, FitsEdge}
use Rattle.hrg.specs.Items.{Item, active, passive, is_open, joined, restrict, attach, Covers, Joins, LeafRule, leaf_rule, UnaryRule, terminal_rule, root_rule, BinaryRule, nonterminal_rule, join_rule}
use Rattle.hrg.specs.AgendaRun.{Conclusion}
use Rattle.hrg.specs.WellFormedTest.{Decides, every}
use Rattle.hrg.proofs.WellFormedTest.{decides_every}
use Rattle.hrg.specs.ClosureRun.{same_list, same_item, guard, each_to, agree, one_to_one, covering, combine, leaf_at, leaves, is_terminal, with_edge, terminal_at, root_at, kept, unary_of, nonterminal_at, join_at, binary_of}

-- ---- tests
and_in : (a b : Bool) → T a → T b → T (a && b)
and_in true b x y = y
and_in false b x y = absurd x

pub of_and : (a b : Bool) → T (a && b) → T a × T b
of_and true b h = (tt, h)
of_and false b h = absurd h

pub eq_test : {a b : ℕ} → a ≡ b → T (eqb a b)
eq_test {a} e = subst (λ (z : ℕ). T (eqb a z)) e (eqb_refl a)

-- ---- equality of items
pub list_eq : (xs ys : List ℕ) → T (same_list xs ys) → xs ≡ ys
unfolding same_list
list_eq [] [] h = refl
list_eq [] (y ∷ ys) h = absurd h
list_eq (x ∷ xs) [] h = absurd h
list_eq (x ∷ xs) (y ∷ ys) h =
    let t = of_and (eqb x y) _ h in
    let head : x ≡ y = eqb→eq x y t.0 in
    let tail : xs ≡ ys = list_eq xs ys t.1 in
    cc

eqb_same : (n : ℕ) → eqb n n ≡ true
eqb_same n = eq-eqb n n refl

pub list_same : (xs : List ℕ) → same_list xs xs ≡ true
unfolding same_list
list_same [] = refl
list_same (x ∷ xs) = simp (eqb_same, list_same xs)

pub same_eq : (i j : Item) → T (same_item i j) → i ≡ j
unfolding same_item
same_eq (active r p m f) (active r' p' m' f') h =
    let t = of_and (eqb m m' && eqb r r' && eqb p p') _ h in
    let u = of_and (eqb m m' && eqb r r') _ t.0 in
    let v = of_and (eqb m m') _ u.0 in
    let em = eqb→eq m m' v.0 in
    let er = eqb→eq r r' v.1 in
    let ep = eqb→eq p p' u.1 in
    let ef = list_eq f f' t.1 in
    cc
same_eq (active r p m f) (passive s m' L) h = absurd h
same_eq (passive s m L) (active r p m' f) h = absurd h
same_eq (passive s m L) (passive s' m' L') h =
    let t = of_and (eqb m m' && eqb s s') _ h in
    let u = of_and (eqb m m') _ t.0 in
    let em = eqb→eq m m' u.0 in
    let es = eqb→eq s s' u.1 in
    let el = list_eq L L' t.1 in
    cc

pub same_refl : (i : Item) → T (same_item i i)
unfolding same_item
same_refl (active r p m f) = simp (eqb_same, list_same) tt
same_refl (passive s m L) = simp (eqb_same, list_same) tt

-- ---- lists by tests
module _ {A : Type 0} {i : A} where
  pub in_guard : (b : Bool) {l : List A} → T b → In i l → In i (guard b l)
  in_guard true h m = m
  in_guard false h m = absurd h

  pub of_guard : (b : Bool) {l : List A} → In i (guard b l) → T b × In i l
  of_guard true m = (tt, m)
  of_guard false m = absurd (in_nil m)

  pub in_to : (n : ℕ) (f : ℕ → List A) (k : ℕ) → k < n → In i (f k) → In i (each_to n f)
  in_to zero f k l m = absurd (not-suc-le-zero l)
  in_to (suc n) f k l m = go (dec_lt k n) (λ l. in_to n f k l m)
    where
      go : Dec (k < n) → (k < n → In i (each_to n f)) → In i (f n ++ each_to n f)
      go (yes l) below = in_right (f n) (below l)
      go (no g) below = in_left {s = f n} (each_to n f) (rw (let e : n ≡ k = omega arith in e) m)

  pub of_to : (n : ℕ) (f : ℕ → List A) → In i (each_to n f) → (k : ℕ) × (k < n) × In i (f k)
  of_to zero f m = absurd (in_nil m)
  of_to (suc n) f m = go (in_append (f n) m) (of_to n f)
    where
      go : In i (f n) ⊎ In i (each_to n f) → (In i (each_to n f) → (k : ℕ) × (k < n) × In i (f k)) → (k : ℕ) × (k < suc n) × In i (f k)
      go (inl m) below = (n, omega arith, m)
      go (inr m) below = let t = below m in (t.0, omega (arith, t.1), t.2)

itself : (b : Bool) → Decides b (T b)
itself b = record { sound = λ t. t; complete = λ t. t }

every_in : (n : ℕ) (t : ℕ → Bool) → ((x : ℕ) → x < n → T (t x)) → T (every n t)
every_in n t h = (decides_every n (λ x. itself (t x))).complete h

of_every : (n : ℕ) (t : ℕ → Bool) → T (every n t) → (x : ℕ) → x < n → T (t x)
of_every n t h = (decides_every n (λ x. itself (t x))).sound h

-- ---- the tests of Joins
agree_in : (a b : ℕ) → (a < unplaced → b < unplaced → a ≡ b) → T (leb unplaced a || leb unplaced b || eqb a b)
agree_in a b h = go (leb unplaced a) (leb unplaced b) (nleb→lt unplaced a) (nleb→lt unplaced b)
  where
    go : (p q : Bool) → (T (not p) → a < unplaced) → (T (not q) → b < unplaced) → T (p || q || eqb a b)
    go true q x y = tt
    go false true x y = tt
    go false false x y = eq_test (h (x tt) (y tt))

of_agree : (a b : ℕ) → T (leb unplaced a || leb unplaced b || eqb a b) → a < unplaced → b < unplaced → a ≡ b
of_agree a b t x y = go (leb unplaced a) (leb unplaced b) (leb→le unplaced a) (leb→le unplaced b) t
  where
    go : (p q : Bool) → (T p → unplaced ≤ a) → (T q → unplaced ≤ b) → T (p || q || eqb a b) → a ≡ b
    go true q u v t = absurd (omega (arith, u tt))
    go false true u v t = absurd (omega (arith, v tt))
    go false false u v t = eqb→eq a b t

imply_in : (a b : Bool) → (a ≡ true → T b) → T (not a || b)
imply_in true b h = h refl
imply_in false b h = tt

of_imply : (a b : Bool) → T (not a || b) → a ≡ true → T b
of_imply true b t e = t
of_imply false b t e = let z : ◌≡◌ {A = ℕ} 0 1 = cc in absurd (omega arith)

module _ (H : Graph) (m : ℕ) (h : List ℕ) where
  abbrev test : ℕ → Bool
  test v = not (is_open H m v) || ltb 0 (occurs v h)

  covering_in : Covers H m h → T (covering H m h)
  unfolding covering
  covering_in c = every_in H.nodes test (λ v l. imply_in _ _ (λ e. lt→ltb 0 _ (c.image v l e)))

  of_covering : T (covering H m h) → Covers H m h
  unfolding covering
  of_covering t = record { image = λ v l e. ltb→lt 0 _ (of_imply (is_open H m v) _ (of_every H.nodes test t v l) e) }

module _ (H : Graph) (R : Rule) (r p m₁ m₂ : ℕ) (f g : List ℕ) where
  abbrev size : ℕ
  size = R.production.right.nodes

  abbrev both : List ℕ
  both = joined size f g

  pub in_combine : {m : ℕ} {h : List ℕ} → Joins H R p m₁ m₂ f g m h → In (active r p m h) (combine H R r p m₁ m₂ f g)
  unfolding combine agree one_to_one
  in_combine w =
      in_guard (disjoint m₁ m₂) (holds_disjoint m₁ m₂ w.disjoint)
      (in_guard (agree size f g) (every_in size _ (λ x l. agree_in (at f x) (at g x) (w.function x l)))
      (in_guard (one_to_one H.nodes both) (every_in H.nodes _ (λ v l. le→leb (occurs v both) 1 (w.one_to_one_is v l)))
      (in_guard (covering H (m₁ ∪ m₂) (restrict R p both)) (covering_in H _ _ (rw (w.union, w.map) at w.covers))
      (here (cc)))))

  pub of_combine : (P : Item → Type 0) → ((m : ℕ) (h : List ℕ) → Joins H R p m₁ m₂ f g m h → P (active r p m h)) → {i : Item} → In i (combine H R r p m₁ m₂ f g) → P i
  unfolding combine agree one_to_one
  of_combine P found k =
      let a = of_guard (disjoint m₁ m₂) k in
      let b = of_guard (agree size f g) a.1 in
      let c = of_guard (one_to_one H.nodes both) b.1 in
      let d = of_guard (covering H (m₁ ∪ m₂) (restrict R p both)) c.1 in
      rw (of_one d.1) (found (m₁ ∪ m₂) (restrict R p both) (record {
        disjoint = disjoint_holds m₁ m₂ a.0;
        union = refl;
        function = λ x l. of_agree (at f x) (at g x) (of_every size _ b.0 x l);
        one_to_one_is = λ v l. leb→le (occurs v both) 1 (of_every H.nodes _ c.0 v l);
        map = refl;
        covers = of_covering H _ _ d.0;
      }))

-- ---- the rules
module _ (G : Grammar) where
  abbrev leaf_as : ℕ → ℕ → List Item
  leaf_as r p = leaf_at G r p (plan_node (plan_of G r) p)

  abbrev leaves_as : ℕ → List Item
  leaves_as r = each_to (length (plan_of G r)) (leaf_as r)

  pub leaf_in : {i : Item} → LeafRule G i → In i (leaves G)
  unfolding leaves leaf_at
  leaf_in (leaf_rule r p k l e) = in_to (length G.rules) leaves_as r k (in_to (length (plan_of G r)) (leaf_as r) p l (rw e (here refl)))

  of_leaf : {i : Item} (r p : ℕ) (node : PlanNode) → r < length G.rules → p < length (plan_of G r) → plan_node (plan_of G r) p ≡ node → In i (leaf_at G r p node) → LeafRule G i
  unfolding leaf_at
  of_leaf r p leaf k l e m = rw (of_one m) (leaf_rule r p k l e)
  of_leaf r p (introduce c i) k l e m = absurd (in_nil m)
  of_leaf r p (join a b) k l e m = absurd (in_nil m)

  pub in_leaf : {i : Item} → In i (leaves G) → LeafRule G i
  unfolding leaves
  in_leaf m =
      let a = of_to (length G.rules) leaves_as m in
      let b = of_to (length (plan_of G a.0)) (leaf_as a.0) a.2 in
      of_leaf a.0 b.0 (plan_node (plan_of G a.0) b.0) a.1 b.1 refl b.2

pub terminal_test : (k : Kind) → T (is_terminal k) → k ≡ terminal
terminal_test terminal t = refl
terminal_test nonterminal t = absurd t

abbrev edge_of : Grammar → ℕ → ℕ → Edge
edge_of G r i = edge_at (right_of G r).edges i

abbrev map_for : Grammar → ℕ → ℕ → List ℕ → List ℕ
map_for G r i L = attach (right_of G r).nodes (edge_of G r i).attachment L

module _ (G : Grammar) (H : Graph) (r p m : ℕ) (f : List ℕ) where
  abbrev terminal_as : ℕ → List Item
  terminal_as q = terminal_at G H (rule_of G r) r p m f q (plan_node (plan_of G r) q)

  in_terminal : (q i g : ℕ) {m' : ℕ} {h : List ℕ} → FitsEdge G H (edge_of G r i).label (edge_at H.edges g).attachment g
      → Joins H (rule_of G r) q m (single g) f (map_for G r i (edge_at H.edges g).attachment) m' h
      → In (active r q m' h) (terminal_at G H (rule_of G r) r p m f q (introduce p i))
  unfolding terminal_at with_edge
  in_terminal q i g w j =
      in_guard (eqb p p && is_terminal (kind_of G (edge_of G r i).label)) (rw (eqb_same p, w.kind) tt)
      (in_to (length H.edges) (with_edge H (rule_of G r) r q m f (edge_of G r i)) g w.known
      (in_guard (eqb (edge_at H.edges g).label (edge_of G r i).label) (eq_test w.label)
      (in_combine H (rule_of G r) r q m (single g) f (map_for G r i (edge_at H.edges g).attachment) j)))

  of_terminal : {a : Item} (q : ℕ) (node : PlanNode) → q < length (plan_of G r) → plan_node (plan_of G r) q ≡ node → In a (terminal_at G H (rule_of G r) r p m f q node)
      → UnaryRule G H (active r p m f) 0 a
  unfolding terminal_at with_edge
  of_terminal q leaf l e k = absurd (in_nil k)
  of_terminal q (introduce c i) l e k =
      let a = of_guard (eqb c p && is_terminal (kind_of G (edge_of G r i).label)) k in
      let t = of_and (eqb c p) _ a.0 in
      let u = of_to (length H.edges) (with_edge H (rule_of G r) r q m f (edge_of G r i)) a.1 in
      let d = of_guard (eqb (edge_at H.edges u.0).label (edge_of G r i).label) u.2 in
      of_combine H (rule_of G r) r q m (single u.0) f (map_for G r i (edge_at H.edges u.0).attachment) (UnaryRule G H (active r p m f) 0)
      (λ m' h j. subst (λ (z : ℕ). UnaryRule G H (active r z m f) 0 (active r q m' h)) (eqb→eq c p t.0) (terminal_rule r q c i u.0 m m' f h l e (record { kind = terminal_test _ t.1; known = u.1; label = eqb→eq _ _ d.0; attachment = refl }) j))
      d.1
  of_terminal q (join a b) l e k = absurd (in_nil k)

module _ (G : Grammar) (H : Graph) where
  pub unary_in : {a i : Item} {k : ℕ} → UnaryRule G H a k i → In (record { constant = k; item = i }) (unary_of G H a)
  unfolding unary_of root_at
  unary_in (terminal_rule r p c i g m₁ m f h l e w j) =
      in_right (root_at (rule_of G r) c m₁ f) (in_map kept (in_to (length (plan_of G r)) (terminal_as G H r c m₁ f) p l (rw e (in_terminal G H r c m₁ f p i g w j))))
  unary_in (root_rule r p m f e) = in_left _ (in_guard (eqb (suc p) (length (plan_of G r))) (eq_test e) (here refl))

  pub in_unary : {c : Conclusion Item} (a : Item) → In c (unary_of G H a) → UnaryRule G H a c.constant c.item
  unfolding unary_of root_at
  in_unary {c} (active r p m f) k = go (in_append (root_at (rule_of G r) p m f) k)
    where
      made : List Item
      made = each_to (length (plan_of G r)) (terminal_as G H r p m f)

      go : In c (root_at (rule_of G r) p m f) ⊎ In c (map kept made) → UnaryRule G H (active r p m f) c.constant c.item
      go (inl k) =
          let t = of_guard (eqb (suc p) (length (plan_of G r))) k in
          rw (of_one t.1) (root_rule r p m f (eqb→eq _ _ t.0))
      go (inr k) =
          let t = of_map kept made k in
          let u = of_to (length (plan_of G r)) (terminal_as G H r p m f) t.1 in
          rw (sym t.2) (of_terminal G H r p m f u.0 (plan_node (plan_of G r) u.0) u.1 refl u.2)
  in_unary (passive s m L) k = absurd (in_nil k)

module _ (G : Grammar) (H : Graph) (r p m : ℕ) (f : List ℕ) where
  module _ (s m₂ : ℕ) (L : List ℕ) where
    abbrev nonterminal_as : ℕ → List Item
    nonterminal_as q = nonterminal_at H (rule_of G r) r p m f s m₂ L q (plan_node (plan_of G r) q)

    of_nonterminal : {a : Item} (q : ℕ) (node : PlanNode) → q < length (plan_of G r) → plan_node (plan_of G r) q ≡ node → In a (nonterminal_at H (rule_of G r) r p m f s m₂ L q node)
        → BinaryRule G H (active r p m f) (passive s m₂ L) a
    unfolding nonterminal_at
    of_nonterminal q leaf l e k = absurd (in_nil k)
    of_nonterminal q (introduce c i) l e k =
        let a = of_guard (eqb c p && eqb s (edge_of G r i).label) k in
        let t = of_and (eqb c p) _ a.0 in
        of_combine H (rule_of G r) r q m m₂ f (map_for G r i L) (BinaryRule G H (active r p m f) (passive s m₂ L))
        (λ m' h j. subst₂ (λ (z y : ℕ). BinaryRule G H (active r z m f) (passive y m₂ L) (active r q m' h)) (eqb→eq c p t.0) (sym (eqb→eq s _ t.1)) (nonterminal_rule r q c i m m₂ m' f L h l e j))
        a.1
    of_nonterminal q (join a b) l e k = absurd (in_nil k)

  module _ (p₂ m₂ : ℕ) (g : List ℕ) where
    abbrev join_as : ℕ → List Item
    join_as q = join_at H (rule_of G r) r p m f p₂ m₂ g q (plan_node (plan_of G r) q)

    of_join : {a : Item} (q : ℕ) (node : PlanNode) → q < length (plan_of G r) → plan_node (plan_of G r) q ≡ node → In a (join_at H (rule_of G r) r p m f p₂ m₂ g q node)
        → BinaryRule G H (active r p m f) (active r p₂ m₂ g) a
    unfolding join_at
    of_join q leaf l e k = absurd (in_nil k)
    of_join q (introduce c i) l e k = absurd (in_nil k)
    of_join q (join a b) l e k =
        let u = of_guard (eqb a p && eqb b p₂) k in
        let t = of_and (eqb a p) _ u.0 in
        of_combine H (rule_of G r) r q m m₂ f g (BinaryRule G H (active r p m f) (active r p₂ m₂ g))
        (λ m' h j. subst₂ (λ (z y : ℕ). BinaryRule G H (active r z m f) (active r y m₂ g) (active r q m' h)) (eqb→eq a p t.0) (eqb→eq b p₂ t.1) (join_rule r q a b m m₂ m' f g h l e j))
        u.1

module _ (G : Grammar) (H : Graph) where
  pub binary_in : {a b i : Item} → BinaryRule G H a b i → In i (binary_of G H a b)
  unfolding binary_of nonterminal_at join_at
  binary_in (nonterminal_rule r p c i m₁ m₂ m f L h l e j) =
      in_to (length (plan_of G r)) (nonterminal_as G H r c m₁ f (edge_of G r i).label m₂ L) p l (rw e
      (in_guard (eqb c c && eqb (edge_of G r i).label (edge_of G r i).label) (simp eqb_same tt) (in_combine H (rule_of G r) r p m₁ m₂ f (map_for G r i L) j)))
  binary_in (join_rule r p a b m₁ m₂ m f g h l e j) =
      in_guard (eqb r r) (eqb_refl r) (in_to (length (plan_of G r)) (join_as G H r a m₁ f b m₂ g) p l (rw e
      (in_guard (eqb a a && eqb b b) (simp eqb_same tt) (in_combine H (rule_of G r) r p m₁ m₂ f g j))))

  pub in_binary : {i : Item} (a b : Item) → In i (binary_of G H a b) → BinaryRule G H a b i
  unfolding binary_of
  in_binary (active r p m f) (passive s m₂ L) k =
      let u = of_to (length (plan_of G r)) (nonterminal_as G H r p m f s m₂ L) k in
      of_nonterminal G H r p m f s m₂ L u.0 (plan_node (plan_of G r) u.0) u.1 refl u.2
  in_binary {i} (active r p m f) (active r' p₂ m₂ g) k =
      let t = of_guard (eqb r r') k in
      let u = of_to (length (plan_of G r)) (join_as G H r p m f p₂ m₂ g) t.1 in
      subst (λ (z : ℕ). BinaryRule G H (active r p m f) (active z p₂ m₂ g) i) (eqb→eq r r' t.0) (of_join G H r p m f p₂ m₂ g u.0 (plan_node (plan_of G r) u.0) u.1 refl u.2)
  in_binary (passive s m L) b k = absurd (in_nil k)
