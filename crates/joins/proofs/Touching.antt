-- The nodes of a line as a mask, and the nodes on the edges of a set.
use mathlib.Core.Path.{◌≡◌, refl, sym, ap, ap₂, ◌∙◌, subst}
use mathlib.Core.Bool.{Bool, true, false, ◌&&◌, ◌||◌, not, or-false, or_assoc}
use mathlib.Core.List.{List, [], ◌∷◌}
use Prim.Native.Nat.{ℕ, zero, suc, ◌+◌, ◌/◌, ◌^◌, ◌≤◌, ◌<◌, min}
use native.Mathlib.Numerals.{add-one}
use native.Mathlib.Omega.{arith}
use lib.ListN.{length}
use lib.Bits.{bit_or, bit_and, and_shr, and_step}
use lib.Dec.{eqb, ltb}
use Rattle.masks.specs.Masks.{bit, member, ◌∪◌, Added}
use Rattle.masks.proofs.Laws.{member_union, member_true, member_false, true_member, false_member}
use Rattle.hrg.specs.Counts.{hit, occurs, tabulate}
use Rattle.hrg.specs.Grammars.{Edge, Graph, Rule, touches, rule_of, edge_at}
use Rattle.hrg.specs.Items.{below, is_boundary, is_open_at}
use Rattle.hrg.proofs.Sums.{sum_last, occurs_tabulate}
use Rattle.questions.specs.Layout.{edges_from, line_field, rank_at, rule_symbol, rule_edges, rule_external}
use Rattle.questions.specs.Abstract.{rule_from, grammar_of}
use Rattle.questions.proofs.WellFormedAccepted.{rule_is, edge_is}
use Rattle.joins.specs.declared.Sides.{Sides}
use Rattle.joins.specs.Joins.{KnownNode, EdgesBelow, NodesIn, line_nodes, some_both, side_with, SidesOf, Boundary, OpenAt}
use Rattle.joins.proofs.Known.{right_edges}
use Rattle.joins.proofs.PlanMasks.{member_none, some_sum, some_hit}

-- ---- a common member
pub member_both : (a b e : ℕ) → member (bit_and a b) e ≡ (member a e && member b e)
unfolding bit
member_both a b e = go (member a e) (member b e) refl refl
  where
    both : bit (bit_and a b) e ≡ min (bit a e) (bit b e)
    both = rw and_shr (omega (arith, and_step (a / 2 ^ e) (b / 2 ^ e)))

    go : (p q : Bool) → member a e ≡ p → member b e ≡ q → member (bit_and a b) e ≡ (p && q)
    go true true x y = true_member (bit_and a b) e (omega (arith, both, member_true a e x, member_true b e y))
    go true false x y = false_member (bit_and a b) e (omega (arith, both, member_true a e x, member_false b e y))
    go false q x y = false_member (bit_and a b) e (omega (arith, both, member_false a e x))

-- ---- one node more
-- the set n has the members of m, and v
abbrev pub Gains : ℕ → ℕ → ℕ → Type 0
Gains m v n = (x : ℕ) → x < 64 → member n x ≡ (member m x || eqb x v)

pub nodes_more : (l k : List ℕ) (v m n : ℕ) → ((x : ℕ) → occurs x k ≡ occurs x l + hit x v) → Gains m v n → NodesIn m l → NodesIn n k
nodes_more l k v m n more gains before = record {
  members = λ x h.
      gains x h
      ∙ rw (before.members x h, ← some_hit x v, ← some_sum (occurs x l) (hit x v))
      (ap (λ j. ltb 0 j) (sym (more x)));
}

-- ---- the fields of a line, one by one
occurs_last : (x n : ℕ) (f : ℕ → ℕ) → occurs x (tabulate (n + 1) f) ≡ occurs x (tabulate n f) + hit x (f n)
occurs_last x n f = rw add-one (occurs_tabulate x (suc n) f ∙ sum_last n (λ i. hit x (f i)) ∙ ap (λ k. k + hit x (f n)) (sym (occurs_tabulate x n f)))

pub listed_none : (f : ℕ → ℕ) → NodesIn 0 (tabulate 0 f)
unfolding tabulate occurs
listed_none f = record { members = λ x h. member_none x }

pub listed_next : (f : ℕ → ℕ) (k w m n : ℕ) → w ≡ f k → Added m w n → NodesIn m (tabulate k f) → NodesIn n (tabulate (k + 1) f)
listed_next f k w m n e added before = nodes_more (tabulate k f) (tabulate (k + 1) f) w m n (λ x. rw e (occurs_last x k f)) added.members before

pub listed_done : (f : ℕ → ℕ) (n k m : ℕ) → k ≤ n → n ≤ k → NodesIn m (tabulate k f) → NodesIn m (tabulate n f)
listed_done f n k m a b here = let e : n ≡ k = omega arith in rw e here

-- of the line at the place that is called so
pub listed_at : (t : List ℕ) (p q from n m : ℕ) → p ≡ q → NodesIn m (tabulate n (λ k. line_field t p (from + k))) → NodesIn m (tabulate n (λ k. line_field t q (from + k)))
listed_at t p q from n m e nodes = subst (λ (i : ℕ). NodesIn m (tabulate n (λ k. line_field t i (from + k)))) e nodes

-- ---- one edge more
pub sides_at : (g t : List ℕ) (base at n m : ℕ) (s : Sides) → base ≡ at → SidesOf g t base n m s → SidesOf g t at n m s
sides_at g t base at n m s e sides = subst (λ (i : ℕ). SidesOf g t i n m s) e sides

pub sides_none : (g t : List ℕ) (base m : ℕ) → SidesOf g t base 0 m (record { inside = 0; outside = 0 })
unfolding some_both
sides_none g t base m = record { inside = λ x h. member_none x; outside = λ x h. member_none x }

pub sides_next : (g t : List ℕ) (base i m first rank on : ℕ) (here : Bool) (s u : Sides) → first ≡ line_field t (base + i) 0 → rank ≡ rank_at g first
    → NodesIn on (tabulate rank (λ k. line_field t (base + i) (1 + k))) → here ≡ member m i → u ≡ side_with s here on → SidesOf g t base i m s → SidesOf g t base (i + 1) m u
unfolding some_both line_nodes
sides_next g t base i m first rank on here s u a b nodes test e before = rw (add-one, e) (go here refl)
  where
    nodes' : NodesIn on (line_nodes g t (base + i))
    nodes' = rw (b, a) at nodes

    go : (p : Bool) → here ≡ p → SidesOf g t base (suc i) m (side_with s p on)
    go true q = record {
      inside = λ x h. member_union s.inside on x ∙ rw (before.inside x h, nodes'.members x h, ← test, q);
      outside = λ x h. before.outside x h ∙ rw (← test, q, or-false);
    }
    go false q = record {
      inside = λ x h. before.inside x h ∙ rw (← test, q, or-false);
      outside = λ x h. member_union s.outside on x ∙ rw (before.outside x h, nodes'.members x h, ← test, q);
    }

pub sides_done : (g t : List ℕ) (base n i m : ℕ) (s : Sides) → i ≤ n → n ≤ i → SidesOf g t base i m s → SidesOf g t base n m s
sides_done g t base n i m s a b here = let e : n ≡ i = omega arith in rw e here

pub boundary_is : (s : Sides) (externals : ℕ) → Boundary s externals (bit_and s.inside (bit_or externals s.outside))
unfolding ◌∪◌
boundary_is s externals = record {
  members = λ x h. member_both s.inside (externals ∪ s.outside) x ∙ ap (λ b. member s.inside x && b) (member_union externals s.outside x);
}

-- ---- touched nodes, by the numbers of the edges
pub some_same : (t u a b : ℕ → Bool) (n : ℕ) → ((i : ℕ) → i < n → t i ≡ u i) → ((i : ℕ) → i < n → a i ≡ b i) → some_both t a n ≡ some_both u b n
unfolding some_both
some_same t u a b zero p q = refl
some_same t u a b (suc n) p q =
    ap₂ ◌||◌ (some_same t u a b n (λ i h. p i (omega arith)) (λ i h. q i (omega arith))) (ap₂ ◌&&◌ (p n (omega arith)) (q n (omega arith)))

some_front : (t a : ℕ → Bool) (n : ℕ) → some_both t a (suc n) ≡ ((t 0 && a 0) || some_both (λ i. t (suc i)) (λ i. a (suc i)) n)
unfolding some_both
some_front t a zero = sym (or-false (t 0 && a 0))
some_front t a (suc n) =
    ap (λ b. b || (t (suc n) && a (suc n))) (some_front t a n) ∙ or_assoc (t 0 && a 0) (some_both (λ i. t (suc i)) (λ i. a (suc i)) n) (t (suc n) && a (suc n))

pub touches_some : (t : ℕ → Bool) (es : List Edge) (x : ℕ) → touches t es x ≡ some_both t (λ i. ltb 0 (occurs x (edge_at es i).attachment)) (length es)
unfolding touches some_both
touches_some t [] x = refl
touches_some t (e ∷ es) x =
    ap (λ b. (t 0 && ltb 0 (occurs x e.attachment)) || b) (touches_some (λ i. t (suc i)) es x)
    ∙ sym (some_front t (λ i. ltb 0 (occurs x (edge_at (e ∷ es) i).attachment)) (length es))

-- ---- the boundary of a set of edges that stand in a table
module _ (g u : List ℕ) (base n m ext o : ℕ) (s : Sides) (P : Graph) (t : ℕ → Bool)
    (size : n ≡ length P.edges) (same : (i : ℕ) → member m i ≡ t i)
    (lines : (i : ℕ) → i < n → (edge_at P.edges i).attachment ≡ line_nodes g u (base + i))
    (sides : SidesOf g u base n m s) (externals : NodesIn ext P.externals) (made : Boundary s ext o) where
  touched : (v w : ℕ → Bool) (x : ℕ) → ((i : ℕ) → v i ≡ w i) → some_both v (λ i. ltb 0 (occurs x (line_nodes g u (base + i)))) n ≡ touches w P.edges x
  touched v w x h =
      some_same v w (λ i. ltb 0 (occurs x (line_nodes g u (base + i)))) (λ i. ltb 0 (occurs x (edge_at P.edges i).attachment)) n (λ i l. h i) (λ i l. ap (λ (ns : List ℕ). ltb 0 (occurs x ns)) (sym (lines i l)))
      ∙ ap (λ k. some_both w (λ i. ltb 0 (occurs x (edge_at P.edges i).attachment)) k) size
      ∙ sym (touches_some w P.edges x)

  boundary_members : (x : ℕ) → x < 64 → member o x ≡ is_boundary t P x
  unfolding is_boundary
  boundary_members x h =
      made.members x h
      ∙ ap₂ ◌&&◌ (sides.inside x h ∙ touched (λ i. member m i) t x same)
      (ap₂ ◌||◌ (externals.members x h) (sides.outside x h ∙ touched (λ i. not (member m i)) (λ i. not (t i)) x (λ i. ap not (same i))))

pub open_rule : (g : List ℕ) (r p n m ext o : ℕ) (s : Sides) → KnownNode g r p → n ≡ rule_edges g r → EdgesBelow g r p m → SidesOf g g (edges_from r) n m s
    → NodesIn ext (tabulate (rank_at g (rule_symbol g r)) (λ k. rule_external g r k)) → Boundary s ext o → OpenAt g r p o
unfolding is_open_at line_nodes rule_from
open_rule g r p n m ext o s known size edges sides externals made =
    let R = rule_of (grammar_of g) r in
    let from : R ≡ rule_from g r = rule_is g r known.rule in
    record {
      members = λ x h.
          boundary_members g g (edges_from r) n m ext o s R.production.right (λ i. ltb 0 (occurs i (below R.plan p)))
          (size ∙ sym (right_edges g r known.grammar known.rule))
          edges.members
          (λ i l. ap (λ (R : Rule). (edge_at R.production.right.edges i).attachment) from ∙ ap (λ (e : Edge). e.attachment) (edge_is g r i (omega (arith, size))))
          sides
          (rw from externals)
          made x h;
    }

pub listed_rank : (g : List ℕ) (f : ℕ → ℕ) (s v rank m : ℕ) → v ≡ s → rank ≡ rank_at g v → NodesIn m (tabulate rank f) → NodesIn m (tabulate (rank_at g s) f)
listed_rank g f s v rank m a b nodes = rw (b, a) at nodes

-- ---- nothing is open where nothing lies below
touches_none : (t : ℕ → Bool) (es : List Edge) (x : ℕ) → ((i : ℕ) → t i ≡ false) → touches t es x ≡ false
unfolding touches
touches_none t [] x n = refl
touches_none t (e ∷ es) x n = ap₂ ◌||◌ (ap (λ b. b && ltb 0 (occurs x e.attachment)) (n 0)) (touches_none (λ i. t (suc i)) es x (λ i. n (suc i)))

pub open_none : (g : List ℕ) (r p : ℕ) → EdgesBelow g r p 0 → OpenAt g r p 0
unfolding is_open_at is_boundary
open_none g r p edges = record {
  members = λ x h.
      let R = rule_of (grammar_of g) r in
      let none : touches (λ i. ltb 0 (occurs i (below R.plan p))) R.production.right.edges x ≡ false =
      touches_none (λ i. ltb 0 (occurs i (below R.plan p))) R.production.right.edges x (λ i. sym (edges.members i) ∙ member_none i)
      in
      member_none x ∙ sym (ap (λ b. b && (ltb 0 (occurs x R.production.right.externals) || touches (λ i. not (ltb 0 (occurs i (below R.plan p)))) R.production.right.edges x)) none);
}
