-- `combine` of crate hrg, stage by stage, over maps in eight places.
use mathlib.Core.Path.{◌≡◌, refl, sym, ap, ap₂, ◌∙◌, subst}
use mathlib.Core.Bool.{Bool, true, false, ◌&&◌, ◌||◌, not, or-true, false≢true}
use mathlib.Core.Logic.{⊎_elim}
use mathlib.Core.List.{List, [], ◌∷◌}
use Prim.Native.Nat.{ℕ, zero, suc, ◌+◌, ◌^◌, ◌≤◌, ◌<◌}
use Rattle.std.specs.Prelude.{Option, Some, None, Ok}
use native.Mathlib.Omega.{arith}
use native.Mathlib.Decide.{dec_lt}
use lib.ListN.{length, take}
use lib.Seq.{get_or-take}
use lib.Bits.{bit_and}
use lib.Dec.{eqb, leb, ltb}
use borrow.Author.Tests.{lt-ltb, ltb-true, leb-true, lt-leb, eq-eqb, ne_eqb, eqb-true, not-true, not-false}
use Rattle.masks.specs.Masks.{bit, member, ◌∪◌, disjoint, within, Subset}
use Rattle.masks.proofs.Laws.{bit_le, member_true, member_false, true_member, lt_bits, within_holds, holds_within}
use Rattle.hrg.specs.Counts.{hit, occurs, tabulate}
use Rattle.hrg.specs.Grammars.{Graph, Rule, touches, rule_of, edge_at}
use Rattle.hrg.specs.Trees.{unplaced, at, padded}
use Rattle.hrg.specs.Items.{Item, active, or_else, joined, keep_if, restrict, is_boundary, is_open, is_open_at}
use Rattle.hrg.specs.WellFormedTest.{every}
use Rattle.hrg.specs.ClosureRun.{guard, agree, one_to_one, covering, combine}
use Rattle.hrg.proofs.Sums.{hit_self, hit_ne, length_tabulate, at_tabulate, tabulate_ext, occurs_at}
use Rattle.hrg.proofs.Degrees.{test_T, T_test, and_true}
use Rattle.hrg.proofs.WellFormedTest.{every_false}
use Rattle.questions.specs.Layout.{rule_nodes, graph_nodes}
use Rattle.questions.specs.Abstract.{grammar_of, graph_of}
use Rattle.places.specs.declared.merging.Merged.{Merged}
use Rattle.places.specs.Words.{places_of}
use Rattle.places.specs.Maps.{Merges}
use Rattle.places.proofs.Bytewise.{every_out}
use Rattle.joins.specs.Joins.{Accepted, KnownNode, NodesIn, OpenAt, OpenIn, Holds, Plain, Into, open_by, loses_one, open_joined, lost_at, none_lost}
use Rattle.joins.specs.Graphs.{GraphTable}
use Rattle.joins.specs.Premises.{Premises, Combines}
use Rattle.joins.proofs.Known.{right_nodes, nodes_few, graph_ok, graph_nodes_lem, graph_nodes_few}
use Rattle.joins.proofs.Touching.{touches_some}
use Rattle.joins.proofs.Openness.{bool_same, some_find, open_by_is, open_few, open_union}
use Rattle.joins.proofs.MapLaws.{every_true, every_same, agree_at, at_joined}
use Rattle.joins.proofs.Narrowing.{every_find, into_plain, agree_few, once_few, kept_padded, kept_in, kept_covers, loses_is}

-- ---- only the first n places count
agree_take : (n : ℕ) (f k : List ℕ) → agree n (take n f) (take n k) ≡ agree n f k
unfolding agree
agree_take n f k =
    every_same n (agree_at (take n f) (take n k)) (agree_at f k)
    (λ x h. ap₂ (λ (a b : ℕ). leb unplaced a || leb unplaced b || eqb a b) (get_or-take n f x unplaced h) (get_or-take n k x unplaced h))

joined_take : (n : ℕ) (f k : List ℕ) → joined n (take n f) (take n k) ≡ joined n f k
unfolding joined
joined_take n f k =
    tabulate_ext n (λ x. or_else (at (take n f) x) (at (take n k) x)) (λ x. or_else (at f x) (at k x)) (λ x h. ap₂ or_else (get_or-take n f x unplaced h) (get_or-take n k x unplaced h))

-- ---- closed nodes dropped
pub closed : (g : List ℕ) (r q o : ℕ) (f k : List ℕ) → KnownNode g r q → OpenAt g r q o → open_joined (rule_nodes g r) o f k ≡ restrict (rule_of (grammar_of g) r) q (joined (rule_nodes g r) f k)
unfolding restrict
closed g r q o f k known opened =
    let R = rule_of (grammar_of g) r in
    let n = rule_nodes g r in
    let size : n ≡ R.production.right.nodes = sym (right_nodes g r known.grammar known.rule) in
    tabulate_ext n (λ x. keep_if (member o x) (or_else (at f x) (at k x))) (λ x. keep_if (is_open_at R q x) (at (joined n f k) x))
    (λ x h. ap₂ keep_if (opened.members x (omega (arith, nodes_few g r known.grammar known.rule))) (sym (at_joined n f k x h)))
    ∙ ap (λ i. tabulate i (λ x. keep_if (is_open_at R q x) (at (joined n f k) x))) size

-- ---- open nodes are nodes
boundary_inside : (t : ℕ → Bool) (P : Graph) (x : ℕ) → ((i : ℕ) → i < length P.edges → 0 < occurs x (edge_at P.edges i).attachment → x < P.nodes) → is_boundary t P x ≡ true → x < P.nodes
unfolding is_boundary
boundary_inside t P x inside h =
    let on = (and_true (touches t P.edges x) _ h).0 in
    let z = some_find t (λ i. ltb 0 (occurs x (edge_at P.edges i).attachment)) (length P.edges) (sym (touches_some t P.edges x) ∙ on) in
    inside z.0 z.1 (ltb-true 0 (occurs x (edge_at P.edges z.0).attachment) z.3)

pub open_known : (g h : List ℕ) (m v : ℕ) → Accepted g h → is_open (graph_of g h) m v ≡ true → v < (graph_of g h).nodes
unfolding is_open
open_known g h m v accepted o = boundary_inside (λ e. member m e) (graph_of g h) v (λ i l. ((graph_ok g h accepted).side.edge i l).listed.inside v) o

-- ---- every open node is an image
pub every_at : (n : ℕ) (t : ℕ → Bool) → every n t ≡ true → (i : ℕ) → i < n → t i ≡ true
every_at n t h = every_out n t h

module _ (g h : List ℕ) (m o im : ℕ) (t : List ℕ) (accepted : Accepted g h) (small : o < 2 ^ 64) (opened : OpenIn g h m o) (images : NodesIn im t) where
  abbrev seen_at : ℕ → Bool
  seen_at v = not (is_open (graph_of g h) m v) || ltb 0 (occurs v t)

  few : (graph_of g h).nodes ≤ 64
  few = omega (arith, graph_nodes_few g h accepted, graph_nodes_lem g h)

  to_seen : Subset o im → (v : ℕ) → v < (graph_of g h).nodes → seen_at v ≡ true
  to_seen s v l = go (member o v) refl
    where
      go : (p : Bool) → member o v ≡ p → seen_at v ≡ true
      go true e =
          let there = true_member im v (omega (arith, s.each v, member_true o v e, bit_le im v)) in
          ap (λ b. not (is_open (graph_of g h) m v) || b) (sym (images.members v (omega (arith, few))) ∙ there) ∙ or-true (not (is_open (graph_of g h) m v))
      go false e = ap (λ b. not b || ltb 0 (occurs v t)) (sym (opened.members v (omega (arith, few))) ∙ e)

  to_subset : ((v : ℕ) → v < (graph_of g h).nodes → seen_at v ≡ true) → Subset o im
  to_subset s = record { each = λ e. far e (dec_lt e 64) }
    where
      near : (e : ℕ) → e < 64 → (p : Bool) → member o e ≡ p → bit o e ≤ bit im e
      near e l true d =
          let is = sym (opened.members e l) ∙ d in
          let seen : ltb 0 (occurs e t) ≡ true = ap (λ b. not b || ltb 0 (occurs e t)) (sym is) ∙ s e (open_known g h m e accepted is) in
          omega (arith, member_true o e d, member_true im e (images.members e l ∙ seen))
      near e l false d = omega (arith, member_false o e d)

      far : (e : ℕ) → Dec (e < 64) → bit o e ≤ bit im e
      far e (yes l) = near e l (member o e) refl
      far e (no l) = omega (arith, lt_bits 64 o e small (omega arith))

  pub covers : eqb (bit_and o im) o ≡ covering (graph_of g h) m t
  unfolding covering within
  covers =
      bool_same (eqb (bit_and o im) o) (covering (graph_of g h) m t)
      (λ p. every_true (graph_of g h).nodes seen_at (to_seen (within_holds o im (test_T (eqb (bit_and o im) o) p))))
      (λ p. T_test (eqb (bit_and o im) o) (holds_within o im (to_subset (every_at (graph_of g h).nodes seen_at p))))

-- ---- images of both maps are images of the joined one
first_image : (a b v : ℕ) → v < 64 → a ≡ v → or_else a b ≡ v
first_image a b v l e = rw (ne_eqb a unplaced (λ q. omega (arith, l, e, q))) e

second_image : (a b v : ℕ) → v < 64 → a ≤ unplaced → (leb unplaced a || leb unplaced b || eqb a b) ≡ true → b ≡ v → or_else a b ≡ v
second_image a b v l plain same e = go (dec_lt a 64)
  where
    go : Dec (a < 64) → or_else a b ≡ v
    go (yes d) =
        let is : eqb a b ≡ true = ap₂ (λ (p q : Bool). p || q || eqb a b) (sym (lt-leb unplaced a d)) (sym (lt-leb unplaced b (omega (arith, l, e)))) ∙ same in
        first_image a b v l (eqb-true a b is ∙ e)
    go (no d) = rw (eq-eqb a unplaced (omega (arith, d, plain))) e

-- ---- images of dropped nodes
-- a number that stands once in a list does not stand in it where its place is dropped
occurs_kept : (n : ℕ) (s : ℕ → Bool) (F : ℕ → ℕ) (v : ℕ) → v < 64 → occurs v (tabulate n (λ x. keep_if (s x) (F x))) ≤ occurs v (tabulate n F)
unfolding occurs tabulate
occurs_kept zero s F v l = omega arith
occurs_kept (suc n) s F v l = go (s 0) (occurs_kept n (λ x. s (suc x)) (λ x. F (suc x)) v l)
  where
    go : (p : Bool) → occurs v (tabulate n (λ x. keep_if (s (suc x)) (F (suc x)))) ≤ occurs v (tabulate n (λ x. F (suc x)))
        → hit v (keep_if p (F 0)) + occurs v (tabulate n (λ x. keep_if (s (suc x)) (F (suc x)))) ≤ hit v (F 0) + occurs v (tabulate n (λ x. F (suc x)))
    go true h = omega arith
    go false h = omega (arith, hit_ne v 64 (λ e. omega arith))

occurs_dropped : (n : ℕ) (s : ℕ → Bool) (F : ℕ → ℕ) (v x : ℕ) → v < 64 → x < n → s x ≡ false → F x ≡ v → occurs v (tabulate n (λ x. keep_if (s x) (F x))) < occurs v (tabulate n F)
unfolding occurs tabulate
occurs_dropped zero s F v x l h p q = absurd (omega arith)
occurs_dropped (suc n) s F v zero l h p q =
    rw p
    (omega (arith, hit_ne v 64 (λ e. omega arith), hit_self v, ap (λ w. hit v w) q, occurs_kept n (λ x. s (suc x)) (λ x. F (suc x)) v l))
occurs_dropped (suc n) s F v (suc x) l h p q = go (s 0) (occurs_dropped n (λ x. s (suc x)) (λ x. F (suc x)) v x l (omega arith) p q)
  where
    go : (p : Bool) → occurs v (tabulate n (λ x. keep_if (s (suc x)) (F (suc x)))) < occurs v (tabulate n (λ x. F (suc x)))
        → hit v (keep_if p (F 0)) + occurs v (tabulate n (λ x. keep_if (s (suc x)) (F (suc x)))) < hit v (F 0) + occurs v (tabulate n (λ x. F (suc x)))
    go true h = omega arith
    go false h = omega (arith, hit_ne v 64 (λ e. omega arith))

module _ (g h w : List ℕ) (accepted : Accepted g h) (table : GraphTable g h w) (m : ℕ) (small : m < 2 ^ 64) (n stays : ℕ) (f k : List ℕ) where
  abbrev image_at : ℕ → ℕ
  image_at x = or_else (at f x) (at k x)

  -- a lost node's image is open and is none of the images
  lost_bare : one_to_one (graph_of g h).nodes (joined n f k) ≡ true → none_lost n stays w m f k ≡ false → covering (graph_of g h) m (open_joined n stays f k) ≡ false
  unfolding none_lost one_to_one covering joined
  lost_bare once fails =
      let (x, l, p) = every_find n (λ x. not (lost_at stays w m f k x)) fails in
      let (s, o) = and_true (not (member stays x)) (open_by w m (image_at x)) (not-false (lost_at stays w m f k x) p) in
      let few : image_at x < 64 = open_few w m (image_at x) o in
      let is : is_open (graph_of g h) m (image_at x) ≡ true = sym (open_by_is g h w accepted table (image_at x) few m small) ∙ o in
      let known = open_known g h m (image_at x) accepted is in
      let one = leb-true (occurs (image_at x) (tabulate n image_at)) 1 (every_at (graph_of g h).nodes (λ v. leb (occurs v (tabulate n image_at)) 1) once (image_at x) known) in
      let none : occurs (image_at x) (open_joined n stays f k) ≡ 0 = omega (arith, one, occurs_dropped n (λ x. member stays x) image_at (image_at x) x few l (not-true (member stays x) s) refl) in
      sym (every_false (graph_of g h).nodes (λ v. not (is_open (graph_of g h) m v) || ltb 0 (occurs v (open_joined n stays f k))) (image_at x) known (ap₂ (λ (a : Bool) (b : ℕ). not a || ltb 0 b) is none))

  -- where none is lost, an open image is one of those that stay
  none_lost_is : none_lost n stays w m f k ≡ true → (v x : ℕ) → v < 64 → x < n → image_at x ≡ v → is_open (graph_of g h) m v ≡ true → ltb 0 (occurs v (open_joined n stays f k)) ≡ true
  unfolding none_lost
  none_lost_is passes v x l inside image here =
      go (member stays x) refl (not-true (lost_at stays w m f k x) (every_at n (λ x. not (lost_at stays w m f k x)) passes x inside))
    where
      go : (b : Bool) → member stays x ≡ b → lost_at stays w m f k x ≡ false → ltb 0 (occurs v (open_joined n stays f k)) ≡ true
      go true s shut =
          let t = open_joined n stays f k in
          let is : at t x ≡ v = at_tabulate n (λ x. keep_if (member stays x) (image_at x)) x inside ∙ ap (λ b. keep_if b (image_at x)) s ∙ image in
          let there = rw is at (occurs_at t x (omega (arith, length_tabulate n (λ x. keep_if (member stays x) (image_at x))))) in
          lt-ltb 0 (occurs v t) there
      go false s shut =
          absurd (false≢true (sym shut ∙ ap₂ (λ (b : Bool) (u : ℕ). not b && open_by w m u) s image ∙ open_by_is g h w accepted table v l m small ∙ here))

  -- where each map has the open nodes of its set and none is lost, all that are open stay
  all_stay : (m₁ m₂ : ℕ) → m ≡ m₁ ∪ m₂ → Plain f → agree n f k ≡ true → Holds g h m₁ n f → Holds g h m₂ n k → none_lost n stays w m f k ≡ true
      → covering (graph_of g h) m (open_joined n stays f k) ≡ true
  unfolding covering agree
  all_stay m₁ m₂ u plain same first second passes =
      every_true (graph_of g h).nodes (λ v. not (is_open (graph_of g h) m v) || ltb 0 (occurs v (open_joined n stays f k))) (λ v l. go v l (is_open (graph_of g h) m v) refl)
    where
      seen : (v : ℕ) → v < 64 → is_open (graph_of g h) m v ≡ true → ltb 0 (occurs v (open_joined n stays f k)) ≡ true
      seen v l p =
          ⊎_elim
          (λ o. let (i, inside, e) = first.each v l o in none_lost_is passes v i l inside (first_image (at f i) (at k i) v l e) p)
          (λ o. let (i, inside, e) = second.each v l o in none_lost_is passes v i l inside (second_image (at f i) (at k i) v l (plain i) (every_at n (agree_at f k) same i inside) e) p)
          (open_union g h m₁ m₂ v (ap (λ i. is_open (graph_of g h) i v) (sym u) ∙ p))

      go : (v : ℕ) → v < (graph_of g h).nodes → (p : Bool) → is_open (graph_of g h) m v ≡ p → (not (is_open (graph_of g h) m v) || ltb 0 (occurs v (open_joined n stays f k))) ≡ true
      go v l true p =
          ap (λ b. not (is_open (graph_of g h) m v) || b) (seen v (omega (arith, graph_nodes_few g h accepted, graph_nodes_lem g h)) p) ∙ or-true (not (is_open (graph_of g h) m v))
      go v l false p = ap (λ b. not b || ltb 0 (occurs v (open_joined n stays f k))) p

-- ---- the four tests
module _ (H : Graph) (R : Rule) (r q m₁ m₂ : ℕ) where
  unfoldable stages : Bool → List ℕ → List Item
  stages a j =
      guard (disjoint m₁ m₂) (guard a (guard (one_to_one H.nodes j) (guard (covering H (m₁ ∪ m₂) (restrict R q j)) (active r q (m₁ ∪ m₂) (restrict R q j) ∷ []))))

  combine_stages : (f k : List ℕ) → combine H R r q m₁ m₂ f k ≡ stages (agree R.production.right.nodes f k) (joined R.production.right.nodes f k)
  unfolding combine stages
  combine_stages f k = refl

  apart_no : (a : Bool) (j : List ℕ) → disjoint m₁ m₂ ≡ false → stages a j ≡ []
  unfolding stages
  apart_no a j h = rw h

  merge_not : (a : Bool) (j : List ℕ) → (a && one_to_one H.nodes j) ≡ false → stages a j ≡ []
  unfolding stages
  merge_not a j h =
      go (guard (covering H (m₁ ∪ m₂) (restrict R q j)) (active r q (m₁ ∪ m₂) (restrict R q j) ∷ [])) (disjoint m₁ m₂) a (one_to_one H.nodes j) h
    where
      go : (l : List Item) (d a b : Bool) → (a && b) ≡ false → guard d (guard a (guard b l)) ≡ []
      go l false a b h = refl
      go l true false b h = refl
      go l true true false h = refl
      go l true true true h = absurd (false≢true (sym h))

  cover_no : (a : Bool) (j : List ℕ) → covering H (m₁ ∪ m₂) (restrict R q j) ≡ false → stages a j ≡ []
  unfolding stages
  cover_no a j h = rw h (go (disjoint m₁ m₂) a (one_to_one H.nodes j))
    where
      go : (d a b : Bool) → guard {A = Item} d (guard a (guard b [])) ≡ []
      go false a b = refl
      go true false b = refl
      go true true false = refl
      go true true true = refl

  all_pass : (a : Bool) (j : List ℕ) → disjoint m₁ m₂ ≡ true → (a && one_to_one H.nodes j) ≡ true → covering H (m₁ ∪ m₂) (restrict R q j) ≡ true
      → stages a j ≡ active r q (m₁ ∪ m₂) (restrict R q j) ∷ []
  unfolding stages
  all_pass a j d p c = let (x, y) = and_true a (one_to_one H.nodes j) p in rw (d, x, y, c)

-- ---- over accepted tables
module _ {g h w : List ℕ} {r q stays m₁ m₂ : ℕ} {sure : Bool} {f k : List ℕ} (P : Premises g h w r q stays m₁ m₂ sure f k) where
  abbrev n : ℕ
  n = rule_nodes g r

  abbrev H : Graph
  H = graph_of g h

  abbrev R : Rule
  R = rule_of (grammar_of g) r

  abbrev Answer : Option (List ℕ) → Type 0
  Answer x = Combines g h r q m₁ m₂ f k x

  rule_small : n ≤ 8
  rule_small = nodes_few g r P.node.grammar P.node.rule

  graph_small : graph_nodes h ≤ 64
  graph_small = graph_nodes_few g h P.accepted

  whole : combine H R r q m₁ m₂ (take n f) (take n k) ≡ stages H R r q m₁ m₂ (agree n f k) (joined n f k)
  whole =
      let size : R.production.right.nodes ≡ n = right_nodes g r P.node.grammar P.node.rule in
      combine_stages H R r q m₁ m₂ (take n f) (take n k)
      ∙ ap₂ (stages H R r q m₁ m₂)
      (ap (λ i. agree i (take n f) (take n k)) size ∙ agree_take n f k) (ap (λ i. joined i (take n f) (take n k)) size ∙ joined_take n f k)

  none_made : stages H R r q m₁ m₂ (agree n f k) (joined n f k) ≡ [] → Answer None
  none_made none = record { makes = record { none = whole ∙ none; one = tt }; into = tt }

  pub first_plain : Plain f
  first_plain = into_plain (graph_nodes h) f graph_small P.first_into

  pub second_plain : Plain k
  second_plain = into_plain (graph_nodes h) k graph_small P.second_into

  pub combine_apart : {b : Bool} → b ≡ disjoint m₁ m₂ → b ≡ false → Answer None
  combine_apart e fails = none_made (apart_no H R r q m₁ m₂ (agree n f k) (joined n f k) (sym e ∙ fails))

  -- two maps merged
  fits : {b : Bool} → b ≡ (agree 8 f k && one_to_one 64 (joined 8 f k)) → b ≡ (agree n f k && one_to_one H.nodes (joined n f k))
  fits test =
      test
      ∙ ap₂ ◌&&◌ (agree_few n (graph_nodes h) f k rule_small graph_small P.first_bare P.second_bare P.first_into P.second_into)
      (once_few n (graph_nodes h) f k rule_small graph_small P.first_bare P.second_bare P.first_into P.second_into ∙ ap (λ i. one_to_one i (joined n f k)) (sym (graph_nodes_lem g h)))

  -- of two that make no map nothing else is asked
  pub combine_clash : false ≡ (agree 8 f k && one_to_one 64 (joined 8 f k)) → Answer None
  combine_clash test = none_made (merge_not H R r q m₁ m₂ (agree n f k) (joined n f k) (sym (fits test)))

  module _ {x : Merged} (merges : Merges stays f k (Ok x)) where
    module _ {m : ℕ} (u : m ≡ m₁ ∪ m₂) (small : m < 2 ^ 64) {lost : Bool} (is : lost ≡ loses_one w m x.dropped) where
      passed : (agree n f k ≡ true) × (one_to_one H.nodes (joined n f k) ≡ true)
      passed = and_true (agree n f k) (one_to_one H.nodes (joined n f k)) (sym (fits merges.test))

      lost_is : lost ≡ not (none_lost n stays w m f k)
      lost_is =
          is
          ∙ loses_is n (graph_nodes h) f k rule_small graph_small P.first_bare P.second_bare P.first_into P.second_into stays w m x.dropped merges.parts.dropped

      map : open_joined n stays f k ≡ restrict R q (joined n f k)
      map = closed g r q stays f k P.node P.opened

      pub combine_lost : lost ≡ true → Answer None
      combine_lost fails =
          none_made
          (cover_no H R r q m₁ m₂ (agree n f k) (joined n f k)
          (ap₂ (covering H) (sym u) (sym map)
          ∙ lost_bare g h w P.accepted P.table m small n stays f k passed.1 (not-true (none_lost n stays w m f k) (sym lost_is ∙ fails))))

      module _ (none : lost ≡ false) where
        kept_cover : covering H m (places_of x.kept) ≡ covering H m (open_joined n stays f k)
        kept_cover =
            ap (covering H m) merges.parts.kept
            ∙ kept_covers n (graph_nodes h) f k rule_small graph_small P.first_bare P.second_bare P.first_into P.second_into stays H m (omega (arith, graph_small, graph_nodes_lem g h))

        pub combine_sure : sure ≡ true → covering H m (places_of x.kept) ≡ true
        combine_sure s =
            kept_cover
            ∙ all_stay g h w P.accepted P.table m small n stays f k m₁ m₂ u first_plain passed.0 (P.first_holds s) (P.second_holds s) (not-false (none_lost n stays w m f k) (sym lost_is ∙ none))

        module _ {c : Bool} (covered : c ≡ covering H m (places_of x.kept)) where
          cover : c ≡ covering H (m₁ ∪ m₂) (restrict R q (joined n f k))
          cover = covered ∙ kept_cover ∙ ap₂ (covering H) u map

          pub combine_open : c ≡ false → Answer None
          combine_open p = none_made (cover_no H R r q m₁ m₂ (agree n f k) (joined n f k) (sym cover ∙ p))

          pub combine_covered : c ≡ true → {b : Bool} → b ≡ disjoint m₁ m₂ → b ≡ true → {t : List ℕ} → t ≡ places_of x.kept → Answer (Some t)
          combine_covered p d apart places = record {
            makes = record {
              none = tt;
              one = record {
                map = restrict R q (joined n f k);
                item = whole ∙ all_pass H R r q m₁ m₂ (agree n f k) (joined n f k) (sym d ∙ apart) (sym (fits merges.test)) (sym cover ∙ p);
                places =
                    places
                    ∙ merges.parts.kept
                    ∙ kept_padded n (graph_nodes h) f k rule_small graph_small P.first_bare P.second_bare P.first_into P.second_into stays
                    ∙ ap padded map;
              };
            };
            into =
                subst (Into (graph_nodes h)) (sym (places ∙ merges.parts.kept))
                (kept_in n (graph_nodes h) f k rule_small graph_small P.first_bare P.second_bare P.first_into P.second_into stays);
          }

-- two maps that differ at a rule node where both have an image make nothing
pub combine_differ : (H : Graph) (R : Rule) (r q m₁ m₂ : ℕ) (f k : List ℕ) (x : ℕ) → x < R.production.right.nodes → at f x < unplaced → at k x < unplaced → (at f x ≡ at k x → ⊥)
    → combine H R r q m₁ m₂ f k ≡ []
unfolding combine agree
combine_differ H R r q m₁ m₂ f k x l a b n =
    rw (sym (every_false R.production.right.nodes (agree_at f k) x l (rw (lt-leb unplaced (at f x) a, lt-leb unplaced (at k x) b) (ne_eqb (at f x) (at k x) n)))) (go (disjoint m₁ m₂))
  where
    go : (d : Bool) → guard {A = Item} d [] ≡ []
    go true = refl
    go false = refl
