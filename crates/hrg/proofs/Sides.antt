-- Some edges of a right side, placed in the graph: the form in which active items, single edges and trees are joined.
use mathlib.Core.Path.{◌≡◌, refl, sym, ap, ap₂, ◌∙◌}
use mathlib.Core.Bool.{Bool, true, false}
use mathlib.Core.List.{List, [], ◌∷◌, ◌++◌, map}
use Prim.Native.Nat.{ℕ, zero, suc, ◌+◌, ◌≤◌, ◌<◌}
use native.Mathlib.Nat.{not-suc-le-zero}
use native.Mathlib.Omega.{arith}
use lib.ListN.{length}
use lib.Dec.{T, eqb, ltb, eqb→eq}
use Rattle.masks.specs.Masks.{bit, member}
use Rattle.masks.proofs.Laws.{member_true, member_false}
use Rattle.hrg.specs.Counts.{flag, hit, occurs}
use Rattle.hrg.specs.Grammars.{Edge, Graph, Rule, Grammar, edge_at}
use Rattle.hrg.specs.Trees.{unplaced, at, images, Parts, edges_in, inner_in, applications_in, FitsParts}
use Rattle.hrg.specs.Items.{below, is_open, is_open_at, either, or_else, keep_if, restrict, Covers}
use Rattle.hrg.specs.Truth.{IsBelow, ActiveTruth}
use Rattle.hrg.specs.WellFormed.{RuleOk}
use Rattle.hrg.proofs.Sums.{hit_self, occurs_append, length_tabulate, at_tabulate}
use Rattle.hrg.proofs.Plans.{below_once}
use Rattle.hrg.proofs.Degrees.{degree, places, degree_add, degree_le, degree_pos, degree_find, degree_same, degree_one, boundary_in, boundary_of, by_test}

-- ---- tentacles of some edges of a right side
abbrev pub tentacles : Graph → List ℕ → ℕ → ℕ
tentacles P is x = degree (λ i. occurs i is) P.edges x

pub tentacles_append : (P : Graph) (is js : List ℕ) (x : ℕ) → tentacles P (is ++ js) x ≡ tentacles P is x + tentacles P js x
tentacles_append P is js x = degree_add (λ i. occurs i is) (λ i. occurs i js) (λ i. occurs i (is ++ js)) P.edges x (λ i. occurs_append i is js)

pub tentacles_le : (P : Graph) (is : List ℕ) (x : ℕ) → ((i : ℕ) → occurs i is ≤ 1) → tentacles P is x ≤ places P x
unfolding places
tentacles_le P is x h = omega (arith, degree_le (λ i. occurs i is) (λ i. 1) P.edges x h)

pub tentacles_one : (P : Graph) (i x : ℕ) → tentacles P (i ∷ []) x ≡ occurs x (edge_at P.edges i).attachment
unfolding occurs
tentacles_one P i x = degree_same (λ j. hit j i + 0) (λ j. hit j i) P.edges x (λ j l. omega arith) ∙ degree_one P.edges i x

-- ---- open nodes by counts
flag_bit : (m e : ℕ) → flag (member m e) ≡ bit m e
flag_bit m e = by_test (member m e) (λ q. ap flag q ∙ sym (member_true m e q)) (λ q. ap flag q ∙ sym (member_false m e q))

pub open_in : (H : Graph) (m v : ℕ) → is_open H m v ≡ true → (0 < degree (bit m) H.edges v) × (degree (bit m) H.edges v < places H v)
unfolding is_open
open_in H m v q = boundary_in (λ e. member m e) H (bit m) (flag_bit m) v q

pub open_of : (H : Graph) (m v : ℕ) → 0 < degree (bit m) H.edges v → degree (bit m) H.edges v < places H v → is_open H m v ≡ true
unfolding is_open
open_of H m v a b = boundary_of (λ e. member m e) H (bit m) (flag_bit m) v a b

module _ {G : Grammar} (R : Rule) (ok : RuleOk G R) (p : ℕ) (inside : p < length R.plan) where
  pub once : (i : ℕ) → occurs i (below R.plan p) ≤ 1
  once i = below_once _ R.plan ok.plan p i inside

  flag_once : (k : ℕ) → k ≤ 1 → flag (ltb 0 k) ≡ k
  flag_once zero h = refl
  flag_once (suc zero) h = refl
  flag_once (suc (suc k)) h = absurd (omega arith)

  pub open_at_in : (x : ℕ) → is_open_at R p x ≡ true
      → (0 < tentacles R.production.right (below R.plan p) x) × (tentacles R.production.right (below R.plan p) x < places R.production.right x)
  unfolding is_open_at
  open_at_in x q = boundary_in (λ i. ltb 0 (occurs i (below R.plan p))) R.production.right (λ i. occurs i (below R.plan p)) (λ i. flag_once _ (once i)) x q

  pub open_at_of : (x : ℕ) → 0 < tentacles R.production.right (below R.plan p) x → tentacles R.production.right (below R.plan p) x < places R.production.right x
      → is_open_at R p x ≡ true
  unfolding is_open_at
  open_at_of x a b = boundary_of (λ i. ltb 0 (occurs i (below R.plan p))) R.production.right (λ i. occurs i (below R.plan p)) (λ i. flag_once _ (once i)) x a b

  -- ---- a map restricted to the open nodes
  module _ (place : List ℕ) where
    pub at_restrict : (x : ℕ) → x < R.production.right.nodes → at (restrict R p place) x ≡ keep_if (is_open_at R p x) (at place x)
    unfolding restrict
    at_restrict x l = at_tabulate R.production.right.nodes (λ x. keep_if (is_open_at R p x) (at place x)) x l

    pub length_restrict : length (restrict R p place) ≡ R.production.right.nodes
    unfolding restrict
    length_restrict = length_tabulate R.production.right.nodes (λ x. keep_if (is_open_at R p x) (at place x))

    pub restrict_none : (x : ℕ) → x < R.production.right.nodes → at place x ≡ unplaced → at (restrict R p place) x ≡ unplaced
    restrict_none x l q = at_restrict x l ∙ go (is_open_at R p x)
      where
        go : (b : Bool) → keep_if b (at place x) ≡ unplaced
        go true = q
        go false = refl

    pub restrict_open : (x : ℕ) → x < R.production.right.nodes → 0 < tentacles R.production.right (below R.plan p) x
        → tentacles R.production.right (below R.plan p) x < places R.production.right x → at (restrict R p place) x ≡ at place x
    restrict_open x l a b = at_restrict x l ∙ ap (λ (t : Bool). keep_if t (at place x)) (open_at_of x a b)

    -- what the map shows is open
    pub restrict_shown : (x : ℕ) → x < R.production.right.nodes → at (restrict R p place) x < unplaced
        → (0 < tentacles R.production.right (below R.plan p) x) × (tentacles R.production.right (below R.plan p) x < places R.production.right x)
        × (at (restrict R p place) x ≡ at place x)
    restrict_shown x l h =
        by_test (is_open_at R p x)
        (λ q. let t = open_at_in x q in (t.0, t.1, at_restrict x l ∙ ap (λ (b : Bool). keep_if b (at place x)) q))
        (λ q. absurd (omega (arith, at_restrict x l ∙ ap (λ (b : Bool). keep_if b (at place x)) q)))

  -- ---- what lies below
  pub below_in : (x : ℕ) → IsBelow R p x → 0 < tentacles R.production.right (below R.plan p) x
  below_in x b = degree_pos (λ i. occurs i (below R.plan p)) R.production.right.edges x b.edge b.under b.on

  pub below_of : (x : ℕ) → 0 < tentacles R.production.right (below R.plan p) x → IsBelow R p x
  below_of x h =
      let t = degree_find (λ i. occurs i (below R.plan p)) R.production.right.edges x h in
      record { edge = t.0; under = t.2; on = t.3 }

-- ---- one of two places
pub either_set : (a b : ℕ) → a < unplaced → or_else a b ≡ a
either_set a b h = go (eqb a unplaced) (eqb→eq a unplaced)
  where
    go : (t : Bool) → (T t → a ≡ unplaced) → either t a b ≡ a
    go true q = absurd (omega (arith, q tt))
    go false q = refl

pub either_none : (a b : ℕ) → a ≡ unplaced → or_else a b ≡ b
either_none a b q = ap (λ (c : ℕ). or_else c b) q

pub either_right : (a b : ℕ) → b ≡ unplaced → or_else a b ≡ a
either_right a b e = go (eqb a unplaced) (eqb→eq a unplaced)
  where
    go : (t : Bool) → (T t → a ≡ unplaced) → either t a b ≡ a
    go true q = e ∙ sym (q tt)
    go false q = refl

pub hit_either : (v a b : ℕ) → hit v (or_else a b) ≤ hit v a + hit v b
hit_either v a b = go (eqb a unplaced)
  where
    go : (t : Bool) → hit v (either t a b) ≤ hit v a + hit v b
    go true = omega arith
    go false = omega arith

pub images_eq : (l k xs : List ℕ) → ((x : ℕ) → 0 < occurs x xs → at l x ≡ at k x) → images l xs ≡ images k xs
unfolding occurs
images_eq l k [] h = refl
images_eq l k (x ∷ xs) h =
    ap₂ (λ (a : ℕ) (s : List ℕ). a ∷ s) (h x (omega (arith, hit_self x))) (images_eq l k xs (λ y q. h y (omega arith)))

-- the edges of a right side with the numbers of a list
abbrev pub edges_at : Graph → List ℕ → List Edge
edges_at P is = map (λ (i : ℕ). edge_at P.edges i) is

-- the i-th of them has its number in the list
pub edges_at_lem : (P : Graph) (is : List ℕ) (i : ℕ) → i < length (edges_at P is) → (j : ℕ) × (0 < occurs j is) × (edge_at (edges_at P is) i ≡ edge_at P.edges j)
unfolding occurs
edges_at_lem P [] i l = absurd (not-suc-le-zero l)
edges_at_lem P (j ∷ js) zero l = (j, omega (arith, hit_self j), refl)
edges_at_lem P (j ∷ js) (suc i) l = let t = edges_at_lem P js i (omega arith) in (t.0, omega (arith, t.1), t.2)

-- Parts for the edges `is` of a right side, on a placement of their nodes; the map f shows the places of nodes that
-- are not all inside.
pub record Side (G : Grammar) (H P : Graph) (is : List ℕ) (m : ℕ) (f : List ℕ) (n : ℕ) : Type 0 where
  pub place : List ℕ
  pub parts : Parts
  pub sized : length place ≡ P.nodes
  pub long : length f ≡ P.nodes
  pub placed : (x : ℕ) → x < P.nodes → 0 < tentacles P is x → at place x < H.nodes
  pub others : (x : ℕ) → x < P.nodes → tentacles P is x ≡ 0 → at place x ≡ unplaced
  pub fits : FitsParts G H place parts (edges_at P is)
  pub edges : (e : ℕ) → occurs e (edges_in parts) ≡ bit m e
  pub once : (v : ℕ) → v < H.nodes → occurs v (inner_in G parts) + occurs v place ≤ 1
  pub blank : (x : ℕ) → x < P.nodes → tentacles P is x ≡ 0 → at f x ≡ unplaced
  pub shown : (x : ℕ) → x < P.nodes → 0 < tentacles P is x → tentacles P is x < places P x → at f x ≡ at place x
  pub covers : Covers H m f
  pub count : applications_in G parts ≡ n

-- a true active item is such a side
pub truth_side : {G : Grammar} {H : Graph} (R : Rule) → RuleOk G R → (p : ℕ) → p < length R.plan → {m n : ℕ} {f : List ℕ}
    → ActiveTruth G H R p m f n → Side G H R.production.right (below R.plan p) m f n
truth_side R ok p inside {m} {n} {f} t =
    let none : (x : ℕ) → x < R.production.right.nodes → tentacles R.production.right (below R.plan p) x ≡ 0 → at t.place x ≡ unplaced
    = λ x l z. t.others x l (λ b. omega (arith, below_in R ok p inside x b)) in
    record {
      place = t.place;
      parts = t.parts;
      sized = t.sized;
      long = ap length t.map ∙ length_restrict R ok p inside t.place;
      placed = λ x l a. t.placed x l (below_of R ok p inside x a);
      others = none;
      fits = t.fits;
      edges = t.edges;
      once = t.once;
      blank = λ x l z. ap (λ (g : List ℕ). at g x) t.map ∙ restrict_none R ok p inside t.place x l (none x l z);
      shown = λ x l a b. ap (λ (g : List ℕ). at g x) t.map ∙ restrict_open R ok p inside t.place x l a b;
      covers = t.covers;
      count = t.count;
    }

-- with the same parts
pub truth_side_parts : {G : Grammar} {H : Graph} (R : Rule) (ok : RuleOk G R) (p : ℕ) (inside : p < length R.plan) {m n : ℕ} {f : List ℕ} (t : ActiveTruth G H R p m f n)
    → (truth_side R ok p inside t).parts ≡ t.parts
unfolding truth_side
truth_side_parts R ok p inside t = refl
