-- What the map of a made item shows: each open graph node is the image of an open rule node, and no place has a
-- number above 64.
use mathlib.Core.Path.{◌≡◌, refl, sym, ap, ◌∙◌, subst}
use mathlib.Core.Bool.{Bool, true, false, ◌||◌, not, false≢true}
use mathlib.Core.List.{List, [], ◌∷◌}
use Prim.Native.Nat.{ℕ, suc, ◌≤◌, ◌<◌}
use native.Mathlib.Omega.{arith}
use native.Mathlib.Decide.{dec_lt}
use lib.ListN.{length, take}
use lib.Seq.{get_or-take, length-take-le}
use lib.Dec.{eqb, ltb}
use borrow.Author.Tests.{ltb-true}
use Rattle.masks.specs.Masks.{◌∪◌, disjoint}
use Rattle.hrg.specs.Counts.{occurs, tabulate}
use Rattle.std.specs.Prelude.{Some}
use Rattle.hrg.specs.Grammars.{Graph, Rule, rule_of}
use Rattle.hrg.specs.Trees.{unplaced, at, padded}
use Rattle.hrg.specs.Items.{Item, active, passive, either, joined, keep_if, restrict, is_open, is_open_at, node_for, attach}
use Rattle.hrg.specs.ClosureRun.{guard, agree, one_to_one, covering, combine}
use Rattle.hrg.proofs.Sums.{length_tabulate, at_tabulate, occurs_find}
use Rattle.questions.specs.Layout.{rule_nodes}
use Rattle.questions.specs.Abstract.{grammar_of, graph_of}
use Rattle.joins.specs.Joins.{Accepted, KnownNode, Plain, Makes}
use Rattle.joins.proofs.Known.{right_nodes, nodes_few}
use Rattle.joins.proofs.EdgeMaps.{length_padded, at_padded, at_past}
use Rattle.joins.proofs.MapLaws.{at_joined}
use Rattle.joins.proofs.Combining.{every_at, open_known}

-- ---- no number above 64
pub plain_padded : (F : List ℕ) → Plain F → Plain (padded F)
plain_padded F plain i = go (dec_lt i 8)
  where
    go : Dec (i < 8) → at (padded F) i ≤ unplaced
    go (yes l) = omega (arith, at_padded F i l, plain i)
    go (no l) = omega (arith, at_past (padded F) i (omega (arith, l, length_padded F)))

pub plain_take : (n : ℕ) (l : List ℕ) → n ≤ length l → Plain l → Plain (take n l)
plain_take n l long plain i = go (dec_lt i n)
  where
    go : Dec (i < n) → at (take n l) i ≤ unplaced
    go (yes d) = omega (arith, get_or-take n l i unplaced d, plain i)
    go (no d) = omega (arith, at_past (take n l) i (omega (arith, d, length-take-le n l long)))

-- .. of a tabulated map
plain_tabulate : (n : ℕ) (F : ℕ → ℕ) → ((x : ℕ) → x < n → F x ≤ unplaced) → Plain (tabulate n F)
plain_tabulate n F plain i = go (dec_lt i n)
  where
    go : Dec (i < n) → at (tabulate n F) i ≤ unplaced
    go (yes d) = omega (arith, at_tabulate n F i d, plain i d)
    go (no d) = omega (arith, at_past (tabulate n F) i (omega (arith, d, length_tabulate n F)))

either_plain : (b : Bool) (u v : ℕ) → u ≤ unplaced → v ≤ unplaced → either b u v ≤ unplaced
either_plain true u v p q = q
either_plain false u v p q = p

node_plain : (x : ℕ) (A L : List ℕ) → Plain L → node_for x A L ≤ unplaced
unfolding node_for
node_plain x [] L plain = omega arith
node_plain x (a ∷ A) [] plain = omega arith
node_plain x (a ∷ A) (b ∷ L) plain = either_plain (eqb x a) (node_for x A L) b (node_plain x A L (λ i. plain (suc i))) (plain 0)

pub plain_attach : (n : ℕ) (A L : List ℕ) → Plain L → Plain (attach n A L)
unfolding attach
plain_attach n A L plain = plain_tabulate n (λ x. node_for x A L) (λ x _. node_plain x A L plain)

kept_plain : (b : Bool) (v : ℕ) → v ≤ unplaced → keep_if b v ≤ unplaced
kept_plain true v p = p
kept_plain false v p = omega arith

-- ---- the item that two sets and maps make
abbrev some : List Item → Bool
some [] = false
some (i ∷ l) = true

abbrev map_of : List Item → List ℕ
map_of [] = []
map_of (active r p m f ∷ l) = f
map_of (passive s m L ∷ l) = L

module _ (H : Graph) (R : Rule) (r q m₁ m₂ : ℕ) (f k : List ℕ) where
  abbrev whole : List ℕ
  whole = restrict R q (joined R.production.right.nodes f k)

  made_facts : (r' q' m : ℕ) (map : List ℕ) → combine H R r q m₁ m₂ f k ≡ active r' q' m map ∷ [] → (map ≡ whole) × (covering H (m₁ ∪ m₂) whole ≡ true)
  unfolding combine
  made_facts r' q' m map e =
      go (disjoint m₁ m₂) (agree R.production.right.nodes f k) (one_to_one H.nodes (joined R.production.right.nodes f k)) (covering H (m₁ ∪ m₂) whole) refl e
    where
      go : (d a b c : Bool) → covering H (m₁ ∪ m₂) whole ≡ c → guard d (guard a (guard b (guard c (active r q (m₁ ∪ m₂) whole ∷ [])))) ≡ active r' q' m map ∷ [] → (map ≡ whole) × (covering H (m₁ ∪ m₂) whole ≡ true)
      go true true true true is p = (sym (ap map_of p), is)
      go true true true false is p = absurd (false≢true (ap some p))
      go true true false c is p = absurd (false≢true (ap some p))
      go true false b c is p = absurd (false≢true (ap some p))
      go false a b c is p = absurd (false≢true (ap some p))

-- ---- over accepted tables
module _ (g h : List ℕ) (r q m₁ m₂ m : ℕ) (f k t : List ℕ) (accepted : Accepted g h) (known : KnownNode g r q)
    (makes : Makes (combine (graph_of g h) (rule_of (grammar_of g) r) r q m₁ m₂ f k) r q m (Some t)) (u : m ≡ m₁ ∪ m₂) where
  abbrev R : Rule
  R = rule_of (grammar_of g) r

  size : R.production.right.nodes ≡ rule_nodes g r
  size = right_nodes g r known.grammar known.rule

  facts : (makes.one.map ≡ whole (graph_of g h) R r q m₁ m₂ f k) × (covering (graph_of g h) (m₁ ∪ m₂) (whole (graph_of g h) R r q m₁ m₂ f k) ≡ true)
  facts = made_facts (graph_of g h) R r q m₁ m₂ f k r q m makes.one.map makes.one.item

  places : t ≡ padded (whole (graph_of g h) R r q m₁ m₂ f k)
  places = makes.one.places ∙ ap padded facts.0

  abbrev image_at : ℕ → ℕ
  image_at x = keep_if (is_open_at R q x) (at (joined R.production.right.nodes f k) x)

  made_image : (v x : ℕ) → v < 64 → image_at x ≡ v → (b : Bool) → is_open_at R q x ≡ b → is_open_at R q x ≡ true
  made_image v x l e true p = p
  made_image v x l e false p = absurd (omega (arith, l, ap (λ b. keep_if b (at (joined R.production.right.nodes f k) x)) (sym p) ∙ e))

  pub made_shows : (v : ℕ) → v < 64 → is_open (graph_of g h) m v ≡ true → (i : ℕ) × (i < rule_nodes g r) × (is_open_at R q i ≡ true) × (at t i ≡ v)
  unfolding covering restrict
  made_shows v l here =
      let H = graph_of g h in
      let w = tabulate R.production.right.nodes image_at in
      let opened : is_open H (m₁ ∪ m₂) v ≡ true = ap (λ i. is_open H i v) (sym u) ∙ here in
      let seen : ltb 0 (occurs v w) ≡ true
      = ap (λ b. not b || ltb 0 (occurs v w)) (sym opened)
      ∙ every_at H.nodes (λ v. not (is_open H (m₁ ∪ m₂) v) || ltb 0 (occurs v w)) facts.1 v (open_known g h (m₁ ∪ m₂) v accepted opened) in
      let (i, d, e) = occurs_find v w (ltb-true 0 (occurs v w) seen) in
      let inside : i < R.production.right.nodes = omega (arith, d, length_tabulate R.production.right.nodes image_at) in
      let image : image_at i ≡ v = sym (at_tabulate R.production.right.nodes image_at i inside) ∙ e in (
        i,
        omega (arith, inside, size),
        made_image v i l image (is_open_at R q i) refl,
        ap (λ (t : List ℕ). at t i) places ∙ at_padded w i (omega (arith, inside, size, nodes_few g r known.grammar known.rule)) ∙ e,
      )

  pub made_plain : Plain f → Plain k → Plain t
  unfolding restrict
  made_plain first second =
      subst Plain (sym places)
      (plain_padded (tabulate R.production.right.nodes image_at)
      (plain_tabulate R.production.right.nodes image_at
      (λ x d.
      kept_plain (is_open_at R q x) (at (joined R.production.right.nodes f k) x)
      (omega (arith, at_joined R.production.right.nodes f k x d, either_plain (eqb (at f x) unplaced) (at f x) (at k x) (first x) (second x))))))
