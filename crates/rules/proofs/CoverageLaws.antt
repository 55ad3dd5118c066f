-- Which graph nodes the places of a map show, and that an item shows each open one.
use mathlib.Core.Path.{◌≡◌, sym, ap, ◌∙◌}
use mathlib.Core.Bool.{Bool, true, false≢true}
use mathlib.Core.List.{List}
use Prim.Native.Nat.{ℕ, ◌+◌, ◌≤◌, ◌<◌}
use native.Mathlib.Omega.{arith}
use lib.ListN.{length, get_or}
use lib.Bits.{bit_and}
use lib.Dec.{eqb}
use borrow.Author.Tests.{eqb-true}
use Rattle.masks.specs.Masks.{member, Added, Found}
use Rattle.hrg.specs.Trees.{unplaced, at}
use Rattle.hrg.specs.Items.{is_open}
use Rattle.hrg.proofs.Degrees.{and_true}
use Rattle.questions.specs.Layout.{rank_at, rule_count, rule_nodes, rule_plan}
use Rattle.questions.specs.Checking.{check_grammar}
use Rattle.questions.specs.Abstract.{graph_of}
use Rattle.agenda.specs.declared.ChartItem.{ChartItem}
use Rattle.joins.specs.Joins.{KnownNode, OpenAt, OpenIn}
use Rattle.joins.proofs.Known.{nodes_few}
use Rattle.joins.proofs.PlanMasks.{member_none}
use Rattle.joins.proofs.Touching.{member_both}
use Rattle.joins.proofs.Openness.{spans_none, either_way}
use Rattle.joins.proofs.MapLaws.{get_d_any}
use Rattle.rules.specs.Coverage.{Shown, Covering}

-- ---- the images of chosen places
-- each node of the set is at one of the first n places of l that are chosen
abbrev pub Imaged : List ℕ → ℕ → ℕ → ℕ → Type 0
Imaged l chosen n set = (v : ℕ) → v < 64 → member set v ≡ true → (i : ℕ) × (i < n) × (member chosen i ≡ true) × (at l i ≡ v)

pub imaged_none : (l : List ℕ) (chosen n : ℕ) → Imaged l chosen n 0
imaged_none l chosen n v h p = absurd (false≢true (sym (member_none v) ∙ p))

-- places passed without a change of the set
pub imaged_more : (l : List ℕ) (chosen i n set : ℕ) → i ≤ n → Imaged l chosen i set → Imaged l chosen n set
imaged_more l chosen i n set le before v h p = let (k, a, b, c) = before v h p in (k, omega (arith, a), b, c)

pub imaged_skip : (l : List ℕ) (chosen i set after : ℕ) → after ≡ set → Imaged l chosen i set → Imaged l chosen (i + 1) after
imaged_skip l chosen i set after e before = rw e (imaged_more l chosen i (i + 1) set (omega arith) before)

-- the node at one place more
pub imaged_with : (l : List ℕ) (chosen i u set more after : ℕ) (here : Bool) → i < length l → Found chosen i here → here ≡ true → u ≡ get_or l i 0 → Added set u more → after ≡ more → Imaged l chosen i set
    → Imaged l chosen (i + 1) after
imaged_with l chosen i u set more after here inside found sure read added e before v h p =
    either_way (member set v) (eqb v u) (sym (added.members v h) ∙ ap (λ m. member m v) (sym e) ∙ p)
    (λ q. imaged_more l chosen i (i + 1) set (omega arith) before v h q)
    (λ q. (i, omega arith, sym found.value ∙ sure, get_d_any l i unplaced 0 inside ∙ sym (eqb-true v u q ∙ read)))

-- ---- a plan node that passes both tests
pub known_by : (g : List ℕ) (r p rules nodes : ℕ) → check_grammar g ≡ true → rules ≡ rule_count g → r < rules → nodes ≡ rule_plan g r → p < nodes → KnownNode g r p
known_by g r p rules nodes checked a x b y = record { grammar = checked; rule = omega (arith, a, x); node = omega (arith, b, y) }

pub known_few : (g : List ℕ) (r p n : ℕ) → KnownNode g r p → n ≡ rule_nodes g r → n ≤ 8
known_few g r p n known e = omega (arith, e, nodes_few g r known.grammar known.rule)

-- ---- what an item shows
module _ (g : List ℕ) (x : ChartItem) where
  pub shown_passive : (chosen n set : ℕ) → (x.kind ≡ 0 → ⊥) → n ≡ rank_at g x.of → Imaged x.nodes chosen n set
      → (v : ℕ) → v < 64 → member set v ≡ true → Shown g x v
  shown_passive chosen n set other rank imaged v h p = record {
    active = λ e. absurd (other e);
    passive = λ _. let (i, a, _, c) = imaged v h p in (i, omega (arith, a, rank), c);
  }

  pub shown_active : (o n set : ℕ) → x.kind ≡ 0 → KnownNode g x.of x.plan → n ≡ rule_nodes g x.of → OpenAt g x.of x.plan o
      → Imaged x.nodes o n set → (v : ℕ) → v < 64 → member set v ≡ true → Shown g x v
  shown_active o n set kind known size opened imaged v h p = record {
    active = λ _.
        let (i, a, b, c) = imaged v h p in
        let inside : i < rule_nodes g x.of = omega (arith, a, size) in
        (i, inside, sym (opened.members i (omega (arith, nodes_few g x.of known.grammar known.rule))) ∙ b, c);
    passive = λ other. absurd (other kind);
  }

  -- the empty set
  pub shown_none : (v : ℕ) → v < 64 → member 0 v ≡ true → Shown g x v
  shown_none v h p = absurd (false≢true (sym (member_none v) ∙ p))

-- ---- an item that shows each
module _ (g h : List ℕ) (x : ChartItem) where
  -- no edges have no open nodes
  pub covering_none : x.edges ≡ 0 → Covering g h x
  covering_none e = record {
    shown = λ v l p. absurd (false≢true (sym (member_none v) ∙ (spans_none g h 0).each v l (ap (λ m. is_open (graph_of g h) m v) (sym e) ∙ p)));
  }

  pub covering_all : (nodes set : ℕ) → OpenIn g h x.edges nodes → ((v : ℕ) → v < 64 → member set v ≡ true → Shown g x v)
      → eqb (bit_and nodes set) nodes ≡ true → Covering g h x
  covering_all nodes set opened each e = record { shown = λ v l p. each v l (there v (opened.members v l ∙ p)) }
    where
      there : (v : ℕ) → member nodes v ≡ true → member set v ≡ true
      there v p = (and_true (member nodes v) (member set v) (sym (member_both nodes set v) ∙ ap (λ k. member k v) (eqb-true (bit_and nodes set) nodes e) ∙ p)).1
