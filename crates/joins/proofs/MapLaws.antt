-- Maps in eight places: agreement, a map filled place by place, and two maps as one.
use mathlib.Core.Path.{◌≡◌, refl, sym, ap₂, subst, ◌∙◌}
use mathlib.Core.Bool.{Bool, true, ◌&&◌, ◌||◌}
use mathlib.Core.List.{List, [], ◌∷◌}
use Prim.Native.Nat.{ℕ, zero, suc, ◌+◌, ◌≤◌, ◌<◌}
use native.Mathlib.Omega.{arith}
use native.Mathlib.Decide.{dec_lt}
use lib.ListN.{length, get_or, set, replicate, length-set}
use lib.Seq.{get_or-set_other}
use lib.Dec.{eqb, leb}
use Rattle.hrg.specs.Counts.{tabulate}
use Rattle.hrg.specs.Trees.{unplaced, at, padded}
use Rattle.hrg.specs.Items.{or_else, joined}
use Rattle.hrg.specs.WellFormedTest.{every}
use Rattle.hrg.proofs.Sums.{length_tabulate, at_tabulate}
use Rattle.places.specs.Words.{places_of}
use Rattle.places.proofs.Bytewise.{every_in}
use Rattle.places.proofs.Reading.{none_places}
use Rattle.joins.proofs.PlanMasks.{set_next}
use Rattle.joins.proofs.EdgeMaps.{at_past, is_padded, at_none}

-- inside a list the value for numbers past its end does not matter
pub get_d_any : (l : List ℕ) (i d e : ℕ) → i < length l → get_or l i d ≡ get_or l i e
get_d_any [] i d e h = absurd (omega arith)
get_d_any (x ∷ l) zero d e h = refl
get_d_any (x ∷ l) (suc i) d e h = get_d_any l i d e (omega arith)

-- a test that passes at each number
pub every_true : (n : ℕ) (t : ℕ → Bool) → ((i : ℕ) → i < n → t i ≡ true) → every n t ≡ true
every_true n t h = every_in n t h

pub every_same : (n : ℕ) (t u : ℕ → Bool) → ((i : ℕ) → i < n → t i ≡ u i) → every n t ≡ every n u
unfolding every
every_same zero t u h = refl
every_same (suc n) t u h = ap₂ ◌&&◌ (h 0 (omega arith)) (every_same n (λ i. t (suc i)) (λ i. u (suc i)) (λ i l. h (suc i) (omega arith)))

-- ---- agreement
abbrev pub agree_at : List ℕ → List ℕ → ℕ → Bool
agree_at f k x = leb unplaced (at f x) || leb unplaced (at k x) || eqb (at f x) (at k x)

-- ---- a map filled place by place
pub record Placed (t : ℕ → ℕ) (i : ℕ) (f : List ℕ) : Type 0 where
  pub size : length f ≡ 8
  pub before : (x : ℕ) → x < i → at f x ≡ t x
  pub after : (x : ℕ) → i ≤ x → at f x ≡ unplaced

pub placed_none : (t : ℕ → ℕ) → Placed t 0 (replicate 8 unplaced)
placed_none t = record { size = refl; before = λ x h. absurd (omega arith); after = λ x h. at_none 8 x }

-- the same as a word
pub placed_bare : (t : ℕ → ℕ) → Placed t 0 (places_of 4629771061636907072)
placed_bare t = subst (Placed t 0) (sym none_places) (placed_none t)

pub placed_next : (t : ℕ → ℕ) (i v : ℕ) (f : List ℕ) → i < 8 → v ≡ t i → Placed t i f → Placed t (i + 1) (set f i v)
placed_next t i v f h e p = record {
  size = length-set f i v ∙ p.size;
  before = set_next (λ x w. w ≡ t x) f i v unplaced (omega (arith, p.size)) p.before e;
  after = λ x l. get_or-set_other f i x v unplaced (λ d. omega arith) ∙ p.after x (omega arith);
}

pub placed_put : (t : ℕ → ℕ) (i v w u : ℕ) → i < 8 → v ≡ t i → places_of u ≡ set (places_of w) i v → Placed t i (places_of w) → Placed t (i + 1) (places_of u)
placed_put t i v w u h e put p = subst (Placed t (i + 1)) (sym put) (placed_next t i v (places_of w) h e p)

pub placed_all : (t : ℕ → ℕ) (n i : ℕ) (f : List ℕ) → i ≤ n → n ≤ i → Placed t i f → f ≡ padded (tabulate n t)
placed_all t n i f a b p = is_padded f (tabulate n t) p.size (λ x h. go x (dec_lt x n))
  where
    go : (x : ℕ) → Dec (x < n) → at f x ≡ at (tabulate n t) x
    go x (yes d) = p.before x (omega arith) ∙ sym (at_tabulate n t x d)
    go x (no d) = p.after x (omega arith) ∙ sym (at_past (tabulate n t) x (omega (arith, length_tabulate n t)))

-- ---- two maps as one
pub length_joined : (n : ℕ) (f k : List ℕ) → length (joined n f k) ≡ n
unfolding joined
length_joined n f k = length_tabulate n (λ x. or_else (at f x) (at k x))

pub at_joined : (n : ℕ) (f k : List ℕ) (i : ℕ) → i < n → at (joined n f k) i ≡ or_else (at f i) (at k i)
unfolding joined
at_joined n f k i h = at_tabulate n (λ x. or_else (at f x) (at k x)) i h
