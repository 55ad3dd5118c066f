-- Question 5's loop: the mask of the nodes seen counts each of them once.
use Prim.Native.Nat.{ℕ, suc, ◌+◌, ◌-◌, ◌≤◌, ◌<◌, min}
use native.Mathlib.Omega.{arith}
use native.Mathlib.Decide.{ℕ_discrete}
use mathlib.Core.Path.{◌≡◌, refl, sym, ap, ◌∙◌, subst}
use mathlib.Core.Bool.{Bool, true, false}
use mathlib.Core.List.{List}
use lib.ListN.{length, get_or, take, drop, length-drop}
use lib.Seq.{take_all, get_or-drop}
use lib.Dec.{T}
use Rattle.masks.specs.Masks.{bit, member, ◌∪◌, single, Apart, Added, Found}
use Rattle.masks.proofs.Laws.{bit_le, bit_empty, bit_union, sum_disjoint, bit_single_self, bit_single_other, member_true, member_false}
use Rattle.hrg.specs.Counts.{hit, occurs}
use Rattle.hrg.specs.WellFormedTest.{Decides}
use Rattle.hrg.proofs.Sums.{occurs_around, occurs_next, hit_self, hit_ne}
use Rattle.hrg.proofs.WellFormedTest.{◌and◌, decides_le, decides_each}
use Rattle.questions.specs.Questions.{listed}

-- ---- tests
pub true_is : (b : Bool) → T b → true ≡ b
true_is true h = refl
true_is false h = absurd h

pub false_is : (b : Bool) → (T b → ⊥) → false ≡ b
false_is true h = absurd (h tt)
false_is false h = refl

pub bit_single : (x y : ℕ) → bit (single x) y ≡ hit y x
bit_single x y = go (ℕ_discrete y x)
  where
    go : Dec (y ≡ x) → bit (single x) y ≡ hit y x
    go (yes e) = rw e (bit_single_self x ∙ sym (hit_self x))
    go (no n) = bit_single_other x y n ∙ sym (hit_ne y x n)

decided : (nodes : ℕ) (l : List ℕ) → Decides (listed nodes l) (((x : ℕ) → 0 < occurs x l → x < min 64 nodes) × ((x : ℕ) → 0 < occurs x l → occurs x l ≤ 1))
unfolding listed
decided nodes l = decides_each l (λ x. decides_le (suc x) (min 64 nodes)) and decides_each l (λ x. decides_le (occurs x l) 1)

-- ---- the loop: of l, the first i are seen
pub record Seen (nodes : ℕ) (l : List ℕ) (seen i : ℕ) : Type 0 where
  pub upto : i ≤ length l
  pub bits : (y : ℕ) → bit seen y ≡ occurs y (take i l)
  pub below : (y : ℕ) → 0 < occurs y (take i l) → y < min 64 nodes

pub seen_none : (nodes : ℕ) (l : List ℕ) → Seen nodes l 0 0
unfolding occurs
seen_none nodes l = record { upto = omega arith; bits = λ y. bit_empty y; below = λ y h. absurd (omega arith) }

pub seen_all : (nodes : ℕ) (l : List ℕ) (seen i : ℕ) → Seen nodes l seen i → length l ≤ i → true ≡ listed nodes l
seen_all nodes l seen i s h =
    let whole : take i l ≡ l = take_all i l h in
    true_is (listed nodes l) ((decided nodes l).complete (
      (λ y p. s.below y (rw whole p)),
      λ y p. omega (arith, s.bits y, bit_le seen y, ap (occurs y) whole),
    ))

module _ (nodes : ℕ) (l : List ℕ) (seen i x : ℕ) (h : i < length l) (v : x ≡ get_or l i 0) where
  around : (y : ℕ) → occurs y l ≡ occurs y (take i l) + (hit y x + occurs y (drop (suc i) l))
  around y = rw v (occurs_around y l i h)

  pub seen_out : min 64 nodes ≤ x → false ≡ listed nodes l
  seen_out p =
      false_is (listed nodes l) λ t. omega (arith, ((decided nodes l).sound t).0 x (omega (arith, around x, hit_self x)))

  module _ (s : Seen nodes l seen i) where
    pub seen_twice : member seen x ≡ true → false ≡ listed nodes l
    seen_twice p =
        let once = member_true seen x p in
        false_is (listed nodes l)
        λ t. omega (arith, s.bits x, around x, hit_self x, ((decided nodes l).sound t).1 x (omega (arith, around x, hit_self x)))

    module _ (p : x < min 64 nodes) (q : member seen x ≡ false) where
      new : bit seen x ≡ 0
      new = member_false seen x q

      apart : Apart seen (single x)
      apart = sum_disjoint seen (single x) λ e. go e (ℕ_discrete e x)
        where
          go : (e : ℕ) → Dec (e ≡ x) → bit seen e + bit (single x) e ≤ 1
          go e (yes w) = rw w (omega (arith, new, bit_single_self x))
          go e (no w) = omega (arith, bit_le seen e, bit_single_other x e w)

      pub seen_more : (m : ℕ) → m ≡ seen ∪ single x → Seen nodes l m (i + 1)
      seen_more m e = record {
        upto = omega arith;
        bits = λ y. ap (λ k. bit k y) e ∙ bit_union seen (single x) y apart ∙ omega (arith, s.bits y, bit_single x y, more y);
        below = λ y w. go y (ℕ_discrete y x) w;
      }
        where
          more : (y : ℕ) → occurs y (take (i + 1) l) ≡ occurs y (take i l) + hit y x
          more y = rw v (occurs_next y l i h)

          go : (y : ℕ) → Dec (y ≡ x) → 0 < occurs y (take (i + 1) l) → y < min 64 nodes
          go y (yes w) z = omega arith
          go y (no w) z = s.below y (omega (arith, more y, hit_ne y x w))

-- ---- the same of the fields from `from` on, by their number k
pub record Looked (nodes : ℕ) (fs : List ℕ) (start seen k : ℕ) : Type 0 where
  pub begun : start ≤ k
  pub part : Seen nodes (drop start fs) seen (k - start)

module _ (nodes : ℕ) (fs : List ℕ) (start : ℕ) where
  pub look_none : Looked nodes fs start 0 start
  look_none =
      record { begun = omega arith; part = subst (Seen nodes (drop start fs) 0) (let e : 0 ≡ start - start = omega arith in e) (seen_none nodes (drop start fs)) }

  module _ (seen k : ℕ) (s : Looked nodes fs start seen k) where
    pub look_all : length fs ≤ k → true ≡ listed nodes (drop start fs)
    look_all h = seen_all nodes (drop start fs) seen (k - start) s.part (omega (arith, length-drop start fs))

    module _ (x : ℕ) (h : k < length fs) (v : x ≡ get_or fs k 0) where
      inner : k - start < length (drop start fs)
      inner = omega (arith, length-drop start fs, s.begun)

      value : x ≡ get_or (drop start fs) (k - start) 0
      value = v ∙ ap (λ j. get_or fs j 0) (let q : k ≡ start + (k - start) = omega (arith, s.begun) in q) ∙ sym (get_or-drop start fs (k - start) 0)

      pub look_out : (top : ℕ) → top ≡ min 64 nodes → top ≤ x → false ≡ listed nodes (drop start fs)
      look_out top w p = seen_out nodes (drop start fs) seen (k - start) x inner value (omega arith)

      pub look_twice : (b : Bool) → Found seen x b → b ≡ true → false ≡ listed nodes (drop start fs)
      look_twice b w p = seen_twice nodes (drop start fs) seen (k - start) x inner value s.part (sym w.value ∙ p)

      pub look_more : (top : ℕ) (b : Bool) (m : ℕ) → top ≡ min 64 nodes → x < top → Found seen x b → b ≡ false → Added seen x m → Looked nodes fs start m (k + 1)
      look_more top b m w p f q a = record {
        begun = omega (arith, s.begun);
        part =
            subst (Seen nodes (drop start fs) m) (let z : k - start + 1 ≡ k + 1 - start = omega (arith, s.begun) in z)
            (seen_more nodes (drop start fs) seen (k - start) x inner value s.part (omega arith) (sym f.value ∙ q) m (a.value (omega arith)));
      }

-- nodes are numbered below 64 anyway
pub listed_top : (nodes : ℕ) (l : List ℕ) → listed (min 64 nodes) l ≡ listed nodes l
unfolding listed
listed_top nodes l = let e : min 64 (min 64 nodes) ≡ min 64 nodes = omega arith in rw e
