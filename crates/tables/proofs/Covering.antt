-- Question 6's masks: the mask of a list has every node exactly where each node stands in the list.
use Prim.Native.Nat.{ℕ, zero, suc, ◌+◌, ◌*◌, ◌/◌, ◌%◌, ◌^◌, ◌≤◌, ◌<◌, min}
use native.Mathlib.Omega.{arith}
use native.Mathlib.Numerals.{add-one}
use native.Mathlib.Decide.{dec_lt}
use mathlib.Core.Path.{◌≡◌, refl, sym, ap, ◌∙◌}
use mathlib.Core.Bool.{Bool, true, false, ◌&&◌, ◌||◌, cond}
use mathlib.Core.List.{List, [], ◌∷◌, ◌++◌}
use lib.Bits.{bit_or, bit_and, or_zero_l, or_zero_r, and_mask}
use lib.ListN.{length, get_or, drop, drop_of_length-le}
use lib.Seq.{drop-cons}
use lib.Dec.{ltb, leb, eqb}
use Rattle.std.specs.Prelude.{map}
use Rattle.std.specs.List.{fold, range_with_len}
use borrow.Author.Tests.{lt-ltb, le-ltb}
use Rattle.masks.specs.Masks.{bit, member, ◌∪◌, single, full, Added}
use Rattle.masks.proofs.Laws.{bit_le, bit_empty, member_union, member_single, member_full, member_true, true_member, member_false, false_member, shifted_single, mask_ext}
use Rattle.hrg.specs.Counts.{hit, occurs, tabulate}
use Rattle.hrg.specs.WellFormedTest.{Decides}
use Rattle.hrg.proofs.Sums.{hit_ne, length_tabulate}
use Rattle.hrg.proofs.WellFormedTest.{◌and◌, decides_le, decides_eq, decides_map, decides_every}
use Rattle.questions.specs.Layout.{edges_from, graph_edge_place, line_field, rank_at}
use Rattle.questions.proofs.StoredLaws.{get_d_tabulate}
use Rattle.tables.specs.Marks.{marked, marks, nodes_at, nodes_from, Listed}
use Rattle.questions.specs.Questions.{listed, covered, nodes_on_edges, nodes_on_graph}
use Rattle.tables.proofs.Listing.{true_is, Seen, seen_none, seen_all, seen_out, seen_twice, seen_more}

-- ---- loops that mark the numbers of a list
pub marked_by_lem : (m x r : ℕ) → Added m x r → r ≡ marked m x
unfolding marked
marked_by_lem m x r a = go (dec_lt x 64)
  where
    go : Dec (x < 64) → r ≡ cond (ltb x 64) (m ∪ single x) m
    go (yes h) = rw (lt-ltb x 64 h) (a.value h)
    go (no h) = rw (le-ltb x 64 (omega arith)) (a.same (omega arith))

pub marks_next : (l : List ℕ) (k x m r v : ℕ) → k < length l → x ≡ get_or l k 0 → Added m x r → marks m (drop k l) ≡ v → marks r (drop (k + 1) l) ≡ v
unfolding marks
marks_next l k x m r v h e a p =
    ap (λ n. marks n (drop (k + 1) l)) (marked_by_lem m x r a ∙ ap (marked m) e)
    ∙ ap (λ n. marks (marked m (get_or l k 0)) (drop n l)) (add-one k)
    ∙ sym (ap (marks m) (drop-cons l k 0 h))
    ∙ p

pub marks_done : (l : List ℕ) (k m v : ℕ) → length l ≤ k → marks m (drop k l) ≡ v → m ≡ v
unfolding marks
marks_done l k m v h p = sym (ap (marks m) (drop_of_length-le l {i = k} h)) ∙ p

pub marks_append : (m : ℕ) (xs ys : List ℕ) → marks m (xs ++ ys) ≡ marks (marks m xs) ys
unfolding marks
marks_append m [] ys = refl
marks_append m (x ∷ xs) ys = marks_append (marked m x) xs ys

same_bit : (a b e : ℕ) → member a e ≡ member b e → bit a e ≡ bit b e
same_bit a b e h = go (member b e) h refl
  where
    go : (p : Bool) → member a e ≡ p → member b e ≡ p → bit a e ≡ bit b e
    go true x y = member_true a e x ∙ sym (member_true b e y)
    go false x y = member_false a e x ∙ sym (member_false b e y)

-- the union is associative, and 0 adds nothing
union_on : (a b c : ℕ) → (a ∪ b) ∪ c ≡ a ∪ (b ∪ c)
union_on a b c = mask_ext ((a ∪ b) ∪ c) (a ∪ (b ∪ c)) (λ x. same_bit ((a ∪ b) ∪ c) (a ∪ (b ∪ c)) x (
    member_union (a ∪ b) c x ∙ ap (λ q. q || member c x) (member_union a b x) ∙ turn (member a x) (member b x) (member c x)
    ∙ sym (member_union a (b ∪ c) x ∙ ap (λ q. member a x || q) (member_union b c x))))
  where
    turn : (p q r : Bool) → ((p || q) || r) ≡ (p || (q || r))
    turn true q r = refl
    turn false q r = refl

union_empty : (a : ℕ) → a ∪ 0 ≡ a
unfolding ◌∪◌
union_empty a = or_zero_r a

empty_union : (a : ℕ) → 0 ∪ a ≡ a
unfolding ◌∪◌
empty_union a = or_zero_l a

marked_union : (m x : ℕ) → marked m x ≡ m ∪ marked 0 x
unfolding marked
marked_union m x = go (ltb x 64)
  where
    go : (b : Bool) → cond b (m ∪ single x) m ≡ m ∪ cond b (0 ∪ single x) 0
    go true = ap (λ n. m ∪ n) (sym (empty_union (single x)))
    go false = sym (union_empty m)

-- a set and that of a list
pub marks_union : (m : ℕ) (l : List ℕ) → marks m l ≡ m ∪ marks 0 l
unfolding marks
marks_union m [] = sym (union_empty m)
marks_union m (x ∷ l) =
    marks_union (marked m x) l ∙ ap (λ n. n ∪ marks 0 l) (marked_union m x) ∙ union_on m (marked 0 x) (marks 0 l) ∙ ap (λ n. m ∪ n) (sym (marks_union (marked 0 x) l))

-- what a function gives at the numbers of a range
pub marks_range : (f g : ℕ → ℕ) (m a n : ℕ) → ((i : ℕ) → f (a + i) ≡ g i) → marks m (map f (range_with_len a n)) ≡ marks m (tabulate n g)
unfolding marks tabulate
marks_range f g m a zero h = refl
marks_range f g m a (suc n) h =
    marks_range f (λ i. g (suc i)) (marked m (f a)) (a + 1) n (λ i. ap f (omega arith) ∙ h (suc i))
    ∙ ap (λ x. fold marked (marked m x) (tabulate n (λ i. g (suc i)))) (ap f (omega arith) ∙ h 0)

-- a list made of a function, in the same terms
pub line_next : (n : ℕ) (f : ℕ → ℕ) (k x m r v : ℕ) → k < n → x ≡ f k → Added m x r → marks m (drop k (tabulate n f)) ≡ v → marks r (drop (k + 1) (tabulate n f)) ≡ v
line_next n f k x m r v h e a p =
    marks_next (tabulate n f) k x m r v (omega (arith, length_tabulate n f)) (e ∙ sym (get_d_tabulate n f k 0 h)) a p

pub line_done : (n : ℕ) (f : ℕ → ℕ) (k m v : ℕ) → n ≤ k → marks m (drop k (tabulate n f)) ≡ v → m ≡ v
line_done n f k m v h p = marks_done (tabulate n f) k m v (omega (arith, length_tabulate n f)) p

-- ---- the edges one by one
pub from_none : (g t : List ℕ) (p : ℕ) → 0 ≡ marks 0 (nodes_from g t p 0)
unfolding marks nodes_from
from_none g t p = refl

pub from_next : (g t : List ℕ) (p i label rank m x : ℕ) → label ≡ line_field t (p + i) 0 → rank ≡ rank_at g label → m ≡ marks 0 (nodes_from g t p i)
    → x ≡ marks m (nodes_at t (p + i) rank) → x ≡ marks 0 (nodes_from g t p (i + 1))
unfolding nodes_from
from_next g t p i label rank m x a b c d = d ∙ rw (b, a, c, add-one) (sym (marks_append 0 (nodes_from g t p i) (nodes_at t (p + i) (rank_at g (line_field t (p + i) 0)))))

-- those of a rule and of a graph
rule_from : (g : List ℕ) (r n : ℕ) → nodes_from g g (edges_from r) n ≡ nodes_on_edges g r n
unfolding nodes_from nodes_on_edges
rule_from g r zero = refl
rule_from g r (suc n) = ap (λ l. l ++ nodes_at g (edges_from r + n) (rank_at g (line_field g (edges_from r + n) 0))) (rule_from g r n)

pub rule_on : (g : List ℕ) (r n p : ℕ) → p ≡ edges_from r → nodes_from g g p n ≡ nodes_on_edges g r n
rule_on g r n p e = ap (λ q. nodes_from g g q n) e ∙ rule_from g r n

graph_from : (g h : List ℕ) (n : ℕ) → nodes_from g h (graph_edge_place 0) n ≡ nodes_on_graph g h n
unfolding nodes_from nodes_on_graph
graph_from g h zero = refl
graph_from g h (suc n) = ap (λ l. l ++ nodes_at h (1 + n) (rank_at g (line_field h (1 + n) 0))) (graph_from g h n)

pub graph_on : (g h : List ℕ) (n p : ℕ) → p ≡ graph_edge_place 0 → nodes_from g h p n ≡ nodes_on_graph g h n
graph_on g h n p e = ap (λ q. nodes_from g h q n) e ∙ graph_from g h n

-- ---- the members of a mask of a list
marked_bit : (m y x : ℕ) → x < 64 → (0 < bit (marked m y) x → 0 < bit m x + hit x y) × (0 < bit m x + hit x y → 0 < bit (marked m y) x)
unfolding marked hit
marked_bit m y x h = go (dec_lt y 64)
  where
    either : (p q : Bool) → member (m ∪ single y) x ≡ (p || q) → member m x ≡ p → eqb x y ≡ q
        → (0 < bit (m ∪ single y) x → 0 < bit m x + hit x y) × (0 < bit m x + hit x y → 0 < bit (m ∪ single y) x)
    either true q u a b = (λ z. omega (arith, member_true m x a), λ z. omega (arith, member_true (m ∪ single y) x u))
    either false true u a b = (λ z. rw b (omega arith), λ z. omega (arith, member_true (m ∪ single y) x u))
    either false false u a b = (λ z. omega (arith, member_false (m ∪ single y) x u), λ z. absurd (omega (arith, member_false m x a, (rw b at z))))

    go : Dec (y < 64) → (0 < bit (cond (ltb y 64) (m ∪ single y) m) x → 0 < bit m x + hit x y) × (0 < bit m x + hit x y → 0 < bit (cond (ltb y 64) (m ∪ single y) m) x)
    go (yes l) = rw (lt-ltb y 64 l) (either (member m x) (eqb x y) (member_union m (single y) x ∙ ap (λ b. member m x || b) (member_single y x)) refl refl)
    go (no l) = rw (le-ltb y 64 (omega arith)) (λ z. omega arith, λ z. omega (arith, hit_ne x y (λ e. omega arith)))

pub marks_bit : (l : List ℕ) (m x : ℕ) → x < 64 → (0 < bit (marks m l) x → 0 < bit m x + occurs x l) × (0 < bit m x + occurs x l → 0 < bit (marks m l) x)
unfolding marks occurs
marks_bit [] m x h = (λ z. omega arith, λ z. omega arith)
marks_bit (y ∷ l) m x h =
    let one = marked_bit m y x h in
    let rest = marks_bit l (marked m y) x h in
    (λ z. back (bit (marked m y) x) refl (rest.0 z), λ z. rest.1 (forth (bit m x + hit x y) refl z))
  where
    back : (k : ℕ) → bit (marked m y) x ≡ k → 0 < bit (marked m y) x + occurs x l → 0 < bit m x + (hit x y + occurs x l)
    back zero e z = omega arith
    back (suc k) e z = omega (arith, (marked_bit m y x h).0 (omega arith))

    forth : (k : ℕ) → bit m x + hit x y ≡ k → 0 < bit m x + (hit x y + occurs x l) → 0 < bit (marked m y) x + occurs x l
    forth zero e z = omega arith
    forth (suc k) e z = omega (arith, (marked_bit m y x h).1 (omega arith))

-- ---- the nodes of an edge's line, each found new, and their set
pub record Sought (nodes : ℕ) (l : List ℕ) (seen k : ℕ) : Type 0 where
  pub part : Seen nodes l seen k
  pub set : marks seen (drop k l) ≡ marks 0 l

pub sought_none : (nodes : ℕ) (l : List ℕ) → Sought nodes l 0 0
sought_none nodes l = record { part = seen_none nodes l; set = refl }

shifted_bit : (m x : ℕ) → bit_and (m / 2 ^ x) 1 ≡ bit m x
unfolding bit
shifted_bit m x = and_mask (m / 2 ^ x) 1

added : (m x r : ℕ) → x < 64 → r ≡ m ∪ single x → Added m x r
added m x r h e = record {
  value = λ l. e;
  same = λ l. absurd (omega arith);
  members = λ k l. ap (λ n. member n k) e ∙ member_union m (single x) k ∙ ap (λ b. member m k || b) (member_single x k);
}

module _ (nodes : ℕ) (t : List ℕ) (p n seen k : ℕ) (s : Sought nodes (nodes_at t p n) seen k) where
  abbrev own : List ℕ
  own = nodes_at t p n

  pub sought_all : n ≤ k → Listed nodes own seen
  sought_all h = record {
    kept = sym (seen_all nodes own seen k s.part (omega (arith, length_tabulate n (λ j. line_field t p (1 + j)))));
    set = line_done n (λ j. line_field t p (1 + j)) k seen (marks 0 own) h s.set;
  }

  module _ (few : nodes ≤ 64) (x : ℕ) (h : k < n) (v : x ≡ line_field t p (1 + k)) where
    inside : k < length own
    inside = omega (arith, length_tabulate n (λ j. line_field t p (1 + j)))

    value : x ≡ get_or own k 0
    value = v ∙ sym (get_d_tabulate n (λ j. line_field t p (1 + j)) k 0 h)

    pub sought_out : nodes ≤ x → listed nodes own ≡ false
    sought_out l = sym (seen_out nodes own seen k x inside value (omega arith))

    pub sought_twice : bit_and (seen / 2 ^ x) 1 ≡ 1 → listed nodes own ≡ false
    sought_twice b = sym (seen_twice nodes own seen k x inside value s.part (true_member seen x (sym (shifted_bit seen x) ∙ b)))

    pub sought_more : x < nodes → (bit_and (seen / 2 ^ x) 1 ≡ 1 → ⊥) → Sought nodes own (bit_or seen (1 * 2 ^ x % 2 ^ 64)) (k + 1)
    unfolding ◌∪◌
    sought_more l b =
        let new : bit seen x ≡ 0 = omega (arith, bit_le seen x, go) in
        let one : bit_or seen (1 * 2 ^ x % 2 ^ 64) ≡ seen ∪ single x = ap (bit_or seen) (shifted_single x (omega arith)) in
        record {
          part = seen_more nodes own seen k x inside value s.part (omega arith) (false_member seen x new) _ one;
          set = line_next n (λ j. line_field t p (1 + j)) k x seen _ (marks 0 own) h v (added seen x _ (omega arith) one) s.set;
        }
      where
        go : bit seen x ≡ 1 → ⊥
        go e = b (shifted_bit seen x ∙ e)

-- ---- every node
decided : (nodes : ℕ) (l : List ℕ) → Decides (covered nodes l) ((nodes ≤ 64) × ((x : ℕ) → x < min 64 nodes → 0 < occurs x l))
unfolding covered
decided nodes l = decides_le nodes 64 and decides_every (min 64 nodes) (λ x. decides_le 1 (occurs x l))

pos_member : (m x : ℕ) → 0 < bit m x → member m x ≡ true
pos_member m x h = go (member m x) refl
  where
    go : (b : Bool) → member m x ≡ b → member m x ≡ true
    go true e = e
    go false e = absurd (omega (arith, member_false m x e))

or_left : (a b c : Bool) → a ≡ (a || c) → c ≡ true → a ≡ true
or_left true b c p q = refl
or_left false b c p q = p ∙ q

-- a mask has every node where adding them all changes nothing
all_there : (m n : ℕ) → Decides (eqb (m ∪ full n) m) ((x : ℕ) → x < n → 0 < bit m x)
all_there m n = decides_map (decides_eq (m ∪ full n) m) there back
  where
    there : (m ∪ full n) ≡ m → (x : ℕ) → x < n → 0 < bit m x
    there e x h =
        let both : member m x ≡ (member m x || member (full n) x) = sym (ap (λ k. member k x) e) ∙ member_union m (full n) x in
        let inside : member m x ≡ true = or_left (member m x) true (member (full n) x) both (member_full n x ∙ lt-ltb x n h) in
        omega (arith, member_true m x inside)

    at : ((x : ℕ) → x < n → 0 < bit m x) → (x : ℕ) → Dec (x < n) → member (m ∪ full n) x ≡ member m x
    at f x (yes h) = member_union m (full n) x ∙ rw (pos_member m x (f x h))
    at f x (no h) = member_union m (full n) x ∙ rw (member_full n x, le-ltb x n (omega arith)) (no_more (member m x))
      where
        no_more : (b : Bool) → (b || false) ≡ b
        no_more true = refl
        no_more false = refl

    back : ((x : ℕ) → x < n → 0 < bit m x) → (m ∪ full n) ≡ m
    back f = mask_ext (m ∪ full n) m (λ x. same_bit (m ∪ full n) m x (at f x (dec_lt x n)))

same_test : {P : Type 0} (a b : Bool) → Decides a P → Decides b P → a ≡ b
same_test true b d e = true_is b (e.complete (d.sound tt))
same_test false true d e = absurd (d.complete (e.sound tt))
same_test false false d e = refl

pub marks_covered : (nodes : ℕ) (l : List ℕ) → (leb nodes 64 && eqb (marks 0 l ∪ full (min nodes 64)) (marks 0 l)) ≡ covered nodes l
marks_covered nodes l =
    same_test (leb nodes 64 && eqb (marks 0 l ∪ full (min nodes 64)) (marks 0 l)) (covered nodes l)
    (decides_map (decides_le nodes 64 and all_there (marks 0 l) (min nodes 64))
    (λ p. (p.0, λ x h. omega (arith, (marks_bit l 0 x (omega arith)).0 (p.1 x (omega arith)), bit_empty x)))
    (λ p. (p.0, λ x h. (marks_bit l 0 x (omega arith)).1 (omega (arith, p.1 x (omega arith), bit_empty x)))))
    (decided nodes l)

pub covered_by : (nodes n first m : ℕ) (xs ys : List ℕ) (b : Bool) → n ≡ nodes → first ≡ marks 0 xs → m ≡ marks first ys
    → b ≡ (leb n 64 && eqb (m ∪ full (min n 64)) m) → b ≡ covered nodes (xs ++ ys)
covered_by nodes n first m xs ys b e p q w =
    let all : m ≡ marks 0 (xs ++ ys) = q ∙ ap (λ k. marks k ys) p ∙ sym (marks_append 0 xs ys) in
    w ∙ rw (e, all) (marks_covered nodes (xs ++ ys))
