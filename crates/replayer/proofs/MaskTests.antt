-- The tests with masks are those with lists, where the masks stand for the lists.
use mathlib.Core.Path.{◌≡◌, refl, sym, ap, ap₂, subst, ◌∙◌}
use mathlib.Core.Bool.{Bool, true, false, not, ◌&&◌}
use mathlib.Core.List.{List, [], ◌∷◌, ◌++◌, append_assoc, append-nil}
use Prim.Native.Nat.{ℕ, zero, suc, ◌+◌, ◌≤◌, ◌<◌}
use native.Mathlib.Omega.{arith}
use native.Mathlib.Numerals.{add-one}
use lib.ListN.{length, get_or, take, drop, length-drop}
use lib.Seq.{length-take-le, take-suc}
use lib.Dec.{eqb, ltb}
use borrow.Author.Tests.{eqb-true, ltb-true}
use Rattle.masks.specs.Masks.{member, ◌∪◌, single, full, Added}
use Rattle.masks.proofs.Laws.{bit_empty, bits_lt, bit_single_other, union_lt}
use Rattle.hrg.specs.Counts.{hit, occurs, tabulate}
use Rattle.hrg.specs.Grammars.{Graph, Grammar, lhs_of, right_of, edge_at}
use Rattle.hrg.specs.Trees.{at, images, internals}
use Rattle.hrg.specs.WellFormedTest.{every, each}
use Rattle.hrg.specs.ClosureRun.{same_list}
use Rattle.hrg.proofs.WellFormedTest.{decides_each, decides_le}
use Rattle.hrg.proofs.Degrees.{test_T, and_true}
use Rattle.hrg.proofs.Sums.{hit_eq, occurs_at, internals_inside}
use Rattle.preorder.specs.Replay.{number_in, rule_in, place_in, new_nodes, fresh, row_test, edge_test}
use Rattle.preorder.proofs.Used.{Holds, holds_none, holds_new, holds_cons, holds_snoc, holds_all}
use Rattle.replayer.specs.Fitting.{four_of, new_in, with_all, row_passes, edge_passes, SizedRow}
use Rattle.replayer.specs.Following.{Marks, RuledRow}

-- ---- a mask for a list
pub held : {n m : ℕ} {l : List ℕ} → Marks n m l → Holds m l
held k = record { members = k.members }

pub marks_none : (n : ℕ) → Marks n 0 []
marks_none n = record { members = holds_none.members; below = bits_lt n 0 (λ e h. bit_empty e) }

pub marks_snoc : (n m a : ℕ) (l : List ℕ) → a < n → Marks n m l → Marks n (m ∪ single a) (l ++ a ∷ [])
marks_snoc n m a l h k =
    record {
      members = (holds_snoc m a l (held k)).members;
      below = union_lt n m (single a) k.below (bits_lt n (single a) (λ e i. bit_single_other a e (λ q. omega arith)));
    }

pub marks_append : (n m : ℕ) (l xs : List ℕ) → ((v : ℕ) → 0 < occurs v xs → v < n) → Marks n m l → Marks n (with_all m xs) (l ++ xs)
unfolding with_all occurs hit
marks_append n m l [] h k = rw append-nil k
marks_append n m l (x ∷ xs) h k =
    subst (λ (z : List ℕ). Marks n (with_all (m ∪ single x) xs) z) (append_assoc l (x ∷ []) xs)
    (marks_append n (m ∪ single x) (l ++ x ∷ []) xs (λ v p. h v (omega arith)) (marks_snoc n m x l (h x (first x xs)) k))
  where
    first : (x : ℕ) (xs : List ℕ) → 0 < occurs x (x ∷ xs)
    first x xs = occurs_at (x ∷ xs) 0 (omega arith)

-- the mask of a list, one number more
with_snoc : (m : ℕ) (xs : List ℕ) (a : ℕ) → with_all m (xs ++ a ∷ []) ≡ with_all m xs ∪ single a
unfolding with_all
with_snoc m [] a = refl
with_snoc m (x ∷ xs) a = with_snoc (m ∪ single x) xs a

pub with_none : (l : List ℕ) → 0 ≡ with_all 0 (take 0 l)
unfolding with_all
with_none l = refl

pub mask_next : (l : List ℕ) (k m r : ℕ) → k < length l → get_or l k 0 < 64 → m ≡ with_all 0 (take k l) → Added m (get_or l k 0) r → r ≡ with_all 0 (take (k + 1) l)
mask_next l k m r h small e a =
    a.value small ∙ ap (λ (x : ℕ). x ∪ single (get_or l k 0)) e ∙ sym (with_snoc 0 (take k l) (get_or l k 0))
    ∙ ap (with_all 0) (sym (take-suc l k 0 h) ∙ ap (λ (j : ℕ). take j l) (sym (add-one k)))

pub marks_all : {n m : ℕ} {l : List ℕ} → Marks n m l → every n (λ v. ltb 0 (occurs v l)) ≡ eqb m (full n)
marks_all {n} {m} {l} k = holds_all n m l (held k) k.below

-- ---- the tests
new_fresh : (m : ℕ) (l xs : List ℕ) → Holds m l → new_in m xs ≡ fresh l xs
unfolding new_in fresh
new_fresh m l [] h = refl
new_fresh m l (v ∷ vs) h = ap₂ ◌&&◌ (sym (holds_new m l v h)) (new_fresh (m ∪ single v) (v ∷ l) vs (holds_cons m v l h))

pub row_test_lem : (G : Grammar) (H : Graph) (n s : ℕ) (L : List ℕ) (m : ℕ) (vs row : List ℕ) → Holds m vs → row_passes G H n s L m row ≡ row_test G H n s L vs row
unfolding row_passes row_test
row_test_lem G H n s L m vs row h =
    let P = right_of G (rule_in row) in
    ap (λ (b : Bool).
    eqb (number_in row) n
    && ltb (rule_in row) (length G.rules)
    && eqb (lhs_of G (rule_in row)) s
    && eqb (length row) (2 + (P.nodes + length P.edges))
    && each (place_in P row) (λ v. ltb v H.nodes)
    && same_list (images (place_in P row) P.externals) L
    && b) (new_fresh m vs (new_nodes P row) h)

and_end : (b : Bool) → (b && true) ≡ b
and_end true = refl
and_end false = refl

pub edge_test_lem : (H : Graph) (s : ℕ) (L : List ℕ) (m : ℕ) (es : List ℕ) (g : ℕ) → Holds m es → edge_passes H s L m g ≡ edge_test H s L es g
unfolding edge_passes edge_test new_in
edge_test_lem H s L m es g h =
    ap (λ (b : Bool).
    ltb g (length H.edges)
    && eqb (edge_at H.edges g).label s
    && same_list (edge_at H.edges g).attachment L
    && b) (sym (and_end (not (member m g))) ∙ new_fresh m es (g ∷ []) h)

pub edge_known : (H : Graph) (s : ℕ) (L : List ℕ) (m g : ℕ) → edge_passes H s L m g ≡ true → g < length H.edges
unfolding edge_passes
edge_known H s L m g e =
    let a = (and_true _ (not (member m g)) e).0 in
    let b = (and_true _ (same_list (edge_at H.edges g).attachment L) a).0 in
    ltb-true g (length H.edges) (and_true _ (eqb (edge_at H.edges g).label s) b).0

pub row_sized : (G : Grammar) (H : Graph) (n s : ℕ) (L : List ℕ) (m : ℕ) (row : List ℕ) → row_passes G H n s L m row ≡ true → SizedRow G H row
unfolding row_passes
row_sized G H n s L m row e =
    let P = right_of G (rule_in row) in
    let a = (and_true _ (new_in m (new_nodes P row)) e).0 in
    let b = (and_true _ (same_list (images (place_in P row) P.externals) L) a).0 in
    let c = and_true _ (each (place_in P row) (λ v. ltb v H.nodes)) b in
    let d = and_true _ (eqb (length row) (2 + (P.nodes + length P.edges))) c.0 in
    let f = (and_true _ (eqb (lhs_of G (rule_in row)) s) d.0).0 in
    record { rule = (and_true (eqb (number_in row) n) _ f).1; sized = d.1; placed = c.1 }

-- ---- a row of the due size
module _ (G : Grammar) (H : Graph) (row : List ℕ) (z : SizedRow G H row) where
  pub ruled : RuledRow G row
  ruled = record { known = ltb-true _ _ z.rule; sized = eqb-true _ _ z.sized }

  place_length : length (place_in (right_of G (rule_in row)) row) ≡ (right_of G (rule_in row)).nodes
  place_length = length-take-le (right_of G (rule_in row)).nodes (drop 2 row) (omega (arith, length-drop 2 row, ruled.sized))

  place_inside : (v : ℕ) → 0 < occurs v (place_in (right_of G (rule_in row)) row) → v < H.nodes
  place_inside = (decides_each (place_in (right_of G (rule_in row)) row) (λ v. decides_le (suc v) H.nodes)).sound (test_T _ z.placed)

  images_inside : (xs : List ℕ) → ((x : ℕ) → 0 < occurs x xs → x < (right_of G (rule_in row)).nodes)
      → (v : ℕ) → 0 < occurs v (images (place_in (right_of G (rule_in row)) row) xs) → v < H.nodes
  unfolding occurs hit
  images_inside [] h v p = absurd (omega arith)
  images_inside (x ∷ xs) h v p =
      go (hit v (at (place_in (right_of G (rule_in row)) row) x)) refl (λ q. images_inside xs (λ y r. h y (omega arith)) v q) (h x (occurs_at (x ∷ xs) 0 (omega arith)))
    where
      place : List ℕ
      place = place_in (right_of G (rule_in row)) row

      go : (k : ℕ) → hit v (at place x) ≡ k → (0 < occurs v (images place xs) → v < H.nodes) → x < (right_of G (rule_in row)).nodes → v < H.nodes
      go zero e rest i = rest (omega arith)
      go (suc k) e rest i =
          subst (λ (w : ℕ). w < H.nodes) (sym (hit_eq v (at place x) (omega arith))) (place_inside (at place x) (occurs_at place x (omega (arith, place_length))))

  pub new_inside : (v : ℕ) → 0 < occurs v (new_nodes (right_of G (rule_in row)) row) → v < H.nodes
  unfolding new_nodes
  new_inside = images_inside (internals (right_of G (rule_in row))) (internals_inside (right_of G (rule_in row)))

-- ---- four places
pub four_take : (L : List ℕ) → length L ≤ 4 → take (length L) (four_of L) ≡ L
unfolding four_of tabulate
four_take [] h = refl
four_take (a ∷ []) h = refl
four_take (a ∷ b ∷ []) h = refl
four_take (a ∷ b ∷ c ∷ []) h = refl
four_take (a ∷ b ∷ c ∷ d ∷ []) h = refl
four_take (a ∷ b ∷ c ∷ d ∷ e ∷ L) h = absurd (omega arith)
