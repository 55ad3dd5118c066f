-- The map of an edge's nodes, filled from the last node on.
use mathlib.Core.Path.{◌≡◌, refl, sym, ap, ◌∙◌, subst}
use mathlib.Core.Bool.{Bool, true, false}
use mathlib.Core.List.{List, [], ◌∷◌}
use Prim.Native.Nat.{ℕ, zero, suc, ◌+◌, ◌*◌, ◌-◌, ◌/◌, ◌%◌, ◌≤◌, ◌<◌}
use native.Mathlib.Omega.{arith}
use native.Mathlib.Decide.{dec_lt}
use lib.ListN.{length, get_or, set, take, drop, replicate, length-set, get_or-eq_default}
use lib.Seq.{drop-cons, drop-length, get_or-set_same, get_or-set_other, get_or-take, ext_get_or, length-take-le}
use lib.Dec.{eqb}
use borrow.Author.Tests.{eq-eqb, ne_eqb, eqb-true, eqb-false}
use Rattle.hrg.specs.Counts.{hit, occurs, tabulate}
use Rattle.hrg.specs.Grammars.{Edge, Rule, rule_of, edge_at}
use Rattle.hrg.specs.Trees.{unplaced, at, padded}
use Rattle.hrg.specs.Items.{either, node_for, attach}
use Rattle.hrg.specs.WellFormed.{EdgeOk}
use Rattle.hrg.proofs.Sums.{hit_self, occurs_at, length_tabulate, at_tabulate, none_left}
use Rattle.questions.specs.Layout.{rank_at, rule_nodes, edge_label, edge_node}
use Rattle.questions.specs.Abstract.{grammar_of}
use Rattle.questions.proofs.StoredLaws.{get_d_tabulate}
use Rattle.questions.proofs.WellFormedLists.{tabulate_list}
use Rattle.questions.proofs.WellFormedLent.{checked_grammar_ok}
use Rattle.questions.proofs.WellFormedAccepted.{rule_is, edge_is}
use Rattle.joins.specs.Joins.{KnownEdge, edge_nodes, octal, nodes_word, BareFrom}
use Rattle.joins.proofs.Known.{rule_ok, right_nodes, right_edges, nodes_few}

-- ---- maps in eight places
pub length_padded : (f : List ℕ) → length (padded f) ≡ 8
unfolding padded
length_padded f = length_tabulate 8 (λ x. at f x)

pub at_padded : (f : List ℕ) (x : ℕ) → x < 8 → at (padded f) x ≡ at f x
unfolding padded
at_padded f x h = at_tabulate 8 (λ x. at f x) x h

pub at_past : (f : List ℕ) (x : ℕ) → length f ≤ x → at f x ≡ unplaced
at_past f x h = get_or-eq_default f unplaced h

pub is_padded : (f F : List ℕ) → length f ≡ 8 → ((x : ℕ) → x < 8 → at f x ≡ at F x) → f ≡ padded F
is_padded f F size same = ext_get_or unplaced f (padded F) (size ∙ sym (length_padded F)) (λ x h. same x (omega (arith, h, size)) ∙ sym (at_padded F x (omega (arith, h, size))))

pub padded_bare : (n : ℕ) (f : List ℕ) → length f ≤ n → BareFrom n (padded f)
padded_bare n f few = record { past = λ x h. go x h (dec_lt x 8) }
  where
    go : (x : ℕ) → n ≤ x → Dec (x < 8) → at (padded f) x ≡ unplaced
    go x h (yes d) = at_padded f x d ∙ at_past f x (omega arith)
    go x h (no d) = at_past (padded f) x (omega (arith, length_padded f))

pub same_bare : (n m : ℕ) (t u : List ℕ) → n ≡ m → t ≡ u → BareFrom m u → BareFrom n t
same_bare n m t u e s bare = record { past = λ x h. ap (λ (t : List ℕ). at t x) s ∙ bare.past x (omega arith) }

-- ---- words one by one
pub as_words : (n : ℕ) (l : List ℕ) → length l ≡ n → tabulate n (λ k. get_or l k 0) ≡ l
as_words n l e = tabulate_list l n (λ k. get_or l k 0) (sym e) (λ i h. refl)

-- ---- the node of L for a rule node
node_first : (x a b : ℕ) (as' bs : List ℕ) → x ≡ a → node_for x (a ∷ as') (b ∷ bs) ≡ b
unfolding node_for
node_first x a b as' bs e = rw (eq-eqb x a e)

node_later : (x a b : ℕ) (as' bs : List ℕ) → (x ≡ a → ⊥) → node_for x (a ∷ as') (b ∷ bs) ≡ node_for x as' bs
unfolding node_for
node_later x a b as' bs n = rw (ne_eqb x a n)

node_none : (x : ℕ) (A L : List ℕ) → occurs x A ≡ 0 → node_for x A L ≡ unplaced
unfolding node_for occurs
node_none x [] L h = refl
node_none x (a ∷ A) [] h = refl
node_none x (a ∷ A) (b ∷ L) h = go (eqb x a) refl (node_none x A L)
  where
    go : (p : Bool) → eqb x a ≡ p → (occurs x A ≡ 0 → node_for x A L ≡ unplaced) → either (eqb x a) (node_for x A L) b ≡ unplaced
    go true e ih = absurd (omega (arith, hit_self a, ap (λ y. hit y a) (eqb-true x a e)))
    go false e ih = rw e (ih (omega arith))

-- ---- the map from place k of the edge on
pub record MapFrom (A L : List ℕ) (k : ℕ) (f : List ℕ) : Type 0 where
  pub size : length f ≡ 8
  pub nodes : (x : ℕ) → x < 8 → at f x ≡ node_for x (drop k A) (drop k L)

pub at_none : (n x : ℕ) → at (replicate n unplaced) x ≡ unplaced
at_none zero x = refl
at_none (suc n) zero = refl
at_none (suc n) (suc x) = at_none n x

map_none : (A L : List ℕ) (k : ℕ) → k ≡ length A → MapFrom A L k (replicate 8 unplaced)
unfolding node_for
map_none A L k e = record { size = refl; nodes = λ x h. at_none 8 x ∙ rw (e, drop-length A) }

map_next : (A L f : List ℕ) (k j a b : ℕ) → j + 1 ≡ k → j < length A → j < length L → a ≡ get_or A j 0 → b ≡ get_or L j 0 → a < 8 → MapFrom A L k f → MapFrom A L j (set f a b)
map_next A L f k j a b e p q s t h before = record { size = length-set f a b ∙ before.size; nodes = λ x l. go x l (eqb x a) refl }
  where
    k' : k ≡ suc j
    k' = omega arith

    parts : (x : ℕ) → node_for x (drop j A) (drop j L) ≡ node_for x (a ∷ drop k A) (b ∷ drop k L)
    parts x = rw (drop-cons A j 0 p, drop-cons L j 0 q, s, t, k')

    go : (x : ℕ) → x < 8 → (p : Bool) → eqb x a ≡ p → at (set f a b) x ≡ node_for x (drop j A) (drop j L)
    go x l true d =
        let same = eqb-true x a d in
        ap (λ y. at (set f a b) y) same ∙ get_or-set_same f a b unplaced (omega (arith, before.size)) ∙ sym (parts x ∙ node_first x a b (drop k A) (drop k L) same)
    go x l false d =
        let other = eqb-false x a d in
        get_or-set_other f a x b unplaced other ∙ before.nodes x l ∙ sym (parts x ∙ node_later x a b (drop k A) (drop k L) other)

map_done : (n : ℕ) (A L f : List ℕ) → n ≤ 8 → ((x : ℕ) → 0 < occurs x A → x < n) → MapFrom A L 0 f → f ≡ padded (attach n A L)
unfolding attach
map_done n A L f few inside whole = is_padded f (attach n A L) whole.size (λ x h. whole.nodes x h ∙ sym (here x (dec_lt x n)))
  where
    here : (x : ℕ) → Dec (x < n) → at (attach n A L) x ≡ node_for x A L
    here x (yes d) = at_tabulate n (λ x. node_for x A L) x d
    here x (no d) =
        at_past (attach n A L) x (omega (arith, length_tabulate n (λ x. node_for x A L)))
        ∙ sym (node_none x A L (none_left (occurs x A) (λ o. d (inside x o))))

-- ---- digits
octal_few : (f : ℕ → ℕ) (n : ℕ) → n ≤ 4 → ((k : ℕ) → k < n → f k < 8) → octal f n < 4096
unfolding octal
octal_few f zero h few = omega arith
octal_few f (suc zero) h few = omega (arith, few 0 (omega arith))
octal_few f (suc (suc zero)) h few = omega (arith, few 0 (omega arith), few 1 (omega arith))
octal_few f (suc (suc (suc zero))) h few = omega (arith, few 0 (omega arith), few 1 (omega arith), few 2 (omega arith))
octal_few f (suc (suc (suc (suc zero)))) h few = omega (arith, few 0 (omega arith), few 1 (omega arith), few 2 (omega arith), few 3 (omega arith))
octal_few f (suc (suc (suc (suc (suc n))))) h few = absurd (omega arith)

octal_next : (f : ℕ → ℕ) (k : ℕ) → octal f (k + 1) ≡ 8 * octal f k + f k
unfolding octal
octal_next f k = ap (octal f) (let e : k + 1 ≡ suc k = omega arith in e)

pub rank_cap : (g : List ℕ) (s : ℕ) → rank_at g s ≤ 4
rank_cap g s = omega arith

-- ---- an edge of an accepted grammar table
module _ (g : List ℕ) (r i : ℕ) (known : KnownEdge g r i) where
  abbrev rank : ℕ
  rank = rank_at g (edge_label g r i)

  pub edge_ok : EdgeOk (grammar_of g) (rule_nodes g r) (edge_at (rule_of (grammar_of g) r).production.right.edges i)
  edge_ok =
      rw (right_nodes g r known.grammar known.rule) at
      ((rule_ok g r known.grammar known.rule).right.edge i (omega (arith, right_edges g r known.grammar known.rule, known.edge)))

  edge_nodes_lem : edge_nodes g r i ≡ tabulate rank (λ k. edge_node g r i k)
  edge_nodes_lem =
      ap (λ (R : Rule). (edge_at R.production.right.edges i).attachment) (rule_is g r known.rule) ∙ ap (λ (e : Edge). e.attachment) (edge_is g r i known.edge)

  pub edge_label_is : (edge_at (rule_of (grammar_of g) r).production.right.edges i).label ≡ edge_label g r i
  edge_label_is =
      ap (λ (R : Rule). (edge_at R.production.right.edges i).label) (rule_is g r known.rule) ∙ ap (λ (e : Edge). e.label) (edge_is g r i known.edge)

  pub edge_label_few : edge_label g r i < 64
  edge_label_few = omega (arith, edge_ok.known, edge_label_is, (checked_grammar_ok g known.grammar).symbol_count_is.upper)

  pub edge_rank : length (edge_nodes g r i) ≡ rank
  edge_rank = ap length edge_nodes_lem ∙ length_tabulate rank (λ k. edge_node g r i k)

  edge_node_is : (k : ℕ) → k < rank → get_or (edge_nodes g r i) k 0 ≡ edge_node g r i k
  edge_node_is k h = ap (λ (l : List ℕ). get_or l k 0) edge_nodes_lem ∙ get_d_tabulate rank (λ k. edge_node g r i k) k 0 h

  pub node_there : (k : ℕ) → k < rank → at (edge_nodes g r i) k ≡ edge_node g r i k
  node_there k h = ap (λ (l : List ℕ). at l k) edge_nodes_lem ∙ at_tabulate rank (λ k. edge_node g r i k) k h

  pub edge_node_known : (k x : ℕ) → k < rank → x ≡ edge_node g r i k → x < rule_nodes g r
  edge_node_known k x h e =
      let found = rw (node_there k h) at (occurs_at (edge_nodes g r i) k (omega (arith, edge_rank))) in
      omega (arith, edge_ok.listed.inside (edge_node g r i k) found)

  pub edge_node_few : (k x : ℕ) → k < rank → x ≡ edge_node g r i k → x < 8
  edge_node_few k x h e = omega (arith, nodes_few g r known.grammar known.rule, edge_node_known k x h e)

  -- its nodes as one number
  abbrev pub digits : ℕ → ℕ
  digits k = octal (λ k. edge_node g r i k) k

  pub digits_few : (k : ℕ) → k ≤ rank → digits k < 4096
  digits_few k h = octal_few (λ k. edge_node g r i k) k (omega (arith, rank_cap g (edge_label g r i))) (λ j l. edge_node_few j _ (omega arith) refl)

  pub digits_none : 0 ≡ digits 0
  unfolding octal
  digits_none = refl

  pub digits_next : (k w x : ℕ) → w ≡ digits k → x ≡ edge_node g r i k → 8 * w + x ≡ digits (k + 1)
  digits_next k w x a b = omega (arith, octal_next (λ k. edge_node g r i k) k)

  pub digits_all : (n k w : ℕ) → k ≤ n → n ≡ rank → n ≤ k → w ≡ digits k → n + 8 * w ≡ nodes_word g r i
  unfolding nodes_word
  digits_all n k w a b l d =
      let e : k ≡ rank = omega arith in
      omega (arith, ap digits e)

  pub nodes_word_few : nodes_word g r i < 32768
  unfolding nodes_word
  nodes_word_few = omega (arith, rank_cap g (edge_label g r i), digits_few rank (omega arith))

  pub word_rank : (w : ℕ) → w ≡ nodes_word g r i → (w % 8 ≡ rank) × (w / 8 ≡ digits rank)
  unfolding nodes_word
  word_rank w e = (omega (arith, rank_cap g (edge_label g r i)), omega (arith, rank_cap g (edge_label g r i)))

  pub digits_from : (w : ℕ) → w ≡ nodes_word g r i → w / 8 ≡ digits (w % 8)
  digits_from w e = (word_rank w e).1 ∙ ap digits (sym (word_rank w e).0)

  pub digits_last : (k w : ℕ) → 0 < k → k ≤ rank → w ≡ digits k → (w % 8 ≡ edge_node g r i (k - 1)) × (w / 8 ≡ digits (k - 1))
  digits_last k w p h e =
      let n : k ≡ (k - 1) + 1 = omega arith in
      let s : w ≡ 8 * digits (k - 1) + edge_node g r i (k - 1) = e ∙ ap digits n ∙ octal_next (λ k. edge_node g r i k) (k - 1) in
      let few : edge_node g r i (k - 1) < 8 = edge_node_few (k - 1) _ (omega arith) refl in
      (omega arith, omega arith)

  -- the loop
  module _ (l : List ℕ) (eight : length l ≡ 8) where
    abbrev pub L : List ℕ
    L = take rank l

    pub attach_none : (label k : ℕ) (f : List ℕ) → f ≡ replicate 8 unplaced → label ≡ edge_label g r i → k ≡ rank_at g label → (k ≤ rank) × MapFrom (edge_nodes g r i) L k f
    attach_none label k f z a b =
        let e : k ≡ rank = b ∙ ap (rank_at g) a in
        (omega arith, subst (MapFrom (edge_nodes g r i) L k) (sym z) (map_none (edge_nodes g r i) L k (e ∙ sym edge_rank)))

    pub attach_next : (k x : ℕ) (f : List ℕ) → 0 < k → x ≡ edge_node g r i (k - 1) → (k ≤ rank) × MapFrom (edge_nodes g r i) L k f
        → (k - 1 ≤ rank) × MapFrom (edge_nodes g r i) L (k - 1) (set f x (get_or l (k - 1) 0))
    attach_next k x f p e (fits, before) =
        let h : k - 1 < rank = omega arith in (
          omega arith,
          map_next (edge_nodes g r i) L f k (k - 1) x (get_or l (k - 1) 0) (omega arith) (omega (arith, edge_rank)) (omega (arith, length-take-le rank l (omega arith)))
              (e ∙ sym (edge_node_is (k - 1) h)) (sym (get_or-take rank l (k - 1) 0 h)) (edge_node_few (k - 1) x h e) before,
        )

    pub attach_done : (k : ℕ) (f : List ℕ) → k ≤ 0 → MapFrom (edge_nodes g r i) L k f → f ≡ padded (attach (rule_nodes g r) (edge_nodes g r i) L)
    attach_done k f z whole =
        let e : k ≡ 0 = omega arith in
        map_done (rule_nodes g r) (edge_nodes g r i) L f (nodes_few g r known.grammar known.rule) edge_ok.listed.inside (rw e at whole)

-- ---- what callers read off a map in eight places
pub take_padded : (n : ℕ) (F : List ℕ) → length F ≡ n → n ≤ 8 → take n (padded F) ≡ F
take_padded n F size few =
    let eight : length (take n (padded F)) ≡ n = length-take-le n (padded F) (omega (arith, length_padded F)) in
    ext_get_or unplaced (take n (padded F)) F (eight ∙ sym size)
    (λ x h. get_or-take n (padded F) x unplaced (omega (arith, h, eight)) ∙ at_padded F x (omega (arith, h, eight)))

pub length_attach : (n : ℕ) (A L : List ℕ) → length (attach n A L) ≡ n
unfolding attach
length_attach n A L = length_tabulate n (λ x. node_for x A L)

-- an edge's map has at the node of each place the node of the list there
node_place : (A L : List ℕ) (k : ℕ) → ((x : ℕ) → occurs x A ≤ 1) → k < length A → k < length L → node_for (at A k) A L ≡ at L k
unfolding occurs
node_place [] L k once p q = absurd (omega arith)
node_place (a ∷ A) [] k once p q = absurd (omega arith)
node_place (a ∷ A) (b ∷ L) zero once p q = node_first a a b A L refl
node_place (a ∷ A) (b ∷ L) (suc k) once p q =
    node_later (at A k) a b A L (λ e. omega (arith, once a, hit_self a, ap (λ x. occurs x A) e, occurs_at A k (omega arith)))
    ∙ node_place A L k (λ x. omega (arith, once x)) (omega arith) (omega arith)

pub attach_place : (n : ℕ) (A L : List ℕ) (k x : ℕ) → ((x : ℕ) → occurs x A ≤ 1) → k < length A → k < length L → x ≡ at A k → x < n → at (attach n A L) x ≡ at L k
unfolding attach
attach_place n A L k x once p q e h = at_tabulate n (λ x. node_for x A L) x h ∙ ap (λ x. node_for x A L) e ∙ node_place A L k once p q
