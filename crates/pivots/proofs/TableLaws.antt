-- The pivots that are taken are pivots, and read off a table word by word.
use mathlib.Core.Path.{◌≡◌, refl, sym, ap, ap₂, ◌∙◌, subst}
use mathlib.Core.Bool.{Bool, true, false, ◌&&◌, ◌||◌, cond, true≢false}
use mathlib.Core.List.{List}
use Prim.Native.Nat.{ℕ, zero, suc, ◌+◌, ◌-◌, ◌*◌, ◌/◌, ◌%◌, ◌^◌, ◌≤◌, ◌<◌}
use native.Mathlib.Omega.{arith}
use native.Mathlib.Decide.{dec_lt, ℕ_discrete}
use native.Mathlib.Numerals.{add-one}
use lib.Bits.{or_lt}
use lib.Pow.{pow-lt}
use lib.ListN.{length, length-set, get_or, set, replicate, get_or-replicate}
use lib.Seq.{get_or-set_same, get_or-set_other}
use lib.Dec.{eqb}
use borrow.Author.Tests.{eq-eqb, ne_eqb, lt-ltb, le-ltb}
use Rattle.std.specs.Prelude.{Some, None}
use Rattle.masks.specs.Masks.{member, single, ◌∪◌, Added}
use Rattle.hrg.specs.Counts.{occurs}
use Rattle.hrg.specs.Grammars.{Edge, Rule, Grammar, PlanNode, leaf, introduce, join, rule_of, right_of, plan_of, plan_node, edge_at}
use Rattle.hrg.specs.Trees.{at}
use Rattle.hrg.specs.Items.{is_open_at}
use Rattle.hrg.specs.WellFormed.{children}
use Rattle.hrg.proofs.Sums.{hit_self, at_tabulate}
use Rattle.hrg.proofs.Degrees.{and_true}
use Rattle.hrg.proofs.Plans.{introduce_known, introduce_lower, join_lower}
use Rattle.questions.specs.Layout.{place_of, rank_at, rule_count, rule_nodes, rule_edges, edge_label, edge_node, plan_kind, plan_first, plan_second}
use Rattle.questions.specs.Checking.{check_grammar}
use Rattle.questions.specs.Abstract.{grammar_of}
use Rattle.questions.specs.Questions.{judge}
use Rattle.questions.proofs.WellFormedAccepted.{rule_is, edge_is}
use Rattle.questions.proofs.WellFormedQuestions.{passes_plan}
use Rattle.questions.proofs.WellFormedLent.{checked_grammar_stands}
use Rattle.joins.specs.Joins.{KnownNode, KnownEdge, OpenAt, edge_nodes}
use Rattle.joins.proofs.Known.{plan_ok, plan_size, plan_few, rule_few, right_nodes, nodes_few}
use Rattle.joins.proofs.EdgeMaps.{edge_rank, edge_node_few}
use Rattle.joins.proofs.PlanMasks.{node_is, introduced_is, joined_is}
use Rattle.rules.specs.Rules.{Above}
use Rattle.rules.specs.Wants.{want_of}
use Rattle.rules.proofs.WantLaws.{unknown_rule, unknown_node, rules_few}
use Rattle.rules.proofs.Meeting.{rule, label_few, want_label, few, want_first, want_second}
use Rattle.keys.specs.Pivots.{position_of, node_of, EdgePivot, last_to, shared_node, PivotBelow, PivotOf}
use Rattle.keys.specs.Keys.{key_word, place_word, rule_places, asked_from, uses_from, places_from, sought_from, key_table_words, rule_place, rule_word, symbol_word, uses_in, KeyTable, Entered, Placed}
use Rattle.keys.proofs.KeyLaws.{word_none, place_nowhere}

-- ---- an edge
pub no_edge_pivot : (R : Rule) (p : ℕ) (A : List ℕ) → EdgePivot R p A 72 × (72 ≤ 72)
no_edge_pivot R p A = (record { position = λ n. absurd (n refl); node = λ n. absurd (n refl); opened = λ n. absurd (n refl) }, omega arith)

module _ (g : List ℕ) (r i : ℕ) (known : KnownEdge g r i) (label rank : ℕ) (a : label ≡ edge_label g r i) (b : rank ≡ rank_at g label) where
  at_edge : (k : ℕ) → k < rank → at (edge_nodes g r i) k ≡ edge_node g r i k
  at_edge k h =
      let size : rank ≡ rank_at g (edge_label g r i) = b ∙ ap (rank_at g) a in
      ap (λ (R : Rule). at (edge_at R.production.right.edges i).attachment k) (rule_is g r known.rule)
      ∙ ap (λ (e : Edge). at e.attachment k) (edge_is g r i known.edge)
      ∙ at_tabulate (rank_at g (edge_label g r i)) (λ k. edge_node g r i k) k (omega arith)

  pub node_few : (k v : ℕ) → k < rank → v ≡ edge_node g r i k → v < 8
  node_few k v h e = let size : rank ≡ rank_at g (edge_label g r i) = b ∙ ap (rank_at g) a in edge_node_few g r i known k v (omega arith) e

  pub edge_pivot : (p m : ℕ) → OpenAt g r p m → (k v : ℕ) (t : Bool) → k < rank → v ≡ edge_node g r i k → t ≡ member m v → t ≡ true
      → EdgePivot (rule_of (grammar_of g) r) p (edge_nodes g r i) (16 * k + v) × (16 * k + v ≤ 72)
  edge_pivot p m o k v t h e q there =
      let size : rank ≡ rank_at g (edge_label g r i) = b ∙ ap (rank_at g) a in
      let few : v < 8 = node_few k v h e in
      let x : (16 * k + v) / 16 ≡ k = omega arith in
      let y : (16 * k + v) % 16 ≡ v = omega arith in
      let opened = ap (is_open_at (rule_of (grammar_of g) r) p) y ∙ sym (o.members v (omega arith)) ∙ sym q ∙ there in
      (record { position = λ n. omega (arith, edge_rank g r i known); node = λ n. y ∙ e ∙ sym (at_edge k h) ∙ ap (at (edge_nodes g r i)) (sym x); opened = λ n. opened }, omega arith)

-- ---- two children
last_ext : (n : ℕ) (s t : ℕ → Bool) → ((x : ℕ) → s x ≡ t x) → last_to n s ≡ last_to n t
unfolding last_to
last_ext zero s t h = refl
last_ext (suc n) s t h = ap₂ (λ (b : Bool) (k : ℕ). cond b n k) (h n) (last_ext n s t h)

last_known : (n : ℕ) (t : ℕ → Bool) → last_to n t < 8 → last_to n t < n
unfolding last_to
last_known zero t h = absurd (omega arith)
last_known (suc n) t h = go (t n) h (last_known n t)
  where
    go : (b : Bool) → cond b n (last_to n t) < 8 → (last_to n t < 8 → last_to n t < n) → cond b n (last_to n t) < suc n
    go true h rest = omega arith
    go false h rest = omega (arith, rest h)

-- it passes
last_passes : (n : ℕ) (t : ℕ → Bool) → last_to n t < 8 → t (last_to n t) ≡ true
unfolding last_to
last_passes zero t h = absurd (omega arith)
last_passes (suc n) t h = go (t n) refl h (last_passes n t)
  where
    go : (b : Bool) → t n ≡ b → cond b n (last_to n t) < 8 → (last_to n t < 8 → t (last_to n t) ≡ true) → t (cond b n (last_to n t)) ≡ true
    go true e h rest = e
    go false e h rest = rest h

and_comm : (a b : Bool) → (a && b) ≡ (b && a)
and_comm true true = refl
and_comm true false = refl
and_comm false true = refl
and_comm false false = refl

shared_comm : (G : Grammar) (r p q : ℕ) → shared_node G r p q ≡ shared_node G r q p
unfolding shared_node
shared_comm G r p q = last_ext (right_of G r).nodes _ _ (λ x. and_comm (is_open_at (rule_of G r) p x) (is_open_at (rule_of G r) q x))

shared_known : (G : Grammar) (r p q : ℕ) → shared_node G r p q < 8 → shared_node G r p q < (right_of G r).nodes
unfolding shared_node
shared_known G r p q h = last_known (right_of G r).nodes _ h

-- it is open at both
shared_open : (G : Grammar) (r p q : ℕ) → shared_node G r p q < 8 → (is_open_at (rule_of G r) p (shared_node G r p q) ≡ true) × (is_open_at (rule_of G r) q (shared_node G r p q) ≡ true)
unfolding shared_node
shared_open G r p q h = and_true (is_open_at (rule_of G r) p (shared_node G r p q)) (is_open_at (rule_of G r) q (shared_node G r p q)) (last_passes (right_of G r).nodes _ h)

-- the search: no node from v on is open at both
abbrev both_open : List ℕ → ℕ → ℕ → ℕ → ℕ → Bool
both_open g r p q x = is_open_at (rule_of (grammar_of g) r) p x && is_open_at (rule_of (grammar_of g) r) q x

pub record Searched (g : List ℕ) (r p q v : ℕ) : Type 0 where
  pub few : v ≤ 8
  pub rest : last_to v (both_open g r p q) ≡ shared_node (grammar_of g) r p q

module _ (g : List ℕ) (r p q here there : ℕ) (known : KnownNode g r p) (a : OpenAt g r p here) (b : OpenAt g r q there) where
  abbrev test : ℕ → Bool
  test = both_open g r p q

  pub search_start : (v : ℕ) → v ≡ rule_nodes g r → Searched g r p q v
  unfolding shared_node
  search_start v e =
      let n = right_nodes g r known.grammar known.rule in
      record { few = omega (arith, nodes_few g r known.grammar known.rule); rest = ap (λ n. last_to n test) (e ∙ sym n) }

  module _ (v : ℕ) (s : Searched g r p q v) (positive : 0 < v) (x y : Bool) (c : x ≡ member here (v - 1)) (d : y ≡ member there (v - 1)) where
    turn : last_to v test ≡ cond (x && y) (v - 1) (last_to (v - 1) test)
    unfolding last_to
    turn =
        let e : v ≡ v - 1 + 1 = omega arith in
        let few : v - 1 < 64 = omega (arith, s.few) in
        ap (λ n. last_to n test) (e ∙ add-one (v - 1))
        ∙ ap (λ (t : Bool). cond t (v - 1) (last_to (v - 1) test)) (sym (ap₂ (λ (a b : Bool). a && b) (c ∙ a.members (v - 1) few) (d ∙ b.members (v - 1) few)))

    pub search_hit : (x && y) ≡ true → (v - 1 ≡ shared_node (grammar_of g) r p q) × (v - 1 ≤ 8)
    search_hit t = (sym (turn ∙ ap (λ (t : Bool). cond t (v - 1) (last_to (v - 1) test)) t) ∙ s.rest, omega (arith, s.few))

    pub search_miss : (x && y) ≡ false → Searched g r p q (v - 1)
    search_miss t = record { few = omega (arith, s.few); rest = sym (turn ∙ ap (λ (t : Bool). cond t (v - 1) (last_to (v - 1) test)) t) ∙ s.rest }

  pub search_end : (v : ℕ) → Searched g r p q v → v ≤ 0 → (8 ≡ shared_node (grammar_of g) r p q) × (8 ≤ 8)
  unfolding last_to
  search_end v s h = let e : 0 ≡ v = omega arith in (ap (λ n. last_to n test) e ∙ s.rest, omega arith)

-- ---- what plan node q asks, by the fields of its line
-- the kind of a plan node that is there, by the question that its line has passed
kind_few : (g : List ℕ) (r q : ℕ) → KnownNode g r q → plan_kind g r q ≤ 2
unfolding judge place_of
kind_few g r q known =
    let (fs, s) = ((checked_grammar_stands g known.grammar).rule r known.rule).plan q known.node in
    omega (arith, s.there 0 (omega arith), ((passes_plan g r q fs).sound s.passed).kind)

module _ (g : List ℕ) (r p q : ℕ) (known : KnownNode g r q) (kind first second : ℕ) (a : kind ≡ plan_kind g r q) (b : first ≡ plan_first g r q) (c : second ≡ plan_second g r q) where
  abbrev node : PlanNode
  node = plan_node (plan_of (grammar_of g) r) q

  clash : ◌≡◌ {A = ℕ} 0 1 → ⊥
  clash e = omega arith

  pub below_leaf : kind ≡ 0 → PivotBelow g r p q 72 × (72 ≤ 72)
  below_leaf e =
      let n : node ≡ leaf = node_is g r q known kind a ∙ rw e in
      (record { edge = λ i d. absurd (clash (cc)); first = λ i d. absurd (clash (cc)); second = λ i d. absurd (clash (cc)) }, omega arith)

  -- an edge
  module _ (one : kind ≡ 1) where
    introduced : node ≡ introduce first second
    introduced = introduced_is g r q known kind first second a b c one

    pub below_other : (first ≡ p → ⊥) → PivotBelow g r p q 72 × (72 ≤ 72)
    below_other o =
        let n = introduced in
        (record { edge = λ i d. absurd (o (cc)); first = λ i d. absurd (clash (cc)); second = λ i d. absurd (clash (cc)) }, omega arith)

    module _ (child : first ≡ p) where
      pub edge_known : KnownNode g r p × KnownEdge g r second
      edge_known =
          let ok = plan_ok g r known.grammar known.rule in (
            record { grammar = known.grammar; rule = known.rule; node = omega (arith, introduce_lower (rule_edges g r) (plan_of (grammar_of g) r) ok q first second introduced, known.node) },
            record { grammar = known.grammar; rule = known.rule; edge = introduce_known (rule_edges g r) (plan_of (grammar_of g) r) ok q first second introduced },
          )

      pub below_edge : (w : ℕ) → EdgePivot (rule_of (grammar_of g) r) p (edge_nodes g r second) w × (w ≤ 72) → PivotBelow g r p q w × (w ≤ 72)
      below_edge w (x, few) =
          let n = introduced in (
            record {
              edge = λ i d. let s : second ≡ i = cc in subst (λ i. EdgePivot (rule_of (grammar_of g) r) p (edge_nodes g r i) w) s x;
              first = λ i d. absurd (clash (cc));
              second = λ i d. absurd (clash (cc));
            },
            few,
          )

  -- two children
  module _ (two : kind ≡ 2) where
    both : node ≡ join first second
    both = joined_is g r q known kind first second a b c (λ e. omega arith) (λ e. omega arith)

    known_child : (d : ℕ) → d < q → KnownNode g r d
    known_child d l = record { grammar = known.grammar; rule = known.rule; node = omega (arith, known.node) }

    lower : (first < q) × (second < q)
    lower = join_lower (rule_edges g r) (plan_of (grammar_of g) r) (plan_ok g r known.grammar known.rule) q first second both

    pub first_known : first ≡ p → KnownNode g r p × KnownNode g r second
    first_known e = (known_child p (omega (arith, lower.0)), known_child second lower.1)

    pub second_known : second ≡ p → KnownNode g r p × KnownNode g r first
    second_known e = (known_child p (omega (arith, lower.1)), known_child first lower.0)

    node_of_is : (v : ℕ) → v ≤ 8 → node_of (64 + v) ≡ v
    node_of_is v h = omega arith

    pub below_first : first ≡ p → (v : ℕ) → (v ≡ shared_node (grammar_of g) r p second) × (v ≤ 8) → PivotBelow g r p q (64 + v) × (64 + v ≤ 72)
    below_first e v (s, few) =
        let n = both in
        let w = node_of_is v few in (
          record {
            edge = λ i d. absurd (clash (cc));
            first = λ i d. let t : second ≡ i = cc in w ∙ s ∙ ap (shared_node (grammar_of g) r p) t;
            second = λ i d. let t : second ≡ i = cc in w ∙ s ∙ ap (shared_node (grammar_of g) r p) t;
          },
          omega arith,
        )

    module _ (other : first ≡ p → ⊥) where
      pub below_second : second ≡ p → (v : ℕ) → (v ≡ shared_node (grammar_of g) r p first) × (v ≤ 8) → PivotBelow g r p q (64 + v) × (64 + v ≤ 72)
      below_second e v (s, few) =
          let n = both in
          let w = node_of_is v few in (
            record {
              edge = λ i d. absurd (clash (cc));
              first = λ i d. absurd (other (cc));
              second = λ i d. let t : first ≡ i = cc in w ∙ s ∙ ap (shared_node (grammar_of g) r p) t;
            },
            omega arith,
          )

      pub below_neither : (second ≡ p → ⊥) → PivotBelow g r p q 72 × (72 ≤ 72)
      below_neither neither =
          let n = both in
          (record { edge = λ i d. absurd (clash (cc)); first = λ i d. absurd (other (cc)); second = λ i d. absurd (neither (cc)) }, omega arith)

  -- there is no other kind
  pub below_unknown : (kind ≡ 0 → ⊥) → (kind ≡ 1 → ⊥) → (kind ≡ 2 → ⊥) → PivotBelow g r p q 72 × (72 ≤ 72)
  below_unknown x y z = absurd (omega (arith, kind_few g r q known))

-- ---- what all plan nodes ask is what the one above asks
module _ (p : ℕ) (n : PlanNode) where
  child_edge : (i : ℕ) → n ≡ introduce p i → 0 < occurs p (children n)
  unfolding occurs
  child_edge i e = omega (arith, ap (λ (n : PlanNode). occurs p (children n)) e, hit_self p)

  child_first : (b : ℕ) → n ≡ join p b → 0 < occurs p (children n)
  unfolding occurs
  child_first b e = omega (arith, ap (λ (n : PlanNode). occurs p (children n)) e, hit_self p)

  child_second : (a : ℕ) → n ≡ join a p → 0 < occurs p (children n)
  unfolding occurs
  child_second a e = omega (arith, ap (λ (n : PlanNode). occurs p (children n)) e, hit_self p)

module _ (g : List ℕ) (r p : ℕ) where
  abbrev at_node : ℕ → PlanNode
  at_node q = plan_node (plan_of (grammar_of g) r) q

  pub pivot_missing : Above g r p None → PivotOf g r p 72
  pivot_missing above = record {
    small = omega arith;
    each = λ q l.
        let none = above.nowhere.none q l in
        record {
          edge = λ i e. absurd (omega (arith, none, child_edge p (at_node q) i e));
          first = λ b e. absurd (omega (arith, none, child_first p (at_node q) b e));
          second = λ a e. absurd (omega (arith, none, child_second p (at_node q) a e));
        };
  }

  pub pivot_found : (x : ℕ) → Above g r p (Some x) → (w : ℕ) → PivotBelow g r p x w × (w ≤ 72) → PivotOf g r p w
  pivot_found x above w (below, few) =
      let k = above.known in
      record {
        small = few;
        each = λ q l.
            let only : 0 < occurs p (children (at_node q)) → at_node x ≡ at_node q
            = λ o. ap at_node (sym (above.parent.only q (omega (arith, plan_size g r k.grammar k.rule)) o)) in
            record {
              edge = λ i e. below.edge i (only (child_edge p (at_node q) i e) ∙ e);
              first = λ b e. below.first b (only (child_first p (at_node q) b e) ∙ e);
              second = λ a e. below.second a (only (child_second p (at_node q) a e) ∙ e);
            };
      }

-- ---- the table
-- what it tells of place k, rule r and plan node p, where w is the pivot
pub record Told (g t : List ℕ) (k r p w : ℕ) : Type 0 where
  pub is : (want_of (grammar_of g) r p ≡ 80 → ⊥) → PivotOf g r p w
  pub listed : get_or t k 0 ≡ key_word 2 (want_of (grammar_of g) r p) w r p
  pub asked : get_or t (asked_from + k) 0 ≡ key_word 1 (want_of (grammar_of g) r p) w r (want_of (grammar_of g) r p % 64)
  pub used : want_of (grammar_of g) r p < 64 → member (get_or t (uses_from + want_of (grammar_of g) r p) 0) (position_of w) ≡ true

-- the places before i are told, and the words from i on as they were made
pub record Filled (g t : List ℕ) (i : ℕ) : Type 0 where
  pub pivot : ℕ → ℕ
  pub size : length t ≡ key_table_words
  pub before : (k : ℕ) → k < i → k < rule_places → Told g t k (k / 16) (k % 16) (pivot k)
  pub after : (k : ℕ) → i ≤ k → k < rule_places → (get_or t k 0 ≡ 0) × (get_or t (asked_from + k) 0 ≡ 0)

pub filled_none : (g : List ℕ) → Filled g (replicate key_table_words 0) 0
filled_none g = record {
  pivot = λ k. 72;
  size = refl;
  before = λ k l. absurd (omega arith);
  after = λ k l m. (get_or-replicate key_table_words k 0 0 (omega arith), get_or-replicate key_table_words (asked_from + k) 0 0 (omega arith));
}

module _ (g t : List ℕ) (i m : ℕ) (f : Filled g t i) (l : i < rule_places) (e : m ≡ i + 1) (want : ℕ) (asks : want ≡ want_of (grammar_of g) (i / 16) (i % 16)) where
  abbrev wanted : ℕ → ℕ
  wanted k = want_of (grammar_of g) (k / 16) (k % 16)

  -- nothing is wanted: the words stay 0
  pub filled_idle : want ≡ 80 → Filled g t m
  filled_idle idle = record { pivot = f.pivot; size = f.size; before = λ k d b. told k d b (ℕ_discrete i k); after = λ k d b. f.after k (omega arith) b }
    where
      told : (k : ℕ) → k < m → k < rule_places → Dec (i ≡ k) → Told g t k (k / 16) (k % 16) (f.pivot k)
      told k d b (yes q) =
          let n : wanted k ≡ 80 = ap wanted (sym q) ∙ sym asks ∙ idle in
          let z = f.after k (omega arith) b in
          record {
            is = λ x. absurd (x n);
            listed = z.0 ∙ sym (word_none 2 (wanted k) (f.pivot k) (k / 16) (k % 16) n);
            asked = z.1 ∙ sym (word_none 1 (wanted k) (f.pivot k) (k / 16) (wanted k % 64) n);
            used = λ h. absurd (omega arith);
          }
      told k d b (no q) = f.before k (let x : k < i = omega arith in x) b

  -- the words of pivot w
  module _ (w : ℕ) (is : PivotOf g (i / 16) (i % 16) w) (t' : List ℕ) (n : Entered t i want w t') where
    pub filled_more : Filled g t' m
    filled_more = record {
      pivot = λ k. cond (eqb k i) w (f.pivot k);
      size = n.size;
      before = λ k d b. told k d b (ℕ_discrete k i);
      after = λ k d b. (
        n.others k (omega arith) (λ q. omega arith) (λ q. omega arith) ∙ (f.after k (omega arith) b).0,
        n.others (asked_from + k) (omega arith) (λ q. omega arith) (λ q. omega arith) ∙ (f.after k (omega arith) b).1,
      );
    }
      where
        here : Told g t' i (i / 16) (i % 16) w
        here = let new = subst (λ s. Entered t i s w t') asks n in record { is = λ x. is; listed = new.listed; asked = new.asked; used = new.used }

        kept : (k v : ℕ) → k < rule_places → (k ≡ i → ⊥) → Told g t k (k / 16) (k % 16) v → Told g t' k (k / 16) (k % 16) v
        kept k v b q o = record {
          is = o.is;
          listed = n.others k (omega arith) q (λ z. omega arith) ∙ o.listed;
          asked = n.others (asked_from + k) (omega arith) (λ z. omega arith) (λ z. q (omega arith)) ∙ o.asked;
          used = λ h. n.kept (wanted k) (position_of v) h (omega (arith, (o.is (λ z. omega arith)).small)) (o.used h);
        }

        told : (k : ℕ) → k < m → k < rule_places → Dec (k ≡ i) → Told g t' k (k / 16) (k % 16) (cond (eqb k i) w (f.pivot k))
        told k d b (yes q) = rw (eq-eqb k i q) (subst (λ k. Told g t' k (k / 16) (k % 16) w) (sym q) here)
        told k d b (no q) = rw (ne_eqb k i q) (kept k (f.pivot k) b q (f.before k (let x : k < i = omega (arith, q) in x) b))

-- ---- the words of one place, as they come
or_first : (a b : Bool) → a ≡ true → (a || b) ≡ true
or_first true b h = refl
or_first false b h = absurd (true≢false (sym h))

or_second : (a b : Bool) → b ≡ true → (a || b) ≡ true
or_second true b h = refl
or_second false b h = h

-- a set in half a word, with a number below 32 more
pub with_small : (m e u : ℕ) → Added m e u → m < 4294967296 → e < 32 → u < 4294967296
unfolding ◌∪◌ single
with_small m e u added h l = omega (arith, added.value (omega arith), or_lt 32 m (2 ^ e) h (pow-lt l))

module _ (t : List ℕ) (i want w x y : ℕ) (size : length t ≡ key_table_words) (l : i < rule_places) (a : x ≡ key_word 2 want w (i / 16) (i % 16)) (b : y ≡ key_word 1 want w (i / 16) (want % 64)) where
  abbrev two : List ℕ
  two = set (set t i x) (asked_from + i) y

  pub size_two : length two ≡ key_table_words
  size_two = simp length-set size

  first : get_or two i 0 ≡ key_word 2 want w (i / 16) (i % 16)
  first = get_or-set_other (set t i x) (asked_from + i) i y 0 (λ q. omega arith) ∙ get_or-set_same t i x 0 (omega arith) ∙ a

  second : get_or two (asked_from + i) 0 ≡ key_word 1 want w (i / 16) (want % 64)
  second = get_or-set_same (set t i x) (asked_from + i) y 0 (simp length-set (omega arith)) ∙ b

  rest : (k : ℕ) → (k ≡ i → ⊥) → (k ≡ asked_from + i → ⊥) → get_or two k 0 ≡ get_or t k 0
  rest k p q = get_or-set_other (set t i x) (asked_from + i) k y 0 q ∙ get_or-set_other t i k x 0 p

  -- of one that wants no symbol
  pub entered_two : 64 ≤ want → (new : List ℕ) → new ≡ two → Entered t i want w new
  entered_two h new e = subst (λ (t' : List ℕ). Entered t i want w t') (sym e) (record {
    size = size_two;
    listed = first;
    asked = second;
    others = λ k d p q. rest k p q;
    kept = λ s e c d m. ap (λ u. member u e) (rest (uses_from + s) (λ z. omega arith) (λ z. omega arith)) ∙ m;
    used = λ z. absurd (omega arith);
  })

  -- of one that wants a symbol, whose uses are u now
  module _ (known : want < 64) (few : w ≤ 72) (u : ℕ) (added : Added (get_or two (uses_from + want) 0) (position_of w) u) where
    abbrev three : List ℕ
    three = set two (uses_from + want) u

    other : (k : ℕ) → (k ≡ uses_from + want → ⊥) → get_or three k 0 ≡ get_or two k 0
    other k q = get_or-set_other two (uses_from + want) k u 0 q

    now_is : get_or three (uses_from + want) 0 ≡ u
    now_is = get_or-set_same two (uses_from + want) u 0 (omega (arith, size_two))

    kept : (s e : ℕ) → s < 64 → e < 64 → member (get_or t (uses_from + s) 0) e ≡ true → Dec (s ≡ want) → member (get_or three (uses_from + s) 0) e ≡ true
    kept s e c d m (yes q) =
        ap (λ s. member (get_or three (uses_from + s) 0) e) q
        ∙ ap (λ u. member u e) now_is
        ∙ added.members e d
        ∙ or_first (member (get_or two (uses_from + want) 0) e) (eqb e (position_of w))
        (ap (λ u. member u e) (rest (uses_from + want) (λ z. omega arith) (λ z. omega arith)) ∙ ap (λ s. member (get_or t (uses_from + s) 0) e) (sym q) ∙ m)
    kept s e c d m (no q) = ap (λ u. member u e) (other (uses_from + s) (λ z. q (omega arith)) ∙ rest (uses_from + s) (λ z. omega arith) (λ z. omega arith)) ∙ m

    pub entered_three : (new : List ℕ) → new ≡ three → Entered t i want w new
    entered_three new e = subst (λ (t' : List ℕ). Entered t i want w t') (sym e) (record {
      size = simp length-set size;
      listed = other i (λ z. omega arith) ∙ first;
      asked = other (asked_from + i) (λ z. omega arith) ∙ second;
      others = λ k d p q. other k (λ z. omega arith) ∙ rest k p q;
      kept = λ s e c d m. kept s e c d m (ℕ_discrete s want);
      used = λ z.
          ap (λ u. member u (position_of w)) now_is
          ∙ added.members (position_of w) (omega arith)
          ∙ or_second (member (get_or two (uses_from + want) 0) (position_of w)) (eqb (position_of w) (position_of w)) (eq-eqb (position_of w) (position_of w) refl);
    })

-- ---- the words of the symbols
pub placed_none : (t : List ℕ) → length t ≡ key_table_words → Placed t 0 t
placed_none t h = record { size = h; others = λ k l. refl; place = λ s l. absurd (omega arith); sought = λ s l. absurd (omega arith) }

module _ (t t' : List ℕ) (s u x y : ℕ) (f : Placed t s t') (l : s < 64) (is : u ≡ get_or t' (uses_from + s) 0) (a : x ≡ place_word 1 s u) (b : y ≡ place_word 2 s u) where
  abbrev pair : List ℕ
  pair = set (set t' (places_from + s) x) (sought_from + s) y

  uses_are : u ≡ get_or t (uses_from + s) 0
  uses_are = is ∙ f.others (uses_from + s) (omega arith)

  past : (k : ℕ) → (k ≡ places_from + s → ⊥) → (k ≡ sought_from + s → ⊥) → get_or pair k 0 ≡ get_or t' k 0
  past k p q = get_or-set_other (set t' (places_from + s) x) (sought_from + s) k y 0 q ∙ get_or-set_other t' (places_from + s) k x 0 p

  pub placed_more : (m : ℕ) → m ≡ s + 1 → (new : List ℕ) → new ≡ pair → Placed t m new
  placed_more m e new q = subst (λ (v : List ℕ). Placed t m v) (sym q) (record {
    size = simp length-set f.size;
    others = λ k d. past k (λ z. omega arith) (λ z. omega arith) ∙ f.others k d;
    place = λ k d. place k d (ℕ_discrete k s);
    sought = λ k d. sought k d (ℕ_discrete k s);
  })
    where
      place : (k : ℕ) → k < m → Dec (k ≡ s) → get_or pair (places_from + k) 0 ≡ place_word 1 k (get_or t (uses_from + k) 0)
      place k d (yes z) =
          ap (λ k. get_or pair (places_from + k) 0) z
          ∙ get_or-set_other (set t' (places_from + s) x) (sought_from + s) (places_from + s) y 0 (λ q. omega arith)
          ∙ get_or-set_same t' (places_from + s) x 0 (omega (arith, f.size))
          ∙ a ∙ ap (place_word 1 s) uses_are ∙ ap (λ k. place_word 1 k (get_or t (uses_from + k) 0)) (sym z)
      place k d (no z) = past (places_from + k) (λ q. z (omega arith)) (λ q. omega arith) ∙ f.place k (omega (arith, z))

      sought : (k : ℕ) → k < m → Dec (k ≡ s) → get_or pair (sought_from + k) 0 ≡ place_word 2 k (get_or t (uses_from + k) 0)
      sought k d (yes z) =
          ap (λ k. get_or pair (sought_from + k) 0) z
          ∙ get_or-set_same (set t' (places_from + s) x) (sought_from + s) y 0 (simp length-set (omega (arith, f.size)))
          ∙ b ∙ ap (place_word 2 s) uses_are ∙ ap (λ k. place_word 2 k (get_or t (uses_from + k) 0)) (sym z)
      sought k d (no z) = past (sought_from + k) (λ q. omega arith) (λ q. z (omega arith)) ∙ f.sought k (omega (arith, z))

pub placed_all : (t t' : List ℕ) (s : ℕ) → s ≤ 64 → 64 ≤ s → Placed t s t' → Placed t 64 t'
placed_all t t' s a b f = let e : s ≡ 64 = omega arith in subst (λ s. Placed t s t') e f

-- ---- a word of it
module _ (t : List ℕ) (from r p : ℕ) where
  pub rule_far : 64 ≤ r → 0 ≡ rule_word t from r p
  unfolding rule_word
  rule_far h = rw (le-ltb r 64 h)

  pub rule_past : r < 64 → 16 ≤ p → 0 ≡ rule_word t from r p
  unfolding rule_word
  rule_past a h = rw (lt-ltb r 64 a, le-ltb p 16 h)

  rule_there : r < 64 → p < 16 → get_or t (from + rule_place r p) 0 ≡ rule_word t from r p
  unfolding rule_word
  rule_there a b = rw (lt-ltb r 64 a, lt-ltb p 16 b)

  pub rule_read : (k : ℕ) → r < 64 → p < 16 → k ≡ rule_place r p → get_or t (from + k) 0 ≡ rule_word t from r p
  rule_read k a b e = ap (λ k. get_or t (from + k) 0) e ∙ rule_there a b

module _ (t : List ℕ) (from s : ℕ) where
  pub symbol_far : 64 ≤ s → 0 ≡ symbol_word t from s
  unfolding symbol_word
  symbol_far h = rw (le-ltb s 64 h)

  pub symbol_there : s < 64 → get_or t (from + s) 0 ≡ symbol_word t from s
  unfolding symbol_word
  symbol_there h = rw (lt-ltb s 64 h)

uses_there : (t : List ℕ) (s : ℕ) → s < 64 → get_or t (uses_from + s) 0 ≡ uses_in t s
unfolding uses_in
uses_there t s h = symbol_there t uses_from s h

uses_far : (t : List ℕ) (s : ℕ) → 64 ≤ s → 0 ≡ uses_in t s
unfolding uses_in
uses_far t s h = symbol_far t uses_from s h

-- ---- the whole
module _ (g : List ℕ) (checked : check_grammar g ≡ true) (t : List ℕ) (n i : ℕ) (e : n ≡ 16 * rule_count g) (l : n ≤ i) (f : Filled g t i) (t' : List ℕ) (d : Placed t 64 t') where
  abbrev pivot_at : ℕ → ℕ → ℕ
  pivot_at r p = f.pivot (rule_place r p)

  abbrev want : ℕ → ℕ → ℕ
  want r p = want_of (grammar_of g) r p

  told : (r p : ℕ) → r < 64 → p < 16 → rule_place r p < i → Told g t (rule_place r p) r p (pivot_at r p)
  told r p a b h =
      let q : (rule_place r p) / 16 ≡ r = omega arith in
      let s : (rule_place r p) % 16 ≡ p = omega arith in
      subst (λ p'. Told g t (rule_place r p) r p' (pivot_at r p)) s
      (subst (λ r'. Told g t (rule_place r p) r' ((rule_place r p) % 16) (pivot_at r p)) q (f.before (rule_place r p) h (omega arith)))

  -- a rule that is there has pivots where something is wanted
  known_word : (r p : ℕ) → r < rule_count g → p < 16 → (want r p ≡ 80 → ⊥) → PivotOf g r p (pivot_at r p)
  known_word r p a b w = (told r p (rule_few g r checked a) b (omega arith)).is w

  used_word : (r p s : ℕ) → want r p ≡ s → s < 64 → Dec (r < rule_count g) → Dec (p < 16) → member (uses_in t' s) (position_of (pivot_at r p)) ≡ true
  used_word r p s q h (no a) b = absurd (omega (arith, unknown_rule g r p (omega arith)))
  used_word r p s q h (yes a) (no b) = absurd (omega (arith, unknown_node g checked r p (omega arith)))
  used_word r p s q h (yes a) (yes b) =
      ap (λ u. member u (position_of (pivot_at r p))) (sym (uses_there t' s h) ∙ d.others (uses_from + s) (omega arith) ∙ ap (λ s. get_or t (uses_from + s) 0) (sym q))
      ∙ (told r p (rule_few g r checked a) b (omega arith)).used (omega arith)

  -- both words of a rule and a plan node
  abbrev Words : ℕ → ℕ → Type 0
  Words r p = (rule_word t' 0 r p ≡ key_word 2 (want r p) (pivot_at r p) r p) × (rule_word t' asked_from r p ≡ key_word 1 (want r p) (pivot_at r p) r (want r p % 64))

  idle : (r p : ℕ) → want r p ≡ 80 → 0 ≡ rule_word t' 0 r p → 0 ≡ rule_word t' asked_from r p → Words r p
  idle r p w a b = (sym a ∙ sym (word_none 2 (want r p) (pivot_at r p) r p w), sym b ∙ sym (word_none 1 (want r p) (pivot_at r p) r (want r p % 64) w))

  words : (r p : ℕ) → Dec (r < 64) → Dec (p < 16) → Words r p
  words r p (no a) b = idle r p (unknown_rule g r p (omega (arith, rules_few g checked))) (rule_far t' 0 r p (omega arith)) (rule_far t' asked_from r p (omega arith))
  words r p (yes a) (no b) = idle r p (unknown_node g checked r p (omega arith)) (rule_past t' 0 r p a (omega arith)) (rule_past t' asked_from r p a (omega arith))
  words r p (yes a) (yes b) = go (dec_lt (rule_place r p) i)
    where
      first : rule_word t' 0 r p ≡ get_or t (rule_place r p) 0
      first =
          let k : 0 + rule_place r p ≡ rule_place r p = omega arith in
          sym (rule_there t' 0 r p a b) ∙ ap (λ k. get_or t' k 0) k ∙ d.others (rule_place r p) (omega arith)

      second : rule_word t' asked_from r p ≡ get_or t (asked_from + rule_place r p) 0
      second = sym (rule_there t' asked_from r p a b) ∙ d.others (asked_from + rule_place r p) (omega arith)

      go : Dec (rule_place r p < i) → Words r p
      go (yes h) = let o = told r p a b h in (first ∙ o.listed, second ∙ o.asked)
      go (no h) =
          let o = f.after (rule_place r p) (omega arith) (omega arith) in
          idle r p (unknown_rule g r p (omega arith)) (sym (first ∙ o.0)) (sym (second ∙ o.1))

  -- the words of a symbol
  placed : (from tag s : ℕ) → (s < 64 → get_or t' (from + s) 0 ≡ place_word tag s (get_or t (uses_from + s) 0)) → symbol_word t' from s ≡ place_word tag s (uses_in t' s)
  placed from tag s at-s = go (dec_lt s 64)
    where
      go : Dec (s < 64) → symbol_word t' from s ≡ place_word tag s (uses_in t' s)
      go (yes h) = sym (symbol_there t' from s h) ∙ at-s h ∙ ap (place_word tag s) (sym (d.others (uses_from + s) (omega arith)) ∙ uses_there t' s h)
      go (no h) = sym (symbol_far t' from s (omega arith)) ∙ sym (place_nowhere tag s) ∙ ap (place_word tag s) (uses_far t' s (omega arith))

  pub filled_all : KeyTable g t'
  filled_all = record {
    pivot = λ r p. pivot_at r p;
    taken = record {
      edge = λ r q c i d node.
          let k = rule g checked r q d in
          let low = introduce_lower (rule_edges g r) (plan_of (grammar_of g) r) (plan_ok g r checked k) q c i node in
          let wanted = want_label g checked r q d c i node in
          ((known_word r c k (omega (arith, low, plan_few g r checked k, plan_size g r checked k)) (λ z. omega (arith, label_few g checked r q d c i node))).each q d).edge i node;
      join = λ r q a b d node.
          let k = rule g checked r q d in
          let low = few g checked r q d a b node in
          let here = ((known_word r a k low.0 (λ z. omega (arith, low, want_second g checked r q d a b node))).each q d).first b node in
          let there = ((known_word r b k low.1 (λ z. omega (arith, low, want_first g checked r q d a b node))).each q d).second a node in
          let R = rule_of (grammar_of g) r in
          let both = shared_open (grammar_of g) r a b in
          record {
            same = here ∙ shared_comm (grammar_of g) r a b ∙ sym there;
            known = λ h. omega (arith, here, shared_known (grammar_of g) r a b (omega (arith, here)));
            first = λ h. ap (is_open_at R a) here ∙ (both (omega (arith, here))).0;
            second = λ h. ap (is_open_at R b) here ∙ (both (omega (arith, here))).1;
          };
      used = λ r p s q h. used_word r p s q h (dec_lt r (rule_count g)) (dec_lt p 16);
    };
    listed = λ r p. (words r p (dec_lt r 64) (dec_lt p 16)).0;
    asked = λ r p. (words r p (dec_lt r 64) (dec_lt p 16)).1;
    place = λ s. placed places_from 1 s (d.place s);
    sought = λ s. placed sought_from 2 s (d.sought s);
  }
