-- The plan nodes above, in a table: how its words are filled and read.
use mathlib.Core.Path.{◌≡◌, refl, sym, ap, ◌∙◌, subst}
use mathlib.Core.Bool.{Bool, true, false, ◌||◌, cond, false≢true}
use mathlib.Core.List.{List}
use Prim.Native.Nat.{ℕ, zero, suc, ◌+◌, ◌*◌, ◌%◌, ◌^◌, ◌≤◌, ◌<◌}
use native.Mathlib.Omega.{arith}
use native.Mathlib.Decide.{dec_lt}
use lib.ListN.{length, get_or, set, replicate, length-set, get_or-replicate}
use lib.Seq.{get_or-set_same, get_or-set_other}
use lib.Dec.{eqb, ltb}
use borrow.Author.Tests.{eq-eqb, ne_eqb, eqb-true, eqb-false, lt-ltb, ltb-true}
use Rattle.masks.specs.Masks.{bit, member}
use Rattle.masks.proofs.Laws.{member_false, lt_bits, bits_lt}
use Rattle.hrg.specs.Counts.{hit, occurs}
use Rattle.hrg.specs.Grammars.{PlanNode, touches, rule_of, plan_of, plan_node}
use Rattle.hrg.specs.Items.{is_boundary, is_open_at}
use Rattle.hrg.specs.WellFormed.{children}
use Rattle.hrg.proofs.Sums.{hit_self, none_left}
use Rattle.hrg.proofs.Degrees.{and_true}
use Rattle.hrg.proofs.Targets.{touches_in}
use Rattle.questions.specs.Layout.{rule_count, rule_plan, plan_kind, plan_first, plan_second, edge_label}
use Rattle.questions.specs.Checking.{check_grammar}
use Rattle.questions.specs.Abstract.{grammar_of}
use Rattle.joins.specs.Joins.{KnownNode, KnownEdge, OpenAt, nodes_word}
use Rattle.joins.proofs.Known.{rule_ok, plan_ok, plan_few, plan_size, rule_few}
use Rattle.joins.proofs.PlanMasks.{joined_is, below_few, leaf_mask, join_both}
use Rattle.joins.proofs.Touching.{open_none}
use Rattle.joins.proofs.EdgeMaps.{edge_label_few, nodes_word_few}
use Rattle.rules.specs.declared.plans.Parent.{Parent}
use Rattle.rules.specs.Rules.{ParentOf, Childless}
use Rattle.rules.specs.Plans.{plan_table_words, edge_word, second_word, join_word, ParentAt, WordsAt, PlacedAt, PlanTable}
use Rattle.rules.specs.Filling.{ChildOf, Placed, Put, ToldTo}
use Rattle.rules.proofs.Parents.{above_none, child_leaf, child_introduce, child_join, child_lower, once, parent_found, above_unknown, above_past}
use Rattle.rules.proofs.Leading.{child_some}
use Rattle.rules.proofs.JoinWords.{second_known}
use Rattle.rules.proofs.WantLaws.{rules_few}

-- ---- one plan node
missing : (g : List ℕ) (r p w o : ℕ) → 16 ≤ w % 32 → Childless g r p → ParentAt g r p (record { word = w; stays = o })
missing g r p w o h none = record {
  above = λ l. absurd (omega arith);
  nowhere = λ _. above_none g r p none;
  opened = λ l. absurd (omega arith);
  join = λ l. absurd (omega arith);
}

-- a place with the word 0
empty : (g : List ℕ) (r p w o : ℕ) → w ≡ 0 → Childless g r p → WordsAt g r p w o
empty g r p w o e none = record { none = λ z. missing g r p 16 0 (omega arith) none; some = λ z. absurd (z e) }

-- no plan node has the word 0
either_some : (b : Bool) (x y : ℕ) → 0 < x → 0 < y → 0 < cond b x y
either_some true x y a b = a
either_some false x y a b = b

second_some : (g : List ℕ) (r q : ℕ) → 0 < second_word g r q
unfolding second_word
second_some g r q = either_some (eqb (plan_kind g r q) 1) (1 + 4 * edge_word g r (plan_second g r q)) (2 + 4 * plan_second g r q) (omega arith) (omega arith)

word_some : (g : List ℕ) (r p q : ℕ) → 0 < join_word g r p q
unfolding join_word
word_some g r p q = omega (arith, either_some (eqb (plan_first g r q) p) (second_word g r q) (3 + 4 * plan_first g r q) (second_some g r q) (omega arith))

-- the number of a plan node stands in its word
pub word_node : (g : List ℕ) (r p q w : ℕ) → q < 16 → w ≡ join_word g r p q → w % 32 ≡ q
unfolding join_word
word_node g r p q w few e = omega arith

module _ (g : List ℕ) (r p q w o : ℕ) (known : KnownNode g r q) (child : ChildOf g r p q) (word : w ≡ join_word g r p q) (opened : OpenAt g r q o) where
  node : w % 32 ≡ q
  node = word_node g r p q w (below_few g r q known) word

  there : ParentAt g r p (record { word = w; stays = o })
  there = record {
    above = λ l. record {
      known = subst (KnownNode g r) (sym node) known;
      parent = subst (ParentOf g r p) (sym node) (parent_found g r p known.grammar known.rule q known.node (lt-ltb 0 _ child));
      nowhere = tt;
    };
    nowhere = λ l. absurd (omega (arith, node, below_few g r q known));
    opened = λ l. subst (λ q. OpenAt g r q o) (sym node) opened;
    join = λ l. record { child = subst (ChildOf g r p) (sym node) child; word = word ∙ ap (join_word g r p) (sym node) };
  }

  filled : WordsAt g r p w o
  filled = record { none = λ z. absurd (omega (arith, word, word_some g r p q)); some = λ z. there }

-- ---- what it asks for beside its first child
pub edge_told : (g : List ℕ) (r i : ℕ) → KnownEdge g r i → (label n : ℕ) → label ≡ edge_label g r i → n ≡ nodes_word g r i
    → (label + 64 * n ≡ edge_word g r i) × (label + 64 * n < 16777216)
unfolding edge_word
edge_told g r i known label n a b = (rw (a, b), omega (arith, edge_label_few g r i known, nodes_word_few g r i known))

module _ (g : List ℕ) (r q : ℕ) (known : KnownNode g r q) (kind second : ℕ) (a : kind ≡ plan_kind g r q) (d : second ≡ plan_second g r q) where
  pub edge_there : kind ≡ 1 → KnownEdge g r second
  edge_there e = subst (KnownEdge g r) (sym d) (second_known g r q known (sym a ∙ e))

  pub edge_asked : kind ≡ 1 → (w : ℕ) → w ≡ edge_word g r second → 1 + 4 * w ≡ second_word g r q
  unfolding second_word
  edge_asked e w is = rw (eq-eqb (plan_kind g r q) 1 (sym a ∙ e), ← d, is)

  pub child_asked : (plan_kind g r q ≡ 0 → ⊥) → (kind ≡ 1 → ⊥) → (2 + 4 * second ≡ second_word g r q) × (2 + 4 * second < 67108864)
  unfolding second_word
  child_asked x y = (
    rw (ne_eqb (plan_kind g r q) 1 (λ e. y (a ∙ e)), ← d) refl,
    omega (arith, join_both g r q known kind (plan_first g r q) second a refl d (λ e. x (sym a ∙ e)) y, below_few g r q known),
  )

-- ---- its first child, where it has children
module _ (g : List ℕ) (r q : ℕ) (known : KnownNode g r q) (kind first : ℕ) (a : kind ≡ plan_kind g r q) (b : first ≡ plan_first g r q) (x : kind ≡ 0 → ⊥) where
  pub first_child : ChildOf g r first q
  first_child = go (eqb kind 1) refl
    where
      or_first : (s : ℕ) (t : Bool) → t ≡ true → (t || eqb first s) ≡ true
      or_first s true e = refl
      or_first s false e = absurd (false≢true e)

      go : (t : Bool) → eqb kind 1 ≡ t → ChildOf g r first q
      go true e = ltb-true 0 _ (sym (child_introduce g r q first known kind first (plan_second g r q) a b refl (eqb-true kind 1 e)) ∙ eq-eqb first first refl)
      go false e = ltb-true 0 _ (sym (child_join g r q first known kind first (plan_second g r q) a b refl x (eqb-false kind 1 e)) ∙ or_first (plan_second g r q) (eqb first first) (eq-eqb first first refl))

  pub first_few : first < 16
  first_few = omega (arith, child_lower g r first known.grammar known.rule q known.node first_child, below_few g r q known)

  -- it is told of its parent
  pub open_above : (above : Parent) → ParentAt g r first above → OpenAt g r q above.stays
  open_above above is = go (dec_lt (above.word % 32) 16)
    where
      go : Dec (above.word % 32 < 16) → OpenAt g r q above.stays
      go (yes l) = subst (λ q. OpenAt g r q above.stays) (sym ((is.above l).parent.only q known.node first_child)) (is.opened l)
      go (no l) = absurd (omega (arith, first_child, (is.nowhere (omega arith)).nowhere.none q (omega (arith, known.node, plan_size g r known.grammar known.rule))))

pub open_leaf : (g : List ℕ) (r q : ℕ) → KnownNode g r q → (kind : ℕ) → kind ≡ plan_kind g r q → kind ≡ 0 → OpenAt g r q 0
open_leaf g r q known kind a e = open_none g r q (leaf_mask g r q known kind a e)

-- ---- rule nodes are below 8, so that a set of them is small
open_known : (g : List ℕ) (r q x : ℕ) → KnownNode g r q → is_open_at (rule_of (grammar_of g) r) q x ≡ true → x < 8
unfolding is_open_at is_boundary
open_known g r q x known h =
    let P = (rule_of (grammar_of g) r).production.right in
    let ok = (rule_ok g r known.grammar known.rule).right in
    let on = touches_in _ P.edges x (and_true (touches _ P.edges x) _ h).0 in
    omega (arith, (ok.edge on.0 on.1).listed.inside x on.3, ok.node_count.upper)

pub open_small : (g : List ℕ) (r q o : ℕ) → KnownNode g r q → OpenAt g r q o → o < 2 ^ 64 → o < 4294967296
open_small g r q o known opened small = bits_lt 32 o (λ e l. far e l (dec_lt e 64))
  where
    near : (e : ℕ) → 32 ≤ e → e < 64 → (b : Bool) → member o e ≡ b → bit o e ≡ 0
    near e l d true h = absurd (omega (arith, open_known g r q e known (sym (opened.members e d) ∙ h)))
    near e l d false h = member_false o e h

    far : (e : ℕ) → 32 ≤ e → Dec (e < 64) → bit o e ≡ 0
    far e l (yes d) = near e l d (member o e) refl
    far e l (no d) = lt_bits 64 o e small (omega arith)

-- ---- one place
pub placed : (t : List ℕ) (r p w o : ℕ) → length t ≡ plan_table_words → r < 64 → p < 16 → Placed t (set (set t (16 * r + p) w) (1024 + (16 * r + p)) o) (16 * r + p) w o
placed t r p w o size a b = record {
  size = length-set (set t i w) (1024 + i) o ∙ one;
  word = get_or-set_other (set t i w) (1024 + i) i o 0 (λ e. omega arith) ∙ get_or-set_same t i w 0 (omega (arith, size));
  opened = get_or-set_same (set t i w) (1024 + i) o 0 (omega (arith, one));
  other = λ k l n. (apart k (λ e. omega arith) n, apart (1024 + k) (λ e. n (omega arith)) (λ e. omega arith));
}
  where
    i : ℕ
    i = 16 * r + p

    one : length (set t i w) ≡ plan_table_words
    one = length-set t i w ∙ size

    apart : (k : ℕ) → (k ≡ 1024 + i → ⊥) → (k ≡ i → ⊥) → get_or (set (set t i w) (1024 + i) o) k 0 ≡ get_or t k 0
    apart k x y = get_or-set_other (set t i w) (1024 + i) k o 0 x ∙ get_or-set_other t i k w 0 y

-- ---- the children of one plan node
module _ (g : List ℕ) (r q o : ℕ) (t : List ℕ) (known : KnownNode g r q) (size : length t ≡ plan_table_words) where
  child_of : (p : ℕ) → ltb 0 (occurs p (children (plan_node (plan_of (grammar_of g) r) q))) ≡ true → ChildOf g r p q
  child_of p e = ltb-true 0 _ e

  pub put_leaf : (kind : ℕ) → kind ≡ plan_kind g r q → kind ≡ 0 → Put g r q o t t
  put_leaf kind a e = record { size = size; told = λ p c. absurd (false≢true (child_leaf g r q p known kind a e ∙ lt-ltb 0 _ c)); kept = λ k l n. (refl, refl) }

  module _ (kind first w : ℕ) (a : kind ≡ plan_kind g r q) (b : first ≡ plan_first g r q) (f : w ≡ second_word g r q) where
    first_word : q + 32 * w ≡ join_word g r first q
    unfolding join_word
    first_word = rw (eq-eqb (plan_first g r q) first (sym b)) (omega arith)

    pub put_introduce : kind ≡ 1 → (u : List ℕ) → Placed t u (16 * r + first) (q + 32 * w) o → Put g r q o t u
    put_introduce e u here = record { size = here.size; told = told; kept = λ k l n. here.other k l (λ s. n first s (child_of first (only first ∙ eq-eqb first first refl))) }
      where
        only : (p : ℕ) → ltb 0 (occurs p (children (plan_node (plan_of (grammar_of g) r) q))) ≡ eqb p first
        only p = sym (child_introduce g r q p known kind first (plan_second g r q) a b refl e)

        told : (p : ℕ) → ChildOf g r p q → (get_or u (16 * r + p) 0 ≡ join_word g r p q) × (get_or u (1024 + (16 * r + p)) 0 ≡ o)
        told p c =
            let s : p ≡ first = eqb-true p first (sym (only p) ∙ lt-ltb 0 _ c) in
            rw s (here.word ∙ first_word, here.opened)

    module _ (second : ℕ) (d : second ≡ plan_second g r q) (x : kind ≡ 0 → ⊥) (y : kind ≡ 1 → ⊥) where
      both : (p : ℕ) → ltb 0 (occurs p (children (plan_node (plan_of (grammar_of g) r) q))) ≡ (eqb p first || eqb p second)
      both p = sym (child_join g r q p known kind first second a b d x y)

      apart : first ≡ second → ⊥
      unfolding occurs
      apart e =
          let pl = plan_of (grammar_of g) r in
          let two : occurs first (children (plan_node pl q)) ≡ hit first first + (hit first second + 0) = ap (λ (n : PlanNode). occurs first (children n)) (joined_is g r q known kind first second a b d x y) in
          let same : hit first second ≡ 1 = ap (hit first) (sym e) ∙ hit_self first in
          let size = plan_size g r known.grammar known.rule in
          let lower : first < q = child_lower g r first known.grammar known.rule q known.node (omega (arith, hit_self first)) in
          omega (arith, hit_self first, child_some pl first q, (plan_ok g r known.grammar known.rule).child_once first (omega (arith, known.node)))

      second_word_lem : q + 32 * (3 + 4 * first) ≡ join_word g r second q
      unfolding join_word
      second_word_lem = rw (ne_eqb (plan_first g r q) second (λ e. apart (b ∙ e))) (omega arith)

      pub put_join : (u v : List ℕ) → Placed t u (16 * r + first) (q + 32 * w) o → Placed u v (16 * r + second) (q + 32 * (3 + 4 * first)) o → Put g r q o t v
      put_join u v one two = record { size = two.size; told = told; kept = kept }
        where
          few : (p : ℕ) → ChildOf g r p q → p < 16
          few p c = omega (arith, child_lower g r p known.grammar known.rule q known.node c, below_few g r q known)

          is_first : ChildOf g r first q
          is_first = child_of first (both first ∙ rw (eq-eqb first first refl))

          is_second : ChildOf g r second q
          is_second = child_of second (both second ∙ or_true (eqb second first) (eqb second second) (eq-eqb second second refl))
            where
              or_true : (a b : Bool) → b ≡ true → (a || b) ≡ true
              or_true true b e = refl
              or_true false b e = e

          told : (p : ℕ) → ChildOf g r p q → (get_or v (16 * r + p) 0 ≡ join_word g r p q) × (get_or v (1024 + (16 * r + p)) 0 ≡ o)
          told p c = go (eqb p first) refl
            where
              later : (b : Bool) → b ≡ false → (b || eqb p second) ≡ true → p ≡ second
              later true e h = absurd (false≢true (sym e))
              later false e h = eqb-true p second h

              go : (b : Bool) → eqb p first ≡ b → (get_or v (16 * r + p) 0 ≡ join_word g r p q) × (get_or v (1024 + (16 * r + p)) 0 ≡ o)
              go true e =
                  let s : p ≡ first = eqb-true p first e in
                  let k : 16 * r + first < 1024 = omega (arith, few first is_first, rule_few g r known.grammar known.rule) in
                  let same = two.other (16 * r + first) k (λ e. apart (omega arith)) in
                  rw s (same.0 ∙ one.word ∙ first_word, same.1 ∙ one.opened)
              go false e =
                  let s : p ≡ second = later (eqb p first) e (sym (both p) ∙ lt-ltb 0 _ c) in
                  rw s (two.word ∙ second_word_lem, two.opened)

          kept : (k : ℕ) → k < 1024 → ((p : ℕ) → k ≡ 16 * r + p → ChildOf g r p q → ⊥) → (get_or v k 0 ≡ get_or t k 0) × (get_or v (1024 + k) 0 ≡ get_or t (1024 + k) 0)
          kept k l n =
              let x = two.other k l (λ e. n second e is_second) in
              let y = one.other k l (λ e. n first e is_first) in
              (x.0 ∙ y.0, x.1 ∙ y.1)

-- ---- the table
pub told_none : (g : List ℕ) → ToldTo g (replicate plan_table_words 0) 0 0
told_none g = record {
  size = refl;
  rules = λ r p l. absurd (omega arith);
  told = λ p q l. absurd (omega arith);
  rest = λ p a l n. get_or-replicate plan_table_words (16 * 0 + p) 0 0 (omega arith);
  after = λ k l m. get_or-replicate plan_table_words k 0 0 (omega arith);
}

module _ (g t u : List ℕ) (r q o : ℕ) (known : KnownNode g r q) (opened : OpenAt g r q o) (before : ToldTo g t r q) (put : Put g r q o t u) where
  few : (p : ℕ) → ChildOf g r p q → p < 16
  few p c = omega (arith, child_lower g r p known.grammar known.rule q known.node c, below_few g r q known)

  pub told_next : ToldTo g u r (q + 1)
  told_next = record {
    size = put.size;
    rules = λ r' p l m.
        let same = put.kept (16 * r' + p) (omega (arith, rule_few g r known.grammar known.rule)) (λ p' e c. omega (arith, few p' c)) in
        rw (same.0, same.1) (before.rules r' p l m);
    told = λ p q' l c. told p q' l c (dec_lt q' q);
    rest = λ p a l n. (put.kept (16 * r + p) (omega (arith, rule_few g r known.grammar known.rule)) (λ p' e c. n q (omega arith) (subst (λ p. ChildOf g r p q) (let s : p' ≡ p = omega arith in s) c))).0 ∙ before.rest p a l (λ q' d c. n q' (omega arith) c);
    after = λ k l m. (put.kept k m (λ p e c. omega (arith, few p c))).0 ∙ before.after k l m;
  }
    where
      told : (p q' : ℕ) → q' < q + 1 → ChildOf g r p q' → Dec (q' < q) → (get_or u (16 * r + p) 0 ≡ join_word g r p q') × OpenAt g r q' (get_or u (1024 + (16 * r + p)) 0)
      told p q' l c (yes d) =
          let lower : p < q' = child_lower g r p known.grammar known.rule q' (omega (arith, known.node)) c in
          let same =
          put.kept (16 * r + p) (omega (arith, below_few g r q known, rule_few g r known.grammar known.rule))
          (λ p' e c'. once g r p known.grammar known.rule q' q d known.node c (subst (λ p. ChildOf g r p q) (let s : p' ≡ p = omega arith in s) c'))
          in
          let old = before.told p q' d c in
          (same.0 ∙ old.0, subst (OpenAt g r q') (sym same.1) old.1)
      told p q' l c (no d) =
          let e : q' ≡ q = omega arith in
          let new = put.told p (subst (ChildOf g r p) e c) in
          (new.0 ∙ ap (join_word g r p) (sym e), subst (λ q. OpenAt g r q (get_or u (1024 + (16 * r + p)) 0)) (sym e) (subst (OpenAt g r q) (sym new.1) opened))

-- a plan node is a child of some plan node before q, or of none
data Found (g : List ℕ) (r p q : ℕ) : Type 0 where
  at : (q' : ℕ) → q' < q → ChildOf g r p q' → Found g r p q
  none : ((q' : ℕ) → q' < q → ChildOf g r p q' → ⊥) → Found g r p q

find : (g : List ℕ) (r p q : ℕ) → Found g r p q
find g r p zero = none (λ q l. absurd (omega arith))
find g r p (suc q) = go (find g r p q) (dec_lt 0 (occurs p (children (plan_node (plan_of (grammar_of g) r) q))))
  where
    go : Found g r p q → Dec (ChildOf g r p q) → Found g r p (suc q)
    go (at q' l c) d = at q' (omega arith) c
    go (none n) (yes c) = at q (omega arith) c
    go (none n) (no d) = none (λ q' l c. last q' l c (dec_lt q' q))
      where
        last : (q' : ℕ) → q' < suc q → ChildOf g r p q' → Dec (q' < q) → ⊥
        last q' l c (yes e) = n q' e c
        last q' l c (no e) = d (subst (ChildOf g r p) (let s : q' ≡ q = omega arith in s) c)

module _ (g : List ℕ) (checked : check_grammar g ≡ true) where
  pub told_rule : (t : List ℕ) (r n q : ℕ) → r < rule_count g → n ≡ rule_plan g r → q ≤ n → n ≤ q → ToldTo g t r q → ToldTo g t (r + 1) 0
  told_rule t r n q rule size a b f = record {
    size = f.size;
    rules = λ r' p l m. rules r' p l m (dec_lt r' r);
    told = λ p q l. absurd (omega arith);
    rest = λ p a l n. f.after (16 * (r + 1) + p) (omega arith) (omega arith);
    after = λ k l m. f.after k (omega arith) m;
  }
    where
      word : (p : ℕ) → p < 16 → Found g r p q → PlacedAt g t r p
      word p m (at q' l c) =
          let told = f.told p q' l c in
          filled g r p q' (get_or t (16 * r + p) 0) (get_or t (1024 + (16 * r + p)) 0) (record { grammar = checked; rule = rule; node = omega arith }) c told.0 told.1
      word p m (none d) =
          empty g r p (get_or t (16 * r + p) 0) (get_or t (1024 + (16 * r + p)) 0)
          (f.rest p (rule_few g r checked rule) m d)
          (record { none = λ q' l. none_left _ (λ o. d q' (omega (arith, plan_size g r checked rule)) o) })

      rules : (r' p : ℕ) → r' < r + 1 → p < 16 → Dec (r' < r) → PlacedAt g t r' p
      rules r' p l m (yes d) = f.rules r' p d m
      rules r' p l m (no d) = let e : r' ≡ r = omega arith in rw e (word p m (find g r p q))

  pub told_all : (t : List ℕ) (n r : ℕ) → n ≡ rule_count g → n ≤ r → r ≤ n → ToldTo g t r 0 → ((k : ℕ) → get_or t k 0 < 4294967296) → PlanTable g t
  told_all t n r e l k f small = record { each = λ r' p a b. word r' p a b (dec_lt r' r); small = small }
    where
      made : (r' p : ℕ) → r' < 64 → p < 16 → (r' < r → ⊥) → Dec (r < r') → get_or t (16 * r' + p) 0 ≡ 0
      made r' p a b d (yes c) = f.after (16 * r' + p) (omega arith) (omega arith)
      made r' p a b d (no c) = let s : r' ≡ r = omega arith in rw s (f.rest p (omega arith) b (λ q l. absurd (omega arith)))

      word : (r' p : ℕ) → r' < 64 → p < 16 → Dec (r' < r) → PlacedAt g t r' p
      word r' p a b (yes d) = f.rules r' p d b
      word r' p a b (no d) =
          empty g r' p (get_or t (16 * r' + p) 0) (get_or t (1024 + (16 * r' + p)) 0)
          (made r' p a b d (dec_lt r r'))
          ((above_unknown g r' p (omega arith)).nowhere)

  -- ---- a word of it
  pub parent_far : (r p : ℕ) → 64 ≤ r → ParentAt g r p (record { word = 16; stays = 0 })
  parent_far r p h = missing g r p 16 0 (omega arith) ((above_unknown g r p (omega (arith, rules_few g checked))).nowhere)

  pub parent_past : (r p : ℕ) → 16 ≤ p → ParentAt g r p (record { word = 16; stays = 0 })
  parent_past r p h = missing g r p 16 0 (omega arith) (go (dec_lt r (rule_count g)))
    where
      go : Dec (r < rule_count g) → Childless g r p
      go (yes d) = (above_past g r p checked d (omega (arith, plan_few g r checked d))).nowhere
      go (no d) = (above_unknown g r p (omega arith)).nowhere
