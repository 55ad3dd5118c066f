-- What an item wants is told by the one plan node above it, and read off its word.
use mathlib.Core.Path.{◌≡◌, refl, sym, ap, ap₂, ◌∙◌}
use mathlib.Core.Bool.{Bool, true, false, ◌||◌, cond, false≢true}
use mathlib.Core.List.{List, [], ◌∷◌, ◌++◌}
use Prim.Native.Nat.{ℕ, ◌+◌, ◌/◌, ◌%◌, ◌≤◌, ◌<◌}
use native.Mathlib.Omega.{arith}
use native.Mathlib.Decide.{dec_lt}
use lib.ListN.{length, get_or}
use lib.Dec.{eqb, ltb}
use borrow.Author.Tests.{eq-eqb, ne_eqb, eqb-true, eqb-false, lt-ltb, le-ltb}
use Rattle.std.specs.Prelude.{Some, None}
use Rattle.hrg.specs.Counts.{hit, occurs}
use Rattle.hrg.specs.Grammars.{Grammar, PlanNode, leaf, introduce, join, right_of, plan_of, plan_node, edge_at}
use Rattle.hrg.specs.WellFormed.{children}
use Rattle.hrg.specs.ClosureRun.{guard}
use Rattle.hrg.proofs.Sums.{hit_self, none_left}
use Rattle.hrg.proofs.Plans.{introduce_known}
use Rattle.questions.specs.Layout.{rule_count, rule_edges, edge_label, plan_kind, plan_first, plan_second}
use Rattle.questions.specs.Checking.{check_grammar}
use Rattle.questions.specs.Abstract.{grammar_of}
use Rattle.questions.proofs.WellFormedLent.{checked_grammar_ok}
use Rattle.questions.proofs.WellFormedAccepted.{rules_length}
use Rattle.joins.specs.Joins.{KnownNode}
use Rattle.joins.proofs.Known.{plan_ok, plan_size, plan_few}
use Rattle.joins.proofs.PlanMasks.{introduced_is, joined_is}
use Rattle.joins.proofs.EdgeMaps.{edge_label_is}
use Rattle.rules.specs.Rules.{Above}
use Rattle.rules.specs.declared.plans.Parent.{Parent}
use Rattle.rules.specs.Plans.{JoinAt, ParentAt}
use Rattle.rules.specs.Wants.{wants_at, want_of, want_by}
use Rattle.rules.proofs.Parents.{child_join, above_unknown, above_past}
use Rattle.rules.proofs.JoinWords.{child_kind, second_edge, second_other, join_first, join_later, later_joins}
use Rattle.rules.proofs.RuleItems.{each_none, each_only}

-- ---- a plan node that has no child p wants nothing of an item at p
not_in : (p c : ℕ) (l : List ℕ) → occurs p (c ∷ l) ≡ 0 → (eqb c p ≡ false) × (occurs p l ≡ 0)
unfolding occurs
not_in p c l h = (ne_eqb c p (λ e. omega (arith, hit_self p, ap (λ y. hit p y) e)), omega arith)

wants_none : (G : Grammar) (r p : ℕ) (n : PlanNode) → occurs p (children n) ≡ 0 → wants_at G r p n ≡ []
unfolding wants_at
wants_none G r p leaf h = refl
wants_none G r p (introduce c i) h = rw (not_in p c [] h).0
wants_none G r p (join a b) h = rw ((not_in p a (b ∷ []) h).0, (not_in p b [] (not_in p a (b ∷ []) h).1).0)

module _ (G : Grammar) (r p : ℕ) where
  abbrev pl : List PlanNode
  pl = plan_of G r

  pub want_at : (q : ℕ) → q < length pl → ((q' : ℕ) → q' < length pl → (q' ≡ q → ⊥) → occurs p (children (plan_node pl q')) ≡ 0)
      → want_of G r p ≡ get_or (wants_at G r p (plan_node pl q)) 0 80
  unfolding want_of
  want_at q l only =
      ap (λ (ws : List ℕ). get_or ws 0 80)
      (each_only (length pl) q (λ q. wants_at G r p (plan_node pl q)) l (λ q' k n. wants_none G r p (plan_node pl q') (only q' k n)))

  want_nowhere : ((q : ℕ) → q < length pl → occurs p (children (plan_node pl q)) ≡ 0) → want_of G r p ≡ 80
  unfolding want_of
  want_nowhere none =
      ap (λ (ws : List ℕ). get_or ws 0 80) (each_none (length pl) (λ q. wants_at G r p (plan_node pl q)) (λ q l. wants_none G r p (plan_node pl q) (none q l)))

-- ---- what the functions answer
module _ (g : List ℕ) (r p : ℕ) where
  pub want_missing : Above g r p None → 80 ≡ want_of (grammar_of g) r p
  want_missing above = sym (want_nowhere (grammar_of g) r p above.nowhere.none)

  pub want_found : (q : ℕ) → Above g r p (Some q) → (w : ℕ) → w ≡ get_or (wants_at (grammar_of g) r p (plan_node (plan_of (grammar_of g) r) q)) 0 80 → w ≡ want_of (grammar_of g) r p
  want_found q above w e =
      let k = above.known in
      let size = plan_size g r k.grammar k.rule in
      e
      ∙ sym (want_at (grammar_of g) r p q (omega (arith, k.node, size))
      (λ q' l n. none_left _ (λ o. n (above.parent.only q' (omega (arith, l, size)) o))))

module _ (g : List ℕ) (r p q : ℕ) (known : KnownNode g r q) (kind first second : ℕ) (a : kind ≡ plan_kind g r q) (b : first ≡ plan_first g r q) (c : second ≡ plan_second g r q) where
  abbrev told : ℕ
  told = get_or (wants_at (grammar_of g) r p (plan_node (plan_of (grammar_of g) r) q)) 0 80

  told_is : (n : PlanNode) → plan_node (plan_of (grammar_of g) r) q ≡ n → get_or (wants_at (grammar_of g) r p n) 0 80 ≡ told
  told_is n e = ap (λ (n : PlanNode). get_or (wants_at (grammar_of g) r p n) 0 80) (sym e)

  -- an edge
  module _ (one : kind ≡ 1) where
    introduced : plan_node (plan_of (grammar_of g) r) q ≡ introduce first second
    introduced = introduced_is g r q known kind first second a b c one

    label_is : (edge_at (right_of (grammar_of g) r).edges second).label ≡ edge_label g r second
    label_is =
        edge_label_is g r second
        (record { grammar = known.grammar; rule = known.rule; edge = introduce_known (rule_edges g r) (plan_of (grammar_of g) r) (plan_ok g r known.grammar known.rule) q first second introduced })

    pub told_edge : (w : ℕ) → first ≡ p → w ≡ edge_label g r second → w ≡ told
    unfolding wants_at
    told_edge w e l =
        l ∙ sym label_is
        ∙ ap (λ (t : Bool). get_or (guard t ((edge_at (right_of (grammar_of g) r).edges second).label ∷ [])) 0 80) (sym (eq-eqb first p e))
        ∙ told_is (introduce first second) introduced

  -- two children
  module _ (x : kind ≡ 0 → ⊥) (y : kind ≡ 1 → ⊥) where
    joined : plan_node (plan_of (grammar_of g) r) q ≡ join first second
    joined = joined_is g r q known kind first second a b c x y

    abbrev either : Bool → Bool → ℕ
    either s t = get_or (guard s ((64 + second) ∷ []) ++ guard t ((64 + first) ∷ [])) 0 80

    pub told_second : first ≡ p → 64 + second ≡ told
    unfolding wants_at
    told_second e = ap (λ (s : Bool). either s (eqb second p)) (sym (eq-eqb first p e)) ∙ told_is (join first second) joined

    pub told_first : (first ≡ p → ⊥) → second ≡ p → 64 + first ≡ told
    unfolding wants_at
    told_first e d = ap₂ either (sym (ne_eqb first p e)) (sym (eq-eqb second p d)) ∙ told_is (join first second) joined

-- ---- what the word of a plan node tells
module _ (g : List ℕ) (r p : ℕ) (x : Parent) (is : ParentAt g r p x) where
  abbrev w : ℕ
  w = x.word

  abbrev q : ℕ
  q = x.word % 32

  module _ (l : q < 16) where
    near : Above g r p (Some q)
    near = is.above l

    above : KnownNode g r q
    above = near.known

    child : JoinAt g r p w
    child = is.join l

    want_edge : w / 32 % 4 ≡ 1 → w / 32 / 4 % 64 ≡ want_of (grammar_of g) r p
    want_edge one =
        let first = join_first g r p w child (λ e. omega arith) in
        let edge = second_edge g r q (w / 32) first.1 one above in
        want_found g r p q near _ (told_edge g r p q above (plan_kind g r q) (plan_first g r q) (plan_second g r q) refl refl refl edge.0 _ first.0 edge.1)

    want_second : (w / 32 % 4 ≡ 1 → ⊥) → (w / 32 % 4 ≡ 3 → ⊥) → 64 + w / 32 / 4 ≡ want_of (grammar_of g) r p
    want_second one three =
        let first = join_first g r p w child three in
        let other = second_other g r q (w / 32) first.1 one in
        want_found g r p q near _
        (ap (λ k. 64 + k) other.1
        ∙ told_second g r p q above (plan_kind g r q) (plan_first g r q) (plan_second g r q) refl refl refl (child_kind g r q above p child.child) other.0 first.0)

    want_first : w / 32 % 4 ≡ 3 → 64 + w / 32 / 4 ≡ want_of (grammar_of g) r p
    want_first three =
        let later = join_later g r p w child three in
        let joins = later_joins g r p w child three above in
        let is_second : plan_second g r q ≡ p = sym (second_of (eqb p (plan_first g r q)) (ne_eqb p (plan_first g r q) (λ e. later.0 (sym e))) (child_join g r q p above (plan_kind g r q) (plan_first g r q) (plan_second g r q) refl refl refl joins.0 joins.1 ∙ lt-ltb 0 _ child.child)) in
        want_found g r p q near _
        (ap (λ k. 64 + k) later.1
        ∙ told_first g r p q above (plan_kind g r q) (plan_first g r q) (plan_second g r q) refl refl refl joins.0 joins.1 later.0 is_second)
      where
        second_of : (b : Bool) → b ≡ false → (b || eqb p (plan_second g r q)) ≡ true → p ≡ plan_second g r q
        second_of true e h = absurd (false≢true (sym e))
        second_of false e h = eqb-true p (plan_second g r q) h

  pub want_told : want_by w ≡ want_of (grammar_of g) r p
  unfolding want_by
  want_told = go (dec_lt q 16)
    where
      kinds : q < 16 → (a b : Bool) → eqb (w / 32 % 4) 1 ≡ a → eqb (w / 32 % 4) 3 ≡ b → cond a (w / 32 / 4 % 64) (64 + w / 32 / 4) ≡ want_of (grammar_of g) r p
      kinds l true b e d = want_edge l (eqb-true (w / 32 % 4) 1 e)
      kinds l false true e d = want_first l (eqb-true (w / 32 % 4) 3 d)
      kinds l false false e d = want_second l (eqb-false (w / 32 % 4) 1 e) (eqb-false (w / 32 % 4) 3 d)

      go : Dec (q < 16) → cond (ltb q 16) (cond (eqb (w / 32 % 4) 1) (w / 32 / 4 % 64) (64 + w / 32 / 4)) 80 ≡ want_of (grammar_of g) r p
      go (yes l) = rw (lt-ltb q 16 l) (kinds l (eqb (w / 32 % 4) 1) (eqb (w / 32 % 4) 3) refl refl)
      go (no l) = rw (le-ltb q 16 (omega arith)) (want_missing g r p (is.nowhere (omega arith)))

-- what a function reads off a word
pub by_none : (w : ℕ) → 16 ≤ w % 32 → 80 ≡ want_by w
unfolding want_by
by_none w l = rw (le-ltb (w % 32) 16 l)

pub by_edge : (w : ℕ) → w % 32 < 16 → w / 32 % 4 ≡ 1 → w / 32 / 4 % 64 ≡ want_by w
unfolding want_by
by_edge w l e = rw (lt-ltb (w % 32) 16 l, eq-eqb (w / 32 % 4) 1 e)

pub by_child : (w : ℕ) → w % 32 < 16 → (w / 32 % 4 ≡ 1 → ⊥) → 64 + w / 32 / 4 ≡ want_by w
unfolding want_by
by_child w l e = rw (lt-ltb (w % 32) 16 l, ne_eqb (w / 32 % 4) 1 e)

-- ---- no such rule or plan node
pub unknown_rule : (g : List ℕ) (r p : ℕ) → rule_count g ≤ r → want_of (grammar_of g) r p ≡ 80
unknown_rule g r p h = sym (want_missing g r p (above_unknown g r p h))

module _ (g : List ℕ) (checked : check_grammar g ≡ true) where
  pub rules_few : rule_count g ≤ 64
  rules_few = omega (arith, (checked_grammar_ok g checked).rule_count_is.upper, rules_length g)

  pub unknown_node : (r p : ℕ) → 16 ≤ p → want_of (grammar_of g) r p ≡ 80
  unknown_node r p h = go (dec_lt r (rule_count g))
    where
      go : Dec (r < rule_count g) → want_of (grammar_of g) r p ≡ 80
      go (yes d) = sym (want_missing g r p (above_past g r p checked d (omega (arith, plan_few g r checked d))))
      go (no d) = unknown_rule g r p (omega arith)
