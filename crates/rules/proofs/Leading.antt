-- An item whose plan node is the first child of the one above it never comes second, and any other never first.
use mathlib.Core.Path.{◌≡◌, refl, sym, ap, ap₂, ◌∙◌}
use mathlib.Core.Bool.{Bool, true, false, ◌&&◌, not, cond, false≢true}
use mathlib.Core.List.{List, [], ◌∷◌}
use Prim.Native.Nat.{ℕ, zero, suc, ◌+◌, ◌/◌, ◌%◌, ◌≤◌, ◌<◌}
use native.Mathlib.Omega.{arith}
use lib.ListN.{length, take}
use lib.Dec.{eqb}
use borrow.Author.Tests.{eq-eqb, ne_eqb, eqb-true, eqb-false, not-true, not-false}
use Rattle.std.specs.Prelude.{Some}
use Rattle.hrg.specs.Counts.{hit, occurs}
use Rattle.hrg.specs.Grammars.{Graph, PlanNode, leaf, introduce, join, Rule, Grammar, rule_of, right_of, plan_of, plan_node}
use Rattle.hrg.specs.Items.{Item, active, passive}
use Rattle.hrg.specs.WellFormed.{children, all_children}
use Rattle.hrg.specs.ClosureRun.{guard, each_to, combine, nonterminal_at, join_at, binary_of}
use Rattle.hrg.proofs.Sums.{hit_self, occurs_append}
use Rattle.agenda.specs.Records.{item_of}
use Rattle.agenda.specs.declared.ChartItem.{ChartItem}
use Rattle.questions.specs.Layout.{plan_kind, plan_first, plan_second}
use Rattle.questions.specs.Checking.{check_grammar}
use Rattle.questions.specs.Abstract.{grammar_of, plan_from}
use Rattle.joins.specs.Joins.{KnownNode}
use Rattle.joins.proofs.Known.{plan_ok, plan_size}
use Rattle.joins.proofs.PlanMasks.{node_is}
use Rattle.rules.specs.declared.plans.Parent.{Parent}
use Rattle.rules.specs.Plans.{ParentAt, Leads}
use Rattle.rules.specs.Rules.{Above}
use Rattle.rules.proofs.Parents.{child_lower}
use Rattle.rules.proofs.RuleItems.{guard_none, each_none, item_active, pair_passive}
use Rattle.rules.proofs.Meeting.{rule_or_none}
use Rattle.rules.proofs.JoinWords.{join_first, join_later as word_later}

-- ---- the first child of a plan node, d where there is none
abbrev first_of : ℕ → PlanNode → ℕ
first_of d leaf = d
first_of d (introduce c i) = c
first_of d (join a b) = a

first_from_lem : (k c s : ℕ) → first_of c (plan_from k c s) ≡ c
first_from_lem k c s = go (eqb k 0) (eqb k 1)
  where
    go : (a b : Bool) → first_of c (cond a leaf (cond b (introduce c s) (join c s))) ≡ c
    go true b = refl
    go false true = refl
    go false false = refl

first_other : (p k c s : ℕ) → (c ≡ p → ⊥) → first_of (suc p) (plan_from k c s) ≡ p → ⊥
first_other p k c s n = go (eqb k 0) (eqb k 1)
  where
    go : (a b : Bool) → first_of (suc p) (cond a leaf (cond b (introduce c s) (join c s))) ≡ p → ⊥
    go true b e = omega arith
    go false true e = n e
    go false false e = n e

first_occurs : (p : ℕ) (n : PlanNode) → first_of (suc p) n ≡ p → 0 < occurs p (children n)
unfolding occurs
first_occurs p leaf e = absurd (omega arith)
first_occurs p (introduce c i) e = omega (arith, hit_self p, ap (λ y. hit p y) e)
first_occurs p (join a b) e = omega (arith, hit_self p, ap (λ y. hit p y) e)

-- ---- an item at p makes nothing where p is no plan node's first child
nonterminal_later : (H : Graph) (R : Rule) (r p m : ℕ) (f : List ℕ) (s m' : ℕ) (L : List ℕ) (q : ℕ) (n : PlanNode) → (first_of (suc p) n ≡ p → ⊥) → nonterminal_at H R r p m f s m' L q n ≡ []
unfolding nonterminal_at
nonterminal_later H R r p m f s m' L q leaf h = refl
nonterminal_later H R r p m f s m' L q (introduce c i) h = rw (ne_eqb c p h)
nonterminal_later H R r p m f s m' L q (join a b) h = refl

join_later : (H : Graph) (R : Rule) (r p m : ℕ) (f : List ℕ) (p' m' : ℕ) (k : List ℕ) (q : ℕ) (n : PlanNode) → (first_of (suc p) n ≡ p → ⊥) → join_at H R r p m f p' m' k q n ≡ []
unfolding join_at
join_later H R r p m f p' m' k q leaf h = refl
join_later H R r p m f p' m' k q (introduce c i) h = refl
join_later H R r p m f p' m' k q (join a b) h = rw (ne_eqb a p h)

binary_later : (G : Grammar) (H : Graph) (r p m : ℕ) (f : List ℕ) → ((q : ℕ) → q < length (plan_of G r) → first_of (suc p) (plan_node (plan_of G r) q) ≡ p → ⊥) → (b : Item) → binary_of G H (active r p m f) b ≡ []
unfolding binary_of
binary_later G H r p m f h (passive s m' L) =
    each_none (length (plan_of G r)) _ (λ q l. nonterminal_later H (rule_of G r) r p m f s m' L q (plan_node (plan_of G r) q) (h q l))
binary_later G H r p m f h (active r' p' m' k) =
    ap (guard (eqb r r')) (each_none (length (plan_of G r)) _ (λ q l. join_later H (rule_of G r) r p m f p' m' k q (plan_node (plan_of G r) q) (h q l))) ∙ guard_none (eqb r r')

-- ---- nor does it as the second, where p is no plan node's second child
and_not : (a b : Bool) → b ≡ false → (a && b) ≡ false
and_not true b h = h
and_not false b h = refl

join_earlier : (H : Graph) (R : Rule) (r p m : ℕ) (f : List ℕ) (p' m' : ℕ) (k : List ℕ) (q : ℕ) (n : PlanNode) → ((a b : ℕ) → n ≡ join a b → b ≡ p' → ⊥) → join_at H R r p m f p' m' k q n ≡ []
unfolding join_at
join_earlier H R r p m f p' m' k q leaf h = refl
join_earlier H R r p m f p' m' k q (introduce c i) h = refl
join_earlier H R r p m f p' m' k q (join a b) h = ap (λ t. guard t (combine H R r q m m' f k)) (and_not (eqb a p) (eqb b p') (ne_eqb b p' (h a b refl)))

binary_earlier : (G : Grammar) (H : Graph) (r p m : ℕ) (f : List ℕ) → ((q a b : ℕ) → q < length (plan_of G r) → plan_node (plan_of G r) q ≡ join a b → b ≡ p → ⊥) → (r' p' m' : ℕ) (k : List ℕ) → binary_of G H (active r' p' m' k) (active r p m f) ≡ []
unfolding binary_of
binary_earlier G H r p m f h r' p' m' k = rule_or_none (eqb r' r) _ (λ t. each r' (eqb-true r' r t))
  where
    each : (r' : ℕ) → r' ≡ r → each_to (length (plan_of G r')) (λ q. join_at H (rule_of G r') r' p' m' k p m f q (plan_node (plan_of G r') q)) ≡ []
    each r' e =
        each_none (length (plan_of G r')) _
        (λ q l. join_earlier H (rule_of G r') r' p' m' k p m f q (plan_node (plan_of G r') q)
        (λ a b n s. h q a b (omega (arith, ap (λ r. length (plan_of G r)) e)) (ap (λ r. plan_node (plan_of G r) q) (sym e) ∙ n) s))

-- ---- a plan node is a child at most once
pub child_some : (pl : List PlanNode) (c q : ℕ) → occurs c (children (plan_node pl q)) ≤ occurs c (all_children pl)
unfolding all_children occurs
child_some [] c q = omega arith
child_some (n ∷ pl) c zero = omega (arith, occurs_append c (children n) (all_children pl))
child_some (n ∷ pl) c (suc q) = omega (arith, child_some pl c q, occurs_append c (children n) (all_children pl))

-- ---- an item below a plan node
module _ (g : List ℕ) (checked : check_grammar g ≡ true) (x : ChartItem) where
  abbrev G : Grammar
  G = grammar_of g

  abbrev pl : List PlanNode
  pl = plan_of G x.of

  pub leads_passive : (x.kind ≡ 0 → ⊥) → Leads g x false
  leads_passive k = record { not = λ e H y. pair_passive G H x y (ne_eqb x.kind 0 k); yes = λ e. absurd (false≢true e) }

  module _ (k : x.kind ≡ 0) (above : Parent) (is : ParentAt g x.of x.plan above) where
    abbrev up : ℕ
    up = above.word % 32

    item : item_of G x ≡ active x.of x.plan x.edges (take (right_of G x.of).nodes x.nodes)
    item = item_active G x (eq-eqb x.kind 0 k)

    module _ (l : up < 16) where
      abbrev c : ℕ
      c = plan_first g x.of up

      near : Above g x.of x.plan (Some up)
      near = is.above l

      known : KnownNode g x.of up
      known = near.known

      only : (q : ℕ) → q < length pl → 0 < occurs x.plan (children (plan_node pl q)) → q ≡ up
      only q n o = near.parent.only q (omega (arith, plan_size g x.of checked known.rule)) o

      from : plan_node pl up ≡ plan_from (plan_kind g x.of up) c (plan_second g x.of up)
      from = node_is g x.of up known _ refl

      not_first : (c ≡ x.plan → ⊥) → (q : ℕ) → q < length pl → first_of (suc x.plan) (plan_node pl q) ≡ x.plan → ⊥
      not_first n q d e =
          let s : q ≡ up = only q d (first_occurs x.plan (plan_node pl q) e) in
          first_other x.plan (plan_kind g x.of up) c (plan_second g x.of up) n
          (ap (first_of (suc x.plan)) (sym from) ∙ ap (λ q. first_of (suc x.plan) (plan_node pl q)) (sym s) ∙ e)

      not_second : c ≡ x.plan → (q a b : ℕ) → q < length pl → plan_node pl q ≡ join a b → b ≡ x.plan → ⊥
      unfolding occurs
      not_second n q a b d node e =
          let two : occurs x.plan (children (plan_node pl q)) ≡ hit x.plan a + (hit x.plan b + 0) = ap (λ (n : PlanNode). occurs x.plan (children n)) node in
          let hit_b : hit x.plan b ≡ 1 = ap (hit x.plan) e ∙ hit_self x.plan in
          let s : q ≡ up = only q d (omega arith) in
          let same : a ≡ x.plan =
          ap (first_of c) (sym node) ∙ ap (λ q. first_of c (plan_node pl q)) s ∙ ap (first_of c) from ∙ first_from_lem (plan_kind g x.of up) c (plan_second g x.of up) ∙ n
          in
          let hit_a : hit x.plan a ≡ 1 = ap (hit x.plan) same ∙ hit_self x.plan in
          let size = plan_size g x.of checked known.rule in
          let lower : x.plan < q = child_lower g x.of x.plan checked known.rule q (omega arith) (omega arith) in
          omega (arith, child_some pl x.plan q, (plan_ok g x.of checked known.rule).child_once x.plan (omega arith))

      second_none : c ≡ x.plan → (H : Graph) (y : ChartItem) (t : Bool) → eqb y.kind 0 ≡ t → binary_of G H (item_of G y) (item_of G x) ≡ []
      second_none n H y true t = ap₂ (binary_of G H) (item_active G y t) item ∙ binary_earlier G H _ _ _ _ (not_second n) _ _ _ _
      second_none n H y false t = pair_passive G H y x t

      -- which of its parent's children x is at, is told by the word
      pub leads_first : Leads g x (not (eqb (above.word / 32 % 4) 3))
      leads_first = record {
        not = λ e H y.
            ap (λ (i : Item). binary_of G H i (item_of G y)) item
            ∙ binary_later G H _ _ _ _ (not_first (word_later g x.of x.plan above.word (is.join l) (eqb-true (above.word / 32 % 4) 3 (not-false _ e))).0) (item_of G y);
        yes = λ e H y. second_none (join_first g x.of x.plan above.word (is.join l) (eqb-false (above.word / 32 % 4) 3 (not-true _ e))).0 H y (eqb y.kind 0) refl;
      }
