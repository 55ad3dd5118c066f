-- An item that does not want another makes nothing with it, in either order.
use mathlib.Core.Path.{◌≡◌, refl, sym, ap, ap₂, ◌∙◌}
use mathlib.Core.Bool.{Bool, true, false, ◌&&◌}
use mathlib.Core.List.{List, [], ◌∷◌, ◌++◌}
use Prim.Native.Nat.{ℕ, ◌+◌, ◌<◌}
use native.Mathlib.Omega.{arith}
use native.Mathlib.Decide.{dec_lt}
use lib.ListN.{length, get_or, get_or-eq_default}
use lib.Dec.{eqb}
use borrow.Author.Tests.{eq-eqb, eqb-true, lt-ltb}
use Rattle.hrg.specs.Counts.{occurs}
use Rattle.hrg.specs.Grammars.{Rule, Graph, Grammar, no_rule, PlanNode, leaf, introduce, join, rule_of, right_of, plan_of, plan_node, edge_at}
use Rattle.hrg.specs.Items.{active, passive}
use Rattle.hrg.specs.WellFormed.{children}
use Rattle.hrg.specs.ClosureRun.{guard, nonterminal_at, join_at, binary_of}
use Rattle.hrg.proofs.Sums.{hit_self, none_left}
use Rattle.hrg.proofs.Plans.{introduce_known, join_lower}
use Rattle.agenda.specs.Records.{item_of}
use Rattle.agenda.specs.declared.ChartItem.{ChartItem}
use Rattle.questions.specs.Layout.{rule_count, rule_edges, rule_plan}
use Rattle.questions.specs.Checking.{check_grammar}
use Rattle.questions.specs.Abstract.{grammar_of}
use Rattle.questions.proofs.WellFormedLent.{checked_grammar_ok}
use Rattle.questions.proofs.WellFormedAccepted.{rules_length}
use Rattle.joins.specs.Joins.{KnownEdge}
use Rattle.joins.proofs.Known.{plan_ok, plan_size, plan_few}
use Rattle.joins.proofs.EdgeMaps.{edge_ok}
use Rattle.rules.specs.Wants.{wants_at, want_of}
use Rattle.rules.proofs.Parents.{parent_found}
use Rattle.rules.proofs.RuleItems.{guard_none, each_none, item_active, item_passive, pair_passive}
use Rattle.rules.proofs.WantLaws.{want_at}

-- ---- what an item at a plan node makes
-- both tests pass, or nothing is left
both_or_none : {A : Type 0} (s t : Bool) (l : List A) → (s ≡ true → t ≡ true → ⊥) → guard (s && t) l ≡ []
both_or_none true true l h = absurd (h refl refl)
both_or_none true false l h = refl
both_or_none false t l h = refl

pub rule_or_none : {A : Type 0} (s : Bool) (l : List A) → (s ≡ true → l ≡ []) → guard s l ≡ []
rule_or_none true l h = h refl
rule_or_none false l h = refl

module _ (g : List ℕ) (checked : check_grammar g ≡ true) where
  abbrev G : Grammar
  G = grammar_of g

  -- a rule that has plan nodes is there
  there : (r q : ℕ) → q < length (plan_of G r) → Dec (r < rule_count g) → r < rule_count g
  there r q l (yes d) = d
  there r q l (no d) = absurd (omega (arith, ap (λ (R : Rule). length R.plan) (get_or-eq_default G.rules no_rule {n = r} (omega (arith, rules_length g)))))

  module _ (r q : ℕ) (l : q < length (plan_of G r)) where
    pub rule : r < rule_count g
    rule = there r q l (dec_lt r (rule_count g))

    inside : q < rule_plan g r
    inside = omega (arith, plan_size g r checked rule)

    want_is : (p : ℕ) → 0 < occurs p (children (plan_node (plan_of G r) q)) → want_of G r p ≡ get_or (wants_at G r p (plan_node (plan_of G r) q)) 0 80
    want_is p h =
        want_at G r p q l
        (λ q' k n. none_left _ (λ o. n ((parent_found g r p checked rule q inside (lt-ltb 0 _ h)).only q' (omega (arith, plan_size g r checked rule)) o)))

    -- the symbol of the edge that q introduces
    module _ (c i : ℕ) (node : plan_node (plan_of G r) q ≡ introduce c i) where
      pub label_few : (edge_at (right_of G r).edges i).label < 64
      label_few =
          let known : KnownEdge g r i = record { grammar = checked; rule = rule; edge = introduce_known (rule_edges g r) (plan_of G r) (plan_ok g r checked rule) q c i node } in
          omega (arith, (edge_ok g r i known).known, (checked_grammar_ok g checked).symbol_count_is.upper)

      pub want_label : want_of G r c ≡ (edge_at (right_of G r).edges i).label
      unfolding wants_at occurs
      want_label =
          want_is c (omega (arith, ap (λ (n : PlanNode). occurs c (children n)) node, hit_self c))
          ∙ ap (λ (n : PlanNode). get_or (wants_at G r c n) 0 80) node
          ∙ rw (eq-eqb c c refl)

    -- the children of a join
    module _ (a b : ℕ) (node : plan_node (plan_of G r) q ≡ join a b) where
      pub few : (a < 16) × (b < 16)
      few =
          let l = join_lower (rule_edges g r) (plan_of G r) (plan_ok g r checked rule) q a b node in
          let n = plan_few g r checked rule in
          (omega (arith, l.0, n, inside), omega (arith, l.1, n, inside))

      pub want_second : want_of G r a ≡ 64 + b
      unfolding wants_at occurs
      want_second =
          want_is a (omega (arith, ap (λ (n : PlanNode). occurs a (children n)) node, hit_self a))
          ∙ ap (λ (n : PlanNode). get_or (wants_at G r a n) 0 80) node
          ∙ rw (eq-eqb a a refl)

      pub want_first : want_of G r b ≡ 64 + a
      unfolding wants_at occurs
      want_first =
          want_is b (omega (arith, ap (λ (n : PlanNode). occurs b (children n)) node, hit_self b))
          ∙ ap (λ (n : PlanNode). get_or (wants_at G r b n) 0 80) node
          ∙ go (eqb a b) refl
        where
          go : (s : Bool) → eqb a b ≡ s → get_or (guard s ((64 + b) ∷ []) ++ guard (eqb b b) ((64 + a) ∷ [])) 0 80 ≡ 64 + a
          go true e = ap (λ n. 64 + n) (sym (eqb-true a b e))
          go false e = rw (eq-eqb b b refl)

  module _ (H : Graph) (r p m : ℕ) (f : List ℕ) where
    -- with a passive item of a symbol that it does not want
    pub passive_none : (s m' : ℕ) (L : List ℕ) → (s < 64 → want_of G r p ≡ s → ⊥) → binary_of G H (active r p m f) (passive s m' L) ≡ []
    unfolding binary_of nonterminal_at
    passive_none s m' L unwanted = each_none (length (plan_of G r)) _ (λ q l. node q l (plan_node (plan_of G r) q) refl)
      where
        node : (q : ℕ) → q < length (plan_of G r) → (n : PlanNode) → plan_node (plan_of G r) q ≡ n → nonterminal_at H (rule_of G r) r p m f s m' L q n ≡ []
        node q l leaf e = refl
        node q l (introduce c i) e =
            both_or_none (eqb c p) (eqb s (edge_at (right_of G r).edges i).label) _
            (λ x y. let k : s ≡ (edge_at (right_of G r).edges i).label = eqb-true s (edge_at (right_of G r).edges i).label y in
            unwanted (omega (arith, k, label_few r q l c i e)) (ap (λ p. want_of G r p) (sym (eqb-true c p x)) ∙ want_label r q l c i e ∙ sym k))
        node q l (join a b) e = refl

    module _ (r' p' m' : ℕ) (k : List ℕ) (unwanted : p' < 16 → want_of G r p ≡ 64 + p' → ⊥) where
      -- with an active item at another plan node than its join's other child, which comes second
      pub second_none : binary_of G H (active r p m f) (active r' p' m' k) ≡ []
      unfolding binary_of join_at
      second_none = ap (guard (eqb r r')) (each_none (length (plan_of G r)) _ (λ q l. node q l (plan_node (plan_of G r) q) refl)) ∙ guard_none (eqb r r')
        where
          node : (q : ℕ) → q < length (plan_of G r) → (n : PlanNode) → plan_node (plan_of G r) q ≡ n → join_at H (rule_of G r) r p m f p' m' k q n ≡ []
          node q l leaf e = refl
          node q l (introduce c i) e = refl
          node q l (join a b) e =
              both_or_none (eqb a p) (eqb b p') _
              (λ x y. let s : b ≡ p' = eqb-true b p' y in
              unwanted (omega (arith, s, (few r q l a b e).1)) (ap (λ p. want_of G r p) (sym (eqb-true a p x)) ∙ want_second r q l a b e ∙ ap (λ n. 64 + n) s))

      -- which comes first
      pub first_none : binary_of G H (active r' p' m' k) (active r p m f) ≡ []
      unfolding binary_of join_at
      first_none = rule_or_none (eqb r' r) _ (λ t. each_none (length (plan_of G r')) _ (λ q l. node (eqb-true r' r t) q l (plan_node (plan_of G r') q) refl))
        where
          node : r' ≡ r → (q : ℕ) → q < length (plan_of G r') → (n : PlanNode) → plan_node (plan_of G r') q ≡ n → join_at H (rule_of G r') r' p' m' k p m f q n ≡ []
          node t q l leaf e = refl
          node t q l (introduce c i) e = refl
          node t q l (join a b) e =
              both_or_none (eqb a p') (eqb b p) _
              (λ x y. let s : a ≡ p' = eqb-true a p' x in
              unwanted (omega (arith, s, (few r' q l a b e).0)) (ap₂ (λ r p. want_of G r p) (sym t) (sym (eqb-true b p y)) ∙ want_first r' q l a b e ∙ ap (λ n. 64 + n) s))

-- ---- two items of a chart
module _ (g : List ℕ) (checked : check_grammar g ≡ true) (H : Graph) (x y : ChartItem) (want : ℕ) (is : want ≡ want_of (grammar_of g) x.of x.plan) where
  abbrev 𝐆 : Grammar
  𝐆 = grammar_of g

  pub record Nothing : Type 0 where
    pub forth : binary_of 𝐆 H (item_of 𝐆 x) (item_of 𝐆 y) ≡ []
    pub back : binary_of 𝐆 H (item_of 𝐆 y) (item_of 𝐆 x) ≡ []

  with_passive : eqb x.kind 0 ≡ true → eqb y.kind 0 ≡ false → (y.of < 64 → want ≡ y.of → ⊥) → Nothing
  with_passive a b unwanted = record {
    forth = ap₂ (binary_of 𝐆 H) (item_active 𝐆 x a) (item_passive 𝐆 y b) ∙ passive_none g checked H _ _ _ _ y.of _ _ (λ l e. unwanted l (is ∙ e));
    back = pair_passive 𝐆 H y x b;
  }

  with_active : eqb x.kind 0 ≡ true → eqb y.kind 0 ≡ true → (y.plan < 16 → want ≡ 64 + y.plan → ⊥) → Nothing
  with_active a b unwanted = record {
    forth = ap₂ (binary_of 𝐆 H) (item_active 𝐆 x a) (item_active 𝐆 y b) ∙ second_none g checked H _ _ _ _ y.of y.plan _ _ (λ l e. unwanted l (is ∙ e));
    back = ap₂ (binary_of 𝐆 H) (item_active 𝐆 y b) (item_active 𝐆 x a) ∙ first_none g checked H _ _ _ _ y.of y.plan _ _ (λ l e. unwanted l (is ∙ e));
  }

  -- an active item that wants nothing meets nothing
  pub unwanting : x.kind ≡ 0 → want ≡ 80 → Nothing
  unwanting a e = go (eqb y.kind 0) refl
    where
      go : (b : Bool) → eqb y.kind 0 ≡ b → Nothing
      go true b = with_active (eq-eqb x.kind 0 a) b (λ l q. omega arith)
      go false b = with_passive (eq-eqb x.kind 0 a) b (λ l q. omega arith)
