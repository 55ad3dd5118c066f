-- The partners below a plan node, opened once in the terms of the code.
use mathlib.Core.Path.{◌≡◌, refl, sym, ap, ◌∙◌}
use mathlib.Core.List.{List}
use Prim.Native.Nat.{ℕ, zero, suc, ◌-◌}
use native.Mathlib.Omega.{arith}
use lib.ListN.{length, set, replicate}
use borrow.Author.Tests.{ne_eqb}
use Rattle.hrg.specs.Grammars.{PlanNode, leaf, introduce, join, Grammar, plan_of, plan_node}
use Rattle.questions.specs.Abstract.{plan_from}
use Rattle.agenda.specs.declared.Record.{Record}
use Rattle.records.specs.Words.{record_at}
use Rattle.extraction.specs.Extraction.{partners_via, partners_within, rule_at, partners_at}

less : (n : ℕ) → suc n - 1 ≡ n
less n = omega arith

module _ (w : List ℕ) where
  abbrev look : ℕ → Record
  look = λ k. record_at w k

  module _ (pl : List PlanNode) (left p j : ℕ) (bs : List ℕ) where
    pub within_end : left ≡ 0 → bs ≡ partners_within look pl left p j bs
    unfolding partners_within
    within_end e = rw e

    within_step : (left ≡ 0 → ⊥) → partners_within look pl left p j bs ≡ partners_via (λ c i cs. partners_within look pl (left - 1) c i cs) (record_at w j) bs (plan_node pl p)
    unfolding partners_within
    within_step n = go left n
      where
        go : (left : ℕ) → (left ≡ 0 → ⊥) → partners_within look pl left p j bs ≡ partners_via (λ c i cs. partners_within look pl (left - 1) c i cs) (record_at w j) bs (plan_node pl p)
        go zero n = absurd (n refl)
        go (suc k) n = rw less

    module _ (some : left ≡ 0 → ⊥) (kind first second : ℕ) (node : plan_node pl p ≡ plan_from kind first second) where
      abbrev below : PlanNode → List ℕ
      below = λ y. partners_via (λ c i cs. partners_within look pl (left - 1) c i cs) (record_at w j) bs y

      pub within_leaf : kind ≡ 0 → bs ≡ partners_within look pl left p j bs
      within_leaf e =
          let here : plan_node pl p ≡ leaf = node ∙ rw e in
          sym (within_step some ∙ ap below here)

      module _ (a b : ℕ) (at_a : a ≡ (record_at w j).first) (at_b : b ≡ (record_at w j).second) where
        pub within_introduce : (v : List ℕ) → kind ≡ 1 → v ≡ partners_within look pl (left - 1) first a (set bs second b) → v ≡ partners_within look pl left p j bs
        within_introduce v e x =
            let here : plan_node pl p ≡ introduce first second = node ∙ rw e in
            x ∙ rw (at_a, at_b) (sym (within_step some ∙ ap below here))

        pub within_join : (cs v : List ℕ) → (kind ≡ 0 → ⊥) → (kind ≡ 1 → ⊥) → cs ≡ partners_within look pl (left - 1) first a bs
            → v ≡ partners_within look pl (left - 1) second b cs → v ≡ partners_within look pl left p j bs
        within_join cs v y z x x' =
            let here : plan_node pl p ≡ join first second = node ∙ rw (ne_eqb kind 0 y, ne_eqb kind 1 z) in
            x' ∙ rw (x, at_a, at_b) (sym (within_step some ∙ ap below here))

  -- ---- a passive record
  module _ (G : Grammar) (j r n : ℕ) (rule : r ≡ rule_at look j) (size : n ≡ length (plan_of G r)) where
    sized : n ≡ length (plan_of G (rule_at look j))
    sized = size ∙ ap (λ r. length (plan_of G r)) rule

    pub partners_none : (bs : List ℕ) → bs ≡ replicate 8 0 → n ≡ 0 → bs ≡ partners_at look G j
    unfolding partners_at
    partners_none bs z e =
        z ∙ within_end (plan_of G (rule_at look j)) (length (plan_of G (rule_at look j))) (length (plan_of G (rule_at look j)) - 1) (record_at w j).first (replicate 8 0) (sym sized ∙ e)

    pub partners_some : (x : ℕ) (bs v : List ℕ) → bs ≡ replicate 8 0 → x ≡ (record_at w j).first → v ≡ partners_within look (plan_of G r) n (n - 1) x bs → v ≡ partners_at look G j
    unfolding partners_at
    partners_some x bs v z a b = b ∙ rw (z, size, rule, a)
