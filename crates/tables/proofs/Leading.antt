-- From line to line: where those between stand in their order, what is left to check before them is what is left
-- behind them.
use Prim.Native.Nat.{ℕ, suc, ◌+◌, ◌≤◌, ◌<◌, min}
use native.Mathlib.Omega.{arith}
use mathlib.Core.Path.{◌≡◌, refl, sym, ap, subst}
use mathlib.Core.Bool.{Bool, true, false, not, cond, false≢true}
use mathlib.Core.List.{List, []}
use lib.ListN.{get_or}
use lib.Dec.{ltb}
use borrow.Author.Tests.{lt-ltb, le-ltb, not-true, not-false}
use Rattle.hrg.specs.WellFormed.{Between}
use Rattle.questions.specs.declared.Due.{Due}
use Rattle.questions.specs.declared.Due.TheVariants.{Grammar, Symbol, Rule, RuleEdge, PlanLine, Graph, GraphEdge, Nothing}
use Rattle.questions.specs.Layout.{symbol_place, graph_edge_place, rule_place, edges_from, edge_place, plans_from, place_of, line_field, symbol_count, rule_count, rule_edges, rule_plan, graph_edges}
use Rattle.questions.specs.Questions.{judge}
use Rattle.questions.specs.Reading.{next}
use Rattle.questions.specs.Checking.{fields_due, stored_fields}
use Rattle.questions.proofs.StoredLaws.{get_d_tabulate}
use Rattle.questions.proofs.WellFormedQuestions.{passes_grammar, passes_rule, passes_graph}
use Rattle.questions.proofs.WellFormedWalk.{IsLine, judged_line}
use Rattle.tables.proofs.Gaps.{zero_none}
use Rattle.tables.specs.Concluding.{Zero, Zeros, Standing, Stands, Rest, last, line, Concludes, Leads, Reaches, Count, rule_after}

module _ (size : ℕ) (g t : List ℕ) where
  -- what is left where a line is due
  rest_line : (due : Due) (from : ℕ) → IsLine due → Rest size g t due from
      → Zero t from (place_of due) × Standing g t due × Rest size g t (next t due) (place_of due + 1)
  rest_line due from l (last z) = absurd l
  rest_line due from l (line z s r) = (z, s, r)

  leads_same : (due : Due) (from : ℕ) → Leads size g t due from due from
  leads_same due from = record { onward = λ r. r; back = λ r. r }

  leads_on : (a b c : Due) (i j k : ℕ) → Leads size g t a i b j → Leads size g t b j c k → Leads size g t a i c k
  leads_on a b c i j k p q = record { onward = λ r. q.onward (p.onward r); back = λ r. p.back (q.back r) }

  -- over the words before a line
  module _ (due : Due) (from : ℕ) (l : IsLine due) where
    leads_gap : Zero t from (place_of due) → Leads size g t due from due (place_of due)
    leads_gap z = record {
      onward = λ r. let s = rest_line due from l r in line (zero_none t (place_of due)) s.1 s.2;
      back = λ r. let s = rest_line due (place_of due) l r in line z s.1 s.2;
    }

    gap_no : (Zero t from (place_of due) → ⊥) → Rest size g t due from → ⊥
    gap_no n r = n (rest_line due from l r).0

    line_no : (Standing g t due → ⊥) → Rest size g t due from → ⊥
    line_no n r = n (rest_line due from l r).1

    -- over a line
    leads_line : from ≡ place_of due → Standing g t due → Leads size g t due from (next t due) (from + 1)
    leads_line e s = record {
      onward = λ r. subst (λ i. Rest size g t (next t due) (i + 1)) (sym e) (rest_line due from l r).2;
      back = λ r. line (subst (λ i. Zero t i (place_of due)) (sym e) (zero_none t (place_of due))) s (subst (λ i. Rest size g t (next t due) (i + 1)) e r);
    }

  -- ---- what a function answers
  pub reaches_no : (due then : Due) (from to : ℕ) → (Rest size g t due from → ⊥) → Reaches size g t due from then to false
  reaches_no due then from to n = record { yes = λ y. absurd (false≢true y); no = λ y. n }

  pub reaches_yes : (due then : Due) (from to : ℕ) → Leads size g t due from then to → Reaches size g t due from then to true
  reaches_yes due then from to p = record { yes = λ y. p; no = λ y. absurd (false≢true (sym y)) }

  pub concludes_no : (due : Due) (from : ℕ) → (Rest size g t due from → ⊥) → Concludes size g t due from false
  concludes_no due from n = record { yes = λ y. absurd (false≢true y); no = λ y. n }

  pub concludes_at : (due : Due) (from to : ℕ) (b : Bool) → from ≡ to → Concludes size g t due from b → Concludes size g t due to b
  concludes_at due from to b e q = subst (λ (k : ℕ). Concludes size g t due k b) e q

  module _ (due then : Due) (from to : ℕ) (p : Leads size g t due from then to) (b : Bool) where
    reaches_on : (after : Due) (end : ℕ) → Reaches size g t then to after end b → Reaches size g t due from after end b
    reaches_on after end q = record { yes = λ y. leads_on due then after from to end p (q.yes y); no = λ y r. q.no y (p.onward r) }

    pub through : (after : Due) (end : ℕ) → Reaches size g t then to after end b → not b ≡ false → Leads size g t due from after end
    through after end q e = leads_on due then after from to end p (q.yes (not-false b e))

    pub through_no : (after : Due) (end : ℕ) → Reaches size g t then to after end b → not b ≡ true → Rest size g t due from → ⊥
    through_no after end q e r = q.no (not-true b e) (p.onward r)

    pub concludes_on : Concludes size g t then to b → Concludes size g t due from b
    concludes_on q = record { yes = λ y. p.back (q.yes y); no = λ y r. q.no y (p.onward r) }

  -- the words behind the last line
  pub concludes_last : (from : ℕ) (b : Bool) → Zeros t from size b → Concludes size g t Nothing from b
  concludes_last from b zs = record { yes = λ y. last (zs.yes y); no = λ y r. zs.no y (behind r) }
    where
      behind : Rest size g t Nothing from → Zero t from size
      behind r = none Nothing refl r
        where
          none : (d : Due) → d ≡ Nothing → Rest size g t d from → Zero t from size
          none d e (last z) = z
          none d e (line z s r) = absurd (subst IsLine e (judged_line g t d (stored_fields g t t d) s.passed))

  -- ---- n lines of a kind, and what is due after them
  pub lines_start : (kind : ℕ → Due) (after : Due) (n from to : ℕ) → from ≡ to → 1 ≤ n → Leads size g t (kind 0) from (cond (ltb 0 n) (kind 0) after) to
  lines_start kind after n from to e h = rw (lt-ltb 0 n h, ← e) (leads_same (kind 0) from)

  module _ (first : Due) (f : ℕ) (kind : ℕ → Due) (after : Due) (n i at : ℕ) (p : Leads size g t first f (cond (ltb i n) (kind i) after) at) where
    pub lines_end : n ≤ i → (to : ℕ) → at ≡ to → Leads size g t first f after to
    lines_end h to e = rw (← e) (rw (le-ltb i n h) at p)

    module _ (h : i < n) where
      lines_at : Leads size g t first f (kind i) at
      lines_at = rw (lt-ltb i n h) at p

      module _ (l : IsLine (kind i)) (r : Bool) (s : Stands g t (kind i) r) where
        pub lines_no : not r ≡ true → Rest size g t first f → ⊥
        lines_no e x = line_no (kind i) at l (s.no (not-true r e)) (lines_at.onward x)

        pub lines_next : not r ≡ false → at ≡ place_of (kind i) → next t (kind i) ≡ cond (ltb (i + 1) n) (kind (i + 1)) after → (to : ℕ) → at + 1 ≡ to
            → Leads size g t first f (cond (ltb (i + 1) n) (kind (i + 1)) after) to
        lines_next e place then to end =
            leads_on first (kind i) _ f at to lines_at
            (subst (λ (k : ℕ). Leads size g t (kind i) at (cond (ltb (i + 1) n) (kind (i + 1)) after) k) end
            (subst (λ (d : Due). Leads size g t (kind i) at d (at + 1)) then (leads_line (kind i) at l place (s.yes (not-false r e)))))

-- ---- what is due next, by a count that stands in the table
count_min : (n w most : ℕ) → Count n w most → min most w ≡ n
count_min n w most c = omega (arith, c.same, c.few)

module _ (t : List ℕ) (n : ℕ) where
  pub next_symbol : (s : ℕ) → Count n (symbol_count t) 64 → next t (Symbol s) ≡ cond (ltb (s + 1) n) (Symbol (s + 1)) (Rule 0)
  unfolding next
  next_symbol s c = rw (count_min n (symbol_count t) 64 c)

  pub next_edge : (r i : ℕ) → Count n (rule_edges t r) 8 → next t (RuleEdge r i) ≡ cond (ltb (i + 1) n) (RuleEdge r (i + 1)) (PlanLine r 0)
  unfolding next
  next_edge r i c = rw (count_min n (rule_edges t r) 8 c)

  pub next_plan : (r q : ℕ) → Count n (rule_plan t r) 16 → next t (PlanLine r q) ≡ cond (ltb (q + 1) n) (PlanLine r (q + 1)) (rule_after t r)
  unfolding next
  next_plan r q c = ap (λ k. cond (ltb (q + 1) k) (PlanLine r (q + 1)) (rule_after t r)) (count_min n (rule_plan t r) 16 c)

  next_rule : (r : ℕ) → Count n (rule_count t) 64 → rule_after t r ≡ cond (ltb (r + 1) n) (Rule (r + 1)) Nothing
  next_rule r c = ap (λ k. cond (ltb (r + 1) k) (Rule (r + 1)) Nothing) (count_min n (rule_count t) 64 c)

  pub next_graph_edge : (e : ℕ) → Count n (graph_edges t) 64 → next t (GraphEdge e) ≡ cond (ltb (e + 1) n) (GraphEdge (e + 1)) Nothing
  unfolding next
  next_graph_edge e c = rw (count_min n (graph_edges t) 64 c)

-- ---- the counts of a line that stands
own_field : (g t : List ℕ) (due : Due) (j : ℕ) → j < fields_due g t t due → get_or (stored_fields g t t due) j 0 ≡ line_field t (place_of due) j
unfolding stored_fields
own_field g t due j h = get_d_tabulate (fields_due g t t due) (λ k. line_field t (place_of due) k) j 0 h

count_of : (n w x low most : ℕ) → n ≡ w → x ≡ w → Between (suc low) x most → Count n w most
count_of n w x low most e same b = record { same = e; some = omega (arith, b.lower); few = omega (arith, b.upper) }

module _ (t : List ℕ) (n : ℕ) where
  module _ (s : Standing [] t Grammar) where
    pub symbols_few : n ≡ symbol_count t → Count n (symbol_count t) 64
    unfolding judge place_of fields_due
    symbols_few e = count_of n _ _ 0 64 e (own_field [] t Grammar 0 (omega arith)) ((passes_grammar (stored_fields [] t t Grammar)).sound s.passed).symbols

    pub rules_few : n ≡ rule_count t → Count n (rule_count t) 64
    unfolding judge place_of fields_due
    rules_few e = count_of n _ _ 0 64 e (own_field [] t Grammar 1 (omega arith)) ((passes_grammar (stored_fields [] t t Grammar)).sound s.passed).rules

  module _ (r : ℕ) (s : Standing [] t (Rule r)) where
    pub edges_few : n ≡ rule_edges t r → Count n (rule_edges t r) 8
    unfolding judge place_of fields_due
    edges_few e = count_of n _ _ 0 8 e (own_field [] t (Rule r) 3 (omega arith)) ((passes_rule t r (stored_fields [] t t (Rule r))).sound s.passed).edges

    pub plan_few : n ≡ rule_plan t r → Count n (rule_plan t r) 16
    unfolding judge place_of fields_due
    plan_few e = count_of n _ _ 1 16 e (own_field [] t (Rule r) 4 (omega arith)) ((passes_rule t r (stored_fields [] t t (Rule r))).sound s.passed).plan

  pub graph_edges_few : (g : List ℕ) → Standing g t Graph → n ≡ graph_edges t → Count n (graph_edges t) 64
  unfolding judge place_of fields_due
  graph_edges_few g s e = count_of n _ _ 0 64 e (own_field g t Graph 1 (omega arith)) ((passes_graph g (stored_fields g t t Graph)).sound s.passed).edges

-- ---- the lines of a rule
module _ (size : ℕ) (t : List ℕ) (r : ℕ) (b : Bool) (s : Stands [] t (Rule r) b) (then : Due) (end : ℕ) where
  pub rule_no : not b ≡ true → Reaches size [] t (Rule r) (rule_place r) then end false
  rule_no e = reaches_no size [] t (Rule r) then _ end (line_no size [] t (Rule r) _ tt (s.no (not-true b e)))

  module _ (ok : not b ≡ false) (n : ℕ) (e : Bool) (E : Reaches size [] t (RuleEdge r 0) (edges_from r) (PlanLine r 0) (edge_place r n) e) where
    to_edges : Leads size [] t (Rule r) (rule_place r) (RuleEdge r 0) (edges_from r)
    unfolding next place_of
    to_edges =
        subst (Leads size [] t (Rule r) (rule_place r) (RuleEdge r 0)) (let x : rule_place r + 1 ≡ edges_from r = omega arith in x)
        (leads_line size [] t (Rule r) (rule_place r) tt refl (s.yes (not-false b ok)))

    pub rule_edges_no : not e ≡ true → Reaches size [] t (Rule r) (rule_place r) then end false
    rule_edges_no h = reaches_no size [] t (Rule r) then _ end (through_no size [] t (Rule r) (RuleEdge r 0) _ _ to_edges e _ _ E h)

    module _ (passed : not e ≡ false) (z : Bool) (zs : Zeros t (edge_place r n) (plans_from r) z) where
      to_gap : Leads size [] t (Rule r) (rule_place r) (PlanLine r 0) (edge_place r n)
      to_gap = through size [] t (Rule r) (RuleEdge r 0) _ _ to_edges e _ _ E passed

      here : plans_from r ≡ place_of (PlanLine r 0)
      unfolding place_of
      here = omega arith

      pub rule_gap_no : not z ≡ true → Reaches size [] t (Rule r) (rule_place r) then end false
      rule_gap_no h =
          reaches_no size [] t (Rule r) then _ end
          (λ x. gap_no size [] t (PlanLine r 0) _ tt (λ q. zs.no (not-true z h) (subst (Zero t (edge_place r n)) (sym here) q)) (to_gap.onward x))

      pub rule_plan_lem : not z ≡ false → (to : ℕ) → to ≡ end → (p : Bool) → Reaches size [] t (PlanLine r 0) (plans_from r) then to p
          → Reaches size [] t (Rule r) (rule_place r) then end p
      rule_plan_lem h to x p plan =
          let over = leads_gap size [] t (PlanLine r 0) (edge_place r n) tt (subst (Zero t (edge_place r n)) here (zs.yes (not-false z h))) in
          reaches_on size [] t (Rule r) (PlanLine r 0) _ (plans_from r)
          (leads_on size [] t (Rule r) (PlanLine r 0) (PlanLine r 0) _ _ _ to_gap (subst (Leads size [] t (PlanLine r 0) (edge_place r n) (PlanLine r 0)) (sym here) over))
          p then end (subst (λ (k : ℕ). Reaches size [] t (PlanLine r 0) (plans_from r) then k p) x plan)

-- ---- rule after rule
module _ (size : ℕ) (t : List ℕ) (first : Due) (f n r from : ℕ) (p : Leads size [] t first f (cond (ltb r n) (Rule r) Nothing) from) (h : r < n)
    (z : Bool) (zs : Zeros t from (rule_place r) z) where
  before : Leads size [] t first f (Rule r) from
  before = lines_at size [] t first f Rule Nothing n r from p h

  pub rules_gap_no : not z ≡ true → Concludes size [] t first f false
  unfolding place_of
  rules_gap_no e = concludes_no size [] t first f (λ x. gap_no size [] t (Rule r) from tt (zs.no (not-true z e)) (before.onward x))

  module _ (ok : not z ≡ false) (b : Bool) (end : ℕ) (R : Reaches size [] t (Rule r) (rule_place r) (rule_after t r) end b) where
    here_rule : Leads size [] t first f (Rule r) (rule_place r)
    unfolding place_of
    here_rule = leads_on size [] t first (Rule r) (Rule r) f from _ before (leads_gap size [] t (Rule r) from tt (zs.yes (not-false z ok)))

    pub rules_no : not b ≡ true → Concludes size [] t first f false
    rules_no e = concludes_no size [] t first f (through_no size [] t first (Rule r) f _ here_rule b _ end R e)

    pub rules_next : not b ≡ false → Count n (rule_count t) 64 → (to : ℕ) → end ≡ to → Leads size [] t first f (cond (ltb (r + 1) n) (Rule (r + 1)) Nothing) to
    rules_next e c to x =
        subst (λ (k : ℕ). Leads size [] t first f (cond (ltb (r + 1) n) (Rule (r + 1)) Nothing) k) x
        (subst (λ (d : Due). Leads size [] t first f d end) (next_rule t n r c) (through size [] t first (Rule r) f _ here_rule b _ end R e))

-- ---- the first line of a table
module _ (size : ℕ) (g t : List ℕ) (b : Bool) where
  pub grammar_no : Stands g t Grammar b → not b ≡ true → Concludes size g t Grammar 0 false
  grammar_no s e = concludes_no size g t Grammar 0 (line_no size g t Grammar 0 tt (s.no (not-true b e)))

  pub grammar_line_is : Stands g t Grammar b → not b ≡ false → Leads size g t Grammar 0 (Symbol 0) (symbol_place 0)
  unfolding next place_of
  grammar_line_is s e = leads_line size g t Grammar 0 tt refl (s.yes (not-false b e))

  pub graph_no : Stands g t Graph b → not b ≡ true → Concludes size g t Graph 0 false
  graph_no s e = concludes_no size g t Graph 0 (line_no size g t Graph 0 tt (s.no (not-true b e)))

  pub graph_line_lem : Stands g t Graph b → not b ≡ false → Leads size g t Graph 0 (GraphEdge 0) (graph_edge_place 0)
  unfolding next place_of
  graph_line_lem s e = leads_line size g t Graph 0 tt refl (s.yes (not-false b e))
