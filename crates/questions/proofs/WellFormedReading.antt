-- Reading a text and checking a table are walks, and the lines of a walk over a whole file all stand in its table.
use mathlib.Core.Path.{◌≡◌, refl, ◌∙◌, subst}
use mathlib.Core.Logic.{◌⊎◌, inl, inr}
use mathlib.Core.Bool.{Bool, true, false, cond, ◌&&◌}
use mathlib.Core.List.{List, [], ◌∷◌, map}
use Prim.Native.Nat.{ℕ, zero, suc, ◌+◌, ◌≤◌, ◌<◌, min, pred}
use native.Mathlib.Omega.{arith}
use native.Mathlib.Decide.{dec_lt}
use lib.ListN.{replicate, length-replicate}
use lib.Dec.{eqb, ltb}
use borrow.Author.Tests.{lt-ltb, le-ltb}
use Rattle.format.specs.Lines.{Line, lines_of}
use Rattle.format.specs.Shape.{shape_of, letter_of, kind_letter}
use Rattle.format.specs.Fields.{fields_of}
use Rattle.questions.specs.Layout.{place_of, letter_due, stored, grammar_words, graph_words, symbol_count, rule_count, rule_edges, rule_plan, graph_edges}
use Rattle.questions.specs.Questions.{ask, field, judge}
use Rattle.questions.specs.Reading.{next, judge_line, Verdict, refused, accepted, when_done, go_on, read_lines, grammar_verdict, graph_verdict}
use Rattle.questions.specs.Checking.{stored_fields, check_lines}
use Rattle.questions.specs.Walk.{Walk, done, line, Stands, Lines, none, more}
use Rattle.questions.specs.declared.Due.{Due}
use Rattle.questions.specs.declared.Due.TheVariants.{Grammar, Symbol, Rule, RuleEdge, PlanLine, Graph, GraphEdge, Nothing}
use Rattle.questions.proofs.WellFormedQuestions.{passes_grammar, passes_rule, passes_graph}
use Rattle.questions.proofs.WellFormedWalk.{IsLine, walk_lines}

-- ---- verdicts
accepted_more : (k : ℕ) (v : Verdict) (t : List ℕ) → go_on k v ≡ accepted t → (k ≡ 0) × (v ≡ accepted t)
accepted_more zero v t h = (refl, h)
accepted_more (suc k) v t h = absurd (let z : ◌≡◌ {A = ℕ} 0 1 = cc in omega arith)

-- what is accepted is at its end, or the line passes and the rest is accepted
pub accepted_or : (d : Due) (c t : List ℕ) (k : ℕ) (v : Verdict) → when_done d (accepted c) (go_on k v) ≡ accepted t → ((d ≡ Nothing) × (c ≡ t)) ⊎ ((k ≡ 0) × (v ≡ accepted t))
accepted_or Nothing c t k v h = inl (refl, cc)
accepted_or Grammar c t k v h = inr (accepted_more k v t h)
accepted_or (Symbol s) c t k v h = inr (accepted_more k v t h)
accepted_or (Rule r) c t k v h = inr (accepted_more k v t h)
accepted_or (RuleEdge r i) c t k v h = inr (accepted_more k v t h)
accepted_or (PlanLine r q) c t k v h = inr (accepted_more k v t h)
accepted_or Graph c t k v h = inr (accepted_more k v t h)
accepted_or (GraphEdge e) c t k v h = inr (accepted_more k v t h)

end_walk : (g t c : List ℕ) (d : Due) → (d ≡ Nothing) × (c ≡ t) → Walk g t c d []
end_walk g t c d e = rw (e.0, e.1) done

ask_passed : (k : ℕ) (b : Bool) (n : ℕ) → ask (suc k) b n ≡ 0 → n ≡ 0
ask_passed k true n h = h
ask_passed k false n h = absurd (omega arith)

line_passed : (g c : List ℕ) (d : Due) (l : Line) → judge_line g c d l ≡ 0 → judge g c d (fields_of l.bytes) ≡ 0
unfolding judge_line
line_passed g c d l h =
    ask_passed 1 (eqb (letter_of l.bytes) (kind_letter (letter_due d))) (judge g c d (fields_of l.bytes))
    (ask_passed 0 (l.ended && shape_of l.bytes) (ask 2 (eqb (letter_of l.bytes) (kind_letter (letter_due d))) (judge g c d (fields_of l.bytes))) h)

-- ---- an accepted text is a walk of its lines
pub read_walk : (g t c : List ℕ) (d : Due) (ls : List Line) → read_lines g c d ls ≡ accepted t → Walk g t c d (map (λ (l : Line). fields_of l.bytes) ls)
unfolding read_lines
read_walk g t c d [] h = go (accepted_or d c t 2 (refused 2) h)
  where
    go : ((d ≡ Nothing) × (c ≡ t)) ⊎ (◌≡◌ {A = ℕ} 2 0 × (refused 2 ≡ accepted t)) → Walk g t c d []
    go (inl e) = end_walk g t c d e
    go (inr e) = absurd (omega (arith, e.0))
read_walk g t c d (l ∷ ls) h =
    let fs = fields_of l.bytes in
    let c' = stored c (place_of d) fs in
    let e = accepted_more (judge_line g c d l) (read_lines g c' (next c' d) ls) t h in
    line (line_passed g c d l e.0) (read_walk g t c' (next c' d) ls e.1)

-- ---- a table that passes the check is a walk of the lines that it holds
pub check_walk : (k : ℕ) (g t c u : List ℕ) (d : Due) → check_lines k g t c d ≡ accepted u → (fss : List (List ℕ)) × Walk g u c d fss
unfolding check_lines
check_walk zero g t c u d h = absurd (let z : ◌≡◌ {A = ℕ} 0 1 = cc in omega arith)
check_walk (suc k) g t c u d h =
    let fs = stored_fields g c t d in
    let c' = stored c (place_of d) fs in
    go fs (accepted_or d c u (judge g c d fs) (check_lines k g t c' (next c' d)) h) (check_walk k g t c' u (next c' d))
  where
    go : (fs : List ℕ) {v : Verdict} → ((d ≡ Nothing) × (c ≡ u)) ⊎ ((judge g c d fs ≡ 0) × (v ≡ accepted u))
        → (v ≡ accepted u → (fss : List (List ℕ)) × Walk g u (stored c (place_of d) fs) (next (stored c (place_of d) fs) d) fss)
        → (fss : List (List ℕ)) × Walk g u c d fss
    go fs (inl e) rest = ([], end_walk g u c d e)
    go fs (inr e) rest = let r = rest e.1 in (fs ∷ r.0, line e.0 r.1)

-- ---- the lines that stand in a table
abbrev pub Standing : List ℕ → List ℕ → Due → Type 0
Standing g t d = (fs : List ℕ) × Stands g t d fs

first_line_lem : {g t : List ℕ} {d : Due} → IsLine d → Lines g t d → Standing g t d × Lines g t (next t d)
first_line_lem l none = absurd l
first_line_lem l (more fs s rest) = ((fs, s), rest)

-- m lines of one kind, and what is due after them
module _ (g t : List ℕ) (kind : ℕ → Due) (last : Due) (m : ℕ) (is_line : (k : ℕ) → IsLine (kind k))
    (order : (k : ℕ) → next t (kind k) ≡ cond (ltb (k + 1) m) (kind (k + 1)) last) where
  series_stands : (n k : ℕ) → k + suc n ≡ m → Lines g t (kind k) → ((i : ℕ) → k ≤ i → i < m → Standing g t (kind i)) × Lines g t last
  series_stands zero k e ls =
      let (s, rest) = first_line_lem (is_line k) ls in
      let end : next t (kind k) ≡ last = order k ∙ rw (le-ltb (k + 1) m (omega arith)) in
      (λ i a b. let same : k ≡ i = omega arith in subst (λ (i : ℕ). Standing g t (kind i)) same s, subst (Lines g t) end rest)
  series_stands (suc n) k e ls =
      let (s, rest) = first_line_lem (is_line k) ls in
      let onward : next t (kind k) ≡ kind (k + 1) = order k ∙ rw (lt-ltb (k + 1) m (omega arith)) in
      let (others, after) = series_stands n (k + 1) (omega arith) (subst (Lines g t) onward rest) in
      (λ i a b. go i s others a b (dec_lt k i), after)
    where
      go : (i : ℕ) → Standing g t (kind k) → ((i : ℕ) → k + 1 ≤ i → i < m → Standing g t (kind i)) → k ≤ i → i < m → Dec (k < i) → Standing g t (kind i)
      go i s others a b (yes l) = others i (omega arith) b
      go i s others a b (no l) = let same : k ≡ i = omega arith in subst (λ (i : ℕ). Standing g t (kind i)) same s

  -- all of them
  all_stand : 1 ≤ m → Lines g t (kind 0) → ((i : ℕ) → i < m → Standing g t (kind i)) × Lines g t last
  all_stand h ls =
      let (s, rest) = series_stands (pred m) 0 (omega arith) ls in
      (λ i l. s i (omega arith) l, rest)

-- ---- a grammar's lines
pub record RuleStands (t : List ℕ) (r : ℕ) : Type 0 where
  pub rule : Standing [] t (Rule r)
  pub edge : (i : ℕ) → i < rule_edges t r → Standing [] t (RuleEdge r i)
  pub plan : (q : ℕ) → q < rule_plan t r → Standing [] t (PlanLine r q)

pub record GrammarStands (t : List ℕ) : Type 0 where
  pub grammar : Standing [] t Grammar
  pub symbol : (s : ℕ) → s < symbol_count t → Standing [] t (Symbol s)
  pub rule : (r : ℕ) → r < rule_count t → RuleStands t r

-- what is due after rule r
after_rule : List ℕ → ℕ → Due
after_rule t r = cond (ltb (r + 1) (min 64 (rule_count t))) (Rule (r + 1)) Nothing

module _ (t : List ℕ) where
  one_rule : (r : ℕ) → Lines [] t (Rule r) → RuleStands t r × Lines [] t (after_rule t r)
  unfolding next judge place_of after_rule
  one_rule r ls =
      let (s, rest) = first_line_lem {d = Rule r} tt ls in
      let p = (passes_rule t r s.0).sound s.1.passed in
      let edges : rule_edges t r ≡ field s.0 3 = s.1.there 3 (omega arith) in
      let plan : rule_plan t r ≡ field s.0 4 = s.1.there 4 (omega arith) in
      let (es, rest') = all_stand [] t (RuleEdge r) (PlanLine r 0) (min 8 (rule_edges t r)) (λ k. tt) (λ k. refl) (omega (arith, p.edges)) rest in
      let (ps, rest'') = all_stand [] t (PlanLine r) (after_rule t r) (min 16 (rule_plan t r)) (λ k. tt) (λ k. refl) (omega (arith, p.plan)) rest' in
      (record { rule = s; edge = λ i l. es i (omega (arith, p.edges)); plan = λ q l. ps q (omega (arith, p.plan)) }, rest'')

  rules_stand : (n r : ℕ) → r + suc n ≡ min 64 (rule_count t) → Lines [] t (Rule r) → (k : ℕ) → r ≤ k → k < min 64 (rule_count t) → RuleStands t k
  unfolding after_rule
  rules_stand zero r e ls k a b =
      let same : r ≡ k = omega arith in
      subst (RuleStands t) same (one_rule r ls).0
  rules_stand (suc n) r e ls k a b =
      let (s, rest) = one_rule r ls in
      let onward : after_rule t r ≡ Rule (r + 1) = rw (lt-ltb (r + 1) (min 64 (rule_count t)) (omega arith)) in
      go s (rules_stand n (r + 1) (omega arith) (subst (Lines [] t) onward rest) k) (dec_lt r k)
    where
      go : RuleStands t r → (r + 1 ≤ k → k < min 64 (rule_count t) → RuleStands t k) → Dec (r < k) → RuleStands t k
      go s others (yes l) = others (omega arith) b
      go s others (no l) = let same : r ≡ k = omega arith in subst (RuleStands t) same s

  pub grammar_stands : Lines [] t Grammar → GrammarStands t
  unfolding next judge place_of
  grammar_stands ls =
      let (s, rest) = first_line_lem {d = Grammar} tt ls in
      let p = (passes_grammar s.0).sound s.1.passed in
      let symbols : symbol_count t ≡ field s.0 0 = s.1.there 0 (omega arith) in
      let rules : rule_count t ≡ field s.0 1 = s.1.there 1 (omega arith) in
      let (ss, rest') = all_stand [] t Symbol (Rule 0) (min 64 (symbol_count t)) (λ k. tt) (λ k. refl) (omega (arith, p.symbols)) rest in
      record {
        grammar = s;
        symbol = λ i l. ss i (omega (arith, p.symbols));
        rule = λ r l. rules_stand (pred (min 64 (rule_count t))) 0 (omega (arith, p.rules)) rest' r (omega arith) (omega (arith, p.rules));
      }

-- ---- a graph's lines
pub record GraphStands (g t : List ℕ) : Type 0 where
  pub graph : Standing g t Graph
  pub edge : (e : ℕ) → e < graph_edges t → Standing g t (GraphEdge e)

pub graph_stands : (g t : List ℕ) → Lines g t Graph → GraphStands g t
unfolding next judge place_of
graph_stands g t ls =
    let (s, rest) = first_line_lem {d = Graph} tt ls in
    let p = (passes_graph g s.0).sound s.1.passed in
    let edges : graph_edges t ≡ field s.0 1 = s.1.there 1 (omega arith) in
    let (es, rest') = all_stand g t GraphEdge Nothing (min 64 (graph_edges t)) (λ k. tt) (λ k. refl) (omega (arith, p.edges)) rest in
    record { graph = s; edge = λ e l. es e (omega (arith, p.edges)) }

-- ---- accepted texts
pub accepted_grammar_stands : (text t : List ℕ) → grammar_verdict text ≡ accepted t → GrammarStands t
unfolding grammar_verdict
accepted_grammar_stands text t h =
    grammar_stands t (walk_lines (read_walk [] t (replicate grammar_words 0) Grammar (lines_of text) h) (omega (arith, length-replicate {A = ℕ} grammar_words 0)) tt)

pub accepted_graph_stands : (g text t : List ℕ) → graph_verdict g text ≡ accepted t → GraphStands g t
unfolding graph_verdict
accepted_graph_stands g text t h =
    graph_stands g t (walk_lines (read_walk g t (replicate graph_words 0) Graph (lines_of text) h) (omega (arith, length-replicate {A = ℕ} graph_words 0)) tt)
