-- The fields of a line that passes have seven bits.
use mathlib.Core.Path.{◌≡◌, refl}
use mathlib.Core.Logic.{◌⊎◌, inl, inr}
use mathlib.Core.List.{List, [], ◌∷◌}
use Prim.Native.Nat.{ℕ, zero, suc, ◌+◌, ◌≤◌, ◌<◌, min}
use native.Mathlib.Omega.{arith}
use lib.ListN.{length, get_or, drop}
use Rattle.hrg.specs.Counts.{occurs}
use Rattle.hrg.proofs.Sums.{hit_self}
use Rattle.questions.specs.Layout.{rule_place, symbol_count, start_symbol, rank_at, rule_nodes, graph_nodes}
use Rattle.questions.specs.Questions.{field, children_of, introduced_by, judge}
use Rattle.questions.specs.Walk.{Room}
use Rattle.questions.proofs.WellFormedQuestions.{InOrder, passes_grammar, passes_symbol, passes_rule, passes_edge, SoFar, passes_plan, passes_graph, passes_graph_edge}
use Rattle.questions.proofs.StoredLaws.{field_small}
use Rattle.questions.specs.declared.Due.{Due}
use Rattle.questions.specs.declared.Due.TheVariants.{Grammar, Symbol, Rule, RuleEdge, PlanLine, Graph, GraphEdge, Nothing}

abbrev pub Small : List ℕ → Type 0
Small l = (k : ℕ) → get_or l k 0 < 128

-- the first n fields one by one, the listed nodes by their range
small_list : (b : ℕ) → b < 128 → (l : List ℕ) → ((x : ℕ) → 0 < occurs x l → x < b) → Small l
unfolding occurs
small_list b h [] q k = omega arith
small_list b h (x ∷ l) q zero = omega (arith, q x (omega (arith, hit_self x)))
small_list b h (x ∷ l) q (suc k) = small_list b h l (λ y o. q y (omega arith)) k

small_from : (n nodes : ℕ) (fs : List ℕ) → ((k : ℕ) → k < n → get_or fs k 0 < 128) → InOrder nodes (drop n fs) → Small fs
small_from zero nodes fs h q k = small_list (min 64 nodes) (omega arith) fs q.inside k
small_from (suc n) nodes [] h q k = omega arith
small_from (suc n) nodes (x ∷ fs) h q zero = h 0 (omega arith)
small_from (suc n) nodes (x ∷ fs) h q (suc k) = small_from n nodes fs (λ i o. h (suc i) (omega arith)) q k

-- exactly n fields
small_only : (n : ℕ) (fs : List ℕ) → ((k : ℕ) → k < n → get_or fs k 0 < 128) → length fs ≡ n → Small fs
small_only zero [] h q k = omega arith
small_only zero (x ∷ fs) h q k = absurd (omega arith)
small_only (suc n) [] h q k = omega arith
small_only (suc n) (x ∷ fs) h q zero = h 0 (omega arith)
small_only (suc n) (x ∷ fs) h q (suc k) = small_only n fs (λ i o. h (suc i) (omega arith)) (omega arith) k

three : (P : ℕ → Type 0) → P 0 → P 1 → P 2 → (k : ℕ) → k < 3 → P k
three P a b c zero l = a
three P a b c (suc zero) l = b
three P a b c (suc (suc zero)) l = c
three P a b c (suc (suc (suc k))) l = absurd (omega arith)

five : (P : ℕ → Type 0) → P 0 → P 1 → P 2 → P 3 → P 4 → (k : ℕ) → k < 5 → P k
five P a b c d e zero l = a
five P a b c d e (suc zero) l = b
five P a b c d e (suc (suc zero)) l = c
five P a b c d e (suc (suc (suc zero))) l = d
five P a b c d e (suc (suc (suc (suc zero)))) l = e
five P a b c d e (suc (suc (suc (suc (suc k))))) l = absurd (omega arith)

-- how many fields a line has, by the fields themselves
abbrev pub count_due : List ℕ → List ℕ → Due → List ℕ → ℕ
count_due g t Grammar fs = 3
count_due g t (Symbol s) fs = 3
count_due g t (Rule r) fs = 5 + rank_at t (field fs 1)
count_due g t (RuleEdge r i) fs = 1 + rank_at t (field fs 0)
count_due g t (PlanLine r q) fs = 3
count_due g t Graph fs = 2 + rank_at g (start_symbol g)
count_due g t (GraphEdge e) fs = 1 + rank_at g (field fs 0)
count_due g t Nothing fs = 0

-- the fields of a line that passes questions 3 to 7 are small, and as many as are due
module _ (g t : List ℕ) where
  first_small : (symbols : ℕ) → symbols < 128 → (fs : List ℕ) → field fs 0 < symbols → (k : ℕ) → k < 1 → get_or fs k 0 < 128
  first_small symbols h fs l zero o = omega arith
  first_small symbols h fs l (suc k) o = absurd (omega arith)

  two_small : (fs : List ℕ) → field fs 0 < 128 → field fs 1 < 128 → (k : ℕ) → k < 2 → get_or fs k 0 < 128
  two_small fs x y zero o = x
  two_small fs x y (suc zero) o = y
  two_small fs x y (suc (suc k)) o = absurd (omega arith)

  -- a plan line's first and second, by its kind
  by_kind_is : (r q kind first second : ℕ) → q < 16 → kind ≤ 2 → SoFar t r q kind first second → (first < 128) × (second < 128)
  unfolding children_of introduced_by occurs
  by_kind_is r q zero first second l m s = leaf_of s.leaf
    where
      leaf_of : (◌≡◌ {A = ℕ} 0 0 → ⊥) ⊎ ((first ≡ 0) × (second ≡ 0)) → (first < 128) × (second < 128)
      leaf_of (inl n) = absurd (n refl)
      leaf_of (inr e) = (omega (arith, e.0), omega (arith, e.1))
  by_kind_is r q (suc zero) first second l m s = (
    omega (arith, s.lower first (omega (arith, hit_self first))),
    omega (arith, (s.known second (omega (arith, hit_self second))).0, field_small t (rule_place r) 3),
  )
  by_kind_is r q (suc (suc zero)) first second l m s = (
    omega (arith, s.lower first (omega (arith, hit_self first))),
    omega (arith, s.lower second (omega (arith, hit_self second))),
  )
  by_kind_is r q (suc (suc (suc k))) first second l m s = absurd (omega arith)

  pub judge_small : (n : ℕ) (due : Due) → Room n due → (fs : List ℕ) → judge g t due fs ≡ 0 → Small fs × (length fs ≡ count_due g t due fs)
  unfolding judge
  judge_small n Grammar l fs q =
      let p = (passes_grammar fs).sound q in
      (small_only 3 fs (three (λ k. get_or fs k 0 < 128) (omega (arith, p.symbols.upper)) (omega (arith, p.rules.upper)) (omega (arith, p.start, p.symbols.upper))) p.count, p.count)
  judge_small n (Symbol s) l fs q =
      let p = (passes_symbol t s fs).sound q in
      (small_only 3 fs (three (λ k. get_or fs k 0 < 128) (omega (arith, p.number, l.0)) (omega (arith, p.kind)) (omega (arith, p.upper))) p.count, p.count)
  judge_small n (Rule r) l fs q =
      let p = (passes_rule t r fs).sound q in (
        small_from 5 (field fs 2) fs
            (five (λ k. get_or fs k 0 < 128) (omega (arith, p.number, l.0)) (omega (arith, p.symbol, field_small t 0 0)) (omega (arith, p.nodes.upper)) (omega (arith, p.edges.upper)) (omega (arith, p.plan.upper)))
            p.externals,
        p.count,
      )
  judge_small n (RuleEdge r i) l fs q =
      let p = (passes_edge t r i fs).sound q in
      (small_from 1 (rule_nodes t r) fs (first_small (symbol_count t) (field_small t 0 0) fs p.symbol) p.attached, p.count)
  judge_small n (PlanLine r x) l fs q =
      let p = (passes_plan t r x fs).sound q in
      let s = by_kind_is r x (field fs 0) (field fs 1) (field fs 2) l.1 p.kind p.so_far in
      (small_only 3 fs (three (λ k. get_or fs k 0 < 128) (omega (arith, p.kind)) s.0 s.1) p.count, p.count)
  judge_small n Graph l fs q =
      let p = (passes_graph g fs).sound q in
      (small_from 2 (field fs 0) fs (two_small fs (omega (arith, p.nodes.upper)) (omega (arith, p.edges.upper))) p.externals, p.count)
  judge_small n (GraphEdge e) l fs q =
      let p = (passes_graph_edge g t e fs).sound q in
      (small_from 1 (graph_nodes t) fs (first_small (symbol_count g) (field_small g 0 0) fs p.symbol) p.attached, p.count)
  judge_small n Nothing l fs q = absurd (omega arith)
