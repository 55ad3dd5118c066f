-- An accepted grammar text is read as a well-formed grammar.
use mathlib.Core.Path.{◌≡◌, refl, sym, ap, ◌∙◌}
use mathlib.Core.Logic.{◌⊎◌, inl, inr}
use mathlib.Core.List.{List, [], ◌∷◌}
use Prim.Native.Nat.{ℕ, zero, suc, ◌+◌, ◌≤◌, ◌<◌}
use native.Mathlib.Omega.{arith}
use lib.ListN.{length, drop, length-drop, drop_of_length-le}
use lib.Seq.{drop-cons, get_or-drop}
use Rattle.hrg.specs.Counts.{tabulate}
use Rattle.hrg.specs.Grammars
use Rattle.hrg.specs.Grammars.{leaf, no_symbol, no_edge, no_rule, kind_of, rank_of, rule_of, plan_node, edge_at}
use Rattle.hrg.specs.WellFormed.{GrammarOk}
use Rattle.questions.specs.Layout.{place_of, symbol_count, rule_count, start_symbol, kind_field, rank_at, rule_symbol, rule_edges, rule_plan, rule_external, edge_label, edge_node, plan_kind, plan_first, plan_second}
use Rattle.questions.specs.Questions.{field, judge}
use Rattle.questions.specs.Reading.{accepted, grammar_verdict}
use Rattle.questions.specs.Abstract.{kind_from, plan_from, rule_from, grammar_of}
use Rattle.questions.specs.Walk.{Stands}
use Rattle.questions.specs.TableText.{kind_number, plan_fields, edge_fields, grammar_fields}
use Rattle.questions.specs.declared.Due.{Due}
use Rattle.questions.specs.declared.Due.TheVariants.{Grammar, Symbol, Rule, RuleEdge, PlanLine, Graph, GraphEdge, Nothing}
use Rattle.questions.proofs.WellFormedQuestions.{passes_grammar, passes_symbol, passes_rule, passes_edge, passes_plan}
use Rattle.questions.proofs.WellFormedReading.{GrammarStands, accepted_grammar_stands}
use Rattle.questions.proofs.WellFormedLists.{length_build, get_d_build, tabulate_list}
use Rattle.questions.proofs.WellFormedTables.{HasLine, GrammarIn}
use Rattle.questions.proofs.WellFormedGrammar.{AllPass, passed_ok}

-- ---- the fields of a line taken apart
fields_one : (fs : List ℕ) → 1 ≤ length fs → fs ≡ field fs 0 ∷ drop 1 fs
fields_one [] h = absurd (omega arith)
fields_one (a ∷ fs) h = refl

fields_two : (fs : List ℕ) → 2 ≤ length fs → fs ≡ field fs 0 ∷ field fs 1 ∷ drop 2 fs
fields_two fs h = fields_one fs (omega arith) ∙ rw (drop-cons fs 1 0 h)

fields_three : (fs : List ℕ) → length fs ≡ 3 → fs ≡ field fs 0 ∷ field fs 1 ∷ field fs 2 ∷ []
fields_three fs h = fields_two fs (omega arith) ∙ rw (drop-cons fs 2 0 (omega arith), drop_of_length-le fs {i = 3} (omega arith))

fields_five : (fs : List ℕ) → 5 ≤ length fs → fs ≡ field fs 0 ∷ field fs 1 ∷ field fs 2 ∷ field fs 3 ∷ field fs 4 ∷ drop 5 fs
fields_five fs h = fields_two fs (omega arith) ∙ rw (drop-cons fs 2 0 (omega arith), drop-cons fs 3 0 (omega arith), drop-cons fs 4 0 (omega arith))

-- and put together
pub one_and : (fs : List ℕ) (a : ℕ) (l : List ℕ) → 1 ≤ length fs → a ≡ field fs 0 → l ≡ drop 1 fs → a ∷ l ≡ fs
one_and fs a l h p q = rw (p, q) (sym (fields_one fs h))

pub two_and : (fs : List ℕ) (a b : ℕ) (l : List ℕ) → 2 ≤ length fs → a ≡ field fs 0 → b ≡ field fs 1 → l ≡ drop 2 fs → a ∷ b ∷ l ≡ fs
two_and fs a b l h p q m = rw (p, q, m) (sym (fields_two fs h))

three_of : (fs : List ℕ) (a b c : ℕ) → length fs ≡ 3 → a ≡ field fs 0 → b ≡ field fs 1 → c ≡ field fs 2 → a ∷ b ∷ c ∷ [] ≡ fs
three_of fs a b c h p q m = rw (p, q, m) (sym (fields_three fs h))

five_and : (fs : List ℕ) (a b c d e : ℕ) (l : List ℕ) → 5 ≤ length fs → a ≡ field fs 0 → b ≡ field fs 1 → c ≡ field fs 2 → d ≡ field fs 3 → e ≡ field fs 4 → l ≡ drop 5 fs
    → a ∷ b ∷ c ∷ d ∷ e ∷ l ≡ fs
five_and fs a b c d e l h p q m n k s = rw (p, q, m, n, k, s) (sym (fields_five fs h))

-- the listed nodes of a line, from its fields
pub fields_listed : (fs : List ℕ) (k n : ℕ) (f : ℕ → ℕ) → length fs ≡ k + n → ((i : ℕ) → i < n → f i ≡ field fs (k + i)) → tabulate n f ≡ drop k fs
fields_listed fs k n f e h =
    tabulate_list (drop k fs) n f (omega (arith, length-drop k fs)) (λ i l. h i l ∙ sym (get_or-drop k fs i 0))

kind_from_lem : (w : ℕ) → w ≤ 1 → kind_number (kind_from w) ≡ w
kind_from_lem zero h = refl
kind_from_lem (suc zero) h = refl
kind_from_lem (suc (suc w)) h = absurd (omega arith)

plan_from_lem : (kind first second : ℕ) → kind ≤ 2 → (kind ≡ 0 → ⊥) ⊎ ((first ≡ 0) × (second ≡ 0)) → plan_fields (plan_from kind first second) ≡ kind ∷ first ∷ second ∷ []
plan_from_lem zero first second h (inl n) = absurd (n refl)
plan_from_lem zero first second h (inr e) = rw (e.0, e.1)
plan_from_lem (suc zero) first second h l = refl
plan_from_lem (suc (suc zero)) first second h l = refl
plan_from_lem (suc (suc (suc k))) first second h l = absurd (omega arith)

-- ---- the grammar that a table stands for
module _ (t : List ℕ) where
  pub symbols_length : length (grammar_of t).symbols ≡ symbol_count t
  unfolding grammar_of
  symbols_length = length_build (symbol_count t) _

  pub rules_length : length (grammar_of t).rules ≡ rule_count t
  unfolding grammar_of
  rules_length = length_build (rule_count t) _

  pub start_is : (grammar_of t).start ≡ start_symbol t
  unfolding grammar_of
  start_is = refl

  module _ (s : ℕ) (h : s < symbol_count t) where
    pub kind_is : kind_of (grammar_of t) s ≡ kind_from (kind_field t s)
    unfolding grammar_of
    kind_is = ap (λ (x : Grammars.Symbol). x.kind) (get_d_build (symbol_count t) (λ s. record { kind = kind_from (kind_field t s); rank = rank_at t s }) s no_symbol h)

    pub rank_is : rank_of (grammar_of t) s ≡ rank_at t s
    unfolding grammar_of
    rank_is = ap (λ (x : Grammars.Symbol). x.rank) (get_d_build (symbol_count t) (λ s. record { kind = kind_from (kind_field t s); rank = rank_at t s }) s no_symbol h)

  pub rule_is : (r : ℕ) → r < rule_count t → rule_of (grammar_of t) r ≡ rule_from t r
  unfolding grammar_of
  rule_is r h = get_d_build (rule_count t) (λ r. rule_from t r) r no_rule h

  pub edges_length : (r : ℕ) → length (rule_from t r).production.right.edges ≡ rule_edges t r
  unfolding rule_from
  edges_length r = length_build (rule_edges t r) _

  pub plan_length : (r : ℕ) → length (rule_from t r).plan ≡ rule_plan t r
  unfolding rule_from
  plan_length r = length_build (rule_plan t r) _

  pub edge_is : (r i : ℕ) → i < rule_edges t r
      → edge_at (rule_from t r).production.right.edges i ≡ record { label = edge_label t r i; attachment = tabulate (rank_at t (edge_label t r i)) (λ k. edge_node t r i k) }
  unfolding rule_from
  edge_is r i h =
      get_d_build (rule_edges t r) (λ i. record { label = edge_label t r i; attachment = tabulate (rank_at t (edge_label t r i)) (λ k. edge_node t r i k) }) i no_edge h

  pub plan_is : (r q : ℕ) → q < rule_plan t r → plan_node (rule_from t r).plan q ≡ plan_from (plan_kind t r q) (plan_first t r q) (plan_second t r q)
  unfolding rule_from
  plan_is r q h = get_d_build (rule_plan t r) (λ q. plan_from (plan_kind t r q) (plan_first t r q) (plan_second t r q)) q leaf h

-- ---- the fields of the grammar's lines are those that were read
module _ (t : List ℕ) where
  first_fields : (fs : List ℕ) → Stands [] t Grammar fs → grammar_fields (grammar_of t) Grammar ≡ fs
  unfolding grammar_fields judge place_of
  first_fields fs s =
      three_of fs _ _ _ ((passes_grammar fs).sound s.passed).count
      (symbols_length t ∙ s.there 0 (omega arith)) (rules_length t ∙ s.there 1 (omega arith)) (start_is t ∙ s.there 2 (omega arith))

  symbol_fields : (s : ℕ) (fs : List ℕ) → s < symbol_count t → Stands [] t (Symbol s) fs → grammar_fields (grammar_of t) (Symbol s) ≡ fs
  unfolding grammar_fields judge place_of
  symbol_fields s fs h st =
      let p = (passes_symbol t s fs).sound st.passed in
      three_of fs _ _ _ p.count
      (sym p.number)
      (ap kind_number (kind_is t s h) ∙ kind_from_lem (kind_field t s) (omega (arith, st.there 1 (omega arith), p.kind)) ∙ st.there 1 (omega arith))
      (omega (arith, rank_is t s h, st.there 2 (omega arith), p.upper))

  rule_fields : (r : ℕ) (fs : List ℕ) → r < rule_count t → Stands [] t (Rule r) fs → grammar_fields (grammar_of t) (Rule r) ≡ fs
  unfolding grammar_fields judge place_of rule_from
  rule_fields r fs h s =
      let p = (passes_rule t r fs).sound s.passed in
      let symbol : rule_symbol t r ≡ field fs 1 = s.there 1 (omega arith) in
      ap (λ (R : Grammars.Rule). r ∷ R.production.lhs ∷ R.production.right.nodes ∷ length R.production.right.edges ∷ length R.plan ∷ R.production.right.externals) (rule_is t r h)
      ∙ five_and fs _ _ _ _ _ _ (omega (arith, p.count))
      (sym p.number) symbol (s.there 2 (omega arith)) (edges_length t r ∙ s.there 3 (omega arith)) (plan_length t r ∙ s.there 4 (omega arith))
      (fields_listed fs 5 (rank_at t (rule_symbol t r)) (λ k. rule_external t r k) (p.count ∙ rw symbol) (λ i l. s.there (5 + i) (omega arith)))

  edge_fields_is : (r i : ℕ) (fs : List ℕ) → r < rule_count t → i < rule_edges t r → Stands [] t (RuleEdge r i) fs → grammar_fields (grammar_of t) (RuleEdge r i) ≡ fs
  unfolding grammar_fields judge place_of
  edge_fields_is r i fs h l s =
      let p = (passes_edge t r i fs).sound s.passed in
      let label : edge_label t r i ≡ field fs 0 = s.there 0 (omega arith) in
      ap (λ (R : Grammars.Rule). edge_fields (edge_at R.production.right.edges i)) (rule_is t r h)
      ∙ ap edge_fields (edge_is t r i l)
      ∙ one_and fs _ _ (omega (arith, p.count)) label
      (fields_listed fs 1 (rank_at t (edge_label t r i)) (λ k. edge_node t r i k) (p.count ∙ rw label) (λ k b. s.there (1 + k) (omega arith)))

  plan_fields_is : (r q : ℕ) (fs : List ℕ) → r < rule_count t → q < rule_plan t r → Stands [] t (PlanLine r q) fs → grammar_fields (grammar_of t) (PlanLine r q) ≡ fs
  unfolding grammar_fields judge place_of
  plan_fields_is r q fs h l s =
      let p = (passes_plan t r q fs).sound s.passed in
      ap (λ (R : Grammars.Rule). plan_fields (plan_node R.plan q)) (rule_is t r h)
      ∙ ap plan_fields (plan_is t r q l)
      ∙ rw (s.there 0 (omega arith), s.there 1 (omega arith), s.there 2 (omega arith))
      (plan_from_lem (field fs 0) (field fs 1) (field fs 2) p.kind p.so_far.leaf ∙ sym (fields_three fs p.count))

module _ (t : List ℕ) (all : GrammarStands t) where
  abbrev Same : Due → Type 0
  Same d = (fs : List ℕ) × (grammar_fields (grammar_of t) d ≡ fs) × Stands [] t d fs

  all_same : (d : Due) → HasLine (grammar_of t) d → Same d
  all_same Grammar h =
      let (fs, s) = all.grammar in
      (fs, first_fields t fs s, s)
  all_same (Symbol s) h =
      let known : s < symbol_count t = omega (arith, symbols_length t) in
      let (fs, st) = all.symbol s known in
      (fs, symbol_fields t s fs known st, st)
  all_same (Rule r) h =
      let known : r < rule_count t = omega (arith, rules_length t) in
      let (fs, s) = (all.rule r known).rule in
      (fs, rule_fields t r fs known s, s)
  all_same (RuleEdge r i) h =
      let known : r < rule_count t = omega (arith, rules_length t) in
      let below : i < rule_edges t r =
      omega (arith, h.1, ap (λ (R : Grammars.Rule). length R.production.right.edges) (rule_is t r known), edges_length t r)
      in
      let (fs, s) = (all.rule r known).edge i below in
      (fs, edge_fields_is t r i fs known below s, s)
  all_same (PlanLine r q) h =
      let known : r < rule_count t = omega (arith, rules_length t) in
      let below : q < rule_plan t r =
      omega (arith, h.1, ap (λ (R : Grammars.Rule). length R.plan) (rule_is t r known), plan_length t r)
      in
      let (fs, s) = (all.rule r known).plan q below in
      (fs, plan_fields_is t r q fs known below s, s)
  all_same Graph h = absurd h
  all_same (GraphEdge e) h = absurd h
  all_same Nothing h = absurd h

  pub standing_in : GrammarIn (grammar_of t) t
  standing_in = record {
    lines = λ d h j l. let (fs, e, s) = all_same d h in s.there j l ∙ ap (λ (fs : List ℕ). field fs j) (sym e);
    ranks = λ s h. omega (arith, rank_is t s (omega (arith, symbols_length t)));
  }

  pub standing_pass : AllPass (grammar_of t) t
  standing_pass d h = let (fs, e, s) = all_same d h in ap (judge [] t d) e ∙ s.passed

  pub standing_ok : GrammarOk (grammar_of t)
  standing_ok = passed_ok (grammar_of t) t standing_in standing_pass

-- an accepted grammar text is read as a well-formed grammar
pub accepted_grammar : (text t : List ℕ) → grammar_verdict text ≡ accepted t → GrammarOk (grammar_of t)
accepted_grammar text t h = standing_ok t (accepted_grammar_stands text t h)
