-- A walk of lines through a table: what a line reads stands at earlier places, so each line passes in the finished
-- table too.
use mathlib.Core.Path.{◌≡◌, refl, sym, ap, ap₂, ◌∙◌, subst}
use mathlib.Core.Bool.{Bool, true, false, cond, ◌&&◌, false≢true}
use mathlib.Core.List.{List, ◌++◌}
use Prim.Native.Nat.{ℕ, zero, suc, ◌+◌, ◌≤◌, ◌<◌, min}
use native.Mathlib.Omega.{arith}
use native.Mathlib.Decide.{dec_lt}
use lib.ListN.{length, get_or}
use lib.Dec.{eqb, ltb, leb}
use borrow.Author.Tests.{lt-ltb, ltb-true}
use Rattle.hrg.specs.Counts.{tabulate}
use Rattle.hrg.proofs.Sums.{tabulate_ext}
use Rattle.questions.specs.Layout.{symbol_place, graph_edge_place, grammar_words, rule_place, edge_place, plan_place, place_of, in_table, line_field, stored, symbol_count, rule_count, rank_at, rule_edges, rule_plan, edge_label, edge_node, graph_edges, graph_label, graph_node}
use Rattle.questions.specs.Questions.{ask, field, judge_symbol, judge_rule, nodes_on_edges, judge_rule_edge, children_before, introduced_before, judge_plan, nodes_on_graph, judge_graph_edge, judge}
use Rattle.questions.specs.Reading.{next}
use Rattle.questions.specs.Walk.{Room, Walk, done, line, Lines, none, more}
use Rattle.questions.specs.declared.Due.{Due}
use Rattle.questions.specs.declared.Due.TheVariants.{Grammar, Symbol, Rule, RuleEdge, PlanLine, Graph, GraphEdge, Nothing}
use Rattle.questions.proofs.WellFormedQuestions.{passes_grammar, passes_edge}
use Rattle.questions.proofs.StoredLaws.{length_stored, stored_other, field_stored_same, field_stored_other, same_line}
use Rattle.questions.proofs.SmallFields.{Small, judge_small}

-- ---- tests
pub and_fst : (a b : Bool) → (a && b) ≡ true → a ≡ true
and_fst true b h = refl
and_fst false b h = h

pub and_snd : (a b : Bool) → (a && b) ≡ true → b ≡ true
and_snd true b h = h
and_snd false b h = absurd (false≢true h)

-- the second part is compared where the first holds
pub and_cong : (a a' b b' : Bool) → a ≡ a' → (a ≡ true → b ≡ b') → (a && b) ≡ (a' && b')
and_cong a a' b b' e h = rw (← e) (go a h)
  where
    go : (a : Bool) → (a ≡ true → b ≡ b') → (a && b) ≡ (a && b')
    go true h = h refl
    go false h = refl

pub ask_cong : (k : ℕ) (b b' : Bool) (m n : ℕ) → b ≡ b' → (b ≡ true → m ≡ n) → ask k b m ≡ ask k b' n
ask_cong k b b' m n e h = rw (← e) (go b h)
  where
    go : (b : Bool) → (b ≡ true → m ≡ n) → ask k b m ≡ ask k b n
    go true h = h refl
    go false h = refl

-- ---- lines and their places
abbrev pub IsLine : Due → Type 0
IsLine Grammar = Unit {0}
IsLine (Symbol s) = Unit {0}
IsLine (Rule r) = Unit {0}
IsLine (RuleEdge r i) = Unit {0}
IsLine (PlanLine r q) = Unit {0}
IsLine Graph = Unit {0}
IsLine (GraphEdge e) = Unit {0}
IsLine Nothing = ⊥

-- the lines before the one that is due stand at places below this; all do where nothing is due
abbrev pub reach : Due → ℕ
reach Grammar = place_of Grammar
reach (Symbol s) = place_of (Symbol s)
reach (Rule r) = place_of (Rule r)
reach (RuleEdge r i) = place_of (RuleEdge r i)
reach (PlanLine r q) = place_of (PlanLine r q)
reach Graph = place_of Graph
reach (GraphEdge e) = place_of (GraphEdge e)
reach Nothing = grammar_words

-- ---- room
pub room_in : (n : ℕ) (d : Due) → Room n d → in_table d ≡ true
unfolding in_table
room_in n Grammar h = refl
room_in n (Symbol s) h = lt-ltb s 64 h.0
room_in n (Rule r) h = lt-ltb r 64 h.0
room_in n (RuleEdge r i) h = rw (lt-ltb r 64 h.0, lt-ltb i 8 h.1)
room_in n (PlanLine r q) h = rw (lt-ltb r 64 h.0, lt-ltb q 16 h.1)
room_in n Graph h = refl
room_in n (GraphEdge e) h = lt-ltb e 64 h.0
room_in n Nothing h = refl

pub room_place : (n : ℕ) (d : Due) → Room n d → place_of d < n
unfolding place_of
room_place n Grammar h = omega arith
room_place n (Symbol s) h = omega arith
room_place n (Rule r) h = omega arith
room_place n (RuleEdge r i) h = omega arith
room_place n (PlanLine r q) h = omega arith
room_place n Graph h = omega arith
room_place n (GraphEdge e) h = omega arith
room_place n Nothing h = omega arith

pub reach_line : (d : Due) → IsLine d → reach d ≡ place_of d
reach_line Grammar l = refl
reach_line (Symbol s) l = refl
reach_line (Rule r) l = refl
reach_line (RuleEdge r i) l = refl
reach_line (PlanLine r q) l = refl
reach_line Graph l = refl
reach_line (GraphEdge e) l = refl
reach_line Nothing l = absurd l

-- what is due next: by cases of its test
pub cond_by : {A : Type 0} (P : A → Type 0) (b : Bool) (x y : A) → (b ≡ true → P x) → (b ≡ false → P y) → P (cond b x y)
cond_by P true x y f g = f refl
cond_by P false x y f g = g refl

pub room_next : (n : ℕ) (t : List ℕ) (d : Due) → Room n d → Room n (next t d)
unfolding next
room_next n t Grammar h = (omega arith, h)
room_next n t (Symbol s) h =
    cond_by (Room n) (ltb (s + 1) (min 64 (symbol_count t))) (Symbol (s + 1)) (Rule 0) (λ e. (omega (arith, ltb-true (s + 1) (min 64 (symbol_count t)) e), h.1)) (λ e. (omega arith, h.1))
room_next n t (Rule r) h = (h.0, omega arith, h.1)
room_next n t (RuleEdge r i) h =
    cond_by (Room n) (ltb (i + 1) (min 8 (rule_edges t r))) (RuleEdge r (i + 1)) (PlanLine r 0) (λ e. (h.0, omega (arith, ltb-true (i + 1) (min 8 (rule_edges t r)) e), h.2)) (λ e. (h.0, omega arith, h.2))
room_next n t (PlanLine r q) h =
    cond_by (Room n) (ltb (q + 1) (min 16 (rule_plan t r))) (PlanLine r (q + 1)) (cond (ltb (r + 1) (min 64 (rule_count t))) (Rule (r + 1)) Nothing)
    (λ e. (h.0, omega (arith, ltb-true (q + 1) (min 16 (rule_plan t r)) e), h.2))
    (λ e. cond_by (Room n) (ltb (r + 1) (min 64 (rule_count t))) (Rule (r + 1)) Nothing (λ f. (omega (arith, ltb-true (r + 1) (min 64 (rule_count t)) f), h.2)) (λ f. omega arith))
room_next n t Graph h = (omega arith, h)
room_next n t (GraphEdge e) h =
    cond_by (Room n) (ltb (e + 1) (min 64 (graph_edges t))) (GraphEdge (e + 1)) Nothing (λ f. (omega (arith, ltb-true (e + 1) (min 64 (graph_edges t)) f), h.1)) (λ f. omega arith)
room_next n t Nothing h = h

-- the next line stands behind
pub next_forward : (n : ℕ) (t : List ℕ) (d : Due) → IsLine d → Room n d → place_of d < reach (next t d)
unfolding next place_of
next_forward n t Grammar l h = omega arith
next_forward n t (Symbol s) l h =
    cond_by (λ (d : Due). symbol_place s < reach d) (ltb (s + 1) (min 64 (symbol_count t))) (Symbol (s + 1)) (Rule 0) (λ e. omega arith) (λ e. omega arith)
next_forward n t (Rule r) l h = omega arith
next_forward n t (RuleEdge r i) l h =
    cond_by (λ (d : Due). edge_place r i < reach d) (ltb (i + 1) (min 8 (rule_edges t r))) (RuleEdge r (i + 1)) (PlanLine r 0) (λ e. omega arith) (λ e. omega arith)
next_forward n t (PlanLine r q) l h =
    cond_by (λ (d : Due). plan_place r q < reach d) (ltb (q + 1) (min 16 (rule_plan t r))) (PlanLine r (q + 1)) (cond (ltb (r + 1) (min 64 (rule_count t))) (Rule (r + 1)) Nothing)
    (λ e. omega arith)
    (λ e. cond_by (λ (d : Due). plan_place r q < reach d) (ltb (r + 1) (min 64 (rule_count t))) (Rule (r + 1)) Nothing (λ f. omega arith) (λ f. omega arith))
next_forward n t Graph l h = omega arith
next_forward n t (GraphEdge e) l h =
    cond_by (λ (d : Due). graph_edge_place e < reach d) (ltb (e + 1) (min 64 (graph_edges t))) (GraphEdge (e + 1)) Nothing (λ f. omega arith) (λ f. omega arith)
next_forward n t Nothing l h = absurd l

-- a line that passes is a line
pub judged_line : (g t : List ℕ) (d : Due) (fs : List ℕ) → judge g t d fs ≡ 0 → IsLine d
unfolding judge
judged_line g t Grammar fs h = tt
judged_line g t (Symbol s) fs h = tt
judged_line g t (Rule r) fs h = tt
judged_line g t (RuleEdge r i) fs h = tt
judged_line g t (PlanLine r q) fs h = tt
judged_line g t Graph fs h = tt
judged_line g t (GraphEdge e) fs h = tt
judged_line g t Nothing fs h = omega arith

-- ---- tables that agree on the places below p
abbrev pub Agree : List ℕ → List ℕ → ℕ → Type 0
Agree c t p = (q j : ℕ) → q < p → j < 9 → line_field c q j ≡ line_field t q j

-- what holds of the lines before the one due, as far as its own line needs it: labels lead to `S` lines
abbrev pub Before : List ℕ → Due → Type 0
Before c Grammar = Unit {0}
Before c (Symbol s) = symbol_count c ≤ 64
Before c (Rule r) = symbol_count c ≤ 64
Before c (RuleEdge r i) = (symbol_count c ≤ 64) × ((k : ℕ) → k < i → edge_label c r k < 64)
Before c (PlanLine r q) = symbol_count c ≤ 64
Before c Graph = Unit {0}
Before c (GraphEdge e) = Unit {0}
Before c Nothing = Unit {0}

pub next_agree : (c t : List ℕ) (d : Due) → Agree c t (suc (place_of d)) → next c d ≡ next t d
unfolding next place_of
next_agree c t Grammar a = refl
next_agree c t (Symbol s) a = rw (a 0 0 (omega arith) (omega arith))
next_agree c t (Rule r) a = refl
next_agree c t (RuleEdge r i) a = rw (a (rule_place r) 3 (omega arith) (omega arith))
next_agree c t (PlanLine r q) a = rw (a (rule_place r) 4 (omega arith) (omega arith), a 0 1 (omega arith) (omega arith))
next_agree c t Graph a = refl
next_agree c t (GraphEdge e) a = rw (a 0 1 (omega arith) (omega arith))
next_agree c t Nothing a = refl

module _ (c t : List ℕ) where
  rank_agree : (s p : ℕ) → s < 64 → rule_place 0 ≤ p → Agree c t p → rank_at c s ≡ rank_at t s
  rank_agree s p h l a = rw (a (symbol_place s) 2 (omega arith) (omega arith))

  nodes_agree : (r n : ℕ) → ((k : ℕ) → k < n → edge_label c r k < 64) → Agree c t (edge_place r n) → nodes_on_edges c r n ≡ nodes_on_edges t r n
  unfolding nodes_on_edges
  nodes_agree r zero h a = refl
  nodes_agree r (suc n) h a =
      let label : edge_label c r n ≡ edge_label t r n = a (edge_place r n) 0 (omega arith) (omega arith) in
      let rank : rank_at c (edge_label c r n) ≡ rank_at t (edge_label t r n) =
      rank_agree (edge_label c r n) (edge_place r n) (h n (omega arith)) (omega arith) (λ q j l. a q j (omega arith)) ∙ ap (rank_at t) label
      in
      ap₂ ◌++◌ (nodes_agree r n (λ k l. h k (omega arith)) (λ q j l. a q j (omega arith)))
      (tabulate_ext (rank_at c (edge_label c r n)) (edge_node c r n) (edge_node t r n) (λ k l. a (edge_place r n) (1 + k) (omega arith) (omega arith))
      ∙ ap (λ (m : ℕ). tabulate m (edge_node t r n)) rank)

  children_agree : (r n : ℕ) → Agree c t (plan_place r n) → children_before c r n ≡ children_before t r n
  unfolding children_before
  children_agree r zero a = refl
  children_agree r (suc n) a =
      rw (
        children_agree r n (λ q j l. a q j (omega arith)),
        a (plan_place r n) 0 (omega arith) (omega arith),
        a (plan_place r n) 1 (omega arith) (omega arith),
        a (plan_place r n) 2 (omega arith) (omega arith),
      )

  introduced_agree : (r n : ℕ) → Agree c t (plan_place r n) → introduced_before c r n ≡ introduced_before t r n
  unfolding introduced_before
  introduced_agree r zero a = refl
  introduced_agree r (suc n) a =
      rw (
        introduced_agree r n (λ q j l. a q j (omega arith)),
        a (plan_place r n) 0 (omega arith) (omega arith),
        a (plan_place r n) 2 (omega arith) (omega arith),
      )

  nodes_on_graph_agree : (g : List ℕ) (n : ℕ) → Agree c t (graph_edge_place n) → nodes_on_graph g c n ≡ nodes_on_graph g t n
  unfolding nodes_on_graph
  nodes_on_graph_agree g zero a = refl
  nodes_on_graph_agree g (suc n) a =
      let label : graph_label c n ≡ graph_label t n = a (graph_edge_place n) 0 (omega arith) (omega arith) in
      ap₂ ◌++◌ (nodes_on_graph_agree g n (λ q j l. a q j (omega arith)))
      (tabulate_ext (rank_at g (graph_label c n)) (graph_node c n) (graph_node t n) (λ k l. a (graph_edge_place n) (1 + k) (omega arith) (omega arith))
      ∙ ap (λ (m : ℕ). tabulate (rank_at g m) (graph_node t n)) label)

  -- ---- a line is judged alike in both
  symbol_agree : (s : ℕ) (fs : List ℕ) → Agree c t (symbol_place s) → judge_symbol c s fs ≡ judge_symbol t s fs
  unfolding judge_symbol
  symbol_agree s fs a = rw (a 0 2 (omega arith) (omega arith))

  rule_agree : (r : ℕ) (fs : List ℕ) → symbol_count c ≤ 64 → Agree c t (rule_place r) → judge_rule c r fs ≡ judge_rule t r fs
  unfolding judge_rule
  rule_agree r fs b a =
      ask_cong 3 _ _ _ _
      (and_cong _ _ _ _ (and_cong _ _ _ _ (and_cong _ _ _ _ (and_cong _ _ _ _
      (ap (λ (n : ℕ). leb 5 (length fs) && eqb (field fs 0) r && ltb (field fs 1) n) (a 0 0 (omega arith) (omega arith)))
      (λ h. ap (λ (n : ℕ). eqb n 1) (a (symbol_place (field fs 1)) 1 (omega (arith, known h)) (omega arith))))
      (λ h. refl)) (λ h. refl)) (λ h. refl))
      (λ h. let same = rank_agree (field fs 1) (rule_place r) (omega (arith, known (and_fst _ _ (and_fst _ _ (and_fst _ _ (and_fst _ _ h)))))) (omega arith) a in rw same)
    where
      known : (leb 5 (length fs) && eqb (field fs 0) r && ltb (field fs 1) (symbol_count c)) ≡ true → field fs 1 < 64
      known h = omega (arith, ltb-true (field fs 1) (symbol_count c) (and_snd (leb 5 (length fs) && eqb (field fs 0) r) (ltb (field fs 1) (symbol_count c)) h))

  rule_edge_agree : (r i : ℕ) (fs : List ℕ) → symbol_count c ≤ 64 → ((k : ℕ) → k < i → edge_label c r k < 64) → Agree c t (edge_place r i)
      → judge_rule_edge c r i fs ≡ judge_rule_edge t r i fs
  unfolding judge_rule_edge
  rule_edge_agree r i fs b before a =
      ask_cong 3 _ _ _ _
      (and_cong _ _ _ _
      (ap (λ (n : ℕ). leb 1 (length fs) && ltb (field fs 0) n) (a 0 0 (omega arith) (omega arith)))
      (λ h. ap (leb 1) (rank h)))
      (λ h. ask_cong 4 _ _ _ _ (ap (λ (n : ℕ). eqb (length fs) (1 + n)) (rank (and_fst _ _ h)))
      (λ k. rw (a (rule_place r) 2 (omega arith) (omega arith), a (rule_place r) 3 (omega arith) (omega arith), nodes_agree r i before a)))
    where
      rank : (leb 1 (length fs) && ltb (field fs 0) (symbol_count c)) ≡ true → rank_at c (field fs 0) ≡ rank_at t (field fs 0)
      rank h = rank_agree (field fs 0) (edge_place r i) (omega (arith, ltb-true (field fs 0) (symbol_count c) (and_snd (leb 1 (length fs)) (ltb (field fs 0) (symbol_count c)) h))) (omega arith) a

  plan_agree : (r q : ℕ) (fs : List ℕ) → Agree c t (plan_place r q) → judge_plan c r q fs ≡ judge_plan t r q fs
  unfolding judge_plan
  plan_agree r q fs a =
      rw (
        children_agree r q a,
        introduced_agree r q a,
        a (rule_place r) 3 (omega arith) (omega arith),
        a (rule_place r) 4 (omega arith) (omega arith),
      )

  graph_edge_agree : (g : List ℕ) (e : ℕ) (fs : List ℕ) → Agree c t (graph_edge_place e) → judge_graph_edge g c e fs ≡ judge_graph_edge g t e fs
  unfolding judge_graph_edge
  graph_edge_agree g e fs a =
      rw (a 0 0 (omega arith) (omega arith), a 0 1 (omega arith) (omega arith), nodes_on_graph_agree g e a)

pub judge_agree : (g c t : List ℕ) (d : Due) (fs : List ℕ) → Before c d → Agree c t (place_of d) → judge g c d fs ≡ judge g t d fs
unfolding judge place_of
judge_agree g c t Grammar fs b a = refl
judge_agree g c t (Symbol s) fs b a = symbol_agree c t s fs a
judge_agree g c t (Rule r) fs b a = rule_agree c t r fs b a
judge_agree g c t (RuleEdge r i) fs b a = rule_edge_agree c t r i fs b.0 b.1 a
judge_agree g c t (PlanLine r q) fs b a = plan_agree c t r q fs a
judge_agree g c t Graph fs b a = refl
judge_agree g c t (GraphEdge e) fs b a = graph_edge_agree c t g e fs a
judge_agree g c t Nothing fs b a = refl

-- ---- the invariant of a walk
module _ (c : List ℕ) (fs : List ℕ) where
  count_kept : (p : ℕ) → 1 ≤ p → symbol_count c ≤ 64 → symbol_count (stored c p fs) ≤ 64
  count_kept p l b = omega (arith, field_stored_other c p fs 0 0 (λ e. omega arith))

  labels_kept : (r i : ℕ) → edge_place r i < length c → Small fs → ((k : ℕ) → k < i → edge_label c r k < 64) → field fs 0 < 64
      → (k : ℕ) → k < i + 1 → edge_label (stored c (edge_place r i) fs) r k < 64
  labels_kept r i h small b f k l = go (dec_lt k i)
    where
      go : Dec (k < i) → edge_label (stored c (edge_place r i) fs) r k < 64
      go (yes m) = omega (arith, b k m, field_stored_other c (edge_place r i) fs (edge_place r k) 0 (λ e. omega arith))
      go (no m) =
          let same : k ≡ i = omega arith in
          rw same (omega (arith, field_stored_same c (edge_place r i) fs h small 0 (omega arith)))

pub before_next : (g c : List ℕ) (d : Due) (fs : List ℕ) → Room (length c) d → Before c d → judge g c d fs ≡ 0
    → Before (stored c (place_of d) fs) (next (stored c (place_of d) fs) d)
unfolding judge place_of next
before_next g c Grammar fs m b h = omega (arith, ((passes_grammar fs).sound h).symbols, field_stored_same c 0 fs (omega arith) (judge_small g c (length c) Grammar m fs h).0 0 (omega arith))
before_next g c (Symbol s) fs m b h =
    let t = stored c (symbol_place s) fs in
    let kept = count_kept c fs (symbol_place s) (omega arith) b in
    cond_by (Before t) (ltb (s + 1) (min 64 (symbol_count t))) (Symbol (s + 1)) (Rule 0) (λ e. kept) (λ e. kept)
before_next g c (Rule r) fs m b h = (count_kept c fs (rule_place r) (omega arith) b, λ k l. absurd (omega arith))
before_next g c (RuleEdge r i) fs m b h =
    let t = stored c (edge_place r i) fs in
    let kept = count_kept c fs (edge_place r i) (omega arith) b.0 in
    let small : field fs 0 < 64 = omega (arith, ((passes_edge c r i fs).sound h).symbol) in
    cond_by (Before t) (ltb (i + 1) (min 8 (rule_edges t r))) (RuleEdge r (i + 1)) (PlanLine r 0)
    (λ e. (kept, labels_kept c fs r i (omega arith) (judge_small g c (length c) (RuleEdge r i) m fs h).0 b.1 small))
    (λ e. kept)
before_next g c (PlanLine r q) fs m b h =
    let t = stored c (plan_place r q) fs in
    let kept = count_kept c fs (plan_place r q) (omega arith) b in
    cond_by (Before t) (ltb (q + 1) (min 16 (rule_plan t r))) (PlanLine r (q + 1)) (cond (ltb (r + 1) (min 64 (rule_count t))) (Rule (r + 1)) Nothing)
    (λ e. kept)
    (λ e. cond_by (Before t) (ltb (r + 1) (min 64 (rule_count t))) (Rule (r + 1)) Nothing (λ f. kept) (λ f. tt))
before_next g c Graph fs m b h = tt
before_next g c (GraphEdge e) fs m b h =
    let t = stored c (graph_edge_place e) fs in
    cond_by (Before t) (ltb (e + 1) (min 64 (graph_edges t))) (GraphEdge (e + 1)) Nothing (λ f. tt) (λ f. tt)
before_next g c Nothing fs m b h = tt

-- ---- a walk changes no earlier place, and keeps the length
pub record Onward (c t : List ℕ) (d : Due) : Type 0 where
  pub same_length : length t ≡ length c
  pub same_words : (q : ℕ) → q < reach d → get_or c q 0 ≡ get_or t q 0

pub onward_agree : {c t : List ℕ} {d : Due} → Onward c t d → Agree c t (reach d)
onward_agree {c} {t} o q j h l = same_line c t q j (o.same_words q h)

pub walk_onward : {g t c : List ℕ} {d : Due} {fss : List (List ℕ)} → Walk g t c d fss → Room (length c) d → Onward c t d
walk_onward done m = record { same_length = refl; same_words = λ q h. refl }
walk_onward {g} {t} (line {c} {due} {fs} h w) m =
    let k = judged_line g c due fs h in
    let p = place_of due in
    let fits = room_place (length c) due m in
    let c' = stored c p fs in
    let size = length_stored c p fs in
    let rest = walk_onward w (room_next (length c') c' due (rw size m)) in
    let forward = next_forward (length c) c' due k m in
    record {
      same_length = rest.same_length ∙ size;
      same_words = λ q l.
          let l' : q < p = rw (reach_line due k) at l in
          sym (stored_other c p fs q (λ e. omega arith)) ∙ rest.same_words q (omega arith);
    }

-- every line of a walk stands in the finished table
pub walk_lines : {g t c : List ℕ} {d : Due} {fss : List (List ℕ)} → Walk g t c d fss → Room (length c) d → Before c d → Lines g t d
walk_lines done m b = none
walk_lines {g} {t} (line {c} {due} {fs} h w) m b =
    let k = judged_line g c due fs h in
    let p = place_of due in
    let fits = room_place (length c) due m in
    let c' = stored c p fs in
    let m' = room_next (length c') c' due (rw (length_stored c p fs) m) in
    let forward = next_forward (length c) c' due k m in
    let rest = walk_onward w m' in
    let kept : Agree c t p =
    λ q j l b. sym (field_stored_other c p fs q j (λ e. omega arith)) ∙ onward_agree rest q j (omega arith) b
    in
    more fs
    (record {
      passed = sym (judge_agree g c t due fs b kept) ∙ h;
      there = λ j l. sym (onward_agree rest p j forward l) ∙ field_stored_same c p fs fits (judge_small g c (length c) due m fs h).0 j l;
    })
    (subst (Lines g t) (next_agree c' t due (λ q j l i. onward_agree rest q j (omega arith) i)) (walk_lines w m' (before_next g c due fs m b h)))
