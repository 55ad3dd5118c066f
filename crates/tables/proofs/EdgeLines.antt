-- The lines of edges, one after the other: each stands but for question 6, which the set of the nodes on all of them
-- answers for the last.
use Prim.Native.Nat.{ℕ, zero, suc, ◌+◌, ◌-◌, ◌≤◌, ◌<◌, min}
use native.Mathlib.Omega.{arith}
use native.Mathlib.Numerals.{add-one}
use native.Mathlib.Decide.{dec_lt}
use mathlib.Core.Path.{◌≡◌, refl, sym, ap, ◌∙◌, subst}
use mathlib.Core.Logic.{◌⊎◌, inl, inr}
use mathlib.Core.Bool.{Bool, true, false, ◌&&◌, ◌||◌, not, cond, false≢true}
use mathlib.Core.List.{List, [], ◌++◌}
use lib.Bits.{bit_or}
use lib.ListN.{length, get_or, drop}
use lib.Dec.{eqb, ltb, leb}
use borrow.Author.Tests.{eq-eqb, lt-ltb, le-ltb, le-leb, not-true, not-false}
use Rattle.masks.specs.Masks.{◌∪◌, full}
use Rattle.hrg.proofs.Sums.{length_tabulate}
use Rattle.std.specs.Prelude.{Option, Some, None}
use Rattle.questions.specs.declared.Due.{Due}
use Rattle.questions.specs.declared.Due.TheVariants.{RuleEdge, PlanLine, GraphEdge, Nothing}
use Rattle.questions.specs.Layout.{edges_from, place_of, line_field, symbol_count, kind_field, rank_at, rule_nodes, rule_edges, graph_nodes, graph_edges, edge_label, graph_label}
use Rattle.questions.specs.Questions.{ask, listed, covered, nodes_on_edges, nodes_on_graph, judge}
use Rattle.questions.specs.Reading.{next}
use Rattle.questions.specs.Checking.{fields_due, stored_fields}
use Rattle.questions.proofs.StoredLaws.{get_d_tabulate}
use Rattle.questions.proofs.WellFormedAccepted.{fields_listed}
use Rattle.questions.proofs.WellFormedWalk.{IsLine}
use Rattle.tables.specs.Marks.{marks, nodes_at}
use Rattle.tables.specs.Concluding.{behind, Standing, Stands, Attached, Nearly, NearlyWith, NearlyStands, Rest, Leads, Reaches, Count}
use Rattle.tables.proofs.LineAnswers.{EdgeAsked, rule_edge_asked, graph_edge_asked}
use Rattle.tables.proofs.Listing.{listed_top}
use Rattle.tables.proofs.Covering.{marks_append, marks_union, marks_covered}
use Rattle.tables.proofs.Leading.{lines_start, lines_end, lines_no, lines_next, next_edge, next_graph_edge}

-- a line that stands, and one that does not
does : {g t : List ℕ} (due : Due) → Standing g t due → Stands g t due true
does due s = record { yes = λ y. s; no = λ y. absurd (false≢true (sym y)) }

does_not : {g t : List ℕ} (due : Due) → (Standing g t due → ⊥) → Stands g t due false
does_not due n = record { yes = λ y. absurd (false≢true y); no = λ y. n }

-- ---- one line: its fields are as many as they should be, so of its questions three are left
pub record EdgeLine (g t : List ℕ) (due : Due) (fixed : Bool) (rank nodes j edges : ℕ) (before : List ℕ) : Type 0 where
  pub count : fields_due g t t due ≡ 1 + rank
  pub own : drop 1 (stored_fields g t t due) ≡ nodes_at t (place_of due) rank
  pub answer : judge g t due (stored_fields g t t due)
      ≡ ask 3 fixed (ask 5 (listed nodes (nodes_at t (place_of due) rank)) (ask 6 (ltb j edges || covered nodes (before ++ nodes_at t (place_of due) rank)) 0))

-- 0 or 6 by the tests before question 6, and 0 by all of them
kept_by : (f l c : Bool) (x : ℕ) → x ≡ ask 3 f (ask 5 l (ask 6 c 0)) → (x ≡ 0) ⊎ (x ≡ 6) → (f ≡ true) × (l ≡ true)
kept_by true true c x e h = (refl, refl)
kept_by true false c x e (inl h) = absurd (omega arith)
kept_by true false c x e (inr h) = absurd (omega arith)
kept_by false l c x e (inl h) = absurd (omega arith)
kept_by false l c x e (inr h) = absurd (omega arith)

by_kept : (f l c : Bool) (x : ℕ) → x ≡ ask 3 f (ask 5 l (ask 6 c 0)) → f ≡ true → l ≡ true → (x ≡ 0) ⊎ (x ≡ 6)
by_kept true true true x e p q = inl e
by_kept true true false x e p q = inr e
by_kept true false c x e p q = absurd (false≢true q)
by_kept false l c x e p q = absurd (false≢true p)

whole_by : (f l c : Bool) (x : ℕ) → x ≡ ask 3 f (ask 5 l (ask 6 c 0)) → (x ≡ 0) ⊎ (x ≡ 6) → c ≡ true → x ≡ 0
whole_by true true true x e h p = e
whole_by true false true x e (inl h) p = h
whole_by true false true x e (inr h) p = absurd (omega arith)
whole_by false l true x e (inl h) p = h
whole_by false l true x e (inr h) p = absurd (omega arith)
whole_by f l false x e h p = absurd (false≢true p)

by_whole : (f l c : Bool) (x : ℕ) → x ≡ ask 3 f (ask 5 l (ask 6 c 0)) → x ≡ 0 → c ≡ true
by_whole true true true x e h = refl
by_whole true true false x e h = absurd (omega arith)
by_whole true false c x e h = absurd (omega arith)
by_whole false l c x e h = absurd (omega arith)

module _ (g t : List ℕ) (due : Due) (fixed : Bool) (rank nodes j edges : ℕ) (before : List ℕ) (L : EdgeLine g t due fixed rank nodes j edges before) where
  abbrev inside : Bool
  inside = listed nodes (nodes_at t (place_of due) rank)

  abbrev all : Bool
  all = covered nodes (before ++ nodes_at t (place_of due) rank)

  abbrev verdict : ℕ
  verdict = judge g t due (stored_fields g t t due)

  pub nearly_no : not fixed ≡ true → NearlyStands g t due None
  nearly_no n s = absurd (false≢true (sym (not-true fixed n) ∙ (kept_by fixed inside (ltb j edges || all) verdict L.answer s.passed).0))

  pub nearly_by : not fixed ≡ false → (p k top : ℕ) → p ≡ place_of due → k ≡ rank → top ≡ min 64 nodes → (found : Option ℕ) → Attached top t p k found
      → NearlyStands g t due found
  nearly_by n p k top q r w found A = go found (subst (λ i. Attached top t i rank found) q (subst (λ i. Attached top t p i found) r A))
    where
      same : listed top (nodes_at t (place_of due) rank) ≡ listed nodes (nodes_at t (place_of due) rank)
      same = rw w (listed_top nodes (nodes_at t (place_of due) rank))

      go : (f : Option ℕ) → Attached top t (place_of due) rank f → NearlyStands g t due f
      go None B = λ s. B (same ∙ (kept_by fixed inside (ltb j edges || all) verdict L.answer s.passed).1) (subst (λ i. behind t (place_of due) i ≡ 0) L.count s.rest)
      go (Some seen) B = record {
        stands = record {
          passed = by_kept fixed inside (ltb j edges || all) verdict L.answer (not-false fixed n) (sym same ∙ B.kept.kept);
          rest = subst (λ i. behind t (place_of due) i ≡ 0) (sym L.count) B.rest;
        };
        set = B.kept.set ∙ ap (marks 0) (sym L.own);
      }

  nearly_stands : (ltb j edges || all) ≡ true → Nearly g t due → Standing g t due
  nearly_stands c s = record { passed = whole_by fixed inside (ltb j edges || all) verdict L.answer s.passed c; rest = s.rest }

  pub nearly_before : j < edges → Nearly g t due → Standing g t due
  nearly_before h s = nearly_stands (rw (lt-ltb j edges h)) s

  pub nearly_last : all ≡ true → Nearly g t due → Standing g t due
  nearly_last c s = nearly_stands (ap (λ b. ltb j edges || b) c ∙ either (ltb j edges)) s
    where
      either : (b : Bool) → (b || true) ≡ true
      either true = refl
      either false = refl

  pub last_covers : edges ≤ j → Standing g t due → all ≡ true
  last_covers h s = ap (λ b. b || all) (sym (le-ltb j edges h)) ∙ (by_whole fixed inside (ltb j edges || all) verdict L.answer s.passed)

  pub stands_nearly : Standing g t due → Nearly g t due
  stands_nearly s = record { passed = inl s.passed; rest = s.rest }

-- ---- the two kinds of lines
module _ (g t : List ℕ) (due : Due) (a b : Bool) (rank nodes j edges : ℕ) (before : List ℕ) (count : fields_due g t t due ≡ 1 + rank) where
  abbrev fs : List ℕ
  fs = stored_fields g t t due

  long : length fs ≡ 1 + rank
  unfolding stored_fields
  long = length_tabulate (fields_due g t t due) (λ k. line_field t (place_of due) k) ∙ count

  own_field : (k : ℕ) → k < 1 + rank → line_field t (place_of due) k ≡ get_or fs k 0
  unfolding stored_fields
  own_field k h = sym (get_d_tabulate (fields_due g t t due) (λ i. line_field t (place_of due) i) k 0 (omega (arith, count)))

  own_nodes : nodes_at t (place_of due) rank ≡ drop 1 fs
  own_nodes = fields_listed fs 1 rank (λ k. line_field t (place_of due) (1 + k)) long (λ i l. own_field (1 + i) (omega arith))

  abbrev asks : Bool → Bool → List ℕ → ℕ
  asks one four l = ask 3 (one && a && b) (ask 4 four (ask 5 (listed nodes l) (ask 6 (ltb j edges || covered nodes (before ++ l)) 0)))

  line_by : EdgeAsked (leb 1 (length fs) && a && b) (length fs) 1 rank (listed nodes (drop 1 fs)) j edges (covered nodes (before ++ drop 1 fs)) (judge g t due fs)
      → EdgeLine g t due (a && b) rank nodes j edges before
  line_by A = record {
    count = count;
    own = sym own_nodes;
    answer =
        A.so
        ∙ ap (λ x. asks x (eqb (length fs) (1 + rank)) (drop 1 fs)) (le-leb 1 (length fs) (omega (arith, long)))
        ∙ ap (λ x. asks true x (drop 1 fs)) (eq-eqb (length fs) (1 + rank) long)
        ∙ ap (asks true true) (sym own_nodes);
  }

pub graph_line_lem : (g t : List ℕ) (e label symbols kind : ℕ) → label ≡ graph_label t e → symbols ≡ symbol_count g → kind ≡ kind_field g label
    → EdgeLine g t (GraphEdge e) (ltb label symbols && eqb kind 0) (rank_at g label) (graph_nodes t) (e + 1) (graph_edges t) (nodes_on_graph g t e)
unfolding judge place_of fields_due
graph_line_lem g t e label symbols kind known count kinds =
    let due : fields_due g t t (GraphEdge e) ≡ 1 + rank_at g label = ap (λ s. 1 + rank_at g s) (sym known) in
    line_by g t (GraphEdge e) (ltb label symbols) (eqb kind 0) _ _ _ _ _ due
    (graph_edge_asked g t (stored_fields g t t (GraphEdge e)) e label symbols kind (known ∙ own_field g t (GraphEdge e) true true _ 0 0 0 [] due 0 (omega arith)) count kinds)

pub rule_line_lem : (t : List ℕ) (r i label symbols rank : ℕ) → label ≡ edge_label t r i → symbols ≡ symbol_count t → rank ≡ rank_at t label
    → EdgeLine [] t (RuleEdge r i) (ltb label symbols && leb 1 rank) rank (rule_nodes t r) (i + 1) (rule_edges t r) (nodes_on_edges t r i)
unfolding judge place_of fields_due
rule_line_lem t r i label symbols rank known count ranks =
    let due : fields_due [] t t (RuleEdge r i) ≡ 1 + rank = ap (λ s. 1 + rank_at t s) (sym known) ∙ ap (λ k. 1 + k) (sym ranks) in
    line_by [] t (RuleEdge r i) (ltb label symbols) (leb 1 rank) _ _ _ _ _ due
    (rule_edge_asked t (stored_fields [] t t (RuleEdge r i)) r i label symbols rank (known ∙ own_field [] t (RuleEdge r i) true true _ 0 0 0 [] due 0 (omega arith)) count ranks)

-- ---- all lines of edges of a graph, or of a rule
pub record EdgeLines (g t : List ℕ) (kind : ℕ → Due) (after : Due) (first n nodes : ℕ) (on : ℕ → List ℕ) : Type 0 where
  pub fixed : ℕ → Bool
  pub rank : ℕ → ℕ
  pub none : on 0 ≡ []
  pub more : (i : ℕ) → on (i + 1) ≡ on i ++ nodes_at t (place_of (kind i)) (rank i)
  pub lines : (i : ℕ) → EdgeLine g t (kind i) (fixed i) (rank i) nodes (i + 1) n (on i)
  pub known : (i : ℕ) → IsLine (kind i)
  pub order : (i : ℕ) → next t (kind i) ≡ cond (ltb (i + 1) n) (kind (i + 1)) after
  pub place : (i : ℕ) → first + i ≡ place_of (kind i)

pub graph_lines_lem : (g t : List ℕ) (n : ℕ) → Count n (graph_edges t) 64 → EdgeLines g t GraphEdge Nothing 1 n (graph_nodes t) (nodes_on_graph g t)
unfolding nodes_on_graph place_of
graph_lines_lem g t n c = record {
  fixed = λ e. ltb (graph_label t e) (symbol_count g) && eqb (kind_field g (graph_label t e)) 0;
  rank = λ e. rank_at g (graph_label t e);
  none = refl;
  more = λ e. ap (nodes_on_graph g t) (add-one e);
  lines = λ e. subst (λ k. EdgeLine g t (GraphEdge e) (ltb (graph_label t e) (symbol_count g) && eqb (kind_field g (graph_label t e)) 0) (rank_at g (graph_label t e)) (graph_nodes t) (e + 1) k (nodes_on_graph g t e))
      (sym c.same) (graph_line_lem g t e _ _ _ refl refl refl);
  known = λ e. tt;
  order = λ e. next_graph_edge t n e c;
  place = λ e. omega arith;
}

pub rule_lines_lem : (t : List ℕ) (r n : ℕ) → Count n (rule_edges t r) 8 → EdgeLines [] t (RuleEdge r) (PlanLine r 0) (edges_from r) n (rule_nodes t r) (nodes_on_edges t r)
unfolding nodes_on_edges place_of
rule_lines_lem t r n c = record {
  fixed = λ i. ltb (edge_label t r i) (symbol_count t) && leb 1 (rank_at t (edge_label t r i));
  rank = λ i. rank_at t (edge_label t r i);
  none = refl;
  more = λ i. ap (nodes_on_edges t r) (add-one i);
  lines = λ i. subst (λ k. EdgeLine [] t (RuleEdge r i) (ltb (edge_label t r i) (symbol_count t) && leb 1 (rank_at t (edge_label t r i))) (rank_at t (edge_label t r i)) (rule_nodes t r) (i + 1) k (nodes_on_edges t r i))
      (sym c.same) (rule_line_lem t r i _ _ _ refl refl refl);
  known = λ i. tt;
  order = λ i. next_edge t n r i c;
  place = λ i. omega arith;
}

-- the first i stand but for question 6, and the set is that of the nodes on them
pub record Passed (g t : List ℕ) (kind : ℕ → Due) (on : ℕ → List ℕ) (i mask : ℕ) : Type 0 where
  pub set : mask ≡ marks 0 (on i)
  pub lines : (k : ℕ) → k < i → Nearly g t (kind k)

module _ (size : ℕ) (g t : List ℕ) (kind : ℕ → Due) (after : Due) (first n nodes : ℕ) (on : ℕ → List ℕ) (E : EdgeLines g t kind after first n nodes on) where
  pub passed_none : Passed g t kind on 0 0
  unfolding marks
  passed_none = record { set = ap (marks 0) (sym E.none); lines = λ k h. absurd (omega arith) }

  module _ (i mask : ℕ) (P : Passed g t kind on i mask) where
    pub passed_more : (seen : ℕ) → NearlyWith g t (kind i) seen → Passed g t kind on (i + 1) (bit_or mask seen)
    unfolding ◌∪◌
    passed_more seen s = record {
      set =
          ap (λ m. bit_or m seen) P.set ∙ ap (bit_or (marks 0 (on i))) (s.set ∙ ap (marks 0) (E.lines i).own)
          ∙ sym (marks_union (marks 0 (on i)) (nodes_at t (place_of (kind i)) (E.rank i))) ∙ sym (marks_append 0 (on i) (nodes_at t (place_of (kind i)) (E.rank i)))
          ∙ ap (marks 0) (sym (E.more i));
      lines = λ k l. go k l (dec_lt k i);
    }
      where
        go : (k : ℕ) → k < i + 1 → Dec (k < i) → Nearly g t (kind k)
        go k l (yes d) = P.lines k d
        go k l (no d) = subst (λ j. Nearly g t (kind j)) (let e : i ≡ k = omega arith in e) s.stands

    -- up to a line before which no one is the last
    to_line : (k : ℕ) → k < n → k ≤ i → Leads size g t (kind 0) first (cond (ltb k n) (kind k) after) (first + k)
    to_line zero h l = lines_start size g t kind after n first (first + 0) (omega arith) h
    to_line (suc k) h l =
        subst (λ j. Leads size g t (kind 0) first (cond (ltb j n) (kind j) after) (first + suc k)) (add-one k)
        (lines_next size g t (kind 0) first kind after n k (first + k) (to_line k (omega arith) (omega arith)) (omega arith) (E.known k) true
        (does (kind k) (nearly_before g t (kind k) _ _ _ _ _ _ (E.lines k) (omega arith) (P.lines k (omega arith)))) refl (E.place k) (E.order k) (first + suc k) (omega arith))

    pub passed_no : i < n → (Nearly g t (kind i) → ⊥) → Rest size g t (kind 0) first → ⊥
    passed_no h s =
        lines_no size g t (kind 0) first kind after n i (first + i) (to_line i h (omega arith)) h (E.known i) false
        (does_not (kind i) (λ q. s (stands_nearly g t (kind i) _ _ _ _ _ _ (E.lines i) q))) refl

    -- after the last one
    module _ (some : 1 ≤ n) (end : i ≡ n) (m : ℕ) (same : m ≡ nodes) (b : Bool) (B : b ≡ (leb m 64 && eqb (mask ∪ full (min m 64)) mask)) where
      abbrev l : ℕ
      l = n - 1

      covers : b ≡ covered nodes (on l ++ nodes_at t (place_of (kind l)) (E.rank l))
      covers =
          B ∙ ap (λ k. leb k 64 && eqb (mask ∪ full (min k 64)) mask) same ∙ ap (λ k. leb nodes 64 && eqb (k ∪ full (min nodes 64)) k) P.set ∙ marks_covered nodes (on i)
          ∙ ap (λ k. covered nodes (on k)) (let e : i ≡ l + 1 = omega arith in e) ∙ ap (covered nodes) (E.more l)

      pub passed_uncovered : not b ≡ true → Rest size g t (kind 0) first → ⊥
      passed_uncovered e =
          lines_no size g t (kind 0) first kind after n l (first + l) (to_line l (omega arith) (omega arith)) (omega arith) (E.known l) false
          (does_not (kind l) (λ q. absurd (false≢true (sym (not-true b e) ∙ covers ∙ last_covers g t (kind l) _ _ _ _ _ _ (E.lines l) (omega arith) q)))) refl

      pub passed_all : not b ≡ false → (to : ℕ) → first + n ≡ to → Leads size g t (kind 0) first after to
      passed_all e to q =
          lines_end size g t (kind 0) first kind after n (l + 1) (first + l + 1)
          (lines_next size g t (kind 0) first kind after n l (first + l) (to_line l (omega arith) (omega arith)) (omega arith) (E.known l) true
          (does (kind l) (nearly_last g t (kind l) _ _ _ _ _ _ (E.lines l) (sym covers ∙ not-false b e) (P.lines l (omega arith)))) refl (E.place l) (E.order l) _ refl)
          (omega arith) to (omega arith)

      pub passed_reaches : (to : ℕ) → first + n ≡ to → Reaches size g t (kind 0) first after to b
      passed_reaches to q = record { yes = λ y. passed_all (ap not y) to q; no = λ y. passed_uncovered (ap not y) }
