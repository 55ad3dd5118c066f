-- Graph edges that are no candidates make nothing.
use Prim.Native.Nat.{ℕ, ◌+◌, ◌≤◌, ◌<◌}
use mathlib.Core.Path.{◌≡◌, refl, sym, ap, ◌∙◌, subst}
use mathlib.Core.Bool.{Bool, false}
use mathlib.Core.List.{List}
use native.Mathlib.Omega.{arith}
use lib.ListN.{length}
use Rattle.masks.specs.Masks.{member}
use Rattle.agenda.specs.declared.ChartItem.{ChartItem}
use Rattle.agenda.specs.declared.Record.{Record}
use Rattle.agenda.specs.Records.{item_of}
use Rattle.agenda.specs.Consequences.{gather, with_terminal}
use Rattle.questions.specs.Layout.{graph_edges}
use Rattle.questions.specs.Abstract.{grammar_of, graph_of}
use Rattle.joins.proofs.Known.{graph_size}
use Rattle.joins.proofs.PlanMasks.{member_none}
use Rattle.rules.specs.Candidates.{Candidates}
use Rattle.rules.proofs.CandidateLaws.{no_terminal}
use Rattle.records.specs.Words.{Fits, record_at, grown_by}
use Rattle.records.proofs.Grown.{Whole, whole_gather}
use Rattle.steps.specs.Ready.{Tables, Ready, Handled}
use Rattle.steps.proofs.KnownLaws.{edge_whole}
use Rattle.steps.proofs.ReadyLaws.{stays_record, stays_handled}
use Rattle.steps.proofs.StepLaws.{Gathered, nothing_added, gathered_none, gathered_next, gathered_skip, gathered_all}

module _ (g h : List ℕ) (x : ChartItem) (m : ℕ) (C : Candidates g h x m) (w : List ℕ) (o : Fits w) (j : ℕ) where
  abbrev made : ℕ → List Record
  made e = with_terminal (grammar_of g) (graph_of g h) (item_of (grammar_of g) x) x.count j e

  pub candidate_none : (e : ℕ) → e < graph_edges h → (b : Bool) → b ≡ member m e → b ≡ false → w ≡ grown_by w (made e)
  candidate_none e l b q n = nothing_added w (made e) o (no_terminal g h x m C x.count j e l (sym q ∙ n))

  pub candidates_none : m ≡ 0 → (n : ℕ) → n ≡ graph_edges h → w ≡ grown_by w (gather n made)
  candidates_none z n q =
      gathered_all w o made w n n refl
      (gathered_skip w o made w 0 n (λ e a b. no_terminal g h x m C x.count j e (omega arith) (subst_member e)) (omega arith) (gathered_none w o made))
    where
      subst_member : (e : ℕ) → member m e ≡ false
      subst_member e = rw z (member_none e)

-- ---- the loop over the graph edges: the record at place j stays as it is
-- the words v, with the index jx and the lists ms, are w with what it makes with the first e graph edges
pub record Edging (g h keys w : List ℕ) (j : ℕ) (v jx ms : List ℕ) (e : ℕ) : Type 0 where
  pub gathered : Gathered w (λ i. with_terminal (grammar_of g) (graph_of g h) (item_of (grammar_of g) (record_at w j).item) (record_at w j).item.count j i) v e
  pub ready : Ready g h keys v jx ms
  pub within : e ≤ length (graph_of g h).edges

module _ {g h keys w ix ls : List ℕ} {j : ℕ} (P : Tables g h keys × Ready g h keys w ix ls × Handled w j) where
  abbrev own : ChartItem
  own = (record_at w j).item

  abbrev with : ℕ → List Record
  with e = with_terminal (grammar_of g) (graph_of g h) (item_of (grammar_of g) own) own.count j e

  with_whole : (e : ℕ) → e < length (graph_of g h).edges → Whole (with e)
  with_whole e = edge_whole g h P.0.accepted w P.1.known P.1.small j P.2.there own.count e

  edges_whole : (n : ℕ) → n ≤ length (graph_of g h).edges → Whole (gather n with)
  edges_whole n l = whole_gather n with (λ e h. with_whole e (omega arith))

  pub edges_skipped : {y : ChartItem} {m : ℕ} → y ≡ own → Candidates g h y m → m ≡ 0
      → (w ≡ grown_by w (gather (length (graph_of g h).edges) with)) × Ready g h keys w ix ls
  edges_skipped {m = m} q C z =
      (candidates_none g h own m (subst (λ (y : ChartItem). Candidates g h y m) q C) w P.1.fits j z (length (graph_of g h).edges) (graph_size g h), P.1)

  pub edge_start : Edging g h keys w j w ix ls 0
  edge_start = record { gathered = gathered_none w P.1.fits with; ready = P.1; within = omega arith }

  module _ {v jx ms : List ℕ} {e : ℕ} (E : Edging g h keys w j v jx ms e) where
    edge_item : (record_at v j).item ≡ own
    edge_item = ap (λ (y : Record). y.item) (stays_record w v j (gather e with) P.1.fits (edges_whole e E.within) E.gathered.is P.2)

    pub edge_handled : Handled v j
    edge_handled = stays_handled w v j (gather e with) P.1.fits (edges_whole e E.within) E.gathered.is P.2

    pub edge_candidates : {y : ChartItem} {m : ℕ} → y ≡ own → Candidates g h y m → Candidates g h (record_at v j).item m
    edge_candidates {m = m} q C = subst (λ (y : ChartItem). Candidates g h y m) (q ∙ sym edge_item) C

    pub edge_next : {u kx ns : List ℕ} → e < graph_edges h
        → (u ≡ grown_by v (with_terminal (grammar_of g) (graph_of g h) (item_of (grammar_of g) (record_at v j).item) (record_at v j).item.count j e)) × Ready g h keys u kx ns
        → Edging g h keys w j u kx ns (e + 1)
    edge_next {u} l made = record {
      gathered =
          gathered_next w P.1.fits with v u e (e + 1) (omega arith) (λ n d. with_whole n (omega (arith, graph_size g h))) E.gathered
          (made.0 ∙ ap (λ (y : ChartItem). grown_by v (with_terminal (grammar_of g) (graph_of g h) (item_of (grammar_of g) y) y.count j e)) edge_item);
      ready = made.1;
      within = omega (arith, graph_size g h);
    }

    pub edge_end : {n : ℕ} → n ≡ graph_edges h → e ≤ n → n ≤ e → (v ≡ grown_by w (gather (length (graph_of g h).edges) with)) × Ready g h keys v jx ms
    edge_end q a b =
        (gathered_all w P.1.fits with v e (length (graph_of g h).edges) (omega (arith, q, graph_size g h)) E.gathered, E.ready)
