-- What a handled record is tried with, by its kind and by the plan node above it: what it is not tried with makes
-- nothing.
use Prim.Native.Nat.{ℕ, ◌/◌, ◌%◌, ◌≤◌, ◌<◌}
use mathlib.Core.Path.{◌≡◌, refl, sym, ap, ◌∙◌, subst}
use mathlib.Core.Bool.{Bool, true, false, not}
use mathlib.Core.List.{List, ◌++◌}
use native.Mathlib.Omega.{arith}
use lib.Dec.{eqb}
use Rattle.hrg.specs.Grammars.{Graph, Grammar}
use Rattle.agenda.specs.declared.ChartItem.{ChartItem}
use Rattle.agenda.specs.declared.Record.{Record}
use Rattle.agenda.specs.Consequences.{gather, consequences}
use Rattle.questions.specs.Checking.{check_grammar}
use Rattle.questions.specs.Abstract.{grammar_of, graph_of}
use Rattle.joins.proofs.Known.{graph_size}
use Rattle.rules.specs.declared.plans.Parent.{Parent}
use Rattle.rules.specs.Plans.{ParentAt, Leads}
use Rattle.rules.specs.Wants.{want_of}
use Rattle.rules.proofs.WantLaws.{want_missing}
use Rattle.rules.proofs.Leading.{leads_passive, leads_first}
use Rattle.rules.proofs.RootLaws.{root_passive, root_none, root_child}
use Rattle.rules.proofs.CandidateLaws.{candidates_passive, candidates_none}
use Rattle.records.specs.Words.{item_count, record_at, chart_of, grown_by}
use Rattle.records.proofs.Grown.{Whole, whole_append, whole_gather}
use Rattle.steps.specs.Partners.{with_record}
use Rattle.steps.proofs.KnownLaws.{root_whole, edge_whole, record_whole}
use Rattle.steps.specs.Ready.{Tables, Ready, Handled, Joining}
use Rattle.steps.proofs.PartnerLaws.{unwanting_none}
use Rattle.steps.proofs.ReadyLaws.{stays_record, stays_handled}
use Rattle.steps.proofs.StepLaws.{by_root, with_edges, nothing_added, alone_added, all_added, added_longer, no_partners}
use Rattle.steps.proofs.CandidateSteps.{candidates_none as edges_none}

-- the words v, with the index jx and the lists ms, are w with what the record at place j makes by the root rule and
-- with graph edges; it comes first with others where it leads
pub record Alone (g h keys w : List ℕ) (j : ℕ) (v jx ms : List ℕ) (lead : Bool) : Type 0 where
  pub is : v ≡ grown_by w (by_root (grammar_of g) (graph_of g h) (record_at w j) j ++ with_edges (grammar_of g) (graph_of g h) (record_at w j) j)
  pub ready : Ready g h keys v jx ms
  pub leads : Leads g (record_at w j).item lead

pub alone_same : {g h keys w : List ℕ} {j : ℕ} {v jx ms u kx ns : List ℕ} {lead first : Bool} → v ≡ u → jx ≡ kx → ms ≡ ns → lead ≡ first → Alone g h keys w j u kx ns first → Alone g h keys w j v jx ms lead
alone_same {g} {h} {keys} {w} {j} {v} {jx} {ms} {u} {kx} {ns} {lead} a b l e A =
    subst (λ (t : List ℕ). Alone g h keys w j t jx ms lead) (sym a)
    (subst (λ (t : List ℕ). Alone g h keys w j u t ms lead) (sym b)
    (subst (λ (t : List ℕ). Alone g h keys w j u kx t lead) (sym l) (subst (Alone g h keys w j u kx ns) (sym e) A)))

module _ {g h keys w ix ls : List ℕ} {j : ℕ} (P : Tables g h keys × Ready g h keys w ix ls × Handled w j) where
  abbrev G : Grammar
  G = grammar_of g

  abbrev H : Graph
  H = graph_of g h

  abbrev x : Record
  x = record_at w j

  checked : check_grammar g ≡ true
  checked = P.0.accepted.grammar

  -- what it makes can be added
  by_root_is : Whole (by_root G H x j)
  by_root_is = root_whole g h P.0.accepted w P.1.known P.1.small j P.2.there x.item.count

  with_edges_is : Whole (with_edges G H x j)
  with_edges_is = whole_gather _ _ (edge_whole g h P.0.accepted w P.1.known P.1.small j P.2.there x.item.count)

  alone_whole : Whole (by_root G H x j ++ with_edges G H x j)
  alone_whole = whole_append (by_root G H x j) (with_edges G H x j) by_root_is with_edges_is

  with_records : (k : ℕ) → k < item_count w → Whole (with_record G H x j (record_at w k) k)
  with_records = record_whole g h P.0.accepted w P.1.known P.1.small j P.2.there

  -- ---- the record's item, as it was read
  module _ {y : ChartItem} (own : y ≡ x.item) where
    -- a passive item: nothing by the root rule and with no graph edge, and only second with others
    pub alone_passive : (y.kind ≡ 0 → ⊥) → Alone g h keys w j w ix ls false
    alone_passive k = record {
      is =
          alone_added G H w w w x j P.1.fits by_root_is with_edges_is (nothing_added w _ P.1.fits (root_none g x.item j (root_passive g x.item other)))
          (edges_none g h x.item 0 (candidates_passive g h P.0.accepted x.item other) w P.1.fits j refl _ (graph_size g h));
      ready = P.1;
      leads = leads_passive g checked x.item other;
    }
      where
        other : x.item.kind ≡ 0 → ⊥
        other e = k (ap (λ (z : ChartItem). z.kind) own ∙ e)

    -- an active one, by the plan node above it
    module _ (k : y.kind ≡ 0) {up : Parent} (at : ParentAt g y.of y.plan up) where
      kind : x.item.kind ≡ 0
      kind = sym (ap (λ (z : ChartItem). z.kind) own) ∙ k

      above : ParentAt g x.item.of x.item.plan up
      above = subst (λ (z : ChartItem). ParentAt g z.of z.plan up) own at

      -- where there is one: nothing by the root rule
      pub alone_child : up.word % 32 < 16 → {v jx ms : List ℕ} → (v ≡ grown_by w (with_edges G H x j)) × Ready g h keys v jx ms
          → Alone g h keys w j v jx ms (not (eqb (up.word / 32 % 4) 3))
      alone_child l {v} made = record {
        is = alone_added G H w w v x j P.1.fits by_root_is with_edges_is (nothing_added w _ P.1.fits (root_child g x.item j kind checked up above l)) made.0;
        ready = made.1;
        leads = leads_first g checked x.item kind up above l;
      }

      -- where there is none: nothing with graph edges and with records
      pub all_root : 16 ≤ up.word % 32 → {v jx ms : List ℕ} → (v ≡ grown_by w (by_root G H x j)) × Ready g h keys v jx ms
          → (v ≡ grown_by w (consequences G H (chart_of w).records j)) × Ready g h keys v jx ms
      all_root far {v} made =
          let o = made.1.fits in
          let want : 80 ≡ want_of G x.item.of x.item.plan = want_missing g x.item.of x.item.plan (above.nowhere far) in (
            all_added G H w j P.2.there v v P.1.fits alone_whole with_records
                (alone_added G H w v v x j P.1.fits by_root_is with_edges_is made.0 (edges_none g h x.item 0 (candidates_none g h P.0.accepted x.item kind 80 want (omega arith)) v o j refl _ (graph_size g h)))
                (item_count w) refl
                (no_partners G H v (λ i. with_record G H x j (record_at v i) i) (item_count w) o (λ i. unwanting_none g checked H x (record_at v i) 80 want j i kind refl)),
            made.1,
          )

  -- ---- on to the records
  module _ {v jx ms : List ℕ} {lead : Bool} (A : Alone g h keys w j v jx ms lead) where
    same : record_at v j ≡ x
    same = stays_record w v j _ P.1.fits alone_whole A.is P.2

    pub alone_joining : Joining g h keys v jx ms lead j
    alone_joining = record {
      tables = P.0;
      ready = A.ready;
      handled = stays_handled w v j _ P.1.fits alone_whole A.is P.2;
      leads = subst (λ (y : Record). Leads g y.item lead) (sym same) A.leads;
    }

    pub alone_room : {n : ℕ} → n ≡ item_count w → n ≤ item_count v
    alone_room q = omega (arith, added_longer w v _ P.1.fits alone_whole A.is)

    pub alone_all : {u kx ns : List ℕ} {n : ℕ} → n ≡ item_count w → (u ≡ grown_by v (gather n (λ i. with_record G H (record_at v j) j (record_at v i) i))) × Ready g h keys u kx ns
        → (u ≡ grown_by w (consequences G H (chart_of w).records j)) × Ready g h keys u kx ns
    alone_all {u} {n = n} q made = (
      all_added G H w j P.2.there v u P.1.fits alone_whole with_records A.is n q (made.0 ∙ ap (λ (y : Record). grown_by v (gather n (λ i. with_record G H y j (record_at v i) i))) same),
      made.1,
    )
