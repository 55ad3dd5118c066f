-- Words and index stay ready as records are added and handled.
use Rattle.std.specs.Prelude.{Option, Some, None}
use Prim.Native.Nat.{ℕ, ◌≤◌, ◌<◌}
use mathlib.Core.Path.{◌≡◌, sym, ap, ◌∙◌, subst}
use mathlib.Core.List.{List, [], ◌∷◌, Memᴰ as In}
use native.Mathlib.Omega.{arith}
use lib.ListN.{length}
use mathlib.Core.Bool.{Bool, true}
use lib.Dec.{eqb}
use borrow.Author.Tests.{eqb-true}
use Rattle.agenda.specs.Records.{is_handled}
use Rattle.rules.specs.Coverage.{Covering}
use Rattle.rules.specs.Rules.{Usable}
use Rattle.agenda.specs.declared.ChartItem.{ChartItem}
use Rattle.agenda.specs.declared.Record.{Record}
use Rattle.agenda.specs.Consequences.{consequences}
use Rattle.agenda.specs.Steps.{least_waiting}
use Rattle.agenda.proofs.Growth.{Fresh}
use Rattle.questions.specs.Abstract.{grammar_of, graph_of}
use Rattle.questions.specs.Layout.{rule_nodes, graph_nodes}
use Rattle.joins.specs.Joins.{Accepted, BareFrom, Into}
use Rattle.records.specs.Words.{Fits, Compact, capacity, item_count, record_at, chart_of, added_to, marked_at, grown_by}
use Rattle.records.proofs.WordLaws.{length_records, record_in_lem, Below, one, least_below}
use Rattle.records.proofs.Written.{handle_written, capacity_written, fits_written, marked_count as count_marked, marked_handled}
use Rattle.records.proofs.Rewritten.{handled_in, grown_handled}
use Rattle.records.proofs.Grown.{Whole, whole_one, holds_own, grown_one, grown_fits, grown_capacity, grown_longer, grown_record}
use Rattle.index.specs.Index.{Indexed, doubt_of, Covered, DoubtKept}
use Rattle.index.proofs.CoverLaws.{covered_kept}
use Rattle.index.proofs.AddLaws.{handled_beside, handled_covered}
use Rattle.ranking.specs.Ranking.{taken_from}
use Rattle.steps.specs.Runs.{marked_by}
use Rattle.steps.specs.Ready.{Ready, Runnable, Handled}
use Rattle.steps.proofs.KnownLaws.{known_into, known_bare, known_handled, known_added}

module _ (g h keys w ix ls : List ℕ) (R : Ready g h keys w ix ls) (v jx ms : List ℕ) (I : Indexed keys jx ms (chart_of v).records) (S : Covered g h jx (chart_of v).records) where
  -- a record is added that the one at place j makes
  pub added_ready : Accepted g h → (j : ℕ) → j < item_count w → (x : Record) → Compact x → Fresh x → In x (consequences (grammar_of g) (graph_of g h) (chart_of w).records j)
      → v ≡ added_to w x → Ready g h keys v jx ms
  added_ready A j l x e new made p = record {
    fits = fits;
    small = omega (arith, ap capacity is, grown_capacity w R.fits (x ∷ []) whole, R.small);
    known = known_added g h A w R.known j l v x R.fits fits e new made is;
    indexed = I;
    covered = S;
  }
    where
      is : v ≡ grown_by w (x ∷ [])
      is = p ∙ grown_one w R.fits x e

      whole : Whole (x ∷ [])
      whole = whole_one e

      fits : Fits v
      fits = subst Fits (sym is) (grown_fits w R.fits (x ∷ []) whole)

  -- a record is handled
  handled_ready : (j : ℕ) → j < item_count w → v ≡ marked_at w j → Ready g h keys v jx ms
  handled_ready j l p =
      let is = p ∙ handle_written w j R.fits l in
      let held = (grown_handled w (chart_of w) (holds_own w R.fits) j).holds in
      let fits = subst Fits (sym is) (fits_written w (handled_in j (chart_of w)) held) in
      record {
        fits = fits;
        small = omega (arith, ap capacity is, capacity_written w (handled_in j (chart_of w)) held, R.small);
        known = known_handled g h w v j R.fits fits l p R.known;
        indexed = I;
        covered = S;
      }

-- the index of a chart that passes question 8
pub built_ready : (g h keys w ix ls : List ℕ) → Runnable g h w → Indexed keys ix ls (chart_of w).records → Covered g h ix (chart_of w).records → Ready g h keys w ix ls
built_ready g h keys w ix ls R i n = record { fits = R.fits; small = R.small; known = R.known; indexed = i; covered = n }

pub count_small : (w : List ℕ) → capacity w ≤ 4096 → item_count w ≤ 4096
unfolding item_count
count_small w h = omega arith

pub handled_small : (w : List ℕ) (j : ℕ) → capacity w ≤ 4096 → j < item_count w → j < 4096
handled_small w j h l = omega (arith, count_small w h)

pub records_small : (w : List ℕ) → capacity w ≤ 4096 → length (chart_of w).records ≤ 4096
unfolding chart_of
records_small w h = omega (arith, length_records w (item_count w), count_small w h)

-- ---- records that cover their open nodes
-- the record at place k, where there is no doubt
pub covering_at : (g h w ix : List ℕ) (k : ℕ) → Covered g h ix (chart_of w).records → k < item_count w → doubt_of ix ≡ 0 → Covering g h (record_at w k).item
unfolding chart_of
covering_at g h w ix k S l d = subst (λ (y : Record). Covering g h y.item) (record_in_lem w (item_count w) k l) (S.each d k (omega (arith, length_records w (item_count w))))

-- .. of its item, where the index says so
pub covering_of : (g h w ix : List ℕ) (k : ℕ) (x : ChartItem) (sure : Bool) → Covered g h ix (chart_of w).records → k < item_count w → x ≡ (record_at w k).item → sure ≡ eqb (doubt_of ix) 0 → sure ≡ true → Covering g h x
covering_of g h w ix k x sure S l e q s = subst (Covering g h) (sym e) (covering_at g h w ix k S l (eqb-true (doubt_of ix) 0 (sym q ∙ s)))

-- the item of a record may be given to a rule
pub usable_at : {g h keys w ix ls : List ℕ} → Accepted g h → Ready g h keys w ix ls → {k : ℕ} {x : ChartItem} {sure : Bool} → k < item_count w → x ≡ (record_at w k).item → sure ≡ eqb (doubt_of ix) 0 → Usable g h sure x
usable_at {g} {h} {w = w} {ix = ix} accepted R {k} {x} {sure} l e q = record {
  into = subst (λ (y : ChartItem). Into (graph_nodes h) y.nodes) (sym e) (known_into g h accepted w R.known k l);
  bare = subst (λ (y : ChartItem). y.kind ≡ 0 → BareFrom (rule_nodes g y.of) y.nodes) (sym e) (known_bare g h accepted w R.known k l);
  covering = covering_of g h w ix k x sure R.covered l e q;
}

-- .. and its place stands in a record
pub place_few : {g h keys w ix ls : List ℕ} → Ready g h keys w ix ls → {k : ℕ} → k < item_count w → k < 65536
place_few {w = w} R {k} l = omega (arith, handled_small w k R.small l)

-- a handled record leaves the number of items
pub marked_count : (w v : List ℕ) (j : ℕ) → j < item_count w → v ≡ marked_at w j → item_count v ≡ item_count w
marked_count w v j l p = ap item_count p ∙ count_marked w j l

-- ---- the record that a step handles
pub handled_now_lem : (w v : List ℕ) (j : ℕ) → j < item_count w → v ≡ marked_at w j → Handled v j
handled_now_lem w v j l p = record {
  there = subst (λ n. j < n) (sym (marked_count w v j l p)) l;
  done = ap (λ (u : List ℕ). is_handled (record_at u j)) p ∙ marked_handled w j l;
}

-- it stays as it is while others are added
module _ (w v : List ℕ) (j : ℕ) (xs : List Record) (f : Fits w) (e : Whole xs) (p : v ≡ grown_by w xs) (D : Handled w j) where
  pub stays_record : record_at v j ≡ record_at w j
  stays_record = ap (λ (u : List ℕ). record_at u j) p ∙ grown_record w f xs e j D.there D.done

  pub stays_handled : Handled v j
  stays_handled = record {
    there = omega (arith, D.there, ap item_count p, grown_longer w f xs e);
    done = ap is_handled stays_record ∙ D.done;
  }

-- a record is taken, or none: then the ranking may be made anew
module _ (g h keys w ix ls : List ℕ) (R : Ready g h keys w ix ls) (new : List ℕ) (k : DoubtKept ix new) where
  abbrev rs : List Record
  rs = (chart_of w).records

  ready_by : (v : List ℕ) (f : Option ℕ) → Below (length rs) f → v ≡ marked_by w f → Indexed keys new ls (taken_from rs f) → Ready g h keys v new ls
  unfolding chart_of
  ready_by v None b q I =
      subst (λ (u : List ℕ). Ready g h keys u new ls) (sym q) (record { fits = R.fits; small = R.small; known = R.known; indexed = I; covered = covered_kept g h ix new rs k R.covered })
  ready_by v (Some j) (one b) q I =
      let l : j < item_count w = omega (arith, length_records w (item_count w)) in
      handled_ready g h keys w ix ls R v new ls (handled_beside w v j R.fits l q keys new ls I) (handled_covered w v j R.fits l q g h ix new k R.covered) j l q

  pub taken_ready : (v : List ℕ) (t f : Option ℕ) → t ≡ f → t ≡ least_waiting rs (length rs) → v ≡ marked_by w f
      → (Indexed keys ix ls rs → Indexed keys new ls (taken_from rs t)) → Ready g h keys v new ls
  taken_ready v t f e p q i = ready_by v f (subst (Below (length rs)) (sym p ∙ e) (least_below rs (length rs))) q (subst (λ (o : Option ℕ). Indexed keys new ls (taken_from rs o)) e (i R.indexed))
