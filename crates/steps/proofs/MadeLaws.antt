-- What a rule of crate rules answers, and the record of it that is added to the chart.
use Prim.Native.Nat.{ℕ, ◌<◌}
use native.Mathlib.Omega.{arith}
use mathlib.Core.Path.{◌≡◌, refl, sym, ap, ◌∙◌, subst}
use mathlib.Core.Bool.{Bool}
use mathlib.Core.List.Memᴰ.{head as here}
use mathlib.Core.List.{List, [], ◌∷◌, Memᴰ as In}
use lib.Dec.{eqb}
use borrow.Author.Tests.{eq-eqb}
use Rattle.hrg.specs.Grammars.{Graph, Grammar}
use Rattle.agenda.specs.declared.ChartItem.{ChartItem}
use Rattle.agenda.specs.declared.Record.{Record}
use Rattle.agenda.specs.Records.{new_record, item_of, plus}
use Rattle.agenda.specs.Consequences.{at_root, with_terminal, pair, consequences}
use Rattle.questions.specs.Layout.{graph_edges}
use Rattle.questions.specs.Abstract.{grammar_of, graph_of}
use Rattle.joins.specs.Joins.{Accepted}
use Rattle.joins.proofs.Known.{graph_size}
use Rattle.std.specs.Prelude.{Option, Some, None, IfSome, IfNone}
use Rattle.rules.specs.Coverage.{Covering}
use Rattle.rules.specs.Rules.{pair_items, terminal_items, StandsFor, Gives, GivesRoot}
use Rattle.rules.proofs.RuleAnswers.{gives_same, records_by, pair_records, terminal_records}
use Rattle.rules.proofs.RootLaws.{root_none, root_one}
use Rattle.records.specs.Words.{item_count, record_at, chart_of, grown_by}
use Rattle.records.proofs.Grown.{grown_one}
use Rattle.index.specs.Index.{doubt_of, Adds}
use Rattle.steps.specs.Ready.{Ready, Handled, Joined}
use Rattle.steps.proofs.ReadyLaws.{added_ready, covering_at}
use Rattle.steps.proofs.StepLaws.{nothing_added, among_root, among_edges, among_records}

module _ {g h keys w ix ls : List ℕ} (accepted : Accepted g h) (R : Ready g h keys w ix ls) where
  abbrev G : Grammar
  G = grammar_of g

  abbrev H : Graph
  H = graph_of g h

  -- the words v, with their index, are w with the records ys
  abbrev pub Grows : List ℕ → List ℕ → List ℕ → List Record → Type 0
  Grows v jx ms ys = (v ≡ grown_by w ys) × Ready g h keys v jx ms

  -- no record
  none : {ys : List Record} → ys ≡ [] → Grows w ix ls ys
  none {ys} e = (nothing_added w ys R.fits e, R)

  -- nothing was added
  kept : {v jx ms : List ℕ} {ys : List Record} → (v ≡ w) × (jx ≡ ix) × (ms ≡ ls) → ys ≡ [] → Grows v jx ms ys
  kept {v} {jx} {ms} {ys} (p, q, r) e =
      subst (λ v. Grows v jx ms ys) (sym p) (subst (λ jx. Grows w jx ms ys) (sym q) (subst (λ ms. Grows w ix ms ys) (sym r) (none e)))

  -- one that the record at place j makes
  one : {v jx ms : List ℕ} {i : ChartItem} {a b j : ℕ} {ys : List Record} → Adds keys w ix v jx ms (new_record i a b) → ys ≡ new_record i a b ∷ []
      → (doubt_of ix ≡ 0 → Covering g h i) → j < item_count w → ((y : Record) → In y ys → In y (consequences G H (chart_of w).records j)) → Grows v jx ms ys
  one {v} {jx} {ms} {i} {a} {b} {j} {ys} added e covers l among =
      let z : Record = new_record i a b in
      let own : In z ys = subst (In z) (sym e) (here refl) in (
        added.chart ∙ grown_one w R.fits z added.compact ∙ ap (grown_by w) (sym e),
        added_ready g h keys w ix ls R v jx ms added.indexed (added.covered g h R.covered covers) accepted j l z added.compact refl (among z own) added.chart,
      )

  -- ---- the root rule
  module _ (j : ℕ) {x : ChartItem} (own : x ≡ (record_at w j).item) where
    abbrev root_records_lem : ChartItem → List Record
    root_records_lem y = at_root G (item_of G y) y.count j

    pub root_missed : GivesRoot g x None → Grows w ix ls (root_records_lem (record_at w j).item)
    root_missed answer = none (ap root_records_lem (sym own) ∙ root_none g x j answer)

    pub root_added : {m : ChartItem} → GivesRoot g x (Some m) → j < item_count w → {v jx ms : List ℕ} → Adds keys w ix v jx ms (new_record m j 0)
        → Grows v jx ms (root_records_lem (record_at w j).item)
    root_added {m} answer l added =
        one added (ap root_records_lem (sym own) ∙ root_one g x j m answer)
        (λ d. answer.covering h (subst (Covering g h) (sym own) (covering_at g h w ix j R.covered l d))) l (among_root G H w j l)

  -- ---- what was made, if it was: the record of that item was added
  grown : {v jx ms : List ℕ} {ys : List Record} {j : ℕ} (a b : ℕ) (m : Option ChartItem) → IfNone m ((v ≡ w) × (jx ≡ ix) × (ms ≡ ls))
      → IfSome m (λ x. Adds keys w ix v jx ms (new_record x a b)) → ys ≡ records_by g h m a b
      → (doubt_of ix ≡ 0 → IfSome m (Covering g h)) → j < item_count w → ((y : Record) → In y ys → In y (consequences G H (chart_of w).records j)) → Grows v jx ms ys
  grown a b None missed added is covers l among = kept missed is
  grown a b (Some x) missed added is covers l among = one added is covers l among

  -- ---- the rules that may be sure
  module _ {sure : Bool} (known : sure ≡ eqb (doubt_of ix) 0) {v jx ms : List ℕ} where
    -- with a graph edge, for which the item y stands
    module _ (j e : ℕ) {x y : ChartItem} (own : x ≡ (record_at w j).item) (edge : StandsFor g h e y)
        (joined : Joined g h sure (pair_items g h x y) x.count j e keys w ix ls v jx ms) where
      abbrev edge_records : ChartItem → List Record
      edge_records y = with_terminal G H (item_of G y) y.count j e

      of_edge : Gives g h sure (terminal_items G H (item_of G x) e) x.count joined.made
      of_edge = gives_same g h sure (pair_items g h x y) (terminal_items G H (item_of G x) e) x.count joined.made (edge.pairs x) joined.gives

      pub edge_grown : j < item_count w → e < graph_edges h → Grows v jx ms (edge_records (record_at w j).item)
      edge_grown l d =
          grown j e joined.made joined.missed joined.added (ap edge_records (sym own) ∙ terminal_records g h sure joined.made x x.count j e of_edge)
          (λ z. of_edge.covering (known ∙ eq-eqb (doubt_of ix) 0 z)) l (among_edges G H w j l e (omega (arith, graph_size g h)))

    -- with another record
    module _ (j k : ℕ) {x y : ChartItem} (first : x ≡ (record_at w j).item) (second : y ≡ (record_at w k).item)
        (joined : Joined g h sure (pair_items g h x y) (plus x.count y.count) j k keys w ix ls v jx ms) where
      abbrev both : List Record
      both = pair G H (record_at w j) j (record_at w k) k

      abbrev m : Option ChartItem
      m = joined.made

      of_records : Gives g h sure (pair_items g h (record_at w j).item (record_at w k).item) (plus (record_at w j).item.count (record_at w k).item.count) m
      of_records =
          subst (λ (t : ChartItem). Gives g h sure (pair_items g h (record_at w j).item t) (plus (record_at w j).item.count t.count) m) second
          (subst (λ (s : ChartItem). Gives g h sure (pair_items g h s y) (plus s.count y.count) m) first joined.gives)

      pub pair_grown : Handled w j → Handled w k → Grows v jx ms both
      pair_grown at other =
          grown j k m joined.missed joined.added (pair_records g h sure m (record_at w j) (record_at w k) j k of_records)
          (λ d. of_records.covering (known ∙ eq-eqb (doubt_of ix) 0 d)) at.there (among_records G H w j at.there k other.there other.done)
