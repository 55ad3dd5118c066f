-- The chart beside the indexes: a record is found again, comes behind the others, or becomes handled.
use Rattle.std.specs.Prelude.{Option, Some, None}
use Prim.Native.Nat.{ℕ, ◌≤◌, ◌<◌}
use mathlib.Core.Path.{◌≡◌, refl, sym, ap, ◌∙◌, subst}
use mathlib.Core.List.{List, [], ◌∷◌, ◌++◌}
use mathlib.Core.Bool.{true, false, ◌||◌}
use native.Mathlib.Omega.{arith}
use lib.Dec.{leb}
use lib.ListN.{length, get_or, set}
use borrow.Author.Tests.{eq-eqb, lt-ltb, le-ltb, le-leb, lt-leb}
use Rattle.agenda.specs.declared.Record.{Record}
use Rattle.agenda.specs.Records.{is_handled}
use Rattle.agenda.specs.Consequences.{record_in}
use Rattle.agenda.specs.Steps.{Chart, improved, handled_now, last_same, placed, added}
use Rattle.records.specs.Words.{Fits, capacity, item_count, record_at, chart_of, improved_at, appended_to, added_to, marked_at, Compact}
use Rattle.records.proofs.WordLaws.{Below, one, last_below, record_in_lem, improve_handled, improve_less, add_found, add_new}
use Rattle.records.proofs.Written.{add_written, handle_written, chart_of_written}
use Rattle.records.proofs.Rewritten.{handled_in, grown_added, grown_handled}
use Rattle.records.proofs.Grown.{holds_own}
use Rattle.chains.proofs.ChainLaws.{counted, same_found}
use Rattle.rules.specs.Coverage.{Covering}
use Rattle.index.specs.Index.{doubt_of, Indexed, Covered, DoubtKept, Adds}
use Rattle.index.proofs.CoverLaws.{covered_kept, covered_again, covered_handled, covered_more}

-- ---- the records of a chart with one record more
module _ (cap : ℕ) (x : Record) (c : Chart) where
  placed_stays : (j : ℕ) → is_handled (record_in c.records j) || leb (record_in c.records j).item.count x.item.count ≡ true → (placed cap x c (Some j)).records ≡ c.records
  unfolding placed
  placed_stays j e = rw e

  placed_improved : (j : ℕ) → is_handled (record_in c.records j) || leb (record_in c.records j).item.count x.item.count ≡ false
      → (placed cap x c (Some j)).records ≡ set c.records j (improved (record_in c.records j) x)
  unfolding placed
  placed_improved j e = rw e

  placed_room : length c.records < cap → (placed cap x c None).records ≡ c.records ++ (x ∷ [])
  unfolding placed
  placed_room h = rw (lt-ltb (length c.records) cap h)

  placed_full : cap ≤ length c.records → (placed cap x c None).records ≡ c.records
  unfolding placed
  placed_full h = rw (le-ltb (length c.records) cap h)

-- ---- found again
pub inside : (w : List ℕ) (j : ℕ) → j < item_count w → j < length (chart_of w).records
inside w j l = omega (arith, counted w)

pub small : (keys w ix ls : List ℕ) (j : ℕ) → Indexed keys ix ls (chart_of w).records → j < item_count w → j < 4096
small keys w ix ls j I l = let f = I.chained.few in omega (arith, counted w)

-- the record at a place, by what is looked at there
module _ (w : List ℕ) (j : ℕ) (l : j < item_count w) where
  here : record_in (chart_of w).records j ≡ record_at w j
  unfolding chart_of
  here = record_in_lem w (item_count w) j l

  pub is_waiting : is_handled (record_at w j) ≡ false → is_handled (record_in (chart_of w).records j) ≡ false
  is_waiting z = ap is_handled here ∙ z

  pub has_count : (n : ℕ) → n ≡ (record_at w j).item.count → n ≡ (record_in (chart_of w).records j).item.count
  has_count n p = p ∙ sym (ap (λ (y : Record). y.item.count) here)

module _ (w ix : List ℕ) (j : ℕ) (x : Record) (l : j < item_count w) where
  abbrev Placed : List ℕ → Type 0
  Placed new = (keys ls : List ℕ) → Indexed keys ix ls (chart_of w).records → Indexed keys new ls (placed (capacity w) x (chart_of w) (Some j)).records

  pub again_handled : is_handled (record_at w j) ≡ true → (w ≡ improved_at w j x) × Placed ix
  again_handled h =
      let t = ap is_handled (here w j l) ∙ h in
      (improve_handled w j x h, λ keys ls I. rw (placed_stays (capacity w) x (chart_of w) j (rw t)) I)

  module _ (z : is_handled (record_at w j) ≡ false) (n : ℕ) (p : n ≡ (record_at w j).item.count) where
    waits : is_handled (record_in (chart_of w).records j) ≡ false
    waits = is_waiting w j l z

    count_is : n ≡ (record_in (chart_of w).records j).item.count
    count_is = has_count w j l n p

    pub again_less : n ≤ x.item.count → (w ≡ improved_at w j x) × Placed ix
    again_less h =
        let q : (record_in (chart_of w).records j).item.count ≤ x.item.count = omega (arith, count_is) in
        let t : is_handled (record_in (chart_of w).records j) || leb (record_in (chart_of w).records j).item.count x.item.count ≡ true = rw (waits, le-leb _ _ q) in
        (improve_less w j x z (omega arith), λ keys ls I. rw (placed_stays (capacity w) x (chart_of w) j t) I)

    pub again_more : (keys new ls : List ℕ) → x.item.count < n → Indexed keys new ls (set (chart_of w).records j (improved (record_in (chart_of w).records j) x))
        → Indexed keys new ls (placed (capacity w) x (chart_of w) (Some j)).records
    again_more keys new ls h J =
        let q : x.item.count < (record_in (chart_of w).records j).item.count = omega (arith, count_is) in
        let t : is_handled (record_in (chart_of w).records j) || leb (record_in (chart_of w).records j).item.count x.item.count ≡ false = rw (waits, lt-leb _ _ q) in
        rw (placed_improved (capacity w) x (chart_of w) j t) J

-- ---- behind the others
pub number : (w : List ℕ) (n : ℕ) → n ≡ item_count w → n ≡ length (chart_of w).records
number w n p = p ∙ sym (counted w)

module _ (keys w ix ls : List ℕ) (x : Record) (n cap : ℕ) (p : n ≡ item_count w) (q : cap ≡ capacity w) where
  pub behind_room : n < cap → Indexed keys ix ls ((chart_of w).records ++ (x ∷ [])) → Indexed keys ix ls (placed (capacity w) x (chart_of w) None).records
  behind_room h I = rw (placed_room (capacity w) x (chart_of w) (omega (arith, number w n p))) I

  pub behind_full : cap ≤ n → Indexed keys ix ls (chart_of w).records → Indexed keys ix ls (placed (capacity w) x (chart_of w) None).records
  behind_full h I = rw (placed_full (capacity w) x (chart_of w) (omega (arith, number w n p))) I

  -- .. and covers its open nodes
  pub room_covered : (g h new : List ℕ) → n < cap → DoubtKept ix new → Covered g h ix (chart_of w).records → (doubt_of ix ≡ 0 → Covering g h x.item)
      → Covered g h new (placed (capacity w) x (chart_of w) None).records
  room_covered g h new room k C f =
      rw (placed_room (capacity w) x (chart_of w) (omega (arith, number w n p)))
      (covered_kept g h ix new ((chart_of w).records ++ (x ∷ [])) k (covered_more g h ix x (chart_of w).records C f))

  pub full_covered : (g h : List ℕ) → cap ≤ n → Covered g h ix (chart_of w).records → Covered g h ix (placed (capacity w) x (chart_of w) None).records
  full_covered g h l C = rw (placed_full (capacity w) x (chart_of w) (omega (arith, number w n p))) C

-- ---- either way
at_below : (n j : ℕ) (g : Option ℕ) → g ≡ Some j → Below n g → j < n
at_below n j g e b = go (subst (Below n) e b)
  where
    go : Below n (Some j) → j < n
    go (one h) = h

module _ (w : List ℕ) (x : Record) (o : Option ℕ) (p : o ≡ last_same x.item (chart_of w).records (length (chart_of w).records)) where
  pub found_inside : (j : ℕ) → o ≡ Some j → j < item_count w
  found_inside j e = let h = at_below (length (chart_of w).records) j o e (rw p (last_below x.item (chart_of w).records (length (chart_of w).records))) in omega (arith, counted w)

  module _ (keys : List ℕ) (f : Fits w) (e : Compact x) (m : ℕ) (is : m ≡ get_or w 1 0) (z : m ≡ 0) where
    mark_is : (chart_of w).mark ≡ get_or w 1 0
    unfolding chart_of
    mark_is = refl

    chart_added : chart_of (added_to w x) ≡ placed (capacity w) x (chart_of w) o
    unfolding added
    chart_added =
        ap chart_of (add_written w x f e) ∙ chart_of_written w (added (capacity w) x (chart_of w)) (grown_added w (chart_of w) (holds_own w f) x e).holds
        ∙ rw (eq-eqb (chart_of w).mark 0 (mark_is ∙ sym is ∙ z), ← p)

    by : (v ix ls : List ℕ) → v ≡ added_to w x → Indexed keys ix ls (placed (capacity w) x (chart_of w) o).records → (v ≡ added_to w x) × Indexed keys ix ls (chart_of v).records
    by v ix ls q I = (q, subst (λ (d : Chart). Indexed keys ix ls d.records) (sym (ap chart_of q ∙ chart_added)) I)

    add_again : (v ix ls : List ℕ) (j : ℕ) → o ≡ Some j → v ≡ improved_at w j x → Indexed keys ix ls (placed (capacity w) x (chart_of w) (Some j)).records
        → (v ≡ added_to w x) × Indexed keys ix ls (chart_of v).records
    add_again v ix ls j t q I = by v ix ls (add_found w x m (item_count w) o is z refl (p ∙ same_found x.item w) v j t q) (rw t I)

    add_behind : (v ix ls : List ℕ) → o ≡ None → v ≡ appended_to w (item_count w) x → Indexed keys ix ls (placed (capacity w) x (chart_of w) None).records
        → (v ≡ added_to w x) × Indexed keys ix ls (chart_of v).records
    add_behind v ix ls t q I = by v ix ls (add_new w x m (item_count w) o is z refl (p ∙ same_found x.item w) v t q) (rw t I)

    covered_by : (g h v ix : List ℕ) → v ≡ added_to w x → Covered g h ix (placed (capacity w) x (chart_of w) o).records → Covered g h ix (chart_of v).records
    covered_by g h v ix q C = subst (λ (d : Chart). Covered g h ix d.records) (sym (ap chart_of q ∙ chart_added)) C

    -- a record found again covers what it did
    again_covered : (v ix new : List ℕ) (j : ℕ) → o ≡ Some j → v ≡ added_to w x → DoubtKept ix new → (g h : List ℕ) → Covered g h ix (chart_of w).records → Covered g h new (chart_of v).records
    again_covered v ix new j t q k g h C = covered_by g h v new q (rw t (covered_again g h new (capacity w) x (chart_of w) j (covered_kept g h ix new (chart_of w).records k C)))

    behind_covered : (v ix : List ℕ) → o ≡ None → v ≡ added_to w x → (g h : List ℕ) → Covered g h ix (placed (capacity w) x (chart_of w) None).records → Covered g h ix (chart_of v).records
    behind_covered v ix t q g h C = covered_by g h v ix q (rw t C)

    -- ---- what `index::add` leaves
    pub adds_again : (v ix jx ls : List ℕ) (j : ℕ) → o ≡ Some j → v ≡ improved_at w j x → Indexed keys jx ls (placed (capacity w) x (chart_of w) (Some j)).records → DoubtKept ix jx
        → Adds keys w ix v jx ls x
    adds_again v ix jx ls j t q I k =
        let (chart, indexed) = add_again v jx ls j t q I in
        record { compact = e; chart = chart; indexed = indexed; covered = λ g h C f. again_covered v ix jx j t chart k g h C }

    pub adds_behind : (v ix jx ls : List ℕ) → o ≡ None → v ≡ appended_to w (item_count w) x → Indexed keys jx ls (placed (capacity w) x (chart_of w) None).records
        → ((g h : List ℕ) → Covered g h ix (chart_of w).records → (doubt_of ix ≡ 0 → Covering g h x.item) → Covered g h jx (placed (capacity w) x (chart_of w) None).records)
        → Adds keys w ix v jx ls x
    adds_behind v ix jx ls t q I c =
        let (chart, indexed) = add_behind v jx ls t q I in
        record { compact = e; chart = chart; indexed = indexed; covered = λ g h C f. behind_covered v jx t chart g h (c g h C f) }

-- ---- handled
module _ (w v : List ℕ) (j : ℕ) (f : Fits w) (l : j < item_count w) (q : v ≡ marked_at w j) where
  pub beside : chart_of v ≡ handled_in j (chart_of w)
  beside = ap chart_of (q ∙ handle_written w j f l) ∙ chart_of_written w (handled_in j (chart_of w)) (grown_handled w (chart_of w) (holds_own w f) j).holds

  pub handled_beside : (keys ix ls : List ℕ) → Indexed keys ix ls (set (chart_of w).records j (handled_now (record_in (chart_of w).records j))) → Indexed keys ix ls (chart_of v).records
  handled_beside keys ix ls I = subst (λ (d : Chart). Indexed keys ix ls d.records) (sym beside) I

  pub handled_covered : (g h ix new : List ℕ) → DoubtKept ix new → Covered g h ix (chart_of w).records → Covered g h new (chart_of v).records
  handled_covered g h ix new k C =
      subst (λ (d : Chart). Covered g h new d.records) (sym beside) (covered_handled g h new (chart_of w).records j (covered_kept g h ix new (chart_of w).records k C))
