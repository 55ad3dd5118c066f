-- A start of the chart is one of the agenda over the closure, and so is each step, while the chart is not found too
-- small.
use mathlib.Core.Path.{◌≡◌, refl, sym, ap, ◌∙◌, subst}
use mathlib.Core.Logic.{◌⊎◌, inl, inr}
use mathlib.Core.Bool.{Bool, true, false}
use mathlib.Core.List.Memᴰ.{append_left as in_left}
use mathlib.Core.List.Memᴰ.{append_right as in_right}
use mathlib.Core.List.Memᴰ.{cases_cons as in_cons}
use mathlib.Core.List.Memᴰ.{cast as in_cast}
use mathlib.Core.List.Memᴰ.{head as here}
use mathlib.Core.List.Memᴰ.{not-nil as in_nil}
use mathlib.Core.List.Memᴰ.{of_map}
use mathlib.Core.List.Memᴰ.{tail as there}
use mathlib.Core.List.{List, [], ◌∷◌, ◌++◌, map, map-append, Memᴰ as In}
use Prim.Native.Nat.{ℕ, zero, suc, ◌≤◌, ◌<◌}
use native.Mathlib.Decide.{dec_lt}
use native.Mathlib.Omega.{arith}
use lib.ListN.{length, set, length-set, length-map}
use lib.Seq.{get_or-set_same}
use Rattle.hrg.specs.Counts.{flag}
use Rattle.hrg.specs.Grammars.{Graph, Grammar}
use Rattle.hrg.specs.Deduction.{Reachable, by_axiom}
use Rattle.hrg.specs.Items.{Item, closure}
use Rattle.hrg.specs.WellFormed.{GrammarOk}
use Rattle.hrg.specs.Agenda.{Entry, State, Distinct, none, more, items_of, Made, axiom_made, unary_made, binary_made, Has, Start, Step, Closure}
use Rattle.hrg.proofs.Members.{distinct_left, distinct_append, distinct_le, map_apart}
use Rattle.hrg.proofs.AgendaInvariant.{Invariant, of_items, in_items, has_item, has_append, made_reached}
use Rattle.agenda.specs.Records.{record_of, item_of, is_handled}
use Rattle.agenda.specs.Consequences.{no_record, record_in, consequences, leaf_records}
use Rattle.agenda.specs.Steps.{handled_now, handled_count}
use Rattle.agenda.specs.declared.Record.{Record}
use Rattle.agenda.proofs.Records.{bare, Formed, bare_item, item_bare, item_of_lem, item_count_lem, reached_fits}
use Rattle.agenda.proofs.Consequences.{consequence_in, leaf_record_in}
use Rattle.agenda.proofs.Adding.{apart, New, AddsAll}
use Rattle.agenda.proofs.Growth.{SetAt, changed, other, set_at, fresh_test, Grew, From, Differ, all_grew, all_differ, all_from, all_found, all_count, count_set}
use Rattle.agenda.proofs.Spelling.{EntryOf, Shown, Shows, Stays, entry_stays, entry_at, entry_now}
use Rattle.agenda.proofs.Making.{Making, MadeAt, leaf_making, making, made_at}

-- ---- a list of entries by places
-- The entries of the places below n where the test fails.
record Row (n : ℕ) (t : ℕ → Bool) (P : ℕ → Entry Item → Type 0) : Type 0 where
  entries : List (Entry Item)
  entry : (k : ℕ) → k < n → t k ≡ false → (e : Entry Item) × In e entries × P k e
  place : (e : Entry Item) → In e entries → (k : ℕ) × (k < n) × (t k ≡ false) × P k e
  distinct : Distinct (items_of entries)

module _ (t : ℕ → Bool) (P : ℕ → Entry Item → Type 0) where
  -- two entries of one item are at one place
  abbrev Apart : ℕ → Type 0
  Apart n = (j k : ℕ) (d e : Entry Item) → j < n → k < n → P j d → P k e → d.item ≡ e.item → j ≡ k

  more_row : (n : ℕ) → (t n ≡ false → (e : Entry Item) × P n e) → Apart (suc n) → Row n t P → Row (suc n) t P
  more_row n f a r = go (t n) refl
    where
      place_before : (e : Entry Item) → In e r.entries → (k : ℕ) × (k < suc n) × (t k ≡ false) × P k e
      place_before e m = let o = r.place e m in (o.0, omega (arith, o.1), o.2, o.3)

      go : (b : Bool) → t n ≡ b → Row (suc n) t P
      go true q = record { entries = r.entries; entry = λ k l h. entry k (dec_lt k n) l h; place = place_before; distinct = r.distinct }
        where
          entry : (k : ℕ) → Dec (k < n) → k < suc n → t k ≡ false → (e : Entry Item) × In e r.entries × P k e
          entry k (yes l) m h = r.entry k l h
          entry k (no g) m h = let e : k ≡ n = omega arith in absurd (apart (subst (λ (i : ℕ). t i ≡ true) (sym e) q) h)
      go false q = record { entries = w.0 ∷ r.entries; entry = λ k l h. entry k (dec_lt k n) l h; place = λ e m. place e (in_cons m); distinct = more new r.distinct }
        where
          w : (e : Entry Item) × P n e
          w = f q

          entry : (k : ℕ) → Dec (k < n) → k < suc n → t k ≡ false → (e : Entry Item) × In e (w.0 ∷ r.entries) × P k e
          entry k (yes l) m h = let o = r.entry k l h in (o.0, there o.1, o.2)
          entry k (no g) m h = let e : n ≡ k = omega arith in (w.0, here refl, subst (λ (i : ℕ). P i w.0) e w.1)

          place : (e : Entry Item) → (e ≡ w.0) ⊎ In e r.entries → (k : ℕ) × (k < suc n) × (t k ≡ false) × P k e
          place e (inl i) = (n, omega arith, q, subst (λ (d : Entry Item). P n d) (sym i) w.1)
          place e (inr m) = place_before e m

          new : In w.0.item (items_of r.entries) → ⊥
          new m =
              let o = of_items r.entries m in
              let p = r.place o.0 o.1 in
              omega (arith, p.1, a p.0 n o.0 w.0 (omega (arith, p.1)) (omega arith) p.3 w.1 o.2)

  row : (n : ℕ) → ((k : ℕ) → k < n → t k ≡ false → (e : Entry Item) × P k e) → Apart n → Row n t P
  row zero f a = record { entries = []; entry = λ k l h. absurd (omega arith); place = λ e m. absurd (in_nil m); distinct = none }
  row (suc n) f a = more_row n (f n (omega arith)) a (row n (λ k l. f k (omega arith)) (λ j k d e l m. a j k d e (omega arith) (omega arith)))

-- ---- places of records
place_of_lem : {x : Record} {rs : List Record} → In x rs → (k : ℕ) × (k < length rs) × (record_in rs k ≡ x)
place_of_lem (here e) = (0, omega arith, sym e)
place_of_lem (there m) = let o = place_of_lem m in (suc o.0, omega (arith, o.1), o.2)

items_distinct : (f : Record → Item) (rs : List Record) → ((j k : ℕ) → j < length rs → k < length rs → f (record_in rs j) ≡ f (record_in rs k) → j ≡ k) → Distinct (map f rs)
items_distinct f [] d = none
items_distinct f (x ∷ rs) d = more new (items_distinct f rs (λ j k l m e. omega (arith, d (suc j) (suc k) (omega arith) (omega arith) e)))
  where
    new : In (f x) (map f rs) → ⊥
    new m =
        let o = of_map f rs m in
        let p = place_of_lem o.1 in
        omega (arith, d (suc p.0) 0 (omega (arith, p.1)) (omega arith) (ap f p.2 ∙ o.2))

module _ (G : Grammar) (H : Graph) where
  -- ---- records in the course of a step
  -- The handled records stand for hs, and each of the others for an entry of which P holds.
  pub record Base (hs : List (Entry Item)) (P : Entry Item → Type 0) (rs : List Record) : Type 0 where
    pub formed : (k : ℕ) → k < length rs → Formed G (record_in rs k)
    pub differ : Differ rs
    pub handled : Shown G H rs true hs
    pub waiting : (k : ℕ) → k < length rs → is_handled (record_in rs k) ≡ false → (e : Entry Item) × P e × EntryOf G H rs (record_in rs k) e

  -- records of one item are at one place
  pub one_place : (rs : List Record) → ((k : ℕ) → k < length rs → Formed G (record_in rs k)) → Differ rs → (j k : ℕ) → j < length rs → k < length rs → item_of G (record_in rs j).item ≡ item_of G (record_in rs k).item → j ≡ k
  one_place rs f d j k l m e = d j k l m (item_bare G (record_in rs j) (record_in rs k) (f j l) (f k m) e)

  module _ {cap : ℕ} {hs : List (Entry Item)} {P : Entry Item → Type 0} {xs rs ts : List Record} (b : Base hs P rs) (makes : (x : Record) → In x xs → Making G H rs hs x) (s : AddsAll cap xs rs ts) where
    grew : Grew rs ts
    grew = all_grew s

    stays : Stays rs ts
    stays k l h = (omega (arith, grew.longer), grew.stays k l h)

    came : (k : ℕ) → k < length ts → From xs rs ts k
    came k l = all_from s (λ x m. (makes x m).fresh) k l

    formed : (k : ℕ) → From xs rs ts k → Formed G (record_in ts k)
    formed k (inl o) = subst (λ (x : Record). Formed G x) (sym o.1) (b.formed k o.0)
    formed k (inr m) = (makes _ m).formed

    handled_entry : (k : ℕ) → From xs rs ts k → is_handled (record_in ts k) ≡ true → (e : Entry Item) × In e hs × EntryOf G H ts (record_in ts k) e
    handled_entry k (inl o) h =
        let p = b.handled.entry k o.0 (sym (ap is_handled o.1) ∙ h) in
        (p.0, p.1, entry_at stays k o.1 p.2)
    handled_entry k (inr m) h = absurd (apart h (fresh_test (record_in ts k) (makes (record_in ts k) m).fresh))

    handled_place : (e : Entry Item) → In e hs → (k : ℕ) × (k < length ts) × (is_handled (record_in ts k) ≡ true) × EntryOf G H ts (record_in ts k) e
    handled_place e m =
        let p = b.handled.place e m in
        let q = stays p.0 p.1 p.2 in
        (p.0, q.0, ap is_handled q.1 ∙ p.2, entry_at stays p.0 q.1 p.3)

    waiting : (k : ℕ) → From xs rs ts k → is_handled (record_in ts k) ≡ false → (e : Entry Item) × (P e ⊎ Made (closure G H) hs e) × EntryOf G H ts (record_in ts k) e
    waiting k (inl o) h =
        let p = b.waiting k o.0 (sym (ap is_handled o.1) ∙ h) in
        (p.0, inl p.1, entry_at stays k o.1 p.2)
    waiting k (inr m) h = let p = makes _ m in (p.entry, inr p.made, entry_stays stays p.shows)

    pub grown_base : Base hs (λ e. P e ⊎ Made (closure G H) hs e) ts
    grown_base =
        record {
          formed = λ k l. formed k (came k l);
          differ = all_differ s b.differ;
          handled = record { entry = λ k l h. handled_entry k (came k l) h; place = handled_place };
          waiting = λ k l h. waiting k (came k l) h;
        }

  -- ---- the state that such records stand for
  pub record Stood (hs : List (Entry Item)) (P : Entry Item → Type 0) (rs : List Record) : Type 0 where
    pub ws : List (Entry Item)
    pub shown : Shown G H rs false ws
    pub origin : (e : Entry Item) → In e ws → P e
    pub distinct : Distinct (items_of (hs ++ ws))

  module _ {hs : List (Entry Item)} {P : Entry Item → Type 0} {rs : List Record} (b : Base hs P rs) (d : Distinct (items_of hs)) where
    abbrev Here : ℕ → Entry Item → Type 0
    Here k e = P e × EntryOf G H rs (record_in rs k) e

    listed : Row (length rs) (λ k. is_handled (record_in rs k)) Here
    listed =
        row (λ k. is_handled (record_in rs k)) Here (length rs) (λ k l h. let o = b.waiting k l h in (o.0, (o.1, o.2)))
        (λ j k x y l m p q e. one_place rs b.formed b.differ j k l m (p.1.item ∙ e ∙ sym q.1.item))

    not_both : (i : Item) → In i (items_of hs) → In i (items_of listed.entries) → ⊥
    not_both i m n =
        let x = of_items hs m in
        let y = of_items listed.entries n in
        let p = b.handled.place x.0 x.1 in
        let q = listed.place y.0 y.1 in
        let e = one_place rs b.formed b.differ p.0 q.0 p.1 q.1 (p.3.item ∙ x.2 ∙ sym y.2 ∙ sym q.3.1.item) in
        apart (subst (λ (k : ℕ). is_handled (record_in rs k) ≡ true) e p.2) q.2

    pub stood : Stood hs P rs
    stood =
        record {
          ws = listed.entries;
          shown = record { entry = λ k l h. let o = listed.entry k l h in (o.0, o.1, o.2.1); place = λ e m. let o = listed.place e m in (o.0, o.1, o.2, o.3.1) };
          origin = λ e m. (listed.place e m).3.0;
          distinct = subst (λ (l : List Item). Distinct l) (sym (map-append (λ (e : Entry Item). e.item) hs listed.entries)) (distinct_append (items_of hs) d listed.distinct not_both);
        }

  -- a record found again or added stands for a handled entry, or one that waits with no larger count
  module _ {hs : List (Entry Item)} {P : Entry Item → Type 0} {rs : List Record} (b : Base hs P rs) (t : Stood hs P rs) where
    pub has_entry : (i : Item) (n k : ℕ) → k < length rs → item_of G (record_in rs k).item ≡ i → is_handled (record_in rs k) ≡ false → (record_in rs k).item.count ≤ n → Has t.ws i n
    has_entry i n k l e h m = let o = t.shown.entry k l h in record { entry = o.0; inside = o.1; item = sym o.2.item ∙ e; count = omega (arith, o.2.count) }

    pub found_entry : (i : Item) (n k : ℕ) → k < length rs → item_of G (record_in rs k).item ≡ i → (is_handled (record_in rs k) ≡ true) ⊎ ((record_in rs k).item.count ≤ n) → In i (items_of hs) ⊎ Has t.ws i n
    found_entry i n k l e c = go (is_handled (record_in rs k)) refl c
      where
        go : (h : Bool) → is_handled (record_in rs k) ≡ h → (is_handled (record_in rs k) ≡ true) ⊎ ((record_in rs k).item.count ≤ n) → In i (items_of hs) ⊎ Has t.ws i n
        go true q c = let o = b.handled.entry k l q in inl (in_cast (sym e ∙ o.2.item) (in_items o.1))
        go false q (inl h) = absurd (apart h q)
        go false q (inr m) = inr (has_entry i n k l e q m)

  -- ---- more items than records
  module _ {hs : List (Entry Item)} {P : Entry Item → Type 0} {rs : List Record} (b : Base hs P rs) (reached : (e : Entry Item) → In e hs → Reachable (closure G H) e.item e.count)
      (others : (e : Entry Item) → P e → Reachable (closure G H) e.item e.count) where
    item_reached : (k : ℕ) → k < length rs → (n : ℕ) × Reachable (closure G H) (item_of G (record_in rs k).item) n
    item_reached k l = go (is_handled (record_in rs k)) refl
      where
        go : (h : Bool) → is_handled (record_in rs k) ≡ h → (n : ℕ) × Reachable (closure G H) (item_of G (record_in rs k).item) n
        go true q = let o = b.handled.entry k l q in (o.0.count, rw o.2.item (reached o.0 o.1))
        go false q = let o = b.waiting k l q in (o.0.count, rw o.2.item (others o.0 o.1))

    -- with a reachable item that is none of theirs, the closure has more items than there are records
    too_many : (x : Record) → Formed G x → (n : ℕ) → Reachable (closure G H) (item_of G x.item) n → New x rs → (is : List Item) → Closure (closure G H) is → length rs < length is
    too_many x f n r w is c = omega (arith, distinct_le all_distinct inside, length-map rs (λ (y : Record). item_of G y.item))
      where
        differs : In (item_of G x.item) (map (λ (y : Record). item_of G y.item) rs) → ⊥
        differs m =
            let o = of_map (λ (y : Record). item_of G y.item) rs m in
            let p = place_of_lem o.1 in
            w p.0 p.1 (item_bare G x (record_in rs p.0) f (b.formed p.0 p.1) (sym (ap (λ (y : Record). item_of G y.item) p.2 ∙ o.2)))

        all_distinct : Distinct (item_of G x.item ∷ map (λ (y : Record). item_of G y.item) rs)
        all_distinct = more differs (items_distinct (λ (y : Record). item_of G y.item) rs (one_place rs b.formed b.differ))

        inside : (i : Item) → In i (item_of G x.item ∷ map (λ (y : Record). item_of G y.item) rs) → In i is
        inside i m = go (in_cons m)
          where
            go : (i ≡ item_of G x.item) ⊎ In i (map (λ (y : Record). item_of G y.item) rs) → In i is
            go (inl e) = in_cast e (c.present (item_of G x.item) n r)
            go (inr m) =
                let o = of_map (λ (y : Record). item_of G y.item) rs m in
                let p = place_of_lem o.1 in
                let q = item_reached p.0 p.1 in
                in_cast (sym (ap (λ (y : Record). item_of G y.item) p.2 ∙ o.2)) (c.present _ q.0 q.1)

  -- ---- the start
  no_records : Base [] (λ e. Made (closure G H) [] e) []
  no_records =
      record {
        formed = λ k l. absurd (omega arith);
        differ = λ j k l. absurd (omega arith);
        handled = record { entry = λ k l. absurd (omega arith); place = λ e m. absurd (in_nil m) };
        waiting = λ k l. absurd (omega arith);
      }

  module _ (ok : GrammarOk G) {cap : ℕ} {ts : List Record} (s : AddsAll cap (leaf_records G) [] ts) where
    start_base : Base [] (λ e. Made (closure G H) [] e ⊎ Made (closure G H) [] e) ts
    start_base = grown_base no_records (leaf_making G H ok) s

    leaves_wait : Stood [] (λ e. Made (closure G H) [] e ⊎ Made (closure G H) [] e) ts
    leaves_wait = stood start_base none

    start_state : State Item
    start_state = record { handled = []; waiting = leaves_wait.ws }

    start_present : {e : Entry Item} → Made (closure G H) [] e → Has leaves_wait.ws e.item e.count
    start_present (axiom_made {i = i} x) =
        let f = all_found s (record_of i 0 0 0) (leaf_record_in G H x) in
        let e = sym (bare_item G (record_of i 0 0 0) (record_in ts f.at) f.same) ∙ item_of_lem G i 0 (reached_fits G H ok (by_axiom x)) in
        go (found_entry start_base leaves_wait i 0 f.at f.known e (less f.less))
      where
        less : {n : ℕ} {b : Bool} → (b ≡ true) ⊎ (n ≤ (record_of i 0 0 0).item.count) → (b ≡ true) ⊎ (n ≤ 0)
        less (inl h) = inl h
        less (inr l) = inr (omega (arith, item_count_lem i 0))

        go : In i [] ⊎ Has leaves_wait.ws i 0 → Has leaves_wait.ws i 0
        go (inl m) = absurd (in_nil m)
        go (inr h) = h
    start_present (unary_made m u) = absurd (in_nil m)
    start_present (binary_made m n r) = absurd (in_nil m)

    start_starts : Start (closure G H) start_state
    unfolding start_state
    start_starts =
        record {
          handled = refl;
          origin = λ e m. either (leaves_wait.origin e m);
          present = λ e m. start_present m;
          distinct = leaves_wait.distinct;
        }
      where
        either : {A : Type 0} → A ⊎ A → A
        either (inl a) = a
        either (inr a) = a

    pub start_shown : (s : State Item) × Start (closure G H) s × Shows G H ts s
    unfolding start_state handled_count
    start_shown = (start_state, start_starts, record { formed = start_base.formed; differ = start_base.differ; handled = start_base.handled; waiting = leaves_wait.shown; steps = all_count s (λ x m. (leaf_making G H ok x m).fresh) })

  pub start_full : (ok : GrammarOk G) {cap : ℕ} {ys ts : List Record} (x : Record) → ((y : Record) → In y ys → In y (leaf_records G)) → In x (leaf_records G) → AddsAll cap ys [] ts
      → New x ts → (is : List Item) → Closure (closure G H) is → length ts < length is
  start_full ok x sub m a n is c =
      let o = leaf_making G H ok x m in
      too_many (grown_base no_records (λ y k. leaf_making G H ok y (sub y k)) a) (λ e k. absurd (in_nil k)) (λ e p. first e p) x o.formed o.entry.count
      (subst (λ (i : Item). Reachable (closure G H) i o.entry.count) (sym o.shows.item) (made_reached (λ e k. absurd (in_nil k)) o.made)) n is c
    where
      first : (e : Entry Item) → Made (closure G H) [] e ⊎ Made (closure G H) [] e → Reachable (closure G H) e.item e.count
      first e (inl m) = made_reached (λ a k. absurd (in_nil k)) m
      first e (inr m) = made_reached (λ a k. absurd (in_nil k)) m

  -- ---- a step
  module _ (ok : GrammarOk G) {rs : List Record} {s : State Item} (shows : Shows G H rs s) (v : Invariant (closure G H) s)
      (small : (e : Entry Item) → In e (s.handled ++ s.waiting) → e.count ≤ 4097) (j : ℕ) (l : j < length rs) (w : is_handled (record_in rs j) ≡ false)
      (least : (k : ℕ) → k < length rs → is_handled (record_in rs k) ≡ false → (record_in rs j).item.count ≤ (record_in rs k).item.count) where
    abbrev x₀ : Record
    x₀ = record_in rs j

    -- the records when the one at j has become handled
    abbrev now_handled_lem : List Record
    now_handled_lem = set rs j (handled_now x₀)

    the : (e : Entry Item) × In e s.waiting × EntryOf G H rs x₀ e
    the = shows.waiting.entry j l w

    abbrev hs : List (Entry Item)
    hs = the.0 ∷ s.handled

    at_place : (k : ℕ) → SetAt rs j (handled_now x₀) k
    at_place k = set_at rs j (handled_now x₀) k l

    in_now : (k : ℕ) → k < length rs → k < length now_handled_lem
    in_now k m = omega (arith, length-set rs j (handled_now x₀))

    in_old : (k : ℕ) → k < length now_handled_lem → k < length rs
    in_old k m = omega (arith, length-set rs j (handled_now x₀))

    now_stays : Stays rs now_handled_lem
    now_stays k m h = go (at_place k)
      where
        go : SetAt rs j (handled_now x₀) k → (k < length now_handled_lem) × (record_in now_handled_lem k ≡ record_in rs k)
        go (changed q p) = absurd (apart (subst (λ (i : ℕ). is_handled (record_in rs i) ≡ true) q h) w)
        go (other n p) = (in_now k m, p)

    now_at : record_in now_handled_lem j ≡ handled_now x₀
    now_at = get_or-set_same rs j (handled_now x₀) no_record l

    now_bare : (k : ℕ) → SetAt rs j (handled_now x₀) k → bare (record_in now_handled_lem k) ≡ bare (record_in rs k)
    now_bare k (changed q p) = ap bare p ∙ ap (λ (i : ℕ). bare (record_in rs i)) (sym q)
    now_bare k (other n p) = ap bare p

    now_formed : (k : ℕ) → k < length rs → SetAt rs j (handled_now x₀) k → Formed G (record_in now_handled_lem k)
    now_formed k m (changed q p) = subst (λ (x : Record). Formed G x) (sym p) (shows.formed j l)
    now_formed k m (other n p) = subst (λ (x : Record). Formed G x) (sym p) (shows.formed k m)

    now_entry : EntryOf G H now_handled_lem (handled_now x₀) the.0
    now_entry = entry_now G H (entry_stays now_stays the.2)

    now_handled : (k : ℕ) → k < length rs → SetAt rs j (handled_now x₀) k → is_handled (record_in now_handled_lem k) ≡ true → (e : Entry Item) × In e hs × EntryOf G H now_handled_lem (record_in now_handled_lem k) e
    now_handled k m (changed q p) h = (the.0, here refl, subst (λ (x : Record). EntryOf G H now_handled_lem x the.0) (sym p) now_entry)
    now_handled k m (other n p) h =
        let o = shows.handled.entry k m (sym (ap is_handled p) ∙ h) in
        (o.0, there o.1, entry_at now_stays k p o.2)

    now_place : (e : Entry Item) → (e ≡ the.0) ⊎ In e s.handled → (k : ℕ) × (k < length now_handled_lem) × (is_handled (record_in now_handled_lem k) ≡ true) × EntryOf G H now_handled_lem (record_in now_handled_lem k) e
    now_place e (inl q) =
        (j, in_now j l, ap is_handled now_at, subst (λ (x : Record). EntryOf G H now_handled_lem x e) (sym now_at) (subst (λ (d : Entry Item). EntryOf G H now_handled_lem (handled_now x₀) d) (sym q) now_entry))
    now_place e (inr m) =
        let o = shows.handled.place e m in
        let q = now_stays o.0 o.1 o.2 in
        (o.0, q.0, ap is_handled q.1 ∙ o.2, entry_at now_stays o.0 q.1 o.3)

    now_waiting : (k : ℕ) → k < length rs → SetAt rs j (handled_now x₀) k → is_handled (record_in now_handled_lem k) ≡ false → (e : Entry Item) × In e s.waiting × EntryOf G H now_handled_lem (record_in now_handled_lem k) e
    now_waiting k m (changed q p) h = absurd (apart (ap is_handled p) h)
    now_waiting k m (other n p) h =
        let o = shows.waiting.entry k m (sym (ap is_handled p) ∙ h) in
        (o.0, o.1, entry_at now_stays k p o.2)

    now_base : Base hs (λ e. In e s.waiting) now_handled_lem
    now_base =
        record {
          formed = λ k m. now_formed k (in_old k m) (at_place k);
          differ = λ i k m n q. shows.differ i k (in_old i m) (in_old k n) (sym (now_bare i (at_place i)) ∙ q ∙ now_bare k (at_place k));
          handled = record { entry = λ k m h. now_handled k (in_old k m) (at_place k) h; place = λ e m. now_place e (in_cons m) };
          waiting = λ k m h. now_waiting k (in_old k m) (at_place k) h;
        }

    was_present : (e : Entry Item) → (e ≡ the.0) ⊎ In e s.handled → In e (s.handled ++ s.waiting)
    was_present e (inl q) = in_right s.handled (in_cast q the.1)
    was_present e (inr m) = in_left s.waiting m

    now_reached : (e : Entry Item) → In e hs → Reachable (closure G H) e.item e.count
    now_reached e m = v.reached e (was_present e (in_cons m))

    now_small : (k : ℕ) → k < length now_handled_lem → is_handled (record_in now_handled_lem k) ≡ true → (record_in now_handled_lem k).item.count ≤ 4097
    now_small k m h = let o = now_base.handled.entry k m h in omega (arith, o.2.count, small o.0 (was_present o.0 (in_cons o.1)))

    makes : (x : Record) → In x (consequences G H now_handled_lem j) → Making G H now_handled_lem hs x
    makes = making G H ok now_base.handled now_reached now_small j (in_now j l) (ap is_handled now_at)

    -- also where only some of them are added
    step_base : {cap : ℕ} {ys ts : List Record} → ((y : Record) → In y ys → In y (consequences G H now_handled_lem j)) → AddsAll cap ys now_handled_lem ts
        → Base hs (λ e. In e s.waiting ⊎ Made (closure G H) hs e) ts
    step_base sub a = grown_base now_base (λ y m. makes y (sub y m)) a

    hs_distinct : Distinct (items_of hs)
    hs_distinct =
        more (λ m. let o = of_items s.handled m in map_apart (λ (e : Entry Item). e.item) v.distinct o.1 the.1 o.2)
        (distinct_left (items_of s.handled) (items_of s.waiting) (subst (λ (l : List Item). Distinct l) (map-append (λ (e : Entry Item). e.item) s.handled s.waiting) v.distinct))

    module _ {cap : ℕ} {ts : List Record} (a : AddsAll cap (consequences G H now_handled_lem j) now_handled_lem ts) where
      base : Base hs (λ e. In e s.waiting ⊎ Made (closure G H) hs e) ts
      base = step_base (λ y m. m) a

      after : Stood hs (λ e. In e s.waiting ⊎ Made (closure G H) hs e) ts
      after = stood base hs_distinct

      step_state : State Item
      step_state = record { handled = hs; waiting = after.ws }

      keeps : (e : Entry Item) → In e s.waiting → (e.item ≡ the.0.item) ⊎ Has after.ws e.item e.count
      keeps e m = go (at_place o.0)
        where
          o : (k : ℕ) × (k < length rs) × (is_handled (record_in rs k) ≡ false) × EntryOf G H rs (record_in rs k) e
          o = shows.waiting.place e m

          g : Grew now_handled_lem ts
          g = all_grew a

          go : SetAt rs j (handled_now x₀) o.0 → (e.item ≡ the.0.item) ⊎ Has after.ws e.item e.count
          go (changed q p) = inl (sym o.3.item ∙ ap (λ (k : ℕ). item_of G (record_in rs k).item) q ∙ the.2.item)
          go (other n p) =
              let k = o.0 in
              let i : k < length now_handled_lem = in_now k o.1 in
              let same = bare_item G (record_in ts k) (record_in now_handled_lem k) (g.item k i) ∙ ap (λ (x : Record). item_of G x.item) p ∙ o.3.item in
              inr (has_entry base after e.item e.count k (omega (arith, g.longer)) same (g.mark k i ∙ ap is_handled p ∙ o.2) (omega (arith, g.count k i, ap (λ (x : Record). x.item.count) p, o.3.count)))

      adds : (e : Entry Item) → Made (closure G H) hs e → In e.item (items_of hs) ⊎ Has after.ws e.item e.count
      adds e m = go (made_at G H ok now_base.handled now_reached now_small j (in_now j l) (ap is_handled now_at) the.0 s.handled (subst (λ (x : Record). EntryOf G H now_handled_lem x the.0) (sym now_at) now_entry) (λ d n. in_cons n) m)
        where
          kept : (d : Entry Item) → d.item ≡ e.item → d.count ≤ e.count → (d.item ≡ the.0.item) ⊎ Has after.ws d.item d.count → In e.item (items_of hs) ⊎ Has after.ws e.item e.count
          kept d q c (inl i) = inl (here (sym q ∙ i))
          kept d q c (inr h) = inr (record { entry = h.entry; inside = h.inside; item = h.item ∙ q; count = omega (arith, h.count) })

          old : Has s.handled e.item e.count ⊎ Has s.waiting e.item e.count → In e.item (items_of hs) ⊎ Has after.ws e.item e.count
          old (inl h) = inl (there (has_item h))
          old (inr h) = kept h.entry h.item h.count (keeps h.entry h.inside)

          go : MadeAt G H now_handled_lem j e ⊎ Made (closure G H) s.handled e → In e.item (items_of hs) ⊎ Has after.ws e.item e.count
          go (inr n) = old (has_append s.handled (v.closed e n))
          go (inl n) =
              let x = record_of e.item n.count n.first n.second in
              let c = consequence_in G H now_handled_lem j n.by in
              let f = all_found a x c in
              let same = sym (bare_item G x (record_in ts f.at) f.same) ∙ item_of_lem G e.item n.count (reached_fits G H ok (made_reached now_reached m)) in
              found_entry base after e.item e.count f.at f.known same (less (item_count_lem e.item n.count ∙ n.exact) f.less)
            where
              less : {n k : ℕ} {b : Bool} {u : ℕ} → k ≡ u → (b ≡ true) ⊎ (n ≤ k) → (b ≡ true) ⊎ (n ≤ u)
              less q (inl h) = inl h
              less q (inr i) = inr (omega arith)

      step_steps : Step (closure G H) s step_state
      unfolding step_state
      step_steps =
          record {
            chosen = the.0;
            waits = the.1;
            least = λ e m. let o = shows.waiting.place e m in omega (arith, least o.0 o.1 o.2, the.2.count, o.3.count);
            handles = refl;
            origin = after.origin;
            keeps = keeps;
            adds = adds;
            distinct = after.distinct;
          }

      steps : handled_count ts ≡ suc (length s.handled)
      steps =
          omega (arith, all_count a (λ x m. (makes x m).fresh), count_set rs j (handled_now x₀) l, ap flag w, shows.steps)

      pub step_shown : (t : State Item) × Step (closure G H) s t × Shows G H ts t
      unfolding step_state
      step_shown = (step_state, step_steps, record { formed = base.formed; differ = base.differ; handled = base.handled; waiting = after.shown; steps = steps })

    -- where one item more was found than a chart of so many records holds
    pub step_full : {cap : ℕ} {ys ts : List Record} (x : Record) → ((y : Record) → In y ys → In y (consequences G H now_handled_lem j)) → In x (consequences G H now_handled_lem j) → AddsAll cap ys now_handled_lem ts
        → New x ts → (is : List Item) → Closure (closure G H) is → length ts < length is
    step_full x sub m a n is c =
        let o = makes x m in
        too_many (step_base sub a) now_reached (λ e p. from_either e p) x o.formed o.entry.count (subst (λ (i : Item). Reachable (closure G H) i o.entry.count) (sym o.shows.item) (made_reached now_reached o.made)) n is c
      where
        from_either : (e : Entry Item) → In e s.waiting ⊎ Made (closure G H) hs e → Reachable (closure G H) e.item e.count
        from_either e (inl m) = v.reached e (in_right s.handled m)
        from_either e (inr m) = made_reached now_reached m
