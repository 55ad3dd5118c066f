-- A record and its four words, there and back.
use Prim.Native.Nat.{ℕ, zero, suc, ◌+◌, ◌*◌, ◌/◌, ◌%◌, ◌<◌}
use mathlib.Core.Path.{◌≡◌, refl, sym, ap, ◌∙◌}
use mathlib.Core.Bool.{Bool, true, false, ◌&&◌}
use mathlib.Core.List.{List, [], ◌∷◌}
use native.Mathlib.Omega.{arith}
use lib.Arith.{digits_div, digits_mod}
use lib.Dec.{eqb, eqb→eq}
use lib.ListN.{get_or}
use borrow.Author.Tests.{eq-eqb}
use Rattle.places.specs.Words.{word_of, places_of, Readable, Packed}
use Rattle.places.specs.Laws.{places_word, word_places, places_readable}
use Rattle.agenda.specs.declared.ChartItem.{ChartItem}
use Rattle.agenda.specs.declared.Record.{Record}
use Rattle.hrg.specs.Counts.{tabulate}
use Rattle.hrg.specs.Trees.{at, padded}
use Rattle.hrg.specs.Items.{active, passive}
use Rattle.agenda.specs.Records.{chart_item, new_record, same_chart_item}
use Rattle.agenda.specs.Steps.{improved, handled_now, with_count}
use Rattle.hrg.proofs.ClosureRun.{of_and}
use Rattle.agenda.proofs.Records.{to_test, same_bare, bare_same}
use Rattle.records.specs.Words.{word_at, item_from, record_from, record_at, item_head, head_of, tail_of, words_of, CompactItem, Compact, Headed}

-- ---- from the words and back
head_digits : (h : ℕ) → ((h / 65536 / 256 / 256 * 256 + h / 65536 / 256 % 256) * 256 + h / 65536 % 256) * 65536 + h % 65536 ≡ h
head_digits h = omega arith

tail_digits : (t : ℕ) → (t / 65536 / 65536 * 65536 + t / 65536 % 65536) * 65536 + t % 65536 ≡ t
tail_digits t = omega arith

module _ (h e m t : ℕ) where
  words_from : words_of (record_from h e m t) ≡ h ∷ e ∷ m ∷ t ∷ []
  unfolding words_of head_of tail_of record_from item_from
  words_from = rw (head_digits h, word_places m, tail_digits t)

  -- with another's count and partners, one word changes
  improved_from : (x : Record) → words_of (improved (record_from h e m t) x) ≡ h ∷ e ∷ m ∷ tail_of x ∷ []
  unfolding words_of head_of tail_of record_from item_from
  improved_from x = rw (head_digits h, word_places m)

  -- and one where it becomes handled
  handled_from : words_of (handled_now (record_from h e m t)) ≡ (h % 4294967296 + 4294967296) ∷ e ∷ m ∷ t ∷ []
  unfolding words_of head_of tail_of record_from item_from
  handled_from = rw (head_handled, word_places m, tail_digits t)
    where
      head_handled : ((1 * 256 + h / 65536 / 256 % 256) * 256 + h / 65536 % 256) * 65536 + h % 65536 ≡ h % 4294967296 + 4294967296
      head_handled = omega arith

-- a record that is read has the words that it was read from
module _ (w : List ℕ) (j : ℕ) where
  pub words_again : words_of (record_at w j) ≡ word_at w j 0 ∷ word_at w j 1 ∷ word_at w j 2 ∷ word_at w j 3 ∷ []
  unfolding record_at
  words_again = words_from (word_at w j 0) (word_at w j 1) (word_at w j 2) (word_at w j 3)

  pub words_improved : (x : Record) → words_of (improved (record_at w j) x) ≡ word_at w j 0 ∷ word_at w j 1 ∷ word_at w j 2 ∷ tail_of x ∷ []
  unfolding record_at
  words_improved x = improved_from (word_at w j 0) (word_at w j 1) (word_at w j 2) (word_at w j 3) x

  pub words_handled : words_of (handled_now (record_at w j)) ≡ (word_at w j 0 % 4294967296 + 4294967296) ∷ word_at w j 1 ∷ word_at w j 2 ∷ word_at w j 3 ∷ []
  unfolding record_at
  words_handled = handled_from (word_at w j 0) (word_at w j 1) (word_at w j 2) (word_at w j 3)

-- .. and is read again from them
from_compact : (h e m t : ℕ) → Compact (record_from h e m t)
unfolding record_from item_from
from_compact h e m t = record {
  item = record { kind = omega arith; of = omega arith; plan = omega arith; places = places_readable m };
  first = omega arith;
  second = omega arith;
}

pub record_compact : (w : List ℕ) (j : ℕ) → Compact (record_at w j)
unfolding record_at
record_compact w j = from_compact (word_at w j 0) (word_at w j 1) (word_at w j 2) (word_at w j 3)

-- ---- from the record and back
module _ (x : Record) (p : Compact x) where
  above_kind : head_of x / 65536 ≡ (x.handled * 256 + x.item.plan) * 256 + x.item.of
  unfolding head_of
  above_kind = digits_div ((x.handled * 256 + x.item.plan) * 256 + x.item.of) p.item.kind

  above_of : head_of x / 65536 / 256 ≡ x.handled * 256 + x.item.plan
  above_of = ap (λ n. n / 256) above_kind ∙ digits_div (x.handled * 256 + x.item.plan) p.item.of

  kind_back : head_of x % 65536 ≡ x.item.kind
  unfolding head_of
  kind_back = digits_mod ((x.handled * 256 + x.item.plan) * 256 + x.item.of) p.item.kind

  of_back : head_of x / 65536 % 256 ≡ x.item.of
  of_back = ap (λ n. n % 256) above_kind ∙ digits_mod (x.handled * 256 + x.item.plan) p.item.of

  plan_back : head_of x / 65536 / 256 % 256 ≡ x.item.plan
  plan_back = ap (λ n. n % 256) above_of ∙ digits_mod x.handled p.item.plan

  handled_back : head_of x / 65536 / 256 / 256 ≡ x.handled
  handled_back = ap (λ n. n / 256) above_of ∙ digits_div x.handled p.item.plan

  above_first : tail_of x / 65536 ≡ x.item.count * 65536 + x.second
  unfolding tail_of
  above_first = digits_div (x.item.count * 65536 + x.second) p.first

  first_back : tail_of x % 65536 ≡ x.first
  unfolding tail_of
  first_back = digits_mod (x.item.count * 65536 + x.second) p.first

  second_back : tail_of x / 65536 % 65536 ≡ x.second
  second_back = ap (λ n. n % 65536) above_first ∙ digits_mod x.item.count p.second

  count_back : tail_of x / 65536 / 65536 ≡ x.item.count
  count_back = ap (λ n. n / 65536) above_first ∙ digits_div x.item.count p.second

  -- a compact record is read again from its words
  pub record_back : record_from (head_of x) x.item.edges (word_of x.item.nodes) (tail_of x) ≡ x
  unfolding record_from item_from
  record_back = rw (kind_back, of_back, plan_back, count_back, places_word x.item.nodes p.item.places, handled_back, first_back, second_back)

  -- words that have its own from a place on have it there
  pub record_read : (w : List ℕ) (j : ℕ) → ((k : ℕ) → k < 4 → word_at w j k ≡ get_or (words_of x) k 0) → record_at w j ≡ x
  unfolding record_at words_of
  record_read w j e = rw (e 0 (omega arith), e 1 (omega arith), e 2 (omega arith), e 3 (omega arith)) record_back

-- the first word of a record, where that of its item is at hand
pub head_by : (x : Record) {r : ℕ} → Headed x.item r → x.handled * 4294967296 + r ≡ head_of x
unfolding head_of item_head
head_by x k = omega (arith, k.value)

-- what changes of a record leaves it compact
pub compact_count : {x : ChartItem} (n : ℕ) → CompactItem x → CompactItem (with_count x n)
compact_count n p = record { kind = p.kind; of = p.of; plan = p.plan; places = p.places }

pub compact_improved : {x y : Record} → Compact y → Compact x → Compact (improved y x)
compact_improved {x} p q = record { item = compact_count x.item.count p.item; first = q.first; second = q.second }

pub compact_handled : {x : Record} → Compact x → Compact (handled_now x)
compact_handled p = record { item = p.item; first = p.first; second = p.second }

-- a new record of an item is compact where the item is, and so is that of an item of the closure by its numbers
pub compact_new : {x : ChartItem} {a b : ℕ} → CompactItem x → a < 65536 → b < 65536 → Compact (new_record x a b)
compact_new p f g = record { item = p; first = f; second = g }

get_d_tabulate : (n : ℕ) (f : ℕ → ℕ) (k : ℕ) → k < n → get_or (tabulate n f) k 0 ≡ f k
unfolding tabulate
get_d_tabulate zero f k h = absurd (omega arith)
get_d_tabulate (suc n) f zero h = refl
get_d_tabulate (suc n) f (suc k) h = get_d_tabulate n (λ i. f (suc i)) k (omega arith)

padded_readable : (l : List ℕ) → ((i : ℕ) → i < 7 → at l i < 256) → Readable (padded l)
unfolding padded tabulate
padded_readable l h = record { size = refl; bytes = λ i b. rw (get_d_tabulate 8 (λ k. at l k) i (omega arith)) (h i b) }

module _ (f : List ℕ) (h : (i : ℕ) → i < 7 → at f i < 256) (n : ℕ) where
  pub compact_active : {r p m : ℕ} → r < 256 → p < 256 → CompactItem (chart_item (active r p m f) n)
  compact_active a b = record { kind = omega arith; of = a; plan = b; places = padded_readable f h }

  pub compact_passive : {s m : ℕ} → s < 256 → CompactItem (chart_item (passive s m f) n)
  compact_passive a = record { kind = omega arith; of = a; plan = omega arith; places = padded_readable f h }

-- ---- equal items by whole words
module _ (x : ChartItem) (h e m t v w : ℕ) (k : Headed x v) (p : Packed x.nodes w) where
  -- two heads are equal exactly if what stands in them is
  same_head : v ≡ h % 4294967296 → (x.kind ≡ h % 65536) × (x.of ≡ h / 65536 % 256) × (x.plan ≡ h / 65536 / 256 % 256)
  unfolding item_head
  same_head q = (omega (arith, k.value, k.compact.kind), omega (arith, k.value, k.compact.kind, k.compact.of), omega (arith, k.value, k.compact.kind, k.compact.of, k.compact.plan))

  head_same : x.kind ≡ h % 65536 → x.of ≡ h / 65536 % 256 → x.plan ≡ h / 65536 / 256 % 256 → v ≡ h % 4294967296
  unfolding item_head
  head_same a b c = omega (arith, k.value)

  forth : eqb x.edges e && eqb w m && eqb v (h % 4294967296) ≡ true → same_chart_item x (item_from h e m t) ≡ true
  unfolding item_from
  forth q =
      let a = of_and (eqb x.edges e && eqb w m) _ (to_test q) in
      let b = of_and (eqb x.edges e) _ a.0 in
      let edges = eqb→eq x.edges e b.0 in
      let heads = same_head (eqb→eq v (h % 4294967296) a.1) in
      let nodes : x.nodes ≡ places_of m =
      sym (places_word x.nodes k.compact.places) ∙ ap places_of (sym p.value ∙ eqb→eq w m b.1)
      in
      bare_same x (item_from h e m t) (cc)

  back : same_chart_item x (item_from h e m t) ≡ true → eqb x.edges e && eqb w m && eqb v (h % 4294967296) ≡ true
  unfolding item_from
  back q =
      let s = same_bare x (item_from h e m t) q in
      let edges : x.edges ≡ e = ap (λ (i : ChartItem). i.edges) s in
      let nodes : x.nodes ≡ places_of m = ap (λ (i : ChartItem). i.nodes) s in
      let word : w ≡ m = p.value ∙ ap word_of nodes ∙ word_places m in
      let head = head_same (ap (λ (i : ChartItem). i.kind) s) (ap (λ (i : ChartItem). i.of) s) (ap (λ (i : ChartItem). i.plan) s) in
      rw (eq-eqb x.edges e edges, eq-eqb w m word, eq-eqb v (h % 4294967296) head)

  -- the three words of an item are equal exactly if it is but for the count
  pub same_words : eqb x.edges e && eqb w m && eqb v (h % 4294967296) ≡ same_chart_item x (item_from h e m t)
  same_words = both _ _ forth back
    where
      both : (a b : Bool) → (a ≡ true → b ≡ true) → (b ≡ true → a ≡ true) → a ≡ b
      both true b f g = sym (f refl)
      both false true f g = g refl
      both false false f g = refl
