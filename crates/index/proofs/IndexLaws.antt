-- The indexes as a record comes, is improved or taken.
use Rattle.std.specs.Prelude.{Option, Some, None}
use Prim.Native.Nat.{ℕ, ◌+◌, ◌*◌, ◌≤◌, ◌<◌}
use mathlib.Core.Path.{◌≡◌, refl, sym, ap, ◌∙◌, subst}
use mathlib.Core.List.{List, [], ◌∷◌, ◌++◌}
use mathlib.Core.Bool.{Bool, true, false, not}
use native.Mathlib.Omega.{arith}
use native.Mathlib.Numerals.{add-one}
use native.Mathlib.Decide.{dec_lt}
use lib.Dec.{eqb}
use lib.ListN.{length, get_or, set, replicate, length-replicate, get_or-replicate, get_or-eq_default}
use Rattle.agenda.specs.declared.ChartItem.{ChartItem}
use Rattle.agenda.specs.declared.Record.{Record}
use Rattle.agenda.specs.Records.{is_handled}
use Rattle.agenda.specs.Consequences.{record_in}
use Rattle.agenda.specs.Steps.{least_waiting, improved, handled_now}
use Rattle.records.specs.Words.{item_count, record_at, records_at, chart_of}
use Rattle.records.proofs.WordLaws.{length_records, Below, one, least_below}
use Rattle.chains.specs.Chains.{hash_of, link_words, Chained, Cleared, linked}
use Rattle.chains.proofs.ChainLaws.{chained_more, chained_improved, chained_handled}
use Rattle.ranking.specs.Ranking.{order_of, order_at, rank_words, Ranked, Blank, Replaces, taken_from}
use Rattle.ranking.proofs.Orders.{order_past, waiting_order, appended_order, improved_order}
use Rattle.lists.specs.Lists.{Listed, Unlisted, Ready, Within, entered_all}
use Rattle.lists.proofs.ListLaws.{listed_none, listed_ready, listed_entered_all}
use Rattle.keys.specs.Keys.{keys_of}
use Rattle.keys.proofs.KeyLaws.{keys_few, improved_keys}
use Rattle.index.specs.Index.{index_words, links_of, ranks_of, keys_for, Indexed, Empty, DoubtKept}
use Rattle.ranking.proofs.Parts.{part_zeros, length_part, put, length_put, put_same, put_before, put_behind}
use Rattle.index.proofs.CoverLaws.{doubt_on, doubt_put}
use Rattle.index.proofs.KeyLists.{keys_five, keys_length, keys_more, keys_set}

-- ---- the words are 0
zero_word : (n k : ℕ) → get_or (replicate {A = ℕ} n 0) k 0 ≡ 0
zero_word n k = go (dec_lt k n)
  where
    go : Dec (k < n) → get_or (replicate {A = ℕ} n 0) k 0 ≡ 0
    go (yes h) = get_or-replicate n k 0 0 h
    go (no h) = get_or-eq_default (replicate {A = ℕ} n 0) 0 (omega (arith, length-replicate {A = ℕ} n 0))

-- an array of zeros
pub empty_zeros : Empty (replicate {A = ℕ} index_words 0)
empty_zeros = record { size = length-replicate {A = ℕ} index_words 0; zeros = zero_word index_words }

pub links_empty : (ix : List ℕ) → Empty ix → Cleared (links_of ix)
links_empty ix e = let l = e.size in record {
  words = length_part 0 link_words ix (omega arith);
  empty = λ b h. part_zeros 0 link_words ix (omega arith) e.zeros b;
}

-- ---- a part is made anew
abbrev pub with_links : List ℕ → List ℕ → List ℕ
with_links ix new = put 0 link_words ix new

abbrev pub with_ranks : List ℕ → List ℕ → List ℕ
with_ranks ix new = put link_words rank_words ix new

module _ (ix new : List ℕ) (s : length ix ≡ index_words) (e : length new ≡ link_words) where
  pub links_size : length (with_links ix new) ≡ index_words
  links_size = length_put 0 link_words ix new (omega arith) e ∙ s

  pub links_new : links_of (with_links ix new) ≡ new
  links_new = put_same 0 link_words ix new (omega arith) e

  pub links_ranks : ranks_of (with_links ix new) ≡ ranks_of ix
  links_ranks = put_behind 0 link_words ix new (omega arith) e link_words rank_words (omega arith)

module _ (ix new : List ℕ) (s : length ix ≡ index_words) (e : length new ≡ rank_words) where
  pub ranks_size : length (with_ranks ix new) ≡ index_words
  ranks_size = length_put link_words rank_words ix new (omega arith) e ∙ s

  pub ranks_new : ranks_of (with_ranks ix new) ≡ new
  ranks_new = put_same link_words rank_words ix new (omega arith) e

  pub ranks_links : links_of (with_ranks ix new) ≡ links_of ix
  ranks_links = put_before link_words rank_words ix new (omega arith) e 0 link_words (omega arith)

-- how long the parts are
pub links_long : (ix : List ℕ) → length ix ≡ index_words → length (links_of ix) ≡ link_words
links_long ix s = length_part 0 link_words ix (omega (arith, s))

pub ranks_long : (ix : List ℕ) → length ix ≡ index_words → length (ranks_of ix) ≡ rank_words
ranks_long ix s = length_part link_words rank_words ix (omega (arith, s))

-- the links and the ranking one after the other
pub length_both : (ix links ranks : List ℕ) → length ix ≡ index_words → length links ≡ link_words → length ranks ≡ rank_words → length (with_ranks (with_links ix links) ranks) ≡ length ix
length_both ix links ranks s p q = ranks_size (with_links ix links) ranks (links_size ix links s p) q ∙ sym s

pub doubt_both : (ix links ranks : List ℕ) → length ix ≡ index_words → length links ≡ link_words → length ranks ≡ rank_words → DoubtKept ix (with_ranks (with_links ix links) ranks)
doubt_both ix links ranks s p q =
    doubt_on ix (with_links ix links) (with_ranks (with_links ix links) ranks) (doubt_put 0 link_words ix links s p (omega arith))
    (doubt_put link_words rank_words (with_links ix links) ranks (links_size ix links s p) q (omega arith))

module _ (keys : List ℕ) where
  -- ---- the lists
  pub indexed_ready : (ix ls : List ℕ) (rs : List Record) → Indexed keys ix ls rs → Ready ls
  indexed_ready ix ls rs I = listed_ready ls (keys_for keys rs) I.listed

  pub keys_within : (x : ChartItem) (ks : List ℕ) → ks ≡ keys_of keys x → Within 2048 ks
  keys_within x ks e i h = rw e (keys_few keys x i)

  -- one record more
  listed_more : (ls : List ℕ) (n : ℕ) (x : Record) (rs : List Record) → Listed ls (keys_for keys rs) → n ≡ length rs → n < 4096
      → Listed (entered_all ls (5 * n) (keys_of keys x.item)) (keys_for keys (rs ++ (x ∷ [])))
  listed_more ls n x rs L e h =
      rw (keys_more keys rs x)
      (listed_entered_all ls (keys_for keys rs) (5 * n) (keys_of keys x.item) L (omega (arith, keys_length keys rs)) (omega arith) (keys_within x.item (keys_of keys x.item) refl)
      (keys_five keys x.item))

  -- the first records of words
  pub listed_first : (w ls : List ℕ) → Unlisted ls → Listed ls (keys_for keys (records_at w 0))
  unfolding records_at keys_for
  listed_first w ls u = listed_none ls u

  pub listed_next : (w ls new : List ℕ) (j : ℕ) (x : ChartItem) → Listed ls (keys_for keys (records_at w j)) → j < 4096 → x ≡ (record_at w j).item → new ≡ entered_all ls (5 * j) (keys_of keys x)
      → Listed new (keys_for keys (records_at w (j + 1)))
  unfolding records_at
  listed_next w ls new j x L h e q =
      rw add-one
      (subst (λ (v : List ℕ). Listed v (keys_for keys (records_at w j ++ (record_at w j ∷ [])))) (sym (q ∙ ap (λ (y : ChartItem). entered_all ls (5 * j) (keys_of keys y)) e))
      (listed_more ls j (record_at w j) (records_at w j) L (sym (length_records w j)) h))

  pub listed_all : (w ls : List ℕ) (n j : ℕ) → n ≡ item_count w → j ≤ n → n ≤ j → Listed ls (keys_for keys (records_at w j)) → Listed ls (keys_for keys (chart_of w).records)
  unfolding chart_of
  listed_all w ls n j e h l L = subst (λ k. Listed ls (keys_for keys (records_at w k))) (let q : j ≡ item_count w = omega arith in q) L

  -- ---- all parts
  -- the ranking, beside the other parts of the same records
  indexed_ranks : (ix new ls : List ℕ) (rs : List Record) → length ix ≡ index_words → Listed ls (keys_for keys rs) → Chained (links_of ix) rs → Ranked new rs → Indexed keys (with_ranks ix new) ls rs
  indexed_ranks ix new ls rs s L c r = record {
    size = ranks_size ix new s r.size;
    chained = rw (ranks_links ix new s r.size) c;
    ranked = rw (ranks_new ix new s r.size) r;
    listed = L;
  }

  -- .. and the chains
  pub indexed_both : (ix links ranks ls : List ℕ) (rs : List Record) → length ix ≡ index_words → Listed ls (keys_for keys rs) → Chained links rs → Ranked ranks rs
      → Indexed keys (with_ranks (with_links ix links) ranks) ls rs
  indexed_both ix links ranks ls rs s L c r =
      indexed_ranks (with_links ix links) ranks ls rs (links_size ix links s c.words) L (rw (links_new ix links s c.words) c) r

-- ---- made of zeros: the links, the ranking
module _ (ix links : List ℕ) (rs : List Record) (e : Empty ix) (c : Chained links rs) where
  mid_size : length (with_links ix links) ≡ index_words
  mid_size = links_size ix links e.size c.words

  pub ranks_blank : Blank (ranks_of (with_links ix links))
  ranks_blank =
      let s = e.size in
      record {
        size = length_part link_words rank_words (with_links ix links) (omega (arith, mid_size));
        zeros = λ n. ap (λ (w : List ℕ). get_or w n 0) (links_ranks ix links e.size c.words) ∙ part_zeros link_words rank_words ix (omega arith) e.zeros n;
      }

-- ---- one record more
module _ (keys ix ls new links ranks : List ℕ) (n h : ℕ) (x : Record) (rs : List Record) (I : Indexed keys ix ls rs) (e : n ≡ length rs) (f : n < 4096) where
  longer : h ≡ hash_of x.item → links ≡ linked (links_of ix) n h → Chained links (rs ++ (x ∷ []))
  longer p q =
      subst (λ (l : List ℕ). Chained l (rs ++ (x ∷ []))) (sym (q ∙ ap (λ i. linked (links_of ix) i h) e))
      (chained_more (links_of ix) rs x h I.chained p (omega arith))

  not_not : (t : Bool) → not (not t) ≡ t
  not_not true = refl
  not_not false = refl

  order : Replaces n (order_of (eqb x.handled 0) n x.item.count) rs (rs ++ (x ∷ []))
  order =
      subst (λ k. Replaces k (order_of (eqb x.handled 0) k x.item.count) rs (rs ++ (x ∷ []))) (sym e)
      (subst (λ (t : Bool). Replaces (length rs) (order_of t (length rs) x.item.count) rs (rs ++ (x ∷ []))) (not_not (eqb x.handled 0)) (appended_order rs x))

  pub entered : new ≡ entered_all ls (5 * n) (keys_of keys x.item) → h ≡ hash_of x.item → links ≡ linked (links_of ix) n h
      → (Ranked (ranks_of (with_links ix links)) rs → order_at rs n ≡ 0 → Replaces n (order_of (eqb x.handled 0) n x.item.count) rs (rs ++ (x ∷ [])) → Ranked ranks (rs ++ (x ∷ [])))
      → Indexed keys (with_ranks (with_links ix links) ranks) new (rs ++ (x ∷ []))
  entered o p q r =
      let c = longer p q in
      indexed_both keys ix links ranks new (rs ++ (x ∷ [])) I.size (rw o (listed_more keys ls n x rs I.listed e f)) c
      (r (rw (links_ranks ix links I.size c.words) I.ranked) (order_past rs n (omega arith)) order)

-- ---- a record that is improved or handled
module _ (ix ls ranks : List ℕ) (j : ℕ) (keys : List ℕ) (rs : List Record) (I : Indexed keys ix ls rs) (l : j < length rs) where
  -- a record with the keys of the one in whose place it comes
  listed_set : (y : Record) → keys_of keys y.item ≡ keys_of keys (record_in rs j).item → Listed ls (keys_for keys (set rs j y))
  listed_set y p = rw (keys_set keys rs j y p) I.listed

  pub recounted : (x : Record) (old n : ℕ) → is_handled (record_in rs j) ≡ false → old ≡ (record_in rs j).item.count → n ≡ x.item.count
      → (Ranked (ranks_of ix) rs → order_at rs j ≡ order_of true j old → Replaces j (order_of true j n) rs (set rs j (improved (record_in rs j) x)) → Ranked ranks (set rs j (improved (record_in rs j) x)))
      → Indexed keys (with_ranks ix ranks) ls (set rs j (improved (record_in rs j) x))
  recounted x old n h o e f =
      let y = record_in rs j in
      indexed_ranks keys ix ranks ls (set rs j (improved y x)) I.size (listed_set (improved y x) (improved_keys keys y x)) (chained_improved (links_of ix) rs j x I.chained)
      (f I.ranked (waiting_order rs j old l h o) (rw e (improved_order rs j x l h)))

  -- handled, with the ranking given for it
  handled_by : Ranked ranks (set rs j (handled_now (record_in rs j))) → Indexed keys (with_ranks ix ranks) ls (set rs j (handled_now (record_in rs j)))
  handled_by r =
      let y = record_in rs j in
      indexed_ranks keys ix ranks ls (set rs j (handled_now y)) I.size (listed_set (handled_now y) refl) (chained_handled (links_of ix) rs j I.chained) r

-- ---- a record is taken, or none: then the ranking may be made anew
pub taken_by : (keys ix ls ranks : List ℕ) (rs : List Record) (f : Option ℕ) → f ≡ least_waiting rs (length rs) → Ranked ranks (taken_from rs f) → Indexed keys ix ls rs
    → Indexed keys (with_ranks ix ranks) ls (taken_from rs f)
taken_by keys ix ls ranks rs f e r I = go f (rw e (least_below rs (length rs))) r
  where
    go : (f : Option ℕ) → Below (length rs) f → Ranked ranks (taken_from rs f) → Indexed keys (with_ranks ix ranks) ls (taken_from rs f)
    go None b r = indexed_ranks keys ix ranks ls rs I.size I.listed I.chained r
    go (Some j) (one l) r = handled_by ix ls ranks j keys rs I l r
