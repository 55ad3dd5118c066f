-- The indexes of a chart's records: links, ranking and a last word one behind another in the words of one slice, the
-- lists in one of their own.
use Rattle.std.specs.Prelude.{List, [], ◌∷◌, ◌++◌, ◌≡◌, ℕ, ◌<◌, length, get_or, take, drop}
use Rattle.agenda.specs.declared.Record.{Record}
use Rattle.agenda.specs.Consequences.{record_in}
use Rattle.records.specs.Words.{Compact, chart_of, added_to}
use Rattle.chains.specs.Chains.{link_words, Chained}
use Rattle.ranking.specs.Ranking.{rank_words, Ranked}
use Rattle.lists.specs.Lists.{Listed}
use Rattle.rules.specs.Coverage.{Covering}
use Rattle.keys.specs.Keys.{keys_of}

-- how many words there are
abbrev pub index_words : ℕ
index_words = 12424

-- ---- the parts
abbrev pub links_of : List ℕ → List ℕ
links_of ix = take link_words (drop 0 ix)

abbrev pub ranks_of : List ℕ → List ℕ
ranks_of ix = take rank_words (drop link_words ix)

-- the place of the last word
abbrev pub doubt_place : ℕ
doubt_place = 12423

-- it is 0 only where every record covers its open graph nodes
abbrev pub doubt_of : List ℕ → ℕ
doubt_of ix = get_or ix doubt_place 0

-- the keys of records, five of each: entry 5 * j + i is key i of record j
unfoldable pub keys_for : List ℕ → List Record → List ℕ
unfolding keys_of
keys_for keys [] = []
keys_for keys (x ∷ rs) = keys_of keys x.item ++ keys_for keys rs

-- each part is the index of the records that it is named for; ls has the lists
pub record Indexed (keys ix ls : List ℕ) (rs : List Record) : Type 0 where
  pub size : length ix ≡ index_words
  pub chained : Chained (links_of ix) rs
  pub ranked : Ranked (ranks_of ix) rs
  pub listed : Listed ls (keys_for keys rs)

-- words that are all 0: the indexes of no records
pub record Empty (ix : List ℕ) : Type 0 where
  pub size : length ix ≡ index_words
  pub zeros : (k : ℕ) → get_or ix k 0 ≡ 0

-- ---- the last word on its own
-- where it is 0, each record covers its open graph nodes
pub record Covered (g h ix : List ℕ) (rs : List Record) : Type 0 where
  pub each : doubt_of ix ≡ 0 → (j : ℕ) → j < length rs → Covering g h (record_in rs j).item

-- it is as it was
pub record DoubtKept (ix new : List ℕ) : Type 0 where
  pub word : doubt_of new ≡ doubt_of ix

-- ---- a record more
-- v is the chart w with the record z, which its words can tell, and the indexes are kept; it covers its open nodes
-- where that is to be told
pub record Adds (keys w ix v jx ms : List ℕ) (z : Record) : Type 0 where
  pub compact : Compact z
  pub chart : v ≡ added_to w z
  pub indexed : Indexed keys jx ms (chart_of v).records
  pub covered : (g h : List ℕ) → Covered g h ix (chart_of w).records → (doubt_of ix ≡ 0 → Covering g h z.item) → Covered g h jx (chart_of v).records
