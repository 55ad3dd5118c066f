-- A chart as words: two header words (the number of items, the mark), then four words for each item. Fields that
-- share a word stand side by side, and the uppermost one has what is left, so that each four words are those of just
-- one record.
use Rattle.std.specs.Prelude.{Option, Some, None, List, [], ◌∷◌, ◌++◌, ℕ, zero, suc, ◌+◌, ◌-◌, ◌*◌, ◌/◌, ◌%◌, ◌≤◌, ◌<◌, min, length, get_or, drop, set, eqb, ltb, leb, ◌≡◌, cond, ◌||◌}
use Rattle.places.specs.Words.{word_of, places_of, Readable}
use Rattle.agenda.specs.Records.{is_handled}
use Rattle.agenda.specs.Steps.{Chart, improved, handled_now, last_same, added_all}
use Rattle.agenda.specs.declared.ChartItem.{ChartItem}
use Rattle.agenda.specs.declared.Record.{Record}

-- how many words the header has, and a chart of so many items
abbrev pub header_words : ℕ
header_words = 2

abbrev pub words_for : ℕ → ℕ
words_for n = 2 + 4 * n

-- words with no items and no mark
abbrev pub cleared : List ℕ → List ℕ
cleared w = set (set w 0 0) 1 0

-- how many items the words hold
unfoldable pub capacity : List ℕ → ℕ
capacity w = (length w - 2) / 4

-- how many items they have; never more than they hold
unfoldable pub item_count : List ℕ → ℕ
unfolding capacity
item_count w = min (get_or w 0 0) (capacity w)

-- ---- the four words of a record: its head, its edges, its nodes as a map of bytes, its tail
-- word k of the record at place j, 0 past the end
unfoldable pub word_at : List ℕ → ℕ → ℕ → ℕ
word_at w j k = get_or w (2 + 4 * j + k) 0

-- the item of a record's words
unfoldable pub item_from : ℕ → ℕ → ℕ → ℕ → ChartItem
unfolding places_of
item_from head edges map tail = record {
  kind = head % 65536;
  of = head / 65536 % 256;
  plan = head / 65536 / 256 % 256;
  count = tail / 65536 / 65536;
  edges = edges;
  nodes = places_of map;
}

-- the record of its words
unfoldable pub record_from : ℕ → ℕ → ℕ → ℕ → Record
unfolding item_from
record_from head edges map tail = record {
  item = item_from head edges map tail;
  handled = head / 65536 / 256 / 256;
  first = tail % 65536;
  second = tail / 65536 % 65536;
}

-- the record at place j
unfoldable pub record_at : List ℕ → ℕ → Record
unfolding record_from word_at
record_at w j = record_from (word_at w j 0) (word_at w j 1) (word_at w j 2) (word_at w j 3)

-- the first n records
unfoldable pub records_at : List ℕ → ℕ → List Record
unfolding record_at
records_at w zero = []
records_at w (suc n) = records_at w n ++ (record_at w n ∷ [])

-- the lesser of the one found so far and the record at place i, if that is not handled
unfoldable pub lesser_at : List ℕ → ℕ → Option ℕ → Option ℕ
unfolding record_at
lesser_at w i None = cond (is_handled (record_at w i)) None (Some i)
lesser_at w i (Some j) = cond (is_handled (record_at w i) || leb (record_at w j).item.count (record_at w i).item.count) (Some j) (Some i)

-- the chart that words stand for; no more items than they hold
unfoldable pub chart_of : List ℕ → Chart
unfolding records_at item_count
chart_of w = record { mark = get_or w 1 0; records = records_at w (item_count w) }

-- the kind, the rule or symbol and the plan node of an item as one number
unfoldable pub item_head : ChartItem → ℕ
item_head x = (x.plan * 256 + x.of) * 65536 + x.kind

-- the first and the last word of a record
unfoldable pub head_of : Record → ℕ
head_of x = ((x.handled * 256 + x.item.plan) * 256 + x.item.of) * 65536 + x.item.kind

unfoldable pub tail_of : Record → ℕ
tail_of x = (x.item.count * 65536 + x.second) * 65536 + x.first

-- the four words of a record
unfoldable pub words_of : Record → List ℕ
unfolding head_of tail_of word_of
words_of x = head_of x ∷ x.item.edges ∷ word_of x.item.nodes ∷ tail_of x ∷ []

-- an item that is read again from a record's words: what shares a word has no more bits there than its place
pub record CompactItem (x : ChartItem) : Type 0 where
  pub kind : x.kind < 65536
  pub of : x.of < 256
  pub plan : x.plan < 256
  pub places : Readable x.nodes

-- a record that is read again from its words
pub record Compact (x : Record) : Type 0 where
  pub item : CompactItem x.item
  pub first : x.first < 65536
  pub second : x.second < 65536

-- r is the head of the item x; what the types of its fields tell is said by name
pub record Headed (x : ChartItem) (r : ℕ) : Type 0 where
  pub value : r ≡ item_head x
  pub small : r < 4294967296
  pub compact : CompactItem x

-- w with the four words ws from the place at on
unfoldable pub put : List ℕ → ℕ → List ℕ → List ℕ
put w at ws = set (set (set (set w (at + 0) (get_or ws 0 0)) (at + 1) (get_or ws 1 0)) (at + 2) (get_or ws 2 0)) (at + 3) (get_or ws 3 0)

-- w with the record x at place j, if it has that place
unfoldable pub saved : List ℕ → ℕ → Record → List ℕ
unfolding capacity words_of put
saved w j x = cond (ltb j (capacity w)) (put w (2 + 4 * j) (words_of x)) w

unfoldable pub all_words : List Record → List ℕ
unfolding words_of
all_words [] = []
all_words (x ∷ xs) = words_of x ++ all_words xs

-- words that stand for the chart c, where w stood before: what lies behind the records stays
unfoldable pub written : List ℕ → Chart → List ℕ
unfolding all_words
written w c = length c.records ∷ c.mark ∷ (all_words c.records ++ drop (2 + 4 * length c.records) w)

-- words that have a header, and no more items than they hold
pub record Fits (w : List ℕ) : Type 0 where
  pub header : 2 ≤ length w
  pub number : get_or w 0 0 ≤ capacity w

-- ---- one record more, in words
-- the record at place j with the count and the partners of x, unless it is handled or its count is no greater
unfoldable pub improved_at : List ℕ → ℕ → Record → List ℕ
improved_at w j x = cond (is_handled (record_at w j) || leb (record_at w j).item.count x.item.count) w (saved w j (improved (record_at w j) x))

-- x behind the n records that there are, or the mark where no place is left
unfoldable pub appended_to : List ℕ → ℕ → Record → List ℕ
appended_to w n x = cond (ltb n (capacity w)) (set (saved w n x) 0 (n + 1)) (set w 1 1)

unfoldable pub placed_in : List ℕ → Record → Option ℕ → List ℕ
placed_in w x (Some j) = improved_at w j x
placed_in w x None = appended_to w (item_count w) x

-- w with the record x; words of a marked chart stay as they are
unfoldable pub added_to : List ℕ → Record → List ℕ
added_to w x = cond (eqb (get_or w 1 0) 0) (placed_in w x (last_same x.item (records_at w (item_count w)) (item_count w))) w

-- w with the record at place j handled, if it has that place
unfoldable pub marked_at : List ℕ → ℕ → List ℕ
unfolding saved
marked_at w j = saved w j (handled_now (record_at w j))

-- w with the records xs, one after another
unfoldable pub grown_by : List ℕ → List Record → List ℕ
grown_by w xs = written w (added_all (capacity w) xs (chart_of w))
