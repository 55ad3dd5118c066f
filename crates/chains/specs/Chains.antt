-- Records chained by bucket: two records of the same item are of one bucket, so the last equal one lies on its chain.
use Rattle.std.specs.Prelude.{cond, List, ℕ, zero, suc, ◌+◌, ◌*◌, ◌/◌, ◌%◌, ◌≤◌, ◌<◌, ◌≡◌, eqb, length, get_or, set}
use Rattle.masks.specs.Masks.{◌∪◌, single}
use Rattle.places.specs.Words.{word_of}
use Rattle.agenda.specs.declared.ChartItem.{ChartItem}
use Rattle.agenda.specs.declared.Record.{Record}
use Rattle.agenda.specs.Consequences.{record_in}

-- the small fields of an item as one number
abbrev pub tag_of : ChartItem → ℕ
tag_of x = (x.of * 256 + x.plan) * 65536 + x.kind

-- The edges and the nodes of an item and its small fields, mixed: each half has a factor of its own, and the small
-- fields go with the upper half of the nodes, so that four products do it. Of words below 2^64 the sum stays below
-- 2^64.
unfoldable pub mixed : ChartItem → ℕ
unfolding word_of
mixed x =
    x.edges % 4294967296 * 1051780055
    + x.edges / 4294967296 * 668265263
    + word_of x.nodes % 4294967296 * 904645227
    + (word_of x.nodes / 4294967296 + tag_of x) * 374761393

-- its two halves, added: a bit of a word has an effect on the upper bits of one of them
unfoldable pub hash_of : ChartItem → ℕ
unfolding mixed
hash_of x = (mixed x + mixed x / 4294967296) % 4294967296

-- bits 20 to 31, on which every bit of an item has an effect
unfoldable pub bucket_of : ChartItem → ℕ
unfolding hash_of
bucket_of x = hash_of x / 1048576

-- the four bits below them, as the number of one bit of sixteen, by which most records of a bucket differ
unfoldable pub bit_of : ChartItem → ℕ
unfolding hash_of
bit_of x = hash_of x / 65536 % 16

-- the place + 1 of the last of the first n records that is of bucket b, 0 for none
unfoldable pub last_in : ℕ → List Record → ℕ → ℕ
unfolding bucket_of
last_in b rs zero = 0
last_in b rs (suc n) = cond (eqb (bucket_of (record_in rs n).item) b) (n + 1) (last_in b rs n)

-- the set of the bits of those of the first n records that are of bucket b
unfoldable pub bits_in : ℕ → List Record → ℕ → ℕ
unfolding bucket_of bit_of
bits_in b rs zero = 0
bits_in b rs (suc n) = cond (eqb (bucket_of (record_in rs n).item) b) (bits_in b rs n ∪ single (bit_of (record_in rs n).item)) (bits_in b rs n)

-- the word that leads to the last of the first n records that is of bucket b: its place + 1, and above that the set
-- of the bits from there back, 0 for none
unfoldable pub link_of : ℕ → List Record → ℕ → ℕ
unfolding last_in bits_in
link_of b rs n = last_in b rs n + 8192 * bits_in b rs n

-- how many words there are
abbrev pub link_words : ℕ
link_words = 8192

-- words that chain the records: 4,096 buckets with the word of their last record, and for each record that of the one
-- before it of the same bucket
pub record Chained (links : List ℕ) (rs : List Record) : Type 0 where
  pub words : length links ≡ link_words
  pub few : length rs ≤ 4096
  pub last : (b : ℕ) → b < 4096 → get_or links b 0 ≡ link_of b rs (length rs)
  pub previous : (j : ℕ) → j < length rs → get_or links (4096 + j) 0 ≡ link_of (bucket_of (record_in rs j).item) rs j

-- the links with record j, whose hash is h, behind the last one of its bucket
unfoldable pub linked : List ℕ → ℕ → ℕ → List ℕ
linked links j h = set (set links (4096 + j) (get_or links (h / 1048576) 0)) (h / 1048576) (j + 1 + 8192 * (get_or links (h / 1048576) 0 / 8192 ∪ single (h / 65536 % 16)))

-- words with no record in a bucket
pub record Cleared (links : List ℕ) : Type 0 where
  pub words : length links ≡ link_words
  pub empty : (b : ℕ) → b < 4096 → get_or links b 0 ≡ 0
