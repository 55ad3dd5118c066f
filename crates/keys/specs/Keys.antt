-- Keys of items: two items that a rule joins lie on a key that the one is asked for and the other has. All of a key
-- but the image of one node is a word of a table that is worked out once.
use Rattle.std.specs.Prelude.{◌≡◌, true, ◌&&◌, cond, List, [], ◌∷◌, ℕ, ◌+◌, ◌*◌, ◌/◌, ◌%◌, ◌<◌, length, get_or, eqb, ltb}
use Rattle.masks.specs.Masks.{bit, member}
use Rattle.hrg.specs.Grammars.{Grammar, rank_of, rule_of}
use Rattle.hrg.specs.Trees.{at}
use Rattle.hrg.specs.Items.{is_open_at}
use Rattle.agenda.specs.declared.ChartItem.{ChartItem}
use Rattle.questions.specs.Abstract.{grammar_of}
use Rattle.rules.specs.Wants.{want_of}
use Rattle.keys.specs.Pivots.{position_of, node_of, PivotChoice}

-- a passive item, an active one that wants an edge filled, and one that wants to be joined with another
abbrev pub passive_tag : ℕ
passive_tag = 1

abbrev pub edge_tag : ℕ
edge_tag = 2

abbrev pub join_tag : ℕ
join_tag = 3

-- ---- buckets
-- What is mixed of all but the node, from 1 to 2^27. Each number is brought below a bound first, so that the sum
-- stays in a word whatever they are; of its low 32 bits the upper 27 are taken, so that 16 times it and a node stay
-- in half a word.
unfoldable pub base_of : ℕ → ℕ → ℕ → ℕ
base_of tag s k = (tag % 128 * 3266489917 + s % 128 * 2654435769 + k % 128 * 2246822519) % 4294967296 / 32 + 1

-- The base b, back in its place in 32 bits, and the node a mixed into 1 .. 2,048: bits 21 to 31 are those on which
-- every lower bit has an effect.
unfoldable pub mixed : ℕ → ℕ → ℕ
mixed b a = (32 * b + a % 128 * 668265263) % 4294967296 / 2097152 + 1

unfoldable pub bucket_of : ℕ → ℕ → ℕ → ℕ → ℕ
unfolding base_of mixed
bucket_of tag s k a = mixed (base_of tag s k) a

-- ---- words: a base, and the node whose image is to be mixed with it (8: none)
unfoldable pub word_of : ℕ → ℕ → ℕ → ℕ → ℕ
unfolding base_of
word_of tag s k v = 16 * base_of tag s k + v

-- the image of the node of w, a pivot or a word, by a map in eight places
unfoldable pub image_of : ℕ → List ℕ → ℕ
image_of w f = cond (ltb (node_of w) 8) (at f (node_of w)) 64

-- for active items of rule r that want `want` and have pivot w, with plan node p for a join; 0 where they want nothing
unfoldable pub key_word : ℕ → ℕ → ℕ → ℕ → ℕ → ℕ
unfolding word_of
key_word tag want w r p = cond (eqb want 80) 0 (cond (ltb want 64) (word_of tag want (position_of w) (node_of w)) (word_of join_tag r p (node_of w)))

-- the place of a set that has no other, 5 for any other set
unfoldable pub place_of : ℕ → ℕ
place_of u = cond (eqb u 1) 0 (cond (eqb u 2) 1 (cond (eqb u 4) 2 (cond (eqb u 8) 3 (cond (eqb u 16) 4 5))))

-- where it is in a passive item's list: there are four nodes, and a place for where there is no pivot
unfoldable pub place_node : ℕ → ℕ
place_node i = cond (ltb i 4) i 8

-- for passive items of symbol s, if u is the set of the positions at which they are asked for; 0 where it has no only
-- place
unfoldable pub place_word : ℕ → ℕ → ℕ → ℕ
unfolding word_of place_of place_node
place_word tag s u = cond (ltb (place_of u) 5) (word_of tag s (place_of u) (place_node (place_of u))) 0

-- ---- the table
-- Its parts: for each of 64 rules and 16 plan nodes the word by which active items are listed, from 0 on, and that by
-- which they ask for partners; for each of 64 symbols the positions at which it is wanted, and the same two words of
-- passive items.
abbrev pub rule_places : ℕ
rule_places = 1024

abbrev pub asked_from : ℕ
asked_from = 1024

abbrev pub uses_from : ℕ
uses_from = 2048

abbrev pub places_from : ℕ
places_from = 2112

abbrev pub sought_from : ℕ
sought_from = 2176

-- its size
abbrev pub key_table_words : ℕ
key_table_words = 2240

-- the place of rule r and plan node p in a part
abbrev pub rule_place : ℕ → ℕ → ℕ
rule_place r p = 16 * r + p

-- its word for rule r and plan node p, from word `from` on
unfoldable pub rule_word : List ℕ → ℕ → ℕ → ℕ → ℕ
rule_word t from r p = cond (ltb r 64 && ltb p 16) (get_or t (from + rule_place r p) 0) 0

-- and for symbol s
unfoldable pub symbol_word : List ℕ → ℕ → ℕ → ℕ
symbol_word t from s = cond (ltb s 64) (get_or t (from + s) 0) 0

-- the set of the positions at which passive items of s are asked for
unfoldable pub uses_in : List ℕ → ℕ → ℕ
unfolding symbol_word
uses_in t s = symbol_word t uses_from s

-- t has the words of g: those by which items are listed, and those by which they ask for their partners, which for a
-- join stand at the other child
pub record KeyTable (g t : List ℕ) : Type 0 where
  pub pivot : ℕ → ℕ → ℕ
  pub taken : PivotChoice g pivot (uses_in t)
  pub listed : (r p : ℕ) → rule_word t 0 r p ≡ key_word edge_tag (want_of (grammar_of g) r p) (pivot r p) r p
  pub asked : (r p : ℕ) → rule_word t asked_from r p ≡ key_word passive_tag (want_of (grammar_of g) r p) (pivot r p) r (want_of (grammar_of g) r p % 64)
  pub place : (s : ℕ) → symbol_word t places_from s ≡ place_word passive_tag s (uses_in t s)
  pub sought : (s : ℕ) → symbol_word t sought_from s ≡ place_word edge_tag s (uses_in t s)

-- ---- a table that is being filled
-- t' is t with the words for place i, of pivot w: where a symbol is wanted, the pivot's position is among its uses
pub record Entered (t : List ℕ) (i want w : ℕ) (t' : List ℕ) : Type 0 where
  pub size : length t' ≡ key_table_words
  pub listed : get_or t' i 0 ≡ key_word edge_tag want w (i / 16) (i % 16)
  pub asked : get_or t' (asked_from + i) 0 ≡ key_word passive_tag want w (i / 16) (want % 64)
  pub others : (k : ℕ) → k < uses_from → (k ≡ i → ⊥) → (k ≡ asked_from + i → ⊥) → get_or t' k 0 ≡ get_or t k 0
  pub kept : (s e : ℕ) → s < 64 → e < 64 → member (get_or t (uses_from + s) 0) e ≡ true → member (get_or t' (uses_from + s) 0) e ≡ true
  pub used : want < 64 → member (get_or t' (uses_from + want) 0) (position_of w) ≡ true

-- t' is t with the words of the first n symbols' only places
pub record Placed (t : List ℕ) (n : ℕ) (t' : List ℕ) : Type 0 where
  pub size : length t' ≡ key_table_words
  pub others : (k : ℕ) → k < places_from → get_or t' k 0 ≡ get_or t k 0
  pub place : (s : ℕ) → s < n → get_or t' (places_from + s) 0 ≡ place_word passive_tag s (get_or t (uses_from + s) 0)
  pub sought : (s : ℕ) → s < n → get_or t' (sought_from + s) 0 ≡ place_word edge_tag s (get_or t (uses_from + s) 0)

-- ---- keys
-- of a passive item of symbol s: for position i with the node a, if it is used
unfoldable pub place_key : ℕ → ℕ → ℕ → ℕ → ℕ → ℕ
unfolding bucket_of
place_key used tag s i a = cond (eqb used 0) 0 (bucket_of tag s i a)

-- with the nodes L: for each of four positions, and one for where there is no pivot; u is the set of those that are
-- used
unfoldable pub five_keys : ℕ → ℕ → ℕ → List ℕ → List ℕ
unfolding place_key bit
five_keys u tag s L =
    place_key (bit u 0) tag s 0 (at L 0)
    ∷ place_key (bit u 1) tag s 1 (at L 1)
    ∷ place_key (bit u 2) tag s 2 (at L 2)
    ∷ place_key (bit u 3) tag s 3 (at L 3)
    ∷ place_key (bit u 4) tag s 4 64
    ∷ []

-- the key by an item's word w; the five where there is none. An only key comes first, so that whoever goes through
-- them is done with one
unfoldable pub keys_by : ℕ → ℕ → ℕ → ℕ → List ℕ → List ℕ
unfolding mixed image_of five_keys
keys_by w u tag s L = cond (eqb w 0) (five_keys u tag s L) (mixed (w / 16) (image_of w L) ∷ 0 ∷ 0 ∷ 0 ∷ 0 ∷ [])

-- an item's word: an active one's from word `rules` on, a passive one's from `symbols` on
unfoldable pub word_for : List ℕ → ℕ → ℕ → ChartItem → ℕ
unfolding rule_word symbol_word
word_for t rules symbols x = cond (eqb x.kind 0) (rule_word t rules x.of x.plan) (symbol_word t symbols x.of)

-- the positions at which it is asked for, if it is passive
unfoldable pub uses_of : List ℕ → ChartItem → ℕ
unfolding uses_in
uses_of t x = cond (eqb x.kind 0) 0 (uses_in t x.of)

-- its keys by these words, 0 for none
abbrev pub keys_from : List ℕ → ℕ → ℕ → ℕ → ChartItem → List ℕ
keys_from t rules symbols tag x = keys_by (word_for t rules symbols x) (uses_of t x) tag x.of x.nodes

-- the keys that it has
unfoldable pub keys_of : List ℕ → ChartItem → List ℕ
unfolding keys_by word_for uses_of
keys_of t x = keys_from t 0 places_from passive_tag x

-- the keys that its partners have
unfoldable pub query_of : List ℕ → ChartItem → List ℕ
unfolding keys_by word_for uses_of
query_of t x = keys_from t asked_from sought_from edge_tag x

-- ---- items whose keys tell
-- each rule node that is open at an active item's plan node has an image, and each place of a passive one's list a node
pub record AllPlaced (G : Grammar) (x : ChartItem) : Type 0 where
  pub active : x.kind ≡ 0 → (v : ℕ) → is_open_at (rule_of G x.of) x.plan v ≡ true → at x.nodes v < 64
  pub passive : (x.kind ≡ 0 → ⊥) → (k : ℕ) → k < rank_of G x.of → at x.nodes k < 64
