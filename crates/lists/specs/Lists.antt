-- Entries 0, 1, 2, .. have a key each, 0 for none; words link the entries of one key in rising order.
use Rattle.std.specs.Prelude.{cond, ◌&&◌, List, ◌≡◌, ℕ, zero, suc, ◌+◌, ◌-◌, ◌≤◌, ◌<◌, eqb, leb, length, get_or, set}

-- five numbers, none of them above m
abbrev pub Within : ℕ → List ℕ → Type 0
Within m xs = (i : ℕ) → i < 5 → get_or xs i 0 ≤ m

-- the place + 1 of the first entry at or after e, of the first n, whose key is b; 0 for none
unfoldable pub first_to : ℕ → List ℕ → ℕ → ℕ → ℕ
first_to b keys e zero = 0
first_to b keys e (suc n) = cond (eqb (first_to b keys e n) 0 && (leb e n && eqb (get_or keys n 0) b)) (n + 1) (first_to b keys e n)

-- .. of all entries
unfoldable pub first_from : ℕ → List ℕ → ℕ → ℕ
unfolding first_to
first_from b keys e = first_to b keys e (length keys)

-- r is the place + 1 of the last entry whose key is b, 0 for none
pub record IsLast (b : ℕ) (keys : List ℕ) (r : ℕ) : Type 0 where
  pub low : r ≤ length keys
  pub own : 0 < r → get_or keys (r - 1) 0 ≡ b
  pub most : (i : ℕ) → i < length keys → get_or keys i 0 ≡ b → i < r

-- how many words there are
abbrev pub list_words : ℕ
list_words = 24578

-- Words that list the entries of each key up to 2048: words 0 to 2048 the first entry of a key, 2049 to 4097 the last
-- one, and from 4098 on for each entry the next one of its key; each as its place + 1, 0 for none. Key 0 has no
-- entry, and an entry with key 0 is on no list.
pub record Listed (ws keys : List ℕ) : Type 0 where
  pub size : length ws ≡ list_words
  pub few : length keys ≤ 20480
  pub none : get_or ws 0 0 ≡ 0
  pub first : (b : ℕ) → 0 < b → b ≤ 2048 → get_or ws b 0 ≡ first_from b keys 0
  pub last : (b : ℕ) → 0 < b → b ≤ 2048 → IsLast b keys (get_or ws (2049 + b) 0)
  pub next : (e : ℕ) → e < length keys → 0 < get_or keys e 0 → get_or keys e 0 ≤ 2048 → get_or ws (4098 + e) 0 ≡ first_from (get_or keys e 0) keys (e + 1)

-- words with no entry on a list
pub record Unlisted (ws : List ℕ) : Type 0 where
  pub size : length ws ≡ list_words
  pub empty : (i : ℕ) → i < list_words → get_or ws i 0 ≡ 0

-- entry e can be put on the list of b, or on none where b is 0
pub record Linkable (ws : List ℕ) (e b : ℕ) : Type 0 where
  pub size : length ws ≡ list_words
  pub entry : e < 20480
  pub key : b ≤ 2048
  pub last : 0 < b → get_or ws (2049 + b) 0 ≤ 20480

-- words on whose lists entries can be put
pub record Ready (ws : List ℕ) : Type 0 where
  pub size : length ws ≡ list_words
  pub lasts : (b : ℕ) → 0 < b → b ≤ 2048 → get_or ws (2049 + b) 0 ≤ 20480

-- the word that is to lead to the next entry with key b: that of the last one, or the first word of b
unfoldable pub tail_of : List ℕ → ℕ → ℕ
tail_of ws b = cond (eqb (get_or ws (2049 + b) 0) 0) b (4097 + get_or ws (2049 + b) 0)

-- words with entry e at the end of the list of b
unfoldable pub appended : List ℕ → ℕ → ℕ → List ℕ
unfolding tail_of
appended ws e b = set (set (set ws (tail_of ws b) (e + 1)) (2049 + b) (e + 1)) (4098 + e) 0

-- .. nothing for key 0
unfoldable pub entered : List ℕ → ℕ → ℕ → List ℕ
unfolding appended
entered ws e b = cond (eqb b 0) ws (appended ws e b)

-- words with the entries e to e + 4 on the lists of five keys
unfoldable pub entered_all : List ℕ → ℕ → List ℕ → List ℕ
unfolding entered
entered_all ws e bs =
    entered (entered (entered (entered (entered ws e (get_or bs 0 0)) (e + 1) (get_or bs 1 0)) (e + 2) (get_or bs 2 0)) (e + 3) (get_or bs 3 0)) (e + 4) (get_or bs 4 0)
