-- Bytes as one number, the first one lowest.
use Rattle.std.specs.Prelude.{◌≡◌, List, [], ◌∷◌, ℕ, zero, suc, ◌+◌, ◌*◌, ◌/◌, ◌%◌, ◌<◌, length, get_or}

-- the number of the n bytes f 0, f 1, ..
unfoldable pub word_by : ℕ → (ℕ → ℕ) → ℕ
word_by zero f = 0
word_by (suc n) f = word_by n (λ i. f (suc i)) * 256 + f 0

-- the word of eight places
unfoldable pub word_of : List ℕ → ℕ
unfolding word_by
word_of l = word_by 8 (λ i. get_or l i 0)

-- that of eight places that have no node
abbrev pub none_word : ℕ
none_word = 4629771061636907072

-- n bytes of a number from the lowest on, and what is left
unfoldable pub bytes_and : ℕ → ℕ → List ℕ
bytes_and zero w = w ∷ []
bytes_and (suc n) w = w % 256 ∷ bytes_and n (w / 256)

-- the eight places of a word; the last one has what is left, so that every number is the word of its places
unfoldable pub places_of : ℕ → List ℕ
unfolding bytes_and
places_of w = bytes_and 7 w

-- eight places of a byte each
pub record Places (l : List ℕ) : Type 0 where
  pub size : length l ≡ 8
  pub bytes : (i : ℕ) → get_or l i 0 < 256

-- eight places of which all but the last are bytes: just those that are read again from their word
pub record Readable (l : List ℕ) : Type 0 where
  pub size : length l ≡ 8
  pub bytes : (i : ℕ) → i < 7 → get_or l i 0 < 256

-- w is the word of the eight places l; what their type tells is said by name
pub record Packed (l : List ℕ) (w : ℕ) : Type 0 where
  pub value : w ≡ word_of l
  pub places : Places l
