-- Five lists gone through at once, by records of five entries: entry 5 * k + i is of record k. A cursor is the place
-- + 1 of an entry, 0 at the end of its list.
use Rattle.std.specs.Prelude.{Bool, true, false, cond, ◌||◌, List, [], ◌∷◌, ◌≡◌, ℕ, ◌+◌, ◌-◌, ◌*◌, ◌/◌, ◌≤◌, ◌<◌, eqb, leb, ltb, length, get_or}
use Rattle.lists.specs.Lists.{Within}

-- one cursor, and four at the end
abbrev pub alone : ℕ → List ℕ
alone c = c ∷ 0 ∷ 0 ∷ 0 ∷ 0 ∷ []

-- each cursor at the first entry of its key; key 0 has none
unfoldable pub starts_of : List ℕ → List ℕ → List ℕ
starts_of ws query =
    get_or ws (get_or query 0 0) 0 ∷ get_or ws (get_or query 1 0) 0 ∷ get_or ws (get_or query 2 0) 0 ∷ get_or ws (get_or query 3 0) 0 ∷ get_or ws (get_or query 4 0) 0 ∷ []

-- the nearer of the place + 1 m and a cursor
unfoldable pub nearer : ℕ → ℕ → ℕ
nearer m c = cond (eqb c 0 || leb m c) m c

-- the nearest of five cursors, 20481 where all are at the end
unfoldable pub nearest_of : List ℕ → ℕ
unfolding nearer
nearest_of cs = nearer (nearer (nearer (nearer (nearer 20481 (get_or cs 0 0)) (get_or cs 1 0)) (get_or cs 2 0)) (get_or cs 3 0)) (get_or cs 4 0)

-- its record, 4096 where all are at the end
unfoldable pub least_of : List ℕ → ℕ
unfolding nearest_of
least_of cs = (nearest_of cs - 1) / 5

-- the entry behind the one that the cursor c is at
abbrev pub after_of : List ℕ → ℕ → ℕ
after_of ws c = get_or ws (4097 + c) 0

-- a cursor at an entry below the place `to` goes on to the next entry of its list
unfoldable pub moved_on : List ℕ → ℕ → ℕ → ℕ
moved_on ws to c = cond (eqb c 0 || ltb to c) c (after_of ws c)

-- each cursor whose record is k or before goes on by one entry
unfoldable pub passed_of : List ℕ → List ℕ → ℕ → List ℕ
unfolding moved_on
passed_of ws cs k =
    moved_on ws (5 * k + 5) (get_or cs 0 0)
    ∷ moved_on ws (5 * k + 5) (get_or cs 1 0)
    ∷ moved_on ws (5 * k + 5) (get_or cs 2 0)
    ∷ moved_on ws (5 * k + 5) (get_or cs 3 0)
    ∷ moved_on ws (5 * k + 5) (get_or cs 4 0)
    ∷ []

-- the cursor c of key b: no entry of that key, from `from` up to `to`, lies before it, unless its record is a quiet one
pub record Points (quiet : ℕ → Bool) (keys : List ℕ) (b from to c : ℕ) : Type 0 where
  pub low : c ≤ length keys
  pub own : 0 < c → (0 < b) × (get_or keys (c - 1) 0 ≡ b)
  pub ahead : (e : ℕ) → from ≤ e → e < to → quiet (e / 5) ≡ false → 0 < b → get_or keys e 0 ≡ b → (0 < c) × (c ≤ e + 1)

-- the cursors of five keys: what the first n records, but for the quiet ones, have from record `done` on lies at the
-- cursors or behind them
pub record Ahead (quiet : ℕ → Bool) (keys query : List ℕ) (n done : ℕ) (cs : List ℕ) : Type 0 where
  pub room : 5 * n ≤ length keys
  pub small : Within 2048 query
  pub points : (i : ℕ) → i < 5 → Points quiet keys (get_or query i 0) (5 * done) (5 * n) (get_or cs i 0)

-- the cursor r is c, or comes after it on its list, and in between there are only entries of quiet records of the
-- first n
pub data Skims (quiet : ℕ → Bool) (ws : List ℕ) (n c : ℕ) : ℕ → Type 0 where
  stays : (r : ℕ) → r ≡ c → Skims quiet ws n c r
  goes : (r d : ℕ) → Skims quiet ws n c d → 0 < d → d ≤ 5 * n → quiet ((d - 1) / 5) ≡ true → r ≡ after_of ws d → Skims quiet ws n c r

-- .. for each of five cursors
abbrev pub SkimsAll : (ℕ → Bool) → List ℕ → ℕ → List ℕ → List ℕ → Type 0
SkimsAll quiet ws n cs ds = (i : ℕ) → i < 5 → Skims quiet ws n (get_or cs i 0) (get_or ds i 0)

-- how far five cursors can still go: it falls as a loop passes their entries
unfoldable pub left_of : ℕ → ℕ
left_of c = cond (eqb c 0) 0 (20481 - c)

unfoldable pub left_all : List ℕ → ℕ
unfolding left_of
left_all cs = left_of (get_or cs 0 0) + left_of (get_or cs 1 0) + left_of (get_or cs 2 0) + left_of (get_or cs 3 0) + left_of (get_or cs 4 0)
