-- The ranking of a chart's records: a set of numbers in words, whose least is that of the first waiting record of
-- least count.
use Rattle.std.specs.Prelude.{Option, Some, None, Bool, ◌&&◌, not, cond, List, ◌≡◌, ℕ, ◌+◌, ◌*◌, ◌%◌, ◌≤◌, ◌<◌, length, get_or, set, take, drop, eqb, ltb}
use Rattle.agenda.specs.declared.Record.{Record}
use Rattle.agenda.specs.Records.{is_handled}
use Rattle.agenda.specs.Consequences.{record_in}
use Rattle.agenda.specs.Steps.{handled_now}
use Rattle.queues.specs.Queues.{holds, Levels}

-- what a record is in the ranking: 0 if it does not wait, else a number that is less for a lesser count and, of equal
-- counts, for an earlier place
unfoldable pub order_of : Bool → ℕ → ℕ → ℕ
order_of waits j n = cond waits (4096 * n + j + 1) 0

-- whether there is a record at place j that waits
unfoldable pub waits_at : List Record → ℕ → Bool
waits_at rs j = ltb j (length rs) && not (is_handled (record_in rs j))

-- the order of the record at place j: 0 where there is no such record or it is handled
unfoldable pub order_at : List Record → ℕ → ℕ
unfolding order_of waits_at
order_at rs j = order_of (waits_at rs j) j (record_in rs j).item.count

-- ---- in words
-- the words of the set
abbrev pub set_of : List ℕ → List ℕ
set_of w = take 4229 (drop 2 w)

-- no waiting record has a count below the base
abbrev pub Based : ℕ → List Record → Type 0
Based base rs = (j : ℕ) → (order_at rs j ≡ 0 → ⊥) → 4096 * base + j < order_at rs j

-- the set holds 4096 * n + j for each waiting record at place j whose count is base + n, with n below 32
abbrev pub Held : ℕ → List ℕ → List Record → Type 0
Held base ws rs = (p : ℕ) → p < 131072 → holds ws p ≡ eqb (order_at rs (p % 4096)) (4096 * base + p + 1)

-- no waiting record has a count of base + 32 or more
abbrev pub Whole : ℕ → List Record → Type 0
Whole base rs = (j : ℕ) → order_at rs j ≤ 4096 * base + 131072

-- how many words there are
abbrev pub rank_words : ℕ
rank_words = 4231

-- the words are the ranking of the records: word 1 is the base, and the set follows. Where word 0 is 0 the set holds
-- every waiting record, where it is 1 those of a count of base + 32 or more may be missing, and where it is 2 the
-- other words say nothing
pub record Ranked (w : List ℕ) (rs : List Record) : Type 0 where
  pub size : length w ≡ rank_words
  pub levels : get_or w 0 0 < 2 → Levels (set_of w)
  pub based : get_or w 0 0 < 2 → Based (get_or w 1 0) rs
  pub held : get_or w 0 0 < 2 → Held (get_or w 1 0) (set_of w) rs
  pub whole : get_or w 0 0 ≡ 0 → Whole (get_or w 1 0) rs

-- words that are 0: the ranking of no records
pub record Blank (w : List ℕ) : Type 0 where
  pub size : length w ≡ rank_words
  pub zeros : (n : ℕ) → get_or w n 0 ≡ 0

-- the records rs' have the orders of rs, but p at place j
pub record Replaces (j p : ℕ) (rs rs' : List Record) : Type 0 where
  pub given : order_at rs' j ≡ p
  pub others : (k : ℕ) → (k ≡ j → ⊥) → order_at rs' k ≡ order_at rs k

-- the records, of which the one found is handled
abbrev pub taken_from : List Record → Option ℕ → List Record
taken_from rs None = rs
taken_from rs (Some j) = set rs j (handled_now (record_in rs j))
