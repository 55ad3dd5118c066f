-- What the list of applications holds: those that are listed in front, the records that are due at its end.
use Rattle.std.specs.Prelude.{◌≡◌, List, ◌++◌, ℕ, ◌+◌, ◌≤◌, Option, Some, None, IfSome, length, take, drop}
use Rattle.extraction.specs.Listing.{Listing, endless, listed}

-- the children stand in front of what stood from `top` on, and nothing before them has changed
pub record Pushed (children list : List ℕ) (top : ℕ) (now : List ℕ) (r : ℕ) : Type 0 where
  pub same : length now ≡ length list
  pub place : r + length children ≡ top
  pub front : take r now ≡ take r list
  pub back : drop r now ≡ children ++ drop top list

-- the first n records of a list; none for an endless one
abbrev pub first_of : List ℕ → Option ℕ → Listing
first_of list None = endless
first_of list (Some n) = listed (take n list)

-- a listing of at most `limit` records is the first n of a list
pub record ListedIn (limit : ℕ) (l : Listing) (list : List ℕ) (n : Option ℕ) : Type 0 where
  pub few : IfSome n (λ k. k ≤ limit)
  pub whole : l ≡ first_of list n
