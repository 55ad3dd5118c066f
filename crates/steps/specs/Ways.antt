-- How the partners of a record are gone through: on the lists of its keys, up to five at once.
use Rattle.std.specs.Prelude.{Bool, List, ◌≡◌, ℕ, ◌≤◌}
use Rattle.lists.specs.Cursors.{least_of, SkimsAll}

-- from the cursors bs over quiet records: record k is the least at which one of the cursors cs is then
pub record Rests (quiet : ℕ → Bool) (ws : List ℕ) (n : ℕ) (bs : List ℕ) (k : ℕ) (cs : List ℕ) : Type 0 where
  pub few : k ≤ 4096
  pub least : k ≡ least_of cs
  pub skims : SkimsAll quiet ws n bs cs
