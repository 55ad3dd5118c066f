-- What the functions of question 8's check promise one another.
use Rattle.std.specs.Prelude.{◌≡◌, ◌⊎◌, ◌&&◌, ⊤, Bool, true, false, cond, List, ℕ, ◌+◌, ◌*◌, ◌/◌, ◌^◌, ◌≤◌, ◌<◌, min, get_or, drop, eqb, ltb, Option, MatchOption, Result, is_ok}
use Rattle.std.specs.Int.Bits.{bit_or}
use Rattle.hrg.specs.Counts.{tabulate}
use Rattle.questions.specs.Layout.{place_of, line_field, rule_count}
use Rattle.questions.specs.Questions.{listed, judge}
use Rattle.questions.specs.Reading.{next}
use Rattle.questions.specs.Checking.{fields_due, stored_fields}
use Rattle.questions.specs.declared.Due.{Due}
use Rattle.questions.specs.declared.Due.TheVariants.{Rule, Nothing}
use Rattle.questions.specs.declared.Refusal.{Refusal}
use Rattle.tables.specs.Marks.{marks, nodes_at, Listed}

-- the words from a on are 0, as far as b
abbrev pub Zero : List ℕ → ℕ → ℕ → Type 0
Zero t a b = (i : ℕ) → a ≤ i → i < b → get_or t i 0 ≡ 0

-- r says whether they are
pub record Zeros (t : List ℕ) (a b : ℕ) (r : Bool) : Type 0 where
  pub yes : r ≡ true → Zero t a b
  pub no : r ≡ false → Zero t a b → ⊥

-- one word made of those from a to i
pub record Gathered (t : List ℕ) (a i any : ℕ) : Type 0 where
  pub yes : any ≡ 0 → Zero t a i
  pub no : Zero t a i → any ≡ 0

-- that of eight more
abbrev pub eight_from : List ℕ → ℕ → ℕ → ℕ
eight_from t i any =
    bit_or (bit_or (bit_or (bit_or
    (bit_or (bit_or (bit_or (bit_or any (get_or t i 0)) (get_or t (i + 1) 0)) (get_or t (i + 2) 0)) (get_or t (i + 3) 0))
    (get_or t (i + 4) 0)) (get_or t (i + 5) 0)) (get_or t (i + 6) 0)) (get_or t (i + 7) 0)

-- what the word of the line at place p has behind its first n fields
unfoldable pub behind : List ℕ → ℕ → ℕ → ℕ
behind t p n = get_or t p 0 / 2 ^ (7 * n)

-- r says whether nothing is refused of the n fields of the line at place p, and nothing is behind them, where J says
-- what the questions of its kind answer
pub record Judged (J : List ℕ → Result ⊤ Refusal → Type 0) (t : List ℕ) (p n : ℕ) (r : Bool) : Type 0 where
  pub answer : Result ⊤ Refusal
  pub asked : J (tabulate n (λ j. line_field t p j)) answer
  pub so : r ≡ (is_ok answer && eqb (behind t p n) 0)

-- the line that is due stands in t: it passes, and there is nothing behind its fields
pub record Standing (g t : List ℕ) (due : Due) : Type 0 where
  pub passed : judge g t due (stored_fields g t t due) ≡ 0
  pub rest : behind t (place_of due) (fields_due g t t due) ≡ 0

-- r says whether it does
pub record Stands (g t : List ℕ) (due : Due) (r : Bool) : Type 0 where
  pub yes : r ≡ true → Standing g t due
  pub no : r ≡ false → Standing g t due → ⊥

-- the n nodes of the line at place p are in range and distinct, with nothing behind them, and `seen` is their set
pub record Ending (nodes : ℕ) (t : List ℕ) (p n seen : ℕ) : Type 0 where
  pub kept : Listed nodes (nodes_at t p n) seen
  pub rest : behind t p (1 + n) ≡ 0

-- their set is found where they are
abbrev pub Attached : ℕ → List ℕ → ℕ → ℕ → Option ℕ → Type 0
Attached nodes t p n found = MatchOption found (listed nodes (nodes_at t p n) ≡ true → behind t p (1 + n) ≡ 0 → ⊥) (λ seen. Ending nodes t p n seen)

-- the line that is due, an edge's, stands in t but for question 6, which the last one answers for all edges
pub record Nearly (g t : List ℕ) (due : Due) : Type 0 where
  pub passed : (judge g t due (stored_fields g t t due) ≡ 0) ⊎ (judge g t due (stored_fields g t t due) ≡ 6)
  pub rest : behind t (place_of due) (fields_due g t t due) ≡ 0

-- it does, and `seen` is the set of its nodes
pub record NearlyWith (g t : List ℕ) (due : Due) (seen : ℕ) : Type 0 where
  pub stands : Nearly g t due
  pub set : seen ≡ marks 0 (drop 1 (stored_fields g t t due))

-- the set is found where it does
abbrev pub NearlyStands : List ℕ → List ℕ → Due → Option ℕ → Type 0
NearlyStands g t due found = MatchOption found (Nearly g t due → ⊥) (λ seen. NearlyWith g t due seen)

-- From `due` on the lines stand in t one after the other, and the words between them, from `from` on as far as
-- `size`, are 0.
pub data Rest (size : ℕ) (g t : List ℕ) : Due → ℕ → Type 0 where
  last : {from : ℕ} → Zero t from size → Rest size g t Nothing from
  line : {due : Due} {from : ℕ} → Zero t from (place_of due) → Standing g t due → Rest size g t (next t due) (place_of due + 1) → Rest size g t due from

-- r says whether it is so
pub record Concludes (size : ℕ) (g t : List ℕ) (due : Due) (from : ℕ) (r : Bool) : Type 0 where
  pub yes : r ≡ true → Rest size g t due from
  pub no : r ≡ false → Rest size g t due from → ⊥

-- From `due` on the table is in order exactly where it is so from `then` on: the lines between stand, and the words
-- between them are 0.
pub record Leads (size : ℕ) (g t : List ℕ) (due : Due) (from : ℕ) (then : Due) (to : ℕ) : Type 0 where
  pub onward : Rest size g t due from → Rest size g t then to
  pub back : Rest size g t then to → Rest size g t due from

-- r says whether it is so; where it is not, the table is not in order
pub record Reaches (size : ℕ) (g t : List ℕ) (due : Due) (from : ℕ) (then : Due) (to : ℕ) (r : Bool) : Type 0 where
  pub yes : r ≡ true → Leads size g t due from then to
  pub no : r ≡ false → Rest size g t due from → ⊥

-- n is the count that stands in a table, and neither 0 nor above `most`
pub record Count (n word most : ℕ) : Type 0 where
  pub same : n ≡ word
  pub some : 1 ≤ n
  pub few : n ≤ most

-- what is due after the last plan line of rule r
abbrev pub rule_after : List ℕ → ℕ → Due
rule_after t r = cond (ltb (r + 1) (min 64 (rule_count t))) (Rule (r + 1)) Nothing
