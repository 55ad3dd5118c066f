-- The numbers of a list as a mask, as question 6 collects the nodes on edges.
use Rattle.std.specs.Prelude.{◌≡◌, true, false, cond, List, [], ◌++◌, ℕ, zero, suc, ◌+◌, ltb, fold, Option, MatchOption}
use Rattle.masks.specs.Masks.{◌∪◌, single}
use Rattle.hrg.specs.Counts.{tabulate}
use Rattle.questions.specs.Layout.{line_field, rank_at}
use Rattle.questions.specs.Questions.{listed}

-- m with x; a number from 64 on has no place in a mask
unfoldable pub marked : ℕ → ℕ → ℕ
marked m x = cond (ltb x 64) (m ∪ single x) m

-- m with the numbers of a list
unfoldable pub marks : ℕ → List ℕ → ℕ
marks m xs = fold marked m xs

-- the n nodes of the edge's line at place p
abbrev pub nodes_at : List ℕ → ℕ → ℕ → List ℕ
nodes_at t p n = tabulate n (λ k. line_field t p (1 + k))

-- the nodes on the n edges whose lines stand in t from place p on
unfoldable pub nodes_from : List ℕ → List ℕ → ℕ → ℕ → List ℕ
unfolding tabulate
nodes_from g t p zero = []
nodes_from g t p (suc n) = nodes_from g t p n ++ nodes_at t (p + n) (rank_at g (line_field t (p + n) 0))

-- the nodes of a list are in range and distinct, and `seen` is their set
pub record Listed (nodes : ℕ) (l : List ℕ) (seen : ℕ) : Type 0 where
  pub kept : listed nodes l ≡ true
  pub set : seen ≡ marks 0 l

-- their set is found where they are
abbrev pub Distinct : ℕ → List ℕ → Option ℕ → Type 0
Distinct nodes l found = MatchOption found (listed nodes l ≡ false) (λ seen. Listed nodes l seen)
