-- A derivation tree as rows of numbers, one row for each application (01, 'Derivation file').
use Rattle.std.specs.Prelude.{◌≡◌, List, [], ◌∷◌, ◌++◌, ℕ, suc, ◌+◌, ◌≤◌}
use Rattle.hrg.specs.Grammars.{Graph, Grammar}
use Rattle.hrg.specs.Trees.{Tree, Parts, apply, end, edge, tree, Generates}

-- the number of applications, each 1
unfoldable mutual
  pub size : Tree → ℕ
  size (apply r place ps) = suc (size_in ps)

  pub size_in : Parts → ℕ
  size_in end = 0
  size_in (edge g ps) = size_in ps
  size_in (tree t ps) = size t + size_in ps

-- For each part the graph edge, or the number of the application that replaces it, where the first application under
-- the parts has number n.
unfoldable pub part_numbers : ℕ → Parts → List ℕ
unfolding size
part_numbers n end = []
part_numbers n (edge g ps) = g ∷ part_numbers n ps
part_numbers n (tree t ps) = n ∷ part_numbers (n + size t) ps

-- 'Numbering is from the top: an application, then its parts in edge order, each with everything under it before the
-- next part.' A row: its number, its rule, the graph node of each rule node, then a number for each part.
unfoldable mutual
  unfolding size part_numbers

  pub tree_rows : ℕ → Tree → List (List ℕ)
  tree_rows n (apply r place ps) = (n ∷ r ∷ (place ++ part_numbers (n + 1) ps)) ∷ part_rows (n + 1) ps

  pub part_rows : ℕ → Parts → List (List ℕ)
  part_rows n end = []
  part_rows n (edge g ps) = part_rows n ps
  part_rows n (tree t ps) = tree_rows n t ++ part_rows (n + size t) ps

-- 'All numbering starts at 0.'
unfoldable pub rows_of : Tree → List (List ℕ)
unfolding tree_rows
rows_of t = tree_rows 0 t

-- The rows are those of a tree that generates the graph and has at most 4,096 applications.
pub record Derives (G : Grammar) (H : Graph) (rows : List (List ℕ)) : Type 0 where
  pub derivation : Tree
  pub listed : rows ≡ rows_of derivation
  pub generates : Generates G H derivation
  pub small : size derivation ≤ 4096
