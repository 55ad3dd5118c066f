-- The tests of a replay (crate `preorder`, Replay) with masks for the lists of used numbers, as the functions make
-- them.
use Rattle.std.specs.Prelude.{◌≡◌, Bool, true, false, not, ◌&&◌, Option, Some, None, List, [], ◌∷◌, ℕ, ◌+◌, length, get_or, eqb, ltb}
use Rattle.masks.specs.Masks.{member, ◌∪◌, single}
use Rattle.hrg.specs.Counts.{tabulate}
use Rattle.hrg.specs.Grammars.{Graph, Grammar, lhs_of, right_of, edge_at}
use Rattle.hrg.specs.Trees.{at, images}
use Rattle.hrg.specs.WellFormedTest.{each}
use Rattle.hrg.specs.ClosureRun.{same_list}
use Rattle.scripts.specs.Scripts.{Script, bad, rows}
use Rattle.preorder.specs.Replay.{number_in, rule_in, place_in, new_nodes}

-- how many rows a text has, where it has some
abbrev pub count_in : Script → Option ℕ
count_in bad = None
count_in (rows rs) = Some (length rs)

-- the graph node on which a row places rule node x
abbrev pub node_in : List ℕ → ℕ → ℕ
node_in row x = get_or row (2 + x) 0

-- a list of at most four nodes in four places, 64 where there is none
unfoldable pub four_of : List ℕ → List ℕ
unfolding tabulate
four_of L = tabulate 4 (λ k. at L k)

-- every number of the list is new: no member of the mask, and not met twice
unfoldable pub new_in : ℕ → List ℕ → Bool
new_in m [] = true
new_in m (v ∷ vs) = let rest = new_in (m ∪ single v) vs in not (member m v) && rest

-- the mask with the numbers of a list
unfoldable pub with_all : ℕ → List ℕ → ℕ
with_all m [] = m
with_all m (v ∷ vs) = with_all (m ∪ single v) vs

-- what is answered of a row that passes or not, with the nodes that are then used
abbrev pub taken_if : Bool → ℕ → Option ℕ
taken_if true m = Some m
taken_if false m = None

-- the row may stand as number n for an edge s on the nodes L, where the nodes of the mask are used
unfoldable pub row_passes : Grammar → Graph → ℕ → ℕ → List ℕ → ℕ → List ℕ → Bool
unfolding each same_list new_in new_nodes
row_passes G H n s L used row =
    let r = rule_in row in
    let P = right_of G r in
    eqb (number_in row) n
    && ltb r (length G.rules)
    && eqb (lhs_of G r) s
    && eqb (length row) (2 + (P.nodes + length P.edges))
    && each (place_in P row) (λ v. ltb v H.nodes)
    && same_list (images (place_in P row) P.externals) L
    && new_in used (new_nodes P row)

-- graph edge g has the label s, lies on exactly the nodes L, and is no member of the mask
unfoldable pub edge_passes : Graph → ℕ → List ℕ → ℕ → ℕ → Bool
unfolding same_list
edge_passes H s L used g =
    ltb g (length H.edges)
    && eqb (edge_at H.edges g).label s
    && same_list (edge_at H.edges g).attachment L
    && not (member used g)

-- what the functions are told of a row: its fields are those that its rule needs, and it places rule nodes on graph
-- nodes
pub record SizedRow (G : Grammar) (H : Graph) (row : List ℕ) : Type 0 where
  pub rule : ltb (rule_in row) (length G.rules) ≡ true
  pub sized : eqb (length row) (2 + ((right_of G (rule_in row)).nodes + length (right_of G (rule_in row)).edges)) ≡ true
  pub placed : each (place_in (right_of G (rule_in row)) row) (λ v. ltb v H.nodes) ≡ true
