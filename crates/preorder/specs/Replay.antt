-- The replay of rows (01, 'In a replay ..', question 13): an application replays its edges in order, and each
-- nonterminal edge replays its own application. What is used is kept in lists, in the order of use; proofs/Used joins
-- them with masks.
use Rattle.std.specs.Prelude.{◌≡◌, Bool, true, false, ◌&&◌, List, [], ◌∷◌, ◌++◌, ℕ, zero, suc, ◌+◌, ◌*◌, ◌<◌, length, get_or, take, drop, T, eqb, ltb}
use Rattle.hrg.specs.Counts.{hit, occurs, select, up_to, tabulate}
use Rattle.hrg.specs.Grammars.{Kind, terminal, nonterminal, Edge, Graph, Grammar, kind_of, lhs_of, right_of, edge_at}
use Rattle.hrg.specs.Trees.{images, internals}
use Rattle.hrg.specs.WellFormedTest.{between_test, every, each}
use Rattle.hrg.specs.ClosureRun.{same_list}

-- How far a replay came: the number of the next row, the graph edges used, and the graph nodes used, which are the
-- external and the inner ones.
pub data State : Type 0 where
  reached : (next : ℕ) (edges nodes : List ℕ) → State
  failed : State

abbrev pub check : Bool → State → State
check true st = st
check false st = failed

abbrev pub by_kind : Kind → State → State → State
by_kind terminal x y = x
by_kind nonterminal x y = y

-- every number of the second list is new: not used, and not met twice
unfoldable pub fresh : List ℕ → List ℕ → Bool
unfolding occurs hit
fresh used [] = true
fresh used (v ∷ vs) = let rest = fresh (v ∷ used) vs in eqb (occurs v used) 0 && rest

pub record Fresh (used vs : List ℕ) : Type 0 where
  pub passes : T (fresh used vs)

-- ---- the fields of a row
abbrev pub number_in : List ℕ → ℕ
number_in row = get_or row 0 0

abbrev pub rule_in : List ℕ → ℕ
rule_in row = get_or row 1 0

-- the graph node of each rule node
abbrev pub place_in : Graph → List ℕ → List ℕ
place_in P row = take P.nodes (drop 2 row)

-- a number for each rule edge
abbrev pub fields_in : Graph → List ℕ → List ℕ
fields_in P row = drop P.nodes (drop 2 row)

-- where an application places the rule nodes that are not external
unfoldable pub new_nodes : Graph → List ℕ → List ℕ
unfolding internals select up_to tabulate occurs hit
new_nodes P row = images (place_in P row) (internals P)

-- The row may stand as number n for an edge s on the nodes L, where the given nodes are used.
unfoldable pub row_test : Grammar → Graph → ℕ → ℕ → List ℕ → List ℕ → List ℕ → Bool
unfolding each same_list fresh new_nodes
row_test G H n s L used row =
    let r = rule_in row in
    let P = right_of G r in
    eqb (number_in row) n
    && ltb r (length G.rules)
    && eqb (lhs_of G r) s
    && eqb (length row) (2 + (P.nodes + length P.edges))
    && each (place_in P row) (λ v. ltb v H.nodes)
    && same_list (images (place_in P row) P.externals) L
    && fresh used (new_nodes P row)

-- what the test says
pub record RowOk (G : Grammar) (H : Graph) (n s : ℕ) (L used row : List ℕ) : Type 0 where
  pub number : number_in row ≡ n
  pub known : rule_in row < length G.rules
  pub lhs : lhs_of G (rule_in row) ≡ s
  pub sized : length row ≡ 2 + ((right_of G (rule_in row)).nodes + length (right_of G (rule_in row)).edges)
  pub placed : (v : ℕ) → 0 < occurs v (place_in (right_of G (rule_in row)) row) → v < H.nodes
  pub externals : images (place_in (right_of G (rule_in row)) row) (right_of G (rule_in row)).externals ≡ L
  pub new : Fresh used (new_nodes (right_of G (rule_in row)) row)

-- Graph edge g has the label s, lies on exactly the nodes L, and is not used.
unfoldable pub edge_test : Graph → ℕ → List ℕ → List ℕ → ℕ → Bool
unfolding same_list fresh
edge_test H s L used g =
    ltb g (length H.edges)
    && eqb (edge_at H.edges g).label s
    && same_list (edge_at H.edges g).attachment L
    && fresh used (g ∷ [])

-- what the test says
pub record EdgeFits (H : Graph) (s : ℕ) (L used : List ℕ) (g : ℕ) : Type 0 where
  pub known : g < length H.edges
  pub label : (edge_at H.edges g).label ≡ s
  pub attachment : (edge_at H.edges g).attachment ≡ L
  pub new : Fresh used (g ∷ [])

-- The field of a nonterminal edge is the number of the next row, n.
abbrev pub part_test : ℕ → ℕ → Bool
part_test n f = eqb f n

-- ---- the replay, with so many calls left
unfoldable mutual
  unfolding row_test edge_test new_nodes

  -- the next row, for an edge s on the nodes L
  pub replay_at : ℕ → Grammar → Graph → List (List ℕ) → ℕ → List ℕ → State → State
  replay_at zero G H rows s L st = failed
  replay_at (suc k) G H rows s L failed = failed
  replay_at (suc k) G H rows s L (reached n es vs) =
      let row = get_or rows n [] in
      let P = right_of G (rule_in row) in
      let rest = replay_edges k G H rows (place_in P row) P.edges (fields_in P row) (reached (n + 1) es (vs ++ new_nodes P row)) in
      check (ltb n (length rows) && row_test G H n s L vs row) rest

  -- the edges of an application with a placement, and a field for each of them
  pub replay_edges : ℕ → Grammar → Graph → List (List ℕ) → List ℕ → List Edge → List ℕ → State → State
  replay_edges zero G H rows place rs fs st = failed
  replay_edges (suc k) G H rows place rs fs failed = failed
  replay_edges (suc k) G H rows place [] [] (reached n es vs) = reached n es vs
  replay_edges (suc k) G H rows place [] (f ∷ fs) (reached n es vs) = failed
  replay_edges (suc k) G H rows place (e ∷ rs) [] (reached n es vs) = failed
  replay_edges (suc k) G H rows place (e ∷ rs) (f ∷ fs) (reached n es vs) =
      let L = images place e.attachment in
      let used = replay_edges k G H rows place rs fs (reached n (es ++ f ∷ []) vs) in
      let under = replay_edges k G H rows place rs fs (replay_at k G H rows e.label L (reached n es vs)) in
      by_kind (kind_of G e.label) (check (edge_test H e.label L es f) used) (check (part_test n f) under)

-- all rows, graph edges and graph nodes are used
unfoldable pub whole : Graph → List (List ℕ) → State → Bool
unfolding every occurs hit
whole H rows failed = false
whole H rows (reached n es vs) =
    eqb n (length rows) && every (length H.edges) (λ e. ltb 0 (occurs e es)) && every H.nodes (λ v. ltb 0 (occurs v vs))

-- what the test says
pub record Whole (H : Graph) (rows : List (List ℕ)) (n : ℕ) (es vs : List ℕ) : Type 0 where
  pub all_rows : n ≡ length rows
  pub all_edges : (e : ℕ) → e < length H.edges → 0 < occurs e es
  pub all_nodes : (v : ℕ) → v < H.nodes → 0 < occurs v vs

-- 'the number of applications (1-4,096)'
abbrev pub count_test : List (List ℕ) → Bool
count_test rows = between_test 1 (length rows) 4096

-- An application takes a call for itself, one for each of its edges, at most 8, and one for their end.
abbrev pub calls : List (List ℕ) → ℕ
calls rows = 10 * length rows

-- the replay, from one edge with the start symbol on the external nodes
unfoldable pub replayed : Grammar → Graph → List (List ℕ) → State
unfolding replay_at
replayed G H rows = replay_at (calls rows) G H rows G.start H.externals (reached 0 [] H.externals)

-- The rows are those of a derivation of the graph with 1 to 4,096 applications.
unfoldable pub replays : Grammar → Graph → List (List ℕ) → Bool
unfolding whole replayed
replays G H rows = count_test rows && whole H rows (replayed G H rows)
