-- What the functions say of accepted tables: masks of rule edges and of open nodes, and maps of eight rule nodes.
use Rattle.std.specs.Prelude.{◌≡◌, Option, IfSome, IfNone, Bool, true, false, ◌&&◌, ◌||◌, not, ◌⊎◌, List, [], ◌∷◌, ℕ, zero, suc, ◌+◌, ◌*◌, ◌-◌, ◌^◌, ◌≤◌, ◌<◌, get_or, eqb, ltb}
use Rattle.std.specs.Int.Bits.{bit_or, bit_and, bit_xor}
use Rattle.masks.specs.Masks.{member, ◌∪◌}
use Rattle.hrg.specs.Counts.{occurs, tabulate}
use Rattle.hrg.specs.Grammars.{rule_of, right_of, plan_of, edge_at}
use Rattle.hrg.specs.Trees.{unplaced, at, padded}
use Rattle.hrg.specs.Items.{Item, active, below, is_open, is_open_at, or_else, keep_if}
use Rattle.hrg.specs.WellFormedTest.{every, some}
use Rattle.places.specs.Words.{places_of}
use Rattle.questions.specs.Layout.{line_field, rank_at, rule_count, rule_edges, rule_plan, edge_label, edge_node}
use Rattle.questions.specs.Checking.{check_grammar, check_graph}
use Rattle.questions.specs.Abstract.{grammar_of, graph_of}
use Rattle.joins.specs.declared.Sides.{Sides}

-- ---- what callers know
-- an accepted grammar table and a graph table accepted with it
pub record Accepted (g h : List ℕ) : Type 0 where
  pub grammar : check_grammar g ≡ true
  pub graph : check_graph g h ≡ true

-- a plan node of an accepted grammar table
pub record KnownNode (g : List ℕ) (r p : ℕ) : Type 0 where
  pub grammar : check_grammar g ≡ true
  pub rule : r < rule_count g
  pub node : p < rule_plan g r

-- an edge of a rule of it
pub record KnownEdge (g : List ℕ) (r i : ℕ) : Type 0 where
  pub grammar : check_grammar g ≡ true
  pub rule : r < rule_count g
  pub edge : i < rule_edges g r

-- ---- what lies below a plan node
-- m is the set of the rule edges below plan node p
pub record EdgesBelow (g : List ℕ) (r p m : ℕ) : Type 0 where
  pub members : (i : ℕ) → member m i ≡ ltb 0 (occurs i (below (plan_of (grammar_of g) r) p))

-- ms has the sets for the plan nodes before q
pub record MasksBelow (g : List ℕ) (r q : ℕ) (ms : List ℕ) : Type 0 where
  pub each : (p : ℕ) → p < q → EdgesBelow g r p (get_or ms p 0)

-- ---- open nodes
-- m is the set of the nodes of a list
pub record NodesIn (m : ℕ) (l : List ℕ) : Type 0 where
  pub members : (x : ℕ) → x < 64 → member m x ≡ ltb 0 (occurs x l)

-- the nodes of the edge at place p of table t
unfoldable pub line_nodes : List ℕ → List ℕ → ℕ → List ℕ
unfolding tabulate
line_nodes g t p = tabulate (rank_at g (line_field t p 0)) (λ k. line_field t p (1 + k))

-- some number below n passes both tests
unfoldable pub some_both : (ℕ → Bool) → (ℕ → Bool) → ℕ → Bool
some_both t a zero = false
some_both t a (suc n) = some_both t a n || (t n && a n)

-- one edge more, of the set or not, with its nodes
abbrev pub side_with : Sides → Bool → ℕ → Sides
side_with s true on = record { inside = s.inside ∪ on; outside = s.outside }
side_with s false on = record { inside = s.inside; outside = s.outside ∪ on }

-- the nodes on the edges of the set m, and on the others, of n edges at the places from base on
pub record SidesOf (g t : List ℕ) (base n m : ℕ) (s : Sides) : Type 0 where
  pub inside : (x : ℕ) → x < 64 → member s.inside x ≡ some_both (λ i. member m i) (λ i. ltb 0 (occurs x (line_nodes g t (base + i)))) n
  pub outside : (x : ℕ) → x < 64 → member s.outside x ≡ some_both (λ i. not (member m i)) (λ i. ltb 0 (occurs x (line_nodes g t (base + i)))) n

-- m is the set of the nodes that are inside and external or outside
pub record Boundary (s : Sides) (externals m : ℕ) : Type 0 where
  pub members : (x : ℕ) → x < 64 → member m x ≡ (member s.inside x && (member externals x || member s.outside x))

-- m is the set of the open rule nodes at plan node p
pub record OpenAt (g : List ℕ) (r p m : ℕ) : Type 0 where
  pub members : (x : ℕ) → x < 64 → member m x ≡ is_open_at (rule_of (grammar_of g) r) p x

-- o is the set of the open graph nodes of the edge set m
pub record OpenIn (g h : List ℕ) (m o : ℕ) : Type 0 where
  pub members : (v : ℕ) → v < 64 → member o v ≡ is_open (graph_of g h) m v

-- every open graph node of the edge set m is in the set o
pub record Spans (g h : List ℕ) (m o : ℕ) : Type 0 where
  pub each : (v : ℕ) → v < 64 → is_open (graph_of g h) m v ≡ true → member o v ≡ true

-- the edges of graph node v, by a table of the graph: from word 321 on it has those by place and node
abbrev pub edges_on : List ℕ → ℕ → ℕ
edges_on t v = bit_or (bit_or (get_or t (321 + v) 0) (get_or t (385 + v) 0)) (bit_or (get_or t (449 + v) 0) (get_or t (513 + v) 0))

-- whether graph node v is open in the edge set m, by a table of the graph
unfoldable pub open_by : List ℕ → ℕ → ℕ → Bool
open_by t m v =
    ltb v 64 && (not (eqb (bit_and (edges_on t v) m) 0) && (member (get_or t 256 0) v || not (eqb (bit_and (edges_on t v) (2 ^ 64 - 1 - m)) 0)))

-- whether one of the dropped nodes, of which a word has each xor 64, is open in the edge set m
unfoldable pub loses_one : List ℕ → ℕ → ℕ → Bool
unfolding some
loses_one t m w = some 8 (λ i. open_by t m (bit_xor (get_or (places_of w) i 0) unplaced))

-- ---- maps of rule nodes
-- the nodes of edge i of rule r
abbrev pub edge_nodes : List ℕ → ℕ → ℕ → List ℕ
edge_nodes g r i = (edge_at (right_of (grammar_of g) r).edges i).attachment

-- numbers below 8 as the digits of one number, the last one lowest
unfoldable pub octal : (ℕ → ℕ) → ℕ → ℕ
octal f zero = 0
octal f (suc n) = 8 * octal f n + f n

-- how many nodes edge i of rule r has, and which, as one number
unfoldable pub nodes_word : List ℕ → ℕ → ℕ → ℕ
unfolding octal
nodes_word g r i = rank_at g (edge_label g r i) + 8 * octal (λ k. edge_node g r i k) (rank_at g (edge_label g r i))

-- no place of t from n on has an image
pub record BareFrom (n : ℕ) (t : List ℕ) : Type 0 where
  pub past : (x : ℕ) → n ≤ x → at t x ≡ unplaced

-- every open graph node of the edge set m is the image of one of the first n rule nodes by the map f: `Covers` of
-- crate hrg (Items), told by places
pub record Holds (g h : List ℕ) (m n : ℕ) (f : List ℕ) : Type 0 where
  pub each : (v : ℕ) → v < 64 → is_open (graph_of g h) m v ≡ true → (i : ℕ) × (i < n) × (at f i ≡ v)

-- no place of f has a number above 64, which stands for no image
abbrev pub Plain : List ℕ → Type 0
Plain f = (i : ℕ) → at f i ≤ unplaced

-- each place of f has no image, or one of the first n nodes
abbrev pub Into : ℕ → List ℕ → Type 0
Into n f = (i : ℕ) → (at f i ≡ unplaced) ⊎ (at f i < n)

-- ---- what two sets and maps make
-- two maps of n nodes as one, without the nodes that are not in the set `stays`
abbrev pub open_joined : ℕ → ℕ → List ℕ → List ℕ → List ℕ
open_joined n stays f k = tabulate n (λ x. keep_if (member stays x) (or_else (at f x) (at k x)))

-- whether rule node x, which two maps give an image, is dropped though the image is open in the edge set m
abbrev pub lost_at : ℕ → List ℕ → ℕ → List ℕ → List ℕ → ℕ → Bool
lost_at stays t m f k x = not (member stays x) && open_by t m (or_else (at f x) (at k x))

-- whether no node is
unfoldable pub none_lost : ℕ → ℕ → List ℕ → ℕ → List ℕ → List ℕ → Bool
unfolding every
none_lost n stays t m f k = every n (λ x. not (lost_at stays t m f k x))

-- a list is one active item of rule r at plan node q with the edge set m, and its map is in the eight places of t
pub record OneItem (l : List Item) (r q m : ℕ) (t : List ℕ) : Type 0 where
  pub map : List ℕ
  pub item : l ≡ active r q m map ∷ []
  pub places : t ≡ padded map

-- whether a list of items has one, and the places of its map
pub record Makes (l : List Item) (r q m : ℕ) (x : Option (List ℕ)) : Type 0 where
  pub none : IfNone x (l ≡ [])
  pub one : IfSome x (OneItem l r q m)
