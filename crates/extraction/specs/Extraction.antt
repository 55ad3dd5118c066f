-- The derivation tree that partners spell, from a passive record down. It is the program's choice among derivations;
-- nothing here trusts a chart: whether the tree derives the graph is asked afterwards. `look` gives the record at
-- each place of a chart.
use Rattle.std.specs.Prelude.{List, [], ◌∷◌, ℕ, zero, suc, ◌+◌, ◌-◌, length, get_or, set, take, replicate}
use Rattle.hrg.specs.Counts.{tabulate}
use Rattle.hrg.specs.Grammars.{Kind, terminal, nonterminal, Edge, Graph, PlanNode, leaf, introduce, join, Grammar, kind_of, rank_of, right_of, plan_of, plan_node, edge_at}
use Rattle.hrg.specs.Trees.{unplaced, padded, Tree, Parts, apply, end, edge, tree}
use Rattle.hrg.specs.Items.{joined, attach}
use Rattle.agenda.specs.declared.Record.{Record}

-- ---- what stands for the edges of an application
-- From the record x at a plan node on down: an edge that is introduced takes the second partner of the record at its
-- plan node.
abbrev pub partners_via : (ℕ → ℕ → List ℕ → List ℕ) → Record → List ℕ → PlanNode → List ℕ
partners_via rec x bs leaf = bs
partners_via rec x bs (introduce c i) = rec c x.first (set bs i x.second)
partners_via rec x bs (join a b) = rec b x.second (rec a x.first bs)

-- with so many levels left, from plan node p with the record at j
unfoldable pub partners_within : (ℕ → Record) → List PlanNode → ℕ → ℕ → ℕ → List ℕ → List ℕ
partners_within look pl zero p j bs = bs
partners_within look pl (suc k) p j bs = partners_via (λ c i cs. partners_within look pl k c i cs) (look j) bs (plan_node pl p)

-- the rule of the passive record at j is that of its root item
abbrev pub rule_at : (ℕ → Record) → ℕ → ℕ
rule_at look j = (look (look j).first).item.of

-- For each edge of the rule, in eight places: a graph edge, or the place of a passive record.
unfoldable pub partners_at : (ℕ → Record) → Grammar → ℕ → List ℕ
unfolding partners_within
partners_at look G j =
    let pl = plan_of G (rule_at look j) in
    partners_within look pl (length pl) (length pl - 1) (look j).first (replicate 8 0)

-- ---- where the application places the nodes of its rule
abbrev pub nodes_by : (ℕ → Record) → Graph → Kind → ℕ → List ℕ
nodes_by look H terminal b = padded (edge_at H.edges b).attachment
nodes_by look H nonterminal b = (look b).item.nodes

-- the nodes on which edge e stands by its partner b: those of the graph edge, or those that the record lists
unfoldable pub part_nodes : (ℕ → Record) → Grammar → Graph → Edge → ℕ → List ℕ
unfolding padded
part_nodes look G H e b = take (rank_of G e.label) (nodes_by look H (kind_of G e.label) b)

-- by the first k edges of the right side P, the first edge that a node lies on counting
unfoldable pub placed_by : (ℕ → Record) → Grammar → Graph → Graph → List ℕ → ℕ → List ℕ
unfolding tabulate joined attach part_nodes
placed_by look G H P bs zero = tabulate P.nodes (λ x. unplaced)
placed_by look G H P bs (suc k) =
    joined P.nodes (placed_by look G H P bs k)
    (attach P.nodes (edge_at P.edges k).attachment (part_nodes look G H (edge_at P.edges k) (get_or bs k 0)))

unfoldable pub place_at : (ℕ → Record) → Grammar → Graph → ℕ → List ℕ
unfolding placed_by partners_at
place_at look G H j =
    let P = right_of G (rule_at look j) in
    placed_by look G H P (partners_at look G j) (length P.edges)

-- ---- the tree
pub data Spelt : Type 0 where
  nothing : Spelt
  spelt : Tree → Spelt

pub data SpeltParts : Type 0 where
  nothing_in : SpeltParts
  spelt_in : Parts → SpeltParts

abbrev pub with_edge : ℕ → SpeltParts → SpeltParts
with_edge g nothing_in = nothing_in
with_edge g (spelt_in ps) = spelt_in (edge g ps)

abbrev pub with_tree : Spelt → SpeltParts → SpeltParts
with_tree nothing ps = nothing_in
with_tree (spelt t) nothing_in = nothing_in
with_tree (spelt t) (spelt_in ps) = spelt_in (tree t ps)

abbrev pub with_part : Kind → (ℕ → Spelt) → ℕ → SpeltParts → SpeltParts
with_part terminal rec b ps = with_edge b ps
with_part nonterminal rec b ps = with_tree (rec b) ps

-- the parts for a list of edges, from edge i on
unfoldable pub parts_by : (ℕ → Spelt) → Grammar → List ℕ → List Edge → ℕ → SpeltParts
parts_by rec G bs [] i = spelt_in end
parts_by rec G bs (e ∷ es) i = with_part (kind_of G e.label) rec (get_or bs i 0) (parts_by rec G bs es (i + 1))

abbrev pub applied : ℕ → List ℕ → SpeltParts → Spelt
applied r place nothing_in = nothing
applied r place (spelt_in ps) = spelt (apply r place ps)

-- The tree of the passive record at j, of at most so many levels. A circle of partners has none.
unfoldable pub tree_at : (ℕ → Record) → Grammar → Graph → ℕ → ℕ → Spelt
unfolding parts_by place_at partners_at
tree_at look G H zero j = nothing
tree_at look G H (suc d) j =
    applied (rule_at look j) (place_at look G H j)
    (parts_by (λ b. tree_at look G H d b) G (partners_at look G j) (right_of G (rule_at look j)).edges 0)
