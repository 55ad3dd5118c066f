-- What an active item at a plan node can be joined with above it, as one number.
use Rattle.std.specs.Prelude.{cond, List, [], ◌∷◌, ◌++◌, ℕ, ◌+◌, ◌/◌, ◌%◌, length, get_or, eqb, ltb}
use Rattle.hrg.specs.Grammars.{Grammar, PlanNode, leaf, introduce, join, right_of, plan_of, plan_node, edge_at}
use Rattle.hrg.specs.ClosureRun.{guard, each_to}

-- where nothing can be joined: no symbol and no plan node has this number
abbrev pub nothing : ℕ
nothing = 80

-- what plan node n wants of an item at p: a passive item of its edge's symbol, or an active one at its other child
unfoldable pub wants_at : Grammar → ℕ → ℕ → PlanNode → List ℕ
wants_at G r p leaf = []
wants_at G r p (introduce c i) = guard (eqb c p) ((edge_at (right_of G r).edges i).label ∷ [])
wants_at G r p (join a b) = guard (eqb a p) ((64 + b) ∷ []) ++ guard (eqb b p) ((64 + a) ∷ [])

-- Below 64 a symbol: of the edge that the plan node above introduces. 64 and more: the other child of a join.
-- `nothing` at a root, and where there is no such rule or plan node. Terminal symbols count: the rules join a passive
-- item of any symbol.
unfoldable pub want_of : Grammar → ℕ → ℕ → ℕ
unfolding wants_at
want_of G r p = get_or (each_to (length (plan_of G r)) (λ q. wants_at G r p (plan_node (plan_of G r) q))) 0 nothing

-- what the plan node of a word (`join_word`) wants
unfoldable pub want_by : ℕ → ℕ
want_by w = cond (ltb (w % 32) 16) (cond (eqb (w / 32 % 4) 1) (w / 32 / 4 % 64) (64 + w / 32 / 4)) nothing
