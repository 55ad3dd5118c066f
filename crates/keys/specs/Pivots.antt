-- The pivot of a rule and a plan node: a rule node whose image tells apart the items that an active item there can be
-- joined with.
use Rattle.std.specs.Prelude.{◌≡◌, Bool, true, ◌&&◌, cond, List, ℕ, zero, suc, ◌/◌, ◌%◌, ◌≤◌, ◌<◌, length}
use Rattle.masks.specs.Masks.{member}
use Rattle.hrg.specs.Grammars.{Rule, Grammar, introduce, join, rule_of, right_of, plan_of, plan_node}
use Rattle.hrg.specs.Trees.{at}
use Rattle.hrg.specs.Items.{is_open_at}
use Rattle.questions.specs.Abstract.{grammar_of}
use Rattle.joins.specs.Joins.{edge_nodes}
use Rattle.rules.specs.Wants.{want_of}

-- A pivot is one number: a position of the edge that the plan node above introduces (4: none, or that is a join), and
-- a rule node (8: none).
abbrev pub position_of : ℕ → ℕ
position_of w = w / 16

abbrev pub node_of : ℕ → ℕ
node_of w = w % 16

-- neither
abbrev pub no_pivot : ℕ
no_pivot = 72

-- ---- what a pivot has to be
-- at the child p of a plan node that introduces an edge with the nodes A: a position of the edge and its node, which is
-- open at p
pub record EdgePivot (R : Rule) (p : ℕ) (A : List ℕ) (w : ℕ) : Type 0 where
  pub position : (w ≡ no_pivot → ⊥) → position_of w < length A
  pub node : (w ≡ no_pivot → ⊥) → node_of w ≡ at A (position_of w)
  pub opened : (w ≡ no_pivot → ⊥) → is_open_at R p (node_of w) ≡ true

-- at the two children p and p' of a join: one node for both, which is open at both
pub record JoinPivot (R : Rule) (p p' w w' : ℕ) : Type 0 where
  pub same : node_of w ≡ node_of w'
  pub known : node_of w < 8 → node_of w < R.production.right.nodes
  pub first : node_of w < 8 → is_open_at R p (node_of w) ≡ true
  pub second : node_of w < 8 → is_open_at R p' (node_of w) ≡ true

-- pivots for g, where `uses` has for each symbol the positions of those that want it; which of the nodes that would
-- do are taken is left open
pub record PivotChoice (g : List ℕ) (pivot : ℕ → ℕ → ℕ) (uses : ℕ → ℕ) : Type 0 where
  pub edge : (r q c i : ℕ) → q < length (plan_of (grammar_of g) r) → plan_node (plan_of (grammar_of g) r) q ≡ introduce c i → EdgePivot (rule_of (grammar_of g) r) c (edge_nodes g r i) (pivot r c)
  pub join : (r q a b : ℕ) → q < length (plan_of (grammar_of g) r) → plan_node (plan_of (grammar_of g) r) q ≡ join a b → JoinPivot (rule_of (grammar_of g) r) a b (pivot r a) (pivot r b)
  pub used : (r p s : ℕ) → want_of (grammar_of g) r p ≡ s → s < 64 → member (uses s) (position_of (pivot r p)) ≡ true

-- ---- the pivots that are taken
-- the last number below n that passes, 8 for none
unfoldable pub last_to : ℕ → (ℕ → Bool) → ℕ
last_to zero t = 8
last_to (suc n) t = cond (t n) n (last_to n t)

-- the last rule node that is open at both plan nodes
unfoldable pub shared_node : Grammar → ℕ → ℕ → ℕ → ℕ
unfolding last_to is_open_at
shared_node G r p p' = last_to (right_of G r).nodes (λ x. is_open_at (rule_of G r) p x && is_open_at (rule_of G r) p' x)

-- what plan node q, if p is a child of it, asks of the pivot w of p
pub record PivotBelow (g : List ℕ) (r p q w : ℕ) : Type 0 where
  pub edge : (i : ℕ) → plan_node (plan_of (grammar_of g) r) q ≡ introduce p i → EdgePivot (rule_of (grammar_of g) r) p (edge_nodes g r i) w
  pub first : (b : ℕ) → plan_node (plan_of (grammar_of g) r) q ≡ join p b → node_of w ≡ shared_node (grammar_of g) r p b
  pub second : (a : ℕ) → plan_node (plan_of (grammar_of g) r) q ≡ join a p → node_of w ≡ shared_node (grammar_of g) r p a

-- the same for every plan node of the rule
pub record PivotOf (g : List ℕ) (r p w : ℕ) : Type 0 where
  pub small : w ≤ no_pivot
  pub each : (q : ℕ) → q < length (plan_of (grammar_of g) r) → PivotBelow g r p q w
