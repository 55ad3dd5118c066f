-- The closure rules of specs/Items as functions into lists, for the agenda to run on.
-- A `let` waits until it is read: what stands behind a test that fails is not computed.
use Rattle.std.specs.Prelude.{Bool, true, false, not, ◌&&◌, ◌||◌, List, [], ◌∷◌, ◌++◌, map, ℕ, zero, suc, length, eqb, leb, ltb}
use Rattle.masks.specs.Masks.{bit, member, ◌∪◌, disjoint, single}
use Rattle.hrg.specs.Counts.{hit, occurs, tabulate}
use Rattle.hrg.specs.Grammars.{Kind, terminal, nonterminal, Edge, Graph, PlanNode, leaf, introduce, join, Rule, Grammar, cost, kind_of, rule_of, right_of, plan_of, plan_node, edge_at}
use Rattle.hrg.specs.Trees.{unplaced, at, images}
use Rattle.hrg.specs.Items.{Item, active, passive, below, is_open, is_open_at, joined, restrict, node_for, attach}
use Rattle.hrg.specs.WellFormedTest.{every}
use Rattle.hrg.specs.AgendaRun.{Conclusion, Rules}

-- ---- equality of items
unfoldable pub same_list : List ℕ → List ℕ → Bool
same_list [] [] = true
same_list [] (y ∷ ys) = false
same_list (x ∷ xs) [] = false
same_list (x ∷ xs) (y ∷ ys) = let rest = same_list xs ys in eqb x y && rest

unfoldable pub same_item : Item → Item → Bool
unfolding same_list
same_item (active r p m f) (active r' p' m' f') =
    let maps = same_list f f' in
    (eqb m m' && eqb r r' && eqb p p') && maps
same_item (active r p m f) (passive s m' L) = false
same_item (passive s m L) (active r p m' f) = false
same_item (passive s m L) (passive s' m' L') =
    let lists = same_list L L' in
    (eqb m m' && eqb s s') && lists

-- ---- lists by tests
-- a list where a test passes
abbrev pub guard : {A : Type 0} → Bool → List A → List A
guard true l = l
guard false l = []

-- what f gives for the numbers below n
abbrev pub each_to : {A : Type 0} → ℕ → (ℕ → List A) → List A
each_to zero f = []
each_to (suc n) f = f n ++ each_to n f

-- ---- Joins
unfoldable pub agree : ℕ → List ℕ → List ℕ → Bool
unfolding every
agree n f g = every n (λ x. leb unplaced (at f x) || leb unplaced (at g x) || eqb (at f x) (at g x))

unfoldable pub one_to_one : ℕ → List ℕ → Bool
unfolding every occurs hit
one_to_one n j = every n (λ v. leb (occurs v j) 1)

unfoldable pub covering : Graph → ℕ → List ℕ → Bool
unfolding every is_open member bit occurs hit
covering H m h = every H.nodes (λ v. let seen = ltb 0 (occurs v h) in not (is_open H m v) || seen)

-- the item of rule r at plan node p that two sets and maps make, if they do
unfoldable pub combine : Graph → Rule → ℕ → ℕ → ℕ → ℕ → List ℕ → List ℕ → List Item
unfolding ◌∪◌ disjoint tabulate joined restrict is_open_at below agree one_to_one covering
combine H R r p m₁ m₂ f g =
    let j = joined R.production.right.nodes f g in
    let h = restrict R p j in
    let covered = guard (covering H (m₁ ∪ m₂) h) (active r p (m₁ ∪ m₂) h ∷ []) in
    let injective = guard (one_to_one H.nodes j) covered in
    let function = guard (agree R.production.right.nodes f g) injective in
    guard (disjoint m₁ m₂) function

-- ---- the five rules
unfoldable pub leaf_at : Grammar → ℕ → ℕ → PlanNode → List Item
unfolding tabulate
leaf_at G r p leaf = active r p 0 (tabulate (right_of G r).nodes (λ x. unplaced)) ∷ []
leaf_at G r p (introduce c i) = []
leaf_at G r p (join a b) = []

unfoldable pub leaves : Grammar → List Item
unfolding leaf_at
leaves G = each_to (length G.rules) (λ r. each_to (length (plan_of G r)) (λ p. leaf_at G r p (plan_node (plan_of G r) p)))

abbrev pub is_terminal : Kind → Bool
is_terminal terminal = true
is_terminal nonterminal = false

-- graph edge g for rule edge e at plan node q
unfoldable pub with_edge : Graph → Rule → ℕ → ℕ → ℕ → List ℕ → Edge → ℕ → List Item
unfolding combine single attach node_for
with_edge H R r q m f e g =
    let made = combine H R r q m (single g) f (attach R.production.right.nodes e.attachment (edge_at H.edges g).attachment) in
    guard (eqb (edge_at H.edges g).label e.label) made

-- an active item of rule r, which is R, at p, and the plan node q
unfoldable pub terminal_at : Grammar → Graph → Rule → ℕ → ℕ → ℕ → List ℕ → ℕ → PlanNode → List Item
unfolding with_edge
terminal_at G H R r p m f q leaf = []
terminal_at G H R r p m f q (introduce c i) =
    let e = edge_at R.production.right.edges i in
    let made = each_to (length H.edges) (λ g. with_edge H R r q m f e g) in
    guard (eqb c p && is_terminal (kind_of G e.label)) made
terminal_at G H R r p m f q (join a b) = []

unfoldable pub root_at : Rule → ℕ → ℕ → List ℕ → List (Conclusion Item)
unfolding cost
root_at R p m f =
    guard (eqb (suc p) (length R.plan)) (record { constant = cost R; item = passive R.production.lhs m (images f R.production.right.externals) } ∷ [])

abbrev pub kept : Item → Conclusion Item
kept i = record { constant = 0; item = i }

unfoldable pub unary_of : Grammar → Graph → Item → List (Conclusion Item)
unfolding terminal_at root_at
unary_of G H (active r p m f) =
    root_at (rule_of G r) p m f
    ++ map kept (each_to (length (plan_of G r)) (λ q. terminal_at G H (rule_of G r) r p m f q (plan_node (plan_of G r) q)))
unary_of G H (passive s m L) = []

-- the same and a passive item
unfoldable pub nonterminal_at : Graph → Rule → ℕ → ℕ → ℕ → List ℕ → ℕ → ℕ → List ℕ → ℕ → PlanNode → List Item
unfolding combine attach node_for
nonterminal_at H R r p m f s m' L q leaf = []
nonterminal_at H R r p m f s m' L q (introduce c i) =
    let e = edge_at R.production.right.edges i in
    let made = combine H R r q m m' f (attach R.production.right.nodes e.attachment L) in
    guard (eqb c p && eqb s e.label) made
nonterminal_at H R r p m f s m' L q (join a b) = []

-- the same and another active item of the rule, at p'
unfoldable pub join_at : Graph → Rule → ℕ → ℕ → ℕ → List ℕ → ℕ → ℕ → List ℕ → ℕ → PlanNode → List Item
unfolding combine
join_at H R r p m f p' m' g q leaf = []
join_at H R r p m f p' m' g q (introduce c i) = []
join_at H R r p m f p' m' g q (join a b) =
    let made = combine H R r q m m' f g in
    guard (eqb a p && eqb b p') made

unfoldable pub binary_of : Grammar → Graph → Item → Item → List Item
unfolding nonterminal_at join_at
binary_of G H (active r p m f) (passive s m' L) =
    each_to (length (plan_of G r)) (λ q. nonterminal_at H (rule_of G r) r p m f s m' L q (plan_node (plan_of G r) q))
binary_of G H (active r p m f) (active r' p' m' g) =
    let made = each_to (length (plan_of G r)) (λ q. join_at H (rule_of G r) r p m f p' m' g q (plan_node (plan_of G r) q)) in
    guard (eqb r r') made
binary_of G H (passive s m L) b = []

abbrev pub rules_of : Grammar → Graph → Rules Item
rules_of G H = record { axioms = leaves G; unary = unary_of G H; binary = binary_of G H; same = same_item }
