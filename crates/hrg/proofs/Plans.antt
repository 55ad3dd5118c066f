-- What lies below a plan node, step by step; and that a plan is a tree: each edge lies below the root once, and below
-- no node twice.
use mathlib.Core.Path.{◌≡◌, refl, sym, ap, ap₂, ◌∙◌}
use mathlib.Core.List.{List, [], ◌∷◌, ◌++◌}
use Prim.Native.Nat.{ℕ, zero, suc, ◌+◌, ◌-◌, ◌*◌, ◌≤◌, ◌<◌}
use native.Mathlib.Nat.{one-mul, zero-mul, not-suc-le-zero, lt_of_not-le}
use native.Mathlib.Omega.{arith}
use lib.ListN.{length, get_or-eq_default}
use Rattle.hrg.specs.Counts.{occurs}
use Rattle.hrg.specs.Grammars.{PlanNode, leaf, introduce, join, plan_node}
use Rattle.hrg.specs.Items.{below_node, below_within, below}
use Rattle.hrg.specs.WellFormed.{children, introduced, all_children, all_introduced, PlanOk}
use Rattle.hrg.proofs.Sums.{hit_self, sum_to, sum_eq, sum_last, sum_over, sum_over_append, sum_over_member, sum_over_lem, occurs_append, none_left}

-- ---- one plan node, over any list for each child
module _ (i : ℕ) (lists : ℕ → List ℕ) where
  node_count : (n : PlanNode) → occurs i (below_node lists n) ≡ sum_over (λ c. occurs i (lists c)) (children n) + occurs i (introduced n)
  unfolding sum_over occurs
  node_count leaf = refl
  node_count (introduce c e) = omega (arith, occurs_append i (lists c) (e ∷ []))
  node_count (join a b) = omega (arith, occurs_append i (lists a) (lists b))

  plan_count : (pl : List PlanNode)
      → sum_to (length pl) (λ p. occurs i (below_node lists (plan_node pl p))) ≡ sum_over (λ c. occurs i (lists c)) (all_children pl) + occurs i (all_introduced pl)
  unfolding sum_to all_children all_introduced sum_over occurs
  plan_count [] = refl
  plan_count (n ∷ pl) =
      omega (arith, node_count n, plan_count pl, sum_over_append (λ c. occurs i (lists c)) (children n) (all_children pl), occurs_append i (introduced n) (all_introduced pl))

-- a child of some plan node has a parent
parent : (pl : List PlanNode) (c : ℕ) → 0 < occurs c (all_children pl) → (p : ℕ) × (p < length pl) × (0 < occurs c (children (plan_node pl p)))
unfolding all_children occurs
parent [] c h = absurd (not-suc-le-zero h)
parent (n ∷ pl) c h = go (occurs c (children n)) refl (parent pl c)
  where
    go : (k : ℕ) → occurs c (children n) ≡ k → (0 < occurs c (all_children pl) → (p : ℕ) × (p < length pl) × (0 < occurs c (children (plan_node pl p))))
        → (p : ℕ) × (p < suc (length pl)) × (0 < occurs c (children (plan_node (n ∷ pl) p)))
    go zero e ih = let t = ih (omega (arith, occurs_append c (children n) (all_children pl))) in (suc t.0, omega arith, t.2)
    go (suc k) e ih = (0, omega arith, omega arith)

module _ (edges : ℕ) (pl : List PlanNode) (ok : PlanOk edges pl) where
  -- past the end every plan node is a leaf
  inside : (p c : ℕ) → 0 < occurs c (children (plan_node pl p)) → p < length pl
  unfolding occurs
  inside p c h = lt_of_not-le (λ l. omega (arith, ap (λ (n : PlanNode). occurs c (children n)) (get_or-eq_default pl leaf l)))

  lower : (p c : ℕ) → 0 < occurs c (children (plan_node pl p)) → c < p
  lower p c h = ok.lower p c (inside p c h) h

  pub introduce_lower : (p c i : ℕ) → plan_node pl p ≡ introduce c i → c < p
  unfolding occurs
  introduce_lower p c i e = lower p c (omega (arith, ap (λ (n : PlanNode). occurs c (children n)) e, hit_self c))

  pub join_lower : (p a b : ℕ) → plan_node pl p ≡ join a b → (a < p) × (b < p)
  unfolding occurs
  join_lower p a b e =
      (lower p a (omega (arith, ap (λ (n : PlanNode). occurs a (children n)) e, hit_self a)), lower p b (omega (arith, ap (λ (n : PlanNode). occurs b (children n)) e, hit_self b)))

  pub inside_introduce : (p c i : ℕ) → plan_node pl p ≡ introduce c i → p < length pl
  unfolding occurs
  inside_introduce p c i e = inside p c (omega (arith, ap (λ (n : PlanNode). occurs c (children n)) e, hit_self c))

  pub inside_join : (p a b : ℕ) → plan_node pl p ≡ join a b → p < length pl
  unfolding occurs
  inside_join p a b e = inside p a (omega (arith, ap (λ (n : PlanNode). occurs a (children n)) e, hit_self a))

  -- ---- the lists below: the fuel does not matter
  enough : (k j p : ℕ) → p < k → p < j → below_within pl k p ≡ below_within pl j p
  unfolding below_within
  enough zero j p h l = absurd (not-suc-le-zero h)
  enough (suc k) zero p h l = absurd (not-suc-le-zero l)
  enough (suc k) (suc j) p h l = go (λ c q. enough k j c (omega arith) (omega arith)) (plan_node pl p) refl
    where
      go : ((c : ℕ) → c < p → below_within pl k c ≡ below_within pl j c) → (n : PlanNode) → plan_node pl p ≡ n
          → below_node (λ c. below_within pl k c) n ≡ below_node (λ c. below_within pl j c) n
      go ih leaf q = refl
      go ih (introduce c i) q = ap (λ (l : List ℕ). l ++ (i ∷ [])) (ih c (introduce_lower p c i q))
      go ih (join a b) q = ap₂ ◌++◌ (ih a (join_lower p a b q).0) (ih b (join_lower p a b q).1)

  pub below_leaf : (p : ℕ) → plan_node pl p ≡ leaf → below pl p ≡ []
  unfolding below below_within
  below_leaf p q = ap (λ (n : PlanNode). below_node (λ c. below_within pl p c) n) q

  pub below_introduce : (p c i : ℕ) → plan_node pl p ≡ introduce c i → below pl p ≡ below pl c ++ (i ∷ [])
  unfolding below below_within
  below_introduce p c i q =
      ap (λ (n : PlanNode). below_node (λ c. below_within pl p c) n) q
      ∙ ap (λ (l : List ℕ). l ++ (i ∷ [])) (enough p (suc c) c (introduce_lower p c i q) (omega arith))

  pub below_join : (p a b : ℕ) → plan_node pl p ≡ join a b → below pl p ≡ below pl a ++ below pl b
  unfolding below below_within
  below_join p a b q =
      ap (λ (n : PlanNode). below_node (λ c. below_within pl p c) n) q
      ∙ ap₂ ◌++◌ (enough p (suc a) a (join_lower p a b q).0 (omega arith)) (enough p (suc b) b (join_lower p a b q).1 (omega arith))

  pub below_node_is : (p : ℕ) → below pl p ≡ below_node (λ c. below pl c) (plan_node pl p)
  below_node_is p = go (plan_node pl p) refl
    where
      go : (n : PlanNode) → plan_node pl p ≡ n → below pl p ≡ below_node (λ c. below pl c) n
      go leaf q = below_leaf p q
      go (introduce c i) q = below_introduce p c i q
      go (join a b) q = below_join p a b q

  -- ---- how often edge i lies below a plan node
  module _ (i : ℕ) where
    abbrev count : ℕ → ℕ
    count p = occurs i (below pl p)

    count_node : (p : ℕ) → count p ≡ sum_over count (children (plan_node pl p)) + occurs i (introduced (plan_node pl p))
    count_node p = ap (λ (l : List ℕ). occurs i l) (below_node_is p) ∙ node_count i (λ c. below pl c) (plan_node pl p)

    -- counted over all plan nodes: what is below the root is what is introduced
    root_count : (last : ℕ) → suc last ≡ length pl → count last ≡ occurs i (all_introduced pl)
    root_count last size =
        omega (
          arith,
          sum_eq (length pl) count (λ p. occurs i (below_node (λ c. below pl c) (plan_node pl p))) (λ p l. ap (λ (l : List ℕ). occurs i l) (below_node_is p)),
          plan_count i (λ c. below pl c) pl,
          sum_over_lem (suc last) count (all_children pl) known,
          sum_last last (λ q. occurs q (all_children pl) * count q),
          sum_eq last (λ q. occurs q (all_children pl) * count q) count (λ q l. ap (λ (k : ℕ). k * count q) (ok.child_once q (omega arith)) ∙ one-mul (count q)),
          ap (λ (k : ℕ). k * count last) (none_left (occurs last (all_children pl)) (λ h. let l = below_last last h in omega arith)) ∙ zero-mul (count last),
          sum_last last count,
          ap (λ (n : ℕ). sum_to n count) size,
        )
      where
        below_last : (c : ℕ) → 0 < occurs c (all_children pl) → c < last
        below_last c h = let t = parent pl c h in omega (arith, lower t.0 c t.2, t.1)

        known : (c : ℕ) → 0 < occurs c (all_children pl) → c < suc last
        known c h = omega (arith, below_last c h)

    -- no node has more below it than the root
    most : (last k p : ℕ) → suc last ≡ length pl → last - p ≤ k → p ≤ last → count p ≤ count last
    most last zero p size h l = omega (arith, ap count (let e : p ≡ last = omega arith in e))
    most last (suc k) p size h l = go (last - p) refl (λ q i j. most last k q size i j)
      where
        go : (d : ℕ) → last - p ≡ d → ((q : ℕ) → last - q ≤ k → q ≤ last → count q ≤ count last) → count p ≤ count last
        go zero e ih = omega (arith, ap count (let e : p ≡ last = omega arith in e))
        go (suc d) e ih =
            let t = parent pl p (omega (arith, ok.child_once p (omega arith))) in
            let o = lower t.0 p t.2 in
            omega (arith, ih t.0 (omega arith) (omega (arith, t.1)), count_node t.0, sum_over_member count (children (plan_node pl t.0)) p t.2)

    introduced_most : (p : ℕ) → p < length pl → count p ≤ occurs i (all_introduced pl)
    introduced_most p h = go (length pl) refl
      where
        go : (n : ℕ) → length pl ≡ n → count p ≤ occurs i (all_introduced pl)
        go zero e = omega arith
        go (suc last) e = omega (arith, most last (last - p) p (sym e) (omega arith) (omega arith), root_count last (sym e))

  pub below_known : (p i : ℕ) → 0 < occurs i (below pl p) → i < edges
  unfolding occurs
  below_known p i h =
      let l : p < length pl = lt_of_not-le (λ l. omega (arith, ap (λ (l : List ℕ). occurs i l) (below_leaf p (get_or-eq_default pl leaf l)))) in
      ok.edge_known i (omega (arith, introduced_most i p l))

  pub introduce_known : (p c i : ℕ) → plan_node pl p ≡ introduce c i → i < edges
  unfolding occurs
  introduce_known p c i e =
      below_known p i (omega (arith, ap (λ (l : List ℕ). occurs i l) (below_introduce p c i e), occurs_append i (below pl c) (i ∷ []), hit_self i))

  pub below_root : (p i : ℕ) → suc p ≡ length pl → i < edges → occurs i (below pl p) ≡ 1
  below_root p i size h = root_count i p size ∙ ok.edge_once i h

  pub below_once : (p i : ℕ) → p < length pl → occurs i (below pl p) ≤ 1
  below_once p i h = go (occurs i (all_introduced pl)) refl
    where
      go : (k : ℕ) → occurs i (all_introduced pl) ≡ k → occurs i (below pl p) ≤ 1
      go zero e = omega (arith, introduced_most i p h)
      go (suc k) e = omega (arith, introduced_most i p h, ok.edge_once i (ok.edge_known i (omega arith)))
