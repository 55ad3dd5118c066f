-- The plan rules line by line, as question 7 asks them, are the plan rules of the whole plan.
use mathlib.Core.Path.{◌≡◌, refl, ap}
use mathlib.Core.Logic.{◌⊎◌, inl, inr}
use mathlib.Core.List.{List, ◌++◌}
use Prim.Native.Nat.{ℕ, zero, suc, ◌+◌, ◌≤◌, ◌<◌, pred}
use native.Mathlib.Omega.{arith}
use native.Mathlib.Decide.{dec_lt}
use lib.ListN.{length}
use Rattle.hrg.specs.Counts.{occurs}
use Rattle.hrg.specs.Grammars.{PlanNode, leaf, introduce, join, plan_node}
use Rattle.hrg.specs.WellFormed.{Between, children, introduced, all_children, all_introduced, PlanOk}
use Rattle.hrg.proofs.Sums.{occurs_append, hit_le}
use Rattle.questions.proofs.WellFormedLists.{collect, collect_le, collect_find, all_children_lem, all_introduced_lem}

-- the children, and the introduced edges, of the plan nodes below q
abbrev pub children_to : List PlanNode → ℕ → List ℕ
children_to pl q = collect children leaf pl q

abbrev pub introduced_to : List PlanNode → ℕ → List ℕ
introduced_to pl q = collect introduced leaf pl q

-- what the last plan line shows
pub record Complete (edges : ℕ) (pl : List PlanNode) (q : ℕ) : Type 0 where
  pub children_all : (c : ℕ) → c < q → 0 < occurs c (children_to pl q ++ children (plan_node pl q))
  pub edges_all : (i : ℕ) → i < edges → 0 < occurs i (introduced_to pl q ++ introduced (plan_node pl q))

-- question 7 for plan line q
pub record NodeOk (edges : ℕ) (pl : List PlanNode) (q : ℕ) : Type 0 where
  pub lower : (c : ℕ) → 0 < occurs c (children (plan_node pl q)) → c < q
  pub once : (c : ℕ) → 0 < occurs c (children (plan_node pl q)) → occurs c (children_to pl q ++ children (plan_node pl q)) ≡ 1
  pub known : (i : ℕ) → 0 < occurs i (introduced (plan_node pl q)) → (i < edges) × (occurs i (introduced_to pl q) ≡ 0)
  pub whole : (q + 1 < length pl) ⊎ Complete edges pl q

-- one more plan node
module _ (pl : List PlanNode) (v : ℕ) where
  children_more : (q : ℕ) → occurs v (children_to pl (suc q)) ≡ occurs v (children_to pl q) + occurs v (children (plan_node pl q))
  unfolding collect
  children_more q = occurs_append v (children_to pl q) (children (plan_node pl q))

  introduced_more : (q : ℕ) → occurs v (introduced_to pl (suc q)) ≡ occurs v (introduced_to pl q) + occurs v (introduced (plan_node pl q))
  unfolding collect
  introduced_more q = occurs_append v (introduced_to pl q) (introduced (plan_node pl q))

  children_end : occurs v (all_children pl) ≡ occurs v (children_to pl (length pl))
  children_end = ap (occurs v) (all_children_lem pl)

  introduced_end : occurs v (all_introduced pl) ≡ occurs v (introduced_to pl (length pl))
  introduced_end = ap (occurs v) (all_introduced_lem pl)

-- a plan node introduces at most one edge
introduced_le : (v : ℕ) (x : PlanNode) → occurs v (introduced x) ≤ 1
unfolding occurs
introduced_le v leaf = omega arith
introduced_le v (introduce c i) = omega (arith, hit_le v i)
introduced_le v (join a b) = omega arith

module _ (edges : ℕ) (pl : List PlanNode) where
  module _ (node : (q : ℕ) → q < length pl → NodeOk edges pl q) where
    child_le : (c n : ℕ) → n ≤ length pl → occurs c (children_to pl n) ≤ 1
    unfolding collect occurs
    child_le c zero h = omega arith
    child_le c (suc q) h = go (occurs c (children (plan_node pl q))) refl (child_le c q (omega arith))
      where
        go : (k : ℕ) → occurs c (children (plan_node pl q)) ≡ k → occurs c (children_to pl q) ≤ 1 → occurs c (children_to pl q ++ children (plan_node pl q)) ≤ 1
        go zero e ih = omega (arith, children_more pl c q)
        go (suc k) e ih = omega (arith, (node q h).once c (omega arith))

    edge_le : (i n : ℕ) → n ≤ length pl → occurs i (introduced_to pl n) ≤ 1
    unfolding collect occurs
    edge_le i zero h = omega arith
    edge_le i (suc q) h = go (occurs i (introduced (plan_node pl q))) refl (edge_le i q (omega arith))
      where
        go : (k : ℕ) → occurs i (introduced (plan_node pl q)) ≡ k → occurs i (introduced_to pl q) ≤ 1 → occurs i (introduced_to pl q ++ introduced (plan_node pl q)) ≤ 1
        go zero e ih = omega (arith, introduced_more pl i q)
        go (suc k) e ih = omega (arith, introduced_more pl i q, ((node q h).known i (omega arith)).1, introduced_le i (plan_node pl q))

    module _ (last : ℕ) (end : suc last ≡ length pl) where
      last_whole : Complete edges pl last
      last_whole = go (node last (omega arith)).whole
        where
          go : (last + 1 < length pl) ⊎ Complete edges pl last → Complete edges pl last
          go (inl h) = absurd (omega arith)
          go (inr w) = w

      child_there : (c : ℕ) → suc c < length pl → 0 < occurs c (children_to pl (length pl))
      child_there c h =
          omega (
            arith,
            last_whole.children_all c (omega arith),
            occurs_append c (children_to pl last) (children (plan_node pl last)),
            children_more pl c last,
            ap (λ (n : ℕ). occurs c (children_to pl n)) end,
          )

      edge_there : (i : ℕ) → i < edges → 0 < occurs i (introduced_to pl (length pl))
      edge_there i h =
          omega (
            arith,
            last_whole.edges_all i h,
            occurs_append i (introduced_to pl last) (introduced (plan_node pl last)),
            introduced_more pl i last,
            ap (λ (n : ℕ). occurs i (introduced_to pl n)) end,
          )

    pub plan_ok : Between 2 (length pl) 16 → PlanOk edges pl
    plan_ok size =
        let end : suc (pred (length pl)) ≡ length pl = omega (arith, size.lower) in
        record {
          size = size;
          lower = λ p c h o. (node p h).lower c o;
          child_once = λ q h. omega (arith, children_end pl q, child_there (pred (length pl)) end q h, child_le q (length pl) (omega arith));
          edge_once = λ i h. omega (arith, introduced_end pl i, edge_there (pred (length pl)) end i h, edge_le i (length pl) (omega arith));
          edge_known = λ i h.
              let t = collect_find introduced leaf i pl (length pl) (omega (arith, introduced_end pl i)) in
              ((node t.0 t.1).known i t.2).0;
        }

  module _ (ok : PlanOk edges pl) where
    -- the plan nodes below are some of all
    children_to_lem : (c q : ℕ) → q ≤ length pl → occurs c (children_to pl q) ≤ occurs c (all_children pl)
    children_to_lem c q h = omega (arith, children_end pl c, collect_le children leaf c pl q (length pl) h)

    introduced_to_lem : (i q : ℕ) → q ≤ length pl → occurs i (introduced_to pl q) ≤ occurs i (all_introduced pl)
    introduced_to_lem i q h = omega (arith, introduced_end pl i, collect_le introduced leaf i pl q (length pl) h)

    complete : (q : ℕ) → suc q ≡ length pl → Complete edges pl q
    complete q e = record {
      children_all = λ c h.
          omega (
            arith,
            ok.child_once c (omega arith),
            children_end pl c,
            ap (λ (n : ℕ). occurs c (children_to pl n)) e,
            children_more pl c q,
            occurs_append c (children_to pl q) (children (plan_node pl q)),
          );
      edges_all = λ i h.
          omega (
            arith,
            ok.edge_once i h,
            introduced_end pl i,
            ap (λ (n : ℕ). occurs i (introduced_to pl n)) e,
            introduced_more pl i q,
            occurs_append i (introduced_to pl q) (introduced (plan_node pl q)),
          );
    }

    pub ok_node : (q : ℕ) → q < length pl → NodeOk edges pl q
    ok_node q h = record {
      lower = λ c o. ok.lower q c h o;
      once = λ c o.
          let below = ok.lower q c h o in
          omega (
            arith,
            ok.child_once c (omega arith),
            children_to_lem c (suc q) h,
            children_more pl c q,
            occurs_append c (children_to pl q) (children (plan_node pl q)),
          );
      known = λ i o.
          let among : 0 < occurs i (all_introduced pl) = omega (arith, introduced_to_lem i (suc q) h, introduced_more pl i q) in
          let i_known = ok.edge_known i among in
          (i_known, omega (arith, ok.edge_once i i_known, introduced_to_lem i (suc q) h, introduced_more pl i q));
      whole = go (dec_lt (q + 1) (length pl));
    }
      where
        go : Dec (q + 1 < length pl) → (q + 1 < length pl) ⊎ Complete edges pl q
        go (yes l) = inl l
        go (no l) = inr (complete q (omega arith))
