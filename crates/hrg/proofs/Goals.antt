-- T2: the goal is reachable with n exactly when a tree with n applications generates the graph.
use mathlib.Core.Path.{◌≡◌, refl, sym, ◌∙◌}
use Prim.Native.Nat.{ℕ, ◌-◌}
use native.Mathlib.Omega.{arith}
use lib.ListN.{length}
use Rattle.masks.specs.Masks.{bit, full}
use Rattle.masks.proofs.Laws.{bit_full_in, bit_full_out}
use Rattle.hrg.specs.Grammars.{Graph, Grammar}
use Rattle.hrg.specs.Trees.{Tree, applications, Generates}
use Rattle.hrg.specs.Deduction.{Reachable}
use Rattle.hrg.specs.Items.{Covers, closure, goal}
use Rattle.hrg.specs.Truth.{Truth}
use Rattle.hrg.specs.WellFormed.{GrammarOk, GraphOk}
use Rattle.hrg.proofs.Sums.{none_left}
use Rattle.hrg.proofs.Degrees.{places, degree_same, zero_or}
use Rattle.hrg.proofs.TreeNodes.{held_tree, edges_known}
use Rattle.hrg.proofs.Sides.{open_in}
use Rattle.hrg.proofs.Soundness.{sound}
use Rattle.hrg.proofs.Completeness.{complete}

module _ (G : Grammar) (H : Graph) (ok : GrammarOk G) (hok : GraphOk G H) where
  -- of the set of all edges only external nodes are open
  all_covers : Covers H (full (length H.edges)) H.externals
  unfolding places
  all_covers =
      record {
        image = λ v l o.
            omega (arith, (open_in H (full (length H.edges)) v o).1, degree_same (bit (full (length H.edges))) (λ i. 1) H.edges v (λ i l. bit_full_in (length H.edges) i l));
      }

  -- a generating tree makes the goal true
  pub generates_truth : (t : Tree) → Generates G H t → Truth G H (goal G H) (applications G t)
  generates_truth t g =
      record {
        tree = t;
        fits = g.fits;
        edges = λ e. zero_or (length H.edges - e)
            (λ z. none_left _ (λ o. omega (arith, edges_known G H ok t G.start e H.externals g.fits o)) ∙ sym (bit_full_out (length H.edges) e (omega arith)))
            (λ z. omega (arith, g.edges e (omega arith), g.apart.edges e, bit_full_in (length H.edges) e (omega arith)));
        once = g.apart.nodes;
        covers = all_covers;
        count = refl;
      }

  -- the tree of a true goal generates the graph
  pub truth_tree : (n : ℕ) (t : Truth G H (goal G H) n) → Generates G H t.tree
  truth_tree n t =
      record {
        fits = t.fits;
        apart = record { edges = λ e. omega (arith, t.edges e, Rattle.masks.proofs.Laws.bit_le (full (length H.edges)) e); nodes = t.once };
        edges = λ e l. omega (arith, t.edges e, bit_full_in (length H.edges) e l);
        nodes = λ v l.
            let c = hok.side.covered v l in
            held_tree G H ok v c.edge c.on t.tree G.start H.externals t.fits (omega (arith, t.edges c.edge, bit_full_in (length H.edges) c.edge c.known));
      }

  pub truth_generates : (n : ℕ) → Truth G H (goal G H) n → (t : Tree) × Generates G H t × (applications G t ≡ n)
  truth_generates n t = (t.tree, truth_tree n t, t.count)

  pub goal_reached : (t : Tree) → Generates G H t → Reachable (closure G H) (goal G H) (applications G t)
  goal_reached t g = complete G H ok hok (goal G H) (applications G t) (generates_truth t g)

  pub goal_generated : (n : ℕ) → Reachable (closure G H) (goal G H) n → (t : Tree) × Generates G H t × (applications G t ≡ n)
  goal_generated n x = truth_generates n (sound G H ok hok x)
