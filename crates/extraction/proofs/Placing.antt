-- Where the parts of an application stand on a placement, that placement is the one read off them: every rule node
-- lies on an edge.
use mathlib.Core.Path.{◌≡◌, sym, ap, ◌∙◌}
use mathlib.Core.Logic.{◌⊎◌, inl, inr}
use mathlib.Core.List.{List}
use Prim.Native.Nat.{ℕ, zero, suc, ◌≤◌, ◌<◌}
use native.Mathlib.Decide.{dec_lt}
use native.Mathlib.Omega.{arith}
use lib.ListN.{length, get_or}
use lib.Seq.{ext_get_or}
use Rattle.hrg.specs.Counts.{occurs}
use Rattle.hrg.specs.Grammars.{Graph, Grammar, edge_at}
use Rattle.hrg.specs.Trees.{unplaced, at, images}
use Rattle.hrg.specs.Items.{or_else, joined, node_for, attach}
use Rattle.hrg.specs.WellFormed.{OnEdge}
use Rattle.hrg.proofs.Sums.{length_tabulate, at_tabulate}
use Rattle.hrg.proofs.Degrees.{zero_or}
use Rattle.hrg.proofs.Sides.{either_set, either_none}
use Rattle.hrg.proofs.SingleEdges.{node_out, node_image}
use Rattle.agenda.specs.declared.Record.{Record}
use Rattle.extraction.specs.Extraction.{part_nodes, placed_by}

module _ (look : ℕ → Record) (G : Grammar) (H P : Graph) (bs place : List ℕ) (sized : length place ≡ P.nodes) (placed : (x : ℕ) → x < P.nodes → at place x < unplaced)
    (on : (i : ℕ) → i < length P.edges → part_nodes look G H (edge_at P.edges i) (get_or bs i 0) ≡ images place (edge_at P.edges i).attachment) where
  placed_length : (k : ℕ) → length (placed_by look G H P bs k) ≡ P.nodes
  unfolding placed_by joined
  placed_length zero = length_tabulate P.nodes _
  placed_length (suc k) = length_tabulate P.nodes _

  -- one edge more
  next : (k x : ℕ) → k < length P.edges → x < P.nodes
      → at (placed_by look G H P bs (suc k)) x ≡ or_else (at (placed_by look G H P bs k) x) (node_for x (edge_at P.edges k).attachment (images place (edge_at P.edges k).attachment))
  unfolding placed_by joined attach
  next k x l h =
      at_tabulate P.nodes _ x h
      ∙ ap (λ (v : ℕ). or_else (at (placed_by look G H P bs k) x) v) (at_tabulate P.nodes _ x h ∙ ap (λ (L : List ℕ). node_for x (edge_at P.edges k).attachment L) (on k l))

  -- Node x has its place by the first k edges, or it lies on none of them.
  abbrev State : ℕ → ℕ → Type 0
  State k x =
      (at (placed_by look G H P bs k) x ≡ at place x)
      ⊎ ((at (placed_by look G H P bs k) x ≡ unplaced) × ((i : ℕ) → i < k → occurs x (edge_at P.edges i).attachment ≡ 0))

  state : (k x : ℕ) → k ≤ length P.edges → x < P.nodes → State k x
  unfolding placed_by
  state zero x l h = inr (at_tabulate P.nodes _ x h, λ i z. absurd (omega arith))
  state (suc k) x l h = go (state k x (omega arith) h)
    where
      off : (o : occurs x (edge_at P.edges k).attachment ≡ 0) → ((i : ℕ) → i < k → occurs x (edge_at P.edges i).attachment ≡ 0) → (i : ℕ) → i < suc k
          → occurs x (edge_at P.edges i).attachment ≡ 0
      off o before i z = by (dec_lt i k)
        where
          by : Dec (i < k) → occurs x (edge_at P.edges i).attachment ≡ 0
          by (yes b) = before i b
          by (no n) = rw (let e : i ≡ k = omega arith in e) o

      go : State k x → State (suc k) x
      go (inl e) = inl (next k x l h ∙ either_set _ _ (omega (arith, placed x h)) ∙ e)
      go (inr n) =
          zero_or (occurs x (edge_at P.edges k).attachment)
          (λ z. inr (next k x l h ∙ either_none _ _ n.0 ∙ node_out x (edge_at P.edges k).attachment _ z, off z n.1))
          (λ z. inl (next k x l h ∙ either_none _ _ n.0 ∙ node_image x (edge_at P.edges k).attachment place z))

  pub placed_same : ((x : ℕ) → x < P.nodes → OnEdge P.edges x) → placed_by look G H P bs (length P.edges) ≡ place
  placed_same covered =
      ext_get_or unplaced (placed_by look G H P bs (length P.edges)) place (placed_length (length P.edges) ∙ sym sized)
      (λ x l. let h : x < P.nodes = omega (arith, placed_length (length P.edges)) in at_node x h (state (length P.edges) x (omega arith) h))
    where
      at_node : (x : ℕ) → x < P.nodes → State (length P.edges) x → at (placed_by look G H P bs (length P.edges)) x ≡ at place x
      at_node x h (inl e) = e
      at_node x h (inr n) = let c = covered x h in absurd (omega (arith, c.on, n.1 c.edge c.known))
