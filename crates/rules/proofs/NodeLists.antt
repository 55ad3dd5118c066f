-- Lists of graph nodes in eight places: the images of a rule's external nodes, and the nodes of a graph edge.
use mathlib.Core.Path.{◌≡◌, refl, sym, ap, ◌∙◌}
use mathlib.Core.Bool.{true}
use mathlib.Core.List.{List, ◌∷◌, map}
use Prim.Native.Nat.{ℕ, zero, suc, ◌+◌, ◌≤◌, ◌<◌}
use native.Mathlib.Omega.{arith}
use lib.ListN.{length, get_or, set, take}
use lib.Seq.{get_or-take}
use Rattle.hrg.specs.Counts.{tabulate}
use Rattle.hrg.specs.Grammars.{Edge, Rule, right_of, edge_at}
use Rattle.hrg.specs.Trees.{unplaced, at, padded, images}
use Rattle.hrg.proofs.Sums.{occurs_at, length_tabulate, at_tabulate}
use Rattle.questions.specs.Layout.{rank_at, rule_count, rule_nodes, rule_symbol, rule_external, graph_edges, graph_label, graph_node}
use Rattle.questions.specs.Checking.{check_grammar}
use Rattle.questions.specs.Abstract.{rule_from, grammar_of, graph_of}
use Rattle.questions.proofs.WellFormedAccepted.{rule_is}
use Rattle.joins.proofs.Known.{rule_ok, right_nodes, nodes_few}
use Rattle.joins.proofs.MapLaws.{get_d_any, Placed, placed_next, placed_all}
use Rattle.joins.proofs.GraphLaws.{graph_edge, edge_nodes_lem}

map_tabulate : (n : ℕ) (t f : ℕ → ℕ) → map t (tabulate n f) ≡ tabulate n (λ k. t (f k))
unfolding tabulate
map_tabulate zero t f = refl
map_tabulate (suc n) t f = ap (λ (l : List ℕ). t (f 0) ∷ l) (map_tabulate n t (λ k. f (suc k)))

-- ---- the external nodes of a rule
module _ (g : List ℕ) (r : ℕ) (checked : check_grammar g ≡ true) (known : r < rule_count g) where
  abbrev rank : ℕ
  rank = rank_at g (rule_symbol g r)

  externals_are : (right_of (grammar_of g) r).externals ≡ tabulate rank (λ k. rule_external g r k)
  unfolding rule_from
  externals_are = ap (λ (R : Rule). R.production.right.externals) (rule_is g r known)

  pub externals_size : length (right_of (grammar_of g) r).externals ≡ rank
  externals_size = ap length externals_are ∙ length_tabulate rank (λ k. rule_external g r k)

  external_known : (k x : ℕ) → k < rank → x ≡ rule_external g r k → x < rule_nodes g r
  external_known k x h e =
      let there : at (right_of (grammar_of g) r).externals k ≡ rule_external g r k = ap (λ (l : List ℕ). at l k) externals_are ∙ at_tabulate rank (λ k. rule_external g r k) k h in
      let found = rw there at (occurs_at (right_of (grammar_of g) r).externals k (omega (arith, externals_size))) in
      omega (arith, right_nodes g r checked known, (rule_ok g r checked known).right.externals.inside (rule_external g r k) found)

  pub external_few : (k x : ℕ) → k < rank → x ≡ rule_external g r k → x < 8
  external_few k x h e = omega (arith, external_known k x h e, nodes_few g r checked known)

  module _ (f : List ℕ) (eight : length f ≡ 8) where
    abbrev pub image : ℕ → ℕ
    image k = at (take (rule_nodes g r) f) (rule_external g r k)

    pub image_next : (k x v : ℕ) (l : List ℕ) → k < rank → rank ≤ 4 → v ≡ get_or f x 0 → x ≡ rule_external g r k → Placed image k l → Placed image (k + 1) (set l k v)
    image_next k x v l h few read e before =
        placed_next image k v l (omega arith)
        (read ∙ get_d_any f x 0 unplaced (omega (arith, external_few k x h e))
        ∙ sym (get_or-take (rule_nodes g r) f x unplaced (external_known k x h e)) ∙ ap (λ y. at (take (rule_nodes g r) f) y) e)
        before

    pub image_all : (k : ℕ) (l : List ℕ) → k ≤ rank → rank ≤ k → Placed image k l → l ≡ padded (images (take (rule_nodes g r) f) (right_of (grammar_of g) r).externals)
    image_all k l a b p =
        placed_all image rank k l a b p
        ∙ ap padded (sym (ap (images (take (rule_nodes g r) f)) externals_are ∙ map_tabulate rank (λ x. at (take (rule_nodes g r) f) x) (λ k. rule_external g r k)))

-- ---- a graph edge
module _ (g h : List ℕ) (e : ℕ) (known : e < graph_edges h) where
  pub label_is : (edge_at (graph_of g h).edges e).label ≡ graph_label h e
  label_is = ap (λ (d : Edge). d.label) (graph_edge g h e known)

  pub edge_ranked : length (edge_at (graph_of g h).edges e).attachment ≡ rank_at g (graph_label h e)
  edge_ranked = ap length (edge_nodes_lem g h e known) ∙ length_tabulate (rank_at g (graph_label h e)) (λ k. graph_node h e k)

  pub edge_all : (k : ℕ) (l : List ℕ) → k ≤ rank_at g (graph_label h e) → rank_at g (graph_label h e) ≤ k → Placed (λ k. graph_node h e k) k l
      → l ≡ padded (edge_at (graph_of g h).edges e).attachment
  edge_all k l a b p = placed_all (λ k. graph_node h e k) (rank_at g (graph_label h e)) k l a b p ∙ ap padded (sym (edge_nodes_lem g h e known))
