-- The parts of an application that partners spell: a graph edge, or the tree of a passive record, for each edge of
-- the rule.
use mathlib.Core.Path.{◌≡◌, refl, sym, ap, ◌∙◌, subst}
use mathlib.Core.List.{List, [], ◌∷◌, map}
use Prim.Native.Nat.{ℕ, suc, ◌+◌, ◌≤◌}
use native.Mathlib.Omega.{arith}
use lib.ListN.{length, get_or, take}
use Rattle.hrg.specs.Counts.{tabulate}
use Rattle.hrg.specs.Grammars.{Kind, nonterminal, Edge, Graph, Grammar, kind_of, rank_of, edge_at}
use Rattle.hrg.specs.Trees.{images, padded, Tree, Parts, apply, end, edge, tree, FitsEdge, Fits, FitsParts}
use Rattle.hrg.specs.WellFormed.{GrammarOk, GraphOk}
use Rattle.hrg.proofs.Parts.{◌⧺◌, fits_append}
use Rattle.preorder.specs.Rows.{size, size_in}
use Rattle.agenda.specs.declared.Record.{Record}
use Rattle.agenda.proofs.Records.{padded_take}
use Rattle.extraction.specs.Extraction.{nodes_by, part_nodes, Spelt, spelt, SpeltParts, spelt_in, with_tree, with_part, parts_by, tree_at}
use Rattle.extraction.proofs.NumberedParts.{Each, nothing, first}

-- The passive record at b spells the tree t, once there are enough levels.
abbrev pub SpellsTree : (ℕ → Record) → Grammar → Graph → ℕ → Tree → Type 0
SpellsTree look G H b t = (k : ℕ) → size t ≤ k → tree_at look G H k b ≡ spelt t

-- What edge e has by its partner b.
pub data Part (look : ℕ → Record) (G : Grammar) (H : Graph) (e : Edge) (b : ℕ) : Parts → Type 0 where
  by_edge : Part look G H e b (edge b end)
  by_tree : {t : Tree} → SpellsTree look G H b t → Fits G H e.label (take (rank_of G e.label) (look b).item.nodes) t → Part look G H e b (tree t end)

-- It stands on a placement.
pub record Placed (look : ℕ → Record) (G : Grammar) (H : Graph) (place : List ℕ) (e : Edge) (b : ℕ) (q : Parts) : Type 0 where
  pub part : Part look G H e b q
  pub fits : FitsParts G H place q (e ∷ [])

-- ---- what a tree that fits tells
tree_kind : (G : Grammar) (H : Graph) (s : ℕ) (L : List ℕ) (t : Tree) → Fits G H s L t → kind_of G s ≡ nonterminal
tree_kind G H s L (apply r place ps) x = x.0.kind

tree_list : (G : Grammar) (H : Graph) (s : ℕ) (L M : List ℕ) (t : Tree) → Fits G H s L t → Fits G H s M t → L ≡ M
tree_list G H s L M (apply r place ps) x y = sym x.0.externals ∙ y.0.externals

module _ (look : ℕ → Record) (G : Grammar) (H : Graph) where
  -- ---- on a placement
  pub placed_each : (place bs : List ℕ) (es : List Edge) {is : List ℕ} {ps : Parts} → Each (λ i q. Part look G H (edge_at es i) (get_or bs i 0) q) is ps
      → FitsParts G H place ps (map (λ (i : ℕ). edge_at es i) is) → Each (λ i q. Placed look G H place (edge_at es i) (get_or bs i 0) q) is ps
  unfolding ◌⧺◌
  placed_each place bs es nothing x = nothing
  placed_each place bs es (first by_edge c) x = first (record { part = by_edge; fits = (x.0, tt) }) (placed_each place bs es c x.1)
  placed_each place bs es (first (by_tree s f) c) x = first (record { part = by_tree s f; fits = (x.0, tt) }) (placed_each place bs es c x.1)

  pub each_fits : (place bs : List ℕ) (es : List Edge) {is : List ℕ} {ps : Parts} → Each (λ i q. Placed look G H place (edge_at es i) (get_or bs i 0) q) is ps
      → FitsParts G H place ps (map (λ (i : ℕ). edge_at es i) is)
  each_fits place bs es nothing = tt
  each_fits place bs es (first {i = i} {is = is} {p = p} {ps = ps} q c) =
      fits_append G H place p ps (edge_at es i ∷ []) (map (λ (i : ℕ). edge_at es i) is) q.fits (each_fits place bs es c)

  -- ---- the parts that partners spell
  part_spelt : (k : ℕ) (place : List ℕ) (e : Edge) (b : ℕ) (q qs : Parts) → Placed look G H place e b q → size_in (q ⧺ qs) ≤ k
      → with_part (kind_of G e.label) (λ b. tree_at look G H k b) b (spelt_in qs) ≡ spelt_in (q ⧺ qs)
  unfolding ◌⧺◌ size_in
  part_spelt k place e b q qs w h = go q w.part w.fits h
    where
      go : (q : Parts) → Part look G H e b q → FitsParts G H place q (e ∷ []) → size_in (q ⧺ qs) ≤ k
          → with_part (kind_of G e.label) (λ b. tree_at look G H k b) b (spelt_in qs) ≡ spelt_in (q ⧺ qs)
      go q by_edge x h = ap (λ (z : Kind). with_part z (λ b. tree_at look G H k b) b (spelt_in qs)) x.0.kind
      go q (by_tree {t = t} s f) x h =
          ap (λ (z : Kind). with_part z (λ b. tree_at look G H k b) b (spelt_in qs)) (tree_kind G H e.label _ t f)
          ∙ ap (λ (z : Spelt). with_tree z (spelt_in qs)) (s k (omega arith))

  rest_small : (place : List ℕ) (e : Edge) (b : ℕ) (q qs : Parts) → Part look G H e b q → size_in qs ≤ size_in (q ⧺ qs)
  unfolding ◌⧺◌ size_in
  rest_small place e b q qs by_edge = omega arith
  rest_small place e b q qs (by_tree s f) = omega arith

  pub parts_spelt : (k : ℕ) (place bs : List ℕ) (all es : List Edge) (o : ℕ) (f : ℕ → ℕ) (qs : Parts) → ((x : ℕ) → f x ≡ o + x) → ((x : ℕ) → edge_at all (f x) ≡ edge_at es x)
      → Each (λ i q. Placed look G H place (edge_at all i) (get_or bs i 0) q) (tabulate (length es) f) qs → size_in qs ≤ k
      → parts_by (λ b. tree_at look G H k b) G bs es o ≡ spelt_in qs
  unfolding parts_by tabulate
  parts_spelt k place bs all [] o f qs n m nothing h = refl
  parts_spelt k place bs all (e ∷ es) o f qs n m (first {p = p} {ps = ps} w c) h =
      let own : Placed look G H place e (get_or bs o 0) p
      = subst (λ (z : Edge). Placed look G H place z (get_or bs o 0) p) (m 0) (subst (λ (i : ℕ). Placed look G H place (edge_at all (f 0)) (get_or bs i 0) p) (let z : f 0 ≡ o = omega (arith, n 0) in z) w) in
      ap (λ (z : SpeltParts). with_part (kind_of G e.label) (λ b. tree_at look G H k b) (get_or bs o 0) z)
      (parts_spelt k place bs all es (o + 1) (λ x. f (suc x)) ps (λ x. omega (arith, n (suc x))) (λ x. m (suc x)) c (omega (arith, rest_small place e (get_or bs o 0) p ps own.part)))
      ∙ part_spelt k place e (get_or bs o 0) p ps own h

  -- ---- the nodes on which a part stands
  module _ (ok : GrammarOk G) (hok : GraphOk G H) where
    edge_nodes_lem : (s g : ℕ) (L : List ℕ) → FitsEdge G H s L g → take (rank_of G s) (padded (edge_at H.edges g).attachment) ≡ L
    unfolding padded
    edge_nodes_lem s g L x =
        let l = hok.side.edge g x.known in
        let ranked : length (edge_at H.edges g).attachment ≡ rank_of G s = l.listed.ranked ∙ ap (λ (z : ℕ). rank_of G z) x.label in
        ap (λ (n : ℕ). take n (padded (edge_at H.edges g).attachment)) (sym ranked)
        ∙ padded_take 8 (edge_at H.edges g).attachment _ (omega (arith, l.listed.ranked, (ok.symbol _ l.known).upper)) (λ k. refl)
        ∙ x.attachment

    pub part_nodes_lem : (place : List ℕ) (e : Edge) (b : ℕ) (q : Parts) → Placed look G H place e b q → part_nodes look G H e b ≡ images place e.attachment
    unfolding part_nodes
    part_nodes_lem place e b q w = go q w.part w.fits
      where
        go : (q : Parts) → Part look G H e b q → FitsParts G H place q (e ∷ []) → part_nodes look G H e b ≡ images place e.attachment
        go q by_edge x =
            ap (λ (z : Kind). take (rank_of G e.label) (nodes_by look H z b)) x.0.kind ∙ edge_nodes_lem e.label b (images place e.attachment) x.0
        go q (by_tree {t = t} s f) x =
            ap (λ (z : Kind). take (rank_of G e.label) (nodes_by look H z b)) (tree_kind G H e.label _ t f) ∙ tree_list G H e.label _ _ t f x.0
