-- What the record at a place of a chart spells: parts that make an active item true, or a tree that makes a passive
-- one true; one lemma for each rule.
use mathlib.Core.Path.{◌≡◌, refl, sym, ap, ap₂, ◌∙◌, subst, subst₂}
use mathlib.Core.List.{List, [], ◌∷◌}
use Prim.Native.Nat.{ℕ, zero, suc, ◌+◌, ◌-◌, ◌<◌}
use native.Mathlib.Omega.{arith}
use lib.ListN.{length, get_or, take, replicate}
use Rattle.masks.specs.Masks.{single}
use Rattle.hrg.specs.Counts.{tabulate, up_to}
use Rattle.hrg.specs.Grammars.{Edge, Graph, leaf, introduce, join, Grammar, cost, rank_of, rule_of, lhs_of, right_of, plan_of, plan_node, edge_at}
use Rattle.hrg.specs.Trees.{unplaced, images, Tree, Parts, apply, FitsEdge, FitsParts}
use Rattle.hrg.specs.Items.{below, attach, Joins}
use Rattle.hrg.specs.Truth.{ActiveTruth, PassiveTruth}
use Rattle.hrg.specs.WellFormed.{GrammarOk, GraphOk, RuleOk}
use Rattle.hrg.proofs.Sums.{occurs_up_to}
use Rattle.hrg.proofs.Plans.{below_leaf, below_introduce, below_join, below_known}
use Rattle.hrg.proofs.Parts.{Moved}
use Rattle.hrg.proofs.Sides.{below_of}
use Rattle.hrg.proofs.Soundness.{edges_all, root_numbers, root_below, leaf_truth, leaf_parts, root_truth, root_tree, terminal_truth, terminal_parts, nonterminal_truth, nonterminal_parts, pair_truth, pair_parts}
use Rattle.preorder.specs.Rows.{size}
use Rattle.agenda.specs.declared.Record.{Record}
use Rattle.extraction.specs.Extraction.{partners_within, partners_at, placed_by, place_at, Spelt, SpeltParts, applied, parts_by, tree_at}
use Rattle.extraction.proofs.NumberedParts.{Each, nothing, each_one, each_append, each_at, each_map, Rearranged, rearrange}
use Rattle.extraction.proofs.Partners.{Has, has_new, has_child, has_first, has_second}
use Rattle.extraction.proofs.Placing.{placed_same}
use Rattle.extraction.proofs.SpelledParts.{SpellsTree, Part, by_edge, by_tree, Placed, placed_each, each_fits, parts_spelt, part_nodes_lem}

-- Edge i of rule r has the part q, by its partner from plan node p with the record at j on down.
abbrev pub PartFor : (ℕ → Record) → Grammar → Graph → (r p j i : ℕ) → Parts → Type 0
PartFor look G H r p j i q = (b : ℕ) × Has look (plan_of G r) p j i b × Part look G H (edge_at (right_of G r).edges i) b q

-- The record at j is of rule r, and the parts that it spells make its active item true.
pub record ActiveSpelt (look : ℕ → Record) (G : Grammar) (H : Graph) (j r p m : ℕ) (f : List ℕ) (n : ℕ) : Type 0 where
  pub rule : (look j).item.of ≡ r
  pub known : r < length G.rules
  pub inside : p < length (plan_of G r)
  pub truth : ActiveTruth G H (rule_of G r) p m f n
  pub each : Each (λ i q. PartFor look G H r p j i q) (below (plan_of G r) p) truth.parts

-- The record at j lists the nodes L, and the tree that it spells makes its passive item true.
pub record PassiveSpelt (look : ℕ → Record) (G : Grammar) (H : Graph) (j s m : ℕ) (L : List ℕ) (n : ℕ) : Type 0 where
  pub nodes : take (rank_of G s) (look j).item.nodes ≡ L
  pub truth : PassiveTruth G H s m L n
  pub spells : SpellsTree look G H j truth.tree

module _ (G : Grammar) (H : Graph) (ok : GrammarOk G) (hok : GraphOk G H) (look : ℕ → Record) where
  -- ---- active items
  pub leaf_spelt : (j r p : ℕ) → (look j).item.of ≡ r → r < length G.rules → p < length (plan_of G r) → plan_node (plan_of G r) p ≡ leaf
      → ActiveSpelt look G H j r p 0 (tabulate (right_of G r).nodes (λ x. unplaced)) 0
  leaf_spelt j r p o l b q =
      record {
        rule = o;
        known = l;
        inside = b;
        truth = leaf_truth G H ok hok r p l b q;
        each = subst₂ (λ (is : List ℕ) (ps : Parts). Each (λ i q. PartFor look G H r p j i q) is ps)
            (sym (below_leaf _ (plan_of G r) (ok.rule r l).plan p q)) (sym (leaf_parts G H ok hok r p l b q)) nothing;
      }

  -- the parts of the child of a plan node that introduces an edge
  child_parts : (j r p c i : ℕ) {is : List ℕ} {ps : Parts} → r < length G.rules → plan_node (plan_of G r) p ≡ introduce c i
      → Each (λ i q. PartFor look G H r c (look j).first i q) is ps → Each (λ i q. PartFor look G H r p j i q) is ps
  child_parts j r p c i l q e = each_map (λ a s o w. (w.0, has_child look (plan_of G r) _ (ok.rule r l).plan p c i j a w.0 q w.1, w.2)) e

  new_part : (j r p c i : ℕ) {s : Parts} → r < length G.rules → plan_node (plan_of G r) p ≡ introduce c i
      → Part look G H (edge_at (right_of G r).edges i) (look j).second s → Each (λ i q. PartFor look G H r p j i q) (i ∷ []) s
  new_part j r p c i l q s = each_one ((look j).second, has_new look (plan_of G r) _ (ok.rule r l).plan p c i j q, s)

  pub terminal_spelt : (j r p c i m₁ m n : ℕ) (f h : List ℕ) → (look j).item.of ≡ r → p < length (plan_of G r) → plan_node (plan_of G r) p ≡ introduce c i
      → FitsEdge G H (edge_at (right_of G r).edges i).label (edge_at H.edges (look j).second).attachment (look j).second
      → Joins H (rule_of G r) p m₁ (single (look j).second) f
      (attach (right_of G r).nodes (edge_at (right_of G r).edges i).attachment (edge_at H.edges (look j).second).attachment) m h
      → ActiveSpelt look G H (look j).first r c m₁ f n → ActiveSpelt look G H j r p m h (n + 0)
  terminal_spelt j r p c i m₁ m n f h o b q e J a =
      record {
        rule = o;
        known = a.known;
        inside = b;
        truth = terminal_truth G H ok hok r p c i m₁ m n f h a.known b q a.inside a.truth (look j).second e J;
        each = subst₂ (λ (is : List ℕ) (ps : Parts). Each (λ i q. PartFor look G H r p j i q) is ps)
            (sym (below_introduce _ (plan_of G r) (ok.rule r a.known).plan p c i q))
            (sym (terminal_parts G H ok hok r p c i m₁ m n f h a.known b q a.inside a.truth (look j).second e J))
            (each_append (child_parts j r p c i a.known q a.each) (new_part j r p c i a.known q by_edge));
      }

  pub nonterminal_spelt : (j r p c i m₁ m₂ m n k : ℕ) (f L h : List ℕ) → (look j).item.of ≡ r → p < length (plan_of G r) → plan_node (plan_of G r) p ≡ introduce c i
      → Joins H (rule_of G r) p m₁ m₂ f (attach (right_of G r).nodes (edge_at (right_of G r).edges i).attachment L) m h
      → ActiveSpelt look G H (look j).first r c m₁ f n → PassiveSpelt look G H (look j).second (edge_at (right_of G r).edges i).label m₂ L k
      → ActiveSpelt look G H j r p m h (n + k)
  nonterminal_spelt j r p c i m₁ m₂ m n k f L h o b q J a u =
      record {
        rule = o;
        known = a.known;
        inside = b;
        truth = nonterminal_truth G H ok hok r p c i m₁ m n f h a.known b q a.inside a.truth m₂ k L u.truth J;
        each = subst₂ (λ (is : List ℕ) (ps : Parts). Each (λ i q. PartFor look G H r p j i q) is ps)
            (sym (below_introduce _ (plan_of G r) (ok.rule r a.known).plan p c i q))
            (sym (nonterminal_parts G H ok hok r p c i m₁ m n f h a.known b q a.inside a.truth m₂ k L u.truth J))
            (each_append (child_parts j r p c i a.known q a.each) (new_part j r p c i a.known q (by_tree u.spells (rw u.nodes u.truth.fits))));
      }

  pub join_spelt : (j r p a c m₁ m₂ m n k : ℕ) (f g h : List ℕ) → (look j).item.of ≡ r → p < length (plan_of G r) → plan_node (plan_of G r) p ≡ join a c
      → Joins H (rule_of G r) p m₁ m₂ f g m h → ActiveSpelt look G H (look j).first r a m₁ f n → ActiveSpelt look G H (look j).second r c m₂ g k
      → ActiveSpelt look G H j r p m h (n + k)
  join_spelt j r p a c m₁ m₂ m n k f g h o b q J t u =
      let plan = (ok.rule r t.known).plan in
      record {
        rule = o;
        known = t.known;
        inside = b;
        truth = pair_truth G H ok hok r p a c m₁ m₂ m n k f g h t.known b q t.inside t.truth u.inside u.truth J;
        each = subst₂ (λ (is : List ℕ) (ps : Parts). Each (λ i q. PartFor look G H r p j i q) is ps)
            (sym (below_join _ (plan_of G r) plan p a c q))
            (sym (pair_parts G H ok hok r p a c m₁ m₂ m n k f g h t.known b q t.inside t.truth u.inside u.truth J))
            (each_append
            (each_map (λ i s o w. (w.0, has_first look (plan_of G r) _ plan p a c j i w.0 q o w.1, w.2)) t.each)
            (each_map (λ i s o w. (w.0, has_second look (plan_of G r) _ plan p a c j i w.0 q w.1, w.2)) u.each));
      }

  -- ---- passive items
  -- the partners of the edges of rule r from its root p with the record at a
  abbrev partners_from : ℕ → ℕ → ℕ → List ℕ
  partners_from r p a = partners_within look (plan_of G r) (length (plan_of G r)) p a (replicate 8 0)

  -- the tree of so many levels more, of rule r with its root p
  abbrev tree_with : ℕ → ℕ → ℕ → ℕ → Spelt
  tree_with k r p a =
      applied r (placed_by look G H (right_of G r) (partners_from r p a) (length (right_of G r).edges))
      (parts_by (λ b. tree_at look G H k b) G (partners_from r p a) (right_of G r).edges 0)

  tree_with_is : (k j r p : ℕ) → (look (look j).first).item.of ≡ r → suc p ≡ length (plan_of G r) → tree_at look G H (suc k) j ≡ tree_with k r p (look j).first
  unfolding tree_at place_at partners_at
  tree_with_is k j r p e q =
      ap (λ (z : ℕ). tree_with k z (length (plan_of G z) - 1) (look j).first) e
      ∙ ap (λ (z : ℕ). tree_with k r z (look j).first) (let z : length (plan_of G r) - 1 ≡ p = omega (arith, q) in z)

  module _ (j r p m n : ℕ) (f : List ℕ) (q : suc p ≡ length (plan_of G r)) (a : ActiveSpelt look G H (look j).first r p m f n) where
    rok : RuleOk G (rule_of G r)
    rok = ok.rule r a.known

    abbrev partners : List ℕ
    partners = partners_from r p (look j).first

    abbrev PlacedAt : ℕ → Parts → Type 0
    PlacedAt i s = Placed look G H a.truth.place (edge_at (right_of G r).edges i) (get_or partners i 0) s

    -- the parts on the placement, in edge order
    own : Each (λ i s. Part look G H (edge_at (right_of G r).edges i) (get_or partners i 0) s) (below (plan_of G r) p) a.truth.parts
    own =
        each_map
        (λ i s o w. subst (λ (b : ℕ). Part look G H (edge_at (right_of G r).edges i) b s)
        (sym (w.1 (length (plan_of G r)) (replicate 8 0) (omega (arith, q)) (omega (arith, below_known _ (plan_of G r) rok.plan p i o, rok.right.edge_count.upper)))) w.2)
        a.each

    ordered : Rearranged PlacedAt G (up_to (length (right_of G r).edges)) a.truth.parts
    ordered = rearrange G (root_numbers (rule_of G r) rok p q) (placed_each look G H a.truth.place partners (right_of G r).edges own a.truth.fits)

    moved : Moved G H a.truth.place a.truth.parts (right_of G r).edges
    moved =
        record {
          parts = ordered.parts;
          fits = subst (λ (es : List Edge). FitsParts G H a.truth.place ordered.parts es) (edges_all (right_of G r).edges)
              (each_fits look G H a.truth.place partners (right_of G r).edges ordered.each);
          same = ordered.same;
        }

    place_read : placed_by look G H (right_of G r) partners (length (right_of G r).edges) ≡ a.truth.place
    place_read =
        placed_same look G H (right_of G r) partners a.truth.place a.truth.sized
        (λ x l. omega (arith, a.truth.placed x l (below_of (rule_of G r) rok p a.inside x (root_below (rule_of G r) rok p q x l)), hok.side.node_count.upper))
        (λ i l. let w = each_at ordered.each i (omega (arith, occurs_up_to (length (right_of G r).edges) i l)) in
        part_nodes_lem look G H ok hok a.truth.place (edge_at (right_of G r).edges i) (get_or partners i 0) w.0 w.1)
        rok.right.covered

    whole : SpellsTree look G H j (apply r a.truth.place ordered.parts)
    unfolding size up_to
    whole zero h = absurd (omega arith)
    whole (suc k) h =
        tree_with_is k j r p a.rule q
        ∙ ap₂ (λ (place : List ℕ) (ps : SpeltParts). applied r place ps) place_read
        (parts_spelt look G H k a.truth.place partners (right_of G r).edges (right_of G r).edges 0 (λ i. i) ordered.parts (λ x. omega arith) (λ x. refl) ordered.each (omega arith))

    pub root_spelt : take (rank_of G (lhs_of G r)) (look j).item.nodes ≡ images f (right_of G r).externals
        → PassiveSpelt look G H j (lhs_of G r) m (images f (right_of G r).externals) (n + cost (rule_of G r))
    unfolding moved
    root_spelt e =
        record {
          nodes = e;
          truth = root_truth G H ok hok r p m n f a.known q a.truth moved;
          spells = subst (λ (t : Tree). SpellsTree look G H j t) (sym (root_tree G H ok hok r p m n f a.known q a.truth moved)) whole;
        }
