-- What a row says of the edges of its rule, read from the fields of accepted tables.
use mathlib.Core.Path.{◌≡◌, refl, sym, ap, ap₂, ◌∙◌}
use mathlib.Core.Bool.{Bool, true, false}
use mathlib.Core.List.{List}
use Prim.Native.Nat.{ℕ, ◌+◌, ◌≤◌, ◌<◌}
use native.Mathlib.Omega.{arith}
use lib.ListN.{length, get_or, take, drop, length-map}
use lib.Seq.{get_or-drop}
use lib.Dec.{ltb}
use borrow.Author.Tests.{lt-ltb, le-ltb, ltb-true, ltb-false, ne_eqb}
use Rattle.hrg.specs.Grammars.{Kind, terminal, nonterminal, Edge, Graph, Grammar, Rule, kind_of, rank_of, right_of, edge_at}
use Rattle.hrg.specs.Trees.{at, images}
use Rattle.hrg.specs.WellFormed.{EdgeOk}
use Rattle.questions.specs.Layout.{rule_count, rule_nodes, rule_edges, edge_label, kind_field}
use Rattle.questions.specs.Abstract.{kind_from, grammar_of}
use Rattle.questions.proofs.WellFormedLent.{checked_grammar_ok}
use Rattle.questions.proofs.WellFormedAccepted.{symbols_length, rules_length, rule_is, edge_is, kind_is}
use Rattle.questions.specs.Checking.{check_grammar}
use Rattle.joins.proofs.Known.{rule_ok, right_nodes, right_edges, nodes_few, edges_few}
use Rattle.preorder.specs.Replay.{rule_in, place_in, fields_in}
use Rattle.replayer.specs.declared.Part.TheVariants.{End, GraphEdge, Application}
use Rattle.replayer.specs.Fitting.{four_of}
use Rattle.replayer.specs.Following.{RuledRow, part_by, part_of}
use Rattle.replayer.proofs.MaskTests.{four_take}

-- ---- the part by its edge
module _ (G : Grammar) (row : List ℕ) (i : ℕ) where
  abbrev P : Graph
  P = right_of G (rule_in row)

  abbrev label : ℕ
  label = (edge_at P.edges i).label

  abbrev field : ℕ
  field = get_or (fields_in P row) i 0

  part_in : i < length P.edges → part_of G row i ≡ part_by (kind_of G label) label field
  unfolding part_of
  part_in h = rw (lt-ltb i (length P.edges) h)

  part_out : length P.edges ≤ i → part_of G row i ≡ End
  unfolding part_of
  part_out h = rw (le-ltb i (length P.edges) h)

  pub of_end : part_of G row i ≡ End → length P.edges ≤ i
  of_end e = go (ltb i (length P.edges)) refl
    where
      kind : (k : Kind) (s f : ℕ) → part_by k s f ≡ End → ⊥
      kind terminal s f q = let z : ◌≡◌ {A = ℕ} 0 1 = cc in omega arith
      kind nonterminal s f q = let z : ◌≡◌ {A = ℕ} 0 1 = cc in omega arith

      go : (b : Bool) → ltb i (length P.edges) ≡ b → length P.edges ≤ i
      go true q = absurd (kind (kind_of G label) label field (sym (part_in (ltb-true _ _ q)) ∙ e))
      go false q = ltb-false _ _ q

  pub record EdgePart (f : ℕ) : Type 0 where
    pub known : i < length P.edges
    pub kind : kind_of G label ≡ terminal
    pub number : f ≡ field

  pub of_edge : (f : ℕ) → part_of G row i ≡ GraphEdge f → EdgePart f
  of_edge f e = go (ltb i (length P.edges)) refl
    where
      by_kind_is : (k : Kind) → kind_of G label ≡ k → part_by k label field ≡ GraphEdge f → (k ≡ terminal) × (f ≡ field)
      by_kind_is terminal r q = (refl, cc)
      by_kind_is nonterminal r q = absurd (let z : ◌≡◌ {A = ℕ} 0 1 = cc in omega arith)

      go : (b : Bool) → ltb i (length P.edges) ≡ b → EdgePart f
      go true q =
          let w = by_kind_is (kind_of G label) refl (sym (part_in (ltb-true _ _ q)) ∙ e) in
          record { known = ltb-true _ _ q; kind = w.0; number = w.1 }
      go false q = absurd (let p = sym (part_out (ltb-false _ _ q)) ∙ e in let z : ◌≡◌ {A = ℕ} 0 1 = cc in omega arith)

  pub record RowPart (s f : ℕ) : Type 0 where
    pub known : i < length P.edges
    pub kind : kind_of G label ≡ nonterminal
    pub symbol : s ≡ label
    pub number : f ≡ field

  pub of_row : (s f : ℕ) → part_of G row i ≡ Application s f → RowPart s f
  of_row s f e = go (ltb i (length P.edges)) refl
    where
      by_kind_is : (k : Kind) → kind_of G label ≡ k → part_by k label field ≡ Application s f → (k ≡ nonterminal) × (s ≡ label) × (f ≡ field)
      by_kind_is terminal r q = absurd (let z : ◌≡◌ {A = ℕ} 0 1 = cc in omega arith)
      by_kind_is nonterminal r q = (refl, cc, cc)

      go : (b : Bool) → ltb i (length P.edges) ≡ b → RowPart s f
      go true q =
          let w = by_kind_is (kind_of G label) refl (sym (part_in (ltb-true _ _ q)) ∙ e) in
          record { known = ltb-true _ _ q; kind = w.0; symbol = w.1; number = w.2 }
      go false q = absurd (let p = sym (part_out (ltb-false _ _ q)) ∙ e in let z : ◌≡◌ {A = ℕ} 0 1 = cc in omega arith)

-- ---- the part by the fields of the tables
module _ (g row : List ℕ) (checked : check_grammar g ≡ true) (z : RuledRow (grammar_of g) row) where
  abbrev rule : ℕ
  rule = rule_in row

  abbrev right : Graph
  right = right_of (grammar_of g) rule

  pub rule_there : 1 < length row
  rule_there = omega (arith, z.sized)

  rule_listed : rule < rule_count g
  rule_listed = omega (arith, z.known, rules_length g)

  pub edges_small : length right.edges ≤ 8
  edges_small = (rule_ok g rule checked rule_listed).right.edge_count.upper

  -- an edge of the rule
  module _ (i : ℕ) (inside : i < length right.edges) where
    pub edge_ok : EdgeOk (grammar_of g) right.nodes (edge_at right.edges i)
    edge_ok = (rule_ok g rule checked rule_listed).right.edge i inside

    label_is : (edge_at right.edges i).label ≡ edge_label g rule i
    label_is =
        ap (λ (R : Rule). (edge_at R.production.right.edges i).label) (rule_is g rule rule_listed)
        ∙ ap (λ (e : Edge). e.label) (edge_is g rule i (omega (arith, right_edges g rule checked rule_listed)))

    field_is : get_or (fields_in right row) i 0 ≡ get_or row (2 + rule_nodes g rule + i) 0
    field_is =
        let at : 2 + (right.nodes + i) ≡ 2 + rule_nodes g rule + i = omega (arith, right_nodes g rule checked rule_listed) in
        get_or-drop right.nodes (drop 2 row) i 0 ∙ get_or-drop 2 row (right.nodes + i) 0 ∙ ap (λ (j : ℕ). get_or row j 0) at

    kind_read : kind_of (grammar_of g) (edge_at right.edges i).label ≡ kind_from (kind_field g (edge_label g rule i))
    kind_read =
        kind_is g (edge_at right.edges i).label (omega (arith, edge_ok.known, symbols_length g))
        ∙ ap (λ (s : ℕ). kind_from (kind_field g s)) label_is

    -- the nodes of the edge fill as many of four places as the rank says
    pub listed_take : (s : ℕ) (listed : List ℕ) → s ≡ (edge_at right.edges i).label
        → listed ≡ four_of (images (place_in right row) (edge_at right.edges i).attachment)
        → take (rank_of (grammar_of g) s) listed ≡ images (place_in right row) (edge_at right.edges i).attachment
    listed_take s listed e q =
        let L = images (place_in right row) (edge_at right.edges i).attachment in
        let ranked : rank_of (grammar_of g) s ≡ length L =
        ap (rank_of (grammar_of g)) e ∙ sym edge_ok.listed.ranked ∙ sym (length-map (edge_at right.edges i).attachment (λ (x : ℕ). at (place_in right row) x)) in
        let few : rank_of (grammar_of g) (edge_at right.edges i).label ≤ 4 =
        ((checked_grammar_ok g checked).symbol (edge_at right.edges i).label edge_ok.known).upper in
        ap₂ (λ (n : ℕ) (l : List ℕ). take n l) ranked q ∙ four_take L (omega (arith, ap (rank_of (grammar_of g)) e))

  module _ (x i : ℕ) (q : x ≡ rule_edges g rule) where
    edge_count : x ≡ length right.edges
    edge_count = q ∙ sym (right_edges g rule checked rule_listed)

    pub part_end : x ≤ i → End ≡ part_of (grammar_of g) row i
    part_end l = sym (part_out (grammar_of g) row i (omega (arith, edge_count)))

    module _ (l : i < x) (n : ℕ) (nodes : n ≡ rule_nodes g rule) where
      inside : i < length right.edges
      inside = omega (arith, edge_count)

      pub part_there : (n ≤ 8) × (i < 8) × (2 + n + i < length row)
      part_there = (
        omega (arith, nodes_few g rule checked rule_listed),
        omega (arith, edges_few g rule checked rule_listed),
        omega (arith, z.sized, edge_count, right_nodes g rule checked rule_listed),
      )

      module _ (s : ℕ) (named : s ≡ edge_label g rule i) (k : ℕ) (word : k ≡ kind_field g s) where
        abbrev here : ℕ
        here = get_or row (2 + n + i) 0

        field_read : here ≡ get_or (fields_in right row) i 0
        field_read = ap (λ (m : ℕ). get_or row (2 + m + i) 0) nodes ∙ sym (field_is i inside)

        part_by_lem : (kind : Kind) → kind_from k ≡ kind → part_by kind s here ≡ part_of (grammar_of g) row i
        part_by_lem kind p =
            let same : kind_of (grammar_of g) (edge_at right.edges i).label ≡ kind =
            kind_read i inside ∙ ap (λ (y : ℕ). kind_from (kind_field g y)) (sym named) ∙ ap kind_from (sym word) ∙ p in
            ap₂ (part_by kind) (named ∙ sym (label_is i inside)) field_read
            ∙ ap (λ (y : Kind). part_by y (edge_at right.edges i).label (get_or (fields_in right row) i 0)) (sym same)
            ∙ sym (part_in (grammar_of g) row i inside)

        pub part_edge : k ≡ 0 → GraphEdge here ≡ part_of (grammar_of g) row i
        part_edge p = part_by_lem terminal (rw p refl)

        pub part_row : (k ≡ 0 → ⊥) → Application s here ≡ part_of (grammar_of g) row i
        part_row p = part_by_lem nonterminal (rw (ne_eqb k 0 p) refl)
