-- A text that is chosen has the rows of a tree, and the record that is read from each row is that of the tree.
use mathlib.Core.Path.{◌≡◌, refl, sym, ap, ◌∙◌}
use mathlib.Core.List.{List, [], ◌∷◌, ◌++◌, map, map-append}
use Prim.Native.Nat.{ℕ, ◌+◌, ◌<◌}
use native.Mathlib.Omega.{arith}
use lib.ListN.{length, take, drop}
use Rattle.hrg.specs.Grammars.{Edge, Rule, right_of}
use Rattle.hrg.specs.Trees.{Tree, Parts, apply, end, edge, tree, images, Fits, FitsParts}
use Rattle.questions.specs.Layout.{rule_count, rule_nodes}
use Rattle.questions.specs.Abstract.{rule_from, grammar_of, graph_of}
use Rattle.questions.proofs.WellFormedLists.{length_build, get_d_build}
use Rattle.charting.proofs.Calls.{fit_grammar, fit_graph}
use Rattle.scripts.specs.Scripts.{rows_text, WritableRows}
use Rattle.preorder.specs.Rows.{size, part_numbers, tree_rows, part_rows, rows_of}
use Rattle.derivation.specs.Derivations.{derivation_text}
use Rattle.derivation.proofs.WritableTrees.{rows_writable}
use Rattle.derivation.proofs.Derivations.{derivation_rows}
use Rattle.writing.specs.Filling.{application_of, application_in, records_by, records_in, chooses, chosen_of}
use Rattle.writing.proofs.Filling.{chosen_fit, chosen_derivation}
use Rattle.filler.specs.Rows.{application_read}

-- ---- the rows of a tree
module _ (g h : List ℕ) where
  nodes_known : (r : ℕ) → r < length (grammar_of g).rules → rule_nodes g r ≡ (right_of (grammar_of g) r).nodes
  unfolding grammar_of rule_from
  nodes_known r k =
      let known : r < rule_count g = omega (arith, length_build (rule_count g) (λ r. rule_from g r)) in
      sym (ap (λ (x : Rule). x.production.right.nodes) (get_d_build (rule_count g) (λ r. rule_from g r) r _ known))

  -- a row is read by the rule's words as by the rule
  row_read : (n r : ℕ) (fields : List ℕ) → r < length (grammar_of g).rules → application_read g (n ∷ r ∷ fields) ≡ application_in (grammar_of g) (n ∷ r ∷ fields)
  unfolding application_read application_in
  row_read n r fields k = ap (λ (m : ℕ). application_of r (take m fields) (drop m fields)) (nodes_known r k)

  mutual
    unfolding tree_rows

    tree_read : (s : ℕ) (L : List ℕ) (n : ℕ) (t : Tree) → Fits (grammar_of g) (graph_of g h) s L t → map (application_in (grammar_of g)) (tree_rows n t) ≡ map (application_read g) (tree_rows n t)
    tree_read s L n (apply r place ps) f =
        rw (row_read n r (place ++ part_numbers (n + 1) ps) f.0.known, part_read place ps (right_of (grammar_of g) r).edges (n + 1) f.1)

    part_read : (place : List ℕ) (ps : Parts) (rs : List Edge) (n : ℕ) → FitsParts (grammar_of g) (graph_of g h) place ps rs
        → map (application_in (grammar_of g)) (part_rows n ps) ≡ map (application_read g) (part_rows n ps)
    part_read place end rs n f = refl
    part_read place (edge e ps) [] n f = absurd f
    part_read place (edge e ps) (r ∷ rs) n f = part_read place ps rs n f.1
    part_read place (tree t ps) [] n f = absurd f
    part_read place (tree t ps) (r ∷ rs) n f =
        map-append (application_in (grammar_of g)) (tree_rows n t) (part_rows (n + size t) ps)
        ∙ rw (tree_read r.label (images place r.attachment) n t f.0, part_read place ps rs (n + size t) f.1)
        (sym (map-append (application_read g) (tree_rows n t) (part_rows (n + size t) ps)))

-- ---- a text that is chosen
pub record Chosen (g t : List ℕ) : Type 0 where
  pub listed : List (List ℕ)
  pub text : t ≡ rows_text listed
  pub writable : WritableRows listed
  pub records : records_in (grammar_of g) t ≡ map (application_read g) listed

pub chosen_rows : (g h w t : List ℕ) → chosen_of g h w ≡ chooses t → Chosen g t
unfolding derivation_text records_in rows_of
chosen_rows g h w t e =
    let f = chosen_fit g h w t e in
    let ok = fit_grammar g h w f in
    let hok = fit_graph g h w f in
    let d = chosen_derivation g h w t e in
    let u = d.derivation in
    record {
      listed = rows_of u;
      text = d.written;
      writable = rows_writable (grammar_of g) (graph_of g h) ok hok u d.generates d.small;
      records =
          ap (records_in (grammar_of g)) d.written
          ∙ ap (records_by (grammar_of g)) (derivation_rows (grammar_of g) (graph_of g h) ok hok u d.generates d.small)
          ∙ tree_read g h (grammar_of g).start (graph_of g h).externals 0 u d.generates.fits;
    }
