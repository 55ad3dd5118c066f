-- A writing on the program's own charts: with nothing left it writes a tree with the fewest applications, or says
-- that there is none.
use Rattle.std.specs.Prelude.{Option, Some, None, Err}
use mathlib.Core.Path.{◌≡◌, refl, ap, ◌∙◌, subst}
use mathlib.Core.Bool.{Bool, true, false, cond}
use mathlib.Core.List.{List}
use Prim.Native.Nat.{ℕ, zero, suc, ◌≤◌, ◌<◌}
use native.Mathlib.Decide.{dec_lt}
use native.Mathlib.Omega.{arith}
use lib.ListN.{length}
use lib.Dec.{T, leb}
use borrow.Author.Tests.{le-leb}
use Rattle.hrg.specs.Grammars.{Graph, Grammar}
use Rattle.hrg.specs.Trees.{Tree, applications, Generates}
use Rattle.hrg.specs.Items.{Item, goal, closure}
use Rattle.hrg.specs.Deduction.{Reachable}
use Rattle.hrg.specs.Truth.{Fewest}
use Rattle.hrg.specs.WellFormed.{GrammarOk, GraphOk}
use Rattle.hrg.proofs.Goals.{generates_truth, goal_reached}
use Rattle.hrg.specs.ClosureRun.{same_item}
use Rattle.hrg.proofs.ClosureRun.{same_eq, same_refl}
use Rattle.agenda.specs.Records.{item_of}
use Rattle.agenda.specs.Consequences.{record_in}
use Rattle.agenda.specs.Steps.{Chart, least_waiting, start_chart, runs_chart}
use Rattle.agenda.specs.RunFacts.{Handled}
use Rattle.agenda.specs.declared.Record.{Record}
use Rattle.agenda.proofs.Records.{to_test}
use Rattle.agenda.proofs.Growth.{count_le}
use Rattle.agenda.proofs.Adding.{apart, cond_by}
use Rattle.agenda.proofs.RunFacts.{runs_correct, all_handled, done_handled, records_held, count_most}
use Rattle.charting.proofs.Calls.{and_both}
use Rattle.preorder.specs.Rows.{size}
use Rattle.derivation.specs.Derivations.{derivation_text, replay_text}
use Rattle.derivation.proofs.Derivations.{derivation_passes}
use Rattle.extraction.specs.Extraction.{spelt, tree_at}
use Rattle.extraction.proofs.SpelledTrees.{chart_goal_tree}
use Rattle.writing.specs.Writing.{refused, write_text, derives, write_spelt, last_of, goal_in, write_goal}
use Rattle.writing.specs.Filling.{refuses, chooses, chosen_spelt, chosen_goal}
use Rattle.writing.specs.Demand.{FewestTree, WritesTree}
use Rattle.writing.specs.declared.WriteError.TheVariants.{Unfit}
use Rattle.writing.proofs.Writings.{text_held, text_short}

test_true : (b : Bool) → T b → b ≡ true
test_true true x = refl
test_true false x = absurd x

-- ---- the search for an item
pub data SearchOf (G : Grammar) (i : Item) (rs : List Record) (n : ℕ) : Option ℕ → Type 0 where
  found_of : {k : ℕ} → k < n → item_of G (record_in rs k).item ≡ i → SearchOf G i rs n (Some k)
  missing_of : ((k : ℕ) → k < n → item_of G (record_in rs k).item ≡ i → ⊥) → SearchOf G i rs n None

pub searched_of : (G : Grammar) (i : Item) (rs : List Record) (n : ℕ) → SearchOf G i rs n (last_of G i rs n)
unfolding last_of
searched_of G i rs zero = missing_of (λ k l e. omega arith)
searched_of G i rs (suc n) =
    cond_by (SearchOf G i rs (suc n)) (same_item (item_of G (record_in rs n).item) i)
    (λ e. found_of {k = n} (omega arith) (same_eq _ _ (to_test e)))
    (λ e. before e (last_of G i rs n) (searched_of G i rs n))
  where
    last : (k : ℕ) → k < suc n → same_item (item_of G (record_in rs n).item) i ≡ false → item_of G (record_in rs k).item ≡ i → Dec (k < n) → k < n
    last k l f e (yes h) = h
    last k l f e (no h) =
        let q : k ≡ n = omega arith in
        let item : item_of G (record_in rs n).item ≡ i = subst (λ (m : ℕ). item_of G (record_in rs m).item ≡ i) q e in
        absurd (apart (ap (λ (a : Item). same_item a i) item ∙ test_true _ (same_refl i)) f)

    before : same_item (item_of G (record_in rs n).item) i ≡ false → (f : Option ℕ) → SearchOf G i rs n f → SearchOf G i rs (suc n) f
    before e (Some k) (found_of l s) = found_of {k = k} (omega arith) s
    before e None (missing_of g) = missing_of (λ k l s. g k (last k l e s (dec_lt k n)) s)

module _ (G : Grammar) (H : Graph) (ok : GrammarOk G) (hok : GraphOk G H) (cap : ℕ) (most : cap ≤ 4096) (ks : List ℕ) (c : Chart) (is : c ≡ runs_chart G H cap ks (start_chart G cap))
    (fits : c.mark ≡ 0) (done : least_waiting c.records (length c.records) ≡ None)
    (look : ℕ → Record) (same : (j : ℕ) → j < length c.records → look j ≡ record_in c.records j) where
  abbrev rs : List Record
  rs = c.records

  -- a tree of the graph makes the goal present
  module _ (u : Tree) (generates : Generates G H u) where
    reached : Reachable (closure G H) (goal G H) (applications G u)
    reached = goal_reached G H ok hok u generates

    present : Handled G c.records (goal G H)
    present = done_handled G H ok hok cap most ks c is fits done (goal G H) (applications G u) reached

    not_missing : ((k : ℕ) → k < length c.records → item_of G (record_in c.records k).item ≡ goal G H → ⊥) → ⊥
    not_missing none = none present.at present.known present.item

  -- the tree of the goal's record
  module _ (j : ℕ) (l : j < length c.records) (item : item_of G (record_in c.records j).item ≡ goal G H) where
    found_tree : (t : Tree) × Generates G H t × (applications G t ≡ (record_in c.records j).item.count) × (size t ≡ (record_in c.records j).item.count) × ((k : ℕ) → size t ≤ k → tree_at look G H k j ≡ spelt t)
    found_tree = chart_goal_tree G H ok hok cap most ks c is fits look same j l item

    small : size found_tree.0 ≤ 4096
    small =
        omega (
          arith,
          found_tree.3,
          count_most G H ok hok cap most ks c is fits j l (all_handled G H ok hok cap most ks c is done j l),
          count_le c.records,
          records_held G H ok hok cap most ks c is,
          most,
        )

    fewest : FewestTree G H found_tree.0
    fewest =
        record {
          generates = found_tree.1;
          least = λ u g.
              let f = (runs_correct G H ok hok cap most ks c is fits).fewest j l (all_handled G H ok hok cap most ks c is done j l) in
              let least : (record_in c.records j).item.count ≤ applications G u = (subst (λ (i : Item). Fewest G H i (record_in c.records j).item.count) item f).least (applications G u) (generates_truth G H ok hok u g) in
              omega (arith, found_tree.2, least);
        }

    derives_found : derives G H found_tree.0 ≡ true
    unfolding derives
    derives_found =
        let text : replay_text G H (derivation_text found_tree.0) ≡ true = test_true _ (derivation_passes G H ok hok found_tree.0 found_tree.1 small) in
        and_both (leb (size found_tree.0) 4096) (replay_text G H (derivation_text found_tree.0)) (le-leb _ _ small) text

    writes_found : (out : List ℕ) → write_spelt G H out (tree_at look G H 4096 j) ≡ write_text (derivation_text found_tree.0) out
    writes_found out =
        ap (write_spelt G H out) (found_tree.4 4096 small) ∙ ap (λ (b : Bool). cond b (write_text (derivation_text found_tree.0) out) (refused (Err Unfit) out)) derives_found

    chosen_found : chosen_spelt G H (tree_at look G H 4096 j) ≡ chooses (derivation_text found_tree.0)
    chosen_found =
        ap (chosen_spelt G H) (found_tree.4 4096 small) ∙ ap (λ (b : Bool). cond b (chooses (derivation_text found_tree.0)) (refuses (Err Unfit))) derives_found

    found_writes : (out : List ℕ) → WritesTree found_tree.0 out (write_spelt G H out (tree_at look G H 4096 j))
    found_writes out =
        record {
          held = λ k. writes_found out ∙ text_held (derivation_text found_tree.0) out k;
          short = λ k. writes_found out ∙ text_short (derivation_text found_tree.0) out k;
        }

  -- ---- the goal is looked for
  -- What a writing does with what the search found: no tree, or one with the fewest applications.
  pub data Writes (f : Option ℕ) : Type 0 where
    no_tree : ((t : Tree) → Generates G H t → ⊥) → f ≡ None → Writes f
    a_tree : (t : Tree) → FewestTree G H t → ((out : List ℕ) → WritesTree t out (write_goal G H look out f)) → size t ≤ 4096 → chosen_goal G H look f ≡ chooses (derivation_text t) → Writes f

  pub goal_writes : Writes (goal_in G H c.records)
  unfolding goal_in
  goal_writes = go (last_of G (goal G H) c.records (length c.records)) (searched_of G (goal G H) c.records (length c.records))
    where
      go : (f : Option ℕ) → SearchOf G (goal G H) c.records (length c.records) f → Writes f
      go None (missing_of none) = no_tree (λ u g. not_missing u g none) refl
      go (Some j) (found_of l item) = a_tree (found_tree j l item).0 (fewest j l item) (found_writes j l item) (small j l item) (chosen_found j l item)
