-- A row of records is filled with the same derivation whose text is written: on any words, for any row.
use Rattle.std.specs.Prelude.{Option, Some, None, Ok, Err}
use mathlib.Core.Path.{◌≡◌, refl, ap, ◌∙◌, subst}
use mathlib.Core.Logic.{◌≢◌}
use mathlib.Core.Bool.{Bool, true, false, cond}
use mathlib.Core.List.{List, [], ◌∷◌, ◌++◌, map, map-append}
use Prim.Native.Nat.{ℕ, suc, ◌+◌, ◌-◌, ◌≤◌, ◌<◌}
use native.Mathlib.Omega.{arith}
use lib.ListN.{length, take, drop, replicate, length-append}
use lib.Seq.{take-append_seam, take-append-add, take_at, drop_at}
use borrow.Author.Tests.{le-leb, lt-leb}
use Rattle.hrg.specs.Grammars.{Edge, Graph, Grammar, right_of}
use Rattle.hrg.specs.Trees.{Tree, Parts, apply, end, edge, tree, images, FitsRule, Fits, FitsParts, Generates}
use Rattle.hrg.specs.WellFormed.{GrammarOk, GraphOk}
use Rattle.hrg.proofs.Degrees.{T_test}
use Rattle.agenda.specs.declared.Record.{Record}
use Rattle.questions.specs.Abstract.{grammar_of, graph_of}
use Rattle.records.specs.Words.{record_at, chart_of}
use Rattle.charting.specs.Calls.{fit, standing_of, Outcome}
use Rattle.charting.specs.declared.Unready.TheVariants.{Unfit as UnfitChart, TooSmall as TooSmallChart, Unfinished as UnfinishedChart}
use Rattle.charting.proofs.Calls.{chart_fit, fit_grammar, fit_graph}
use Rattle.scripts.specs.Scripts.{rows_text}
use Rattle.preorder.specs.Rows.{size, size_in, part_numbers, tree_rows, part_rows, rows_of}
use Rattle.derivation.specs.Derivations.{derivation_text, replay_text, DerivationOf}
use Rattle.derivation.proofs.WritableTrees.{numbers_length}
use Rattle.derivation.proofs.Derivations.{derivation_rows, derivation_passes, derivation_length}
use Rattle.extraction.specs.Extraction.{Spelt, nothing, spelt, tree_at}
use Rattle.writing.specs.Writing.{number_of, Wrote, refused, write_text, derives, write_spelt, goal_in, write_goal, write_by as writeStanding, write_of, Answer}
use Rattle.writing.specs.Filling.{eight, application_of, tree_records, part_records, records_of, row_of, rows_for, records_text, application_in, records_by, records_in, Choice, refuses, chooses, chosen_spelt, chosen_goal, chosen_by, chosen_of, write_by, unfilled, fill_records, fill_by, fill_of}
use Rattle.writing.specs.Demand.{RecordsOf}
use Rattle.writing.specs.declared.Application.{Application}
use Rattle.writing.specs.declared.WriteError.TheVariants.{Unfit, NoRoom}
use Rattle.writing.proofs.Writings.{Way, refusing, writing, holding, text_held, write_way, written_fit, written_derivation}

-- ---- the writer goes by the choice
module _ (G : Grammar) (H : Graph) (out : List ℕ) where
  write_spelt_is : (s : Spelt) → write_spelt G H out s ≡ write_by (chosen_spelt G H s) out
  write_spelt_is nothing = refl
  write_spelt_is (spelt t) = go (derives G H t)
    where
      go : (b : Bool) → cond b (write_text (derivation_text t) out) (refused (Err Unfit) out) ≡ write_by (cond b (chooses (derivation_text t)) (refuses (Err Unfit))) out
      go true = refl
      go false = refl

  write_goal_is : (look : ℕ → Record) (f : Option ℕ) → write_goal G H look out f ≡ write_by (chosen_goal G H look f) out
  write_goal_is look None = refl
  write_goal_is look (Some j) = write_spelt_is (tree_at look G H 4096 j)

  write_standing : (o : Outcome) (x : Wrote) (c : Choice) → x ≡ write_by c out → writeStanding o out x ≡ write_by (chosen_by o c) out
  write_standing (Err UnfitChart) x c e = refl
  write_standing (Err TooSmallChart) x c e = refl
  write_standing (Err (UnfinishedChart k)) x c e = refl
  write_standing (Ok k) x c e = e

pub write_chosen : (g h w out : List ℕ) → write_of g h w out ≡ write_by (chosen_of g h w) out
unfolding write_of chosen_of
write_chosen g h w out =
    let G = grammar_of g in
    let H = graph_of g h in
    let f = goal_in G H (chart_of w).records in
    write_standing G H out (standing_of g h w) _ (chosen_goal G H (λ j. record_at w j) f) (write_goal_is G H out (λ j. record_at w j) f)

-- ---- the row that is lent
pub records_held : (xs former : List Application) → length xs ≤ length former → fill_records xs former ≡ record { answer = Ok (length xs); rows = xs ++ drop (length xs) former }
unfolding fill_records
records_held xs former l = rw (le-leb (length xs) (length former) l)

pub records_short : (xs former : List Application) → length former < length xs → fill_records xs former ≡ unfilled (Err NoRoom) former
unfolding fill_records
records_short xs former l = rw (lt-leb (length xs) (length former) l)

-- ---- the records of a tree
mutual
  unfolding size tree_records

  pub records_size : (n : ℕ) (t : Tree) → length (tree_records n t) ≡ size t
  records_size n (apply r place ps) = ap suc (part_records_size (n + 1) ps)

  part_records_size : (n : ℕ) (ps : Parts) → length (part_records n ps) ≡ size_in ps
  part_records_size n end = refl
  part_records_size n (edge g ps) = part_records_size n ps
  part_records_size n (tree t ps) =
      omega (arith, length-append (tree_records n t) (part_records (n + size t) ps), records_size n t, part_records_size (n + size t) ps)

-- eight places hold as many numbers
eight_holds : (l : List ℕ) → length l ≤ 8 → take (length l) (eight l) ≡ l
unfolding eight
eight_holds l h =
    let eighth : 8 ≡ length l + (8 - length l) = omega (arith, h) in
    let places : take 8 (l ++ replicate 8 0) ≡ l ++ take (8 - length l) (replicate 8 0) =
    ap (λ (n : ℕ). take n (l ++ replicate 8 0)) eighth ∙ take-append-add l (replicate 8 0) (8 - length l) in
    ap (λ (x : List ℕ). take (length l) x) places ∙ take-append_seam l (take (8 - length l) (replicate 8 0))

rows_append : (n : ℕ) (xs ys : List Application) → rows_for n (xs ++ ys) ≡ rows_for n xs ++ rows_for (n + length xs) ys
unfolding rows_for
rows_append n [] ys = ap (λ (m : ℕ). rows_for m ys) (omega arith)
rows_append n (x ∷ xs) ys = ap (λ (l : List (List ℕ)). row_of n x ∷ l) (rows_append (n + 1) xs ys ∙ ap (λ (m : ℕ). rows_for (n + 1) xs ++ rows_for m ys) (omega arith))

module _ (G : Grammar) (H : Graph) (ok : GrammarOk G) (hok : GraphOk G H) where
  -- a record says what the row says
  row_same : (s n r : ℕ) (L place : List ℕ) (ps : Parts) → FitsRule G H s L r place → FitsParts G H place ps (right_of G r).edges
      → row_of n (application_of r place (part_numbers (n + 1) ps)) ≡ n ∷ r ∷ (place ++ part_numbers (n + 1) ps)
  unfolding row_of application_of
  row_same s n r L place ps f fs =
      let right = (ok.rule r f.known).right in
      let numbers = part_numbers (n + 1) ps in
      rw (
        eight_holds place (omega (arith, f.sized, right.node_count.upper)),
        eight_holds numbers (omega (arith, numbers_length G H ok hok place ps (right_of G r).edges (n + 1) fs, right.edge_count.upper)),
      )

  mutual
    unfolding tree_records tree_rows rows_for

    tree_rows_lem : (s : ℕ) (L : List ℕ) (n : ℕ) (t : Tree) → Fits G H s L t → rows_for n (tree_records n t) ≡ tree_rows n t
    tree_rows_lem s L n (apply r place ps) f = cong2 (row_same s n r L place ps f.0 f.1) (part_rows_lem place ps (right_of G r).edges (n + 1) f.1)
      where
        cong2 : {x y : List ℕ} {xs ys : List (List ℕ)} → x ≡ y → xs ≡ ys → x ∷ xs ≡ y ∷ ys
        cong2 p q = rw (p, q)

    part_rows_lem : (place : List ℕ) (ps : Parts) (rs : List Edge) (n : ℕ) → FitsParts G H place ps rs → rows_for n (part_records n ps) ≡ part_rows n ps
    part_rows_lem place end rs n f = refl
    part_rows_lem place (edge g ps) [] n f = absurd f
    part_rows_lem place (edge g ps) (r ∷ rs) n f = part_rows_lem place ps rs n f.1
    part_rows_lem place (tree t ps) [] n f = absurd f
    part_rows_lem place (tree t ps) (r ∷ rs) n f =
        rows_append n (tree_records n t) (part_records (n + size t) ps)
        ∙ rw (records_size n t, tree_rows_lem r.label (images place r.attachment) n t f.0, part_rows_lem place ps rs (n + size t) f.1)

  -- The records of a tree, turned into text, are its text.
  pub records_text_is : (t : Tree) → Generates G H t → records_text (records_of t) ≡ derivation_text t
  unfolding records_text records_of rows_of derivation_text
  records_text_is t g = ap rows_text (tree_rows_lem G.start H.externals 0 t g.fits)

  -- ---- and back: the rows of a tree's text are its records
  row_record : (s n r : ℕ) (L place : List ℕ) (ps : Parts) → FitsRule G H s L r place → application_in G (n ∷ r ∷ (place ++ part_numbers (n + 1) ps)) ≡ application_of r place (part_numbers (n + 1) ps)
  unfolding application_in
  row_record s n r L place ps f = rw (take_at place (part_numbers (n + 1) ps) (right_of G r).nodes f.sized, drop_at place (part_numbers (n + 1) ps) (right_of G r).nodes f.sized)

  mutual
    unfolding tree_records tree_rows

    tree_records_lem : (s : ℕ) (L : List ℕ) (n : ℕ) (t : Tree) → Fits G H s L t → map (application_in G) (tree_rows n t) ≡ tree_records n t
    tree_records_lem s L n (apply r place ps) f = rw (row_record s n r L place ps f.0, part_records_lem place ps (right_of G r).edges (n + 1) f.1)

    part_records_lem : (place : List ℕ) (ps : Parts) (rs : List Edge) (n : ℕ) → FitsParts G H place ps rs → map (application_in G) (part_rows n ps) ≡ part_records n ps
    part_records_lem place end rs n f = refl
    part_records_lem place (edge g ps) [] n f = absurd f
    part_records_lem place (edge g ps) (r ∷ rs) n f = part_records_lem place ps rs n f.1
    part_records_lem place (tree t ps) [] n f = absurd f
    part_records_lem place (tree t ps) (r ∷ rs) n f =
        map-append (application_in G) (tree_rows n t) (part_rows (n + size t) ps)
        ∙ rw (tree_records_lem r.label (images place r.attachment) n t f.0, part_records_lem place ps rs (n + size t) f.1)

  pub text_records : (t : Tree) → Generates G H t → size t ≤ 4096 → records_in G (derivation_text t) ≡ records_of t
  unfolding records_in records_of rows_of
  text_records t g l = ap (records_by G) (derivation_rows G H ok hok t g l) ∙ tree_records_lem G.start H.externals 0 t g.fits

-- ---- what is chosen, whatever the chart
module _ (g h w : List ℕ) where
  abbrev G : Grammar
  G = grammar_of g

  abbrev H : Graph
  H = graph_of g h

  abbrev found : Choice
  found = chosen_goal (grammar_of g) (graph_of g h) (λ j. record_at w j) (goal_in (grammar_of g) (graph_of g h) (chart_of w).records)

  -- by how the chart stands
  pub chosen_by_is : (o : Outcome) → standing_of g h w ≡ o → chosen_of g h w ≡ chosen_by o found
  unfolding chosen_of
  chosen_by_is o e = ap (λ (a : Outcome). chosen_by a found) e

  -- a choice shows in an output that holds it
  chosen_writes : (text : List ℕ) → chosen_of g h w ≡ chooses text → write_of g h w text ≡ write_text text text
  chosen_writes text e = write_chosen g h w text ∙ ap (λ (c : Choice). write_by c text) e

  chosen_written : (text : List ℕ) → chosen_of g h w ≡ chooses text → write_of g h w text ≡ holding text text
  chosen_written text e = chosen_writes text e ∙ text_held text text (omega arith)

  pub chosen_fit : (text : List ℕ) → chosen_of g h w ≡ chooses text → fit g h w ≡ true
  chosen_fit text e = chart_fit g h w (written_fit g h w text (ap (λ (x : Wrote). number_of x.answer) (chosen_written text e)))

  -- what is chosen is the text of a tree that generates the graph
  pub chosen_derivation : (text : List ℕ) → chosen_of g h w ≡ chooses text → DerivationOf (grammar_of g) (graph_of g h) text
  chosen_derivation text e =
      let x = written_derivation g h w text (length text) (ap (λ (x : Wrote). x.answer) (chosen_written text e)) in
      subst (λ (l : List ℕ). DerivationOf (grammar_of g) (graph_of g h) l)
      (ap (λ (x : Wrote). take (length text) x.out) (chosen_written text e) ∙ take-append_seam text (drop (length text) text)) x

  -- a refusal is no `Written`
  pub refusal_number : (a : Answer) → chosen_of g h w ≡ refuses a → number_of a ≢ 0
  refusal_number a e z = go (write_of g h w []) (write_way g h w []) (write_chosen g h w [] ∙ ap (λ (c : Choice). write_by c []) e)
    where
      go : (x : Wrote) → Way (grammar_of g) (graph_of g h) [] x → x ≡ refused a [] → ⊥
      go _ (refusing b n) q = n (ap (λ (x : Wrote). number_of x.answer) q ∙ z)
      go _ (writing t d l) q = omega (arith, l, derivation_length t)

  -- the records of what is chosen are those of a tree that generates the graph
  pub chosen_listed : (text : List ℕ) → chosen_of g h w ≡ chooses text → RecordsOf (grammar_of g) (graph_of g h) (records_in (grammar_of g) text)
  chosen_listed text e =
      let f = chosen_fit text e in
      let ok = fit_grammar g h w f in
      let hok = fit_graph g h w f in
      let d = chosen_derivation text e in
      let t = d.derivation in
      let listed : records_in (grammar_of g) text ≡ records_of t = ap (records_in (grammar_of g)) d.written ∙ text_records (grammar_of g) (graph_of g h) ok hok t d.generates d.small in
      let again : records_text (records_in (grammar_of g) text) ≡ derivation_text t = ap records_text listed ∙ records_text_is (grammar_of g) (graph_of g h) ok hok t d.generates in
      record {
        derivation = t;
        generates = d.generates;
        small = d.small;
        listed = listed;
        text = again;
        replays = ap (replay_text (grammar_of g) (graph_of g h)) again ∙ T_test _ (derivation_passes (grammar_of g) (graph_of g h) ok hok t d.generates d.small);
      }

  -- ---- the row
  pub fill_refuses : (former : List Application) (a : Answer) → chosen_of g h w ≡ refuses a → fill_of g h w former ≡ unfilled a former
  unfolding fill_of
  fill_refuses former a e = ap (λ (c : Choice). fill_by (grammar_of g) c former) e

  pub fill_chooses : (former : List Application) (text : List ℕ) → chosen_of g h w ≡ chooses text → fill_of g h w former ≡ fill_records (records_in (grammar_of g) text) former
  unfolding fill_of
  fill_chooses former text e = ap (λ (c : Choice). fill_by (grammar_of g) c former) e

  -- the records of a tree that is chosen
  pub chosen_records : (t : Tree) → Generates (grammar_of g) (graph_of g h) t → size t ≤ 4096 → chosen_of g h w ≡ chooses (derivation_text t) → (former : List Application)
      → fill_of g h w former ≡ fill_records (records_of t) former
  chosen_records t gen l e former =
      let f = chosen_fit (derivation_text t) e in
      fill_chooses former (derivation_text t) e
      ∙ ap (λ (xs : List Application). fill_records xs former) (text_records (grammar_of g) (graph_of g h) (fit_grammar g h w f) (fit_graph g h w f) t gen l)
