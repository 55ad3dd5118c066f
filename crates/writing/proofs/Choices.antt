-- What holds of the derivation that a writing chose: it derives the graph, whatever the chart, and is a fewest one on
-- a chart untouched since a start.
use Rattle.std.specs.Prelude.{Option, Some, None, Ok, Err}
use mathlib.Core.Path.{◌≡◌, refl, sym, ap, ◌∙◌, subst}
use mathlib.Core.Logic.{◌≢◌, ◌⊎◌, inl, inr}
use mathlib.Core.List.{List, ◌++◌}
use Prim.Native.Nat.{ℕ, ◌≤◌}
use native.Mathlib.Decide.{dec_le}
use native.Mathlib.Omega.{arith}
use lib.ListN.{length, take, drop}
use lib.Seq.{take_at, drop_at}
use Rattle.hrg.specs.Trees.{Tree}
use Rattle.agenda.specs.Steps.{least_waiting}
use Rattle.agenda.specs.declared.Record.{Record}
use Rattle.agenda.proofs.Choice.{Chosen, waits, nothing, chosen}
use Rattle.questions.specs.Abstract.{grammar_of, graph_of}
use Rattle.records.specs.Words.{capacity, chart_of}
use Rattle.preorder.specs.Rows.{size}
use Rattle.derivation.specs.Derivations.{derivation_text}
use Rattle.writing.specs.Writing.{number_of, Wrote, refused, write_of, Answer}
use Rattle.writing.specs.Filling.{records_of, records_in, Choice, refuses, chooses, chosen_of, Filled, unfilled, fill_records, fill_of}
use Rattle.writing.specs.Demand.{steps_given, AllHandled, SomeLeft, FewestTree, WritesTree, FillsTree, RecordsOf, CallsRight, WriteChoices, FillChoices}
use Rattle.writing.specs.declared.Application.{Application}
use Rattle.writing.specs.declared.WriteError.TheVariants.{TooSmall, Unfinished, NoRoom}
use Rattle.writing.proofs.Writings.{holding, written_tree, written_derivation}
use Rattle.writing.proofs.Filling.{records_held, records_short, records_size, fill_refuses, fill_chooses, refusal_number, chosen_listed}
use Rattle.writing.proofs.Demand.{demand_3}

-- an item is left, or none
left_or_none : (rs : List Record) → SomeLeft rs ⊎ AllHandled rs
left_or_none rs = go (least_waiting rs (length rs)) (chosen rs (length rs))
  where
    go : (f : Option ℕ) → Chosen rs (length rs) f → SomeLeft rs ⊎ AllHandled rs
    go None (nothing h) = inr h
    go (Some j) (waits l w h) = inl (record { at = j; known = l; waits = w })

module _ (g h w out : List ℕ) where
  module _ (n : ℕ) (e : (write_of g h w out).answer ≡ Ok n) where
    -- no refusal is a written answer
    not_refused : (a : Answer) → write_of g h w out ≡ refused a out → number_of a ≡ 0
    not_refused a q = sym (ap (λ (x : Wrote). number_of x.answer) q) ∙ ap number_of e

    abbrev Chosen-tree : Type 0
    Chosen-tree = (t : Tree) × FewestTree (grammar_of g) (graph_of g h) t × (take n (write_of g h w out).out ≡ derivation_text t)

    -- a tree that is written is the one in the output
    in_output : (t : Tree) → WritesTree t out (write_of g h w out) → take n (write_of g h w out).out ≡ derivation_text t
    in_output t wr = go (dec_le (length (derivation_text t)) (length out))
      where
        go : Dec (length (derivation_text t) ≤ length out) → take n (write_of g h w out).out ≡ derivation_text t
        go (yes l) =
            let q : write_of g h w out ≡ holding (derivation_text t) out = wr.held l in
            let z : Ok (length (derivation_text t)) ≡ Ok n = sym (ap (λ (x : Wrote). x.answer) q) ∙ e in
            let same : length (derivation_text t) ≡ n = (cc) in
            ap (λ (x : Wrote). take n x.out) q ∙ take_at (derivation_text t) (drop (length (derivation_text t)) out) n same
        go (no k) = let z : ◌≡◌ {A = ℕ} 12 0 = not_refused (Err NoRoom) (wr.short (omega arith)) in absurd (omega (arith, z))

    by_demand : {cap k : ℕ} → CallsRight g h cap k w → Chosen-tree
    by_demand {cap} {k} d = marked (dec_le (chart_of w).mark 0)
      where
        done : (chart_of w).mark ≡ 0 → AllHandled (chart_of w).records → Chosen-tree
        done m all =
            let u = written_derivation g h w out n e in
            let c = d.writes m all u.derivation u.generates in
            (c.0, c.1, in_output c.0 (c.2 out))

        left : (chart_of w).mark ≡ 0 → SomeLeft (chart_of w).records ⊎ AllHandled (chart_of w).records → Chosen-tree
        left m (inl s) = let z : ◌≡◌ {A = ℕ} 10 0 = not_refused (Err (Unfinished _)) (d.ten m s out) in absurd (omega (arith, z))
        left m (inr all) = done m all

        marked : Dec ((chart_of w).mark ≤ 0) → Chosen-tree
        marked (yes m) = left (omega (arith, m)) (left_or_none (chart_of w).records)
        marked (no m) = let z : ◌≡◌ {A = ℕ} 9 0 = not_refused (Err TooSmall) (d.nine (λ q. m (omega (arith, q))) out) in absurd (omega (arith, z))

  pub write_choices : WriteChoices g h w out (write_of g h w out).answer (write_of g h w out).out
  write_choices =
      record {
        derivation = written_derivation g h w out;
        behind = λ n e. let t = written_tree g h w out n e in (t.inside, t.behind);
        fewest = λ former cs f q n e.
            by_demand n e (subst (λ (v : List ℕ). CallsRight g h (capacity former) (steps_given cs) v) (sym q) (demand_3 g h former f cs));
      }

-- ---- the same of a row of records
module _ (g h w : List ℕ) (former : List Application) where
  abbrev filled : Filled
  filled = fill_of g h w former

  -- the two ways that a filling goes
  pub data Way : Filled → Type 0 where
    refusing : (a : Answer) → number_of a ≢ 0 → Way (unfilled a former)
    filling : (xs : List Application) → RecordsOf (grammar_of g) (graph_of g h) xs → length xs ≤ length former → Way (record { answer = Ok (length xs); rows = xs ++ drop (length xs) former })

  way_records : (xs : List Application) → RecordsOf (grammar_of g) (graph_of g h) xs → Way (fill_records xs former)
  way_records xs x = go (dec_le (length xs) (length former))
    where
      go : Dec (length xs ≤ length former) → Way (fill_records xs former)
      go (yes l) = subst Way (sym (records_held xs former l)) (filling xs x l)
      go (no n) = subst Way (sym (records_short xs former (omega arith))) (refusing (Err NoRoom) (λ z. omega (arith, z)))

  -- what is chosen is refused, or the records of a tree that generates the graph
  way_chosen : (c : Choice) → chosen_of g h w ≡ c → Way (fill_of g h w former)
  way_chosen (refuses a) e = subst Way (sym (fill_refuses g h w former a e)) (refusing a (refusal_number g h w a e))
  way_chosen (chooses text) e = subst Way (sym (fill_chooses g h w former text e)) (way_records (records_in (grammar_of g) text) (chosen_listed g h w text e))

  pub fill_way : Way (fill_of g h w former)
  fill_way = way_chosen (chosen_of g h w) refl

  -- a refusal changes no record
  pub fill_keeps : number_of (fill_of g h w former).answer ≢ 0 → (fill_of g h w former).rows ≡ former
  fill_keeps = go (fill_of g h w former) fill_way
    where
      go : (x : Filled) → Way x → number_of x.answer ≢ 0 → x.rows ≡ former
      go _ (refusing a n) q = refl
      go _ (filling xs x l) q = absurd (q refl)

  abbrev Row : ℕ → List Application → Type 0
  Row n now = RecordsOf (grammar_of g) (graph_of g h) (take n now) × (n ≤ length former) × (drop n now ≡ drop n former)

  row : (n : ℕ) (x : Filled) → Way x → x.answer ≡ Ok n → Row n x.rows
  row n _ (refusing a k) q = absurd (k (ap number_of q))
  row n _ (filling xs x l) q =
      let same : length xs ≡ n = (cc) in (
        subst (λ (ys : List Application). RecordsOf (grammar_of g) (graph_of g h) ys) (sym (take_at xs (drop (length xs) former) n same)) x,
        omega (arith, l, same),
        drop_at xs (drop (length xs) former) n same ∙ ap (λ (k : ℕ). drop k former) same,
      )

  module _ (n : ℕ) (e : (fill_of g h w former).answer ≡ Ok n) where
    not_unfilled : (a : Answer) → fill_of g h w former ≡ unfilled a former → number_of a ≡ 0
    not_unfilled a q = sym (ap (λ (x : Filled). number_of x.answer) q) ∙ ap number_of e

    abbrev Chosen-row : Type 0
    Chosen-row = (t : Tree) × FewestTree (grammar_of g) (graph_of g h) t × (take n (fill_of g h w former).rows ≡ records_of t)

    -- a tree that is filled in is the one in the row
    in_row : (t : Tree) → FillsTree t former (fill_of g h w former) → take n (fill_of g h w former).rows ≡ records_of t
    unfolding records_of
    in_row t fl = go (dec_le (size t) (length former))
      where
        go : Dec (size t ≤ length former) → take n (fill_of g h w former).rows ≡ records_of t
        go (yes l) =
            let z : Ok (size t) ≡ Ok n = sym (ap (λ (x : Filled). x.answer) (fl.held l)) ∙ e in
            let same : size t ≡ n = (cc) in
            ap (λ (x : Filled). take n x.rows) (fl.held l) ∙ take_at (records_of t) (drop (size t) former) n (records_size 0 t ∙ same)
        go (no k) = let z : ◌≡◌ {A = ℕ} 12 0 = not_unfilled (Err NoRoom) (fl.short (omega arith)) in absurd (omega (arith, z))

    row_by_demand : {cap k : ℕ} → CallsRight g h cap k w → Chosen-row
    row_by_demand {cap} {k} d = marked (dec_le (chart_of w).mark 0)
      where
        done : (chart_of w).mark ≡ 0 → AllHandled (chart_of w).records → Chosen-row
        done m all =
            let u = (row n (fill_of g h w former) fill_way e).0 in
            let c = d.writes m all u.derivation u.generates in
            (c.0, c.1, in_row c.0 (c.3 former))

        left : (chart_of w).mark ≡ 0 → SomeLeft (chart_of w).records ⊎ AllHandled (chart_of w).records → Chosen-row
        left m (inl s) = let z : ◌≡◌ {A = ℕ} 10 0 = not_unfilled (Err (Unfinished _)) (d.ten_row m s former) in absurd (omega (arith, z))
        left m (inr all) = done m all

        marked : Dec ((chart_of w).mark ≤ 0) → Chosen-row
        marked (yes m) = left (omega (arith, m)) (left_or_none (chart_of w).records)
        marked (no m) = let z : ◌≡◌ {A = ℕ} 9 0 = not_unfilled (Err TooSmall) (d.nine_row (λ q. m (omega (arith, q))) former) in absurd (omega (arith, z))

  pub fill_choices : FillChoices g h w former (fill_of g h w former).answer (fill_of g h w former).rows
  fill_choices =
      record {
        derivation = λ n e. (row n (fill_of g h w former) fill_way e).0;
        behind = λ n e. let x = row n (fill_of g h w former) fill_way e in (x.1, x.2);
        fewest = λ beginning cs f q n e.
            row_by_demand n e (subst (λ (v : List ℕ). CallsRight g h (capacity beginning) (steps_given cs) v) (sym q) (demand_3 g h beginning f cs));
      }
