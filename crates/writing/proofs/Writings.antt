-- One writing, on any words: a refusal changes nothing, and what is written is the text of a tree that generates the
-- graph.
use Rattle.std.specs.Prelude.{Option, Some, None, Ok, Err}
use mathlib.Core.Path.{◌≡◌, refl, sym, ap, ◌∙◌, subst}
use mathlib.Core.Logic.{◌≢◌}
use mathlib.Core.Bool.{Bool, true, false, cond}
use mathlib.Core.List.{List, ◌++◌}
use Prim.Native.Nat.{ℕ, ◌≤◌, ◌<◌}
use native.Mathlib.Omega.{arith}
use lib.ListN.{length, take, drop}
use lib.Seq.{take_at, drop_at}
use lib.Dec.{T, leb}
use borrow.Author.Tests.{leb-true, leb-false}
use Rattle.hrg.specs.Grammars.{Graph, Grammar}
use Rattle.hrg.specs.Trees.{Tree}
use Rattle.hrg.proofs.Degrees.{and_true as both}
use Rattle.agenda.specs.declared.Record.{Record}
use Rattle.questions.specs.Abstract.{grammar_of, graph_of}
use Rattle.records.specs.Words.{record_at, chart_of}
use Rattle.charting.specs.Calls.{fit_chart, standing_of, Outcome}
use Rattle.charting.specs.declared.Unready.TheVariants.{Unfit as UnfitChart, TooSmall as TooSmallChart, Unfinished as UnfinishedChart}
use Rattle.charting.proofs.Calls.{chart_fit, fit_grammar, fit_graph}
use Rattle.preorder.specs.Rows.{size}
use Rattle.derivation.specs.Derivations.{derivation_text, replay_text, DerivationOf}
use Rattle.derivation.proofs.Derivations.{replay_text_is}
use Rattle.extraction.specs.Extraction.{Spelt, nothing, spelt, tree_at}
use Rattle.writing.specs.Writing.{number_of, Wrote, refused, write_text, derives, write_spelt, goal_in, write_goal, write_by, write_of, Answer}
use Rattle.writing.specs.declared.WriteError.TheVariants.{Unfit, TooSmall, Unfinished, Underivable, NoRoom}

-- the output with a text in it
abbrev pub holding : List ℕ → List ℕ → Wrote
holding text out = record { answer = Ok (length text); out = text ++ drop (length text) out }

-- ---- question 12
pub text_held : (text out : List ℕ) → length text ≤ length out → write_text text out ≡ holding text out
unfolding write_text
text_held text out l = rw (le_leb l)
  where
    le_leb : length text ≤ length out → leb (length text) (length out) ≡ true
    le_leb l = go (leb (length text) (length out)) refl
      where
        go : (b : Bool) → leb (length text) (length out) ≡ b → b ≡ true
        go true e = refl
        go false e = absurd (omega (arith, l, leb-false (length text) (length out) e))

pub text_short : (text out : List ℕ) → length out < length text → write_text text out ≡ refused (Err NoRoom) out
unfolding write_text
text_short text out l = rw (lt_leb l)
  where
    lt_leb : length out < length text → leb (length text) (length out) ≡ false
    lt_leb l = go (leb (length text) (length out)) refl
      where
        go : (b : Bool) → leb (length text) (length out) ≡ b → b ≡ false
        go false e = refl
        go true e = absurd (omega (arith, l, leb-true (length text) (length out) e))

-- ---- the two ways that a writing goes
pub data Way (G : Grammar) (H : Graph) (out : List ℕ) : Wrote → Type 0 where
  refusing : (a : Answer) → number_of a ≢ 0 → Way G H out (refused a out)
  writing : (t : Tree) → derives G H t ≡ true → length (derivation_text t) ≤ length out → Way G H out (holding (derivation_text t) out)

module _ (G : Grammar) (H : Graph) (out : List ℕ) where
  way_text : (t : Tree) → derives G H t ≡ true → Way G H out (write_text (derivation_text t) out)
  way_text t d = go (leb (length (derivation_text t)) (length out)) refl
    where
      go : (b : Bool) → leb (length (derivation_text t)) (length out) ≡ b → Way G H out (write_text (derivation_text t) out)
      go true e =
          let l = leb-true (length (derivation_text t)) (length out) e in
          subst (λ (x : Wrote). Way G H out x) (sym (text_held (derivation_text t) out l)) (writing t d l)
      go false e =
          subst (λ (x : Wrote). Way G H out x) (sym (text_short (derivation_text t) out (omega (arith, leb-false (length (derivation_text t)) (length out) e)))) (refusing (Err NoRoom) (λ z. omega (arith, z)))

  way_spelt : (s : Spelt) → Way G H out (write_spelt G H out s)
  way_spelt nothing = refusing (Err Unfit) (λ z. omega (arith, z))
  way_spelt (spelt t) = go (derives G H t) refl
    where
      go : (b : Bool) → derives G H t ≡ b → Way G H out (cond b (write_text (derivation_text t) out) (refused (Err Unfit) out))
      go true e = way_text t e
      go false e = refusing (Err Unfit) (λ z. omega (arith, z))

  way_goal : (look : ℕ → Record) (f : Option ℕ) → Way G H out (write_goal G H look out f)
  way_goal look None = refusing (Err Underivable) (λ z. omega (arith, z))
  way_goal look (Some j) = way_spelt (tree_at look G H 4096 j)

  way_by : (o : Outcome) (x : Wrote) → Way G H out x → Way G H out (write_by o out x)
  way_by (Err UnfitChart) x y = refusing (Err Unfit) (λ z. omega (arith, z))
  way_by (Err TooSmallChart) x y = refusing (Err TooSmall) (λ z. omega (arith, z))
  way_by (Err (UnfinishedChart k)) x y = refusing (Err (Unfinished k)) (λ z. omega (arith, z))
  way_by (Ok k) x y = y

module _ (g h w out : List ℕ) where
  abbrev G : Grammar
  G = grammar_of g

  abbrev H : Graph
  H = graph_of g h

  abbrev search : Wrote
  search = write_goal (grammar_of g) (graph_of g h) (λ j. record_at w j) out (goal_in (grammar_of g) (graph_of g h) (chart_of w).records)

  -- by how the chart stands
  pub write_by_is : (o : Outcome) → standing_of g h w ≡ o → write_of g h w out ≡ write_by o out search
  unfolding write_of
  write_by_is o e = ap (λ (a : Outcome). write_by a out search) e

  pub write_way : Way (grammar_of g) (graph_of g h) out (write_of g h w out)
  unfolding write_of
  write_way = way_by (grammar_of g) (graph_of g h) out (standing_of g h w) search (way_goal (grammar_of g) (graph_of g h) out (λ j. record_at w j) (goal_in (grammar_of g) (graph_of g h) (chart_of w).records))

  -- 'Refusals 1-8 and 11-13 change no lent byte', nor do 9 and 10 in the output
  pub refusal_keeps : number_of (write_of g h w out).answer ≢ 0 → (write_of g h w out).out ≡ out
  refusal_keeps = go (write_of g h w out) write_way
    where
      go : (x : Wrote) → Way (grammar_of g) (graph_of g h) out x → number_of x.answer ≢ 0 → x.out ≡ out
      go _ (refusing a n) q = refl
      go _ (writing t d l) q = absurd (q refl)

  -- 8 comes first
  pub write_unfit : fit_chart g h w ≡ false → write_of g h w out ≡ refused (Err Unfit) out
  unfolding standing_of
  write_unfit n = write_by_is (Err UnfitChart) (rw n)

  -- something is written only where the tables and the chart pass question 8
  pub written_fit : number_of (write_of g h w out).answer ≡ 0 → fit_chart g h w ≡ true
  written_fit e = go (fit_chart g h w) refl
    where
      go : (b : Bool) → fit_chart g h w ≡ b → b ≡ true
      go true q = refl
      go false q = let z : ◌≡◌ {A = ℕ} 8 0 = sym (ap (λ (x : Wrote). number_of x.answer) (write_unfit q)) ∙ e in absurd (omega (arith, z))

  -- what is written, whatever the chart
  pub record WrittenTree (n : ℕ) (now : List ℕ) : Type 0 where
    pub derivation : Tree
    pub derived : derives (grammar_of g) (graph_of g h) derivation ≡ true
    pub text : take n now ≡ derivation_text derivation
    pub inside : n ≤ length out
    pub behind : drop n now ≡ drop n out

  pub written_tree : (n : ℕ) → (write_of g h w out).answer ≡ Ok n → WrittenTree n (write_of g h w out).out
  written_tree n e = go (write_of g h w out) write_way e
    where
      go : (x : Wrote) → Way (grammar_of g) (graph_of g h) out x → x.answer ≡ Ok n → WrittenTree n x.out
      go _ (refusing a k) q = absurd (k (ap number_of q))
      go _ (writing t d l) q =
          let same : length (derivation_text t) ≡ n = (cc) in
          record {
            derivation = t;
            derived = d;
            text = take_at (derivation_text t) (drop (length (derivation_text t)) out) n same;
            inside = omega (arith, l, same);
            behind = drop_at (derivation_text t) (drop (length (derivation_text t)) out) n same ∙ ap (λ (k : ℕ). drop k out) same;
          }

  pub written_derivation : (n : ℕ) → (write_of g h w out).answer ≡ Ok n → DerivationOf (grammar_of g) (graph_of g h) (take n (write_of g h w out).out)
  unfolding derives
  written_derivation n e =
      let t = written_tree n e in
      let f = chart_fit g h w (written_fit (ap number_of e)) in
      let passes : replay_text (grammar_of g) (graph_of g h) (derivation_text t.derivation) ≡ true = (both (leb (size t.derivation) 4096) (replay_text (grammar_of g) (graph_of g h) (derivation_text t.derivation)) t.derived).1 in
      subst (λ (x : List ℕ). DerivationOf (grammar_of g) (graph_of g h) x) (sym t.text)
      ((replay_text_is (grammar_of g) (graph_of g h) (fit_grammar g h w f) (fit_graph g h w f) (derivation_text t.derivation)).sound (subst T (sym passes) tt))
