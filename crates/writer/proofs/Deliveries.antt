-- A law for each way through the functions that deliver a text.
use Rattle.std.specs.Prelude.{Option, Some, Ok, Err}
use mathlib.Core.Path.{◌≡◌, refl, sym, ap, ◌∙◌, subst}
use mathlib.Core.Bool.{Bool, true, false, cond}
use mathlib.Core.List.{List, [], ◌∷◌, ◌++◌}
use Prim.Native.Nat.{ℕ, ◌+◌, ◌-◌, ◌≤◌, ◌<◌}
use native.Mathlib.Decide.{dec_le}
use native.Mathlib.Omega.{arith}
use lib.ListN.{length, take, drop, length-drop}
use lib.Seq.{take_all}
use borrow.Author.Tests.{le-leb, lt-leb}
use Rattle.hrg.specs.Grammars.{Graph, Grammar}
use Rattle.agenda.specs.declared.Record.{Record}
use Rattle.scripts.specs.Scripts.{rows_text}
use Rattle.scripts.proofs.ScriptReading.{script_missing_at}
use Rattle.preorder.specs.Rows.{size, rows_of}
use Rattle.derivation.specs.Derivations.{derivation_text, replay_text}
use Rattle.derivation.proofs.Derivations.{replay_bad}
use Rattle.extraction.specs.Extraction.{Spelt, nothing, spelt, tree_at}
use Rattle.extraction.specs.Listing.{Listing, endless, listing}
use Rattle.extraction.proofs.Listings.{listing_none, listing_tree, listing_large}
use Rattle.extraction.proofs.ListedRows.{rows_listed}
use Rattle.questions.specs.Abstract.{grammar_of, graph_of}
use Rattle.records.specs.Words.{record_at, chart_of}
use Rattle.charting.specs.Calls.{fit, fit_chart, standing_of, Outcome}
use Rattle.charting.specs.declared.Unready.{Unready}
use Rattle.charting.specs.declared.Unready.TheVariants.{Unfit as UnfitChart, TooSmall as TooSmallChart, Unfinished as UnfinishedChart}
use Rattle.validity.specs.Checking.{known_chart}
use Rattle.charting.proofs.Calls.{chart_fit, chart_known}
use Rattle.chart.proofs.CallSteps.{fit_accepted}
use Rattle.joins.specs.Joins.{Accepted}
use Rattle.writing.specs.Writing.{Wrote, refused, write_text, derives, write_spelt, goal_in, write_goal, write_by, write_of, Answer, error_of}
use Rattle.writing.specs.Demand.{WriteChoices}
use Rattle.writing.specs.declared.WriteError.TheVariants.{Unfit, NoRoom}
use Rattle.writing.proofs.Writings.{text_held, text_short, write_by_is}
use Rattle.writing.proofs.Choices.{write_choices}
use Rattle.extractor.specs.Lists.{ListedIn}
use Rattle.extractor.specs.Texts.{text_by, text_at}
use Rattle.writer.specs.Delivering.{Leaves, delivered}

leaves : (wrote other : Wrote) → wrote ≡ other → Leaves wrote other.answer other.out
leaves wrote other e = record { answer = ap (λ (x : Wrote). x.answer) (sym e); bytes = ap (λ (x : Wrote). x.out) (sym e) }

-- ---- what a list says that has eight places more than it may have applications
pub listed_in : (look : ℕ → Record) (G : Grammar) (size limit : ℕ) (n : Option ℕ) (js list : List ℕ) → size ≡ limit + 8 → ListedIn (size - 8) (listing look G (size - 8) js) list n → ListedIn limit (listing look G limit js) list n
listed_in look G size limit n js list e p =
    let same : size - 8 ≡ limit = omega arith in
    subst (λ (k : ℕ). ListedIn k (listing look G k js) list n) same p

-- ---- a text is delivered
module _ (G : Grammar) (H : Graph) (text out : List ℕ) (b : Bool) (is : b ≡ replay_text G H text) where
  by_replay : (c : Bool) → b ≡ c → delivered G H text out ≡ cond c (write_text text out) (refused (Err Unfit) out)
  unfolding delivered
  by_replay c e = ap (λ (t : Bool). cond t (write_text text out) (refused (Err Unfit) out)) (sym is ∙ e)

  pub deliver_refused : b ≡ false → Leaves (delivered G H text out) (Err Unfit) out
  deliver_refused e = leaves (delivered G H text out) (refused (Err Unfit) out) (by_replay false e)

  pub deliver_short : b ≡ true → length out < length text → Leaves (delivered G H text out) (Err NoRoom) out
  deliver_short e l = leaves (delivered G H text out) (refused (Err NoRoom) out) (by_replay true e ∙ text_short text out l)

  pub deliver_written : (now : List ℕ) → b ≡ true → length text ≤ length out → now ≡ text ++ drop (length text) out → Leaves (delivered G H text out) (Ok (length text)) now
  deliver_written now e l q =
      subst (λ (x : List ℕ). Leaves (delivered G H text out) (Ok (length text)) x) (sym q)
      (leaves (delivered G H text out) (record { answer = Ok (length text); out = text ++ drop (length text) out }) (by_replay true e ∙ text_held text out l))

-- the part of a buffer from `start` to its end
pub part_delivered : (G : Grammar) (H : Graph) (buffer out now : List ℕ) (a : Answer) (start n : ℕ) → length buffer ≤ start + n → Leaves (delivered G H (take n (drop start buffer)) out) a now
    → Leaves (delivered G H (drop start buffer) out) a now
part_delivered G H buffer out now a start n l x =
    subst (λ (t : List ℕ). Leaves (delivered G H t out) a now) (take_all n (drop start buffer) (omega (arith, l, length-drop start buffer))) x

-- ---- the text of the tree that partners spell
module _ (look : ℕ → Record) (G : Grammar) (H : Graph) (j : ℕ) where
  no_text : (out : List ℕ) → delivered G H [] out ≡ refused (Err Unfit) out
  unfolding delivered
  no_text out = ap (λ (t : Bool). cond t (write_text [] out) (refused (Err Unfit) out)) (replay_bad G H [] (script_missing_at [] (omega arith)))

  pub spelt_text : (out : List ℕ) → delivered G H (text_at look G H j) out ≡ write_spelt G H out (tree_at look G H 4096 j)
  unfolding text_at derives delivered derivation_text
  spelt_text out = go (tree_at look G H 4096 j) refl
    where
      none : listing look G 4096 (j ∷ []) ≡ endless → delivered G H (text_at look G H j) out ≡ refused (Err Unfit) out
      none e = ap (λ (l : Listing). delivered G H (text_by look G H l) out) e ∙ no_text out

      go : (s : Spelt) → tree_at look G H 4096 j ≡ s → delivered G H (text_at look G H j) out ≡ write_spelt G H out s
      go nothing e = none (listing_none look G H 4096 j e)
      go (spelt t) e = sized (dec_le (size t) 4096)
        where
          sized : Dec (size t ≤ 4096) → delivered G H (text_at look G H j) out ≡ write_spelt G H out (spelt t)
          sized (yes l) =
              let rows : text_at look G H j ≡ rows_text (rows_of t) =
              ap (λ (x : Listing). text_by look G H x) (listing_tree look G H 4096 j t e 4096 l) ∙ ap rows_text (rows_listed look G H 4096 j t e) in
              rw (rows, le-leb (size t) 4096 l) refl
          sized (no n) = none (listing_large look G H 4096 j t e 4096 (omega arith)) ∙ rw (lt-leb (size t) 4096 (omega arith)) refl

  pub item_written : (out text now : List ℕ) (a : Answer) → text ≡ text_at look G H j → Leaves (delivered G H text out) a now → Leaves (write_spelt G H out (tree_at look G H 4096 j)) a now
  item_written out text now a e l =
      subst (λ (x : Wrote). Leaves x a now) (ap (λ (t : List ℕ). delivered G H t out) e ∙ spelt_text out) l

-- ---- the goal
pub goal_found : (G : Grammar) (H : Graph) (look : ℕ → Record) (out now : List ℕ) (a : Answer) (f : Option ℕ) (j : ℕ) → Some j ≡ f → Leaves (write_spelt G H out (tree_at look G H 4096 j)) a now
    → Leaves (write_goal G H look out f) a now
goal_found G H look out now a f j e l = subst (λ (x : Option ℕ). Leaves (write_goal G H look out x) a now) e l

-- ---- the whole writing
module _ (g h w out : List ℕ) (o : Outcome) (stands : o ≡ standing_of g h w) where
  abbrev WroteAs : Answer → List ℕ → Type 0
  WroteAs a now = (a ≡ (write_of g h w out).answer) × (now ≡ (write_of g h w out).out) × WriteChoices g h w out a now

  abbrev found : Wrote
  found = write_goal (grammar_of g) (graph_of g h) (λ j. record_at w j) out (goal_in (grammar_of g) (graph_of g h) (chart_of w).records)

  written_by : (a : Answer) (now : List ℕ) → Leaves (write_by o out found) a now → WroteAs a now
  written_by a now l =
      let e : write_of g h w out ≡ write_by o out found = write_by_is g h w out o (sym stands) in
      let p : a ≡ (write_of g h w out).answer = l.answer ∙ ap (λ (x : Wrote). x.answer) (sym e) in
      let q : now ≡ (write_of g h w out).out = l.bytes ∙ ap (λ (x : Wrote). x.out) (sym e) in
      (p, q, subst (λ (b : Answer). WriteChoices g h w out b now) (sym p) (subst (λ (x : List ℕ). WriteChoices g h w out (write_of g h w out).answer x) (sym q) (write_choices g h w out)))

  unready : (u : Unready) → Leaves (write_by (Err u) out found) (Err (error_of u)) out
  unready UnfitChart = record { answer = refl; bytes = refl }
  unready TooSmallChart = record { answer = refl; bytes = refl }
  unready (UnfinishedChart k) = record { answer = refl; bytes = refl }

  pub written_unready : (u : Unready) → o ≡ Err u → WroteAs (Err (error_of u)) out
  written_unready u e = written_by (Err (error_of u)) out (subst (λ (p : Outcome). Leaves (write_by p out found) (Err (error_of u)) out) (sym e) (unready u))

  pub written_done : (k : ℕ) (a : Answer) (now : List ℕ) → o ≡ Ok k → Leaves found a now → WroteAs a now
  written_done k a now e l = written_by a now (subst (λ (p : Outcome). Leaves (write_by p out found) a now) (sym e) l)

  -- a chart with nothing left has passed question 8
  done_fits : (k : ℕ) → o ≡ Ok k → fit_chart g h w ≡ true
  unfolding standing_of
  done_fits k e = go (fit_chart g h w) refl (sym stands ∙ e)
    where
      go : (b : Bool) → fit_chart g h w ≡ b → standing_of g h w ≡ Ok k → b ≡ true
      go true f q = refl
      go false f q = absurd (never (sym (rw f) ∙ q))
        where
          never : (Err UnfitChart) ≡ Ok k → ⊥
          never z = let y : ◌≡◌ {A = ℕ} 0 1 = cc in omega (arith, y)

  pub done_known : (k : ℕ) → o ≡ Ok k → known_chart (grammar_of g) (graph_of g h) w ≡ true
  done_known k e = chart_known g h w (done_fits k e)

  pub done_accepted : (k : ℕ) → o ≡ Ok k → Accepted g h
  done_accepted k e = fit_accepted g h w (fit g h w) refl (chart_fit g h w (done_fits k e))
