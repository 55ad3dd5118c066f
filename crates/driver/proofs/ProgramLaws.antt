-- Laws of the two programs' definitions: one for each way that they can go.
use Rattle.std.specs.Prelude.{Ok, Err, is_err}
use mathlib.Core.Bool.{true, false, true≢false}
use mathlib.Core.Path.{◌≡◌, refl, sym, ap, ◌∙◌}
use mathlib.Core.List.{List, ◌++◌}
use Prim.Native.Nat.{ℕ, ◌≤◌, ◌<◌}
use native.Mathlib.Omega.{arith}
use lib.ListN.{length, take, replicate, length-replicate}
use lib.Seq.{length-take-le}
use borrow.Author.Tests.{eq-eqb, ne_eqb}
use Rattle.questions.specs.Layout.{grammar_words, graph_words}
use Rattle.charting.specs.Calls.{number_of as chart_number, start_of, run_of, Outcome}
use Rattle.charting.specs.declared.Unready.{Unready}
use Rattle.charting.specs.declared.Unready.TheVariants.{Unfit as UnfitChart, TooSmall as TooSmallChart, Unfinished as UnfinishedChart}
use Rattle.writing.specs.Writing.{number_of as writing_number, write_of, Answer}
use Rattle.writing.specs.Demand.{WriteChoices}
use Rattle.writing.specs.declared.WriteError.{WriteError}
use Rattle.writing.specs.declared.WriteError.TheVariants.{Unfit, TooSmall, Unfinished, Underivable, NoRoom}
use Rattle.replayer.specs.Verdicts.{number_of as verdict_number, replay_of, Verdict}
use Rattle.programs.specs.Files.{file_bytes, files_of, FilesGive}
use Rattle.programs.specs.Programs.{Derived, refused, derived, derived_text, refusal_line, steps_line, items, chart_words, output_bytes, when_written, write_chart, when_ran, derive_tables, derive_files, replay_tables, replay_files, Prints}
use Rattle.programs.proofs.Limits.{derivation_oversize, derivation_within}

abbrev cleared : ℕ → List ℕ
cleared n = replicate n 0

prints_as : (d e : Derived) (former now : List ℕ) (r : ℕ) → d ≡ e → Prints (derived_text e) former now r → Prints (derived_text d) former now r
prints_as d e former now r q p = rw q p

-- ---- the writing
not_written : (e : WriteError) (out : List ℕ) (steps : ℕ) → when_written (Err e) out steps ≡ refused (writing_number (Err e))
not_written Unfit out steps = refl
not_written TooSmall out steps = refl
not_written (Unfinished k) out steps = refl
not_written Underivable out steps = refl
not_written NoRoom out steps = refl

-- the bytes written are a part of the output
pub written_fits : (g h w out : List ℕ) (a : Answer) (n : ℕ) → WriteChoices g h w (cleared output_bytes) a out → length out ≡ length (cleared output_bytes) → a ≡ Ok n
    → (n ≤ length out) × (n ≡ length (take n out)) × (length (take n out) ≤ output_bytes)
written_fits g h w out a n choices l q =
    let within : n ≤ length out = omega (arith, (choices.behind n q).0) in
    let size : length (take n out) ≡ n = length-take-le n out within in (within, sym size, omega (arith, length-replicate {A = ℕ} output_bytes 0))

module _ (g h w : List ℕ) (steps : ℕ) (a : Answer) (e : a ≡ (write_of g h w (cleared output_bytes)).answer) (former now : List ℕ) (r : ℕ) where
  pub prints_derived : (out : List ℕ) (n : ℕ) → out ≡ (write_of g h w (cleared output_bytes)).out → a ≡ Ok n
      → Prints (take n out ++ steps_line steps) former now r → Prints (derived_text (write_chart g h w steps)) former now r
  unfolding write_chart
  prints_derived out n o q p =
      prints_as _ (derived (take n out) steps) former now r
      (ap (λ x. when_written x (write_of g h w (cleared output_bytes)).out steps) (sym e ∙ q) ∙ ap (λ x. derived (take n x) steps) (sym o)) p

  pub prints_unwritten : (k : ℕ) (b : WriteError) → a ≡ Err b → k ≡ writing_number a
      → Prints (refusal_line k) former now r → Prints (derived_text (write_chart g h w steps)) former now r
  unfolding write_chart
  prints_unwritten k b f q p =
      prints_as _ (refused k) former now r
      (ap (λ x. when_written x (write_of g h w (cleared output_bytes)).out steps) (sym e ∙ f) ∙ not_written b _ steps ∙ ap refused (sym (q ∙ ap writing_number f))) p

-- ---- the chart
not_done : (u : Unready) (next : ℕ → Derived) → when_ran (Err u) next ≡ refused (chart_number (Err u))
not_done UnfitChart next = refl
not_done TooSmallChart next = refl
not_done (UnfinishedChart k) next = refl

-- an outcome has a number other than 0 where it is an error
error_some : (o : Outcome) → is_err o ≡ true → chart_number o ≡ 0 → ⊥
error_some (Ok k) e z = true≢false (sym e)
error_some (Err UnfitChart) e z = omega (arith, z)
error_some (Err TooSmallChart) e z = omega (arith, z)
error_some (Err (UnfinishedChart k)) e z = omega (arith, z)

started_none : (o : Outcome) → is_err o ≡ false → chart_number o ≡ 0
started_none (Ok k) e = refl
started_none (Err u) e = absurd (true≢false e)

-- a start that answered o with the number k and left v
module _ (g h : List ℕ) (o : Outcome) (k : ℕ) (e : o ≡ (start_of g h (cleared chart_words)).answer) (z : k ≡ chart_number o) (former now : List ℕ) (r : ℕ) where
  number : k ≡ chart_number (start_of g h (cleared chart_words)).answer
  number = z ∙ ap chart_number e

  pub prints_unstarted : is_err o ≡ true → Prints (refusal_line k) former now r → Prints (derived_text (derive_tables g h)) former now r
  unfolding derive_tables
  prints_unstarted n p =
      prints_as (derive_tables g h) (refused k) former now r
      (rw (← number, ne_eqb k 0 (λ y. error_some o n (sym z ∙ y)))) p

  module _ (started : is_err o ≡ false) (v : List ℕ) (left : v ≡ (start_of g h (cleared chart_words)).words) (a : Outcome) (f : a ≡ (run_of g h v items).answer) where
    ran : derive_tables g h ≡ when_ran a (λ steps. write_chart g h (run_of g h v items).words steps)
    unfolding derive_tables
    ran = rw (← number, eq-eqb k 0 (z ∙ started_none o started), ← left, ← f)

    pub prints_unrun : (j : ℕ) (u : Unready) → a ≡ Err u → j ≡ chart_number a → Prints (refusal_line j) former now r
        → Prints (derived_text (derive_tables g h)) former now r
    prints_unrun j u d q p =
        prints_as _ (refused j) former now r
        (ran ∙ ap (λ x. when_ran x (λ n. write_chart g h (run_of g h v items).words n)) d ∙ not_done u _ ∙ ap refused (sym (q ∙ ap chart_number d))) p

    pub prints_run : (w : List ℕ) (steps : ℕ) → w ≡ (run_of g h v items).words → a ≡ Ok steps → Prints (derived_text (write_chart g h w steps)) former now r
        → Prints (derived_text (derive_tables g h)) former now r
    prints_run w steps q d p =
        prints_as _ (write_chart g h w steps) former now r
        (ran ∙ ap (λ x. when_ran x (λ n. write_chart g h (run_of g h v items).words n)) d ∙ ap (λ x. write_chart g h x steps) (sym q)) p

-- ---- the files
module _ (grammar graph g h : List ℕ) (k : ℕ) (files : FilesGive (files_of grammar graph (cleared grammar_words) (cleared graph_words)) k g h) where
  pub prints_unread : (former now : List ℕ) (r : ℕ) → (k ≡ 0 → ⊥) → Prints (refusal_line k) former now r → Prints (derived_text (derive_files grammar graph)) former now r
  unfolding derive_files
  prints_unread former now r n p = prints_as (derive_files grammar graph) (refused k) former now r (rw (← files.answers, ne_eqb k 0 n)) p

  pub prints_read : (former now : List ℕ) (r : ℕ) → k ≡ 0 → Prints (derived_text (derive_tables g h)) former now r → Prints (derived_text (derive_files grammar graph)) former now r
  unfolding derive_files
  prints_read former now r z p =
      prints_as (derive_files grammar graph) (derive_tables g h) former now r (rw (← files.answers, eq-eqb k 0 z, ← files.leaves_grammar, ← files.leaves_graph)) p

  pub replays_unread : (text : List ℕ) → (k ≡ 0 → ⊥) → k ≡ replay_files grammar graph text
  unfolding replay_files
  replays_unread text n = rw (← files.answers, ne_eqb k 0 n)

  pub replays_read : (text : List ℕ) (j : ℕ) → k ≡ 0 → j ≡ replay_tables g h text → j ≡ replay_files grammar graph text
  unfolding replay_files
  replays_read text j z p = rw (← files.answers, eq-eqb k 0 z, ← files.leaves_grammar, ← files.leaves_graph) p

pub replays_over : (g h text : List ℕ) → file_bytes < length text → 1 ≡ replay_tables g h text
replays_over g h text l = sym (derivation_oversize g h text l)

pub replays_text : (g h text : List ℕ) (v : Verdict) (k : ℕ) → length text ≤ file_bytes → v ≡ replay_of g h text → k ≡ verdict_number v → k ≡ replay_tables g h text
replays_text g h text v k l e q = q ∙ ap verdict_number e ∙ sym (derivation_within g h text l)
