-- Laws of what crosses: from the contract of the function beneath to the numbers.
use mathlib.Core.Path.{◌≡◌, ap, ◌∙◌, subst}
use mathlib.Core.Bool.{cond, ◌&&◌}
use mathlib.Core.List.{List}
use Prim.Native.Nat.{ℕ, ◌<◌, ◌≤◌}
use lib.Dec.{leb}
use borrow.Author.Tests.{le-leb, lt-leb}
use Rattle.records.specs.Words.{words_for}
use Rattle.questions.specs.Reading.{Outcome as Reading, Answer as ReadingAnswer}
use Rattle.questions.specs.Refusing.{reading_number}
use Rattle.readers.specs.Readers.{Gives}
use Rattle.charting.specs.Calls.{number_of as chart_number, start_of, run_of, Outcome}
use Rattle.charting.specs.Facts.{StartChoices, RunChoices}
use Rattle.writing.specs.Writing.{number_of as writing_number, write_of, Answer}
use Rattle.writing.specs.Filling.{fill_of}
use Rattle.writing.specs.Demand.{WriteChoices, FillChoices}
use Rattle.writing.specs.declared.Application.{Application}
use Rattle.replayer.specs.Verdicts.{number_of as verdict_number, replay_of, Exact, Verdict}
use Rattle.programs.specs.Files.{FileGives, numbered}
use Rattle.capi.specs.Crossing.{steps_told, bytes_told, Started, Ran, Written, FilledRow, Replayed}

abbrev words : ℕ → ℕ
words items = cond (leb 1 items && leb items 4096) (words_for items) 0

pub words_none : (items : ℕ) → items < 1 → 0 ≡ words items
words_none items h = rw (lt-leb 1 items h)

pub words_many : (items : ℕ) → 1 ≤ items → 4096 < items → 0 ≡ words items
words_many items l h = rw (le-leb 1 items l, lt-leb items 4096 h)

pub words_some : (items : ℕ) → 1 ≤ items → items ≤ 4096 → words_for items ≡ words items
words_some items l h = rw (le-leb 1 items l, le-leb items 4096 h)

pub read_crosses : (o : Reading) (a : ReadingAnswer) (table : List ℕ) (k : ℕ) → Gives o a table → k ≡ reading_number a → FileGives (numbered o) k table
read_crosses o a table k gives e = record { answers = e ∙ ap reading_number gives.answers; leaves = gives.leaves }

pub start_crosses : (g h w now : List ℕ) (o : Outcome) (k : ℕ) → o ≡ (start_of g h w).answer → now ≡ (start_of g h w).words → StartChoices g h w o → k ≡ chart_number o → Started g h w k now
start_crosses g h w now o k e p choices q = record { answers = q ∙ ap chart_number e; leaves = p; choices = subst (StartChoices g h w) e choices }

pub run_crosses : (g h w now : List ℕ) (steps former told : ℕ) (o : Outcome) (k : ℕ) → o ≡ (run_of g h w steps).answer → now ≡ (run_of g h w steps).words → RunChoices g h w steps o now
    → k ≡ chart_number o → told ≡ steps_told o former → Ran g h w steps former k now told
run_crosses g h w now steps former told o k e p choices q t =
    record {
      answers = q ∙ ap chart_number e;
      leaves = p;
      tells = t ∙ ap (λ x. steps_told x former) e;
      choices = subst (λ x. RunChoices g h w steps x now) e choices;
    }

pub write_crosses : (g h w out now : List ℕ) (former told : ℕ) (a : Answer) (k : ℕ) → a ≡ (write_of g h w out).answer → now ≡ (write_of g h w out).out → WriteChoices g h w out a now
    → k ≡ writing_number a → told ≡ bytes_told a former → Written g h w out former k now told
write_crosses g h w out now former told a k e p choices q t =
    record {
      answers = q ∙ ap writing_number e;
      leaves = p;
      tells = t ∙ ap (λ x. bytes_told x former) e;
      choices = subst (λ x. WriteChoices g h w out x now) e choices;
    }

pub fill_crosses : (g h w : List ℕ) (rows now : List Application) (former told : ℕ) (a : Answer) (k : ℕ) → a ≡ (fill_of g h w rows).answer → now ≡ (fill_of g h w rows).rows → FillChoices g h w rows a now
    → k ≡ writing_number a → told ≡ bytes_told a former → FilledRow g h w rows former k now told
fill_crosses g h w rows now former told a k e p choices q t =
    record {
      answers = q ∙ ap writing_number e;
      leaves = p;
      tells = t ∙ ap (λ x. bytes_told x former) e;
      choices = subst (λ x. FillChoices g h w rows x now) e choices;
    }

pub replay_crosses : (g h text : List ℕ) (v : Verdict) (k : ℕ) → v ≡ replay_of g h text → Exact g h text v → k ≡ verdict_number v → Replayed g h text k
replay_crosses g h text v k e exact q = record { answers = q ∙ ap verdict_number e; exact = subst (Exact g h text) e exact }
