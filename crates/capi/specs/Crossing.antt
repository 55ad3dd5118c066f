-- What crosses to C: 01's number of an answer, every lent word and byte, and what holds of the program's own choices,
-- as in the contracts beneath.
use Rattle.std.specs.Prelude.{◌≡◌, List, ℕ, Ok, Err}
use Rattle.charting.specs.Calls.{number_of as chart_number, start_of, run_of, Outcome}
use Rattle.charting.specs.Facts.{StartChoices, RunChoices}
use Rattle.charting.specs.declared.Unready.TheVariants.{Unfit as UnfitChart, TooSmall as TooSmallChart, Unfinished as UnfinishedChart}
use Rattle.writing.specs.Writing.{number_of as writing_number, write_of, Answer}
use Rattle.writing.specs.Filling.{fill_of}
use Rattle.writing.specs.Demand.{WriteChoices, FillChoices}
use Rattle.writing.specs.declared.WriteError.TheVariants.{Unfit, TooSmall, Unfinished, Underivable, NoRoom}
use Rattle.writing.specs.declared.Application.{Application}
use Rattle.replayer.specs.Verdicts.{number_of as verdict_number, replay_of, Exact}

-- the lent word after an outcome: the steps that it reports, else what stood there
abbrev pub steps_told : Outcome → ℕ → ℕ
steps_told (Err UnfitChart) former = former
steps_told (Err TooSmallChart) former = former
steps_told (Err (UnfinishedChart k)) former = k
steps_told (Ok k) former = k

-- the lent word after a writing: its bytes, or its records, or the steps done where items wait
abbrev pub bytes_told : Answer → ℕ → ℕ
bytes_told (Err Unfit) former = former
bytes_told (Err TooSmall) former = former
bytes_told (Err (Unfinished k)) former = k
bytes_told (Err Underivable) former = former
bytes_told (Err NoRoom) former = former
bytes_told (Ok n) former = n

pub record Started (g h w : List ℕ) (number : ℕ) (now : List ℕ) : Type 0 where
  pub answers : number ≡ chart_number (start_of g h w).answer
  pub leaves : now ≡ (start_of g h w).words
  pub choices : StartChoices g h w (start_of g h w).answer

pub record Ran (g h w : List ℕ) (steps former number : ℕ) (now : List ℕ) (told : ℕ) : Type 0 where
  pub answers : number ≡ chart_number (run_of g h w steps).answer
  pub leaves : now ≡ (run_of g h w steps).words
  pub tells : told ≡ steps_told (run_of g h w steps).answer former
  pub choices : RunChoices g h w steps (run_of g h w steps).answer now

pub record Written (g h w out : List ℕ) (former number : ℕ) (now : List ℕ) (told : ℕ) : Type 0 where
  pub answers : number ≡ writing_number (write_of g h w out).answer
  pub leaves : now ≡ (write_of g h w out).out
  pub tells : told ≡ bytes_told (write_of g h w out).answer former
  pub choices : WriteChoices g h w out (write_of g h w out).answer now

pub record FilledRow (g h w : List ℕ) (rows : List Application) (former number : ℕ) (now : List Application) (told : ℕ) : Type 0 where
  pub answers : number ≡ writing_number (fill_of g h w rows).answer
  pub leaves : now ≡ (fill_of g h w rows).rows
  pub tells : told ≡ bytes_told (fill_of g h w rows).answer former
  pub choices : FillChoices g h w rows (fill_of g h w rows).answer now

pub record Replayed (g h text : List ℕ) (number : ℕ) : Type 0 where
  pub answers : number ≡ verdict_number (replay_of g h text)
  pub exact : Exact g h text (replay_of g h text)
