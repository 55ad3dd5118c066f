-- The text of the applications that partners spell, as the function leaves it at the end of a lent buffer.
use Rattle.std.specs.Prelude.{◌≡◌, List, [], ◌∷◌, ℕ, ◌≤◌, length, drop}
use Rattle.hrg.specs.Grammars.{Graph, Grammar}
use Rattle.agenda.specs.declared.Record.{Record}
use Rattle.scripts.specs.Scripts.{rows_text}
use Rattle.extraction.specs.Listing.{Listing, endless, listed, listing, rows_from}

-- the text of a listing; an endless one has none
abbrev pub text_by : (ℕ → Record) → Grammar → Graph → Listing → List ℕ
text_by look G H endless = []
text_by look G H (listed js) = rows_text (rows_from look G H 0 js)

-- the text of the applications under the passive record at j, at most 4,096
unfoldable pub text_at : (ℕ → Record) → Grammar → Graph → ℕ → List ℕ
unfolding listing
text_at look G H j = text_by look G H (listing look G 4096 (j ∷ []))

-- a buffer that holds the text from `start` to its end
pub record EndsWith (text buffer now : List ℕ) (start : ℕ) : Type 0 where
  pub same : length now ≡ length buffer
  pub inside : start ≤ length now
  pub contents : drop start now ≡ text
