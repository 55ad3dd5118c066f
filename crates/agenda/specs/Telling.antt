-- What a program that lends a chart is told of an item: the fields of its record in a fixed order, whatever the words
-- of a chart are.
use Rattle.std.specs.Prelude.{◌≡◌, cond, List, [], ◌∷◌, ◌++◌, ℕ, ◌+◌, ◌<◌, length, get_or, drop, ltb, leb}
use Rattle.agenda.specs.declared.Record.{Record}

-- the sixteen fields, in the order of include/bobbinmarl.h
unfoldable pub fields_of : Record → List ℕ
fields_of x =
    let i = x.item in
    let n = x.item.nodes in
    i.kind ∷ i.of ∷ i.plan ∷ i.edges ∷ i.count ∷ x.handled
    ∷ get_or n 0 0 ∷ get_or n 1 0 ∷ get_or n 2 0 ∷ get_or n 3 0 ∷ get_or n 4 0 ∷ get_or n 5 0 ∷ get_or n 6 0 ∷ get_or n 7 0
    ∷ x.first ∷ x.second ∷ []

-- an answer: its number, and the lent words as they are then
pub record ItemTold : Type 0 where
  pub number : ℕ
  pub words : List ℕ

-- a refusal changes no word
unfoldable pub untold : ℕ → List ℕ → ItemTold
untold k out = record { number = k; words = out }

-- the fields to the front of the lent words; 12 where these are too few
unfoldable pub tell_record : Record → List ℕ → ItemTold
unfolding fields_of untold
tell_record x out = cond (leb 16 (length out)) (record { number = 0; words = fields_of x ++ drop 16 out }) (untold 12 out)

-- of the n records of a chart the one at place j; 8 where there is none
unfoldable pub tell_item : ℕ → (ℕ → Record) → ℕ → List ℕ → ItemTold
unfolding tell_record untold
tell_item n records j out = cond (ltb j n) (tell_record (records j) out) (untold 8 out)

-- as a fact about a call
pub record TellsItem (t : ItemTold) (number : ℕ) (now : List ℕ) : Type 0 where
  pub answers : number ≡ t.number
  pub leaves : now ≡ t.words

-- each field by its name, and the words behind them as they were
pub record Names (x : Record) (former l : List ℕ) : Type 0 where
  pub kind : get_or l 0 0 ≡ x.item.kind
  pub of : get_or l 1 0 ≡ x.item.of
  pub plan : get_or l 2 0 ≡ x.item.plan
  pub edges : get_or l 3 0 ≡ x.item.edges
  pub count : get_or l 4 0 ≡ x.item.count
  pub handled : get_or l 5 0 ≡ x.handled
  pub nodes : (k : ℕ) → k < 8 → get_or l (6 + k) 0 ≡ get_or x.item.nodes k 0
  pub first : get_or l 14 0 ≡ x.first
  pub second : get_or l 15 0 ≡ x.second
  pub behind : (k : ℕ) → get_or l (16 + k) 0 ≡ get_or former (16 + k) 0
