-- The row of an application: its fields put together, and its line.
use mathlib.Core.Path.{◌≡◌, refl, sym, ap, ap₂, ◌∙◌}
use mathlib.Core.List.{List, [], ◌∷◌, ◌++◌, append_assoc}
use Prim.Native.Nat.{ℕ, ◌+◌, ◌-◌, ◌*◌, ◌≤◌}
use native.Mathlib.Omega.{arith}
use lib.ListN.{length, get_or, set, take, drop}
use lib.Seq.{take-length, take-append-add, take-append-le, sets, sets-eq, length-sets, length-take-le, drop_at}
use borrow.Rule.Slice.PartMut.{post_of, put_mid}
use Rattle.format.specs.Writing.{line_text}
use Rattle.format.proofs.WritingLaws.{line_text_length}
use Rattle.hrg.specs.Grammars.{Graph, Grammar, right_of}
use Rattle.hrg.specs.Trees.{padded}
use Rattle.joins.proofs.EdgeMaps.{length_padded, take_padded}
use Rattle.agenda.specs.declared.Record.{Record}
use Rattle.records.specs.Words.{record_at}
use Rattle.extraction.specs.Extraction.{rule_at, partners_at, placed_by, place_at}
use Rattle.extraction.specs.Listing.{numbers_from, end_from, row_at, span_at}
use Rattle.extractor.specs.RowFacts.{NumberedBy, RowOf, LineAt}
use Rattle.extractor.proofs.PlaceLaws.{length_placed}

-- ---- the fields in front of the numbers
-- an application's number, its rule, and eight places behind them
abbrev pub fields_with : ℕ → ℕ → List ℕ → List ℕ → List ℕ
fields_with n r fields places = put_mid 2 8 (set (set fields 0 n) 1 r) places

two_fields : (n r : ℕ) (fields : List ℕ) → 2 ≤ length fields → take 2 (set (set fields 0 n) 1 r) ≡ n ∷ r ∷ []
two_fields n r [] h = absurd (omega arith)
two_fields n r (x ∷ []) h = absurd (omega arith)
two_fields n r (x ∷ y ∷ zs) h = refl

module _ (n r : ℕ) (fields places F : List ℕ) (size : length fields ≡ 18) (p : places ≡ padded F) where
  eight : length places ≡ 8
  eight = ap length p ∙ length_padded F

  abbrev head : List ℕ
  head = set (set fields 0 n) 1 r

  fields_front : (nodes : ℕ) → nodes ≤ 8 → take (2 + nodes) (fields_with n r fields places) ≡ n ∷ r ∷ take nodes places
  fields_front nodes few =
      ap (λ (l : List ℕ). take (2 + nodes) (l ++ (places ++ post_of 2 8 head))) (two_fields n r fields (omega arith))
      ∙ take-append-add (n ∷ r ∷ []) (places ++ post_of 2 8 head) nodes
      ∙ ap (λ (l : List ℕ). n ∷ r ∷ l) (take-append-le nodes places (post_of 2 8 head) (omega (arith, eight)))

-- ---- the row
module _ (w : List ℕ) where
  abbrev look : ℕ → Record
  look = λ k. record_at w k

  module _ (G : Grammar) (H : Graph) (sizes : List ℕ) (n j r : ℕ) (bs : List ℕ) (rule : r ≡ rule_at look j) (partners : bs ≡ partners_at look G j) where
    abbrev size : ℕ → ℕ
    size = λ m. get_or sizes m 0

    place_by : placed_by look G H (right_of G r) bs (length (right_of G r).edges) ≡ place_at look G H j
    unfolding place_at
    place_by = rw (rule, partners)

    numbers_by : numbers_from G bs size (right_of G r).edges 0 (n + 1) ≡ numbers_from G (partners_at look G j) size (right_of G (rule_at look j)).edges 0 (n + 1)
    numbers_by = rw (rule, partners)

    span_by : (end : ℕ) → end ≡ end_from G size (right_of G r).edges (n + 1) → end - n ≡ span_at look G size n j
    unfolding span_at
    span_by end e = ap (λ (m : ℕ). m - n) (e ∙ ap (λ (r : ℕ). end_from G size (right_of G r).edges (n + 1)) rule)

    pub row_by : (places fields now : List ℕ) (nodes edges end : ℕ) → nodes ≡ (right_of G r).nodes → nodes ≤ 8 → edges ≡ length (right_of G r).edges → edges ≤ 8
        → length fields ≡ 18 → places ≡ padded (placed_by look G H (right_of G r) bs edges)
        → NumberedBy G bs sizes (right_of G r).edges (n + 1) (fields_with n r fields places) (2 + nodes) now end
        → RowOf look G H sizes n j now (record { count = 2 + nodes + edges; size = end - n })
    unfolding row_at
    row_by places fields now nodes edges end q few e few' size' p by = record {
      few = omega arith;
      fields = ap (λ (k : ℕ). take (2 + nodes + k) now) e
          ∙ by.numbers
          ∙ ap₂ (λ (l m : List ℕ). l ++ m) (fields_front n r fields places (placed_by look G H (right_of G r) bs edges) size' p nodes few) numbers_by
          ∙ ap (λ (l : List ℕ). n ∷ r ∷ (l ++ numbers_from G (partners_at look G j) size (right_of G (rule_at look j)).edges 0 (n + 1)))
          (ap (λ (l : List ℕ). take nodes l) p ∙ take_padded nodes (placed_by look G H (right_of G r) bs edges) (length_placed w G H (right_of G r) bs edges ∙ sym q) few
          ∙ ap (λ (k : ℕ). placed_by look G H (right_of G r) bs k) e ∙ place_by)
          ∙ ap (λ (s : ℕ). n ∷ s ∷ (place_at look G H j ++ numbers_from G (partners_at look G j) size (right_of G (rule_at look j)).edges 0 (n + 1))) rule;
      span = span_by end by.end;
      inside = omega (arith, by.up, by.inside);
    }

-- ---- its line
-- a text in front of what stands behind it
pub drop_sets : (text vs : List ℕ) (start at : ℕ) → start + length vs ≡ at → at ≤ length text → drop start (sets text start vs) ≡ vs ++ drop at text
drop_sets text vs start at e h =
    ap (drop start) (sets-eq vs text start (omega arith) ∙ append_assoc (take start text) vs (drop (start + length vs) text))
    ∙ drop_at (take start text) (vs ++ drop (start + length vs) text) start (length-take-le start text (omega arith))
    ∙ ap (λ (k : ℕ). vs ++ drop k text) e

pub line_by : (row text now : List ℕ) (at : ℕ) → length row ≤ 18 → 74 ≤ at → at ≤ length text
    → now ≡ sets text (at - (4 * length row + 2)) (line_text 65 (take (length row) row)) → LineAt row text at now (at - (4 * length row + 2))
line_by row text now at few low high put =
    let start : ℕ = at - (4 * length row + 2) in
    let e : now ≡ sets text start (line_text 65 row) = put ∙ ap (λ (l : List ℕ). sets text start (line_text 65 l)) (take-length row) in
    record {
      same = ap length e ∙ length-sets text start (line_text 65 row);
      low = omega arith;
      near = omega arith;
      contents = ap (drop start) e ∙ drop_sets text (line_text 65 row) start at (omega (arith, line_text_length 65 row)) high;
    }
