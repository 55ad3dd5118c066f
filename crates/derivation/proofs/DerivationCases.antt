-- K2's derivation is the 58 bytes that 01 prints, and replays; texts with one fault do not.
use mathlib.Core.Path.{◌≡◌, refl, sym, subst}
use mathlib.Core.Bool.{true, false}
use mathlib.Core.List.{List, [], ◌∷◌, map}
use Prim.Native.Nat.{ℕ}
use lib.ListN.{length}
use lib.Dec.{T}
use Rattle.format.specs.Tests.{all_below, same_bytes}
use Rattle.format.specs.Lines.{lines_of, with_byte}
use Rattle.format.specs.Fields.{column, field_text, digit_of, value_from, value_of, cell_of, field_count, field_bytes, field_of, number_of, numbers_from, fields_of}
use Rattle.format.specs.Shape.{letter_of, is_capital, shape_of}
use Rattle.format.specs.Writing.{fields_text, line_body, line_text}
use Rattle.hrg.specs.Cases.{grammar_a, k2}
use Rattle.hrg.specs.WellFormedTest.{grammar_test, graph_test}
use Rattle.hrg.proofs.WellFormedTest.{grammar_decides, graph_decides}
use Rattle.scripts.specs.Scripts.{row_lines, rows_text, has_letter, opens}
use Rattle.preorder.specs.Rows.{rows_of}
use Rattle.preorder.specs.Faults.{tree_of_k2}
use Rattle.derivation.specs.Derivations.{derivation_text, replay_text, ReplayedFrom}
use Rattle.derivation.specs.DerivationCases.{k2_text, refused_texts}
use Rattle.derivation.proofs.Derivations.{replay_member}

pub k2_derivation : derivation_text tree_of_k2 ≡ k2_text
unfolding derivation_text rows_of rows_text row_lines line_text line_body fields_text field_text column
k2_derivation = refl

pub k2_length : length k2_text ≡ 58
k2_length = refl

pub k2_replays : replay_text grammar_a k2.graph k2_text ≡ true
unfolding replay_text lines_of with_byte has_letter opens shape_of is_capital letter_of all_below same_bytes column field_text digit_of value_from value_of cell_of field_count field_bytes field_of number_of numbers_from fields_of
k2_replays = refl

-- so K2's graph is in the language of its grammar, by the applications of the text
pub k2_replayed : ReplayedFrom grammar_a k2.graph k2_text
unfolding grammar_test graph_test
k2_replayed =
    replay_member grammar_a k2.graph ((grammar_decides grammar_a).sound tt) ((graph_decides grammar_a k2.graph).sound tt) k2_text
    (subst T (sym k2_replays) tt)

pub texts_refused : map (λ (text : List ℕ). replay_text grammar_a k2.graph text) refused_texts ≡ false ∷ false ∷ false ∷ false ∷ false ∷ []
unfolding replay_text lines_of with_byte has_letter opens shape_of is_capital letter_of all_below same_bytes column field_text digit_of value_from value_of cell_of field_count field_bytes field_of number_of numbers_from fields_of
texts_refused = refl
