-- The first four fields behind the label: each is what the call at its number answers.
use Rattle.std.proofs.Common.{of_calls, ◌≡◌, ◌∙◌, List, [], ◌∷◌, ℕ, length, slice_index_or, arith}
use Rattle.questions.proofs.StoredLaws.{tabulate_four}
use Rattle.extractor.proofs.placing.nodes_of.Goals as goal

four : (l : List ℕ) (a b c d : ℕ) → length l ≡ 4 → slice_index_or l 0 a ≡ a → slice_index_or l 1 b ≡ b
    → slice_index_or l 2 c ≡ c → slice_index_or l 3 d ≡ d → l ≡ a ∷ b ∷ c ∷ d ∷ []
four (w ∷ x ∷ y ∷ z ∷ []) a b c d e p q r s = rw (p, q, r, s)
four [] a b c d e p q r s = absurd (omega arith)
four (w ∷ []) a b c d e p q r s = absurd (omega arith)
four (w ∷ x ∷ []) a b c d e p q r s = absurd (omega arith)
four (w ∷ x ∷ y ∷ []) a b c d e p q r s = absurd (omega arith)
four (w ∷ x ∷ y ∷ z ∷ v ∷ l) a b c d e p q r s = absurd (omega arith)

pub returns : goal.returns
returns c =
    let r0 = c.from_fn.ensures.items.each in
    let m0 = r0.3.met in
    let m1 = r0.4.3.met in
    let m2 = r0.4.4.3.met in
    let m3 = r0.4.4.4.3.met in
    four _ _ _ _ _ c.from_fn.ensures.items.long r0.2.0 r0.4.2.0 r0.4.4.2.0 r0.4.4.4.2.0
    ∙ tabulate_four _ _ _ _ _ (search (of_calls, m0)) (grind (arith, of_calls, m0, m1))
    (grind (arith, of_calls, m0, m1, m2)) (grind (arith, of_calls, m0, m1, m2, m3))
