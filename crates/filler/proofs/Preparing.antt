-- The text that is prepared: the writer's, with an answer for a row of so many records.
use Rattle.std.specs.Prelude.{Ok, Err}
use mathlib.Core.Path.{◌≡◌, refl, sym, ap, ◌∙◌, subst}
use mathlib.Core.Logic.{◌≢◌}
use mathlib.Core.List.{List, ◌++◌}
use Prim.Native.Nat.{ℕ, ◌≤◌, ◌<◌}
use native.Mathlib.Omega.{arith}
use lib.ListN.{length, length-map, take, drop}
use lib.Seq.{take-append_seam}
use borrow.Author.Tests.{le-leb, lt-leb}
use Rattle.format.specs.Lines.{line_of}
use Rattle.format.specs.Fields.{number_of as field_number}
use Rattle.questions.specs.Abstract.{grammar_of}
use Rattle.scripts.specs.Scripts.{rows_text}
use Rattle.writing.specs.Writing.{number_of, Wrote, write_of, Answer}
use Rattle.writing.specs.Filling.{records_in, Choice, refuses, chooses, chosen_of, write_by}
use Rattle.writing.specs.declared.WriteError.{WriteError}
use Rattle.writing.specs.declared.WriteError.TheVariants.{NoRoom}
use Rattle.writing.proofs.Writings.{holding, text_held}
use Rattle.writing.proofs.Filling.{write_chosen, refusal_number}
use Rattle.filler.specs.Rows.{application_read, count_in, answer_by, Prepared}
use Rattle.filler.proofs.TextLines.{count_said, text_most}
use Rattle.filler.proofs.ChosenRows.{chosen_rows}
use Rattle.filler.proofs.Answers.{refused_none, error_some}

module _ (g h w out now : List ℕ) (room : ℕ) (a : Answer) (long : 303110 ≤ length out) (answers : a ≡ (write_of g h w out).answer) (leaves : now ≡ (write_of g h w out).out) where
  wrote_by : (c : Choice) → chosen_of g h w ≡ c → write_of g h w out ≡ write_by c out
  wrote_by c e = write_chosen g h w out ∙ ap (λ (c : Choice). write_by c out) e

  -- a chosen text is written: the output holds the longest one
  wrote_text : (t : List ℕ) → chosen_of g h w ≡ chooses t → write_of g h w out ≡ holding t out
  wrote_text t e =
      let c = chosen_rows g h w t e in
      wrote_by (chooses t) e ∙ text_held t out (omega (arith, text_most c.listed c.writable, ap length c.text))

  -- ---- a refusal
  refused_answer : (b : Answer) → chosen_of g h w ≡ refuses b → a ≡ b
  refused_answer b e = answers ∙ ap (λ (x : Wrote). x.answer) (wrote_by (refuses b) e)

  pub prepared_refused : (e : WriteError) → a ≡ Err e → Prepared g h w room (Err e) now
  prepared_refused e is =
      subst (λ (b : Answer). Prepared g h w room b now) is
      (record {
        answers = go (chosen_of g h w) refl;
        holds = λ t e. absurd (chosen_not t e);
        fits = omega (arith, refused_none a k);
      })
    where
      k : number_of a ≢ 0
      k z = error_some e (sym (ap number_of is) ∙ z)

      chosen_not : (t : List ℕ) → chosen_of g h w ≡ chooses t → ⊥
      chosen_not t e = k (ap number_of (answers ∙ ap (λ (x : Wrote). x.answer) (wrote_text t e)))

      go : (c : Choice) → chosen_of g h w ≡ c → a ≡ answer_by (grammar_of g) (chosen_of g h w) room
      go (refuses b) e = refused_answer b e ∙ ap (λ (c : Choice). answer_by (grammar_of g) c room) (sym e)
      go (chooses t) e = absurd (chosen_not t e)

  -- ---- a text
  module _ (wrote : number_of a ≡ 0) (line : List ℕ) (first : line ≡ line_of (drop 0 now)) (count : ℕ) (said : count ≡ field_number line 0) where
    refuses_not : (b : Answer) → chosen_of g h w ≡ refuses b → ⊥
    refuses_not b e = refusal_number g h w b e (sym (ap number_of (refused_answer b e)) ∙ wrote)

    now_holds : (t : List ℕ) → chosen_of g h w ≡ chooses t → now ≡ t ++ drop (length t) out
    now_holds t e = leaves ∙ ap (λ (x : Wrote). x.out) (wrote_text t e)

    taken : (t : List ℕ) → chosen_of g h w ≡ chooses t → take (length t) now ≡ t
    taken t e = ap (take (length t)) (now_holds t e) ∙ take-append_seam t (drop (length t) out)

    counts : (t : List ℕ) → chosen_of g h w ≡ chooses t → count ≡ length (records_in (grammar_of g) t)
    counts t e =
        let c = chosen_rows g h w t e in
        let rs = c.listed in
        let front : now ≡ rows_text rs ++ drop (length t) out = now_holds t e ∙ ap (λ (l : List ℕ). l ++ drop (length t) out) c.text in
        said ∙ ap (λ (l : List ℕ). field_number l 0) first ∙ count_said rs now (drop (length t) out) front c.writable.few
        ∙ sym (ap length c.records ∙ length-map rs (application_read g))

    by_count : (b : Answer) → ((t : List ℕ) → count ≡ length (records_in (grammar_of g) t) → b ≡ answer_by (grammar_of g) (chooses t) room) → count_in b ≤ room → Prepared g h w room b now
    by_count b is small = record { answers = go (chosen_of g h w) refl; holds = taken; fits = small }
      where
        go : (c : Choice) → chosen_of g h w ≡ c → b ≡ answer_by (grammar_of g) (chosen_of g h w) room
        go (refuses d) e = absurd (refuses_not d e)
        go (chooses t) e = is t (counts t e) ∙ ap (λ (c : Choice). answer_by (grammar_of g) c room) (sym e)

    pub prepared_short : room < count → Prepared g h w room (Err NoRoom) now
    prepared_short l =
        by_count (Err NoRoom) (λ t e. rw (← e, lt-leb count room l)) (omega arith)

    pub prepared_held : count ≤ room → Prepared g h w room (Ok count) now
    prepared_held l =
        by_count (Ok count) (λ t e. rw (← e, le-leb count room l)) l
