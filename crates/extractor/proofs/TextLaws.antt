-- The text of the applications, written from the last row up.
use mathlib.Core.Path.{◌≡◌, refl, sym, ap, ap₂, fun_ext, ◌∙◌}
use mathlib.Core.Bool.{Bool, true, false}
use mathlib.Core.List.{List, [], ◌∷◌, ◌++◌}
use Prim.Native.Nat.{ℕ, zero, suc, ◌+◌, ◌-◌, ◌*◌, ◌≤◌, ◌<◌}
use native.Mathlib.Omega.{arith}
use lib.ListN.{length, get_or, set, take, drop, replicate, length-set}
use lib.Seq.{drop-cons, drop-length, get_or-set_same, get_or-set_other, length-take-le, sets, length-sets}
use lib.Dec.{eqb}
use borrow.Author.Tests.{eqb-true, eqb-false, eq-eqb, ne_eqb}
use Rattle.format.specs.Writing.{line_text}
use Rattle.format.proofs.WritingLaws.{line_text_length}
use Rattle.scripts.specs.Scripts.{row_lines, rows_text}
use Rattle.hrg.specs.Grammars.{Graph, Grammar}
use Rattle.agenda.specs.declared.Record.{Record}
use Rattle.records.specs.Words.{record_at}
use Rattle.extraction.specs.Listing.{listing, row_at, span_at, sizes_from, rows_from}
use Rattle.extractor.specs.declared.rows.Row.{Row}
use Rattle.extractor.specs.Texts.{text_by, text_at, EndsWith}
use Rattle.std.specs.Prelude.{Some, None}
use Rattle.extractor.specs.Lists.{ListedIn}
use Rattle.extractor.specs.RowFacts.{SizesFit, RowOf, LineAt}
use Rattle.extractor.proofs.RowLaws.{drop_sets}

abbrev nothing : ℕ → List ℕ
nothing n = replicate n 0

zeros : (n m : ℕ) → get_or (nothing n) m 0 ≡ 0
zeros zero m = refl
zeros (suc n) zero = refl
zeros (suc n) (suc m) = zeros n m

-- sizes that are all 0
module _ (sizes : List ℕ) (bare : sizes ≡ nothing (length sizes)) where
  none_there : (m : ℕ) → get_or sizes m 0 ≡ 0
  none_there m = ap (λ (l : List ℕ). get_or l m 0) bare ∙ zeros (length sizes) m

  none_fit : SizesFit sizes
  none_fit = record { each = λ m h. omega (arith, none_there m) }

module _ (w : List ℕ) (G : Grammar) (H : Graph) where
  abbrev look : ℕ → Record
  look = λ k. record_at w k

  pub length_rows : (n : ℕ) (js : List ℕ) → length (rows_from look G H n js) ≡ length js
  unfolding rows_from
  length_rows n [] = refl
  length_rows n (j ∷ js) = ap suc (length_rows (n + 1) js)

  rows_cons : (n j : ℕ) (js : List ℕ) → rows_from look G H n (j ∷ js) ≡ row_at look G H (λ m. sizes_from look G (n + 1) js m) n j ∷ rows_from look G H (n + 1) js
  unfolding rows_from
  rows_cons n j js = refl

  sizes_here : (n j m : ℕ) (js : List ℕ) → m ≡ n → sizes_from look G n (j ∷ js) m ≡ span_at look G (λ k. sizes_from look G (n + 1) js k) n j
  unfolding sizes_from
  sizes_here n j m js e = rw (eq-eqb m n e)

  sizes_later : (n j m : ℕ) (js : List ℕ) → (m ≡ n → ⊥) → sizes_from look G n (j ∷ js) m ≡ sizes_from look G (n + 1) js m
  unfolding sizes_from
  sizes_later n j m js e = rw (ne_eqb m n e)

  -- the rows from application k on are written, and their sizes are known
  pub record Written (js start now sizes : List ℕ) (k at : ℕ) : Type 0 where
    pub inside : k ≤ length js
    pub few : length js ≤ 4096
    pub room : length js < length sizes
    pub same : length now ≡ length start
    pub high : at ≤ length now
    pub low : 74 * k + 6 ≤ at
    pub contents : drop at now ≡ row_lines (rows_from look G H k (drop k js))
    pub fit : SizesFit sizes
    pub each : (m : ℕ) → get_or sizes m 0 ≡ sizes_from look G k (drop k js) m

  pub written_start : (js sizes text : List ℕ) → length js ≤ 4096 → length js < length sizes → sizes ≡ nothing (length sizes) → 74 * length js + 6 ≤ length text
      → Written js text text sizes (length js) (length text)
  unfolding row_lines rows_from sizes_from
  written_start js sizes text few wide bare room =
      let n = length js in
      let none : drop n js ≡ [] = drop-length js in
      record {
        inside = omega arith;
        few = omega arith;
        room = omega arith;
        same = refl;
        high = omega arith;
        low = omega arith;
        contents = drop-length text ∙ ap (λ (js : List ℕ). row_lines (rows_from look G H n js)) (sym none);
        fit = none_fit sizes bare;
        each = λ m. none_there sizes bare m ∙ ap (λ (js : List ℕ). sizes_from look G n js m) (sym none);
      }

  module _ (js start text now sizes fields : List ℕ) (k at j r : ℕ) (row : Row) (some : 0 < k) (before : Written js start text sizes k at) (e : j ≡ get_or js (k - 1) 0)
      (made : RowOf look G H sizes (k - 1) j fields row) (line : LineAt (take row.count fields) text at now r) where
    abbrev size : ℕ → ℕ
    size = λ m. sizes_from look G (k - 1 + 1) (drop k js) m

    known : (λ m. get_or sizes m 0) ≡ size
    known = fun_ext (λ m. before.each m ∙ ap (λ (n : ℕ). sizes_from look G n (drop k js) m) (omega arith))

    due : drop (k - 1) js ≡ j ∷ drop k js
    due =
        let next : suc (k - 1) ≡ k = omega arith in
        drop-cons js (k - 1) 0 (omega (arith, before.inside)) ∙ ap₂ (λ (x n : ℕ). x ∷ drop n js) (sym e) next

    rows_now : row_lines (rows_from look G H (k - 1) (drop (k - 1) js)) ≡ line_text 65 (row_at look G H size (k - 1) j) ++ row_lines (rows_from look G H (k - 1 + 1) (drop k js))
    unfolding row_lines
    rows_now = ap (λ (l : List ℕ). row_lines (rows_from look G H (k - 1) l)) due ∙ ap row_lines (rows_cons (k - 1) j (drop k js))

    sizes_now : (m : ℕ) → get_or (set sizes (k - 1) row.size) m 0 ≡ sizes_from look G (k - 1) (drop (k - 1) js) m
    sizes_now m = go (eqb m (k - 1)) refl ∙ ap (λ (l : List ℕ). sizes_from look G (k - 1) l m) (sym due)
      where
        go : (t : Bool) → eqb m (k - 1) ≡ t → get_or (set sizes (k - 1) row.size) m 0 ≡ sizes_from look G (k - 1) (j ∷ drop k js) m
        go true t =
            let s : m ≡ k - 1 = eqb-true m (k - 1) t in
            ap (λ (m : ℕ). get_or (set sizes (k - 1) row.size) m 0) s
            ∙ get_or-set_same sizes (k - 1) row.size 0 (omega (arith, before.room, before.inside))
            ∙ made.span
            ∙ ap (λ (f : ℕ → ℕ). span_at look G f (k - 1) j) known
            ∙ sym (sizes_here (k - 1) j m (drop k js) s)
        go false t =
            let s = eqb-false m (k - 1) t in
            get_or-set_other sizes (k - 1) m row.size 0 s ∙ ap (λ (f : ℕ → ℕ). f m) known ∙ sym (sizes_later (k - 1) j m (drop k js) s)

    fit_now : SizesFit (set sizes (k - 1) row.size)
    fit_now = record { each = λ m h. rw (length-set sizes (k - 1) row.size) (go m (omega (arith, length-set sizes (k - 1) row.size)) (eqb m (k - 1)) refl) }
      where
        go : (m : ℕ) → m < length sizes → (t : Bool) → eqb m (k - 1) ≡ t → m + get_or (set sizes (k - 1) row.size) m 0 < length sizes
        go m h true t =
            let s : m ≡ k - 1 = eqb-true m (k - 1) t in
            rw s (omega (arith, get_or-set_same sizes (k - 1) row.size 0 (omega (arith, before.room, before.inside)), made.inside))
        go m h false t = omega (arith, get_or-set_other sizes (k - 1) m row.size 0 (eqb-false m (k - 1) t), before.fit.each m h)

    pub written_next : Written js start now (set sizes (k - 1) row.size) (k - 1) r
    written_next = record {
      inside = omega (arith, before.inside);
      few = before.few;
      room = omega (arith, length-set sizes (k - 1) row.size, before.room);
      same = line.same ∙ before.same;
      high = omega (arith, line.low, line.same, before.high);
      low = omega (arith, line.near, before.low);
      contents = line.contents
          ∙ ap₂ (λ (row rest : List ℕ). line_text 65 row ++ rest)
          (made.fields ∙ ap (λ (f : ℕ → ℕ). row_at look G H f (k - 1) j) known)
          (before.contents ∙ ap (λ (n : ℕ). row_lines (rows_from look G H n (drop k js))) (omega arith))
          ∙ sym rows_now;
      fit = fit_now;
      each = sizes_now;
    }

  -- ---- the whole text
  -- an endless listing has none
  pub text_none : (j : ℕ) (list text : List ℕ) → ListedIn 4096 (listing look G 4096 (j ∷ [])) list None → EndsWith (text_at look G H j) text text (length text)
  unfolding text_at
  text_none j list text over = record { same = refl; inside = omega arith; contents = drop-length text ∙ sym (ap (text_by look G H) over.whole) }

  module _ (j n : ℕ) (list : List ℕ) (whole : ListedIn 4096 (listing look G 4096 (j ∷ [])) list (Some n)) where
    module _ (text mid now : List ℕ) (at : ℕ) (size : n ≤ length list)
        (rows : EndsWith (row_lines (rows_from look G H 0 (take n list))) text mid at) (room : 6 ≤ at)
        (line : now ≡ sets mid (at - 6) (line_text 68 (n ∷ []))) where
      text_is : text_at look G H j ≡ line_text 68 (n ∷ []) ++ row_lines (rows_from look G H 0 (take n list))
      unfolding text_at rows_text
      text_is =
          let count : length (rows_from look G H 0 (take n list)) ≡ n = length_rows 0 (take n list) ∙ length-take-le n list size in
          ap (text_by look G H) whole.whole ∙ ap (λ (k : ℕ). line_text 68 (k ∷ []) ++ row_lines (rows_from look G H 0 (take n list))) count

      bytes : length (line_text 68 (n ∷ [])) ≡ 6
      bytes = line_text_length 68 (n ∷ [])

      same_now : length now ≡ length mid
      same_now = ap length line ∙ length-sets mid (at - 6) (line_text 68 (n ∷ []))

      pub text_some : EndsWith (text_at look G H j) text now (at - 6)
      text_some = record {
        same = same_now ∙ rows.same;
        inside = omega (arith, same_now, rows.inside);
        contents = ap (drop (at - 6)) line
            ∙ drop_sets mid (line_text 68 (n ∷ [])) (at - 6) at (omega (arith, bytes)) rows.inside
            ∙ ap (λ (l : List ℕ). line_text 68 (n ∷ []) ++ l) rows.contents
            ∙ sym text_is;
      }
