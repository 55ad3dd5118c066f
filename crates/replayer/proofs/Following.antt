-- The replay in code follows the replay of the definition: a law for each way that an application and an edge list go.
use mathlib.Core.Path.{◌≡◌, refl, sym, ap, ap₂, subst, ◌∙◌}
use mathlib.Core.Bool.{Bool, true, false, true≢false}
use mathlib.Core.List.{List, [], ◌∷◌, ◌++◌}
use Prim.Native.Nat.{ℕ, zero, suc, ◌+◌, ◌≤◌, ◌<◌}
use native.Mathlib.Omega.{arith}
use native.Mathlib.Numerals.{add-one}
use lib.ListN.{length, get_or, drop, length-drop, drop_of_length-le}
use lib.Seq.{drop-cons}
use borrow.Author.Tests.{lt-ltb, le-ltb, eq-eqb, ne_eqb}
use Rattle.masks.specs.Masks.{◌∪◌, single}
use Rattle.format.specs.Lines.{line_of, after_line}
use Rattle.format.specs.Fields.{field_count, fields_of}
use Rattle.format.specs.Shape.{shape_of}
use Rattle.format.proofs.ShapeLaws.{shape_shaped}
use Rattle.hrg.specs.Grammars.{Kind, Edge, Graph, Grammar, no_edge, kind_of, right_of, edge_at}
use Rattle.hrg.specs.Trees.{images}
use Rattle.preorder.specs.Replay.{State, reached, failed, check, by_kind, rule_in, place_in, fields_in, new_nodes, row_test, edge_test, part_test, replay_at, replay_edges}
use Rattle.preorder.proofs.Sound.{stays_failed}
use Rattle.replayer.specs.declared.Progress.{Progress as Kept}
use Rattle.replayer.specs.declared.Part.TheVariants.{End, GraphEdge, Application}
use Rattle.std.specs.Prelude.{Option, Some, None}
use Rattle.replayer.specs.Fitting.{with_all, taken_if, row_passes, edge_passes, SizedRow}
use Rattle.replayer.specs.Following.{text_rows, RowsAt, Progress, progress_in, Marks, Reaches, Stands, left_at, left_from, Applied, Followed, part_of}
use Rattle.replayer.proofs.MaskTests.{held, marks_snoc, marks_append, row_test_lem, edge_test_lem, edge_known, row_sized, ruled, new_inside}
use Rattle.replayer.proofs.PlacedRows.{text_few, place_none, place_row}
use Rattle.replayer.proofs.RowParts.{of_end, of_edge, of_row}

-- a replay that failed is the failed state, one that passes is not
passing_failed : (q : Progress) → q.ok ≡ false → q.ok ≡ true → ⊥
passing_failed q f e = true≢false (sym e ∙ f)

stands_as : (H : Graph) (q : Progress) (x y : State) → x ≡ y → Stands H q y → Stands H q x
stands_as H q x y e s = subst (Stands H q) (sym e) s

-- what was answered of a row
of_not : (b : Bool) (m : ℕ) → taken_if b m ≡ None → b ≡ false
of_not true m e = absurd (let z : ◌≡◌ {A = ℕ} 0 1 = cc in omega arith)
of_not false m e = refl

of_with : (b : Bool) (m k : ℕ) → taken_if b m ≡ Some k → (b ≡ true) × (k ≡ m)
of_with true m k e = (refl, cc)
of_with false m k e = absurd (let z : ◌≡◌ {A = ℕ} 0 1 = cc in omega arith)

-- ---- what the steps make of the progress kept
module _ (st st' : Kept) where
  abbrev p : Progress
  p = progress_in true st

  pub edge_used : (m : ℕ) → st' ≡ record st { edges = m } → progress_in true st' ≡ record { ok = true; next = p.next; at = p.at; edges = m; nodes = p.nodes }
  edge_used m e = ap (progress_in true) e

  pub row_opened : (n a m : ℕ) → st' ≡ record st { next = n; at = a; nodes = m } → progress_in true st' ≡ record { ok = true; next = n; at = a; edges = p.edges; nodes = m }
  row_opened n a m e = ap (progress_in true) e

-- where the next row then stands
pub opened_rows : (text : List ℕ) (p : Progress) → RowsAt text p.next p.at → p.at < length text → (m : ℕ) (o : Progress)
    → o ≡ record { ok = p.ok; next = p.next + 1; at = after_line text p.at; edges = p.edges; nodes = m } → RowsAt text o.next o.at
opened_rows text p r h m o q = subst (λ (x : Progress). RowsAt text x.next x.at) (sym q) (place_row text p.next p.at r h).onward

pub used_rows : (text : List ℕ) (p : Progress) (m : ℕ) → RowsAt text p.next p.at → (o : Progress)
    → o ≡ record { ok = p.ok; next = p.next; at = p.at; edges = m; nodes = p.nodes } → RowsAt text o.next o.at
used_rows text p m r o q = subst (λ (x : Progress). RowsAt text x.next x.at) (sym q) r

-- ---- the definition, one step opened
module _ (G : Grammar) (H : Graph) (R : List (List ℕ)) where
  at_past : (k s : ℕ) (L : List ℕ) (n : ℕ) (es vs : List ℕ) → length R ≤ n
      → replay_at k G H R s L (reached n es vs) ≡ failed
  unfolding replay_at
  at_past zero s L n es vs h = refl
  at_past (suc k) s L n es vs h = rw (le-ltb n (length R) h)

  at_refused : (k s : ℕ) (L : List ℕ) (n : ℕ) (es vs row : List ℕ) → n < length R → get_or R n [] ≡ row → row_test G H n s L vs row ≡ false
      → replay_at k G H R s L (reached n es vs) ≡ failed
  unfolding replay_at
  at_refused zero s L n es vs row h e t = refl
  at_refused (suc k) s L n es vs row h e t = rw (lt-ltb n (length R) h, e, t)

  at_passed : (k s : ℕ) (L : List ℕ) (n : ℕ) (es vs row : List ℕ) → n < length R → get_or R n [] ≡ row → row_test G H n s L vs row ≡ true
      → replay_at (suc k) G H R s L (reached n es vs)
      ≡ replay_edges k G H R (place_in (right_of G (rule_in row)) row) (right_of G (rule_in row)).edges (fields_in (right_of G (rule_in row)) row) (reached (n + 1) es (vs ++ new_nodes (right_of G (rule_in row)) row))
  unfolding replay_at
  at_passed k s L n es vs row h e t = rw (lt-ltb n (length R) h, e, t)

  edges_end : (k : ℕ) (place : List ℕ) (rs : List Edge) (fs : List ℕ) (i n : ℕ) (es vs : List ℕ) → length rs ≤ i → length fs ≡ length rs
      → replay_edges (suc k) G H R place (drop i rs) (drop i fs) (reached n es vs) ≡ reached n es vs
  unfolding replay_at
  edges_end k place rs fs i n es vs h e = rw (drop_of_length-le rs {i = i} h, drop_of_length-le fs {i = i} (omega arith))

  edges_step : (k : ℕ) (place : List ℕ) (rs : List Edge) (fs : List ℕ) (i n : ℕ) (es vs : List ℕ) → i < length rs → length fs ≡ length rs
      → replay_edges (suc k) G H R place (drop i rs) (drop i fs) (reached n es vs)
      ≡ by_kind (kind_of G (edge_at rs i).label)
      (check (edge_test H (edge_at rs i).label (images place (edge_at rs i).attachment) es (get_or fs i 0))
      (replay_edges k G H R place (drop (i + 1) rs) (drop (i + 1) fs) (reached n (es ++ get_or fs i 0 ∷ []) vs)))
      (check (part_test n (get_or fs i 0))
      (replay_edges k G H R place (drop (i + 1) rs) (drop (i + 1) fs) (replay_at k G H R (edge_at rs i).label (images place (edge_at rs i).attachment) (reached n es vs))))
  unfolding replay_at
  edges_step k place rs fs i n es vs h e =
      ap₂ (λ (a : List Edge) (b : List ℕ). replay_edges (suc k) G H R place a b (reached n es vs)) (drop-cons rs i no_edge h) (drop-cons fs i 0 (omega arith)) ∙ rw add-one

-- ---- the line of the next row, and its numbers
module _ (text : List ℕ) (n place : ℕ) (r : RowsAt text n place) (h : place < length text) where
  pub row_few : n < 4096
  row_few = omega (arith, (place_row text n place r h).known, text_few text)

  module _ (line : List ℕ) (e : line ≡ line_of (drop place text)) where
    pub fields_few : field_count line ≤ 18
    fields_few = (shape_shaped line (ap shape_of e ∙ (place_row text n place r h).shaped)).few

    row_is : (row : List ℕ) → row ≡ fields_of line → get_or (text_rows text) n [] ≡ row
    row_is row f = (place_row text n place r h).fields ∙ ap fields_of (sym e) ∙ sym f

-- ---- an application
module _ (G : Grammar) (H : Graph) (text : List ℕ) (s : ℕ) (L : List ℕ) (p : Progress) where
  -- the definition with k calls, from what is used
  abbrev at_with : ℕ → List ℕ → List ℕ → State
  at_with k es vs = replay_at k G H (text_rows text) s L (reached p.next es vs)

  applied_failed : (q : Progress) → q.ok ≡ false
      → ((k : ℕ) (es vs : List ℕ) → Reaches H p p.next es vs → at_with k es vs ≡ failed) → Applied G H text s L p q
  applied_failed q f e =
      record {
        onward = λ o. absurd (passing_failed q f o);
        further = λ o. absurd (passing_failed q f o);
        stands = λ k l es vs w. stands_as H q _ failed (e k es vs w) f;
      }

  pub applied_past : (q : Progress) → RowsAt text p.next p.at → length text ≤ p.at → q.ok ≡ false
      → Applied G H text s L p q
  applied_past q r h f =
      let none = place_none text p.next p.at r h in
      applied_failed q f (λ k es vs w. at_past G H (text_rows text) k s L p.next es vs none)

  module _ (r : RowsAt text p.next p.at) (h : p.at < length text) (line : List ℕ) (e : line ≡ line_of (drop p.at text)) (row : List ℕ) (f : row ≡ fields_of line) where
    abbrev passes : Bool
    passes = row_passes G H p.next s L p.nodes row

    abbrev new : List ℕ
    new = new_nodes (right_of G (rule_in row)) row

    row_here : get_or (text_rows text) p.next [] ≡ row
    row_here = row_is text p.next p.at r h line e row f

    row_known : p.next < length (text_rows text)
    row_known = (place_row text p.next p.at r h).known

    tested : {es : List ℕ} (vs : List ℕ) → Reaches H p p.next es vs → row_test G H p.next s L vs row ≡ passes
    tested vs w = sym (row_test_lem G H p.next s L p.nodes vs row (held w.used_nodes))

    module _ (t : Option ℕ) (a : t ≡ taken_if passes (with_all p.nodes new)) where
      pub applied_refused : (q : Progress) → t ≡ None → q.ok ≡ false → Applied G H text s L p q
      applied_refused q c d =
          let no = of_not passes _ (sym a ∙ c) in
          applied_failed q d
          (λ k es vs w. at_refused G H (text_rows text) k s L p.next es vs row row_known row_here (tested vs w ∙ no))

      module _ (m : ℕ) (c : t ≡ Some m) where
        passed : passes ≡ true
        passed = (of_with passes _ m (sym a ∙ c)).0

        pub taken_sized : SizedRow G H row
        taken_sized = row_sized G H p.next s L p.nodes row passed

        module _ (o : Progress) (q : o ≡ record { ok = p.ok; next = p.next + 1; at = after_line text p.at; edges = p.edges; nodes = m }) where
          opened_reaches : (es vs : List ℕ) → Reaches H p p.next es vs → Reaches H o o.next es (vs ++ new)
          opened_reaches es vs w =
              subst (λ (x : Progress). Reaches H x x.next es (vs ++ new)) (sym q)
              (record {
                passing = w.passing;
                row = refl;
                used_edges = w.used_edges;
                used_nodes =
                    subst (λ (k : ℕ). Marks H.nodes k (vs ++ new)) (sym (of_with passes _ m (sym a ∙ c)).1)
                    (marks_append H.nodes p.nodes vs _ (new_inside G H row taken_sized) w.used_nodes);
              })

          module _ (few : length (right_of G (rule_in row)).edges ≤ 8) where
            -- the definition over the edges of the row's rule
            abbrev edges_with : ℕ → State → State
            edges_with k st =
                let P = right_of G (rule_in row) in
                replay_edges k G H (text_rows text) (place_in P row) P.edges (fields_in P row) st

            opened_left : left_from G text row 0 (p.next + 1) < left_at text p.next
            opened_left = omega (arith, row_known)

            -- an application is left behind, and its edges count less
            pub opened_falls : left_from G text row 0 o.next < left_at text p.next
            opened_falls =
                subst (λ (x : Progress). left_from G text row 0 x.next < left_at text p.next) (sym q) opened_left

            pub applied_opened : (u : Progress) → Followed G H text row 0 o u → Applied G H text s L p u
            applied_opened u d =
                let next : o.next ≡ p.next + 1 = ap (λ (x : Progress). x.next) q in
                record { onward = d.onward; further = λ y. omega (arith, d.further y); stands = go }
              where
                go : (k : ℕ) → left_at text p.next ≤ k
                    → (es vs : List ℕ) → Reaches H p p.next es vs → Stands H u (at_with k es vs)
                go zero l es vs w = absurd (omega (arith, row_known))
                go (suc k) l es vs w =
                    stands_as H u _ _
                    (at_passed G H (text_rows text) k s L p.next es vs row row_known row_here (tested vs w ∙ passed)
                    ∙ ap (λ (j : ℕ). edges_with k (reached j es (vs ++ new))) (sym (ap (λ (x : Progress). x.next) q)))
                    (d.stands k (omega (arith, opened_falls)) es (vs ++ new) (opened_reaches es vs w))

  pub applied_passing : (b : Bool) (st : Kept) → b ≡ true
      → Applied G H text s L p (progress_in b st) → Applied G H text s L p (progress_in true st)
  applied_passing b st e a = subst (λ (x : Bool). Applied G H text s L p (progress_in x st)) e a

-- ---- an edge list
module _ (G : Grammar) (H : Graph) (text row : List ℕ) (z : SizedRow G H row) (i : ℕ) (p : Progress) where
  abbrev P : Graph
  P = right_of G (rule_in row)

  abbrev place : List ℕ
  place = place_in P row

  abbrev label : ℕ
  label = (edge_at P.edges i).label

  abbrev nodes : List ℕ
  nodes = images place (edge_at P.edges i).attachment

  fields_length : length (fields_in P row) ≡ length P.edges
  fields_length = omega (arith, length-drop P.nodes (drop 2 row), length-drop 2 row, (ruled G H row z).sized)

  -- the edges from j on, from a state
  abbrev on_from : ℕ → ℕ → State → State
  on_from j k st = replay_edges k G H (text_rows text) place (drop j P.edges) (drop j (fields_in P row)) st

  -- what is asked of an answer q, with k calls
  abbrev StandsWith : Progress → ℕ → Type 0
  StandsWith q k =
      left_from G text row i p.next ≤ k
      → (es vs : List ℕ) → Reaches H p p.next es vs → Stands H q (on_from i k (reached p.next es vs))

  followed_failed : (q : Progress) → q.ok ≡ false
      → ((k : ℕ) (es vs : List ℕ) → Reaches H p p.next es vs → on_from i (suc k) (reached p.next es vs) ≡ failed)
      → Followed G H text row i p q
  followed_failed q f e =
      record { onward = λ o. absurd (passing_failed q f o); further = λ o. absurd (passing_failed q f o); stands = go }
    where
      go : (k : ℕ) → StandsWith q k
      go zero l es vs w = absurd (omega arith)
      go (suc k) l es vs w = stands_as H q _ failed (e k es vs w) f

  pub followed_end : part_of G row i ≡ End → RowsAt text p.next p.at → Followed G H text row i p p
  followed_end e r = record { onward = λ o. r; further = λ o. omega arith; stands = go }
    where
      go : (k : ℕ) → StandsWith p k
      go zero l es vs w = absurd (omega arith)
      go (suc k) l es vs w =
          let all = of_end G row i e in
          stands_as H p _ (reached p.next es vs)
          (edges_end G H (text_rows text) k place P.edges (fields_in P row) i p.next es vs all fields_length) w

  -- an edge is left behind, where no application comes back
  falls_on : i < length P.edges → (n : ℕ) → p.next ≤ n
      → left_from G text row (i + 1) n < left_from G text row i p.next
  falls_on known n h = omega arith

  -- a graph edge
  module _ (f : ℕ) (e : part_of G row i ≡ GraphEdge f) where
    module _ (b : Bool) (t : b ≡ edge_passes H label nodes p.edges f) where
      edge_step : (k : ℕ) {es vs : List ℕ} → Reaches H p p.next es vs
          → on_from i (suc k) (reached p.next es vs) ≡ check b (on_from (i + 1) k (reached p.next (es ++ f ∷ []) vs))
      edge_step k {es} {vs} w =
          let o = of_edge G row i f e in
          let field = get_or (fields_in P row) i 0 in
          edges_step G H (text_rows text) k place P.edges (fields_in P row) i p.next es vs o.known fields_length
          ∙ ap (λ (y : Kind). by_kind y
          (check (edge_test H label nodes es field) (on_from (i + 1) k (reached p.next (es ++ field ∷ []) vs)))
          (check (part_test p.next field) (on_from (i + 1) k (replay_at k G H (text_rows text) label nodes (reached p.next es vs))))) o.kind
          ∙ ap (λ (y : ℕ). check (edge_test H label nodes es y) (on_from (i + 1) k (reached p.next (es ++ y ∷ []) vs))) (sym o.number)
          ∙ ap (λ (x : Bool). check x (on_from (i + 1) k (reached p.next (es ++ f ∷ []) vs)))
          (sym (edge_test_lem H label nodes p.edges es f (held w.used_edges)) ∙ sym t)

      pub followed_refused : (q : Progress) → b ≡ false → q.ok ≡ false → Followed G H text row i p q
      followed_refused q c d =
          followed_failed q d
          (λ k es vs w.
          edge_step k w ∙ ap (λ (x : Bool). check x (on_from (i + 1) k (reached p.next (es ++ f ∷ []) vs))) c)

      edge_listed : b ≡ true → f < length H.edges
      edge_listed c = edge_known H label nodes p.edges f (sym t ∙ c)

      module _ (c : b ≡ true) (o : Progress) (q : o ≡ record { ok = p.ok; next = p.next; at = p.at; edges = p.edges ∪ single f; nodes = p.nodes }) where
        used_reaches : (es vs : List ℕ) → Reaches H p p.next es vs → Reaches H o o.next (es ++ f ∷ []) vs
        used_reaches es vs w =
            subst (λ (x : Progress). Reaches H x x.next (es ++ f ∷ []) vs) (sym q)
            (record { passing = w.passing; row = refl; used_edges = marks_snoc (length H.edges) p.edges f es (edge_listed c) w.used_edges; used_nodes = w.used_nodes })

        used_next : o.next ≡ p.next
        used_next = ap (λ (x : Progress). x.next) q

        pub used_falls : left_from G text row (i + 1) o.next < left_from G text row i p.next
        used_falls = falls_on (of_edge G row i f e).known o.next (omega (arith, used_next))

        pub followed_edge : (u : Progress) → Followed G H text row (i + 1) o u → Followed G H text row i p u
        followed_edge u g =
            record { onward = g.onward; further = λ y. omega (arith, g.further y, used_next); stands = go }
          where
            go : (k : ℕ) → StandsWith u k
            go zero l es vs w = absurd (omega arith)
            go (suc k) l es vs w =
                stands_as H u _ _
                (edge_step k w
                ∙ ap (λ (x : Bool). check x (on_from (i + 1) k (reached p.next (es ++ f ∷ []) vs))) c
                ∙ ap (λ (m : ℕ). on_from (i + 1) k (reached m (es ++ f ∷ []) vs)) (sym used_next))
                (g.stands k (omega (arith, used_falls)) (es ++ f ∷ []) vs (used_reaches es vs w))

  -- an application
  module _ (s f : ℕ) (e : part_of G row i ≡ Application s f) where
    under_step : (k : ℕ) (es vs : List ℕ)
        → on_from i (suc k) (reached p.next es vs) ≡ check (part_test p.next f) (on_from (i + 1) k (replay_at k G H (text_rows text) s nodes (reached p.next es vs)))
    under_step k es vs =
        let o = of_row G row i s f e in
        let field = get_or (fields_in P row) i 0 in
        edges_step G H (text_rows text) k place P.edges (fields_in P row) i p.next es vs o.known fields_length
        ∙ ap (λ (y : Kind). by_kind y
        (check (edge_test H label nodes es field) (on_from (i + 1) k (reached p.next (es ++ field ∷ []) vs)))
        (check (part_test p.next field) (on_from (i + 1) k (replay_at k G H (text_rows text) label nodes (reached p.next es vs))))) o.kind
        ∙ ap₂ (λ (y m : ℕ). check (part_test p.next y) (on_from (i + 1) k (replay_at k G H (text_rows text) m nodes (reached p.next es vs)))) (sym o.number) (sym o.symbol)

    -- its edge counts one more
    pub under_falls : left_at text p.next < left_from G text row i p.next
    under_falls = omega arith

    pub followed_unnumbered : (q : Progress) → (f ≡ p.next → ⊥) → q.ok ≡ false → Followed G H text row i p q
    followed_unnumbered q c d =
        followed_failed q d
        (λ k es vs w.
        let st = replay_at k G H (text_rows text) s nodes (reached p.next es vs) in
        under_step k es vs ∙ ap (λ (x : Bool). check x (on_from (i + 1) k st)) (ne_eqb f p.next c))

    module _ (c : f ≡ p.next) (L : List ℕ) (l : L ≡ nodes) (u : Progress) where
      numbered : (k : ℕ) (es vs : List ℕ) → on_from i (suc k) (reached p.next es vs) ≡ on_from (i + 1) k (replay_at k G H (text_rows text) s L (reached p.next es vs))
      numbered k es vs =
          under_step k es vs ∙ ap (λ (x : Bool). check x (on_from (i + 1) k (replay_at k G H (text_rows text) s nodes (reached p.next es vs)))) (eq-eqb f p.next c)
          ∙ ap (λ (m : List ℕ). on_from (i + 1) k (replay_at k G H (text_rows text) s m (reached p.next es vs))) (sym l)

      module _ (a : Applied G H text s L p u) where
        pub followed_under_failed : u.ok ≡ false → (q : Progress) → q.ok ≡ false → Followed G H text row i p q
        followed_under_failed d q f =
            record {
              onward = λ o. absurd (passing_failed q f o);
              further = λ o. absurd (passing_failed q f o);
              stands = stood;
            }
          where
            go : (k : ℕ) (st : State) → Stands H u st → on_from (i + 1) k st ≡ failed
            go k failed q = stays_failed G H (text_rows text) k place _ _
            go k (reached n es vs) q = absurd (passing_failed u d q.passing)

            stood : (k : ℕ) → StandsWith q k
            stood zero l es vs w = absurd (omega arith)
            stood (suc k) l es vs w =
                let after = replay_at k G H (text_rows text) s L (reached p.next es vs) in
                stands_as H q _ failed
                (numbered k es vs ∙ go k after (a.stands k (omega (arith, under_falls)) es vs w)) f

        module _ (d : u.ok ≡ true) where
          pub after_falls : left_from G text row (i + 1) u.next < left_from G text row i p.next
          after_falls = falls_on (of_row G row i s f e).known u.next (a.further d)

          pub followed_under : (v : Progress) → Followed G H text row (i + 1) u v → Followed G H text row i p v
          followed_under v g =
              record { onward = g.onward; further = λ y. omega (arith, a.further d, g.further y); stands = stood }
            where
              go : (k : ℕ) → left_from G text row (i + 1) u.next ≤ k
                  → (st : State) → Stands H u st → Stands H v (on_from (i + 1) k st)
              go k l failed q = absurd (passing_failed u q d)
              go k l (reached m es vs) q =
                  let same = ap (λ (y : ℕ). on_from (i + 1) k (reached y es vs)) (sym q.row) in
                  stands_as H v _ (on_from (i + 1) k (reached u.next es vs)) same
                  (g.stands k l es vs
                  (record { passing = q.passing; row = refl; used_edges = q.used_edges; used_nodes = q.used_nodes }))

              stood : (k : ℕ) → StandsWith v k
              stood zero l es vs w = absurd (omega arith)
              stood (suc k) l es vs w =
                  let after = replay_at k G H (text_rows text) s L (reached p.next es vs) in
                  stands_as H v _ _ (numbered k es vs)
                  (go k (omega (arith, after_falls)) after (a.stands k (omega (arith, under_falls)) es vs w))
