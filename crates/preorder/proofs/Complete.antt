-- The rows of a tree that generates the graph replay.
use mathlib.Core.Path.{◌≡◌, refl, sym, ap, ap₂, subst, ◌∙◌}
use mathlib.Core.Bool.{Bool, true, false, ◌&&◌}
use mathlib.Core.List.{List, [], ◌∷◌, ◌++◌, append_assoc, append-nil}
use Prim.Native.Nat.{ℕ, zero, suc, ◌+◌, ◌*◌, ◌≤◌, ◌<◌}
use native.Mathlib.Omega.{arith}
use lib.ListN.{length, drop, length-append}
use lib.Seq.{take_at, drop_at}
use lib.Dec.{T, ltb, eqb_refl}
use Rattle.hrg.specs.Counts.{occurs}
use Rattle.hrg.specs.Grammars.{Kind, nonterminal, Edge, Graph, Grammar, kind_of, right_of}
use Rattle.hrg.specs.Trees.{images, internals, Tree, Parts, apply, end, edge, tree, edges_of, edges_in, inner_of, inner_in, FitsEdge, FitsRule, Fits, FitsParts, Generates}
use Rattle.hrg.specs.WellFormed.{GrammarOk, GraphOk}
use Rattle.hrg.proofs.Sums.{occurs_append, occurs_find}
use Rattle.hrg.proofs.WellFormedTest.{◌and◌, decides_le, decides_between}
use Rattle.preorder.specs.Rows.{size, size_in, part_numbers, tree_rows, part_rows, rows_of}
use Rattle.preorder.specs.Replay.{State, reached, check, by_kind, rule_in, place_in, fields_in, new_nodes, row_test, RowOk, edge_test, EdgeFits, part_test, replay_at, replay_edges, whole, count_test, calls, replayed, replays}
use Rattle.preorder.proofs.Rows.{length_rows, size_positive, next_row, rows_after}
use Rattle.preorder.proofs.Tests.{Once, once_fresh, decides_row, decides_edge, itself, pass}
use Rattle.preorder.proofs.Sound.{decides_whole}

once_left : (xs ys : List ℕ) → Once (xs ++ ys) → Once xs
once_left xs ys o v = omega (arith, occurs_append v xs ys, o v)

-- of three lists, the first two and then the third
once_assoc : (xs ys zs : List ℕ) → Once (xs ++ (ys ++ zs)) → Once ((xs ++ ys) ++ zs)
once_assoc xs ys zs o = subst Once (sym (append_assoc xs ys zs)) o

same_state : {m n : ℕ} {es fs vs ws : List ℕ} → m ≡ n → es ≡ fs → vs ≡ ws → reached m es vs ≡ reached n fs ws
same_state p q r = cc

module _ (G : Grammar) (H : Graph) where
  -- as many numbers as edges
  length_numbers : (place : List ℕ) (n : ℕ) (ps : Parts) (rs : List Edge) → FitsParts G H place ps rs → length (part_numbers n ps) ≡ length rs
  unfolding part_numbers
  length_numbers place n end [] f = refl
  length_numbers place n end (e ∷ rs) f = absurd f
  length_numbers place n (edge g ps) [] f = absurd f
  length_numbers place n (edge g ps) (e ∷ rs) f = ap suc (length_numbers place n ps rs f.1)
  length_numbers place n (tree t ps) [] f = absurd f
  length_numbers place n (tree t ps) (e ∷ rs) f = ap suc (length_numbers place (n + size t) ps rs f.1)

module _ (G : Grammar) (H : Graph) (rows : List (List ℕ)) where
  abbrev CompleteAt : ℕ → Type 0
  CompleteAt k =
      (s : ℕ) (L : List ℕ) (n : ℕ) (t : Tree) (es vs : List ℕ) (rest : List (List ℕ)) → 10 * size t ≤ k → Fits G H s L t → drop n rows ≡ tree_rows n t ++ rest
      → Once (es ++ edges_of t) → Once (vs ++ inner_of G t)
      → replay_at k G H rows s L (reached n es vs) ≡ reached (n + size t) (es ++ edges_of t) (vs ++ inner_of G t)

  abbrev CompleteUnder : ℕ → Type 0
  CompleteUnder k =
      (place : List ℕ) (rs : List Edge) (n : ℕ) (ps : Parts) (es vs : List ℕ) (rest : List (List ℕ)) → length rs + 1 + 10 * size_in ps ≤ k
      → FitsParts G H place ps rs → drop n rows ≡ part_rows n ps ++ rest → Once (es ++ edges_in ps) → Once (vs ++ inner_in G ps)
      → replay_edges k G H rows place rs (part_numbers n ps) (reached n es vs) ≡ reached (n + size_in ps) (es ++ edges_in ps) (vs ++ inner_in G ps)

  -- ---- an application
  -- what the replay does with a row
  abbrev with_row_is : ℕ → ℕ → List ℕ → ℕ → List ℕ → List ℕ → List ℕ → State
  with_row_is k s L n es vs row =
      check (ltb n (length rows) && row_test G H n s L vs row)
      (replay_edges k G H rows (place_in (right_of G (rule_in row)) row) (right_of G (rule_in row)).edges (fields_in (right_of G (rule_in row)) row) (reached (n + 1) es (vs ++ new_nodes (right_of G (rule_in row)) row)))

  module _ (g : GrammarOk G) (s : ℕ) (L : List ℕ) (n r : ℕ) (place : List ℕ) (ps : Parts) (es vs : List ℕ) (rest : List (List ℕ)) (f : FitsRule G H s L r place) (fs : FitsParts G H place ps (right_of G r).edges) where
    abbrev P : Graph
    P = right_of G r

    abbrev row : List ℕ
    row = n ∷ r ∷ (place ++ part_numbers (n + 1) ps)

    place_eq : place_in P row ≡ place
    place_eq = take_at place (part_numbers (n + 1) ps) P.nodes f.sized

    fields_eq : fields_in P row ≡ part_numbers (n + 1) ps
    fields_eq = drop_at place (part_numbers (n + 1) ps) P.nodes f.sized

    new_eq : new_nodes P row ≡ images place (internals P)
    unfolding new_nodes
    new_eq = ap (λ (l : List ℕ). images l (internals P)) place_eq

    row_ok : Once (vs ++ images place (internals P)) → RowOk G H n s L vs row
    row_ok o =
        record {
          number = refl;
          known = f.known;
          lhs = f.lhs;
          sized = omega (arith, length-append place (part_numbers (n + 1) ps), f.sized, length_numbers G H place (n + 1) ps P.edges fs);
          placed = subst (λ (l : List ℕ). (v : ℕ) → 0 < occurs v l → v < H.nodes) (sym place_eq) inside;
          externals = ap (λ (l : List ℕ). images l P.externals) place_eq ∙ f.externals;
          new = once_fresh vs (new_nodes P row) (subst (λ (l : List ℕ). Once (vs ++ l)) (sym new_eq) o);
        }
      where
        inside : (v : ℕ) → 0 < occurs v place → v < H.nodes
        inside v h = let t = occurs_find v place h in subst (λ (z : ℕ). z < H.nodes) t.2 (f.placed t.0 (omega (arith, t.1, f.sized)))

    application : (k : ℕ) → CompleteUnder k → 10 * size (apply r place ps) ≤ suc k → drop n rows ≡ tree_rows n (apply r place ps) ++ rest
        → Once (es ++ edges_of (apply r place ps)) → Once (vs ++ inner_of G (apply r place ps))
        → replay_at (suc k) G H rows s L (reached n es vs) ≡ reached (n + size (apply r place ps)) (es ++ edges_of (apply r place ps)) (vs ++ inner_of G (apply r place ps))
    unfolding replay_at size tree_rows edges_of inner_of
    application k under h e oe ov =
        let next = next_row rows n row (part_rows (n + 1) ps ++ rest) e in
        let ov' = once_assoc vs (images place (internals P)) (inner_in G ps) ov in
        let fuel : length P.edges + 1 + 10 * size_in ps ≤ k = omega (arith, (g.rule r f.known).right.edge_count.upper) in
        ap (λ (l : List ℕ). with_row_is k s L n es vs l) next.here
        ∙ pass (ltb n (length rows) && row_test G H n s L vs row) _
        ((decides_le (suc n) (length rows) and decides_row G H n s L vs row).complete (next.known, row_ok (once_left (vs ++ images place (internals P)) (inner_in G ps) ov')))
        ∙ ap₂ (λ (l m : List ℕ). replay_edges k G H rows l P.edges m (reached (n + 1) es (vs ++ new_nodes P row))) place_eq fields_eq
        ∙ ap (λ (l : List ℕ). replay_edges k G H rows place P.edges (part_numbers (n + 1) ps) (reached (n + 1) es (vs ++ l))) new_eq
        ∙ under place P.edges (n + 1) ps es (vs ++ images place (internals P)) rest fuel fs next.after oe ov'
        ∙ same_state (omega arith) refl (append_assoc vs (images place (internals P)) (inner_in G ps))

  step_at : (g : GrammarOk G) (k : ℕ) → CompleteUnder k → CompleteAt (suc k)
  step_at g k under s L n (apply r place ps) es vs rest h f e oe ov =
      application g s L n r place ps es vs rest f.0 f.1 k under h e oe ov

  -- ---- the edges of an application
  module _ (place : List ℕ) (e : Edge) (rs : List Edge) (n : ℕ) (ps : Parts) (es vs : List ℕ) (rest : List (List ℕ)) (k : ℕ) (under : CompleteUnder k) where
    abbrev L : List ℕ
    L = images place e.attachment

    abbrev used : ℕ → State
    used f = replay_edges k G H rows place rs (part_numbers n ps) (reached n (es ++ f ∷ []) vs)

    abbrev below : List ℕ → State
    below fs = replay_edges k G H rows place rs fs (replay_at k G H rows e.label L (reached n es vs))

    with_edge_lem : (f : ℕ) → length rs + 1 + 10 * size_in ps ≤ k → FitsEdge G H e.label L f → FitsParts G H place ps rs → drop n rows ≡ part_rows n ps ++ rest
        → Once (es ++ (f ∷ edges_in ps)) → Once (vs ++ inner_in G ps)
        → by_kind (kind_of G e.label) (check (edge_test H e.label L es f) (used f)) (check (part_test n f) (below (part_numbers n ps))) ≡ reached (n + size_in ps) (es ++ (f ∷ edges_in ps)) (vs ++ inner_in G ps)
    with_edge_lem f h w fs q oe ov =
        let oe' = once_assoc es (f ∷ []) (edges_in ps) oe in
        let ok : EdgeFits H e.label L es f =
        record { known = w.known; label = w.label; attachment = w.attachment; new = once_fresh es (f ∷ []) (once_left (es ++ f ∷ []) (edges_in ps) oe') } in
        ap (λ (kind : Kind). by_kind kind (check (edge_test H e.label L es f) (used f)) (check (part_test n f) (below (part_numbers n ps)))) w.kind
        ∙ pass (edge_test H e.label L es f) (used f) ((decides_edge H e.label L es f).complete ok)
        ∙ under place rs n ps (es ++ f ∷ []) vs rest h fs q oe' ov
        ∙ same_state refl (append_assoc es (f ∷ []) (edges_in ps)) refl

    with_tree_lem : CompleteAt k → (t : Tree) → length rs + 1 + 10 * (size t + size_in ps) ≤ k → Fits G H e.label L t → FitsParts G H place ps rs
        → drop n rows ≡ (tree_rows n t ++ part_rows (n + size t) ps) ++ rest → Once (es ++ (edges_of t ++ edges_in ps)) → Once (vs ++ (inner_of G t ++ inner_in G ps))
        → by_kind (kind_of G e.label) (check (edge_test H e.label L es n) (replay_edges k G H rows place rs (part_numbers (n + size t) ps) (reached n (es ++ n ∷ []) vs))) (check (part_test n n) (below (part_numbers (n + size t) ps)))
        ≡ reached (n + (size t + size_in ps)) (es ++ (edges_of t ++ edges_in ps)) (vs ++ (inner_of G t ++ inner_in G ps))
    with_tree_lem sub t h w fs q oe ov =
        let oe' = once_assoc es (edges_of t) (edges_in ps) oe in
        let ov' = once_assoc vs (inner_of G t) (inner_in G ps) ov in
        let q' : drop n rows ≡ tree_rows n t ++ (part_rows (n + size t) ps ++ rest) = q ∙ append_assoc (tree_rows n t) (part_rows (n + size t) ps) rest in
        ap (λ (kind : Kind). by_kind kind (check (edge_test H e.label L es n) (replay_edges k G H rows place rs (part_numbers (n + size t) ps) (reached n (es ++ n ∷ []) vs))) (check (part_test n n) (below (part_numbers (n + size t) ps)))) (fits_kind t w)
        ∙ pass (part_test n n) (below (part_numbers (n + size t) ps)) (eqb_refl n)
        ∙ ap (λ (st : State). replay_edges k G H rows place rs (part_numbers (n + size t) ps) st)
        (sub e.label L n t es vs (part_rows (n + size t) ps ++ rest) (omega arith) w q' (once_left (es ++ edges_of t) (edges_in ps) oe') (once_left (vs ++ inner_of G t) (inner_in G ps) ov'))
        ∙ under place rs (n + size t) ps (es ++ edges_of t) (vs ++ inner_of G t) rest (omega arith) fs (rows_after rows n t (part_rows (n + size t) ps ++ rest) q') oe' ov'
        ∙ same_state (omega arith) (append_assoc es (edges_of t) (edges_in ps)) (append_assoc vs (inner_of G t) (inner_in G ps))
      where
        fits_kind : (t : Tree) → Fits G H e.label L t → kind_of G e.label ≡ nonterminal
        fits_kind (apply r pl ps) f = f.0.kind

  step_edges : (k : ℕ) → CompleteAt k → CompleteUnder k → CompleteUnder (suc k)
  unfolding replay_edges size part_numbers tree_rows edges_of inner_of
  step_edges k sub under place [] n end es vs rest h f q oe ov = same_state (omega arith) (sym (append-nil es)) (sym (append-nil vs))
  step_edges k sub under place (e ∷ rs) n end es vs rest h f q oe ov = absurd f
  step_edges k sub under place [] n (edge g ps) es vs rest h f q oe ov = absurd f
  step_edges k sub under place (e ∷ rs) n (edge g ps) es vs rest h f q oe ov =
      with_edge_lem place e rs n ps es vs rest k under g (omega arith) f.0 f.1 q oe ov
  step_edges k sub under place [] n (tree t ps) es vs rest h f q oe ov = absurd f
  step_edges k sub under place (e ∷ rs) n (tree t ps) es vs rest h f q oe ov =
      with_tree_lem place e rs n ps es vs rest k under sub t (omega arith) f.0 f.1 q oe ov

  complete : GrammarOk G → (k : ℕ) → CompleteAt k × CompleteUnder k
  complete g zero = (λ s L n t es vs rest h f q oe ov. absurd (omega (arith, size_positive t)), λ place rs n ps es vs rest h f q oe ov. absurd (omega arith))
  complete g (suc k) = let h = complete g k in (step_at g k h.1, step_edges k h.0 h.1)

-- ---- the theorem
pub holds : (b : Bool) → T b → b ≡ true
holds true t = refl
holds false t = absurd t

module _ (G : Grammar) (H : Graph) (g : GrammarOk G) (t : Tree) (w : Generates G H t) where
  abbrev rows : List (List ℕ)
  rows = rows_of t

  reaches : replayed G H rows ≡ reached (0 + size t) (edges_of t) (H.externals ++ inner_of G t)
  unfolding replayed rows_of
  reaches =
      (complete G H rows g (calls rows)).0 G.start H.externals 0 t [] H.externals [] (omega (arith, length_rows 0 t)) w.fits (sym (append-nil (tree_rows 0 t)))
      w.apart.edges (λ v. omega (arith, occurs_append v H.externals (inner_of G t), w.apart.nodes v))

  all_used : T (whole H rows (reached (0 + size t) (edges_of t) (H.externals ++ inner_of G t)))
  unfolding rows_of
  all_used =
      (decides_whole G H rows (0 + size t) (edges_of t) (H.externals ++ inner_of G t)).complete
      (record {
        all_rows = omega (arith, length_rows 0 t);
        all_edges = w.edges;
        all_nodes = λ v l. omega (arith, occurs_append v H.externals (inner_of G t), w.nodes v l);
      })

counted : (t : Tree) → size t ≤ 4096 → T (count_test (rows_of t))
unfolding rows_of
counted t small =
    (decides_between 1 (length (rows_of t)) 4096).complete (record { lower = omega (arith, length_rows 0 t, size_positive t); upper = omega (arith, length_rows 0 t) })

pub replay_complete : (G : Grammar) (H : Graph) → GrammarOk G → GraphOk G H → (t : Tree) → Generates G H t → size t ≤ 4096 → replays G H (rows_of t) ≡ true
unfolding replays rows_of
replay_complete G H g h t w small =
    holds (replays G H (rows_of t))
    ((itself (count_test (rows_of t)) and itself (whole H (rows_of t) (replayed G H (rows_of t)))).complete
    (counted t small, subst (λ (st : State). T (whole H (rows_of t) st)) (sym (reaches G H g t w)) (all_used G H g t w)))
