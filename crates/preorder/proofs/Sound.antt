-- Rows that replay are the rows of a tree that generates the graph.
use mathlib.Core.Path.{◌≡◌, refl, sym, ap, ap₂, subst, ◌∙◌}
use mathlib.Core.Bool.{true, ◌&&◌}
use mathlib.Core.List.{List, [], ◌∷◌, ◌++◌, append_assoc, append-nil}
use Prim.Native.Nat.{ℕ, zero, suc, ◌+◌, ◌<◌}
use native.Mathlib.Omega.{arith}
use native.Mathlib.Numerals.{add-one}
use lib.ListN.{length, get_or, drop, length-drop}
use lib.Seq.{drop-cons, drop-length, length-take-le}
use lib.Dec.{T, ltb, eqb→eq, ltb→lt}
use Rattle.hrg.specs.Counts.{occurs}
use Rattle.hrg.specs.Grammars.{Kind, terminal, nonterminal, Edge, Graph, Grammar, kind_of, right_of}
use Rattle.hrg.specs.Trees.{at, images, internals, Tree, Parts, apply, end, edge, tree, edges_of, edges_in, inner_of, inner_in, Fits, FitsParts, Generates}
use Rattle.hrg.specs.WellFormed.{GrammarOk, GraphOk}
use Rattle.hrg.specs.WellFormedTest.{Decides}
use Rattle.hrg.proofs.WellFormedTest.{decides_map, ◌and◌, decides_le, decides_eq, decides_every}
use Rattle.hrg.proofs.Sums.{occurs_append, occurs_at}
use Rattle.hrg.proofs.ClosureRun.{of_and}
use Rattle.preorder.specs.Rows.{size, size_in, part_numbers, tree_rows, part_rows, rows_of}
use Rattle.preorder.specs.Replay.{State, reached, failed, check, by_kind, rule_in, place_in, fields_in, new_nodes, row_test, RowOk, edge_test, EdgeFits, part_test, replay_at, replay_edges, whole, Whole, count_test, calls, replayed, replays}
use Rattle.preorder.proofs.Rows.{row_fields}
use Rattle.preorder.proofs.Tests.{Once, fresh_once, decides_row, decides_edge, passed}

pub never : {n : ℕ} {es vs : List ℕ} → failed ≡ reached n es vs → ⊥
never e = let z : ◌≡◌ {A = ℕ} 0 1 = cc in omega arith

module _ (G : Grammar) (H : Graph) (rows : List (List ℕ)) where
  -- From row n on stand the rows of a tree for an edge s on the nodes L.
  pub record At (s : ℕ) (L : List ℕ) (n : ℕ) (es vs : List ℕ) (n' : ℕ) (es' vs' : List ℕ) : Type 0 where
    pub found : Tree
    pub fits : Fits G H s L found
    pub next : n' ≡ n + size found
    pub edges : es' ≡ es ++ edges_of found
    pub nodes : vs' ≡ vs ++ inner_of G found
    pub listed : drop n rows ≡ tree_rows n found ++ drop n' rows
    pub edges_once : Once es → Once es'
    pub nodes_once : Once vs → Once vs'

  -- From row n on stand the rows of parts for the edges rs, and the fields are their numbers.
  pub record Under (place : List ℕ) (rs : List Edge) (fs : List ℕ) (n : ℕ) (es vs : List ℕ) (n' : ℕ) (es' vs' : List ℕ) : Type 0 where
    pub found : Parts
    pub fits : FitsParts G H place found rs
    pub fields : fs ≡ part_numbers n found
    pub next : n' ≡ n + size_in found
    pub edges : es' ≡ es ++ edges_in found
    pub nodes : vs' ≡ vs ++ inner_in G found
    pub listed : drop n rows ≡ part_rows n found ++ drop n' rows
    pub edges_once : Once es → Once es'
    pub nodes_once : Once vs → Once vs'

  abbrev SoundAt : ℕ → Type 0
  SoundAt k =
      (s : ℕ) (L : List ℕ) (n : ℕ) (es vs : List ℕ) (n' : ℕ) (es' vs' : List ℕ) → replay_at k G H rows s L (reached n es vs) ≡ reached n' es' vs'
      → At s L n es vs n' es' vs'

  abbrev SoundUnder : ℕ → Type 0
  SoundUnder k =
      (place : List ℕ) (rs : List Edge) (fs : List ℕ) (n : ℕ) (es vs : List ℕ) (n' : ℕ) (es' vs' : List ℕ)
      → replay_edges k G H rows place rs fs (reached n es vs) ≡ reached n' es' vs' → Under place rs fs n es vs n' es' vs'

  pub stays_failed : (k : ℕ) (place : List ℕ) (rs : List Edge) (fs : List ℕ) → replay_edges k G H rows place rs fs failed ≡ failed
  unfolding replay_edges
  stays_failed zero place rs fs = refl
  stays_failed (suc k) place rs fs = refl

  -- ---- an application
  module _ (g : GrammarOk G) (s : ℕ) (L : List ℕ) (n : ℕ) (es vs : List ℕ) (n' : ℕ) (es' vs' : List ℕ) where
    application : (row : List ℕ) → get_or rows n [] ≡ row → n < length rows → RowOk G H n s L vs row
        → Under (place_in (right_of G (rule_in row)) row) (right_of G (rule_in row)).edges (fields_in (right_of G (rule_in row)) row) (n + 1) es (vs ++ new_nodes (right_of G (rule_in row)) row) n' es' vs'
        → At s L n es vs n' es' vs'
    unfolding size tree_rows edges_of inner_of new_nodes
    application row e known ok q =
        record {
          found = apply r place q.found;
          fits = (
            record {
              kind = subst (λ (z : ℕ). kind_of G z ≡ nonterminal) ok.lhs (g.rule r ok.known).lhs_kind;
              known = ok.known;
              lhs = ok.lhs;
              sized = sized;
              placed = λ x h. ok.placed (at place x) (occurs_at place x (omega (arith, sized)));
              externals = ok.externals;
            },
            q.fits,
          );
          next = omega (arith, q.next);
          edges = q.edges;
          nodes = q.nodes ∙ append_assoc vs (images place (internals P)) (inner_in G q.found);
          listed = drop-cons rows n [] known ∙ ap₂ ◌∷◌ (e ∙ fields) (ap (λ k. drop k rows) (sym (add-one n)) ∙ q.listed);
          edges_once = q.edges_once;
          nodes_once = λ o. q.nodes_once (fresh_once vs (new_nodes P row) ok.new o);
        }
      where
        r : ℕ
        r = rule_in row

        P : Graph
        P = right_of G (rule_in row)

        place : List ℕ
        place = place_in P row

        sized : length place ≡ P.nodes
        sized = length-take-le P.nodes (drop 2 row) (omega (arith, length-drop 2 row, ok.sized))

        fields : row ≡ n ∷ r ∷ (place ++ part_numbers (n + 1) q.found)
        fields =
            row_fields row n r P.nodes (length P.edges) ok.number refl ok.sized
            ∙ ap (λ (l : List ℕ). n ∷ r ∷ (place ++ l)) q.fields

  step_at : (g : GrammarOk G) (k : ℕ) → SoundUnder k → SoundAt (suc k)
  unfolding replay_at
  step_at g k under s L n es vs n' es' vs' e =
      let row = get_or rows n [] in
      let P = right_of G (rule_in row) in
      let p = passed (ltb n (length rows) && row_test G H n s L vs row)
      (replay_edges k G H rows (place_in P row) P.edges (fields_in P row) (reached (n + 1) es (vs ++ new_nodes P row))) n' es' vs' e in
      let t = of_and (ltb n (length rows)) _ p.test in
      application g s L n es vs n' es' vs' row refl (ltb→lt _ _ t.0) ((decides_row G H n s L vs row).sound t.1)
      (under (place_in P row) P.edges (fields_in P row) (n + 1) es (vs ++ new_nodes P row) n' es' vs' p.state)

  -- ---- the edges of an application
  module _ (place : List ℕ) where
    ended : (n : ℕ) (es vs : List ℕ) (n' : ℕ) (es' vs' : List ℕ) → reached n es vs ≡ reached n' es' vs' → Under place [] [] n es vs n' es' vs'
    unfolding size part_numbers tree_rows edges_of inner_of
    ended n es vs n' es' vs' e =
        let en : n ≡ n' = cc in
        let ee : es ≡ es' = cc in
        let ev : vs ≡ vs' = cc in
        record {
          found = end;
          fits = tt;
          fields = refl;
          next = omega arith;
          edges = sym ee ∙ sym (append-nil es);
          nodes = sym ev ∙ sym (append-nil vs);
          listed = ap (λ (k : ℕ). drop k rows) en;
          edges_once = λ o. subst Once ee o;
          nodes_once = λ o. subst Once ev o;
        }

    module _ (e : Edge) (rs : List Edge) (f : ℕ) (fs : List ℕ) (n : ℕ) (es vs : List ℕ) (n' : ℕ) (es' vs' : List ℕ) where
      abbrev L : List ℕ
      L = images place e.attachment

      with_edge_lem : kind_of G e.label ≡ terminal → EdgeFits H e.label L es f → Under place rs fs n (es ++ f ∷ []) vs n' es' vs'
          → Under place (e ∷ rs) (f ∷ fs) n es vs n' es' vs'
      unfolding size part_numbers tree_rows edges_of inner_of
      with_edge_lem k ok q =
          record {
            found = edge f q.found;
            fits = (record { kind = k; known = ok.known; label = ok.label; attachment = ok.attachment }, q.fits);
            fields = ap (λ (l : List ℕ). f ∷ l) q.fields;
            next = q.next;
            edges = q.edges ∙ append_assoc es (f ∷ []) (edges_in q.found);
            nodes = q.nodes;
            listed = q.listed;
            edges_once = λ o. q.edges_once (fresh_once es (f ∷ []) ok.new o);
            nodes_once = q.nodes_once;
          }

      with_tree_lem : (n₁ : ℕ) (es₁ vs₁ : List ℕ) → f ≡ n → At e.label L n es vs n₁ es₁ vs₁ → Under place rs fs n₁ es₁ vs₁ n' es' vs'
          → Under place (e ∷ rs) (f ∷ fs) n es vs n' es' vs'
      unfolding size part_numbers tree_rows edges_of inner_of
      with_tree_lem n₁ es₁ vs₁ x p q =
          let ef : fs ≡ part_numbers (n + size p.found) q.found = q.fields ∙ ap (λ (k : ℕ). part_numbers k q.found) p.next in
          record {
            found = tree p.found q.found;
            fits = (p.fits, q.fits);
            fields = (cc);
            next = omega (arith, p.next, q.next);
            edges = q.edges ∙ ap (λ (l : List ℕ). l ++ edges_in q.found) p.edges ∙ append_assoc es (edges_of p.found) (edges_in q.found);
            nodes = q.nodes ∙ ap (λ (l : List ℕ). l ++ inner_in G q.found) p.nodes ∙ append_assoc vs (inner_of G p.found) (inner_in G q.found);
            listed = p.listed ∙ ap (λ (l : List (List ℕ)). tree_rows n p.found ++ l) (q.listed ∙ ap (λ (k : ℕ). part_rows k q.found ++ drop n' rows) p.next)
                ∙ sym (append_assoc (tree_rows n p.found) (part_rows (n + size p.found) q.found) (drop n' rows));
            edges_once = λ o. q.edges_once (p.edges_once o);
            nodes_once = λ o. q.nodes_once (p.nodes_once o);
          }

      module _ (k : ℕ) (sub : SoundAt k) (under : SoundUnder k) where
        -- what was replayed for the edge did not fail
        after_tree : (st : State) → replay_at k G H rows e.label L (reached n es vs) ≡ st → f ≡ n → replay_edges k G H rows place rs fs st ≡ reached n' es' vs'
            → Under place (e ∷ rs) (f ∷ fs) n es vs n' es' vs'
        after_tree failed h x q = absurd (never (sym (stays_failed k place rs fs) ∙ q))
        after_tree (reached n₁ es₁ vs₁) h x q =
            with_tree_lem n₁ es₁ vs₁ x (sub e.label L n es vs n₁ es₁ vs₁ h) (under place rs fs n₁ es₁ vs₁ n' es' vs' q)

        abbrev used : State
        used = replay_edges k G H rows place rs fs (reached n (es ++ f ∷ []) vs)

        abbrev below : State
        below = replay_edges k G H rows place rs fs (replay_at k G H rows e.label L (reached n es vs))

        by_kind_is : (kind : Kind) → kind_of G e.label ≡ kind
            → by_kind kind (check (edge_test H e.label L es f) used) (check (part_test n f) below) ≡ reached n' es' vs'
            → Under place (e ∷ rs) (f ∷ fs) n es vs n' es' vs'
        by_kind_is terminal h q =
            let p = passed (edge_test H e.label L es f) used n' es' vs' q in
            with_edge_lem h ((decides_edge H e.label L es f).sound p.test) (under place rs fs n (es ++ f ∷ []) vs n' es' vs' p.state)
        by_kind_is nonterminal h q =
            let p = passed (part_test n f) below n' es' vs' q in
            after_tree (replay_at k G H rows e.label L (reached n es vs)) refl (eqb→eq f n p.test) p.state

  step_edges : (k : ℕ) → SoundAt k → SoundUnder k → SoundUnder (suc k)
  unfolding replay_edges
  step_edges k sub under place [] [] n es vs n' es' vs' q = ended place n es vs n' es' vs' q
  step_edges k sub under place [] (f ∷ fs) n es vs n' es' vs' q = absurd (never q)
  step_edges k sub under place (e ∷ rs) [] n es vs n' es' vs' q = absurd (never q)
  step_edges k sub under place (e ∷ rs) (f ∷ fs) n es vs n' es' vs' q =
      by_kind_is place e rs f fs n es vs n' es' vs' k sub under (kind_of G e.label) refl q

  sound : GrammarOk G → (k : ℕ) → SoundAt k × SoundUnder k
  unfolding replay_at
  sound g zero = (λ s L n es vs n' es' vs' q. absurd (never q), λ place rs fs n es vs n' es' vs' q. absurd (never q))
  sound g (suc k) = let h = sound g k in (step_at g k h.1, step_edges k h.0 h.1)

-- ---- the theorem
module _ (G : Grammar) (H : Graph) (rows : List (List ℕ)) where
  pub decides_whole : (n : ℕ) (es vs : List ℕ) → Decides (whole H rows (reached n es vs)) (Whole H rows n es vs)
  unfolding whole
  decides_whole n es vs =
      decides_map
      (decides_eq _ _ and decides_every (length H.edges) (λ e. decides_le 1 (occurs e es)) and decides_every H.nodes (λ v. decides_le 1 (occurs v vs)))
      (λ t. record { all_rows = t.0.0; all_edges = t.0.1; all_nodes = t.1 })
      (λ w. ((w.all_rows, w.all_edges), w.all_nodes))

  all_used : GraphOk G H → (n : ℕ) (es vs : List ℕ) → At G H rows G.start H.externals 0 [] H.externals n es vs → T (whole H rows (reached n es vs))
      → (t : Tree) × (rows ≡ rows_of t) × Generates G H t × (size t ≡ length rows)
  unfolding rows_of occurs
  all_used h n es vs a w =
      let t = (decides_whole n es vs).sound w in
      let inner : (v : ℕ) → occurs v vs ≡ occurs v H.externals + occurs v (inner_of G a.found) =
      λ v. ap (occurs v) a.nodes ∙ occurs_append v H.externals (inner_of G a.found) in (
        a.found,
        a.listed ∙ ap (λ (k : ℕ). tree_rows 0 a.found ++ drop k rows) t.all_rows ∙ ap (λ (l : List (List ℕ)). tree_rows 0 a.found ++ l) (drop-length rows) ∙ append-nil (tree_rows 0 a.found),
        record {
          fits = a.fits;
          apart = record {
            edges = λ e. omega (arith, ap (occurs e) a.edges, a.edges_once (λ v. omega arith) e);
            nodes = λ v. omega (arith, inner v, a.nodes_once h.side.externals.once v);
          };
          edges = λ e l. omega (arith, ap (occurs e) a.edges, t.all_edges e l);
          nodes = λ v l. omega (arith, inner v, t.all_nodes v l);
        },
        omega (arith, a.next, t.all_rows),
      )

  pub replay_sound : GrammarOk G → GraphOk G H → replays G H rows ≡ true → (t : Tree) × (rows ≡ rows_of t) × Generates G H t × (size t ≡ length rows)
  unfolding replays replayed whole
  replay_sound g h e = go (replayed G H rows) refl (of_and (count_test rows) (whole H rows (replayed G H rows)) (rw e tt)).1
    where
      go : (st : State) → replayed G H rows ≡ st → T (whole H rows st) → (t : Tree) × (rows ≡ rows_of t) × Generates G H t × (size t ≡ length rows)
      go failed q w = absurd w
      go (reached n es vs) q w = all_used h n es vs ((sound G H rows g (calls rows)).0 G.start H.externals 0 [] H.externals n es vs q) w
