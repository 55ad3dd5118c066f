-- The record of the goal, and the search for it.
use Rattle.std.specs.Prelude.{Option}
use mathlib.Core.Path.{◌≡◌, refl, sym, ap, ◌∙◌}
use mathlib.Core.List.{List}
use mathlib.Core.Bool.{Bool, true, false}
use Prim.Native.Nat.{ℕ, zero, suc, ◌≤◌, ◌<◌, min}
use native.Mathlib.Omega.{arith}
use lib.ListN.{length}
use Rattle.masks.specs.Masks.{full}
use Rattle.hrg.specs.Trees.{at, padded}
use Rattle.hrg.specs.Items.{Item, goal}
use Rattle.hrg.specs.Grammars.{Grammar, Graph}
use Rattle.hrg.specs.WellFormed.{GrammarOk}
use Rattle.hrg.specs.ClosureRun.{same_item}
use Rattle.hrg.proofs.Sums.{occurs_at, length_tabulate, at_tabulate}
use Rattle.hrg.proofs.ClosureRun.{same_eq, same_refl}
use Rattle.agenda.specs.Records.{chart_item, item_of, same_chart_item}
use Rattle.agenda.specs.Consequences.{record_in}
use Rattle.agenda.specs.Steps.{with_count, last_same}
use Rattle.agenda.specs.declared.ChartItem.{ChartItem}
use Rattle.agenda.specs.declared.Record.{Record}
use Rattle.agenda.proofs.Records.{Fitting, item_of_lem, to_test, bare_item_of, same_bare, bare_same}
use Rattle.questions.specs.Layout.{rank_at, start_symbol, graph_edges, graph_external}
use Rattle.questions.specs.Abstract.{grammar_of, graph_of}
use Rattle.questions.proofs.WellFormedLists.{length_build}
use Rattle.questions.proofs.WellFormedLent.{checked_grammar_ok, checked_graph_ok}
use Rattle.joins.specs.Joins.{Accepted}
use Rattle.joins.proofs.Known.{graph_ok, graph_nodes_lem, graph_nodes_few}
use Rattle.joins.proofs.MapLaws.{Placed, placed_all}
use Rattle.records.specs.Numbers.{number_in}
use Rattle.records.specs.Words.{item_count, records_at, chart_of}
use Rattle.records.proofs.WordLaws.{length_records, record_in_lem}
use Rattle.records.proofs.Written.{eight_nodes}
use Rattle.validity.specs.Checking.{known_record, known_chart}
use Rattle.validity.proofs.ExistingTest.{T_test}
use Rattle.validity.proofs.Images.{image_formed}
use Rattle.validity.proofs.KnownCharts.{known_each}
use Rattle.writing.specs.Writing.{last_of, goal_in}

module _ (g h : List ℕ) where
  pub external_few : (k x : ℕ) → Accepted g h → k < rank_at g (start_symbol g) → x ≡ graph_external h k → x < 64
  unfolding graph_of
  external_few k x a l e =
      let externals = (graph_of g h).externals in
      let rank = rank_at g (start_symbol g) in
      let there : at externals k ≡ graph_external h k = at_tabulate rank (λ k. graph_external h k) k l in
      let found = rw there at (occurs_at externals k (omega (arith, length_tabulate rank (λ k. graph_external h k)))) in
      omega (arith, graph_nodes_lem g h, graph_nodes_few g h a, (graph_ok g h a).side.externals.inside (graph_external h k) found)

  pub externals_all : (k : ℕ) (l : List ℕ) → k ≤ rank_at g (start_symbol g) → rank_at g (start_symbol g) ≤ k → Placed (λ k. graph_external h k) k l → l ≡ padded (graph_of g h).externals
  unfolding graph_of
  externals_all k l a b p = placed_all (λ k. graph_external h k) (rank_at g (start_symbol g)) k l a b p

  pub goal_is : (nodes : List ℕ) (s m : ℕ) → nodes ≡ padded (graph_of g h).externals → s ≡ start_symbol g → m ≡ full (length (graph_of g h).edges)
      → record { kind = 1; of = s; plan = 0; edges = m; count = 0; nodes = nodes } ≡ chart_item (goal (grammar_of g) (graph_of g h)) 0
  unfolding grammar_of
  goal_is nodes s m p q r = rw (p, q, r) refl

  pub edges_number : length (graph_of g h).edges ≡ graph_edges h
  unfolding graph_of
  edges_number = length_build (graph_edges h) _

  -- a symbol's number fits its field
  pub start_few : (s : ℕ) → Accepted g h → s ≡ start_symbol g → s < 64
  unfolding grammar_of
  start_few s a e =
      let ok = checked_grammar_ok g a.grammar in
      omega (arith, ok.start_known, ok.symbol_count_is.upper)

  -- an accepted graph has at most 64 edges
  pub goal_edges : (n m : ℕ) → Accepted g h → n ≡ graph_edges h → m ≡ full (min n 64) → m ≡ full (length (graph_of g h).edges)
  goal_edges n m a p q =
      let ok = checked_graph_ok g h a.grammar a.graph in
      let same : min n 64 ≡ length (graph_of g h).edges = omega (arith, p, edges_number, ok.side.edge_count.upper) in
      q ∙ ap full same

-- ---- the search
same_tests : (a b : Bool) → (a ≡ true → b ≡ true) → (b ≡ true → a ≡ true) → a ≡ b
same_tests true b f g = sym (f refl)
same_tests false true f g = g refl
same_tests false false f g = refl

module _ (G : Grammar) (H : Graph) (ok : GrammarOk G) (i : Item) (fits : Fitting G i) where
  -- a known record is of the item exactly where it has the item's kind, rule or symbol, plan node, edges and places
  image_test : (n : ℕ) (x : Record) → length x.item.nodes ≡ 8 → known_record G H n x ≡ true → same_chart_item (chart_item i 0) x.item ≡ same_item (item_of G x.item) i
  unfolding item_of
  image_test n x size known = same_tests (same_chart_item (chart_item i 0) x.item) (same_item (item_of G x.item) i) there back
    where
      there : same_chart_item (chart_item i 0) x.item ≡ true → same_item (item_of G x.item) i ≡ true
      there e =
          let bare : with_count (chart_item i 0) 0 ≡ with_count x.item 0 = same_bare (chart_item i 0) x.item e in
          let item : item_of G x.item ≡ i = sym (ap (λ (z : ChartItem). item_of G z) bare) ∙ item_of_lem G i 0 fits in
          ap (λ (j : Item). same_item j i) item ∙ T_test _ (same_refl i)

      back : same_item (item_of G x.item) i ≡ true → same_chart_item (chart_item i 0) x.item ≡ true
      back e =
          let item : item_of G x.item ≡ i = same_eq _ _ (to_test e) in
          let formed : x.item ≡ chart_item i x.item.count = image_formed G H ok n x size known ∙ ap (λ (j : Item). chart_item j x.item.count) item in
          bare_same (chart_item i 0) x.item (bare_item_of i 0 ∙ sym (ap (λ (z : ChartItem). with_count z 0) formed ∙ bare_item_of i x.item.count))

  pub last_image : (rs : List Record) (m n : ℕ) → ((k : ℕ) → k < n → (length (record_in rs k).item.nodes ≡ 8) × (known_record G H m (record_in rs k) ≡ true))
      → last_same (chart_item i 0) rs n ≡ last_of G i rs n
  unfolding last_same last_of
  last_image rs m zero f = refl
  last_image rs m (suc n) f =
      rw (image_test m (record_in rs n) (f n (omega arith)).0 (f n (omega arith)).1, last_image rs m n (λ k l. f k (omega arith)))

module _ (g h : List ℕ) (a : Accepted g h) where
  goal_fits : Fitting (grammar_of g) (goal (grammar_of g) (graph_of g h))
  goal_fits =
      let ok = checked_grammar_ok g a.grammar in
      let good = checked_graph_ok g h a.grammar a.graph in
      (good.side.externals.ranked, omega (arith, (ok.symbol (grammar_of g).start ok.start_known).upper))

  pub found_goal : (w : List ℕ) (n : ℕ) (x : ChartItem) (f : Option ℕ) → known_chart (grammar_of g) (graph_of g h) w ≡ true → n ≡ item_count w
      → x ≡ chart_item (goal (grammar_of g) (graph_of g h)) 0 → f ≡ last_same x (records_at w n) n → f ≡ goal_in (grammar_of g) (graph_of g h) (chart_of w).records
  unfolding goal_in chart_of
  found_goal w n x f known p q e =
      let rs = records_at w (item_count w) in
      let G = grammar_of g in
      let i = goal G (graph_of g h) in
      e
      ∙ ap (λ (k : ℕ). last_same x (records_at w k) k) p
      ∙ ap (λ (y : ChartItem). last_same y rs (item_count w)) q
      ∙ last_image G (graph_of g h) (checked_grammar_ok g a.grammar) i goal_fits rs (number_in w) (item_count w)
      (λ k l. (
        ap (λ (y : Record). length y.item.nodes) (record_in_lem w (item_count w) k l) ∙ eight_nodes w k,
        ap (λ (y : Record). known_record G (graph_of g h) (number_in w) y) (record_in_lem w (item_count w) k l) ∙ known_each G (graph_of g h) w known k l,
      ))
      ∙ ap (λ (k : ℕ). last_of G i rs k) (sym (length_records w (item_count w)))
