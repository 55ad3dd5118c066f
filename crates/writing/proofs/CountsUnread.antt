-- The writer reads no count: charts that differ in counts alone get the same answer and the same bytes.
use Rattle.std.specs.Prelude.{Option, Some, None, Err}
use mathlib.Core.Path.{◌≡◌, refl, sym, ap, ap₂, ◌∙◌, fun_ext}
use mathlib.Core.Bool.{Bool, true, false, ◌&&◌, cond}
use mathlib.Core.List.{List, [], ◌∷◌, ◌++◌}
use Prim.Native.Nat.{ℕ, zero, suc, ◌+◌, ◌-◌, ◌<◌}
use native.Mathlib.Omega.{arith}
use lib.ListN.{length, get_or, set, replicate}
use lib.Dec.{eqb, leb}
use Rattle.hrg.specs.Counts.{flag}
use Rattle.hrg.specs.Grammars.{Kind, terminal, nonterminal, Graph, PlanNode, leaf, introduce, join, Grammar, kind_of, right_of, plan_of, plan_node, edge_at}
use Rattle.hrg.specs.WellFormedTest.{every}
use Rattle.hrg.specs.Items.{Item, goal}
use Rattle.hrg.specs.ClosureRun.{same_item}
use Rattle.agenda.specs.Records.{item_of, is_handled}
use Rattle.agenda.specs.Consequences.{record_in}
use Rattle.agenda.specs.Steps.{least_waiting, handled_count}
use Rattle.agenda.specs.declared.Record.{Record}
use Rattle.agenda.proofs.Choice.{Chosen, waits, nothing, chosen}
use Rattle.questions.specs.Abstract.{grammar_of, graph_of}
use Rattle.joins.proofs.MapLaws.{every_same}
use Rattle.records.specs.Numbers.{number_in}
use Rattle.records.specs.Words.{capacity, item_count, record_at, records_at, chart_of}
use Rattle.records.proofs.WordLaws.{length_records, record_in_lem, same_capacity as capacity_by}
use Rattle.validity.specs.Checking.{known_record, known_chart}
use Rattle.validity.proofs.AnyNumber.{counted, count_free}
use Rattle.charting.specs.Calls.{fit_chart, when_waiting, answer_of, standing_of, Outcome}
use Rattle.charting.specs.declared.Unready.TheVariants.{TooSmall}
use Rattle.charting.proofs.Calls.{fit_same}
use Rattle.extraction.specs.Extraction.{partners_via, partners_within, rule_at, partners_at, nodes_by, part_nodes, placed_by, place_at, Spelt, parts_by, applied, tree_at}
use Rattle.writing.specs.Writing.{Wrote, write_spelt, last_of, goal_in, write_goal, write_by, write_of}

-- a record without its count
abbrev pub uncounted : Record → Record
uncounted x = counted x 0 x.handled

-- ---- the tree that partners spell
module _ (look : ℕ → Record) (G : Grammar) (H : Graph) where
  abbrev bare : ℕ → Record
  bare j = uncounted (look j)

  partners_bare : (pl : List PlanNode) (k p j : ℕ) (bs : List ℕ) → partners_within look pl k p j bs ≡ partners_within bare pl k p j bs
  unfolding partners_within
  partners_bare pl zero p j bs = refl
  partners_bare pl (suc k) p j bs = go (partners_bare pl k) (plan_node pl p)
    where
      go : ((c i : ℕ) (cs : List ℕ) → partners_within look pl k c i cs ≡ partners_within bare pl k c i cs) → (n : PlanNode)
          → partners_via (λ c i cs. partners_within look pl k c i cs) (look j) bs n ≡ partners_via (λ c i cs. partners_within bare pl k c i cs) (bare j) bs n
      go ih leaf = refl
      go ih (introduce c i) = ih c (look j).first (set bs i (look j).second)
      go ih (join a b) =
          ap (λ (cs : List ℕ). partners_within look pl k b (look j).second cs) (ih a (look j).first bs)
          ∙ ih b (look j).second (partners_within bare pl k a (look j).first bs)

  partners_at_bare : (j : ℕ) → partners_at look G j ≡ partners_at bare G j
  unfolding partners_at
  partners_at_bare j = let pl = plan_of G (rule_at look j) in partners_bare pl (length pl) (length pl - 1) (look j).first (replicate 8 0)

  nodes_bare : (k : Kind) (b : ℕ) → nodes_by look H k b ≡ nodes_by bare H k b
  nodes_bare terminal b = refl
  nodes_bare nonterminal b = refl

  placed_bare : (P : Graph) (bs : List ℕ) (k : ℕ) → placed_by look G H P bs k ≡ placed_by bare G H P bs k
  unfolding placed_by part_nodes
  placed_bare P bs zero = refl
  placed_bare P bs (suc k) = rw (placed_bare P bs k, nodes_bare (kind_of G (edge_at P.edges k).label) (get_or bs k 0))

  place_bare : (j : ℕ) → place_at look G H j ≡ place_at bare G H j
  unfolding place_at
  place_bare j =
      let P = right_of G (rule_at look j) in
      placed_bare P (partners_at look G j) (length P.edges) ∙ ap (λ (bs : List ℕ). placed_by bare G H P bs (length P.edges)) (partners_at_bare j)

  tree_bare : (d j : ℕ) → tree_at look G H d j ≡ tree_at bare G H d j
  unfolding tree_at
  tree_bare zero j = refl
  tree_bare (suc d) j =
      let es = (right_of G (rule_at look j)).edges in
      ap (λ (rec : ℕ → Spelt). applied (rule_at look j) (place_at look G H j) (parts_by rec G (partners_at look G j) es 0)) (fun_ext (tree_bare d))
      ∙ ap₂ (λ (place bs : List ℕ). applied (rule_at look j) place (parts_by (λ b. tree_at bare G H d b) G bs es 0)) (place_bare j) (partners_at_bare j)

-- ---- what waits, and the goal
handled_append : (rs ss : List Record) → handled_count (rs ++ ss) ≡ handled_count rs + handled_count ss
unfolding handled_count
handled_append [] ss = omega arith
handled_append (x ∷ rs) ss = omega (arith, handled_append rs ss)

waiting_same : (k : ℕ) (rs ss : List Record) (n : ℕ) → ((j : ℕ) → j < n → is_handled (record_in rs j) ≡ is_handled (record_in ss j)) → when_waiting k (least_waiting rs n) ≡ when_waiting k (least_waiting ss n)
waiting_same k rs ss n same = go (least_waiting rs n) (chosen rs n) (least_waiting ss n) (chosen ss n)
  where
    apart : true ≡ false → ⊥
    apart z = let y : ◌≡◌ {A = ℕ} 0 1 = cc in omega (arith, y)

    go : (f : Option ℕ) → Chosen rs n f → (e : Option ℕ) → Chosen ss n e → when_waiting k f ≡ when_waiting k e
    go None (nothing all) None (nothing every) = refl
    go (Some i) (waits l w m) (Some j) (waits l₁ w₁ m₁) = refl
    go None (nothing all) (Some j) (waits l w m) = absurd (apart (sym (all j l) ∙ same j l ∙ w))
    go (Some i) (waits l w m) None (nothing every) = absurd (apart (sym (every i l) ∙ sym (same i l) ∙ w))

last_same_lem : (G : Grammar) (i : Item) (rs ss : List Record) (n : ℕ)
    → ((j : ℕ) → j < n → same_item (item_of G (record_in rs j).item) i ≡ same_item (item_of G (record_in ss j).item) i) → last_of G i rs n ≡ last_of G i ss n
unfolding last_of
last_same_lem G i rs ss zero same = refl
last_same_lem G i rs ss (suc n) same = rw (same n (omega arith), last_same_lem G i rs ss n (λ j l. same j (omega arith))) refl

-- ---- charts that differ in counts alone
pub record SameButCounts (w v : List ℕ) : Type 0 where
  pub long : length w ≡ length v
  pub items : number_in w ≡ number_in v
  pub mark : get_or w 1 0 ≡ get_or v 1 0
  pub records : (j : ℕ) → uncounted (record_at w j) ≡ uncounted (record_at v j)

module _ (w v : List ℕ) (s : SameButCounts w v) where
  same_capacity : capacity w ≡ capacity v
  same_capacity = capacity_by w v s.long

  same_count : item_count w ≡ item_count v
  unfolding item_count
  same_count = rw (s.items, same_capacity) refl

  same_flag : (j : ℕ) → is_handled (record_at w j) ≡ is_handled (record_at v j)
  same_flag j = ap (λ (x : Record). is_handled x) (s.records j)

  same_handled : (n : ℕ) → handled_count (records_at w n) ≡ handled_count (records_at v n)
  unfolding records_at handled_count
  same_handled zero = refl
  same_handled (suc n) =
      handled_append (records_at w n) (record_at w n ∷ []) ∙ ap₂ (λ (a : ℕ) (b : Bool). a + (flag b + 0)) (same_handled n) (same_flag n)
      ∙ sym (handled_append (records_at v n) (record_at v n ∷ []))

  -- a test of records that does not look at counts
  by_place : (t : Record → Bool) → ((x : Record) → t x ≡ t (uncounted x)) → (n j : ℕ) → j < n → t (record_in (records_at w n) j) ≡ t (record_in (records_at v n) j)
  by_place t free n j l =
      ap t (record_in_lem w n j l) ∙ free (record_at w j) ∙ ap t (s.records j) ∙ sym (free (record_at v j)) ∙ sym (ap t (record_in_lem v n j l))

  same_answer : answer_of (chart_of w) ≡ answer_of (chart_of v)
  unfolding answer_of chart_of
  same_answer =
      let n = item_count v in
      rw (s.mark, same_count, length_records w n, length_records v n, same_handled n)
      (ap (λ (o : Outcome). cond (eqb (get_or v 1 0) 0) o (Err TooSmall)) (waiting_same (handled_count (records_at v n)) (records_at w n) (records_at v n) n (by_place (λ x. is_handled x) (λ x. refl) n)))

  module _ (g h : List ℕ) where
    same_known : known_chart (grammar_of g) (graph_of g h) w ≡ known_chart (grammar_of g) (graph_of g h) v
    unfolding known_chart
    same_known =
        let G = grammar_of g in
        let H = graph_of g h in
        let n = number_in v in
        rw (s.items, same_capacity)
        (ap (λ (b : Bool). leb n (capacity v) && b)
        (every_same n (λ j. known_record G H n (record_at w j)) (λ j. known_record G H n (record_at v j))
        (λ j l. sym (count_free G H n (record_at w j) 0 (record_at w j).handled) ∙ ap (known_record G H n) (s.records j) ∙ count_free G H n (record_at v j) 0 (record_at v j).handled)))

    same_standing : standing_of g h w ≡ standing_of g h v
    unfolding standing_of fit_chart
    same_standing = rw (fit_same g h w v same_capacity, same_known, same_answer) refl

    same_goal : goal_in (grammar_of g) (graph_of g h) (chart_of w).records ≡ goal_in (grammar_of g) (graph_of g h) (chart_of v).records
    unfolding goal_in chart_of item_of
    same_goal =
        let n = item_count v in
        let G = grammar_of g in
        let i = goal G (graph_of g h) in
        rw (same_count, length_records w n, length_records v n)
        (last_same_lem G i (records_at w n) (records_at v n) n (by_place (λ y. same_item (item_of G y.item) i) (λ y. refl) n))

    same_tree : (j : ℕ) → tree_at (λ k. record_at w k) (grammar_of g) (graph_of g h) 4096 j ≡ tree_at (λ k. record_at v k) (grammar_of g) (graph_of g h) 4096 j
    same_tree j =
        tree_bare (λ k. record_at w k) (grammar_of g) (graph_of g h) 4096 j
        ∙ ap (λ (look : ℕ → Record). tree_at look (grammar_of g) (graph_of g h) 4096 j) (fun_ext s.records)
        ∙ sym (tree_bare (λ k. record_at v k) (grammar_of g) (graph_of g h) 4096 j)

    -- 'a finished chart with altered counts and intact partners still gives its derivation'
    pub counts_unread : (out : List ℕ) → write_of g h w out ≡ write_of g h v out
    unfolding write_of
    counts_unread out =
        let G = grammar_of g in
        let H = graph_of g h in
        ap₂ (λ (o : Outcome) (x : Wrote). write_by o out x) same_standing
        (go (goal_in G H (chart_of w).records) ∙ ap (write_goal G H (λ j. record_at v j) out) same_goal)
      where
        go : (f : Option ℕ) → write_goal (grammar_of g) (graph_of g h) (λ j. record_at w j) out f ≡ write_goal (grammar_of g) (graph_of g h) (λ j. record_at v j) out f
        go None = refl
        go (Some j) = ap (write_spelt (grammar_of g) (graph_of g h) out) (same_tree j)
