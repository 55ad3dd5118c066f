-- Question 8 never refuses the program's own charts: after a start and any list of runs every record is the image of
-- an item that names what exists.
use Rattle.std.specs.Prelude.{Option, Some, None}
use mathlib.Core.Path.{◌≡◌, refl, sym, ap, ◌∙◌, subst}
use mathlib.Core.Logic.{inl, inr}
use mathlib.Core.Bool.{Bool, true, false}
use mathlib.Core.List.{List, [], ◌∷◌, Memᴰ as In}
use Prim.Native.Nat.{ℕ, zero, suc, ◌≤◌, ◌<◌}
use native.Mathlib.Omega.{arith}
use lib.ListN.{length, set, length-set}
use lib.Dec.{eqb, ltb}
use borrow.Author.Tests.{eqb-true, eqb-false}
use Rattle.hrg.specs.Grammars.{Graph, PlanNode, leaf, introduce, join, Grammar, rank_of, rule_of, plan_of, plan_node}
use Rattle.hrg.specs.Items.{Item, active, passive, is_open_at, LeafRule, leaf_rule, BinaryRule, nonterminal_rule, join_rule}
use Rattle.hrg.specs.WellFormed.{GrammarOk, GraphOk}
use Rattle.agenda.specs.Records.{record_of, item_of}
use Rattle.agenda.specs.Consequences.{record_in, consequences, leaf_records}
use Rattle.agenda.specs.Steps.{Chart, added_all, least_waiting, handled_now, handled_at, step_with, step_chart, run_chart, start_chart, runs_chart}
use Rattle.agenda.specs.declared.Record.{Record}
use Rattle.agenda.proofs.Consequences.{TerminalRule, terminal_with, Consequence, from_root, from_edge, from_first, from_second, terminal_unary, in_consequence, in_leaf_record}
use Rattle.agenda.proofs.Adding.{cond_by, AddsAll, Ends, held, full, all_ends, marked_all}
use Rattle.agenda.proofs.Growth.{SetAt, changed, other, set_at, Fresh, From, all_grew, all_from}
use Rattle.agenda.proofs.Choice.{Chosen, waits, nothing, chosen}
use Rattle.records.specs.Words.{capacity, written}
use Rattle.records.proofs.Written.{Holds}
use Rattle.validity.specs.Checking.{known_record, known_chart}
use Rattle.validity.specs.Existing.{ImageOfItem, active_image, passive_image, ExistingPartners, no_partner, edge_partner, item_partner, join_partners, ExistingRecord, an_active, a_passive}
use Rattle.validity.proofs.ExistingTest.{known_image, known_existing, existing_known}
use Rattle.validity.proofs.AnyNumber.{count_free}
use Rattle.validity.proofs.KnownCharts.{AllKnown, written_known}
use Rattle.validity.proofs.KnownItems.{padded_none, item_parts, KnownItem, leaf_item_is, unary_item, binary_item, record_item}

-- ---- more items
module _ (G : Grammar) (H : Graph) (x : Record) {n m : ℕ} (more : n ≤ m) where
  partners_more : {p : PlanNode} → ExistingPartners G H n x p → ExistingPartners G H m x p
  partners_more no_partner = no_partner
  partners_more (edge_partner l k b) = edge_partner (omega arith) k b
  partners_more (item_partner l k b) = item_partner (omega arith) k (omega arith)
  partners_more (join_partners l b) = join_partners (omega arith) (omega arith)

  -- what exists among n items exists among more
  existing_more : ExistingRecord G H n x → ExistingRecord G H m x
  existing_more (an_active e r p s q) = an_active e r p s (partners_more q)
  existing_more (a_passive e r k s l) = a_passive e r k s (omega arith)

-- ---- a record of a known item with partners that exist
module _ (G : Grammar) (H : Graph) where
  -- both clauses of question 8
  abbrev pub Known : ℕ → Record → Type 0
  Known n x = ImageOfItem G x × ExistingRecord G H n x

  -- partners by a plan node: those that exist, and both fields 0 at a leaf
  abbrev Partners : ℕ → Record → PlanNode → Type 0
  Partners n x p = (p ≡ leaf → (x.first ≡ 0) × (x.second ≡ 0)) × ExistingPartners G H n x p

  active_existing : (n r p m : ℕ) (f : List ℕ) (c a b : ℕ) → KnownItem G H (active r p m f) → Partners n (record_of (active r p m f) c a b) (plan_node (plan_of G r) p)
      → Known n (record_of (active r p m f) c a b)
  active_existing n r p m f c a b w q =
      let x = record_of (active r p m f) c a b in
      let used : ℕ → Bool = is_open_at (rule_of G r) p in
      (active_image refl (padded_none H.nodes used f w.3) q.0, an_active refl w.0 w.1 (item_parts H used x f refl w.2 w.3) q.1)

  pub passive_existing : (n s m : ℕ) (L : List ℕ) (c a : ℕ) → KnownItem G H (passive s m L) → a < n → Known n (record_of (passive s m L) c a 0)
  passive_existing n s m L c a w l =
      let x = record_of (passive s m L) c a 0 in
      let used : ℕ → Bool = λ k. ltb k (rank_of G s) in
      (passive_image refl (padded_none H.nodes used L w.3) refl refl, a_passive refl w.0 w.1 (item_parts H used x L refl w.2 w.3) l)

  by_leaf : {n : ℕ} {x : Record} {p : PlanNode} → p ≡ leaf → x.first ≡ 0 → x.second ≡ 0 → Partners n x p
  by_leaf {n} {x} e a b = (λ q. (a, b), subst (ExistingPartners G H n x) (sym e) no_partner)

  by_introduce : {n c i : ℕ} {x : Record} {p : PlanNode} → p ≡ introduce c i → ExistingPartners G H n x (introduce c i) → Partners n x p
  by_introduce {n} {c} {i} {x} e q = (λ d. let z : ◌≡◌ {A = ℕ} 0 1 = cc in absurd (omega arith), subst (ExistingPartners G H n x) (sym e) q)

  by_join : {n a b : ℕ} {x : Record} {p : PlanNode} → p ≡ join a b → ExistingPartners G H n x (join a b) → Partners n x p
  by_join {n} {a} {b} {x} e q = (λ d. let z : ◌≡◌ {A = ℕ} 0 1 = cc in absurd (omega arith), subst (ExistingPartners G H n x) (sym e) q)

-- ---- a record handled
abbrev handled_in : List Record → ℕ → List Record
handled_in rs j = set rs j (handled_now (record_in rs j))

module _ (G : Grammar) (H : Graph) where
  pub handled_known : (rs : List Record) (j : ℕ) → j < length rs → AllKnown G H rs → AllKnown G H (handled_in rs j)
  handled_known rs j l all k h = go (set_at rs j (handled_now (record_in rs j)) k l)
    where
      size : length (handled_in rs j) ≡ length rs
      size = length-set rs j (handled_now (record_in rs j))

      old : (i : ℕ) → i < length rs → known_record G H (length (handled_in rs j)) (record_in rs i) ≡ true
      old i b = ap (λ n. known_record G H n (record_in rs i)) size ∙ all i b

      go : SetAt rs j (handled_now (record_in rs j)) k → known_record G H (length (handled_in rs j)) (record_in (handled_in rs j) k) ≡ true
      go (changed q p) = ap (known_record G H (length (handled_in rs j))) p ∙ count_free G H (length (handled_in rs j)) (record_in rs j) (record_in rs j).item.count 1 ∙ old j l
      go (other n p) = ap (known_record G H (length (handled_in rs j))) p ∙ old k (omega (arith, size))

module _ (G : Grammar) (H : Graph) (ok : GrammarOk G) (good : GraphOk G H) where
  pub leaf_existing : {i : Item} (n : ℕ) → LeafRule G i → Known G H n (record_of i 0 0 0)
  leaf_existing n (leaf_rule r p k l e) = active_existing G H n r p 0 _ 0 0 0 (leaf_item_is G H ok good (leaf_rule r p k l e)) (by_leaf G H e refl refl)

  pub terminal_existing : {g : ℕ} {a i : Item} (n c j : ℕ) → TerminalRule G H g a i → KnownItem G H a → j < n → Known G H n (record_of i c j g)
  terminal_existing {g} n c j (terminal_with r p k i m₁ m f h l e w v) a d =
      active_existing G H n r p m h c j g (unary_item G H ok good (terminal_unary G H (terminal_with r p k i m₁ m f h l e w v)) a) (by_introduce G H e (edge_partner d w.kind w.known))

  pub binary_existing : {a b i : Item} (n c j k : ℕ) → BinaryRule G H a b i → KnownItem G H a → KnownItem G H b → j < n → k < n → Known G H n (record_of i c j k)
  binary_existing n c j k (nonterminal_rule r p d i m₁ m₂ m f L h l e v) a b x y =
      active_existing G H n r p m h c j k (binary_item G H ok good (nonterminal_rule r p d i m₁ m₂ m f L h l e v) a b) (by_introduce G H e (item_partner x b.1 y))
  binary_existing n c j k (join_rule r p d q m₁ m₂ m f g h l e v) a b x y =
      active_existing G H n r p m h c j k (binary_item G H ok good (join_rule r p d q m₁ m₂ m f g h l e v) a b) (by_join G H e (join_partners x y))

  -- ---- the tests of these records
  -- the leaf items pass, whatever else is in the chart
  pub leaf_known : (n : ℕ) (x : Record) → In x (leaf_records G) → known_record G H n x ≡ true
  leaf_known n x m = let (i, l, e) = in_leaf_record G H x m in let k = leaf_existing n l in ap (known_record G H n) e ∙ existing_known G H n (record_of i 0 0 0) k.0 k.1

  -- what known records make is known
  module _ (rs : List Record) (all : AllKnown G H rs) (j : ℕ) (l : j < length rs) where
    item_at : (k : ℕ) → k < length rs → KnownItem G H (item_of G (record_in rs k).item)
    item_at k h =
        record_item G H ok good (length rs) (record_in rs k) (known_image G H (length rs) (record_in rs k) (all k h)) (known_existing G H (length rs) (record_in rs k) (all k h))

    made_existing : {i : Item} {c a b : ℕ} (m : ℕ) → length rs ≤ m → Consequence G H rs j i c a b → Known G H m (record_of i c a b)
    made_existing m h (from_root {s = s} {m = e} {L = L} u) = passive_existing G H m s e L _ j (unary_item G H ok good u (item_at j l)) (omega arith)
    made_existing m h (from_edge b t) = terminal_existing m _ j t (item_at j l) (omega arith)
    made_existing m h (from_first {k = k} b d t) = binary_existing m _ j k t (item_at j l) (item_at k b) (omega arith) (omega arith)
    made_existing m h (from_second {k = k} b d t) = binary_existing m _ k j t (item_at k b) (item_at j l) (omega arith) (omega arith)

    pub consequence_known : (m : ℕ) (x : Record) → length rs ≤ m → In x (consequences G H rs j) → known_record G H m x ≡ true
    consequence_known m x h i =
        let t = in_consequence G H rs j x i in
        let k = made_existing m h t.by in
        ap (known_record G H m) t.is ∙ existing_known G H m (record_of t.item t.count t.first t.second) k.0 k.1

    consequence_fresh : (x : Record) → In x (consequences G H rs j) → Fresh x
    consequence_fresh x i = let t = in_consequence G H rs j x i in ap (λ (y : Record). y.handled) t.is

  -- ---- records added
  module _ (cap : ℕ) where
    known_more : (x : Record) {n m : ℕ} → n ≤ m → known_record G H n x ≡ true → known_record G H m x ≡ true
    known_more x {n} {m} l e = existing_known G H m x (known_image G H n x e) (existing_more G H x l (known_existing G H n x e))

    all_known : {xs rs ts : List Record} → AddsAll cap xs rs ts → ((x : Record) → In x xs → Fresh x)
        → ((m : ℕ) (x : Record) → length rs ≤ m → In x xs → known_record G H m x ≡ true) → AllKnown G H rs → AllKnown G H ts
    all_known {xs} {rs} {ts} a f h all k l = go (all_from a f k l)
      where
        longer : length rs ≤ length ts
        longer = (all_grew a).longer

        go : From xs rs ts k → known_record G H (length ts) (record_in ts k) ≡ true
        go (inl o) = ap (known_record G H (length ts)) o.1 ∙ known_more (record_in rs k) longer (all k o.0)
        go (inr i) = h (length ts) (record_in ts k) longer i

    pub added_known : (xs : List Record) (c : Chart) → ((x : Record) → In x xs → Fresh x)
        → ((m : ℕ) (x : Record) → length c.records ≤ m → In x xs → known_record G H m x ≡ true) → AllKnown G H c.records → AllKnown G H (added_all cap xs c).records
    added_known xs c f h all = go (eqb c.mark 0) refl
      where
        ended : {d : Chart} → Ends cap xs c.records d → AllKnown G H d.records
        ended (held m a) = all_known a f h all
        ended (full m ys x sub i a n l) = all_known a (λ y k. f y (sub y k)) (λ q y e k. h q y e (sub y k)) all

        go : (b : Bool) → eqb c.mark 0 ≡ b → AllKnown G H (added_all cap xs c).records
        go true e = ended (all_ends cap xs c (eqb-true c.mark 0 e))
        go false e = subst (λ (d : Chart). AllKnown G H d.records) (sym (marked_all cap xs c (eqb-false c.mark 0 e))) all

    -- ---- a start, a step, and runs
    step_known : (c : Chart) → AllKnown G H c.records → AllKnown G H (step_chart G H cap c).records
    unfolding step_chart handled_at
    step_known c all = go (least_waiting c.records (length c.records)) (chosen c.records (length c.records))
      where
        go : (f : Option ℕ) → Chosen c.records (length c.records) f → AllKnown G H (step_with G H cap c f).records
        go None (nothing h) = all
        go (Some j) (waits l w m) =
            let rs = handled_in c.records j in
            let now = handled_known G H c.records j l all in
            let b : j < length rs = omega (arith, length-set c.records j (handled_now (record_in c.records j))) in
            added_known (consequences G H rs j) (record { mark = c.mark; records = rs }) (consequence_fresh rs now j b) (consequence_known rs now j b) now

    pub run_known : (k : ℕ) (c : Chart) → AllKnown G H c.records → AllKnown G H (run_chart G H cap k c).records
    unfolding run_chart
    run_known zero c all = all
    run_known (suc k) c all =
        let before = run_known k c all in
        let d = run_chart G H cap k c in
        cond_by (λ (e : Chart). AllKnown G H e.records) (eqb d.mark 0) {x = step_chart G H cap d} {y = d} (λ e. step_known d before) (λ e. before)

    runs_known : (ks : List ℕ) (c : Chart) → AllKnown G H c.records → AllKnown G H (runs_chart G H cap ks c).records
    unfolding runs_chart
    runs_known [] c all = all
    runs_known (k ∷ ks) c all = runs_known ks (run_chart G H cap k c) (run_known k c all)

    pub start_known : AllKnown G H (start_chart G cap).records
    unfolding start_chart
    start_known =
        added_known (leaf_records G) (record { mark = 0; records = [] }) fresh (λ m x h i. leaf_known m x i) (λ k l. absurd (omega arith))
      where
        fresh : (x : Record) → In x (leaf_records G) → Fresh x
        fresh x m = let (i, l, e) = in_leaf_record G H x m in ap (λ (y : Record). y.handled) e

    -- after a start and any list of runs, also where the chart was found too small
    pub own_known : (ks : List ℕ) → AllKnown G H (runs_chart G H cap ks (start_chart G cap)).records
    own_known ks = runs_known ks (start_chart G cap) start_known

  -- and so where it is written
  pub own_chart : (w ks : List ℕ) → Holds w (runs_chart G H (capacity w) ks (start_chart G (capacity w))) → known_chart G H (written w (runs_chart G H (capacity w) ks (start_chart G (capacity w)))) ≡ true
  own_chart w ks o = written_known G H w (runs_chart G H (capacity w) ks (start_chart G (capacity w))) o (own_known (capacity w) ks)
