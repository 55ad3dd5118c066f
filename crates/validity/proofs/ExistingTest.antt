-- Question 8's tests decide what it asks: a chart passes exactly where each of its records is the image of an item
-- that names what exists, with no more items than it holds.
use mathlib.Core.Path.{◌≡◌, refl, sym, ◌∙◌}
use mathlib.Core.Logic.{◌⊎◌, inl, inr}
use mathlib.Core.Bool.{Bool, true, false, not, cond, false≢true}
use mathlib.Core.List.{List}
use Prim.Native.Nat.{ℕ, suc, ◌≤◌, ◌<◌}
use native.Mathlib.Omega.{arith}
use lib.ListN.{length}
use lib.Dec.{T, eqb}
use borrow.Author.Tests.{ltb-true, lt-ltb, eqb-true, eq-eqb, ne_eqb}
use Rattle.masks.specs.Masks.{bit, member, full}
use Rattle.masks.proofs.Laws.{bit_le, member_true, member_false, true_member, member_full, within_holds, holds_within}
use Rattle.hrg.specs.Grammars.{Kind, terminal, nonterminal, Graph, PlanNode, leaf, introduce, join, Grammar, kind_of, right_of, plan_of, plan_node, edge_at}
use Rattle.hrg.specs.Trees.{unplaced, at}
use Rattle.hrg.specs.ClosureRun.{is_terminal}
use Rattle.hrg.specs.WellFormedTest.{Decides}
use Rattle.hrg.proofs.Degrees.{test_T}
use Rattle.hrg.proofs.WellFormedTest.{decides_map, ◌and◌, decides_le, decides_eq, decides_every}
use Rattle.agenda.specs.declared.Record.{Record}
use Rattle.records.specs.Numbers.{number_in}
use Rattle.records.specs.Words.{capacity, record_at}
use Rattle.validity.specs.Checking.{known_edges, known_place, known_places, in_graph, known_second, known_partners, known_active, known_passive, known_record, known_chart}
use Rattle.validity.specs.Existing.{open_place, listed_place, NoneElse, ImageOfItem, active_image, passive_image, ExistingParts, ExistingPartners, no_partner, edge_partner, item_partner, join_partners, ExistingRecord, an_active, a_passive, ExistingChart}

-- ---- edges and places
edges_decides : (n m : ℕ) → Decides (known_edges n m) ((e : ℕ) → member m e ≡ true → e < n)
unfolding known_edges
edges_decides n m =
    record {
      sound = λ t e h.
          ltb-true e n (sym (member_full n e) ∙ true_member (full n) e (omega (arith, (within_holds m (full n) t).each e, member_true m e h, bit_le (full n) e)));
      complete = λ f. holds_within m (full n) (record { each = λ e. go e (member m e) refl f });
    }
  where
    go : (e : ℕ) (b : Bool) → member m e ≡ b → ((e : ℕ) → member m e ≡ true → e < n) → bit m e ≤ bit (full n) e
    go e true q f = omega (arith, bit_le m e, member_true (full n) e (member_full n e ∙ lt-ltb e n (f e q)))
    go e false q f = omega (arith, member_false m e q)

place_decides : (n : ℕ) (used : Bool) (v : ℕ) → Decides (known_place n used v) ((used ≡ false → v ≡ unplaced) × (used ≡ true → v < n))
unfolding known_place
place_decides n true v = decides_map (decides_le (suc v) n) (λ l. (λ e. absurd (false≢true (sym e)), λ e. l)) (λ r. r.1 refl)
place_decides n false v = decides_map (decides_eq v unplaced) (λ q. (λ e. q, λ e. absurd (false≢true e))) (λ r. r.0 refl)

places_decides : (n : ℕ) (used : ℕ → Bool) (ns : List ℕ) → Decides (known_places n used ns) (NoneElse used ns × ((k : ℕ) → k < 8 → used k ≡ true → at ns k < n))
unfolding known_places
places_decides n used ns =
    decides_map (decides_every 8 (λ k. place_decides n (used k) (at ns k))) (λ t. (record { none = λ k l. (t k l).0 }, λ k l. (t k l).1)) (λ r k l. (r.0.none k l, r.1 k l))

parts_decides : (H : Graph) (used : ℕ → Bool) (x : Record) → Decides (in_graph H.nodes (length H.edges) used x) (NoneElse used x.item.nodes × ExistingParts H used x)
unfolding in_graph
parts_decides H used x =
    decides_map (edges_decides (length H.edges) x.item.edges and places_decides H.nodes used x.item.nodes)
    (λ t. (t.1.0, record { edge = t.0; node = t.1.1 })) (λ r. (r.1.edge, (r.0, r.1.node)))

-- ---- partners
module _ (G : Grammar) (H : Graph) (n : ℕ) (x : Record) where
  decides_kinds : {a b : Bool} {P Q : Type 0} (k : Kind) → Decides a P → Decides b Q → Decides (cond (is_terminal k) a b) (((k ≡ terminal) × P) ⊎ ((k ≡ nonterminal) × Q))
  decides_kinds {a} {b} {P} {Q} terminal c d = record { sound = λ t. inl (refl, c.sound t); complete = λ s. go s }
    where
      go : ((terminal ≡ terminal) × P) ⊎ ((terminal ≡ nonterminal) × Q) → T a
      go (inl p) = c.complete p.1
      go (inr p) = let e = p.0 in let z : ◌≡◌ {A = ℕ} 0 1 = cc in absurd (omega arith)
  decides_kinds {a} {b} {P} {Q} nonterminal c d = record { sound = λ t. inr (refl, d.sound t); complete = λ s. go s }
    where
      go : ((nonterminal ≡ terminal) × P) ⊎ ((nonterminal ≡ nonterminal) × Q) → T b
      go (inl p) = let e = p.0 in let z : ◌≡◌ {A = ℕ} 0 1 = cc in absurd (omega arith)
      go (inr p) = d.complete p.1

  -- the kind of edge i's label, and what the second partner is by it
  abbrev label_kind : ℕ → Kind
  label_kind i = kind_of G (edge_at (right_of G x.item.of).edges i).label

  abbrev Second : Kind → Type 0
  Second k = ((k ≡ terminal) × (x.second < length H.edges)) ⊎ ((k ≡ nonterminal) × (x.second < n))

  -- a leaf item has no partners, and both fields are 0
  abbrev Unused : PlanNode → Type 0
  Unused p = p ≡ leaf → (x.first ≡ 0) × (x.second ≡ 0)

  unused_introduce : (c i : ℕ) → Unused (introduce c i)
  unused_introduce c i e = let z : ◌≡◌ {A = ℕ} 0 1 = cc in absurd (omega arith)

  unused_join : (a b : ℕ) → Unused (join a b)
  unused_join a b e = let z : ◌≡◌ {A = ℕ} 0 1 = cc in absurd (omega arith)

  partners_decides : (p : PlanNode) → Decides (known_partners G H n x p) (Unused p × ExistingPartners G H n x p)
  unfolding known_partners known_second
  partners_decides leaf = decides_map (decides_eq x.first 0 and decides_eq x.second 0) (λ t. (λ e. t, no_partner)) (λ r. r.0 refl)
  partners_decides (introduce c i) =
      decides_map
      (decides_le (suc x.first) n and decides_kinds (label_kind i) (decides_le (suc x.second) (length H.edges)) (decides_le (suc x.second) n))
      (λ t. (unused_introduce c i, there t.0 t.1)) (λ r. back r.1)
    where
      there : x.first < n → Second (label_kind i) → ExistingPartners G H n x (introduce c i)
      there l (inl p) = edge_partner l p.0 p.1
      there l (inr p) = item_partner l p.0 p.1

      back : ExistingPartners G H n x (introduce c i) → (x.first < n) × Second (label_kind i)
      back (edge_partner l k m) = (l, inl (k, m))
      back (item_partner l k m) = (l, inr (k, m))
  partners_decides (join a b) =
      decides_map (decides_le (suc x.first) n and decides_le (suc x.second) n) (λ t. (unused_join a b, join_partners t.0 t.1)) (λ r. back r.1)
    where
      back : ExistingPartners G H n x (join a b) → (x.first < n) × (x.second < n)
      back (join_partners l m) = (l, m)

  -- ---- records
  nonterminal_decides : (k : Kind) → Decides (not (is_terminal k)) (k ≡ nonterminal)
  nonterminal_decides terminal = record { sound = λ t. absurd t; complete = λ e. let z : ◌≡◌ {A = ℕ} 0 1 = cc in absurd (omega arith) }
  nonterminal_decides nonterminal = record { sound = λ t. refl; complete = λ e. tt }

  abbrev own : PlanNode
  own = plan_node (plan_of G x.item.of) x.item.plan

  -- both clauses of an active item and of a passive one
  pub record ActiveFacts : Type 0 where
    pub rule : x.item.of < length G.rules
    pub plan : x.item.plan < length (plan_of G x.item.of)
    pub none : NoneElse (open_place G x.item) x.item.nodes
    pub parts : ExistingParts H (open_place G x.item) x
    pub unused : Unused own
    pub partners : ExistingPartners G H n x own

  pub record PassiveFacts : Type 0 where
    pub symbol : x.item.of < length G.symbols
    pub kind : kind_of G x.item.of ≡ nonterminal
    pub none : NoneElse (listed_place G x.item) x.item.nodes
    pub parts : ExistingParts H (listed_place G x.item) x
    pub first : x.first < n
    pub plan : x.item.plan ≡ 0
    pub second : x.second ≡ 0

  active_decides : Decides (known_active G H n x) ActiveFacts
  unfolding known_active
  active_decides =
      decides_map
      (decides_le (suc x.item.of) (length G.rules) and decides_le (suc x.item.plan) (length (plan_of G x.item.of)) and parts_decides H (open_place G x.item) x and partners_decides own)
      (λ t. record { rule = t.0.0.0; plan = t.0.0.1; none = t.0.1.0; parts = t.0.1.1; unused = t.1.0; partners = t.1.1 })
      (λ r. (((r.rule, r.plan), (r.none, r.parts)), (r.unused, r.partners)))

  passive_decides : Decides (known_passive G H n x) PassiveFacts
  unfolding known_passive
  passive_decides =
      decides_map
      (decides_le (suc x.item.of) (length G.symbols) and nonterminal_decides (kind_of G x.item.of) and parts_decides H (listed_place G x.item) x and decides_le (suc x.first) n
      and decides_eq x.item.plan 0 and decides_eq x.second 0)
      (λ t. record { symbol = t.0.0.0.0.0; kind = t.0.0.0.0.1; none = t.0.0.0.1.0; parts = t.0.0.0.1.1; first = t.0.0.1; plan = t.0.1; second = t.1 })
      (λ r. (((((r.symbol, r.kind), (r.none, r.parts)), r.first), r.plan), r.second))

  pub record_decides : Decides (known_record G H n x) (ImageOfItem G x × ExistingRecord G H n x)
  unfolding known_record
  record_decides = record { sound = go (eqb x.item.kind 0) (eqb x.item.kind 1) refl refl; complete = λ r. back r.0 r.1 }
    where
      go : (a b : Bool) → eqb x.item.kind 0 ≡ a → eqb x.item.kind 1 ≡ b → T (cond a (known_active G H n x) (cond b (known_passive G H n x) false))
          → ImageOfItem G x × ExistingRecord G H n x
      go true b p q t =
          let r = active_decides.sound t in
          let k = eqb-true x.item.kind 0 p in
          (active_image k r.none r.unused, an_active k r.rule r.plan r.parts r.partners)
      go false true p q t =
          let r = passive_decides.sound t in
          let k = eqb-true x.item.kind 1 q in
          (passive_image k r.none r.plan r.second, a_passive k r.symbol r.kind r.parts r.first)
      go false false p q t = absurd t

      back : ImageOfItem G x → ExistingRecord G H n x → T (cond (eqb x.item.kind 0) (known_active G H n x) (cond (eqb x.item.kind 1) (known_passive G H n x) false))
      back (active_image e a b) (an_active d r p s q) =
          rw (eq-eqb x.item.kind 0 e) (active_decides.complete (record { rule = r; plan = p; none = a; parts = s; unused = b; partners = q }))
      back (passive_image e a b c) (a_passive d r p s q) =
          rw (ne_eqb x.item.kind 0 (λ z. omega arith), eq-eqb x.item.kind 1 e)
          (passive_decides.complete (record { symbol = r; kind = p; none = a; parts = s; first = q; plan = b; second = c }))
      back (active_image e a b) (a_passive d r p s q) = absurd (omega arith)
      back (passive_image e a b c) (an_active d r p s q) = absurd (omega arith)

-- the same with an equation
pub T_test : (b : Bool) → T b → b ≡ true
T_test true t = refl
T_test false t = absurd t

module _ (G : Grammar) (H : Graph) (n : ℕ) (x : Record) where
  pub known_image : known_record G H n x ≡ true → ImageOfItem G x
  known_image e = ((record_decides G H n x).sound (test_T (known_record G H n x) e)).0

  pub known_existing : known_record G H n x ≡ true → ExistingRecord G H n x
  known_existing e = ((record_decides G H n x).sound (test_T (known_record G H n x) e)).1

  pub existing_known : ImageOfItem G x → ExistingRecord G H n x → known_record G H n x ≡ true
  existing_known i r = T_test (known_record G H n x) ((record_decides G H n x).complete (i, r))

-- ---- the chart
pub chart_decides : (G : Grammar) (H : Graph) (w : List ℕ) → Decides (known_chart G H w) (ExistingChart G H w)
unfolding known_chart
chart_decides G H w =
    decides_map (decides_le (number_in w) (capacity w) and decides_every (number_in w) (λ j. record_decides G H (number_in w) (record_at w j)))
    (λ t. record { number = t.0; image = λ j l. (t.1 j l).0; each = λ j l. (t.1 j l).1 }) (λ r. (r.number, λ j l. (r.image j l, r.each j l)))
