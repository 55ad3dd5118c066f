-- Records and the items that they stand for: each tells the other, for items of the closure.
use mathlib.Core.Path.{◌≡◌, refl, sym, ap, ◌∙◌, subst}
use mathlib.Core.Logic.{◌↔◌}
use mathlib.Core.Bool.{Bool, true, ◌&&◌}
use mathlib.Core.List.{List, [], ◌∷◌}
use Prim.Native.Nat.{ℕ, zero, suc, ◌≤◌, ◌<◌}
use native.Mathlib.Omega.{arith}
use lib.ListN.{length, get_or, take, length-map}
use lib.Dec.{T, eqb, eqb→eq}
use borrow.Author.Tests.{eq-eqb, ne_eqb}
use Rattle.hrg.specs.Counts.{tabulate}
use Rattle.hrg.specs.Grammars.{Graph, Grammar, rank_of, right_of, rule_of}
use Rattle.hrg.specs.Trees.{unplaced, at, padded}
use Rattle.hrg.specs.Deduction.{Reachable, by_axiom, by_unary, by_binary}
use Rattle.hrg.specs.Items.{Item, active, passive, restrict, Joins, LeafRule, leaf_rule, UnaryRule, terminal_rule, root_rule, BinaryRule, nonterminal_rule, join_rule, closure}
use Rattle.hrg.specs.WellFormed.{GrammarOk}
use Rattle.hrg.proofs.ClosureRun.{of_and, list_eq, list_same}
use Rattle.agenda.specs.Records.{chart_item, record_of, item_of, same_chart_item}
use Rattle.agenda.specs.Steps.{with_count}
use Rattle.agenda.specs.declared.ChartItem.{ChartItem}
use Rattle.agenda.specs.declared.Record.{Record}

-- ---- lengths
-- An item's map is as long as its rule has nodes, its list as its symbol's rank: at most eight.
abbrev pub Fitting : Grammar → Item → Type 0
Fitting G (active r p m f) = (r < length G.rules) × (length f ≡ (right_of G r).nodes) × ((right_of G r).nodes ≤ 8)
Fitting G (passive s m L) = (length L ≡ rank_of G s) × (rank_of G s ≤ 8)

length_tabulate : (n : ℕ) (f : ℕ → ℕ) → length (tabulate n f) ≡ n
unfolding tabulate
length_tabulate zero f = refl
length_tabulate (suc n) f = ap suc (length_tabulate n (λ i. f (suc i)))

module _ (G : Grammar) (H : Graph) (ok : GrammarOk G) where
  nodes_le : (r : ℕ) → r < length G.rules → (right_of G r).nodes ≤ 8
  nodes_le r l = (ok.rule r l).right.node_count.upper

  joins_fit : {r p m₁ m₂ m : ℕ} {f g h : List ℕ} → Joins H (rule_of G r) p m₁ m₂ f g m h → r < length G.rules → Fitting G (active r p m h)
  unfolding restrict
  joins_fit {r} j l = (l, ap length j.map ∙ length_tabulate (right_of G r).nodes _, nodes_le r l)

  leaf_fits : {i : Item} → LeafRule G i → Fitting G i
  leaf_fits (leaf_rule r p l _ _) = (l, length_tabulate (right_of G r).nodes _, nodes_le r l)

  unary_fits : {a i : Item} {k : ℕ} → UnaryRule G H a k i → Fitting G a → Fitting G i
  unary_fits (terminal_rule r p c i g m₁ m f h _ _ _ j) a = joins_fit j a.0
  unary_fits (root_rule r p m f _) a =
      let o = ok.rule r a.0 in
      (length-map (right_of G r).externals (λ (x : ℕ). at f x) ∙ o.right.externals.ranked, omega (arith, (ok.symbol _ o.lhs_known).upper))

  binary_fits : {a b i : Item} → BinaryRule G H a b i → Fitting G a → Fitting G b → Fitting G i
  binary_fits (nonterminal_rule r p c i m₁ m₂ m f L h _ _ j) a b = joins_fit j a.0
  binary_fits (join_rule r p c d m₁ m₂ m f g h _ _ j) a b = joins_fit j a.0

  pub reached_fits : {i : Item} {n : ℕ} → Reachable (closure G H) i n → Fitting G i
  reached_fits (by_axiom x) = leaf_fits x
  reached_fits (by_unary r u) = unary_fits u (reached_fits r)
  reached_fits (by_binary q r b) = binary_fits b (reached_fits q) (reached_fits r)

-- ---- the item of a record
pub padded_take : (n : ℕ) (l : List ℕ) (f : ℕ → ℕ) → length l ≤ n → ((k : ℕ) → f k ≡ get_or l k unplaced) → take (length l) (tabulate n f) ≡ l
unfolding tabulate
padded_take n [] f h e = refl
padded_take zero (x ∷ xs) f h e = absurd (omega arith)
padded_take (suc n) (x ∷ xs) f h e =
    let head = e 0 in
    let tail = padded_take n xs (λ k. f (suc k)) (omega arith) (λ k. e (suc k)) in
    cc

-- an item by its kind
pub item_active : (G : Grammar) (x : ChartItem) → x.kind ≡ 0 → item_of G x ≡ active x.of x.plan x.edges (take (right_of G x.of).nodes x.nodes)
unfolding item_of
item_active G x e = rw (eq-eqb x.kind 0 e) refl

pub item_passive : (G : Grammar) (x : ChartItem) → (x.kind ≡ 0 → ⊥) → item_of G x ≡ passive x.of x.edges (take (rank_of G x.of) x.nodes)
unfolding item_of
item_passive G x h = rw (ne_eqb x.kind 0 h) refl

pub item_of_lem : (G : Grammar) (i : Item) (n : ℕ) → Fitting G i → item_of G (chart_item i n) ≡ i
unfolding item_of padded
item_of_lem G (active r p m f) n w = rw (sym w.1) (ap (active r p m) (padded_take 8 f _ (omega (arith, w.1, w.2)) (λ k. refl)))
item_of_lem G (passive s m L) n w = rw (sym w.0) (ap (passive s m) (padded_take 8 L _ (omega (arith, w.0, w.1)) (λ k. refl)))

-- ---- what tells records apart
-- a record's item without its count
abbrev pub bare : Record → ChartItem
bare x = with_count x.item 0

-- A record is the one of its item.
abbrev pub Formed : Grammar → Record → Type 0
Formed G x = bare x ≡ chart_item (item_of G x.item) 0

pub bare_item_of : (i : Item) (n : ℕ) → with_count (chart_item i n) 0 ≡ chart_item i 0
bare_item_of (active r p m f) n = refl
bare_item_of (passive s m L) n = refl

pub item_count_lem : (i : Item) (n : ℕ) → (chart_item i n).count ≡ n
item_count_lem (active r p m f) n = refl
item_count_lem (passive s m L) n = refl

pub item_eight : (i : Item) (n : ℕ) → length (chart_item i n).nodes ≡ 8
unfolding padded
item_eight (active r p m f) n = length_tabulate 8 (λ k. at f k)
item_eight (passive s m L) n = length_tabulate 8 (λ k. at L k)

pub record_formed : (G : Grammar) (i : Item) (n a b : ℕ) → Fitting G i → Formed G (record_of i n a b)
record_formed G i n a b w = bare_item_of i n ∙ sym (ap (λ (j : Item). chart_item j 0) (item_of_lem G i n w))

bare_item_is : (G : Grammar) (x : Record) → item_of G (bare x) ≡ item_of G x.item
unfolding item_of
bare_item_is G x = refl

pub bare_item : (G : Grammar) (x y : Record) → bare x ≡ bare y → item_of G x.item ≡ item_of G y.item
bare_item G x y e = sym (bare_item_is G x) ∙ ap (λ (z : ChartItem). item_of G z) e ∙ bare_item_is G y

pub item_bare : (G : Grammar) (x y : Record) → Formed G x → Formed G y → item_of G x.item ≡ item_of G y.item → bare x ≡ bare y
item_bare G x y f g e = f ∙ ap (λ (i : Item). chart_item i 0) e ∙ sym g

pub to_test : {b : Bool} → b ≡ true → T b
to_test e = rw e tt

pub same_bare : (x y : ChartItem) → same_chart_item x y ≡ true → with_count x 0 ≡ with_count y 0
unfolding same_chart_item
same_bare x y h =
    let t = of_and (eqb x.edges y.edges && eqb x.kind y.kind && eqb x.of y.of && eqb x.plan y.plan) _ (to_test h) in
    let u = of_and (eqb x.edges y.edges && eqb x.kind y.kind && eqb x.of y.of) _ t.0 in
    let v = of_and (eqb x.edges y.edges && eqb x.kind y.kind) _ u.0 in
    let w = of_and (eqb x.edges y.edges) _ v.0 in
    let edges = eqb→eq x.edges y.edges w.0 in
    let kind = eqb→eq x.kind y.kind w.1 in
    let rule = eqb→eq x.of y.of v.1 in
    let plan = eqb→eq x.plan y.plan u.1 in
    let nodes = list_eq x.nodes y.nodes t.1 in
    cc

pub eqb_same : (n : ℕ) → eqb n n ≡ true
eqb_same n = eq-eqb n n refl

same_itself : (x : ChartItem) → same_chart_item x x ≡ true
unfolding same_chart_item
same_itself x = simp (eqb_same, list_same)

pub bare_same : (x y : ChartItem) → with_count x 0 ≡ with_count y 0 → same_chart_item x y ≡ true
unfolding same_chart_item
bare_same x y e = subst (λ (z : ChartItem). same_chart_item (with_count x 0) z ≡ true) e (same_itself x)

-- two that were made for items of the closure are found the same exactly where these are equal
pub same_item_lem : (G : Grammar) (i j : Item) (n k : ℕ) → Fitting G i → Fitting G j → (same_chart_item (chart_item i n) (chart_item j k) ≡ true) ↔ (i ≡ j)
unfolding item_of
same_item_lem G i j n k v w = (
  λ e.
      sym (item_of_lem G i n v) ∙ ap (λ (z : ChartItem). item_of G z) (same_bare (chart_item i n) (chart_item j k) e) ∙ item_of_lem G j k w,
  λ e. bare_same (chart_item i n) (chart_item j k) (bare_item_of i n ∙ ap (λ (z : Item). chart_item z 0) e ∙ sym (bare_item_of j k)),
)
