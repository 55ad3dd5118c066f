-- What the rules make of items that show each open graph node of their edges does so too.
use mathlib.Core.Path.{◌≡◌, refl, sym, ap, ◌∙◌}
use mathlib.Core.Bool.{Bool, true, not, false≢true}
use mathlib.Core.List.{List}
use Prim.Native.Nat.{ℕ, suc, ◌<◌}
use native.Mathlib.Omega.{arith}
use lib.ListN.{length, take}
use lib.Seq.{get_or-take}
use lib.Dec.{ltb}
use borrow.Author.Tests.{lt-ltb, ltb-true}
use Rattle.std.specs.Prelude.{Some}
use Rattle.masks.specs.Masks.{◌∪◌}
use Rattle.hrg.specs.Counts.{occurs}
use Rattle.hrg.specs.Grammars.{Graph, Rule, touches, rule_of, right_of, edge_at}
use Rattle.hrg.specs.Trees.{unplaced, at, padded, images}
use Rattle.hrg.specs.Items.{below, is_boundary, is_open_at}
use Rattle.hrg.specs.ClosureRun.{combine}
use Rattle.hrg.proofs.Sums.{occurs_find}
use Rattle.hrg.proofs.Degrees.{and_true}
use Rattle.hrg.proofs.Plans.{below_root}
use Rattle.hrg.proofs.ReplacementToTrees.{at_images}
use Rattle.agenda.specs.declared.ChartItem.{ChartItem}
use Rattle.questions.specs.Layout.{rank_at, rule_count, rule_symbol, rule_nodes, rule_plan}
use Rattle.questions.specs.Checking.{check_grammar}
use Rattle.questions.specs.Abstract.{grammar_of, graph_of}
use Rattle.joins.specs.Joins.{Accepted, KnownNode, Holds, Makes}
use Rattle.joins.proofs.Known.{rule_ok, plan_size}
use Rattle.joins.proofs.Touching.{touches_some}
use Rattle.joins.proofs.Openness.{either_way, some_find}
use Rattle.joins.proofs.EdgeMaps.{rank_cap, at_padded}
use Rattle.joins.proofs.Showing.{made_shows}
use Rattle.rules.specs.Coverage.{Covering}
use Rattle.rules.specs.Rules.{Second}
use Rattle.rules.proofs.NodeLists.{externals_size}

-- ---- the maps of two items
pub first_holds : (g h : List ℕ) (x : ChartItem) → x.kind ≡ 0 → Covering g h x → Holds g h x.edges (rule_nodes g x.of) x.nodes
first_holds g h x is_active covering =
    record { each = λ v l p. let (i, inside, _, image) = (covering.shown v l p).active is_active in (i, inside, image) }

pub second_holds : (g h : List ℕ) (r q : ℕ) (y : ChartItem) (t : List ℕ) → Second g r q y (Some t) → Covering g h y
    → Holds g h y.edges (rule_nodes g r) t
second_holds g h r q y t second covering = record { each = λ v l p. second.held v (covering.shown v l p) }

-- ---- the item that they make
module _ (g h : List ℕ) (r q m₁ m₂ : ℕ) (f k t : List ℕ) (accepted : Accepted g h) (known : KnownNode g r q) where
  abbrev n : ℕ
  n = rule_nodes g r

  pub made_covering : Makes (combine (graph_of g h) (rule_of (grammar_of g) r) r q m₁ m₂ (take n f) (take n k)) r q (m₁ ∪ m₂) (Some t)
      → (count : ℕ) → Covering g h (record { kind = 0; of = r; plan = q; edges = m₁ ∪ m₂; count = count; nodes = t })
  made_covering makes count = record {
    shown = λ v l p. record {
      active = λ _. made_shows g h r q m₁ m₂ (m₁ ∪ m₂) (take n f) (take n k) t accepted known makes refl v l p;
      passive = λ none. absurd (none refl);
    };
  }

-- ---- the passive item of a root item
-- at the root every edge is below, so that an open rule node is external
root_external : (R : Rule) (p x : ℕ) → ((i : ℕ) → i < length R.production.right.edges → occurs i (below R.plan p) ≡ 1) → is_open_at R p x ≡ true → 0 < occurs x R.production.right.externals
unfolding is_open_at is_boundary
root_external R p x all o =
    either_way (ltb 0 (occurs x P.externals)) (touches (λ i. not (lies i)) P.edges x) (and_true (touches lies P.edges x) _ o).1
    (λ q. ltb-true 0 (occurs x P.externals) q)
    (λ q.
    let (i, l, off, _) = some_find (λ i. not (lies i)) (λ i. ltb 0 (occurs x (edge_at P.edges i).attachment)) (length P.edges) (sym (touches_some (λ i. not (lies i)) P.edges x) ∙ q) in
    absurd (false≢true (ap not (sym (lt-ltb 0 (occurs i (below R.plan p)) (omega (arith, all i l)))) ∙ off)))
  where
    P : Graph
    P = R.production.right

    lies : ℕ → Bool
    lies i = ltb 0 (occurs i (below R.plan p))

module _ (g h : List ℕ) (x : ChartItem) (checked : check_grammar g ≡ true) (known : x.of < rule_count g) (is_active : x.kind ≡ 0) (root : suc x.plan ≡ rule_plan g x.of) (covering : Covering g h x) where
  abbrev F : List ℕ
  F = take (rule_nodes g x.of) x.nodes

  abbrev ext : List ℕ
  ext = (right_of (grammar_of g) x.of).externals

  pub root_covering : (s : ℕ) (l : List ℕ) → s ≡ rule_symbol g x.of → l ≡ padded (images F ext)
      → (count : ℕ) → Covering g h (record { kind = 1; of = s; plan = 0; edges = x.edges; count = count; nodes = l })
  root_covering s l qs ql count = record {
    shown = λ v few p.
        let (i, inside, o, image) = (covering.shown v few p).active is_active in
        let ok = rule_ok g x.of checked known in
        let at_root = root_external (rule_of (grammar_of g) x.of) x.plan i (λ k d. below_root _ _ ok.plan x.plan k (root ∙ sym (plan_size g x.of checked known)) d) o in
        let (k, d, e) = occurs_find i ext at_root in
        let rank = externals_size g x.of checked known in
        record {
          active = λ z. absurd (omega (arith, z));
          passive = λ _. (
            k,
            omega (arith, d, rank, ap (rank_at g) qs),
            ap (λ (l : List ℕ). at l k) ql
                ∙ at_padded (images F ext) k (omega (arith, d, rank, rank_cap g (rule_symbol g x.of)))
                ∙ at_images F ext k d
                ∙ ap (λ j. at F j) e
                ∙ get_or-take (rule_nodes g x.of) x.nodes i unplaced inside
                ∙ image,
          );
        };
  }
