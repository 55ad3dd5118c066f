-- The tree that the partners of a passive record spell makes its item true with the record's count; for the goal it
-- generates the graph.
use mathlib.Core.Path.{◌≡◌, refl, sym, ◌∙◌, subst}
use mathlib.Core.Bool.{Bool, true, false, cond}
use mathlib.Core.List.{List}
use Prim.Native.Nat.{ℕ, ◌+◌, ◌≤◌, ◌<◌}
use native.Mathlib.Omega.{arith}
use lib.ListN.{length, take}
use lib.Dec.{eqb}
use Rattle.hrg.specs.Grammars.{Graph, Grammar, rank_of, right_of}
use Rattle.hrg.specs.Trees.{Tree, applications, Generates}
use Rattle.hrg.specs.Items.{Item, active, passive, LeafRule, leaf_rule, UnaryRule, terminal_rule, root_rule, BinaryRule, nonterminal_rule, join_rule, goal}
use Rattle.hrg.specs.Truth.{PassiveTruth}
use Rattle.hrg.specs.WellFormed.{GrammarOk, GraphOk}
use Rattle.hrg.specs.Agenda.{Derivation}
use Rattle.hrg.proofs.Goals.{truth_tree}
use Rattle.preorder.specs.Rows.{size}
use Rattle.preorder.proofs.Rows.{size_applications}
use Rattle.agenda.specs.Records.{item_of}
use Rattle.agenda.specs.Consequences.{record_in}
use Rattle.agenda.specs.Steps.{Chart, start_chart, runs_chart}
use Rattle.agenda.specs.declared.Record.{Record}
use Rattle.agenda.proofs.Consequences.{TerminalRule, terminal_with}
use Rattle.agenda.proofs.Spelling.{HandledAt, Spells, spelt_leaf, spelt_root, spelt_edge, spelt_pair}
use Rattle.agenda.proofs.RunFacts.{records_spell}
use Rattle.extraction.specs.Extraction.{spelt, tree_at}
use Rattle.extraction.proofs.SpelledParts.{SpellsTree}
use Rattle.extraction.proofs.SpelledItems.{ActiveSpelt, PassiveSpelt, leaf_spelt, terminal_spelt, nonterminal_spelt, join_spelt, root_spelt}

-- What a record has of its item: the rule of an active one, the listed nodes of a passive one.
abbrev HasItem : Grammar → Record → Item → Type 0
HasItem G x (active r p m f) = x.item.of ≡ r
HasItem G x (passive s m L) = take (rank_of G s) x.item.nodes ≡ L

has_item : (G : Grammar) (x : Record) → HasItem G x (item_of G x.item)
unfolding item_of
has_item G x = go (eqb x.item.kind 0)
  where
    go : (b : Bool) → HasItem G x (cond b (active x.item.of x.item.plan x.item.edges (take (right_of G x.item.of).nodes x.item.nodes)) (passive x.item.of x.item.edges (take (rank_of G x.item.of) x.item.nodes)))
    go true = refl
    go false = refl

module _ (G : Grammar) (H : Graph) (ok : GrammarOk G) (hok : GraphOk G H) (look : ℕ → Record) where
  -- The record at j spells item i with n applications.
  abbrev SpeltAt : ℕ → ℕ → Item → Type 0
  SpeltAt j n (active r p m f) = ActiveSpelt look G H j r p m f n
  SpeltAt j n (passive s m L) = PassiveSpelt look G H j s m L n

  -- ---- the rules, over any items
  by_leaf : {i : Item} (j : ℕ) → LeafRule G i → HasItem G (look j) i → SpeltAt j 0 i
  by_leaf j (leaf_rule r p l b q) o = leaf_spelt G H ok hok look j r p o l b q

  by_root_is : {a i : Item} {k : ℕ} (j n s m : ℕ) (L : List ℕ) → UnaryRule G H a k i → i ≡ passive s m L → HasItem G (look j) i → SpeltAt (look j).first n a → SpeltAt j (n + k) i
  by_root_is j n s m L (terminal_rule r p c i g m₁ m' f h b q e J) w o t = let z : ◌≡◌ {A = ℕ} 0 1 = cc in absurd (omega arith)
  by_root_is j n s m L (root_rule r p m' f q) w o t = root_spelt G H ok hok look j r p m' n f q t o

  by_terminal : {a i : Item} (j n : ℕ) → TerminalRule G H (look j).second a i → HasItem G (look j) i → SpeltAt (look j).first n a → SpeltAt j (n + 0) i
  by_terminal j n (terminal_with r p c i m₁ m f h b q e J) o t = terminal_spelt G H ok hok look j r p c i m₁ m n f h o b q e J t

  by_pair : {a b i : Item} (j n k : ℕ) → BinaryRule G H a b i → HasItem G (look j) i → SpeltAt (look j).first n a → SpeltAt (look j).second k b → SpeltAt j (n + k) i
  by_pair j n k (nonterminal_rule r p c i m₁ m₂ m f L h b q J) o t u = nonterminal_spelt G H ok hok look j r p c i m₁ m₂ m n k f L h o b q J t u
  by_pair j n k (join_rule r p a c m₁ m₂ m f g h b q J) o t u = join_spelt G H ok hok look j r p a c m₁ m₂ m n k f g h o b q J t u

  module _ (rs : List Record) (same : (j : ℕ) → j < length rs → look j ≡ record_in rs j) where
    -- ---- the records, by what they spell
    held : {x : Record} (j : ℕ) → look j ≡ x → HasItem G (look j) (item_of G x.item)
    held {x} j e = subst (λ (z : Record). HasItem G z (item_of G x.item)) (sym e) (has_item G x)

    found : {a : ℕ} {y : Record} → HandledAt rs a y → look a ≡ y
    found {a} h = same a h.known ∙ h.is

    record_spelt : {x : Record} {d : Derivation Item} (j : ℕ) → look j ≡ x → Spells G H rs x d → SpeltAt j x.item.count (item_of G x.item)
    record_spelt j e (spelt_leaf {x = x} l c) = subst (λ (n : ℕ). SpeltAt j n (item_of G x.item)) (sym c) (by_leaf j l (held j e))
    record_spelt j e (spelt_root {x = x} {y = y} {s = s} {m = m} {L = L} h w u c d) =
        subst (λ (n : ℕ). SpeltAt j n (item_of G x.item)) (sym c)
        (by_root_is j y.item.count s m L u w (held j e) (subst (λ (z : Record). SpeltAt z.first y.item.count (item_of G y.item)) (sym e) (record_spelt x.first (found h) d)))
    record_spelt j e (spelt_edge {x = x} {y = y} h l t c d) =
        subst (λ (n : ℕ). SpeltAt j n (item_of G x.item)) (let z : y.item.count + 0 ≡ x.item.count = omega (arith, c) in z)
        (by_terminal j y.item.count (subst (λ (z : Record). TerminalRule G H z.second (item_of G y.item) (item_of G x.item)) (sym e) t) (held j e)
        (subst (λ (z : Record). SpeltAt z.first y.item.count (item_of G y.item)) (sym e) (record_spelt x.first (found h) d)))
    record_spelt j e (spelt_pair {x = x} {y = y} {z = z} h i b c d f) =
        subst (λ (n : ℕ). SpeltAt j n (item_of G x.item)) (sym c)
        (by_pair j y.item.count z.item.count b (held j e) (subst (λ (w : Record). SpeltAt w.first y.item.count (item_of G y.item)) (sym e) (record_spelt x.first (found h) d))
        (subst (λ (w : Record). SpeltAt w.second z.item.count (item_of G z.item)) (sym e) (record_spelt x.second (found i) f)))

    module _ (j : ℕ) (l : j < length rs) (d : Derivation Item) (w : Spells G H rs (record_in rs j) d) where
      -- a passive record that spells a derivation: its tree makes its item true, with its count
      pub spelled_tree : (s m : ℕ) (L : List ℕ) → item_of G (record_in rs j).item ≡ passive s m L → (t : PassiveTruth G H s m L (record_in rs j).item.count) × SpellsTree look G H j t.tree
      spelled_tree s m L e =
          let p = subst (λ (i : Item). SpeltAt j (record_in rs j).item.count i) e (record_spelt j (same j l) w) in
          (p.truth, p.spells)

      -- for the goal its tree generates the graph, and has as many applications as the record's count
      pub goal_tree : item_of G (record_in rs j).item ≡ goal G H
          → (t : Tree) × Generates G H t × (applications G t ≡ (record_in rs j).item.count) × (size t ≡ (record_in rs j).item.count) × ((k : ℕ) → size t ≤ k → tree_at look G H k j ≡ spelt t)
      goal_tree e =
          let p = spelled_tree _ _ _ e in
          (p.0.tree, truth_tree G H ok hok (record_in rs j).item.count p.0, p.0.count, sym (size_applications G p.0.tree) ∙ p.0.count, p.1)

-- On a chart after a start and any list of runs, while it is not found too small, so of every passive record and of
-- the goal.
module _ (G : Grammar) (H : Graph) (ok : GrammarOk G) (hok : GraphOk G H) (cap : ℕ) (most : cap ≤ 4096) (ks : List ℕ) (c : Chart) (is : c ≡ runs_chart G H cap ks (start_chart G cap))
    (fits : c.mark ≡ 0) (look : ℕ → Record) (same : (j : ℕ) → j < length c.records → look j ≡ record_in c.records j) (j : ℕ) (known : j < length c.records) where
  pub chart_tree : (s m : ℕ) (L : List ℕ) → item_of G (record_in c.records j).item ≡ passive s m L
      → (t : PassiveTruth G H s m L (record_in c.records j).item.count) × SpellsTree look G H j t.tree
  chart_tree =
      let w = records_spell G H ok hok cap most ks c is fits j known in
      spelled_tree G H ok hok look c.records same j known w.how w.spells

  pub chart_goal_tree : item_of G (record_in c.records j).item ≡ goal G H
      → (t : Tree) × Generates G H t × (applications G t ≡ (record_in c.records j).item.count) × (size t ≡ (record_in c.records j).item.count) × ((k : ℕ) → size t ≤ k → tree_at look G H k j ≡ spelt t)
  chart_goal_tree =
      let w = records_spell G H ok hok cap most ks c is fits j known in
      goal_tree G H ok hok look c.records same j known w.how w.spells
