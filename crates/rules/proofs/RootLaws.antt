-- The root rule on an accepted grammar table: the passive item that it makes, and of which items it makes nothing.
use mathlib.Core.Path.{◌≡◌, refl, sym, ap, ◌∙◌}
use mathlib.Core.Bool.{true, false}
use mathlib.Core.List.{List, [], ◌∷◌, map}
use Prim.Native.Nat.{ℕ, suc, ◌%◌, ◌≤◌, ◌<◌}
use native.Mathlib.Omega.{arith}
use lib.ListN.{length, take, get_or-eq_default}
use lib.Dec.{eqb}
use borrow.Author.Tests.{eq-eqb, ne_eqb}
use Rattle.std.specs.Prelude.{Some, None}
use Rattle.hrg.specs.Grammars.{Rule, Grammar, no_rule, cost, rule_of, lhs_of, right_of, plan_of}
use Rattle.hrg.specs.Trees.{padded, images}
use Rattle.hrg.specs.Items.{Item, active, passive}
use Rattle.hrg.specs.ClosureRun.{root_at}
use Rattle.hrg.specs.AgendaRun.{Conclusion}
use Rattle.agenda.specs.Records.{chart_item, record_of, item_of, plus}
use Rattle.agenda.specs.Consequences.{at_root}
use Rattle.agenda.specs.declared.ChartItem.{ChartItem}
use Rattle.agenda.specs.declared.Record.{Record}
use Rattle.agenda.proofs.Records.{item_active, item_passive}
use Rattle.questions.specs.Layout.{word_field, line_field, rule_count, rule_symbol, rule_nodes, rule_plan}
use Rattle.questions.specs.Checking.{check_grammar}
use Rattle.questions.specs.Abstract.{rule_from, grammar_of}
use Rattle.questions.proofs.WellFormedAccepted.{rules_length, rule_is}
use Rattle.joins.proofs.Known.{plan_size, right_nodes}
use Rattle.rules.specs.declared.plans.Parent.{Parent}
use Rattle.rules.specs.Plans.{ParentAt}
use Rattle.rules.specs.Rules.{root_items, GivesRoot, made_of}
use Rattle.rules.proofs.Parents.{child_lower}
use Rattle.rules.proofs.Covering.{root_covering}

-- ---- the symbol of a rule, a field of a line, is a byte
pub symbol_byte : (g : List ℕ) (r s : ℕ) → s ≡ rule_symbol g r → s < 256
unfolding line_field word_field
symbol_byte g r s e = omega arith

-- ---- over any grammar
inner_none : (G : Grammar) (r p m n : ℕ) (f : List ℕ) → eqb (suc p) (length (plan_of G r)) ≡ false → root_items G (active r p m f) n ≡ []
unfolding root_items root_at
inner_none G r p m n f h = rw h

root_item : (G : Grammar) (r p m n : ℕ) (f : List ℕ) → eqb (suc p) (length (plan_of G r)) ≡ true
    → root_items G (active r p m f) n ≡ chart_item (passive (lhs_of G r) m (images f (right_of G r).externals)) (plus n 1) ∷ []
unfolding root_items root_at cost
root_item G r p m n f h = rw h

passive_none : (G : Grammar) (s m n : ℕ) (L : List ℕ) → root_items G (passive s m L) n ≡ []
unfolding root_items
passive_none G s m n L = refl

-- ---- over an accepted table
module _ (g : List ℕ) (x : ChartItem) where
  abbrev G : Grammar
  G = grammar_of g

  abbrev made : List ChartItem
  made = root_items G (item_of G x) x.count

  abbrev f : List ℕ
  f = take (right_of G x.of).nodes x.nodes

  gives_none : made ≡ [] → GivesRoot g x None
  gives_none e = record { none = e; one = tt; covering = λ h c. tt }

  as_active : x.kind ≡ 0 → made ≡ root_items G (active x.of x.plan x.edges f) x.count
  as_active e = ap (λ (i : Item). root_items G i x.count) (item_active G x e)

  pub root_passive : (x.kind ≡ 0 → ⊥) → GivesRoot g x None
  root_passive h = gives_none (ap (λ (i : Item). root_items G i x.count) (item_passive G x h) ∙ passive_none G x.of x.edges x.count _)

  pub root_unknown : (n : ℕ) → x.kind ≡ 0 → n ≡ rule_count g → n ≤ x.of → GivesRoot g x None
  root_unknown n e q h =
      let none : rule_of G x.of ≡ no_rule = get_or-eq_default G.rules no_rule (omega (arith, rules_length g)) in
      let test = ap (λ (R : Rule). eqb (suc x.plan) (length R.plan)) none ∙ ne_eqb (suc x.plan) 0 (λ z. omega arith) in
      gives_none (as_active e ∙ inner_none G x.of x.plan x.edges x.count f test)

  module _ (e : x.kind ≡ 0) (checked : check_grammar g ≡ true) (known : x.of < rule_count g) (n : ℕ) (size : n ≡ rule_plan g x.of) where
    not_root : (suc x.plan ≡ n → ⊥) → made ≡ []
    not_root h =
        as_active e
        ∙ inner_none G x.of x.plan x.edges x.count f
        (ne_eqb (suc x.plan) (length (plan_of G x.of)) (λ q. h (q ∙ plan_size g x.of checked known ∙ sym size)))

    pub root_inner : (suc x.plan ≡ n → ⊥) → GivesRoot g x None
    root_inner h = gives_none (not_root h)

    -- the item that the function makes
    abbrev passive_item : ℕ → ℕ → List ℕ → ChartItem
    passive_item s c l = record { kind = 1; of = s; plan = 0; edges = x.edges; count = c; nodes = l }

    lhs_is : lhs_of G x.of ≡ rule_symbol g x.of
    unfolding rule_from
    lhs_is = ap (λ (R : Rule). R.production.lhs) (rule_is g x.of known)

    pub root_made : (s c : ℕ) (l : List ℕ) → suc x.plan ≡ n → s ≡ rule_symbol g x.of → c ≡ plus x.count 1
        → l ≡ padded (images (take (rule_nodes g x.of) x.nodes) (right_of G x.of).externals) → GivesRoot g x (Some (passive_item s c l))
    root_made s c l h qs qc ql = record {
      none = tt;
      one =
          as_active e
          ∙ root_item G x.of x.plan x.edges x.count f (eq-eqb (suc x.plan) (length (plan_of G x.of)) (h ∙ size ∙ sym (plan_size g x.of checked known)))
          ∙ ap (λ (y : ChartItem). y ∷ []) (sym is);
      covering = λ w covers. root_covering g w x checked known e (h ∙ size) covers s l qs ql c;
    }
      where
        nodes : l ≡ padded (images f (right_of G x.of).externals)
        nodes = ql ∙ ap (λ k. padded (images (take k x.nodes) (right_of G x.of).externals)) (sym (right_nodes g x.of checked known))

        is : passive_item s c l ≡ chart_item (passive (lhs_of G x.of) x.edges (images f (right_of G x.of).externals)) (plus x.count 1)
        is = λ i. passive_item ((qs ∙ sym lhs_is) i) (qc i) (nodes i)

-- ---- what callers read off an answer: the records that the rule makes
pub root_records : (G : Grammar) (i : Item) (n j : ℕ) → at_root G i n j ≡ map (λ (x : ChartItem). made_of x j 0) (root_items G i n)
unfolding at_root root_items
root_records G (active r p m f) n j = fresh (root_at (rule_of G r) p m f)
  where
    fresh : (l : List (Conclusion Item))
        → map (λ (c : Conclusion Item). record_of c.item (plus n c.constant) j 0) l
        ≡ map (λ (x : ChartItem). made_of x j 0) (map (λ (c : Conclusion Item). chart_item c.item (plus n c.constant)) l)
    fresh [] = refl
    fresh (c ∷ l) = ap (λ (rs : List Record). record_of c.item (plus n c.constant) j 0 ∷ rs) (fresh l)
root_records G (passive s m L) n j = refl

module _ (g : List ℕ) (x : ChartItem) (j : ℕ) where
  abbrev made_records : List Record
  made_records = at_root (grammar_of g) (item_of (grammar_of g) x) x.count j

  records_of_is : (l : List ChartItem) → root_items (grammar_of g) (item_of (grammar_of g) x) x.count ≡ l → made_records ≡ map (λ (y : ChartItem). made_of y j 0) l
  records_of_is l e = root_records (grammar_of g) (item_of (grammar_of g) x) x.count j ∙ ap (map (λ (y : ChartItem). made_of y j 0)) e

  pub root_none : GivesRoot g x None → made_records ≡ []
  root_none answer = records_of_is [] answer.none

  pub root_one : (y : ChartItem) → GivesRoot g x (Some y) → made_records ≡ made_of y j 0 ∷ []
  root_one y answer = records_of_is (y ∷ []) answer.one

  -- a plan node that is a child is below its parent, so it is not the root, which is the last one
  pub root_child : x.kind ≡ 0 → check_grammar g ≡ true → (up : Parent) → ParentAt g x.of x.plan up → up.word % 32 < 16 → made_records ≡ []
  root_child e checked up is l =
      let known = (is.above l).known in
      let lower = child_lower g x.of x.plan checked known.rule (up.word % 32) known.node (is.join l).child in
      records_of_is [] (not_root g x e checked known.rule (rule_plan g x.of) refl (λ q. omega (arith, lower, known.node)))
