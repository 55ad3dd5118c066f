-- The loops over leaf items: what is left to add gives the whole.
use Prim.Native.Nat.{ℕ, zero, suc, ◌<◌}
use mathlib.Core.Path.{◌≡◌, refl, sym, ap, ◌∙◌, subst}
use native.Mathlib.Omega.{arith}
use mathlib.Core.Bool.{Bool, true, false, cond}
use mathlib.Core.List.Memᴰ.{head as here}
use mathlib.Core.List.Memᴰ.{not-nil as in_nil}
use mathlib.Core.List.Memᴰ.{tail as there}
use mathlib.Core.List.{List, [], ◌∷◌, ◌++◌, map, map-append, Memᴰ as In}
use lib.Dec.{eqb}
use lib.ListN.{length, replicate, length-replicate}
use borrow.Author.Tests.{eq-eqb, ne_eqb}
use Rattle.hrg.specs.Counts.{tabulate}
use Rattle.hrg.specs.Grammars.{Grammar, PlanNode, leaf, introduce, join, plan_of, plan_node, right_of}
use Rattle.hrg.specs.Trees.{unplaced, at, padded}
use Rattle.hrg.specs.Items.{Item}
use Rattle.hrg.specs.WellFormed.{GrammarOk}
use Rattle.hrg.specs.ClosureRun.{each_to, leaf_at, leaves}
use Rattle.agenda.specs.declared.ChartItem.{ChartItem}
use Rattle.agenda.specs.declared.Record.{Record}
use Rattle.agenda.specs.Records.{new_record, record_of}
use Rattle.agenda.specs.Consequences.{leaf_records}
use Rattle.questions.specs.Layout.{rule_count, rule_plan, plan_kind, plan_first, plan_second}
use Rattle.questions.specs.Checking.{check_grammar}
use Rattle.questions.specs.Abstract.{plan_from, grammar_of}
use Rattle.questions.proofs.WellFormedAccepted.{rules_length}
use Rattle.joins.specs.Joins.{KnownNode}
use Rattle.joins.proofs.Known.{plan_size, plan_node_is}
use Rattle.joins.proofs.EdgeMaps.{is_padded, at_none}
use Rattle.records.specs.Words.{Fits, Compact, added_to, grown_by}
use Rattle.records.proofs.Packing.{compact_new, compact_active}
use Rattle.records.proofs.Grown.{Whole, whole_map, whole_each, grown_none, grown_one, grown_fits, grown_more}
use Rattle.steps.specs.Leaves.{leaf_item, leaf_record, rule_leaves}

-- ---- a loop from the last number on
-- what is left to add to the words v gives the whole
pub record Left (w : List ℕ) (n : ℕ) (f : ℕ → List Record) (v : List ℕ) (i : ℕ) : Type 0 where
  pub fits : Fits v
  pub whole : grown_by v (each_to i f) ≡ grown_by w (each_to n f)

module _ (w : List ℕ) (n : ℕ) (f : ℕ → List Record) where
  pub left_all_is : Fits w → (m : ℕ) → m ≡ n → Left w n f w m
  left_all_is o m q = record { fits = o; whole = ap (λ k. grown_by w (each_to k f)) q }

  pub left_next : (v u : List ℕ) (i k : ℕ) → i ≡ suc k → ((j : ℕ) → j < i → Whole (f j)) → Left w n f v i → u ≡ grown_by v (f k) → Left w n f u k
  left_next v u i k q e o p = record {
    fits = rw p (grown_fits v o.fits (f k) (e k (omega arith)));
    whole = ap (λ (t : List ℕ). grown_by t (each_to k f)) p ∙ grown_more v o.fits (f k) (e k (omega arith)) (each_to k f) (whole_each k f (λ j l. e j (omega arith))) ∙ ap (λ j. grown_by v (each_to j f)) (sym q) ∙ o.whole;
  }

  pub left_none : (v : List ℕ) (i : ℕ) → i ≡ 0 → Left w n f v i → v ≡ grown_by w (each_to n f)
  left_none v i q o = sym (grown_none v o.fits) ∙ ap (λ k. grown_by v (each_to k f)) (sym q) ∙ o.whole

-- ---- one plan node
at_unplaced : (n k : ℕ) → at (tabulate n (λ x. unplaced)) k ≡ unplaced
unfolding tabulate
at_unplaced zero k = refl
at_unplaced (suc n) zero = refl
at_unplaced (suc n) (suc k) = at_unplaced n k

-- the record of a leaf item can be read again from its words
module _ (G : Grammar) (ok : GrammarOk G) (r : ℕ) (known : r < length G.rules) where
  module _ (p : ℕ) (inside : p < length (plan_of G r)) where
    leaf_compact : (node : PlanNode) (i : Item) → In i (leaf_at G r p node) → Compact (record_of i 0 0 0)
    unfolding leaf_at
    leaf_compact leaf i (here q) =
        subst (λ (j : Item). Compact (record_of j 0 0 0)) (sym q)
        (compact_new (compact_active (tabulate (right_of G r).nodes (λ x. unplaced)) (λ k l. omega (arith, at_unplaced (right_of G r).nodes k)) 0 (omega (arith, ok.rule_count_is.upper)) (omega (arith, (ok.rule r known).plan.size.upper))) (omega arith) (omega arith))
    leaf_compact leaf i (there m) = absurd (in_nil m)
    leaf_compact (introduce c e) i m = absurd (in_nil m)
    leaf_compact (join a b) i m = absurd (in_nil m)

    pub leaf_whole : Whole (leaf_record G r p)
    unfolding leaf_record
    leaf_whole = whole_map (λ (i : Item). record_of i 0 0 0) (leaf_at G r p (plan_node (plan_of G r) p)) (leaf_compact (plan_node (plan_of G r) p))

  pub rule_whole : Whole (rule_leaves G r)
  unfolding rule_leaves
  rule_whole = whole_each (length (plan_of G r)) (λ p. leaf_record G r p) (λ p l. leaf_whole p l)

no_places : (n : ℕ) → replicate 8 unplaced ≡ padded (tabulate n (λ x. unplaced))
no_places n = is_padded (replicate 8 unplaced) (tabulate n (λ x. unplaced)) (length-replicate 8 unplaced) (λ x h. at_none 8 x ∙ sym (at_unplaced n x))

leaf_introduce : (G : Grammar) (r p c i : ℕ) → map (λ (i : Item). record_of i 0 0 0) (leaf_at G r p (introduce c i)) ≡ []
unfolding leaf_at
leaf_introduce G r p c i = refl

leaf_join : (G : Grammar) (r p a b : ℕ) → map (λ (i : Item). record_of i 0 0 0) (leaf_at G r p (join a b)) ≡ []
unfolding leaf_at
leaf_join G r p a b = refl

module _ (g : List ℕ) (r p kind : ℕ) (known : KnownNode g r p) (is : kind ≡ plan_kind g r p) where
  node_is : plan_node (plan_of (grammar_of g) r) p ≡ plan_from kind (plan_first g r p) (plan_second g r p)
  node_is = plan_node_is g r known.grammar known.rule p known.node ∙ ap (λ k. plan_from k (plan_first g r p) (plan_second g r p)) (sym is)

  made : leaf_record (grammar_of g) r p ≡ map (λ (i : Item). record_of i 0 0 0) (leaf_at (grammar_of g) r p (plan_from kind (plan_first g r p) (plan_second g r p)))
  unfolding leaf_record
  made = ap (λ (x : PlanNode). map (λ (i : Item). record_of i 0 0 0) (leaf_at (grammar_of g) r p x)) node_is

  leaf_one : kind ≡ 0 → new_record (leaf_item r p) 0 0 ∷ [] ≡ leaf_record (grammar_of g) r p
  unfolding leaf_at
  leaf_one z =
      let n = (right_of (grammar_of g) r).nodes in
      sym
      (made
      ∙ ap (λ (b : Bool). map (λ (i : Item). record_of i 0 0 0) (leaf_at (grammar_of g) r p (cond b leaf (cond (eqb kind 1) (introduce (plan_first g r p) (plan_second g r p)) (join (plan_first g r p) (plan_second g r p))))))
      (eq-eqb kind 0 z) ∙ ap (λ (l : List ℕ). new_record (record { kind = 0; of = r; plan = p; edges = 0; count = 0; nodes = l }) 0 0 ∷ []) (sym (no_places n)))

  leaf_none : (kind ≡ 0 → ⊥) → [] ≡ leaf_record (grammar_of g) r p
  leaf_none z = sym (made ∙ rw (ne_eqb kind 0 z) (arm (eqb kind 1)))
    where
      arm : (b : Bool)
          → map (λ (i : Item). record_of i 0 0 0) (leaf_at (grammar_of g) r p (cond b (introduce (plan_first g r p) (plan_second g r p)) (join (plan_first g r p) (plan_second g r p)))) ≡ []
      arm true = leaf_introduce (grammar_of g) r p (plan_first g r p) (plan_second g r p)
      arm false = leaf_join (grammar_of g) r p (plan_first g r p) (plan_second g r p)

  -- what the function does
  pub leaf_added : (w v : List ℕ) (y : ChartItem) (x : Record) → Fits w → kind ≡ 0 → y ≡ leaf_item r p → (x ≡ new_record y 0 0) × Compact x → v ≡ added_to w x
      → v ≡ grown_by w (leaf_record (grammar_of g) r p)
  leaf_added w v y x o z e (n, compact) q =
      let is = n ∙ ap (λ (i : ChartItem). new_record i 0 0) e in
      q ∙ grown_one w o x compact ∙ ap (λ (y : Record). grown_by w (y ∷ [])) is ∙ ap (grown_by w) (leaf_one z)

  pub leaf_skipped : (w : List ℕ) → Fits w → (kind ≡ 0 → ⊥) → w ≡ grown_by w (leaf_record (grammar_of g) r p)
  leaf_skipped w o z = sym (grown_none w o) ∙ ap (grown_by w) (leaf_none z)

-- ---- a rule's plan nodes, and all rules
pub rule_plan_lem : (g : List ℕ) (r n : ℕ) → check_grammar g ≡ true → r < rule_count g → n ≡ rule_plan g r → n ≡ length (plan_of (grammar_of g) r)
rule_plan_lem g r n c h q = q ∙ sym (plan_size g r c h)

pub leaves_rule : (G : Grammar) (r : ℕ) (w v : List ℕ) → v ≡ grown_by w (each_to (length (plan_of G r)) (λ p. leaf_record G r p)) → v ≡ grown_by w (rule_leaves G r)
unfolding rule_leaves
leaves_rule G r w v q = q

map_each : {A B : Type 0} (f : A → B) (n : ℕ) (F : ℕ → List A) → map f (each_to n F) ≡ each_to n (λ k. map f (F k))
map_each f zero F = refl
map_each f (suc n) F = map-append f (F n) (each_to n F) ∙ ap (λ (l : List _). map f (F n) ++ l) (map_each f n F)

each_same : {A : Type 0} (n : ℕ) (F K : ℕ → List A) → ((k : ℕ) → F k ≡ K k) → each_to n F ≡ each_to n K
each_same zero F K e = refl
each_same (suc n) F K e = λ i. e n i ++ each_same n F K e i

pub leaves_all : (G : Grammar) → leaf_records G ≡ each_to (length G.rules) (λ r. rule_leaves G r)
unfolding leaf_records leaves rule_leaves leaf_record
leaves_all G =
    map_each (λ (i : Item). record_of i 0 0 0) (length G.rules) (λ r. each_to (length (plan_of G r)) (λ p. leaf_at G r p (plan_node (plan_of G r) p)))
    ∙ each_same (length G.rules) _ _ (λ r. map_each (λ (i : Item). record_of i 0 0 0) (length (plan_of G r)) (λ p. leaf_at G r p (plan_node (plan_of G r) p)))

pub leaves_whole : (G : Grammar) → GrammarOk G → Whole (leaf_records G)
leaves_whole G ok = subst Whole (sym (leaves_all G)) (whole_each (length G.rules) (λ r. rule_leaves G r) (λ r l. rule_whole G ok r l))

pub rule_number : (g : List ℕ) (n : ℕ) → n ≡ rule_count g → n ≡ length (grammar_of g).rules
rule_number g n q = q ∙ sym (rules_length g)
