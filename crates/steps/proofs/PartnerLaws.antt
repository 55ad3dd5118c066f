-- What a record makes with another record: which make nothing, and which of the two comes first.
use Prim.Native.Nat.{ℕ}
use mathlib.Core.Path.{◌≡◌, refl, sym, ap, ap₂, ◌∙◌, subst}
use mathlib.Core.Bool.{Bool, true, false, cond}
use mathlib.Core.List.{List, [], ◌∷◌, ◌++◌, map}
use lib.Bits.{and_comm}
use lib.Dec.{eqb}
use Rattle.masks.specs.Masks.{disjoint}
use Rattle.hrg.specs.Grammars.{Graph, Grammar}
use Rattle.hrg.specs.Items.{Item}
use Rattle.hrg.specs.ClosureRun.{guard, binary_of}
use Rattle.agenda.specs.declared.Record.{Record}
use Rattle.agenda.specs.Records.{record_of, item_of, is_handled, plus}
use Rattle.agenda.specs.Consequences.{pair}
use Rattle.questions.specs.Checking.{check_grammar}
use Rattle.questions.specs.Abstract.{grammar_of}
use Rattle.rules.specs.Wants.{want_of}
use Rattle.rules.specs.Plans.{Leads}
use Rattle.rules.proofs.RuleItems.{pair_apart}
use Rattle.rules.proofs.Meeting.{unwanting}
use Rattle.records.specs.Words.{record_at, grown_by}
use Rattle.steps.specs.Partners.{with_record}

-- ---- pairs that can make nothing
disjoint_flip : (a b : ℕ) → disjoint a b ≡ false → disjoint b a ≡ false
unfolding disjoint
disjoint_flip a b h = ap (λ m. eqb m 0) (and_comm b a) ∙ h

module _ (G : Grammar) (H : Graph) (x y : Record) (j k : ℕ) where
  abbrev both : List Record
  both = pair G H x j y k ++ pair G H y k x j

  none : binary_of G H (item_of G x.item) (item_of G y.item) ≡ [] → binary_of G H (item_of G y.item) (item_of G x.item) ≡ [] → both ≡ []
  unfolding pair
  none p q =
      ap₂ (λ (a b : List Item). map (λ (i : Item). record_of i (plus x.item.count y.item.count) j k) a ++ map (λ (i : Item). record_of i (plus y.item.count x.item.count) k j) b) p q

  edges_none : disjoint x.item.edges y.item.edges ≡ false → both ≡ []
  edges_none e = none (pair_apart G H x.item y.item e) (pair_apart G H y.item x.item (disjoint_flip x.item.edges y.item.edges e))

guard_empty : (b : Bool) (l : List Record) → l ≡ [] → guard b l ≡ []
guard_empty true l e = e
guard_empty false l e = refl

-- two records of which no rule makes anything
pub unjoined_none : (G : Grammar) (H : Graph) (x y : Record) (j k : ℕ) → binary_of G H (item_of G x.item) (item_of G y.item) ≡ [] → binary_of G H (item_of G y.item) (item_of G x.item) ≡ [] → with_record G H x j y k ≡ []
unfolding with_record
unjoined_none G H x y j k p q = guard_empty (is_handled y) _ (none G H x y j k p q)

-- .. that have an edge in common, or of which the second is not handled
pub overlap_none : (G : Grammar) (H : Graph) (x y : Record) (j k : ℕ) → disjoint x.item.edges y.item.edges ≡ false → with_record G H x j y k ≡ []
unfolding with_record
overlap_none G H x y j k e = guard_empty (is_handled y) _ (edges_none G H x y j k e)

pub waiting_none : (G : Grammar) (H : Graph) (x y : Record) (j k : ℕ) → is_handled y ≡ false → with_record G H x j y k ≡ []
unfolding with_record
waiting_none G H x y j k h = ap (λ (b : Bool). guard b (pair G H x j y k ++ pair G H y k x j)) h

module _ (g : List ℕ) (checked : check_grammar g ≡ true) (H : Graph) (x y : Record) (want : ℕ) (is : want ≡ want_of (grammar_of g) x.item.of x.item.plan) (j k : ℕ) where
  abbrev G : Grammar
  G = grammar_of g

  pub unwanting_none : x.item.kind ≡ 0 → want ≡ 80 → with_record G H x j y k ≡ []
  unwanting_none a e = let n = unwanting g checked H x.item y.item want is a e in unjoined_none G H x y j k n.forth n.back

-- ---- a record that comes only first, or only second
pub append_nil : (xs : List Record) → xs ++ [] ≡ xs
append_nil [] = refl
append_nil (x ∷ xs) = ap (λ (l : List Record). x ∷ l) (append_nil xs)

pub pick_by : (P : ℕ → Type 0) (lead : Bool) (j k i : ℕ) → i ≡ cond lead j k → P j → P k → P i
pick_by P true j k i e a b = subst P (sym e) a
pick_by P false j k i e a b = subst P (sym e) b

pair_nil : (G : Grammar) (H : Graph) (x y : Record) (j k : ℕ) → binary_of G H (item_of G x.item) (item_of G y.item) ≡ [] → pair G H x j y k ≡ []
unfolding pair
pair_nil G H x y j k e = ap (map (λ (i : Item). record_of i (plus x.item.count y.item.count) j k)) e

module _ (g : List ℕ) (H : Graph) (w : List ℕ) (j k : ℕ) where
  abbrev own : Record
  own = record_at w j

  abbrev other : Record
  other = record_at w k

  at_places : (i m a b : ℕ) → i ≡ a → m ≡ b → pair (grammar_of g) H (record_at w i) i (record_at w m) m ≡ pair (grammar_of g) H (record_at w a) a (record_at w b) b
  at_places i m a b p q = ap₂ (λ (i m : ℕ). pair (grammar_of g) H (record_at w i) i (record_at w m) m) p q

  led : (lead : Bool) → Leads g own.item lead → (i m : ℕ) → i ≡ cond lead j k → m ≡ cond lead k j
      → pair (grammar_of g) H (record_at w i) i (record_at w m) m ≡ pair (grammar_of g) H own j other k ++ pair (grammar_of g) H other k own j
  led true L i m p q =
      at_places i m j k p q
      ∙ sym (append_nil (pair (grammar_of g) H own j other k))
      ∙ ap (λ (l : List Record). pair (grammar_of g) H own j other k ++ l) (sym (pair_nil (grammar_of g) H other own k j (L.yes refl H other.item)))
  led false L i m p q = at_places i m k j p q ∙ ap (λ (l : List Record). l ++ pair (grammar_of g) H other k own j) (sym (pair_nil (grammar_of g) H own other j k (L.not refl H other.item)))

  handled_both : is_handled other ≡ true → with_record (grammar_of g) H own j other k ≡ pair (grammar_of g) H own j other k ++ pair (grammar_of g) H other k own j
  unfolding with_record
  handled_both h = ap (λ (t : Bool). guard t (pair (grammar_of g) H own j other k ++ pair (grammar_of g) H other k own j)) h

  pub partner_led : (lead : Bool) → Leads g own.item lead → (v : List ℕ) (i m : ℕ) → is_handled other ≡ true → i ≡ cond lead j k → m ≡ cond lead k j
      → v ≡ grown_by w (pair (grammar_of g) H (record_at w i) i (record_at w m) m) → v ≡ grown_by w (with_record (grammar_of g) H own j other k)
  partner_led lead L v i m h p₁ p₂ p = p ∙ ap (grown_by w) (led lead L i m p₁ p₂ ∙ sym (handled_both h))
