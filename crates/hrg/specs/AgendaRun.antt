-- The agenda as a function on lists, for a deduction system whose rules compute.
use Rattle.std.specs.Prelude.{◌≡◌, Bool, T, leb}
use Rattle.std.proofs.Math.Bool.{true, false}
use mathlib.Core.List.{List, [], ◌∷◌, ◌++◌, map, flat_map, Memᴰ as In}
use Prim.Native.Nat.{ℕ, zero, suc, ◌+◌}
use Rattle.hrg.specs.Deduction.{System}
use Rattle.hrg.specs.Agenda.{given, from, from₂, Entry, State}

-- What a unary rule concludes, and what it adds to the count.
pub record Conclusion (Item : Type 0) : Type 0 where
  pub constant : ℕ
  pub item : Item

pub record Rules (Item : Type 0) : Type 0 where
  pub axioms : List Item
  pub unary : Item → List (Conclusion Item)
  pub binary : Item → Item → List Item
  pub same : Item → Item → Bool

-- The lists of R hold exactly what the rules of S allow, and its test tells equal items.
pub record Computes {Item : Type 0} (S : System Item) (R : Rules Item) : Type 0 where
  pub same_equal : (i j : Item) → T (R.same i j) → i ≡ j
  pub same_itself : (i : Item) → T (R.same i i)
  pub axiom_sound : (i : Item) → In i R.axioms → S.Axiom i
  pub axiom_found : (i : Item) → S.Axiom i → In i R.axioms
  pub unary_sound : (a : Item) (c : Conclusion Item) → In c (R.unary a) → S.Unary a c.constant c.item
  pub unary_found : (a : Item) (k : ℕ) (i : Item) → S.Unary a k i → In (record { constant = k; item = i }) (R.unary a)
  pub binary_sound : (a b i : Item) → In i (R.binary a b) → S.Binary a b i
  pub binary_found : (a b i : Item) → S.Binary a b i → In i (R.binary a b)

pub record Pick (Item : Type 0) : Type 0 where
  pub chosen : Entry Item
  pub rest : List (Entry Item)

module _ {Item : Type 0} where
  -- is there an entry of item i?
  unfoldable pub present : Rules Item → Item → List (Entry Item) → Bool
  present R i [] = false
  present R i (e ∷ es) = elim (R.same i e.item) [ true ↦ true | false ↦ present R i es ]

  -- One more entry waits. An item found again takes the lesser count, with its derivation.
  unfoldable pub add : Rules Item → Entry Item → List (Entry Item) → List (Entry Item)
  add R e [] = e ∷ []
  add R e (u ∷ us) =
      elim (R.same e.item u.item) [
        | true ↦ elim (leb u.count e.count) [ true ↦ u ∷ us | false ↦ e ∷ us ]
        | false ↦ u ∷ add R e us
      ]

  -- The entries es join those that wait, us, but for handled items.
  unfoldable pub add_all : Rules Item → List (Entry Item) → List (Entry Item) → List (Entry Item) → List (Entry Item)
  unfolding present add
  add_all R hs us [] = us
  add_all R hs us (e ∷ es) = elim (present R e.item hs) [ true ↦ add_all R hs us es | false ↦ add_all R hs (add R e us) es ]

  -- the first entry of least count, and the others in their order
  unfoldable pub least : Entry Item → List (Entry Item) → Pick Item
  least e [] = record { chosen = e; rest = [] }
  least e (f ∷ fs) =
      let p = least f fs in
      elim (leb e.count p.chosen.count) [ true ↦ record { chosen = e; rest = f ∷ fs } | false ↦ record { chosen = p.chosen; rest = e ∷ p.rest } ]

  unfoldable pub unary_entries : Rules Item → Entry Item → List (Entry Item)
  unary_entries R a = map (λ c. record { item = c.item; count = a.count + c.constant; how = from c.item a.how }) (R.unary a.item)

  unfoldable pub binary_entries : Rules Item → Entry Item → Entry Item → List (Entry Item)
  binary_entries R a b = map (λ i. record { item = i; count = a.count + b.count; how = from₂ i a.how b.how }) (R.binary a.item b.item)

  -- what the rules make of x and the entries hs, in both orders
  unfoldable pub consequences : Rules Item → List (Entry Item) → Entry Item → List (Entry Item)
  unfolding unary_entries binary_entries flat_map
  consequences R hs x = unary_entries R x ++ flat_map (λ h. binary_entries R x h ++ binary_entries R h x) hs

  unfoldable pub start_state : Rules Item → State Item
  unfolding add_all
  start_state R = record { handled = []; waiting = add_all R [] [] (map (λ i. record { item = i; count = 0; how = given i }) R.axioms) }

  unfoldable pub handle : Rules Item → List (Entry Item) → Pick Item → State Item
  unfolding add_all consequences
  handle R hs p = let ks = p.chosen ∷ hs in record { handled = ks; waiting = add_all R ks p.rest (consequences R ks p.chosen) }

  unfoldable pub step_state : Rules Item → State Item → State Item
  unfolding handle least
  step_state R s = elim s.waiting [ [] ↦ s | w ∷ ws ↦ handle R s.handled (least w ws) ]

  -- so many steps, or as many as are left
  unfoldable pub run_state : ℕ → Rules Item → State Item → State Item
  unfolding step_state
  run_state zero R s = s
  run_state (suc k) R s = elim s.waiting [ [] ↦ s | w ∷ ws ↦ run_state k R (step_state R s) ]
