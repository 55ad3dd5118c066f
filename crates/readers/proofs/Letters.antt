-- Question 2: the letter of a line, and the one that is due.
use mathlib.Core.Path.{◌≡◌, refl, sym, ap, subst, ◌∙◌}
use mathlib.Core.Logic.{◌⊎◌, inl, inr}
use mathlib.Core.Bool.{true, false}
use mathlib.Core.List.{List}
use Prim.Native.Nat.{ℕ, ◌<◌}
use native.Mathlib.Omega.{arith}
use lib.Dec.{eqb}
use borrow.Author.Tests.{eq-eqb, ne_eqb}
use Rattle.format.specs.Shape.{shape_of, letter_of, letter_kind, kind_letter}
use Rattle.format.proofs.ShapeLaws.{shape_shaped, letter_kind_lem, kind_letter_lem}
use Rattle.format.specs.declared.Letter.{Letter}
use Rattle.format.specs.declared.Letter.TheVariants.{G, S, R, E, P, H, D, A, Other}
use Rattle.questions.specs.Layout.{letter_due}
use Rattle.questions.specs.declared.Due.{Due}
use Rattle.questions.specs.declared.Due.TheVariants.{Grammar, Symbol, Rule, RuleEdge, PlanLine, Graph, GraphEdge, Nothing}

-- ---- the lines of each letter
-- the line that is due begins with the letter
abbrev pub Begins : Letter → Due → Type 0
Begins G due = due ≡ Grammar
Begins S due = (s : ℕ) × due ≡ Symbol s
Begins R due = (r : ℕ) × due ≡ Rule r
Begins E due = ((r : ℕ) × (i : ℕ) × due ≡ RuleEdge r i) ⊎ ((e : ℕ) × due ≡ GraphEdge e)
Begins P due = (r : ℕ) × (q : ℕ) × due ≡ PlanLine r q
Begins H due = due ≡ Graph
Begins D due = ⊥
Begins A due = ⊥
Begins Other due = due ≡ Nothing

-- each begins with its own
own : (due : Due) → Begins (letter_due due) due
unfolding letter_due
own Grammar = refl
own (Symbol s) = (s, refl)
own (Rule r) = (r, refl)
own (RuleEdge r i) = inl (r, i, refl)
own (PlanLine r q) = (r, q, refl)
own Graph = refl
own (GraphEdge e) = inr (e, refl)
own Nothing = refl

-- and with no other
alone : (x : Letter) (due : Due) → Begins x due → letter_due due ≡ x
unfolding letter_due
alone G due h = ap letter_due h
alone S due (s, h) = ap letter_due h
alone R due (r, h) = ap letter_due h
alone E due (inl (r, i, h)) = ap letter_due h
alone E due (inr (e, h)) = ap letter_due h
alone P due (r, q, h) = ap letter_due h
alone H due h = ap letter_due h
alone D due h = absurd h
alone A due h = absurd h
alone Other due h = ap letter_due h

-- what is no edge does not begin with the letter of edges
pub no_edge : (due : Due) → ((r i : ℕ) → due ≡ RuleEdge r i → ⊥) → ((e : ℕ) → due ≡ GraphEdge e → ⊥) → Begins E due → ⊥
no_edge due n m (inl (r, i, h)) = n r i h
no_edge due n m (inr (e, h)) = m e h

-- ---- a line whose letter is b, of this kind
module _ (b : ℕ) (kind : Letter) (e : kind ≡ letter_kind b) where
  -- where another kind is due, it is not
  another : (due : Due) → (kind ≡ letter_due due → ⊥) → false ≡ eqb b (kind_letter (letter_due due))
  another due n = sym (ne_eqb b (kind_letter (letter_due due)) (λ p. n (e ∙ ap letter_kind p ∙ letter_kind_lem (letter_due due))))

  -- one of a kind of the files is due where what is due begins with its letter
  pub kind_due : (x : Letter) (due : Due) → kind ≡ x → 0 < kind_letter x → Begins x due → true ≡ eqb b (kind_letter (letter_due due))
  unfolding kind_letter
  kind_due x due is some h = sym (eq-eqb b (kind_letter (letter_due due)) (kind_letter_lem b x (sym e ∙ is) (λ o.
      let z : kind_letter x ≡ 0 = ap kind_letter o in
      omega arith) ∙ ap kind_letter (sym (alone x due h))))

  -- and only there
  pub kind_not_due : (x : Letter) (due : Due) → kind ≡ x → (Begins x due → ⊥) → false ≡ eqb b (kind_letter (letter_due due))
  kind_not_due x due is n = another due (λ h. n (subst (λ l. Begins l due) (sym h ∙ is) (own due)))

  -- one of no kind of the two files is never due, since its letter is not 0
  pub none_due : 0 < b → (kind ≡ G → ⊥) → (kind ≡ S → ⊥) → (kind ≡ R → ⊥) → (kind ≡ E → ⊥) → (kind ≡ P → ⊥) → (kind ≡ H → ⊥)
      → (due : Due) → false ≡ eqb b (kind_letter (letter_due due))
  unfolding kind_letter letter_due
  none_due some g s r e p h Grammar = another Grammar g
  none_due some g s r e p h (Symbol n) = another (Symbol n) s
  none_due some g s r e p h (Rule n) = another (Rule n) r
  none_due some g s r e p h (RuleEdge n i) = another (RuleEdge n i) e
  none_due some g s r e p h (PlanLine n q) = another (PlanLine n q) p
  none_due some g s r e p h Graph = another Graph h
  none_due some g s r e p h (GraphEdge i) = another (GraphEdge i) e
  none_due some g s r e p h Nothing = sym (ne_eqb b 0 (λ z. omega arith))

-- the letter of a line of the shape is a byte that is not 0
pub letter_some : (line : List ℕ) → shape_of line ≡ true → 0 < letter_of line
letter_some line h =
    let many = (shape_shaped line h).capital.0 in
    omega arith
