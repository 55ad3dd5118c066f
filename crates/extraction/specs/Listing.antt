-- The applications of the tree that partners spell, listed from the top as the writer finds them, and their rows from
-- the last one up.
use Rattle.std.specs.Prelude.{cond, List, [], ◌∷◌, ◌++◌, ℕ, zero, suc, ◌+◌, ◌-◌, get_or, eqb}
use Rattle.hrg.specs.Grammars.{Kind, terminal, nonterminal, Edge, Graph, Grammar, kind_of, right_of}
use Rattle.agenda.specs.declared.Record.{Record}
use Rattle.extraction.specs.Extraction.{rule_at, partners_at, place_at}

-- ---- the passive records of the applications, from the top
abbrev pub cons_if : Kind → ℕ → List ℕ → List ℕ
cons_if terminal b bs = bs
cons_if nonterminal b bs = b ∷ bs

-- the partners of the nonterminal edges, from edge i on
unfoldable pub children_from : Grammar → List ℕ → List Edge → ℕ → List ℕ
children_from G bs [] i = []
children_from G bs (e ∷ es) i = cons_if (kind_of G e.label) (get_or bs i 0) (children_from G bs es (i + 1))

unfoldable pub children_at : (ℕ → Record) → Grammar → ℕ → List ℕ
unfolding children_from partners_at
children_at look G j = children_from G (partners_at look G j) (right_of G (rule_at look j)).edges 0

pub data Listing : Type 0 where
  endless : Listing
  listed : List ℕ → Listing

abbrev pub listed_with : ℕ → Listing → Listing
listed_with j endless = endless
listed_with j (listed js) = listed (j ∷ js)

-- The records that are due, each with everything under it before the next: at most k, else endless.
unfoldable pub listing : (ℕ → Record) → Grammar → ℕ → List ℕ → Listing
unfolding children_at
listing look G zero [] = listed []
listing look G zero (j ∷ js) = endless
listing look G (suc k) [] = listed []
listing look G (suc k) (j ∷ js) = listed_with j (listing look G k (children_at look G j ++ js))

-- ---- rows, where `size` gives the size of the tree under each later application
abbrev pub number_by : Kind → ℕ → ℕ → ℕ
number_by terminal b next = b
number_by nonterminal b next = next

abbrev pub next_by : Kind → (ℕ → ℕ) → ℕ → ℕ
next_by terminal size next = next
next_by nonterminal size next = next + size next

-- a number for each edge from edge i on, where the next application has the number `next`
unfoldable pub numbers_from : Grammar → List ℕ → (ℕ → ℕ) → List Edge → ℕ → ℕ → List ℕ
numbers_from G bs size [] i next = []
numbers_from G bs size (e ∷ es) i next =
    number_by (kind_of G e.label) (get_or bs i 0) next ∷ numbers_from G bs size es (i + 1) (next_by (kind_of G e.label) size next)

-- the number of the first application that is not under them
unfoldable pub end_from : Grammar → (ℕ → ℕ) → List Edge → ℕ → ℕ
end_from G size [] next = next
end_from G size (e ∷ es) next = end_from G size es (next_by (kind_of G e.label) size next)

-- the row of application n, made of the passive record at j, and the number of applications under it, with itself
unfoldable pub row_at : (ℕ → Record) → Grammar → Graph → (ℕ → ℕ) → ℕ → ℕ → List ℕ
unfolding numbers_from place_at partners_at
row_at look G H size n j =
    n ∷ rule_at look j ∷ (place_at look G H j ++ numbers_from G (partners_at look G j) size (right_of G (rule_at look j)).edges 0 (n + 1))

unfoldable pub span_at : (ℕ → Record) → Grammar → (ℕ → ℕ) → ℕ → ℕ → ℕ
unfolding end_from
span_at look G size n j = end_from G size (right_of G (rule_at look j)).edges (n + 1) - n

-- the sizes of the applications n, n + 1, .. that are made of the records js
unfoldable pub sizes_from : (ℕ → Record) → Grammar → ℕ → List ℕ → ℕ → ℕ
unfolding span_at
sizes_from look G n [] m = 0
sizes_from look G n (j ∷ js) m =
    let later = sizes_from look G (n + 1) js m in
    cond (eqb m n) (span_at look G (λ k. sizes_from look G (n + 1) js k) n j) later

-- their rows
unfoldable pub rows_from : (ℕ → Record) → Grammar → Graph → ℕ → List ℕ → List (List ℕ)
unfolding row_at sizes_from
rows_from look G H n [] = []
rows_from look G H n (j ∷ js) = row_at look G H (λ m. sizes_from look G (n + 1) js m) n j ∷ rows_from look G H (n + 1) js
