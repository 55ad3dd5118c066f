-- Laws of the answer: what is told and left for each verdict.
use mathlib.Core.Path.{◌≡◌, refl, sym, ◌∙◌}
use mathlib.Core.Bool.{Bool, true, false, cond}
use mathlib.Core.List.{List, [], ◌++◌}
use Prim.Native.Nat.{ℕ, zero, suc, ◌≤◌, ◌<◌}
use lib.ListN.{length, drop, replicate, length-replicate}
use borrow.Author.Tests.{le-leb, lt-leb}
use Rattle.format.specs.Lines.{counting_lines}
use Rattle.questions.specs.Layout.{grammar_words, graph_words}
use Rattle.questions.specs.Reading.{Verdict, accepted, read_lines, grammar_verdict, graph_verdict, delivered, read_grammar, Answer, Done, Refused}
use Rattle.questions.specs.Checking.{check_grammar, read_graph}
use Rattle.questions.specs.Refusing.{number_of}
use Rattle.questions.specs.declared.Refusal.{Refusal}
use Rattle.questions.proofs.Refusals.{number_some}
use Rattle.questions.specs.declared.Due.TheVariants.{Grammar, Graph}
use Rattle.readers.specs.Readers.{Gives, verdict_of}

gives_refusal : (size k : ℕ) (t former : List ℕ) → (k ≡ 0 → ⊥) → Gives (delivered size (verdict_of k t) former) (Refused k) former
unfolding delivered
gives_refusal size zero t former n = absurd (n refl)
gives_refusal size (suc k) t former n = record { answers = refl; leaves = refl }

pub gives_short : (size : ℕ) (t former : List ℕ) → length former < size → Gives (delivered size (accepted t) former) (Refused 8) former
unfolding delivered
gives_short size t former h = record { answers = rw (lt-leb size (length former) h); leaves = rw (lt-leb size (length former) h) }

pub gives_table : (size : ℕ) (t former table : List ℕ) → size ≤ length former → table ≡ t ++ drop size former
    → Gives (delivered size (accepted t) former) Done table
unfolding delivered
gives_table size t former table h e = record { answers = rw (le-leb size (length former) h); leaves = rw (le-leb size (length former) h) e }

-- ---- the two readers, from a cleared table
abbrev cleared : ℕ → List ℕ
cleared n = replicate n 0

length_cleared : (n : ℕ) → length (cleared n) ≡ n
length_cleared n = length-replicate n _

-- a table of the largest size was filled from the cleared one
filled : (size : ℕ) (v : Verdict) (t former table : List ℕ) (a : Answer) → length t ≡ size → accepted t ≡ v → Gives (delivered (length t) (accepted t) former) a table
    → Gives (delivered size v former) a table
filled size v t former table a l e h = rw (← l, ← e) h

-- or reading into it ended with a refusal
ended : (size : ℕ) (v : Verdict) (r : Refusal) (t former : List ℕ) → verdict_of (number_of r) t ≡ v → Gives (delivered size v former) (Refused (number_of r)) former
ended size v r t former e = rw (← e) (gives_refusal size (number_of r) t former (number_some r))

module _ (text t former : List ℕ) where
  pub grammar_refused : (r : Refusal) → verdict_of (number_of r) t ≡ read_lines [] (cleared grammar_words) Grammar (counting_lines text)
      → Gives (read_grammar text former) (Refused (number_of r)) former
  unfolding read_grammar grammar_verdict
  grammar_refused r e = ended grammar_words _ r t former e

  pub gives_grammar : length t ≡ length (cleared grammar_words) → accepted t ≡ read_lines [] (cleared grammar_words) Grammar (counting_lines text)
      → (table : List ℕ) (a : Answer) → Gives (delivered (length t) (accepted t) former) a table → Gives (read_grammar text former) a table
  unfolding read_grammar grammar_verdict
  gives_grammar l e table a h = filled grammar_words _ t former table a (l ∙ length_cleared grammar_words) e h

-- the grammar table is judged before the text
graph_outcome : (g text former : List ℕ) → read_graph g text former ≡ cond (check_grammar g) (delivered graph_words (graph_verdict g text) former) (record { answer = Refused 8; table = former })
unfolding read_graph
graph_outcome g text former = refl

graph_verdict_lem : (g text : List ℕ) → graph_verdict g text ≡ read_lines g (cleared graph_words) Graph (counting_lines text)
unfolding graph_verdict
graph_verdict_lem g text = refl

module _ (g text former : List ℕ) (b : Bool) (e : b ≡ check_grammar g) where
  pub gives_touched : b ≡ false → Gives (read_graph g text former) (Refused 8) former
  gives_touched n = rw (graph_outcome g text former, ← e, n) (record { answers = refl; leaves = refl })

  module _ (y : b ≡ true) (t : List ℕ) where
    pub graph_refused : (r : Refusal) → verdict_of (number_of r) t ≡ read_lines g (cleared graph_words) Graph (counting_lines text)
        → Gives (read_graph g text former) (Refused (number_of r)) former
    graph_refused r v = rw (graph_outcome g text former, ← e, y) (ended graph_words (graph_verdict g text) r t former (v ∙ sym (graph_verdict_lem g text)))

    pub gives_graph : length t ≡ length (cleared graph_words) → accepted t ≡ read_lines g (cleared graph_words) Graph (counting_lines text)
        → (table : List ℕ) (a : Answer) → Gives (delivered (length t) (accepted t) former) a table → Gives (read_graph g text former) a table
    gives_graph l v table a h =
        rw (graph_outcome g text former, ← e, y)
        (filled graph_words (graph_verdict g text) t former table a (l ∙ length_cleared graph_words) (v ∙ sym (graph_verdict_lem g text)) h)
