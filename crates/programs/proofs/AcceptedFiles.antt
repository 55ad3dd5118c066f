-- Files without a refusal fill tables that pass question 8.
use mathlib.Core.Path.{◌≡◌, refl, sym, ap, ◌∙◌}
use mathlib.Core.Bool.{Bool, true, false, cond}
use mathlib.Core.List.{List, [], ◌∷◌, ◌++◌}
use Prim.Native.Nat.{ℕ, zero, suc}
use native.Mathlib.Omega.{arith}
use lib.ListN.{length, drop, replicate}
use lib.Dec.{eqb, leb}
use borrow.Author.Tests.{eqb-true, eqb-false}
use Rattle.format.specs.Lines.{Line, lines_of}
use Rattle.format.specs.Fields.{fields_of}
use Rattle.questions.specs.Layout.{place_of, stored, grammar_words, graph_words}
use Rattle.questions.specs.Reading.{next, judge_line, Verdict, refused, accepted, when_done, go_on, Outcome, read_lines, grammar_verdict, graph_verdict, delivered, read_grammar, Done, Refused}
use Rattle.questions.specs.Refusing.{reading_number}
use Rattle.questions.specs.Checking.{check_grammar, check_graph, read_graph}
use Rattle.questions.proofs.Refusals.{grammar_passed_first}
use Rattle.questions.proofs.Filled.{grammar_filled_check, graph_filled_check}
use Rattle.questions.specs.declared.Due.{Due}
use Rattle.questions.specs.declared.Due.TheVariants.{Grammar, Symbol, Rule, RuleEdge, PlanLine, Graph, GraphEdge, Nothing}
use Rattle.programs.specs.Files.{file_bytes, numbered, FileRead, FilesRead, grammar_file, graph_file, files_of}

-- ---- no text is refused 0
data Judged : Verdict → Type 0 where
  no : (k : ℕ) → Judged (refused (suc k))
  yes : (t : List ℕ) → Judged (accepted t)

done_judged : (due : Due) (t : List ℕ) → Judged (when_done due (accepted t) (refused 2))
done_judged Nothing t = yes t
done_judged Grammar t = no 1
done_judged (Symbol s) t = no 1
done_judged (Rule r) t = no 1
done_judged (RuleEdge r i) t = no 1
done_judged (PlanLine r q) t = no 1
done_judged Graph t = no 1
done_judged (GraphEdge e) t = no 1

on_judged : (k : ℕ) (v : Verdict) → Judged v → Judged (go_on k v)
on_judged zero v j = j
on_judged (suc k) v j = no k

lines_judged : (g t : List ℕ) (due : Due) (ls : List Line) → Judged (read_lines g t due ls)
unfolding read_lines
lines_judged g t due [] = done_judged due t
lines_judged g t due (l ∷ ls) =
    let t' = stored t (place_of due) (fields_of l.bytes) in
    on_judged (judge_line g t due l) (read_lines g t' (next t' due) ls) (lines_judged g t' (next t' due) ls)

abbrev given : ℕ → List ℕ → List ℕ → Bool → Outcome
given size t former b = cond b (record { answer = Done; table = t ++ drop size former }) (record { answer = Refused 8; table = former })

delivered_done : (size : ℕ) (v : Verdict) (former : List ℕ) → Judged v → reading_number (delivered size v former).answer ≡ 0 → (delivered size v former).answer ≡ Done
unfolding delivered
delivered_done size _ former (no k) e = absurd (omega arith)
delivered_done size _ former (yes t) e = go (leb size (length former)) e
  where
    go : (b : Bool) → reading_number (given size t former b).answer ≡ 0 → (given size t former b).answer ≡ Done
    go true q = refl
    go false q = absurd (omega arith)

-- ---- the two files
grammar_judged : (text : List ℕ) → Judged (grammar_verdict text)
unfolding grammar_verdict
grammar_judged text = lines_judged [] (replicate grammar_words 0) Grammar (lines_of text)

grammar_done : (text former : List ℕ) → reading_number (read_grammar text former).answer ≡ 0 → read_grammar text former ≡ record { answer = Done; table = (read_grammar text former).table }
unfolding read_grammar
grammar_done text former e =
    ap (λ a. record { answer = a; table = (read_grammar text former).table }) (delivered_done grammar_words (grammar_verdict text) former (grammar_judged text) e)

grammar_accepted : (text former : List ℕ) → (grammar_file text former).refusal ≡ 0 → check_grammar (grammar_file text former).table ≡ true
unfolding grammar_file
grammar_accepted text former = go (leb (length text) file_bytes)
  where
    go : (b : Bool) → (cond b (numbered (read_grammar text former)) (record { refusal = 1; table = former })).refusal ≡ 0
        → check_grammar (cond b (numbered (read_grammar text former)) (record { refusal = 1; table = former })).table ≡ true
    go true q = grammar_filled_check (read_grammar text former).table (record { text = text; former = former; read = grammar_done text former q })
    go false q = absurd (omega arith)

graph_judged : (g text : List ℕ) → Judged (graph_verdict g text)
unfolding graph_verdict
graph_judged g text = lines_judged g (replicate graph_words 0) Graph (lines_of text)

graph_done : (g text former : List ℕ) → check_grammar g ≡ true → reading_number (read_graph g text former).answer ≡ 0
    → read_graph g text former ≡ record { answer = Done; table = (read_graph g text former).table }
graph_done g text former ok e =
    let passed = grammar_passed_first g text former ok in
    let done : (read_graph g text former).answer ≡ Done =
    ap (λ (o : Outcome). o.answer) passed ∙ delivered_done graph_words (graph_verdict g text) former (graph_judged g text) (sym (ap (λ (o : Outcome). reading_number o.answer) passed) ∙ e)
    in
    ap (λ a. record { answer = a; table = (read_graph g text former).table }) done

graph_accepted : (g text former : List ℕ) → check_grammar g ≡ true → (graph_file g text former).refusal ≡ 0 → check_graph g (graph_file g text former).table ≡ true
unfolding graph_file
graph_accepted g text former ok = go (leb (length text) file_bytes)
  where
    go : (b : Bool) → (cond b (numbered (read_graph g text former)) (record { refusal = 1; table = former })).refusal ≡ 0
        → check_graph g (cond b (numbered (read_graph g text former)) (record { refusal = 1; table = former })).table ≡ true
    go true q = (graph_filled_check g (read_graph g text former).table (record { text = text; former = former; read = graph_done g text former ok q })).1
    go false q = absurd (omega arith)

module _ (grammar graph formerGrammar formerGraph : List ℕ) where
  abbrev a : FileRead
  a = grammar_file grammar formerGrammar

  abbrev both : FilesRead
  both = record { refusal = (graph_file a.table graph formerGraph).refusal; grammar = a.table; graph = (graph_file a.table graph formerGraph).table }

  abbrev first : FilesRead
  first = record { refusal = a.refusal; grammar = a.table; graph = formerGraph }

  -- files without a refusal
  pub files_accepted : (files_of grammar graph formerGrammar formerGraph).refusal ≡ 0
      → (check_grammar (files_of grammar graph formerGrammar formerGraph).grammar ≡ true) × (check_graph (files_of grammar graph formerGrammar formerGraph).grammar (files_of grammar graph formerGrammar formerGraph).graph ≡ true)
  unfolding files_of
  files_accepted = go (eqb a.refusal 0) refl
    where
      go : (b : Bool) → eqb a.refusal 0 ≡ b → (cond b both first).refusal ≡ 0 → (check_grammar (cond b both first).grammar ≡ true) × (check_graph (cond b both first).grammar (cond b both first).graph ≡ true)
      go true z q =
          let ok : check_grammar a.table ≡ true = grammar_accepted grammar formerGrammar (eqb-true a.refusal 0 z) in
          (ok, graph_accepted a.table graph formerGraph ok q)
      go false z q = absurd (eqb-false a.refusal 0 z q)
