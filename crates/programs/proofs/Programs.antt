-- The theorems of the two programs, over the texts of their files.
use mathlib.Core.Path.{◌≡◌, refl, sym, ap, ◌∙◌, subst}
use mathlib.Core.Bool.{Bool, true, false}
use mathlib.Core.List.{List, []}
use Prim.Native.Nat.{ℕ, ◌≤◌}
use native.Mathlib.Omega.{arith}
use lib.ListN.{length, replicate}
use lib.Dec.{eqb}
use borrow.Author.Tests.{eq-eqb, ne_eqb, eqb-true, eqb-false, le-leb}
use Rattle.format.specs.Lines.{lines_of}
use Rattle.scripts.specs.Scripts.{rows_in, script_of}
use Rattle.questions.specs.Layout.{grammar_words, graph_words}
use Rattle.questions.specs.Checking.{check_grammar, check_graph}
use Rattle.questions.specs.Abstract.{grammar_of, graph_of}
use Rattle.records.specs.Words.{capacity}
use Rattle.validity.specs.Checking.{holds}
use Rattle.charting.specs.Calls.{fit}
use Rattle.charting.proofs.Calls.{and_both}
use Rattle.derivation.specs.Derivations.{replay_text}
use Rattle.replayer.specs.Verdicts.{fit_tables, replay_of}
use Rattle.programs.specs.Files.{FilesRead, file_bytes, files_of}
use Rattle.programs.specs.Programs.{Derived, refused, derived, chart_words, derive_tables, derive_files, replay_tables, replay_files}
use Rattle.programs.specs.Facts.{Deriving, derives, small, underivable, long}
use Rattle.programs.proofs.AcceptedFiles.{files_accepted}
use Rattle.programs.proofs.Deriving.{tables_deriving}

chart_held : holds (replicate chart_words 0) ≡ true
unfolding holds capacity
chart_held = refl

-- ---- a refusal is no derivation
abbrev tag : Derived → ℕ
tag (refused k) = 0
tag (derived text steps) = 1

abbrev text_in : Derived → List ℕ
text_in (refused k) = []
text_in (derived text steps) = text

not_derived : (k : ℕ) (text : List ℕ) (steps : ℕ) → refused k ≡ derived text steps → ⊥
not_derived k text steps e = let z : ◌≡◌ {A = ℕ} 0 1 = ap tag e in omega (arith, z)

-- ---- both programs

module _ (grammar graph : List ℕ) where
  -- the tables that the two files fill
  abbrev t : FilesRead
  t = files_of grammar graph (replicate grammar_words 0) (replicate graph_words 0)

  -- the first refusal of the files is the answer
  pub derive_refused : (t.refusal ≡ 0 → ⊥) → derive_files grammar graph ≡ refused t.refusal
  unfolding derive_files
  derive_refused n = rw (ne_eqb t.refusal 0 n)

  module _ (z : t.refusal ≡ 0) where
    checked : (check_grammar t.grammar ≡ true) × (check_graph t.grammar t.graph ≡ true)
    checked = files_accepted grammar graph (replicate grammar_words 0) (replicate graph_words 0) z

    fits : fit t.grammar t.graph (replicate chart_words 0) ≡ true
    unfolding fit
    fits = and_both (holds (replicate chart_words 0)) _ chart_held (and_both (check_grammar t.grammar) _ checked.0 checked.1)

    derive_tables_lem : derive_files grammar graph ≡ derive_tables t.grammar t.graph
    unfolding derive_files
    derive_tables_lem = rw (eq-eqb t.refusal 0 z)

    -- files without a refusal: every answer of `derive` means what 01 says, and it is never 8 or 10
    pub derive_right : Deriving t.grammar t.graph (derive_files grammar graph)
    derive_right = subst (Deriving t.grammar t.graph) (sym derive_tables_lem) (tables_deriving t.grammar t.graph fits)

    replay_tables_lem : (text : List ℕ) → replay_files grammar graph text ≡ replay_tables t.grammar t.graph text
    unfolding replay_files
    replay_tables_lem text = rw (eq-eqb t.refusal 0 z)

    replay_passes : (text : List ℕ) → length text ≤ file_bytes → replay_text (grammar_of t.grammar) (graph_of t.grammar t.graph) text ≡ true → replay_files grammar graph text ≡ 0
    unfolding replay_tables replay_of fit_tables
    replay_passes text l p = replay_tables_lem text ∙ rw (le-leb (length text) file_bytes l, checked.0, checked.1, p)

    -- a missing derivation file is none
    pub missing_derivation : replay_files grammar graph [] ≡ 13
    unfolding replay_tables replay_of fit_tables replay_text rows_in script_of lines_of
    missing_derivation = replay_tables_lem [] ∙ rw (checked.0, checked.1)

    -- a text that is derived is not above the programs' limit, and replays
    derived_passes : (d : Derived) → Deriving t.grammar t.graph d → (text : List ℕ) (steps : ℕ) → d ≡ derived text steps → replay_files grammar graph text ≡ 0
    derived_passes _ (derives tree k few passes l sized most) text steps q =
        subst (λ (x : List ℕ). replay_files grammar graph x ≡ 0) (ap text_in q) (replay_passes _ l passes)
    derived_passes _ (small size sized l) text steps q = absurd (not_derived 9 text steps q)
    derived_passes _ (underivable none) text steps q = absurd (not_derived 11 text steps q)
    derived_passes _ (long tree few l) text steps q = absurd (not_derived 12 text steps q)

  -- What `derive` prints before its `C` line passes `replay` with the same grammar and graph.
  pub derive_replays : (text : List ℕ) (steps : ℕ) → derive_files grammar graph ≡ derived text steps → replay_files grammar graph text ≡ 0
  derive_replays text steps q = go (eqb t.refusal 0) refl
    where
      go : (b : Bool) → eqb t.refusal 0 ≡ b → replay_files grammar graph text ≡ 0
      go true e = let z = eqb-true t.refusal 0 e in derived_passes z (derive_files grammar graph) (derive_right z) text steps q
      go false e = absurd (not_derived t.refusal text steps (sym (derive_refused (eqb-false t.refusal 0 e)) ∙ q))
