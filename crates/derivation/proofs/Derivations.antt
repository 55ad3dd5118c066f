-- The replay passes exactly the texts of trees that generate the graph; so the graph is in the grammar's language.
use mathlib.Core.Path.{◌≡◌, refl, sym, ap, subst, ◌∙◌}
use mathlib.Core.Logic.{◌↔◌}
use mathlib.Core.Bool.{false}
use mathlib.Core.List.{List}
use Prim.Native.Nat.{ℕ, ◌+◌, ◌≤◌}
use native.Mathlib.Omega.{arith}
use lib.ListN.{length}
use lib.Dec.{T}
use Rattle.scripts.specs.Scripts.{Script, bad, rows, rows_text, row_bytes, rows_in}
use Rattle.scripts.proofs.Canonical.{rows_same, text_rows_lem, rows_text_lem}
use Rattle.scripts.proofs.RowTexts.{text_length}
use Rattle.hrg.specs.Grammars.{Graph, Grammar}
use Rattle.hrg.specs.Trees.{Tree, Generates}
use Rattle.hrg.specs.WellFormed.{GrammarOk, GraphOk}
use Rattle.hrg.specs.WellFormedTest.{Decides}
use Rattle.hrg.specs.Replacement.{Member}
use Rattle.hrg.proofs.WellFormedTest.{decides_map}
use Rattle.hrg.proofs.Replacement.{member_generated, replay}
use Rattle.preorder.specs.Rows.{size, rows_of, Derives}
use Rattle.preorder.specs.Replay.{replays}
use Rattle.preorder.proofs.Rows.{length_rows, size_positive, size_applications}
use Rattle.preorder.proofs.Replay.{replay_decides}
use Rattle.preorder.proofs.Unique.{rows_unique}
use Rattle.derivation.specs.Derivations.{derivation_text, replay_script, replay_text, DerivationOf, ReplayedFrom, PassingText}
use Rattle.derivation.proofs.WritableTrees.{rows_writable}

-- the rows of a text are a derivation
abbrev ScriptDerives : Grammar → Graph → Script → Type 0
ScriptDerives G H bad = ⊥
ScriptDerives G H (rows rs) = Derives G H rs

module _ (G : Grammar) (H : Graph) (ok : GrammarOk G) (hok : GraphOk G H) where
  script_decides : (s : Script) → Decides (replay_script G H s) (ScriptDerives G H s)
  script_decides bad = record { sound = λ p. p; complete = λ p. p }
  script_decides (rows rs) = replay_decides G H rs ok hok

  read_derivation : (text : List ℕ) (s : Script) → rows_in text ≡ s → ScriptDerives G H s → DerivationOf G H text
  unfolding derivation_text
  read_derivation text bad e d = absurd d
  read_derivation text (rows rs) e d =
      record { derivation = d.derivation; written = (rows_text_lem text rs e).0 ∙ ap rows_text d.listed; generates = d.generates; small = d.small }

  -- what is written for a tree is read back
  pub derivation_rows : (t : Tree) → Generates G H t → size t ≤ 4096 → rows_in (derivation_text t) ≡ rows (rows_of t)
  unfolding derivation_text
  derivation_rows t g h = text_rows_lem (rows_of t) (rows_writable G H ok hok t g h)

  derivation_read : (text : List ℕ) → DerivationOf G H text → ScriptDerives G H (rows_in text)
  derivation_read text d =
      subst (ScriptDerives G H) (sym (ap rows_in d.written ∙ derivation_rows d.derivation d.generates d.small))
      (record { derivation = d.derivation; listed = refl; generates = d.generates; small = d.small })

  -- The replay passes exactly the texts of trees of at most 4,096 applications that generate the graph.
  pub replay_text_is : (text : List ℕ) → Decides (replay_text G H text) (DerivationOf G H text)
  unfolding replay_text
  replay_text_is text = decides_map (script_decides (rows_in text)) (read_derivation text (rows_in text) refl) (derivation_read text)

  pub derivation_passes : (t : Tree) → Generates G H t → size t ≤ 4096 → T (replay_text G H (derivation_text t))
  derivation_passes t g h = (replay_text_is (derivation_text t)).complete (record { derivation = t; written = refl; generates = g; small = h })

  -- with T3: by edge replacement
  pub replay_member : (text : List ℕ) → T (replay_text G H text) → ReplayedFrom G H text
  replay_member text p =
      let d = (replay_text_is text).sound p in
      let t = d.derivation in
      record {
        derivation = t;
        written = d.written;
        count = record { lower = size_positive t; upper = d.small };
        replay = replay G H ok hok t d.generates;
        member = (member_generated G H ok hok (size t)).1 (t, d.generates, size_applications G t);
      }

-- the bytes that the text of a tree takes up
pub derivation_length : (t : Tree) → length (derivation_text t) ≡ 6 + row_bytes (rows_of t)
unfolding derivation_text
derivation_length t = text_length (rows_of t)

-- the replay by the rows of the text
pub replay_bad : (G : Grammar) (H : Graph) (text : List ℕ) → rows_in text ≡ bad → replay_text G H text ≡ false
unfolding replay_text
replay_bad G H text e = ap (replay_script G H) e

pub replay_rows : (G : Grammar) (H : Graph) (text : List ℕ) (rs : List (List ℕ)) → rows_in text ≡ rows rs → replay_text G H text ≡ replays G H rs
unfolding replay_text
replay_rows G H text rs e = ap (replay_script G H) e

module _ (G : Grammar) (H : Graph) (ok : GrammarOk G) (hok : GraphOk G H) where
  -- A graph is in the grammar's language by at most 4,096 steps exactly when a text with so many applications replays.
  pub member_text : (n : ℕ) → n ≤ 4096 → Member G H n ↔ PassingText G H n
  unfolding rows_of
  member_text n h = (
    λ m. let w = (member_generated G H ok hok n).0 m in
        let t = w.0 in
        let count : size t ≡ n = sym (size_applications G t) ∙ w.2 in
        let small : size t ≤ 4096 = omega (arith, count) in
        record {
          text = derivation_text t;
          listed = rows_of t;
          read = derivation_rows G H ok hok t w.1 small;
          count = length_rows 0 t ∙ count;
          passes = derivation_passes G H ok hok t w.1 small;
        },
    λ p. let d = (replay_decides G H p.listed ok hok).sound (subst T (replay_rows G H p.text p.listed p.read) p.passes) in
        let t = d.derivation in
        let count : size t ≡ n = sym (length_rows 0 t) ∙ sym (ap length d.listed) ∙ p.count in
        (member_generated G H ok hok n).1 (t, d.generates, size_applications G t ∙ count),
  )

  -- A text is that of one tree only.
  pub text_one : (t u : Tree) → Generates G H t → Generates G H u → size t ≤ 4096 → size u ≤ 4096 → derivation_text t ≡ derivation_text u → t ≡ u
  text_one t u g k h l e =
      rows_unique G H G.start H.externals t u g.fits k.fits
      (rows_same (sym (derivation_rows G H ok hok t g h) ∙ ap rows_in e ∙ derivation_rows G H ok hok u k l))
