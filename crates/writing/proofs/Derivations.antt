-- Demand 2 of what the writer writes, in the request's words: membership is edge replacement, a written derivation
-- replays to exactly the graph, and untouched since the start it has the fewest applications.
use Rattle.std.specs.Prelude.{Ok, Err}
use mathlib.Core.Path.{◌≡◌, refl, ap}
use mathlib.Core.Logic.{◌↔◌}
use mathlib.Core.Bool.{true}
use mathlib.Core.List.{List}
use Prim.Native.Nat.{ℕ, ◌≤◌}
use native.Mathlib.Omega.{arith}
use lib.ListN.{take}
use Rattle.hrg.specs.Trees.{Tree, applications}
use Rattle.hrg.specs.Replacement.{Member}
use Rattle.hrg.proofs.Degrees.{test_T, T_test}
use Rattle.hrg.proofs.Replacement.{member_generated}
use Rattle.questions.specs.Abstract.{grammar_of, graph_of}
use Rattle.records.specs.Words.{chart_of}
use Rattle.charting.specs.Calls.{fit, start_of}
use Rattle.charting.proofs.Calls.{chart_fit, fit_grammar, fit_graph}
use Rattle.preorder.specs.Rows.{size}
use Rattle.preorder.proofs.Rows.{size_applications}
use Rattle.derivation.specs.Derivations.{derivation_text, replay_text, ReplayedFrom}
use Rattle.derivation.proofs.Derivations.{replay_text_is, replay_member}
use Rattle.writing.specs.Writing.{number_of, refused, write_of}
use Rattle.writing.specs.Demand.{Call, after_calls, AllHandled}
use Rattle.writing.specs.declared.WriteError.TheVariants.{Underivable}
use Rattle.writing.proofs.Writings.{written_fit, written_derivation}
use Rattle.writing.proofs.Demand.{demand_3}
use Rattle.writing.proofs.Choices.{write_choices}

-- 'Membership means edge replacement': with nothing left, 11 says that no number of replacement steps leads from the
-- start edge to the graph.
pub refused_member : (g h w : List ℕ) → fit g h w ≡ true → (cs : List Call) → (chart_of (after_calls g h (start_of g h w).words cs)).mark ≡ 0
    → AllHandled (chart_of (after_calls g h (start_of g h w).words cs)).records → (out : List ℕ)
    → (write_of g h (after_calls g h (start_of g h w).words cs) out ≡ refused (Err Underivable) out) ↔ ((n : ℕ) → Member (grammar_of g) (graph_of g h) n → ⊥)
refused_member g h w e cs m all out =
    let by = (demand_3 g h w e cs).underivable m all out in
    let member = member_generated (grammar_of g) (graph_of g h) (fit_grammar g h w e) (fit_graph g h w e) in (
      λ q n x. let t = (member n).0 x in by.0 q t.0 t.1,
      λ none. by.1 (λ t generates. none (applications (grammar_of g) t) ((member (applications (grammar_of g) t)).1 (t, generates, refl))),
    )

module _ (g h w out : List ℕ) (n : ℕ) (e : (write_of g h w out).answer ≡ Ok n) where
  -- the bytes that are written
  abbrev text : List ℕ
  text = take n (write_of g h w out).out

  fits : fit g h w ≡ true
  fits = chart_fit g h w (written_fit g h w out (ap number_of e))

  -- whatever the chart, the replay passes what is written
  pub written_passes : replay_text (grammar_of g) (graph_of g h) (take n (write_of g h w out).out) ≡ true
  written_passes =
      T_test _ ((replay_text_is (grammar_of g) (graph_of g h) (fit_grammar g h w fits) (fit_graph g h w fits) (take n (write_of g h w out).out)).complete (written_derivation g h w out n e))

  -- 'An accepted graph's derivation replays from one start edge to exactly that graph'
  pub written_replays : ReplayedFrom (grammar_of g) (graph_of g h) (take n (write_of g h w out).out)
  written_replays = replay_member (grammar_of g) (graph_of g h) (fit_grammar g h w fits) (fit_graph g h w fits) (take n (write_of g h w out).out) (test_T _ written_passes)

  -- '.. and with the fewest rule applications possible if grammar, graph and chart are untouched since the start': no
  -- replacement sequence is shorter
  pub written_fewest : (former : List ℕ) (cs : List Call) → fit g h former ≡ true → w ≡ after_calls g h (start_of g h former).words cs
      → (t : Tree) × (take n (write_of g h w out).out ≡ derivation_text t) × ((m : ℕ) → Member (grammar_of g) (graph_of g h) m → size t ≤ m)
  written_fewest former cs f q =
      let c = (write_choices g h w out).fewest former cs f q n e in (
        c.0,
        c.2,
        λ m x.
            let t = (member_generated (grammar_of g) (graph_of g h) (fit_grammar g h w fits) (fit_graph g h w fits) m).0 x in
            omega (arith, c.1.least t.0 t.1, t.2, size_applications (grammar_of g) c.0),
      )
