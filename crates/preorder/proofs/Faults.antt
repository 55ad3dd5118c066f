-- K2's derivation is the rows that 01 prints, and replays; rows with one fault do not, though grammars and graphs are
-- well-formed.
use mathlib.Core.Path.{◌≡◌, refl}
use mathlib.Core.Bool.{true, false, ◌&&◌}
use mathlib.Core.List.{[], ◌∷◌, map}
use Rattle.hrg.specs.Cases.{grammar_a, k2}
use Rattle.hrg.specs.WellFormedTest.{grammar_test, graph_test}
use Rattle.preorder.specs.Rows.{rows_of}
use Rattle.preorder.specs.Replay.{replays}
use Rattle.preorder.specs.Faults.{Trial, tree_of_k2, printed, faults}

pub k2_rows_lem : rows_of tree_of_k2 ≡ printed
unfolding rows_of
k2_rows_lem = refl

pub k2_replays : replays grammar_a k2.graph printed ≡ true
unfolding replays
k2_replays = refl

pub faults_refused : map (λ (x : Trial). replays x.grammar x.graph x.rows) faults ≡ false ∷ false ∷ false ∷ false ∷ false ∷ false ∷ false ∷ false ∷ []
unfolding replays
faults_refused = refl

pub faults_well_formed : map (λ (x : Trial). grammar_test x.grammar && graph_test x.grammar x.graph) faults ≡ true ∷ true ∷ true ∷ true ∷ true ∷ true ∷ true ∷ true ∷ []
unfolding grammar_test graph_test
faults_well_formed = refl
