-- What `derive` prints for K1 to K6, and K2's four lines as 01 has them, by computing the definitions.
use mathlib.Core.Path.{◌≡◌, refl, ap, ◌∙◌}
use mathlib.Core.Bool.{true, cond}
use mathlib.Core.List.{List, [], ◌∷◌, ◌++◌, map}
use Prim.Native.Nat.{ℕ}
use lib.ListN.{length, take, drop, get_or, replicate}
use lib.Dec.{eqb, leb}
use Rattle.masks.specs.Masks.{bit, member, ◌∪◌, disjoint, single, full, within, of_bits}
use Rattle.format.specs.Tests.{all_below, same_bytes}
use Rattle.format.specs.Lines.{with_byte, lines_of, line_bytes, text_of, line_len, line_of, line_start, line_end, is_ended, after_line, counting_start, counting_of}
use Rattle.format.specs.Fields.{column, field_text, digit_of, value_from, value_of, cell_of, field_count, field_bytes, field_of, number_of, numbers_from, fields_of}
use Rattle.format.specs.Shape.{letter_of, letter_kind, kind_letter, is_capital, shape_of}
use Rattle.format.specs.Writing.{fields_text, line_body, line_text, writable, field_fits, line_fits}
use Rattle.hrg.specs.Counts.{hit, occurs, tabulate, up_to, select}
use Rattle.hrg.specs.Items.{below_within, below, is_boundary, is_open, is_open_at, joined, restrict, node_for, attach}
use Rattle.hrg.specs.Trees.{padded, internals, edges_of, inner_of, applications}
use Rattle.hrg.specs.ClosureRun.{same_list, same_item, agree, one_to_one, covering, combine, leaf_at, leaves, with_edge, terminal_at, root_at, unary_of, nonterminal_at, join_at, binary_of}
use Rattle.hrg.specs.WellFormedTest.{every, some, each, listed_test, edge_test, on_edge_test, side_test, plan_test, rule_test, symbol_test, grammar_test, graph_test}
use Rattle.hrg.specs.Grammars.{Grammar, Graph, touches, cost}
use Rattle.hrg.specs.Cases.{Case, k1, k2, k3, k4, k5, k6}
use Rattle.questions.specs.Layout.{grammar_words, graph_words}
use Rattle.questions.specs.Reading.{read_grammar, Done}
use Rattle.questions.specs.Checking.{check_grammar, check_graph, read_graph}
use Rattle.questions.specs.Abstract.{grammar_of, graph_of}
use Rattle.places.specs.Words.{word_by, word_of, bytes_and, places_of}
use Rattle.agenda.specs.Records.{item_of, same_chart_item, plus}
use Rattle.agenda.specs.Consequences.{gather, at_root, terminal_at as terminal_at_agenda, with_terminal, pair, with_partner, consequences, leaf_records}
use Rattle.agenda.specs.Steps.{last_same, placed, added, added_all, lesser, least_waiting, handled_at, step_chart, run_chart, start_chart, runs_chart, handled_count, sum_of}
use Rattle.records.specs.Words.{capacity, item_count, word_at, item_from, record_from, record_at, records_at, lesser_at, chart_of, head_of, tail_of, words_of, put, saved, all_words, written, improved_at, appended_to, placed_in, added_to, marked_at, grown_by}
use Rattle.validity.specs.Checking.{holds, known_edges, known_place, known_places, in_graph, known_second, known_partners, known_active, known_passive, known_record, known_chart}
use Rattle.charting.specs.Calls.{number_of as chart_number, fit, fit_chart, answer_of, start_answer, start_of, run_of, standing_of, runs_of}
use Rattle.scripts.specs.Scripts.{row_lines, rows_text, row_bytes, has_letter, opens, rows_from, script_of, rows_in}
use Rattle.preorder.specs.Rows.{part_numbers, rows_of, size, tree_rows}
use Rattle.preorder.specs.Replay.{fresh, new_nodes, row_test, edge_test as edge_test_preorder, whole, replayed, replays, replay_at}
use Rattle.derivation.specs.Derivations.{derivation_text, replay_text}
use Rattle.extraction.specs.Extraction.{partners_within, partners_at, part_nodes, placed_by, place_at, parts_by, tree_at}
use Rattle.writing.specs.Writing.{write_text, derives, last_of, goal_in, write_of}
use Rattle.trials.specs.Table.{bytes_of, Row, table}
use Rattle.trials.proofs.Checked.{Reading, start_by, run_by, standing_by, writing_by, start_by_is, run_by_is, writing_by_is}
use Rattle.trials.proofs.Readings.{row_at, reading_K1, reading_K2, reading_K3, reading_K4, reading_K5, reading_K6}
use Rattle.programs.specs.Files.{FilesRead, file_bytes, grammar_file, graph_file, files_of}
use Rattle.programs.specs.Programs.{Derived, refused, items, chart_words, output_bytes, when_written, when_ran, refusal_line, steps_line, derived_text, write_chart, derive_tables, derive_files}

-- the bytes that `derive` prints for a row's texts
abbrev printed : Row → List ℕ
printed r = derived_text (derive_files r.trial.grammar r.trial.graph)

-- the derivation and the steps of its one run, or the refusal, as the row tells them
abbrev due : Row → List ℕ
due r = cond (eqb r.told.writing 0) (r.told.bytes ++ steps_line (get_or (get_or r.told.ran 0 []) 1 0)) (refusal_line r.told.writing)

-- ---- `derive` by the grammar and the graph that its files stand for
unfoldable derived_by : Grammar → Graph → List ℕ → List ℕ → Derived
derived_by G H chart out =
    let s = start_by G chart in
    let r = run_by G H s.words items in
    let next = when_ran r.answer (λ steps. let x = writing_by G H r.words out in when_written x.answer x.out steps) in
    cond (eqb (chart_number s.answer) 0) next (refused (chart_number s.answer))

-- the program over any chart and output
unfoldable derived_on : List ℕ → List ℕ → List ℕ → List ℕ → Derived
derived_on g h chart out =
    let s = start_of g h chart in
    let r = run_of g h s.words items in
    let next = when_ran r.answer (λ steps. let x = write_of g h r.words out in when_written x.answer x.out steps) in
    cond (eqb (chart_number s.answer) 0) next (refused (chart_number s.answer))

derived_on_lem : (g h chart out : List ℕ) → check_grammar g ≡ true → check_graph g h ≡ true → derived_on g h chart out ≡ derived_by (grammar_of g) (graph_of g h) chart out
unfolding derived_on derived_by
derived_on_lem g h chart out p q = simp (start_by_is g h p q, run_by_is g h p q, writing_by_is g h p q)

tables_on : (g h : List ℕ) → derive_tables g h ≡ derived_on g h (replicate chart_words 0) (replicate output_bytes 0)
unfolding derive_tables write_chart derived_on
tables_on g h = refl

files_on : (grammar graph formerGrammar formerGraph g h : List ℕ) → leb (length grammar) file_bytes ≡ true → leb (length graph) file_bytes ≡ true
    → read_grammar grammar formerGrammar ≡ record { answer = Done; table = g } → read_graph g graph formerGraph ≡ record { answer = Done; table = h }
    → files_of grammar graph formerGrammar formerGraph ≡ record { refusal = 0; grammar = g; graph = h }
unfolding files_of grammar_file graph_file
files_on grammar graph formerGrammar formerGraph g h l m a b = rw (l, a, m, b)

-- a grammar file and a graph file that are read
abbrev when_read : FilesRead → Derived
when_read t = cond (eqb t.refusal 0) (derive_tables t.grammar t.graph) (refused t.refusal)

files_whole : (grammar graph : List ℕ) → derive_files grammar graph ≡ when_read (files_of grammar graph (replicate grammar_words 0) (replicate graph_words 0))
unfolding derive_files
files_whole grammar graph = refl

prints_by : (grammar graph : List ℕ) (G : Grammar) (H : Graph) → leb (length grammar) file_bytes ≡ true → leb (length graph) file_bytes ≡ true → Reading grammar graph G H
    → derived_text (derive_files grammar graph) ≡ derived_text (derived_by G H (replicate chart_words 0) (replicate output_bytes 0))
prints_by grammar graph G H l m r =
    let chart : List ℕ = replicate chart_words 0 in
    let out : List ℕ = replicate output_bytes 0 in
    ap derived_text
    (files_whole grammar graph
    ∙ ap when_read (files_on grammar graph (replicate grammar_words 0) (replicate graph_words 0) r.g r.h l m r.reads r.reads_graph)
    ∙ tables_on r.g r.h
    ∙ derived_on_lem r.g r.h chart out r.checks r.checks_graph
    ∙ ap (λ (X : Grammar). derived_by X (graph_of r.g r.h) chart out) r.means
    ∙ ap (λ (X : Graph). derived_by G X chart out) r.means_graph)

-- ---- the table's rows
abbrev prints : Case → List ℕ
prints k = derived_text (derived_by k.grammar k.graph (replicate chart_words 0) (replicate output_bytes 0))

by_case : (k : Case) (r : Row) → leb (length r.trial.grammar) file_bytes ≡ true → leb (length r.trial.graph) file_bytes ≡ true → Reading r.trial.grammar r.trial.graph k.grammar k.graph
    → printed r ≡ prints k
by_case k r l m reading = prints_by r.trial.grammar r.trial.graph k.grammar k.graph l m reading

infixr 50 ◌then◌
◌then◌ : {x y : List ℕ} {xs ys : List (List ℕ)} → x ≡ y → xs ≡ ys → (x ∷ xs) ≡ (y ∷ ys)
◌then◌ {x} {y} {xs} {ys} e f = ap (λ (z : List ℕ). z ∷ xs) e ∙ ap (λ (zs : List (List ℕ)). y ∷ zs) f

cases_print : prints k1 ∷ prints k2 ∷ prints k3 ∷ prints k4 ∷ prints k5 ∷ prints k6 ∷ [] ≡ map due (take 6 table)
unfolding start_by run_by standing_by writing_by derived_by bytes_of refusal_line steps_line bit member ◌∪◌ disjoint single full within of_bits all_below same_bytes with_byte lines_of line_bytes text_of line_len line_of line_start line_end is_ended after_line counting_start counting_of column field_text digit_of value_from value_of cell_of field_count field_bytes field_of number_of numbers_from fields_of letter_of letter_kind kind_letter is_capital shape_of fields_text line_body line_text writable field_fits line_fits hit occurs tabulate up_to select below_within below is_boundary is_open is_open_at joined restrict node_for attach padded internals edges_of inner_of applications same_list same_item agree one_to_one covering combine leaf_at leaves with_edge terminal_at root_at unary_of nonterminal_at join_at binary_of every some each listed_test edge_test on_edge_test side_test plan_test rule_test symbol_test grammar_test graph_test touches cost item_of same_chart_item plus gather at_root terminal_at_agenda with_terminal pair with_partner consequences leaf_records last_same placed added added_all lesser least_waiting handled_at step_chart run_chart start_chart runs_chart handled_count sum_of capacity item_count word_by word_of bytes_and places_of word_at item_from record_from record_at records_at lesser_at chart_of head_of tail_of words_of put saved all_words written improved_at appended_to placed_in added_to marked_at grown_by holds known_edges known_place known_places in_graph known_second known_partners known_active known_passive known_record known_chart fit fit_chart answer_of start_answer start_of run_of standing_of runs_of row_lines rows_text row_bytes has_letter opens rows_from script_of rows_in part_numbers rows_of size tree_rows fresh new_nodes row_test edge_test_preorder whole replayed replays replay_at derivation_text replay_text partners_within partners_at part_nodes placed_by place_at parts_by tree_at write_text derives last_of goal_in write_of
cases_print = refl

rows_print : map printed (take 6 table) ≡ prints k1 ∷ prints k2 ∷ prints k3 ∷ prints k4 ∷ prints k5 ∷ prints k6 ∷ []
unfolding bytes_of
rows_print =
    by_case k1 (row_at 0) refl refl reading_K1 then by_case k2 (row_at 1) refl refl reading_K2 then by_case k3 (row_at 2) refl refl reading_K3
    then by_case k4 (row_at 3) refl refl reading_K4 then by_case k5 (row_at 4) refl refl reading_K5 then by_case k6 (row_at 5) refl refl reading_K6 then refl

pub table_prints : map printed (take 6 table) ≡ map due (take 6 table)
table_prints = rows_print ∙ cases_print

-- 01: '`derive` on K2 writes exactly'
K2Due : map due (take 1 (drop 1 table)) ≡ bytes_of "D   2\nA   0   1   0   2   1   0   1\nA   1   0   1   2   1\nC  10\n" ∷ []
unfolding bytes_of steps_line refusal_line line_text line_body fields_text field_text column digit_of
K2Due = refl

pub K2Prints : map printed (take 1 (drop 1 table)) ≡ bytes_of "D   2\nA   0   1   0   2   1   0   1\nA   1   0   1   2   1\nC  10\n" ∷ []
K2Prints = ap (λ (l : List (List ℕ)). take 1 (drop 1 l)) table_prints ∙ K2Due
