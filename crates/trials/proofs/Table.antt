-- The table of K1 to K10 holds, by computing the definitions.
use mathlib.Core.Path.{◌≡◌, refl, ap, ◌∙◌}
use mathlib.Core.List.{List, [], ◌∷◌, map}
use Rattle.masks.specs.Masks.{bit, member, ◌∪◌, disjoint, single, full, within, of_bits}
use Rattle.format.specs.Tests.{all_below, same_bytes}
use Rattle.format.specs.Lines.{with_byte, lines_of, line_bytes, text_of, line_len, line_of, line_start, line_end, is_ended, after_line, counting_start, counting_of}
use Rattle.format.specs.Fields.{column, field_text, digit_of, value_from, value_of, cell_of, field_count, field_bytes, field_of, number_of, numbers_from, fields_of}
use Rattle.format.specs.Shape.{letter_of, letter_kind, kind_letter, is_capital, shape_of}
use Rattle.format.specs.Writing.{fields_text, line_body, line_text, writable, field_fits, line_fits}
use Rattle.hrg.specs.Counts.{hit, occurs, tabulate, up_to, select}
use Rattle.hrg.specs.Items.{below_within, below, is_boundary, is_open, is_open_at, joined, restrict, node_for, attach}
use Rattle.hrg.specs.Trees.{padded, internals, edges_of, inner_of, applications}
use Rattle.hrg.specs.ClosureRun.{same_list, same_item, agree, one_to_one, covering, combine, leaf_at, leaves, with_edge, terminal_at, root_at, unary_of, nonterminal_at, join_at, binary_of}
use Rattle.hrg.specs.WellFormedTest.{every, some, each, listed_test, edge_test, on_edge_test, side_test, plan_test, rule_test, symbol_test, grammar_test, graph_test}
use Rattle.hrg.specs.Grammars.{touches, cost}
use Rattle.places.specs.Words.{word_by, word_of, bytes_and, places_of}
use Rattle.agenda.specs.Records.{item_of, same_chart_item, plus}
use Rattle.agenda.specs.Consequences.{gather, at_root, terminal_at as terminal_at_agenda, with_terminal, pair, with_partner, consequences, leaf_records}
use Rattle.agenda.specs.Steps.{last_same, placed, added, added_all, lesser, least_waiting, handled_at, step_chart, run_chart, start_chart, runs_chart, handled_count, sum_of}
use Rattle.records.specs.Words.{words_for, capacity, item_count, word_at, item_from, record_from, record_at, records_at, lesser_at, chart_of, head_of, tail_of, words_of, put, saved, all_words, written, improved_at, appended_to, placed_in, added_to, marked_at, grown_by}
use Rattle.validity.specs.Checking.{holds, known_edges, known_place, known_places, in_graph, known_second, known_partners, known_active, known_passive, known_record, known_chart}
use Rattle.charting.specs.Calls.{fit, fit_chart, answer_of, start_answer, start_of, run_of, standing_of, runs_of}
use Rattle.scripts.specs.Scripts.{row_lines, rows_text, row_bytes, has_letter, opens, rows_from, script_of, rows_in}
use Rattle.preorder.specs.Rows.{part_numbers, rows_of, size, tree_rows}
use Rattle.preorder.specs.Replay.{fresh, new_nodes, row_test, edge_test as edge_test_preorder, whole, replayed, replays, replay_at}
use Rattle.derivation.specs.Derivations.{derivation_text, replay_text}
use Rattle.extraction.specs.Extraction.{partners_within, partners_at, part_nodes, placed_by, place_at, parts_by, tree_at}
use Rattle.writing.specs.Writing.{write_text, derives, last_of, goal_in, write_of}
use Rattle.hrg.specs.Cases.{Case, k1, k2, k3, k4, k5, k6}
use lib.ListN.{replicate}
use Rattle.trials.specs.Trials.{Trial, Told, told}
use Rattle.trials.specs.Table.{bytes_of, Row, table}
use Rattle.trials.proofs.Checked.{Reading, start_by, run_by, runs_by, answers_by, standing_by, writing_by, told_by, told_by_lem}
use Rattle.trials.proofs.Readings.{row_at, reading_K1, reading_K2, reading_K3, reading_K4, reading_K5, reading_K6}

-- what a case tells with a row's chart, runs and output
abbrev tells : Case → Trial → Told
tells k t = told_by k.grammar k.graph (replicate (words_for t.items) 0) (replicate t.room 0) t.runs

-- a row whose texts are those of a case
by_case : (k : Case) (r : Row) → Reading r.trial.grammar r.trial.graph k.grammar k.graph → told r.trial ≡ tells k r.trial
by_case k r reading = told_by_lem r.trial k.grammar k.graph reading

infixr 50 ◌then◌
◌then◌ : {x y : Told} {xs ys : List Told} → x ≡ y → xs ≡ ys → (x ∷ xs) ≡ (y ∷ ys)
◌then◌ {x} {y} {xs} {ys} e f = ap (λ (z : Told). z ∷ xs) e ∙ ap (λ (zs : List Told). y ∷ zs) f

-- each row's case tells what the row says
abbrev by_cases : List Told
by_cases =
    tells k1 (row_at 0).trial ∷ tells k2 (row_at 1).trial ∷ tells k3 (row_at 2).trial ∷ tells k4 (row_at 3).trial ∷ tells k5 (row_at 4).trial ∷ tells k6 (row_at 5).trial ∷ tells k2 (row_at 6).trial
    ∷ tells k2 (row_at 7).trial ∷ tells k2 (row_at 8).trial ∷ tells k2 (row_at 9).trial ∷ tells k2 (row_at 10).trial ∷ tells k2 (row_at 11).trial ∷ tells k2 (row_at 12).trial ∷ []

cases_tell : by_cases ≡ map (λ (r : Row). r.told) table
unfolding start_by run_by runs_by answers_by standing_by writing_by told_by bytes_of bit member ◌∪◌ disjoint single full within of_bits all_below same_bytes with_byte lines_of line_bytes text_of line_len line_of line_start line_end is_ended after_line counting_start counting_of column field_text digit_of value_from value_of cell_of field_count field_bytes field_of number_of numbers_from fields_of letter_of letter_kind kind_letter is_capital shape_of fields_text line_body line_text writable field_fits line_fits hit occurs tabulate up_to select below_within below is_boundary is_open is_open_at joined restrict node_for attach padded internals edges_of inner_of applications same_list same_item agree one_to_one covering combine leaf_at leaves with_edge terminal_at root_at unary_of nonterminal_at join_at binary_of every some each listed_test edge_test on_edge_test side_test plan_test rule_test symbol_test grammar_test graph_test touches cost item_of same_chart_item plus gather at_root terminal_at_agenda with_terminal pair with_partner consequences leaf_records last_same placed added added_all lesser least_waiting handled_at step_chart run_chart start_chart runs_chart handled_count sum_of capacity item_count word_by word_of bytes_and places_of word_at item_from record_from record_at records_at lesser_at chart_of head_of tail_of words_of put saved all_words written improved_at appended_to placed_in added_to marked_at grown_by holds known_edges known_place known_places in_graph known_second known_partners known_active known_passive known_record known_chart fit fit_chart answer_of start_answer start_of run_of standing_of runs_of row_lines rows_text row_bytes has_letter opens rows_from script_of rows_in part_numbers rows_of size tree_rows fresh new_nodes row_test edge_test_preorder whole replayed replays replay_at derivation_text replay_text partners_within partners_at part_nodes placed_by place_at parts_by tree_at write_text derives last_of goal_in write_of
cases_tell = refl

pub table_holds : map (λ (r : Row). told r.trial) table ≡ map (λ (r : Row). r.told) table
table_holds =
    (by_case k1 (row_at 0) reading_K1 then by_case k2 (row_at 1) reading_K2 then by_case k3 (row_at 2) reading_K3 then by_case k4 (row_at 3) reading_K4 then by_case k5 (row_at 4) reading_K5 then by_case k6 (row_at 5) reading_K6
    then by_case k2 (row_at 6) reading_K2 then by_case k2 (row_at 7) reading_K2 then by_case k2 (row_at 8) reading_K2 then by_case k2 (row_at 9) reading_K2 then by_case k2 (row_at 10) reading_K2 then by_case k2 (row_at 11) reading_K2 then by_case k2 (row_at 12) reading_K2 then refl)
    ∙ cases_tell
