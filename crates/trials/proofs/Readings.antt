-- The tables that the texts of grammars A and B and of graphs K1 to K6 fill, and what they stand for.
use mathlib.Core.Path.{◌≡◌, refl, ap, ◌∙◌}
use mathlib.Core.Bool.{true, false}
use mathlib.Core.List.{List, []}
use Prim.Native.Nat.{ℕ}
use lib.ListN.{get_or, replicate}
use Rattle.format.specs.Tests.{all_below, same_bytes}
use Rattle.format.specs.Lines.{with_byte, lines_of, line_bytes, text_of, line_len, line_of, line_start, line_end, is_ended, after_line, counting_start, counting_of}
use Rattle.format.specs.Fields.{column, field_text, digit_of, value_from, value_of, cell_of, field_count, field_bytes, field_of, number_of, numbers_from, fields_of}
use Rattle.format.specs.Shape.{letter_of, letter_kind, kind_letter, is_capital, shape_of}
use Rattle.hrg.specs.Counts.{hit, occurs, tabulate, up_to, select}
use Rattle.hrg.specs.Grammars.{Grammar, Graph}
use Rattle.hrg.specs.Cases.{grammar_a, grammar_b, k1, k2, k3, k4, k5, k6}
use Rattle.hrg.specs.WellFormedTest.{every, some, each}
use Rattle.questions.specs.Layout.{grammar_words, graph_words, place_of, letter_due, in_table, word_field, line_field, packed, stored}
use Rattle.questions.specs.Questions.{listed, covered, judge_grammar, judge_symbol, judge_rule, nodes_on_edges, judge_rule_edge, children_of, introduced_by, children_before, introduced_before, plan_so_far, plan_whole, judge_plan, judge_graph, nodes_on_graph, judge_graph_edge, judge}
use Rattle.questions.specs.Reading.{Outcome, next, judge_line, read_lines, grammar_verdict, graph_verdict, delivered, read_grammar, Answer, Done}
use Rattle.questions.specs.Checking.{check_grammar, read_graph}
use Rattle.questions.specs.Abstract.{build, rule_from, grammar_of, graph_of}
use Rattle.questions.proofs.Refusals.{grammar_passed_first}
use Rattle.questions.proofs.Filled.{grammar_filled_check, graph_filled_check}
use Rattle.trials.specs.Trials.{Trial}
use Rattle.trials.specs.Table.{bytes_of, Row, table}
use Rattle.trials.proofs.Checked.{Reading, accepted_whole}

abbrev none : Row
none = record { trial = record { grammar = []; graph = []; items = 0; runs = []; room = 0 }; told = record { opening = []; ran = []; kept = false; writing = 0; bytes = [] } }

-- a row of the table
abbrev pub row_at : ℕ → Row
row_at i = get_or table i none

abbrev pub trial_at : ℕ → Trial
trial_at i = (row_at i).trial

-- ---- a grammar's text, and a graph's text with the table that it fills
abbrev reads : List ℕ → Outcome
reads text = read_grammar text (replicate grammar_words 0)

unfoldable filled : List ℕ → List ℕ
filled text = (reads text).table

abbrev delivers : List ℕ → List ℕ → Outcome
delivers g graph = delivered graph_words (graph_verdict g graph) (replicate graph_words 0)

-- what is computed of each text, at once
record Shown (A : Type 0) : Type 0 where
  answer : Answer
  meaning : A

abbrev shown : List ℕ → Shown Grammar
shown text = let o = reads text in record { answer = o.answer; meaning = grammar_of o.table }

abbrev shown_graph : List ℕ → List ℕ → Shown Graph
shown_graph g graph = let o = delivers g graph in record { answer = o.answer; meaning = graph_of g o.table }

abbrev accepted : {A : Type 0} → A → Shown A
accepted x = record { answer = Done; meaning = x }

module _ (text : List ℕ) (G : Grammar) (a : shown text ≡ accepted G) where
  filled_reads : reads text ≡ record { answer = Done; table = filled text }
  unfolding filled
  filled_reads = accepted_whole (reads text) (ap (λ (s : Shown Grammar). s.answer) a)

  filled_checks : check_grammar (filled text) ≡ true
  filled_checks = grammar_filled_check (filled text) (record { text = text; former = replicate grammar_words 0; read = filled_reads })

  filled_means : grammar_of (filled text) ≡ G
  unfolding filled
  filled_means = ap (λ (s : Shown Grammar). s.meaning) a

  module _ (graph : List ℕ) (H : Graph) (b : shown_graph (filled text) graph ≡ accepted H) where
    reads_graph_lem : read_graph (filled text) graph (replicate graph_words 0) ≡ record { answer = Done; table = (delivers (filled text) graph).table }
    reads_graph_lem = grammar_passed_first (filled text) graph (replicate graph_words 0) filled_checks ∙ accepted_whole (delivers (filled text) graph) (ap (λ (s : Shown Graph). s.answer) b)

    reading : Reading text graph G H
    reading = record {
      g = filled text;
      h = (delivers (filled text) graph).table;
      reads = filled_reads;
      reads_graph = reads_graph_lem;
      checks = filled_checks;
      checks_graph = (graph_filled_check (filled text) (delivers (filled text) graph).table (record { text = graph; former = replicate graph_words 0; read = reads_graph_lem })).1;
      means = filled_means;
      means_graph = ap (λ (s : Shown Graph). s.meaning) b;
    }

-- ---- the texts of the table
record TextsShown : Type 0 where
  A : shown (trial_at 0).grammar ≡ accepted grammar_a
  B : shown (trial_at 4).grammar ≡ accepted grammar_b
  K1 : shown_graph (filled (trial_at 0).grammar) (trial_at 0).graph ≡ accepted k1.graph
  K2 : shown_graph (filled (trial_at 0).grammar) (trial_at 1).graph ≡ accepted k2.graph
  K3 : shown_graph (filled (trial_at 0).grammar) (trial_at 2).graph ≡ accepted k3.graph
  K4 : shown_graph (filled (trial_at 0).grammar) (trial_at 3).graph ≡ accepted k4.graph
  K5 : shown_graph (filled (trial_at 4).grammar) (trial_at 4).graph ≡ accepted k5.graph
  K6 : shown_graph (filled (trial_at 0).grammar) (trial_at 5).graph ≡ accepted k6.graph

texts_shown : TextsShown
unfolding bytes_of all_below same_bytes with_byte lines_of line_bytes text_of line_len line_of line_start line_end is_ended after_line counting_start counting_of column field_text digit_of value_from value_of cell_of field_count field_bytes field_of number_of numbers_from fields_of letter_of letter_kind kind_letter is_capital shape_of hit occurs tabulate up_to select every some each place_of letter_due in_table word_field line_field packed stored listed covered judge_grammar judge_symbol judge_rule nodes_on_edges judge_rule_edge children_of introduced_by children_before introduced_before plan_so_far plan_whole judge_plan judge_graph nodes_on_graph judge_graph_edge judge next judge_line read_lines grammar_verdict graph_verdict delivered read_grammar build rule_from grammar_of graph_of filled
texts_shown = record { A = refl; B = refl; K1 = refl; K2 = refl; K3 = refl; K4 = refl; K5 = refl; K6 = refl }

pub reading_K1 : Reading (trial_at 0).grammar (trial_at 0).graph k1.grammar k1.graph
reading_K1 = reading (trial_at 0).grammar grammar_a texts_shown.A (trial_at 0).graph k1.graph texts_shown.K1

pub reading_K2 : Reading (trial_at 1).grammar (trial_at 1).graph k2.grammar k2.graph
reading_K2 = reading (trial_at 0).grammar grammar_a texts_shown.A (trial_at 1).graph k2.graph texts_shown.K2

pub reading_K3 : Reading (trial_at 2).grammar (trial_at 2).graph k3.grammar k3.graph
reading_K3 = reading (trial_at 0).grammar grammar_a texts_shown.A (trial_at 2).graph k3.graph texts_shown.K3

pub reading_K4 : Reading (trial_at 3).grammar (trial_at 3).graph k4.grammar k4.graph
reading_K4 = reading (trial_at 0).grammar grammar_a texts_shown.A (trial_at 3).graph k4.graph texts_shown.K4

pub reading_K5 : Reading (trial_at 4).grammar (trial_at 4).graph k5.grammar k5.graph
reading_K5 = reading (trial_at 4).grammar grammar_b texts_shown.B (trial_at 4).graph k5.graph texts_shown.K5

pub reading_K6 : Reading (trial_at 5).grammar (trial_at 5).graph k6.grammar k6.graph
reading_K6 = reading (trial_at 0).grammar grammar_a texts_shown.A (trial_at 5).graph k6.graph texts_shown.K6
