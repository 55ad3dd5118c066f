-- The measures: the applications left, and with them the edges left of the row's rule. No word of the code holds them.
use Rattle.joins.specs.Tables.{grammar_in}
use Rattle.replayer.specs.Following.{left_at, left_from}
use Rattle.replayer.proofs.+application_edge_list.Given as goal

abbrev pub decreases-application : goal.decreases-application
decreases-application l = left_at l.text.now l.st.now.next

abbrev pub decreases-edge_list : goal.decreases-edge_list
decreases-edge_list l = left_from (grammar_in l.row.now.tables) l.text.now l.row.now.fields.now l.i l.st.now.next
