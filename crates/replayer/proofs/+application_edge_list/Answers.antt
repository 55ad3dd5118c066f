-- A law for each way that a call goes; the applications and edges left fall.
use native.Mathlib.Omega.{arith}
use mathlib.Core.Path.{refl, sym, ap, ◌∙◌}
use mathlib.Core.Bool.{true}
use lib.ListN.{length}
use Rattle.format.proofs.FieldLaws.{fields_length}
use Rattle.joins.proofs.Known.{graph_ok}
use Rattle.replayer.specs.Following.{progress_in}
use Rattle.replayer.proofs.MaskTests.{edge_known, ruled}
use Rattle.replayer.proofs.RowParts.{of_edge, of_row, edges_small, listed_take}
use Rattle.replayer.proofs.Following.{fields_few, row_few, applied_past, applied_refused, taken_sized, row_opened, edge_used, applied_passing, opened_rows, opened_falls, applied_opened, followed_end, followed_refused, used_rows, used_falls, followed_edge, followed_unnumbered, followed_under_failed, after_falls, followed_under}
use Rattle.replayer.proofs.+application_edge_list.Goals as goal

pub application-returns-then-text-st : goal.application-returns-then-text-st
application-returns-then-text-st t c =
    applied_past _ _ _ _ _ _ _ c.requires c.if-text-st.true refl

pub application-read_row-count-requires : goal.application-read_row-count-requires
application-read_row-count-requires t c =
    fields_few _ _ _ c.requires c.if-text-st.false _ c.next_line-line.ensures.contents

pub application-slice_bounds-fields-end : goal.application-slice_bounds-fields-end
application-slice_bounds-fields-end t c =
    omega (
      arith,
      c.read_row-count.ensures.0,
      fields_few _ _ _ c.requires c.if-text-st.false _
          c.next_line-line.ensures.contents,
    )

pub application-slice_bounds-row-end : goal.application-slice_bounds-row-end
application-slice_bounds-row-end t c =
    let read = c.read_row-count.ensures in
    read.0 ∙ sym (ap length read.1 ∙ fields_length _)

pub application-open_row-requires : goal.application-open_row-requires
application-open_row-requires t c =
    let pre = c.requires in
    let inside = c.if-text-st.false in
    (row_few _ _ _ pre inside, omega (arith, inside), c.next_line-line.ensures.contents)

pub application-invariant_of-row : goal.application-invariant_of-row
application-invariant_of-row t c = record {
  sized = taken_sized _ _ _ _ _ (progress_in true c.args.st.now) c.requires c.if-text-st.false _
      c.next_line-line.ensures.contents _ c.read_row-count.ensures.1 _ c.taken-taken.ensures _ c.in-Some.is;
}

pub application-edge_list-requires : goal.application-edge_list-requires
application-edge_list-requires t c =
    let pre = c.requires in
    let inside = c.if-text-st.false in
    let p = progress_in true c.args.st.now in
    let line = c.next_line-line.ensures.contents in
    let fields = c.read_row-count.ensures.1 in
    let answer = c.taken-taken.ensures in
    let taken = c.in-Some.is in
    let opened = row_opened c.args.st.now c.open_row.new.st _ _ _
    c.open_row.ensures in
    let sized = taken_sized _ _ _ _ _ p pre inside _ line _ fields _ answer _ taken in
    let few = edges_small _ _ c.args.t.now.fit.grammar (ruled _ _ _ sized) in (
      omega (arith, opened_falls _ _ _ _ _ p pre inside _ line _ fields _ answer _ taken _ opened few),
      opened_rows _ p pre inside _ _ opened,
    )

pub application-returns-in-None : goal.application-returns-in-None
application-returns-in-None t c =
    let pre = c.requires in
    applied_refused _ _ _ _ _ (progress_in true c.args.st.now) pre c.if-text-st.false _
    c.next_line-line.ensures.contents _ c.read_row-count.ensures.1 _
    c.taken-taken.ensures _ c.in-None.is refl

pub application-returns-in-Some : goal.application-returns-in-Some
application-returns-in-Some t c =
    let pre = c.requires in
    let inside = c.if-text-st.false in
    let p = progress_in true c.args.st.now in
    let line = c.next_line-line.ensures.contents in
    let fields = c.read_row-count.ensures.1 in
    let answer = c.taken-taken.ensures in
    let taken = c.in-Some.is in
    let opened = row_opened c.args.st.now c.open_row.new.st _ _ _
    c.open_row.ensures in
    let sized = taken_sized _ _ _ _ _ p pre inside _ line _ fields _ answer _ taken in
    let few = edges_small _ _ c.args.t.now.fit.grammar (ruled _ _ _ sized) in
    applied_opened _ _ _ _ _ p pre inside _ line _ fields _ answer _ taken _ opened few _
    c.edge_list.ensures

pub edge_list-edge_passes-requires : goal.edge_list-edge_passes-requires
edge_list-edge_passes-requires t c =
    let part = sym c.part_at-part.ensures ∙ c.in-GraphEdge.is in
    (of_edge _ _ _ _ part).known

pub edge_list-returns-then-not-edge_passes : goal.edge_list-returns-then-not-edge_passes
edge_list-returns-then-not-edge_passes t c =
    followed_refused _ _ _ _ c.args.row.now.sized _ _ _ (sym c.part_at-part.ensures ∙ c.in-GraphEdge.is) _
    c.edge_passes.ensures _ c.if-not-edge_passes.true refl

pub edge_list-use_edge-requires : goal.edge_list-use_edge-requires
edge_list-use_edge-requires t c =
    let passed = sym c.edge_passes.ensures ∙ c.if-not-edge_passes.false in
    omega (arith, edge_known _ _ _ _ _ passed, (graph_ok _ _ c.args.row.now.tables.fit).side.edge_count.upper)

pub edge_list-overflow_add-i : goal.edge_list-overflow_add-i
edge_list-overflow_add-i t c =
    let row = c.args.row.now in
    let part = sym c.part_at-part.ensures ∙ c.in-GraphEdge.is in
    omega (arith, (of_edge _ _ _ _ part).known, edges_small _ _ row.tables.fit.grammar (ruled _ _ _ row.sized))

pub edge_list-edge_list-requires : goal.edge_list-edge_list-requires
edge_list-edge_list-requires t c =
    let st = c.args.st.now in
    let part = sym c.part_at-part.ensures ∙ c.in-GraphEdge.is in
    let used = edge_used st c.use_edge.new.st _ c.use_edge.ensures in (
      omega (
        arith,
        used_falls _ _ c.args.text.now _ c.args.row.now.sized _ (progress_in true st) _ part _
            c.edge_passes.ensures c.if-not-edge_passes.false _ used,
      ),
      used_rows _ (progress_in true st) _ c.requires _ used,
    )

pub edge_list-returns-then-number-st : goal.edge_list-returns-then-number-st
edge_list-returns-then-number-st t c =
    let part = sym c.part_at-part.ensures ∙ c.in-Application.is in
    followed_unnumbered _ _ _ _ c.args.row.now.sized _ _ _ _ part _ c.if-number-st.true refl

pub edge_list-list_nodes-requires : goal.edge_list-list_nodes-requires
edge_list-list_nodes-requires t c =
    let part = sym c.part_at-part.ensures ∙ c.in-Application.is in
    ((of_row _ _ _ _ _ part).known, refl)

pub edge_list-returns-then-not-application : goal.edge_list-returns-then-not-application
edge_list-returns-then-not-application t c =
    let row = c.args.row.now in
    let part = sym c.part_at-part.ensures ∙ c.in-Application.is in
    let own = of_row _ _ _ _ _ part in
    let nodes = listed_take _ _ row.tables.fit.grammar (ruled _ _ _ row.sized) _ own.known _ _ own.symbol
    c.list_nodes.ensures in
    followed_under_failed _ _ _ _ row.sized _ _ _ _ part c.if-number-st.false _ nodes _
    c.application.ensures c.if-not-application.true _ refl

pub edge_list-overflow_add-i-in-Application : goal.edge_list-overflow_add-i-in-Application
edge_list-overflow_add-i-in-Application t c =
    let row = c.args.row.now in
    let part = sym c.part_at-part.ensures ∙ c.in-Application.is in
    omega (arith, (of_row _ _ _ _ _ part).known, edges_small _ _ row.tables.fit.grammar (ruled _ _ _ row.sized))

pub edge_list-edge_list-requires-in-Application : goal.edge_list-edge_list-requires-in-Application
edge_list-edge_list-requires-in-Application t c =
    let row = c.args.row.now in
    let part = sym c.part_at-part.ensures ∙ c.in-Application.is in
    let own = of_row _ _ _ _ _ part in
    let nodes = listed_take _ _ row.tables.fit.grammar (ruled _ _ _ row.sized) _ own.known _ _ own.symbol
    c.list_nodes.ensures in
    let passed = c.if-not-application.false in
    let under = applied_passing _ _ _ _ _ _ _ c.application.new.st passed
    c.application.ensures in (
      omega (arith, after_falls _ _ _ _ row.sized _ _ _ _ part c.if-number-st.false _ nodes _ under refl),
      c.application.ensures.onward passed,
    )

pub edge_list-returns-in-End : goal.edge_list-returns-in-End
edge_list-returns-in-End t c =
    followed_end _ _ _ _ c.args.row.now.sized _ _ (sym c.part_at-part.ensures ∙ c.in-End.is)
    c.requires

pub edge_list-returns-else-not-edge_passes : goal.edge_list-returns-else-not-edge_passes
edge_list-returns-else-not-edge_passes t c =
    let st = c.args.st.now in
    let part = sym c.part_at-part.ensures ∙ c.in-GraphEdge.is in
    let used = edge_used st c.use_edge.new.st _ c.use_edge.ensures in
    followed_edge _ _ _ _ c.args.row.now.sized _ (progress_in true st) _ part _ c.edge_passes.ensures
    c.if-not-edge_passes.false _ used _ c.edge_list.ensures

pub edge_list-returns-else-not-application : goal.edge_list-returns-else-not-application
edge_list-returns-else-not-application t c =
    let row = c.args.row.now in
    let part = sym c.part_at-part.ensures ∙ c.in-Application.is in
    let own = of_row _ _ _ _ _ part in
    let nodes = listed_take _ _ row.tables.fit.grammar (ruled _ _ _ row.sized) _ own.known _ _ own.symbol
    c.list_nodes.ensures in
    let passed = c.if-not-application.false in
    let under = applied_passing _ _ _ _ _ _ _ c.application.new.st passed
    c.application.ensures in
    followed_under _ _ _ _ row.sized _ _ _ _ part c.if-number-st.false _ nodes _ under refl _
    c.edge_list-in-Application.ensures
