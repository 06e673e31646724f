-- A record that holds has its row joined; another adds nothing.
use Rattle.std.proofs.Common.{sym, ◌∙◌}
use Rattle.std.proofs.lemmas.Result.{err_from_is_err_and}
use Rattle.read_names.proofs.Linked.{joining_start, joining_same, joining_more, joining_all, joining_full, record_adds, record_adds_nothing, record_among, all_records, no_records}
use Rattle.read_names.proofs.reached.join_rows.Goals as goal
use Rattle.read_names.proofs.reached.join_rows.Goals.{then-holds+in_ok-join_row, else-holds}

pub loop-held-init : goal.loop-held-init
loop-held-init c = joining_start _ c.requires.1 (no_records c.args.minute c.args.records.now)

pub join_row-requires : goal.join_row-requires
join_row-requires c = (c.requires.0.sound c.loop-held.held-index c.loop-held-test.true, c.loop-held.invariant.filled)

pub returns-in_err-join_row : goal.returns-in_err-join_row
returns-in_err-join_row c =
    let p = err_from_is_err_and c.from_residual.result c.from_residual.ensures.1 in
    rw (p.1, p.2) (joining_full c.loop-held.invariant (record_among c.args.minute c.args.records.now c.loop-held.held-index c.loop-held-test.true (sym c.holds.ensures ∙ c.if-holds.true)) c.in_err-join_row.ensures)

pub loop-held-preserved : goal.loop-held-preserved
loop-held-preserved c =
    let i = c.loop-held.held-index in
    elim c.if-holds.branch [
      | then-holds+in_ok-join_row w ↦
          rw w.area-is (joining_more c.loop-held.invariant (record_adds c.args.minute c.args.records.now i c.loop-held-test.true (sym c.holds.ensures ∙ w.if-holds.true)) w.join_row.auto.area w.in_ok-join_row.ensures)
      | else-holds w ↦ rw w.area-is (joining_same c.loop-held.invariant (record_adds_nothing c.args.minute c.args.records.now i c.loop-held-test.true (sym c.holds.ensures ∙ w.if-holds.false)))
    ]

pub returns : goal.returns
returns c = joining_all (joining_same c.loop-held.invariant (all_records c.args.minute c.args.records.now c.loop-held.held-index c.loop-held-test.false))
