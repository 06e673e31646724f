use Rattle.std.proofs.Common.{arith}
use Rattle.std.proofs.lemmas.Result.{err_from_is_err_and}
use Rattle.read_values.proofs.Answers.{ticked_done, ticked_refused}
use Rattle.read_steps.proofs.Drawing.{ask_row, row_inside, row_narrow, seeking_limit, seeking_miss, seeking_hit, seeking_end}
use Rattle.read_steps.proofs.draw_next.Goals as goal

pub returns-in_err-used : goal.returns-in_err-used
returns-in_err-used c =
    let p = err_from_is_err_and c.from_residual.result c.from_residual.ensures.1 in
    rw (p.1, p.2) (seeking_limit c.loop-j.invariant (omega arith) (ticked_refused _ _ c.in_err-used.ensures))

pub match_row-requires : goal.match_row-requires
match_row-requires c =
    let d = c.loop-j.invariant in
    let asked = ask_row d c.requires.0 c.requires.1 in
    (asked.0, asked.1, row_inside d (omega arith), row_narrow d (omega arith))

pub returns-then-match_row : goal.returns-then-match_row
returns-then-match_row c =
    seeking_hit c.loop-j.invariant (omega arith) (ticked_done _ _ c.in_ok-used.ensures) c.match_row.ensures c.if-match_row.true

pub loop-j-preserved : goal.loop-j-preserved
loop-j-preserved c =
    seeking_miss c.loop-j.invariant (omega arith) (ticked_done _ _ c.in_ok-used.ensures) c.match_row.ensures c.if-match_row.false

pub returns : goal.returns
returns c = seeking_end c.loop-j.invariant (omega arith)
