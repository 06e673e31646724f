use Rattle.std.proofs.Common.{◌≡◌, length, rules}
use Rattle.std.proofs.lemmas.Result.{err_from_is_err_and}
use Rattle.read_steps.proofs.Inserting.{row_is_wide, put_listed, put_refused, head_listed, head_no_room}
use Rattle.read_steps.proofs.Last.{head_known}
use Rattle.read_steps.proofs.insert_head.Goals as goal

pub returns-then-is_last : goal.returns-then-is_last
returns-then-is_last c = head_known c.requires.1 c.is_last.ensures c.if-is_last.true

pub returns-in_err-insert : goal.returns-in_err-insert
returns-in_err-insert c =
    let four : length c.row_of-row.result.atoms ≡ 4 = search rules in
    let n = put_refused c.requires.1.filled (row_is_wide four c.row_of-row.ensures) _ c.in_err-insert.ensures.answer c.in_err-insert.ensures.words in
    let p = err_from_is_err_and c.from_residual.result c.from_residual.ensures.1 in
    rw (p.1, p.2, n.1) (head_no_room c.requires.1 c.row_of-row.ensures n.0)

pub returns : goal.returns
returns c =
    let four : length c.row_of-row.result.atoms ≡ 4 = search rules in
    head_listed c.requires.1 c.row_of-row.ensures (put_listed c.requires.1.filled (row_is_wide four c.row_of-row.ensures) _ c.in_ok-insert.ensures.answer c.in_ok-insert.ensures.words)
