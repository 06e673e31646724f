-- A row that is new or known is listed, and one more than a set holds is not.
use Rattle.std.proofs.lemmas.Result.{err_from_is_err_and}
use Rattle.read_steps.proofs.Inserting.{put_listed, put_refused}
use Rattle.read_names.proofs.Linked.{loaded, one_listed, one_full}
use Rattle.read_names.proofs.reached.join_row.Goals as goal

pub insert-requires : goal.insert-requires
insert-requires c =
    let row = loaded c.args.held.now c.requires.0 _ c.at-row.ensures in
    (c.requires.1.sound, c.requires.1.long, row.some, row.few)

pub returns-in_err-insert : goal.returns-in_err-insert
returns-in_err-insert c =
    let row = loaded c.args.held.now c.requires.0 _ c.at-row.ensures in
    let n = put_refused c.requires.1 row.wide _ c.in_err-insert.ensures.answer c.in_err-insert.ensures.words in
    let p = err_from_is_err_and c.from_residual.result c.from_residual.ensures.1 in
    rw (p.1, p.2, n.1) (one_full row.is c.requires.1 n.0)

pub returns : goal.returns
returns c =
    let row = loaded c.args.held.now c.requires.0 _ c.at-row.ensures in
    one_listed row.is (put_listed c.requires.1 row.wide _ c.in_ok-insert.ensures.answer c.in_ok-insert.ensures.words)
