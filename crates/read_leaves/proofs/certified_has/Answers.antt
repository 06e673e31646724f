use Rattle.std.proofs.lemmas.Result.{err_from_is_err_and}
use Rattle.read_leaves.proofs.Certified.{certified_belongs, certified_many}
use Rattle.read_leaves.proofs.certified_has.Goals as goal

pub returns-in_err-listed : goal.returns-in_err-listed
returns-in_err-listed c =
    let p = err_from_is_err_and c.from_residual.result c.from_residual.ensures.1 in
    rw (p.1, p.2) (certified_many c.name_at-name.ensures c.held.result c.held.ensures c.row_of-sought.ensures c.in_err-listed.ensures)

pub returns : goal.returns
returns c = certified_belongs c.name_at-name.ensures c.held.result c.held.ensures c.row_of-sought.ensures c.in_ok-listed.ensures
