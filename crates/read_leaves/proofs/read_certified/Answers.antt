use Rattle.std.proofs.lemmas.Result.{err_from_is_err_and}
use Rattle.read_leaves.proofs.Certified.{certified_done, certified_refused}
use Rattle.read_leaves.proofs.read_certified.Goals as goal

pub returns-in_err-list : goal.returns-in_err-list
returns-in_err-list c =
    let p = err_from_is_err_and c.from_residual.result c.from_residual.ensures.1 in
    rw (p.1, p.2) (certified_refused c.name_at-name.ensures c.held.result c.held.ensures c.in_err-list.ensures)

pub returns : goal.returns
returns c = certified_done c.name_at-name.ensures c.held.result c.held.ensures c.in_ok-list.ensures
