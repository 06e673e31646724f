use Rattle.std.proofs.Common.{refl, arith}
use Rattle.std.proofs.lemmas.Result.{err_from_is_err_and}
use Rattle.engine.proofs.Driving.{done_filled, ready_listed, definition_refused, query_asked, query_refused, query_answered}
use Rattle.engine.proofs.answering.read_all.Goals as goal

pub bounds-asked-1 : goal.bounds-asked-1
bounds-asked-1 c = omega (arith, (ready_listed c.requires.0 refl).fits)

pub bounds-asked-0 : goal.bounds-asked-0
bounds-asked-0 c = omega (arith, (ready_listed c.requires.0 refl).fits)

pub read_whole-requires : goal.read_whole-requires
read_whole-requires c = query_asked c.in_ok-before.ensures refl c.requires.0 c.read_definitions.auto.scratch

pub copy-requires : goal.copy-requires
copy-requires c = ((done_filled c.in-Ok.ensures).sound, c.requires.1)

pub returns-in_err-before : goal.returns-in_err-before
returns-in_err-before c =
    let p = err_from_is_err_and c.from_residual.result c.from_residual.ensures.1 in
    rw (p.1, p.2) (definition_refused c.in_err-before.ensures)

pub returns-in-Err : goal.returns-in-Err
returns-in-Err c = query_refused c.in_ok-before.ensures refl c.in-Err.ensures

pub returns-in-Ok : goal.returns-in-Ok
returns-in-Ok c = query_answered c.in_ok-before.ensures refl c.in-Ok.ensures c.copy.ensures
