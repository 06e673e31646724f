-- A number issues nothing; a key's rows are asked for the row.
use Rattle.std.proofs.lemmas.Result.{err_from_is_err_and}
use Rattle.read_names.proofs.Named.{number_belongs, key_belongs, key_not_looked_up}
use Rattle.read_names.proofs.held.Held.has.Goals as goal

pub returns-then-name-lt-FIRST_KEY : goal.returns-then-name-lt-FIRST_KEY
returns-then-name-lt-FIRST_KEY c = number_belongs c.args.self.now c.args.name c.if-name-lt-FIRST_KEY.true c.belongs.ensures

pub returns-in_err-listed : goal.returns-in_err-listed
returns-in_err-listed c =
    let p = err_from_is_err_and c.from_residual.result c.from_residual.ensures.1 in
    rw (p.1, p.2) (key_not_looked_up c.args.self.now c.args.name c.if-name-lt-FIRST_KEY.false c.in_err-listed.ensures)

pub returns : goal.returns
returns c =
    key_belongs c.args.self.now c.args.name c.if-name-lt-FIRST_KEY.false c.in_ok-listed.ensures c.belongs-2.ensures
