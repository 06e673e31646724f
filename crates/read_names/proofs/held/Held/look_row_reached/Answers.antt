-- The row is looked for among the records of all names reached; only where these are many are their rows joined.
use Rattle.std.proofs.Common.{arith}
use Rattle.std.proofs.lemmas.Result.{err_from_is_err_and}
use Rattle.rows.specs.Polarities.{polarity_number}
use Rattle.read_values.proofs.Answers.{cleared}
use Rattle.read_names.proofs.Linked.{just_reached, look_few, look_joined, look_too_many}
use Rattle.read_names.proofs.Named.{polarity_few}
use Rattle.read_names.proofs.held.Held.look_row_reached.Goals as goal

pub join_names-requires : goal.join_names-requires
join_names-requires c = (c.reach.ensures, (cleared {form = 0} c.args.area.now c.requires.1 (omega arith) c.clear.ensures).filled)

pub returns-in_err-join_names : goal.returns-in_err-join_names
returns-in_err-join_names c =
    let h = c.args.self.now in
    let n = c.args.name in
    let v = polarity_number n.polarity in
    let found = just_reached c.reach.ensures in
    let empty = cleared {form = 0} c.args.area.now c.requires.1 (omega arith) c.clear.ensures in
    let p = err_from_is_err_and c.from_residual.result c.from_residual.ensures.1 in
    rw (p.1, p.2) (look_too_many h.minute h.store.now h.links.now n.key n.number v h.sound (polarity_few n.polarity) found _ empty.none c.in_err-join_names.ensures)

pub returns-in_ok-join_names : goal.returns-in_ok-join_names
returns-in_ok-join_names c =
    let h = c.args.self.now in
    let n = c.args.name in
    let v = polarity_number n.polarity in
    let found = just_reached c.reach.ensures in
    let empty = cleared {form = 0} c.args.area.now c.requires.1 (omega arith) c.clear.ensures in
    look_joined h.minute h.store.now h.links.now n.key n.number v h.sound (polarity_few n.polarity) found c.look_in-looking.ensures empty.none c.in_ok-join_names.ensures

pub returns-else-looking-gt-MOST_ROWS : goal.returns-else-looking-gt-MOST_ROWS
returns-else-looking-gt-MOST_ROWS c =
    let h = c.args.self.now in
    let n = c.args.name in
    let v = polarity_number n.polarity in
    let found = just_reached c.reach.ensures in
    look_few h.minute h.store.now h.links.now n.key n.number v h.sound (polarity_few n.polarity) found c.look_in-looking.ensures c.if-looking-gt-MOST_ROWS.false
