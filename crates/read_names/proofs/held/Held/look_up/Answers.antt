-- Where no link starts at the name the row is looked up among its own records.
use Rattle.std.proofs.Common.{arith, length, ◌≤◌, ◌<◌, refl}
use Rattle.rows.proofs.Case.{never}
use Rattle.rows.specs.Polarities.{polarity_number}
use Rattle.read_held.specs.Held.{rows_held}
use Rattle.read_names.proofs.Linked.{own_looked_up, own_not_looked_up}
use Rattle.read_names.proofs.Named.{polarity_few}
use Rattle.read_names.proofs.held.Held.look_up.Goals as goal

pub returns-then-are_too_many : goal.returns-then-are_too_many
returns-then-are_too_many c =
    let h = c.args.self.now in
    let n = c.args.name in
    let many = c.are_too_many.ensures.0 c.if-are_too_many.true in
    own_not_looked_up h.minute h.store.now h.links.now n.key n.number (polarity_number n.polarity) h.sound (polarity_few n.polarity) c.is_linked.ensures c.if-is_linked.false c.records_of-records.ensures.records (refl, many)

pub returns : goal.returns
returns c =
    let h = c.args.self.now in
    let n = c.args.name in
    let not : 128 < length (rows_held h.minute c.records_of-records.result.now) → ⊥ = λ l. never (c.are_too_many.ensures.1 l) c.if-are_too_many.false in
    let few : length (rows_held h.minute c.records_of-records.result.now) ≤ 128 = omega (arith, not) in
    own_looked_up h.minute h.store.now h.links.now n.key n.number (polarity_number n.polarity) h.sound (polarity_few n.polarity) c.is_linked.ensures c.if-is_linked.false c.records_of-records.ensures.records few c.is_row_held.ensures
