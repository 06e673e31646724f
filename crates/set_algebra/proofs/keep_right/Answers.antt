-- Struck out, taken, and the header written.
use Rattle.std.proofs.Common.{arith}
use Rattle.set_algebra.proofs.Combining.{rest_numbers, rest_words}
use Rattle.set_algebra.proofs.keep_right.Goals as goal

pub take_rest-count-requires : goal.take_rest-count-requires
take_rest-count-requires c = record { before = c.args.area.now; rooms = c.requires; words = c.strike.ensures }

pub overflow_cast-area : goal.overflow_cast-area
overflow_cast-area c =
    let n = rest_numbers c.args.area.now c.requires _ (c.take_rest-count.ensures.words c.args.area.now c.requires c.strike.ensures) in
    let k = c.take_rest-count.ensures.count c.args.area.now c.requires c.strike.ensures in
    omega arith

pub overflow_sub-area : goal.overflow_sub-area
overflow_sub-area c =
    let n = rest_numbers c.args.area.now c.requires _ (c.take_rest-count.ensures.words c.args.area.now c.requires c.strike.ensures) in
    omega (arith, n.form_now c.take_rest-count.result)

pub returns : goal.returns
returns c =
    rest_words c.args.area.now c.requires _ _ (c.take_rest-count.ensures.words c.args.area.now c.requires c.strike.ensures)
    (c.take_rest-count.ensures.count c.args.area.now c.requires c.strike.ensures)
