use Rattle.std.proofs.Common.{◌≡◌, length, rules, arith}
use Rattle.read_values.proofs.Answers.{cleared}
use Rattle.read_steps.proofs.Inserting.{row_is_wide, put_in}
use Rattle.read_leaves.proofs.Literals.{form_few, literal_few, filling_start, filling_row, filling_next, filling_end}
use Rattle.read_leaves.proofs.read_rows.Goals as goal

pub loop-init : goal.loop-init
loop-init c = filling_start c.requires.2 (cleared c.args.area.now c.requires.1 (form_few c.args.form) c.clear.ensures)

pub row_of-row-requires : goal.row_of-row-requires
row_of-row-requires c = (c.requires.0, filling_row c.loop.invariant c.loop-test.true)

pub insert-requires : goal.insert-requires
insert-requires c =
    let inv = c.loop.invariant in
    (inv.filled.sound, inv.filled.long, c.row_of-row.ensures.some, c.row_of-row.ensures.few)

pub skip_row-next-requires : goal.skip_row-next-requires
skip_row-next-requires c = filling_row c.loop.invariant c.loop-test.true

pub loop-preserved : goal.loop-preserved
loop-preserved c =
    let inv = c.loop.invariant in
    let four : length c.row_of-row.result.atoms ≡ 4 = search rules in
    let wide = row_is_wide four c.row_of-row.ensures in
    let few = literal_few c.requires.2 in
    let room = inv.few in
    let l = put_in inv.filled wide c.insert.result (omega arith) c.insert.ensures.answer c.insert.ensures.words in
    filling_next inv c.loop-test.true c.row_of-row.ensures l c.skip_row-next.ensures

pub returns : goal.returns
returns c = filling_end c.loop.invariant c.loop-test.false
