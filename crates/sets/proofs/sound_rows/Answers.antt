-- The row at `i` is the `i`th of the pieces.
use Rattle.std.proofs.Common.{sym, ◌∙◌, ap, [], drop, arith}
use Rattle.rows.specs.Layout.{pieces, sound_row}
use Rattle.rows.proofs.Scan.{passed_none, passed_next, passed_fails, passed_all}
use Rattle.rows.proofs.LayoutLaws.{length_pieces, row_piece}
use Rattle.sets.proofs.sound_rows.Goals as goal

pub loop-i-init : goal.loop-i-init
loop-i-init c = passed_none sound_row (pieces 5 c.args.count (drop 2 c.args.set.now))

pub returns-then-not-sound : goal.returns-then-not-sound
returns-then-not-sound c =
    let many = length_pieces 5 c.args.count (drop 2 c.args.set.now) in
    let this = row_piece c.args.count c.args.set.now c.loop-i.i (omega arith) in
    sym (passed_fails sound_row _ c.loop-i.i [] c.loop-i.invariant (omega arith) (ap sound_row this ∙ sym c.sound.ensures ∙ c.if-not-sound.true))

pub loop-i-preserved : goal.loop-i-preserved
loop-i-preserved c =
    let many = length_pieces 5 c.args.count (drop 2 c.args.set.now) in
    let this = row_piece c.args.count c.args.set.now c.loop-i.i (omega arith) in
    passed_next sound_row _ c.loop-i.i [] c.loop-i.invariant (omega arith) (ap sound_row this ∙ sym c.sound.ensures ∙ c.if-not-sound.false)

pub returns : goal.returns
returns c =
    let many = length_pieces 5 c.args.count (drop 2 c.args.set.now) in
    sym (passed_all sound_row _ c.loop-i.i c.loop-i.invariant (omega arith))
