-- The record in the middle begins with words before these, or not.
use Rattle.std.proofs.Common.{◌+◌, ◌-◌, ◌/◌, ℕ, sym, ◌∙◌, arith}
use Rattle.rows.proofs.Records.{count_few, count_stops, count_passes}
use Rattle.records.proofs.count_before.Goals as goal

pub loop-low-init : goal.loop-low-init
loop-low-init c =
    let a = c.args in
    (omega arith, (omega (arith, count_few a.width a.area.now a.words.now a.also (omega arith)), omega arith))

pub loop-low-preserved-then-begins_before : goal.loop-low-preserved-then-begins_before
loop-low-preserved-then-begins_before c =
    let a = c.args in
    let middle : ℕ = c.loop-low.low + (c.loop-low.high - c.loop-low.low) / 2 in
    let p = count_passes a.width a.area.now a.words.now a.also c.requires.in_bounds.1 c.requires.pass_first middle (omega arith) (sym c.if-begins_before.true ∙ c.begins_before.ensures) in
    (omega arith, (omega arith, omega arith))

pub loop-low-preserved : goal.loop-low-preserved
loop-low-preserved c =
    let a = c.args in
    let middle : ℕ = c.loop-low.low + (c.loop-low.high - c.loop-low.low) / 2 in
    let p = count_stops a.width a.area.now a.words.now a.also c.requires.in_bounds.1 middle (omega arith) (sym c.if-begins_before.false ∙ c.begins_before.ensures) in
    (omega arith, (omega arith, omega arith))
