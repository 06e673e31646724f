-- The record before is asked for its row, then whether it holds.
use Rattle.std.proofs.Common.{sym, ◌∙◌, arith}
use Rattle.rows.proofs.Case.{never}
use Rattle.read_held.proofs.Halving.{before_start, before_next, before_end, before_other, beside_held}
use Rattle.read_held.proofs.held_before.Goals as goal

pub loop-j-init : goal.loop-j-init
loop-j-init c = before_start c.requires.0 c.args.minute c.args.i

pub same_row-requires : goal.same_row-requires
same_row-requires c = let f = c.loop-j.invariant.few in (c.requires.0.sound _ (omega arith), c.requires.0.sound _ c.requires.1)

pub returns-then-not-same_row : goal.returns-then-not-same_row
returns-then-not-same_row c =
    before_other c.requires.0 c.requires.1 c.loop-j.invariant (omega arith) (λ e. never (c.same_row.ensures.1 e) c.if-not-same_row.true)

pub returns-then-holds : goal.returns-then-holds
returns-then-holds c =
    let f = c.loop-j.invariant.few in
    beside_held c.requires.0 (omega arith) (c.same_row.ensures.0 c.if-not-same_row.false) (sym c.holds.ensures ∙ c.if-holds.true)

pub loop-j-preserved : goal.loop-j-preserved
loop-j-preserved c =
    before_next c.requires.0 c.requires.1 c.loop-j.invariant (omega arith) (c.same_row.ensures.0 c.if-not-same_row.false) (sym c.holds.ensures ∙ c.if-holds.false)

pub returns : goal.returns
returns c = before_end c.requires.0 c.requires.1 c.loop-j.invariant (omega arith)
