-- The next record is asked for its row, then whether it holds.
use Rattle.std.proofs.Common.{sym, ◌∙◌, arith}
use Rattle.rows.proofs.Case.{never}
use Rattle.read_held.proofs.Halving.{behind_start, behind_next, behind_end, behind_other, beside_held}
use Rattle.read_held.proofs.held_behind.Goals as goal

pub loop-j-init : goal.loop-j-init
loop-j-init c = behind_start c.requires.0 c.args.minute c.args.i

pub same_row-requires : goal.same_row-requires
same_row-requires c = (c.requires.0.sound _ c.loop-j-test.true, c.requires.0.sound _ c.requires.1)

pub returns-then-not-same_row : goal.returns-then-not-same_row
returns-then-not-same_row c =
    behind_other c.requires.0 (omega arith) c.loop-j.invariant c.loop-j-test.true (λ e. never (c.same_row.ensures.1 e) c.if-not-same_row.true)

pub returns-then-holds : goal.returns-then-holds
returns-then-holds c = beside_held c.requires.0 c.loop-j-test.true (c.same_row.ensures.0 c.if-not-same_row.false) (sym c.holds.ensures ∙ c.if-holds.true)

pub loop-j-preserved : goal.loop-j-preserved
loop-j-preserved c =
    behind_next c.requires.0 (omega arith) c.loop-j.invariant (c.same_row.ensures.0 c.if-not-same_row.false) (sym c.holds.ensures ∙ c.if-holds.false)

pub returns : goal.returns
returns c = behind_end c.requires.0 (omega arith) c.loop-j.invariant (omega arith)
