-- The rows passed and those left.
use Rattle.policy_places.proofs.Past.{pass_row, pass_next, pass_end}
use Rattle.policy_places.proofs.skip.skip_rows.Goals as goal

pub skip_row-next-requires : goal.skip_row-next-requires
skip_row-next-requires c = pass_row c.loop.invariant c.loop-test.true

pub loop-preserved : goal.loop-preserved
loop-preserved c = pass_next c.loop.invariant c.loop-test.true c.skip_row-next.ensures

pub returns : goal.returns
returns c = pass_end c.loop.invariant c.loop-test.false
