-- The run goes on to i. The measure is what is left of the records.
use Rattle.std.proofs.Common.{◌-◌}
use Rattle.store_records.proofs.Runs.{Going}
use Rattle.store_records.proofs.run_end.Given as goal

abbrev pub invariant-loop-i : goal.invariant-loop-i
invariant-loop-i l = Going l.store l.count l.start l.i

abbrev pub decreases-loop-i : goal.decreases-loop-i
decreases-loop-i l = l.count - l.i
