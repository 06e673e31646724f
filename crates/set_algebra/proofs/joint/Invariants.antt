-- What is counted, with what the rows not yet passed have together, is the whole.
use Rattle.std.proofs.Common.{◌+◌}
use Rattle.set_algebra.proofs.Merging.{Counting}
use Rattle.set_algebra.proofs.joint.Given as goal

abbrev pub invariant-loop-j : goal.invariant-loop-j
invariant-loop-j l = Counting l.area l.i l.j l.total

abbrev pub decreases-loop-j : goal.decreases-loop-j
decreases-loop-j l = l.i + l.j
