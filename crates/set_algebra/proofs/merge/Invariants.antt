-- The rows of the join from the `k`th on are in their places.
use Rattle.std.proofs.Common.{◌+◌}
use Rattle.set_algebra.proofs.Merging.{Merging}
use Rattle.set_algebra.proofs.merge.Given as goal

abbrev pub invariant-loop-j : goal.invariant-loop-j
invariant-loop-j l = Merging l.initial.area l.area l.i l.j l.k

abbrev pub decreases-loop-j : goal.decreases-loop-j
decreases-loop-j l = l.i + l.j
