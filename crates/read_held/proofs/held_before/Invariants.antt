-- From `j` on, up to record `i`, all have its row and none before it holds.
use Rattle.read_held.proofs.Halving.{Before}
use Rattle.read_held.proofs.held_before.Given as goal

abbrev pub invariant-loop-j : goal.invariant-loop-j
invariant-loop-j l = Before l.minute l.records l.i l.j

abbrev pub decreases-loop-j : goal.decreases-loop-j
decreases-loop-j l = l.j
