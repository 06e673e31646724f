-- Those behind record `i` up to `j` have its row, and none holds.
use Rattle.read_held.proofs.Halving.{Behind}
use Rattle.read_held.proofs.held_behind.Given as goal

abbrev pub invariant-loop-j : goal.invariant-loop-j
invariant-loop-j l = Behind l.minute l.records l.i l.j
