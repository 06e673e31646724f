-- The rows kept so far are in the first places.
use Rattle.set_algebra.proofs.Filtering.{Filtered}
use Rattle.set_algebra.proofs.filter.Given as goal

abbrev pub invariant-loop-i : goal.invariant-loop-i
invariant-loop-i l = Filtered l.initial.area l.listed l.area l.i l.j l.kept
