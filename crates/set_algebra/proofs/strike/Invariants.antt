-- The right's first rows are struck out where the left lists them.
use Rattle.set_algebra.proofs.Striking.{Striking}
use Rattle.set_algebra.proofs.strike.Given as goal

abbrev pub invariant-loop-i : goal.invariant-loop-i
invariant-loop-i l = Striking l.initial.area l.area l.i l.j
