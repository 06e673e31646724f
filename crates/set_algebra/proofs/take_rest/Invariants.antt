-- From whichever area the rows were struck out: the first rows that are not struck out are taken, and the strokes of the first taken back.
use Rattle.std.proofs.Common.{◌≡◌, List, ℕ}
use Rattle.set_algebra.specs.Private.{Rooms, strike_out}
use Rattle.set_algebra.proofs.Striking.{Taking}
use Rattle.set_algebra.proofs.take_rest.Given as goal

abbrev pub invariant-loop-i : goal.invariant-loop-i
invariant-loop-i l = (before : List ℕ) → Rooms before 0 642 → l.initial.area ≡ strike_out before → Taking before l.area l.i l.taken
