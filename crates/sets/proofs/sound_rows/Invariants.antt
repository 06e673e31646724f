-- The rows passed are sound.
use Rattle.std.proofs.Common.{drop}
use Rattle.rows.specs.Layout.{pieces, sound_row}
use Rattle.rows.proofs.Scan.{Passed}
use Rattle.sets.proofs.sound_rows.Given as goal

abbrev pub invariant-loop-i : goal.invariant-loop-i
invariant-loop-i l = Passed sound_row (pieces 5 l.count (drop 2 l.set)) l.i
