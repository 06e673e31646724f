-- Whether the rows ascend is whether they do from the one before the `i`th on.
use Rattle.std.proofs.Common.{◌-◌}
use Rattle.rows.specs.Row.{row_before}
use Rattle.rows.specs.Layout.{rows_in}
use Rattle.rows.proofs.Scan.{Climbed}
use Rattle.sets.proofs.ascends.Given as goal

abbrev pub invariant-loop-i : goal.invariant-loop-i
invariant-loop-i l = Climbed row_before (rows_in l.set) (l.i - 1)
