-- The rows below `low` come before the row, those from `high` on behind it.
use Rattle.std.proofs.Common.{◌-◌}
use Rattle.row_words.specs.Values.{row_is}
use Rattle.read_held.proofs.Halving.{Halving}
use Rattle.read_held.proofs.find_record.Given as goal

abbrev pub invariant-loop-low : goal.invariant-loop-low
invariant-loop-low l = Halving l.records (row_is l.row) l.low l.high

abbrev pub decreases-loop-low : goal.decreases-loop-low
decreases-loop-low l = l.high - l.low
