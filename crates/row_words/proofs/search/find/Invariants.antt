-- The rows below `low` come before the row, those from `high` on after it.
use Rattle.std.proofs.Common.{◌-◌, []}
use Rattle.rows.specs.Row.{row_before}
use Rattle.rows.proofs.Order.{row_order}
use Rattle.rows.proofs.Place.{Between}
use Rattle.row_words.specs.Values.{row_is}
use Rattle.row_words.specs.Search.{rows_at}
use Rattle.row_words.proofs.search.find.Given as goal

abbrev pub invariant-loop-low : goal.invariant-loop-low
invariant-loop-low l = Between row_before row_order [] (rows_at l.words l.start l.step l.count) (row_is l.row) l.low l.high

abbrev pub decreases-loop-low : goal.decreases-loop-low
decreases-loop-low l = l.high - l.low
