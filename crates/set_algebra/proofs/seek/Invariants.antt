-- The rows before the `j`th come before the row.
use Rattle.rows.specs.Layout.{rows_in}
use Rattle.row_words.specs.Values.{row_is}
use Rattle.set_algebra.proofs.Seeking.{Walked}
use Rattle.set_algebra.proofs.seek.Given as goal

abbrev pub invariant-loop-j : goal.invariant-loop-j
invariant-loop-j l = Walked (rows_in l.set) (row_is l.row) l.j
