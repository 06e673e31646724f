-- The first `j` of the row's words are written.
use Rattle.rows.specs.Layout.{row_words}
use Rattle.rows.proofs.Put.{Writing}
use Rattle.row_words.specs.Values.{row_is}
use Rattle.row_words.proofs.row.Row.write.Given as goal

abbrev pub invariant-loop-j : goal.invariant-loop-j
invariant-loop-j l = Writing (row_words (row_is l.self)) l.initial.area l.at l.area l.j
