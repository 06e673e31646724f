-- The first `j` words are written.
use Rattle.rows.proofs.Put.{Writing}
use Rattle.row_words.proofs.write.Given as goal

abbrev pub invariant-loop-j : goal.invariant-loop-j
invariant-loop-j l = Writing l.words l.initial.area l.at l.area l.j
