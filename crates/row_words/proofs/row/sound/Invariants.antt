-- The unused atoms before `j` are 0.
use Rattle.row_words.proofs.RowLaws.{Looked}
use Rattle.row_words.proofs.row.sound.Given as goal

abbrev pub invariant-loop-j : goal.invariant-loop-j
invariant-loop-j l = Looked l.words l.at l.j
