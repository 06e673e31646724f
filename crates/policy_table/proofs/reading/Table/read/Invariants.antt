-- The entries passed are sound, and the next part is due where the last one ends.
use Rattle.policy_table.proofs.TableAnswers.{Reading}
use Rattle.policy_table.proofs.reading.Table.read.Given as goal

abbrev pub invariant-loop-i : goal.invariant-loop-i
invariant-loop-i l = Reading l.policy l.i l.due
