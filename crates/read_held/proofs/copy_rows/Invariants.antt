-- So far the rows of the records before this one are copied.
use Rattle.read_held.proofs.Copying.{Copying, rows_of}
use Rattle.read_held.proofs.copy_rows.Given as goal

abbrev pub invariant-loop-held : goal.invariant-loop-held
invariant-loop-held l = Copying l.initial.area l.area l.listed l.last (rows_of l.minute l.records l.held-index)
