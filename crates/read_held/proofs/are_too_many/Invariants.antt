-- So many rows are those of the records before this one.
use Rattle.read_held.proofs.Copying.{Counting, rows_of}
use Rattle.read_held.proofs.are_too_many.Given as goal

abbrev pub invariant-loop-held : goal.invariant-loop-held
invariant-loop-held l = Counting l.records l.held-index l.listed l.spare l.last (rows_of l.minute l.records l.held-index)
