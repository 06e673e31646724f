-- The rows of the records before this one are in.
use Rattle.rows.specs.Ordered.{◌∈◌}
use Rattle.read_held.proofs.Copying.{rows_of}
use Rattle.read_names.proofs.Linked.{Joining}
use Rattle.read_names.proofs.reached.join_rows.Given as goal

abbrev pub invariant-loop-held : goal.invariant-loop-held
invariant-loop-held l = Joining (λ x. x ∈ rows_of l.minute l.records l.held-index) l.initial.area l.area
