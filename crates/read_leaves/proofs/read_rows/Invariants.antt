-- The rows passed are in the set.
use Rattle.std.proofs.Common.{take}
use Rattle.rows.specs.Polarities.{form_number}
use Rattle.read_leaves.proofs.Literals.{Filling}
use Rattle.read_leaves.proofs.read_rows.Given as goal

abbrev pub invariant-loop : goal.invariant-loop
invariant-loop l = Filling l.lent.words.now l.at (form_number l.fn.form) (take l.bindings.count l.bindings.values) l.area l.next l.counter
