-- The atoms passed are the values of the terms passed.
use Rattle.std.proofs.Common.{take}
use Rattle.rows.specs.Layout.{row_in, five_at}
use Rattle.read_steps.proofs.Last.{ComesTo}
use Rattle.read_steps.proofs.is_row.Given as goal

abbrev pub invariant-loop-j : goal.invariant-loop-j
invariant-loop-j l = ComesTo l.lent.words.now l.at (take l.bindings.count l.bindings.values) (row_in (five_at l.set l.place)) l.j
