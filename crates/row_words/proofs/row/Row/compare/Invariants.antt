-- The rows agree on the first `j` atoms.
use Rattle.std.proofs.Common.{◌≡◌, take}
use Rattle.rows.specs.Layout.{row_in, five_at}
use Rattle.row_words.specs.Values.{row_is}
use Rattle.row_words.proofs.row.Row.compare.Given as goal

abbrev pub invariant-loop-j : goal.invariant-loop-j
invariant-loop-j l = take l.j (row_is l.self) ≡ take l.j (row_in (five_at l.words l.at))
