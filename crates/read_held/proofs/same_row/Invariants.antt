-- The first `j` words are the same.
use Rattle.std.proofs.Common.{◌≡◌, take}
use Rattle.rows.specs.Layout.{five_at}
use Rattle.read_held.proofs.same_row.Given as goal

abbrev pub invariant-loop-j : goal.invariant-loop-j
invariant-loop-j l = take l.j (five_at l.one 3) ≡ take l.j (five_at l.other 3)
