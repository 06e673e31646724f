-- The first `j` words are the same.
use Rattle.std.proofs.Common.{◌≡◌, take}
use Rattle.records.proofs.begins_before.Given as goal

abbrev pub invariant-loop-j : goal.invariant-loop-j
invariant-loop-j l = take l.j l.front ≡ take l.j l.words
