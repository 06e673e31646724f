-- The first `j` words are the same.
use Rattle.std.proofs.Common.{◌≡◌, take}
use Rattle.store_records.proofs.record.record_before.Given as goal

abbrev pub invariant-loop-j : goal.invariant-loop-j
invariant-loop-j l = take l.j l.a ≡ take l.j l.b
