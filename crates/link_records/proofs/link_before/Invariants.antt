-- The words so far are the same.
use Rattle.std.proofs.Common.{◌≡◌, drop}
use Rattle.rows.specs.Ordered.{words_before}
use Rattle.link_records.proofs.link_before.Given as goal

abbrev pub invariant-loop-j : goal.invariant-loop-j
invariant-loop-j l = words_before (drop l.j l.a) (drop l.j l.b) ≡ words_before l.a l.b
