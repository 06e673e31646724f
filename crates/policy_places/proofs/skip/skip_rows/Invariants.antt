-- The rows passed and those left.
use Rattle.std.proofs.Common.{◌+◌, get_or}
use Rattle.policy_places.proofs.Past.{Passing}
use Rattle.policy_places.proofs.skip.skip_rows.Given as goal

abbrev pub invariant-loop : goal.invariant-loop
invariant-loop l = Passing l.words (l.at + 1) (get_or l.words l.at 0) l.next l.counter
