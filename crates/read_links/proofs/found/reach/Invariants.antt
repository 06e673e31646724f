-- The names before this one are followed. There are at most 257, by which the search ends.
use Rattle.std.proofs.Common.{◌-◌}
use Rattle.read_links.proofs.Finding.{Reaching}
use Rattle.read_links.proofs.found.reach.Given as goal

abbrev pub invariant-loop-next : goal.invariant-loop-next
invariant-loop-next l = Reaching l.links l.fn.name l.found.names l.found.count l.next

abbrev pub decreases-loop-next : goal.decreases-loop-next
decreases-loop-next l = 257 - l.next
