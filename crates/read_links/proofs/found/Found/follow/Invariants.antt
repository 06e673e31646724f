-- The links of the name before this one are followed.
use Rattle.std.proofs.Common.{get_or}
use Rattle.read_links.specs.Reached.{nobody}
use Rattle.read_links.proofs.Finding.{Following}
use Rattle.read_links.proofs.found.Found.follow.Given as goal

abbrev pub invariant-loop-i : goal.invariant-loop-i
invariant-loop-i l =
    Following l.links (get_or l.initial.self.names l.next nobody).polarity l.initial.self.names l.initial.self.count l.next l.self.names l.self.count l.i
