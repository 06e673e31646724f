-- The rows of the names before this one are in.
use Rattle.rows.specs.Polarities.{polarity_number}
use Rattle.read_links.specs.Reached.{names_in}
use Rattle.read_names.specs.Reached.{HeldFor}
use Rattle.read_names.proofs.Linked.{Joining}
use Rattle.read_names.proofs.held.Held.join_names.Given as goal

abbrev pub invariant-loop-reached : goal.invariant-loop-reached
invariant-loop-reached l = Joining (HeldFor l.self.minute l.self.store.now (polarity_number l.fn.name.polarity) (names_in l.reached-index l.fn.found.names)) l.initial.area l.area
