-- The names before this one are looked at.
use Rattle.rows.specs.Polarities.{polarity_number}
use Rattle.row_words.specs.Values.{row_is}
use Rattle.read_names.proofs.Linked.{Looked}
use Rattle.read_names.proofs.held.Held.look_in.Given as goal

abbrev pub invariant-loop-reached : goal.invariant-loop-reached
invariant-loop-reached l = Looked l.self.minute l.self.store.now (polarity_number l.fn.name.polarity) l.fn.found.names (row_is l.row) l.total l.held l.reached-index
