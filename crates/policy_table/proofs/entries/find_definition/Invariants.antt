-- None of the entries passed has the name and polarity.
use Rattle.rows.specs.Polarities.{polarity_is}
use Rattle.policy_table.proofs.Declared.{Searching}
use Rattle.policy_table.proofs.entries.find_definition.Given as goal

abbrev pub invariant-loop-i : goal.invariant-loop-i
invariant-loop-i l = Searching l.policy l.known l.name (polarity_is l.polarity) l.i
