use Rattle.std.proofs.Common.{refl}
use Rattle.read_values.proofs.Held.{value_atom, value_in, value_out}
use Rattle.read_values.proofs.value_of.Goals as goal

pub returns-in-Atom : goal.returns-in-Atom
returns-in-Atom c = value_atom _ c.in-Atom.is

pub returns-then-i-count : goal.returns-then-i-count
returns-then-i-count c = value_in _ _ c.in-Variable.is refl c.if-i-count.true

pub returns-else-i-count : goal.returns-else-i-count
returns-else-i-count c = value_out _ _ c.in-Variable.is refl c.if-i-count.false
