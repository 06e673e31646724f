use Rattle.std.proofs.Common.{refl}
use Rattle.read_values.proofs.Held.{value_atom, value_in, value_out}
use Rattle.read_values.proofs.Bindings.value_of.Goals as goal

pub returns-in-Atom : goal.returns-in-Atom
returns-in-Atom c = value_atom _ c.in-Atom.is

pub returns-then-i-self : goal.returns-then-i-self
returns-then-i-self c = value_in _ _ c.in-Variable.is refl c.if-i-self.true

pub returns-else-i-self : goal.returns-else-i-self
returns-else-i-self c = value_out _ _ c.in-Variable.is refl c.if-i-self.false
