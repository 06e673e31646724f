-- A name that is not there is put behind the others.
use Rattle.std.proofs.Common.{arith}
use Rattle.read_links.proofs.Names.{added_known, room_new, added_new}
use Rattle.read_links.proofs.found.Found.add.Goals as goal

pub returns-then-contains : goal.returns-then-contains
returns-then-contains c = added_known _ _ c.told-self c.args.self.now.few c.args.name c.contains.ensures c.if-contains.true

pub bounds-self-self : goal.bounds-self-self
bounds-self-self c = room_new _ _ c.told-self c.args.self.now.few c.args.name c.contains.ensures c.if-contains.false c.requires

pub invariant_of-self : goal.invariant_of-self
invariant_of-self c = let r = room_new _ _ c.told-self c.args.self.now.few c.args.name c.contains.ensures c.if-contains.false c.requires in record { few = omega arith }

pub returns : goal.returns
returns c = added_new _ _ c.told-self c.args.self.now.few c.args.name c.contains.ensures c.if-contains.false c.requires
