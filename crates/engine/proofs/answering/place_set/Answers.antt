use Rattle.std.proofs.Common.{◌*◌}
use Rattle.engine.proofs.Placing.{part_put}
use Rattle.engine.proofs.answering.place_set.Goals as goal

pub returns : goal.returns
returns c = part_put (642 * c.args.d) c.args.set.now c.args.definitions.now c.requires.0 c.requires.1 c.copy.ensures
