-- The part begins where the definition's set does.
use Rattle.read_leaves.proofs.ByCode.{definition_part}
use Rattle.read_leaves.proofs.definition_set.Goals as goal

pub returns : goal.returns
returns c = definition_part c.args.lent.now.definitions.now c.requires.0 (c.requires.1 c.args.d c.requires.0)
