use Rattle.std.proofs.Common.{◌∙◌}
use Rattle.check_leaves.proofs.Leaving.{definition_is}
use Rattle.check_leaves.proofs.of_definition.Goals as goal

pub returns : goal.returns
returns c = c.of_polarity.ensures ∙ definition_is c.args.earlier.now c.args.d c.requires
