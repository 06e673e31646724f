use Rattle.std.proofs.Common.{rules}
use Rattle.policy.specs.Decode.{is_node}
use Rattle.policy.proofs.codes.Code.is_node.Goals as goal

pub returns-in-Union : goal.returns-in-Union
unfolding is_node
returns-in-Union c = grind rules

pub returns-in_default : goal.returns-in_default
unfolding is_node
returns-in_default c = grind rules
