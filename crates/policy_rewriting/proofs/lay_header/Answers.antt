-- One word after the other.
use Rattle.std.proofs.Common.{[], ◌∷◌, get_or}
use Rattle.policy.specs.Format.{format_of}
use Rattle.policy_rewriting.proofs.Walks.{then_laid}
use Rattle.policy_rewriting.proofs.lay_header.Goals as goal

pub returns : goal.returns
returns c = then_laid 0 c.args.area.now (format_of c.args.policy.now ∷ []) (get_or c.args.policy.now 1 0 ∷ []) c.lay.ensures c.lay-2.ensures
