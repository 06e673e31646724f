use Rattle.std.proofs.Common.{rules}
use Rattle.check_terms.specs.Answers.{keeping, kept}
use Rattle.check_leaves.specs.Checks.{definition_facts}
use Rattle.check_leaves.proofs.Leaving.{reach_is}
use Rattle.check_leaves.proofs.check_definition.Goals as goal

pub returns-in_err-d : goal.returns-in_err-d
unfolding definition_facts keeping kept
returns-in_err-d c = rw (reach_is c.args.earlier.now) (search rules)

pub returns : goal.returns
unfolding definition_facts keeping kept
returns c = rw (reach_is c.args.earlier.now) (search rules)
