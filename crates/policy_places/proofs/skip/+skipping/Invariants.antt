-- Each call passes over words further on.
use Rattle.std.proofs.Common.{length, ◌-◌}
use Rattle.policy_places.proofs.skip.+skipping.Given as goal

abbrev pub decreases-skip_expr : goal.decreases-skip_expr
decreases-skip_expr l = length l.words.now - l.at

abbrev pub decreases-skip_guards : goal.decreases-skip_guards
decreases-skip_guards l = length l.words.now - l.at
