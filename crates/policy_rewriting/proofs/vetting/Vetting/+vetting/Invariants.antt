-- Each call walks over words further on.
use Rattle.std.proofs.Common.{length, ◌-◌}
use Rattle.policy_rewriting.proofs.vetting.Vetting.+vetting.Given as goal

abbrev pub decreases-vet_expr : goal.decreases-vet_expr
decreases-vet_expr l = length l.self.now.words.now - l.at

abbrev pub decreases-vet_guards : goal.decreases-vet_guards
decreases-vet_guards l = length l.self.now.words.now - l.at
