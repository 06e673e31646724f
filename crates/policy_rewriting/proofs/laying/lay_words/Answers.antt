-- One word more.
use Rattle.std.proofs.Common.{sym}
use Rattle.policy_rewriting.proofs.Laid.{laid_none, one_laid}
use Rattle.policy_rewriting.proofs.laying.lay_words.Goals as goal

pub loop-i-init : goal.loop-i-init
loop-i-init c = sym (laid_none _ _)

pub loop-i-preserved : goal.loop-i-preserved
loop-i-preserved c = one_laid _ _ _ _ c.loop-i-test.true c.loop-i.invariant c.lay.ensures
