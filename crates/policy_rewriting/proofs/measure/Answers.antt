-- The part that is lent has no words, and has none when it is back.
use Rattle.std.proofs.Common.{rules}
use Rattle.policy_rewriting.proofs.Replies.{none_lent, none_laid}
use Rattle.policy_rewriting.proofs.measure.Goals as goal

pub returns : goal.returns
returns c = (none_laid (search rules) (search rules) c.lay_output.ensures, none_lent c.lay_output.new.area _ (search rules))
