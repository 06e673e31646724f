use Rattle.std.proofs.Common.{rules}
use Rattle.check_terms.specs.Answers.{opening, opening_for}
use Rattle.check_terms.proofs.Reading.{unguarded}
use Rattle.check_terms.proofs.Decoder.guard.Goals as goal

pub returns-in_err-try_from : goal.returns-in_err-try_from
unfolding opening opening_for
returns-in_err-try_from c = let e = unguarded _ _ c.try_from.ensures c.in_err-try_from.was in search rules
