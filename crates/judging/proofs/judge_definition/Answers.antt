use Rattle.std.proofs.Common.{rules}
use Rattle.rows.specs.Polarities.{polarity_is}
use Rattle.check_polarity.specs.Earlier.{earlier_is}
use Rattle.judging.proofs.WholeAnswers.{definition_refused, definition_admitted}
use Rattle.judging.proofs.judge_definition.Goals as goal

pub returns-in_err-facts : goal.returns-in_err-facts
returns-in_err-facts c = let e = definition_refused (earlier_is c.args.earlier.now) (polarity_is c.args.polarity) c.args.words.now c.check_whole.ensures c.in_err-facts.was in search rules

pub returns : goal.returns
returns c = definition_admitted (earlier_is c.args.earlier.now) (polarity_is c.args.polarity) c.args.words.now c.check_whole.ensures c.in_ok-facts.was c.has.ensures c.admit.ensures
