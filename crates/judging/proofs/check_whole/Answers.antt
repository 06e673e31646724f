use Rattle.std.proofs.Common.{rules, arith, tests}
use Rattle.check_polarity.specs.Earlier.{earlier_is}
use Rattle.judging.proofs.WholeAnswers.{parse_refused, parse_left_over, parse_whole}
use Rattle.judging.proofs.check_whole.Goals as goal

pub returns-in_err-facts : goal.returns-in_err-facts
returns-in_err-facts c = let e = parse_refused (earlier_is c.args.earlier.now) c.args.words.now c.in_err-facts.ensures in search rules

pub returns-then-not-is_empty : goal.returns-then-not-is_empty
returns-then-not-is_empty c = parse_left_over (earlier_is c.args.earlier.now) c.args.words.now _ _ _ c.in_ok-facts.ensures (grind (arith, tests))

pub returns : goal.returns
returns c = parse_whole (earlier_is c.args.earlier.now) c.args.words.now _ _ _ c.in_ok-facts.ensures (grind (arith, tests))
