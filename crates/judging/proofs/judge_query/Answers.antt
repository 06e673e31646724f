use Rattle.std.proofs.Common.{rules, arith, tests, ◌≡◌, ◌≢◌, ◌||◌, length}
use Rattle.check_polarity.specs.Earlier.{earlier_is}
use Rattle.judging.proofs.WholeAnswers.{query_empty, query_long, query_refused, query_admitted}
use Rattle.judging.proofs.judge_query.Goals as goal

pub returns-then-is_empty : goal.returns-then-is_empty
returns-then-is_empty c = query_empty (earlier_is c.args.earlier.now) c.args.words.now (grind (arith, tests))

pub returns-then-words-gt-MOST_QUERY_WORDS : goal.returns-then-words-gt-MOST_QUERY_WORDS
returns-then-words-gt-MOST_QUERY_WORDS c = query_long (earlier_is c.args.earlier.now) c.args.words.now (omega arith)

pub returns-in_err-facts : goal.returns-in_err-facts
returns-in_err-facts c =
    let some : length c.args.words.now ≢ 0 = grind (arith, tests) in
    let e = query_refused (earlier_is c.args.earlier.now) c.args.words.now some (omega arith) c.check_whole.ensures c.in_err-facts.was in search rules

pub returns : goal.returns
returns c =
    let some : length c.args.words.now ≢ 0 = grind (arith, tests) in
    let had : c.if-facts.admit ≡ (c.in_ok-facts.facts.plus || c.in_ok-facts.facts.minus) = grind (arith, tests) in
    query_admitted (earlier_is c.args.earlier.now) c.args.words.now some (omega arith) c.check_whole.ensures c.in_ok-facts.was had c.admit.ensures
