use Rattle.std.proofs.Common.{refl, rules}
use Rattle.judging.proofs.JudgeAnswers.{policy_checks, policy_refused, query_unjudged, query_judged}
use Rattle.judging.proofs.judge.Goals as goal

pub returns-in_err-earlier-clause-judged : goal.returns-in_err-earlier-clause-judged
returns-in_err-earlier-clause-judged c = let e = policy_refused c.args.our_key c.args.policy.now c.args.query.now c.judge_policy.ensures.judged c.in_err-earlier.was in search rules

pub returns-in-Ok-clause-judged : goal.returns-in-Ok-clause-judged
returns-in-Ok-clause-judged c = query_judged c.args.our_key c.args.policy.now c.args.query.now _ (policy_checks c.args.our_key c.args.policy.now c.judge_policy.ensures.judged c.in_ok-earlier.was) _ c.judge_query.ensures _ c.in-Ok.is c.verdict.ensures

pub returns-in-Err-clause-judged : goal.returns-in-Err-clause-judged
returns-in-Err-clause-judged c = query_unjudged c.args.our_key c.args.policy.now c.args.query.now _ (policy_checks c.args.our_key c.args.policy.now c.judge_policy.ensures.judged c.in_ok-earlier.was) _ c.judge_query.ensures _ c.in-Err.is refl refl
