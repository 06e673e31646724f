-- The policy's refusal is passed on; a policy that passes under our key is rewritten.
use Rattle.std.proofs.lemmas.Result.{err_from_is_err_and}
use Rattle.refusals.specs.Numbers.{told}
use Rattle.policy_rewriting.proofs.Replies.{policy_passing, passed_replied, refusal_passed_on}
use Rattle.policy_rewriting.proofs.rewrite.Goals as goal

pub rewrite_passed-requires : goal.rewrite_passed-requires
rewrite_passed-requires c = policy_passing _ c.judge_policy.ensures.judged c.in-Ok.is

pub returns-in_err-rewrite_passed-in-Ok-clause-told : goal.returns-in_err-rewrite_passed-in-Ok-clause-told
unfolding told
returns-in_err-rewrite_passed-in-Ok-clause-told c =
    let p = err_from_is_err_and c.from_residual.result c.from_residual.ensures.1 in
    rw (p.1, p.2) (passed_replied _ c.judge_policy.ensures.judged c.in-Ok.is c.in_err-rewrite_passed-in-Ok.ensures)

pub returns-in_ok-rewrite_passed-in-Ok-clause-told : goal.returns-in_ok-rewrite_passed-in-Ok-clause-told
unfolding told
returns-in_ok-rewrite_passed-in-Ok-clause-told c = passed_replied _ c.judge_policy.ensures.judged c.in-Ok.is c.in_ok-rewrite_passed-in-Ok.ensures

pub returns-in-Err-clause-told : goal.returns-in-Err-clause-told
returns-in-Err-clause-told c = refusal_passed_on c.args.our_key c.args.policy.now c.args.area.now c.judge_policy.ensures.judged c.in-Err.is
