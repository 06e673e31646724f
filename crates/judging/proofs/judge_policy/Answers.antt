use Rattle.std.proofs.Common.{refl}
use Rattle.judging.specs.Reply.{JudgedAs}
use Rattle.judging.proofs.JudgeAnswers.{no_key, under_key, table_refused}
use Rattle.judging.proofs.judge_policy.Goals as goal

pub returns-then-our_key-lt-FIRST_KEY-clause-judged : goal.returns-then-our_key-lt-FIRST_KEY-clause-judged
unfolding JudgedAs
returns-then-our_key-lt-FIRST_KEY-clause-judged c = rw c.from.ensures (no_key c.args.our_key c.args.policy.now _ c.if-our_key-lt-FIRST_KEY.true (refl, refl))

pub returns-in-Ok-clause-judged : goal.returns-in-Ok-clause-judged
returns-in-Ok-clause-judged c = under_key c.args.our_key c.args.policy.now _ c.if-our_key-lt-FIRST_KEY.false (rw c.in-Ok.ensures.policy at c.judge_definitions.ensures.judged)

pub returns-in-Err-clause-judged : goal.returns-in-Err-clause-judged
unfolding JudgedAs
returns-in-Err-clause-judged c =
    rw c.from-in-Err.ensures (under_key c.args.our_key c.args.policy.now _ c.if-our_key-lt-FIRST_KEY.false (table_refused c.args.our_key c.args.policy.now _ c.read.ensures.table c.in-Err.is (refl, refl)))
