use Rattle.judging.proofs.JudgeAnswers.{Judging}
use Rattle.judging.proofs.judge_definitions.Given as goal

abbrev pub invariant-loop-i : goal.invariant-loop-i
invariant-loop-i l = Judging l.our_key l.table.policy.now l.table.count l.i l.earlier
