use Rattle.std.proofs.Common.{◌∙◌, ap, refl, arith}
use Rattle.rows.specs.Name.{polarity_of}
use Rattle.policy.specs.Table.{Entry}
use Rattle.check_polarity.specs.Earlier.{known_is}
use Rattle.check_polarity.proofs.EarlierAnswers.{known_count}
use Rattle.judging.proofs.JudgeAnswers.{none_judged, judging_refused, definition_judged, all_judged}
use Rattle.judging.proofs.judge_definitions.Goals as goal

pub loop-i-init : goal.loop-i-init
loop-i-init c = none_judged c.args.our_key c.args.table.now.policy.now c.args.table.now.count c.none-earlier.result c.requires c.none-earlier.ensures.none

pub returns-in-Err-clause-judged : goal.returns-in-Err-clause-judged
returns-in-Err-clause-judged c = judging_refused c.args.our_key c.args.table.now.policy.now c.args.table.now.count c.loop-i.i c.loop-i.earlier c.loop-i.invariant c.loop-i-test.true _ c.judge_entry.ensures _ c.in-Err.is refl refl

pub push-requires : goal.push-requires
push-requires c = omega (arith, known_count c.loop-i.earlier, c.loop-i.invariant.count, c.args.table.now.few)

pub loop-i-preserved : goal.loop-i-preserved
unfolding known_is
loop-i-preserved c =
    let name = ap (λ (x : Entry). x.name) c.entry-entry.ensures in
    let polarity = c.polarity_of.ensures ∙ ap (λ (x : Entry). polarity_of x.polarity) c.entry-entry.ensures in
    definition_judged c.args.our_key c.args.table.now.policy.now c.args.table.now.count c.loop-i.i c.loop-i.earlier c.loop-i.invariant c.loop-i-test.true _ c.judge_entry.ensures _ c.in-Ok.is (rw (name, polarity) refl) c.push.ensures.known

pub returns-clause-judged : goal.returns-clause-judged
returns-clause-judged c = all_judged c.args.our_key c.args.table.now.policy.now c.args.table.now.count c.loop-i.i c.loop-i.earlier c.loop-i.invariant (omega arith)
