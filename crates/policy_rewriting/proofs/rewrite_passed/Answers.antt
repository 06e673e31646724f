-- Each way out is a law of `Replies`.
use Rattle.std.proofs.Common.{length, ◌∙◌, ap, arith}
use Rattle.policy_rewriting.proofs.Replies.{not_external_lem, too_long, too_short, all_rewritten}
use Rattle.policy_rewriting.proofs.rewrite_passed.Goals as goal

pub returns-in_default : goal.returns-in_default
returns-in_default c = record {
  says = λ g. let x = not_external_lem c.args.policy.now c.args.area.now g c.measure.ensures.0 c.in_default.is in (x.0, c.measure.ensures.1 ∙ x.1);
}

pub returns-then-length-gt-MOST_WORDS : goal.returns-then-length-gt-MOST_WORDS
returns-then-length-gt-MOST_WORDS c = record {
  says = λ g. let x = too_long c.args.policy.now c.args.area.now g c.measure.ensures.0 c.in-Some.is c.if-length-gt-MOST_WORDS.true in (x.0, c.measure.ensures.1 ∙ x.1);
}

pub returns-then-area-length : goal.returns-then-area-length
returns-then-area-length c = record {
  says = λ g.
      let same = c.measure.ensures.1 in
      let x = too_short c.args.policy.now c.args.area.now g c.measure.ensures.0 c.in-Some.is c.if-length-gt-MOST_WORDS.false (omega (arith, c.if-area-length.true, ap length same)) in
      (x.0, same ∙ x.1);
}

pub returns : goal.returns
returns c = record {
  says = λ g. all_rewritten c.args.policy.now c.args.area.now g c.measure.ensures.0 c.in-Some.is c.if-length-gt-MOST_WORDS.false c.measure.ensures.1 c.if-area-length.false c.lay_output.ensures;
}
