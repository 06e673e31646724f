use Rattle.std.proofs.Common.{rules}
use Rattle.policy.specs.Decode.{rows}
use Rattle.check_polarity.specs.Facts.{term_facts}
use Rattle.check_terms.specs.Answers.{keeping}
use Rattle.check_leaves.specs.Checks.{literal_facts}
use Rattle.check_leaves.proofs.Leaving.{forgot, forgot_refused}
use Rattle.check_leaves.proofs.check_literal.Goals as goal

pub returns-in_err-rows : goal.returns-in_err-rows
unfolding literal_facts keeping
returns-in_err-rows c = let e = forgot_refused (rows c.args.variables c.args.decoder.now.words.now c.args.decoder.now.draws) (term_facts c.args.complement) c.in_err-rows.ensures in search rules

pub returns : goal.returns
unfolding literal_facts keeping
returns c = rw c.of_terms.ensures (forgot _ c.in_ok-rows.ensures)
