use Rattle.std.proofs.Common.{rules, false}
use Rattle.policy.specs.Decode.{row}
use Rattle.check_polarity.specs.Facts.{term_facts}
use Rattle.check_terms.specs.Answers.{keeping}
use Rattle.check_leaves.specs.Checks.{head_facts}
use Rattle.check_leaves.proofs.Leaving.{forgot, forgot_refused}
use Rattle.check_leaves.proofs.check_head.Goals as goal

pub returns-in_err-row : goal.returns-in_err-row
unfolding head_facts keeping
returns-in_err-row c = let e = forgot_refused (row c.args.variables c.args.decoder.now.words.now c.args.decoder.now.draws) (term_facts false) c.in_err-row.ensures in search rules

pub returns : goal.returns
unfolding head_facts keeping
returns c = rw c.of_terms.ensures (forgot _ c.in_ok-row.ensures)
