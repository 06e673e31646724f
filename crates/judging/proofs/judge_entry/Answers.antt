use Rattle.std.proofs.Common.{ap}
use Rattle.policy.specs.Table.{Entry, entry_at}
use Rattle.policy_table.specs.Entries.{entry_place}
use Rattle.check_polarity.specs.Earlier.{earlier_is}
use Rattle.judging.proofs.JudgeAnswers.{entry_judged}
use Rattle.judging.proofs.judge_entry.Goals as goal

pub returns : goal.returns
returns c = entry_judged c.args.table.now.policy.now (earlier_is c.args.earlier.now) (entry_at c.args.table.now.policy.now (entry_place c.args.i))
    (rw c.polarity_of-polarity.ensures at c.judge_definition.ensures) (ap (λ (x : Entry). x.polarity) c.entry.ensures) c.definition_words.ensures
