-- The draws are fewer than a million, or they are not.
use Rattle.read_values.proofs.Answers.{tick_counted, tick_refused}
use Rattle.read_values.proofs.tick.Goals as goal

pub returns-then-draws-ge-MOST_DRAWS : goal.returns-then-draws-ge-MOST_DRAWS
returns-then-draws-ge-MOST_DRAWS c = tick_refused c.args.draws c.if-draws-ge-MOST_DRAWS.true

pub returns : goal.returns
returns c = tick_counted c.args.draws c.if-draws-ge-MOST_DRAWS.false
