use Rattle.std.proofs.Common.{◌-◌}
use Rattle.policy.specs.Decode.{row, rows}
use Rattle.check_terms.specs.Answers.{keeping, nothing}
use Rattle.check_terms.proofs.Reading.{Going}
use Rattle.check_terms.proofs.Decoder.rows.Given as goal

abbrev pub invariant-loop : goal.invariant-loop
invariant-loop l = Going (row l.variables) (keeping nothing (rows l.variables) l.fn.self.words.now l.fn.self.draws) (l.count - l.counter) l.self
