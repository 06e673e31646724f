use Rattle.std.proofs.Common.{◌-◌}
use Rattle.policy.specs.Decode.{term, row}
use Rattle.check_terms.specs.Answers.{keeping, nothing}
use Rattle.check_terms.proofs.Reading.{Going}
use Rattle.check_terms.proofs.Decoder.row.Given as goal

abbrev pub invariant-loop : goal.invariant-loop
invariant-loop l = Going (term l.variables) (keeping nothing (row l.variables) l.fn.self.words.now l.fn.self.draws) (l.width - l.counter) l.self
