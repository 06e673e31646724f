use Rattle.std.proofs.Common.{◌-◌}
use Rattle.check_terms.specs.Answers.{keeping, scope, pattern}
use Rattle.check_terms.proofs.Reading.{Matching}
use Rattle.check_terms.proofs.Decoder.pattern.Given as goal

abbrev pub invariant-loop : goal.invariant-loop
invariant-loop l = Matching (keeping scope (pattern l.variables) l.fn.self.words.now l.fn.self.draws) (l.width - l.counter) l.count l.self
