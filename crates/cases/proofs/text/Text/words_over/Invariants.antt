-- The room stays as it is, what is left is the rear of the text, and each step leaves less of it.
use Rattle.std.proofs.Common.{◌≡◌, length}
use Rattle.cases.specs.Rear.{IsRear}
use Rattle.cases.proofs.text.Text.words_over.Given as goal

abbrev pub invariant-loop-first : goal.invariant-loop-first
invariant-loop-first l = record {
  room : length l.read.words.now ≡ length l.initial.read.words.now;
  rear : IsRear l.self.rest.now l.fn.self.rest.now;
}

abbrev pub decreases-loop-first : goal.decreases-loop-first
decreases-loop-first l = length l.self.rest.now
