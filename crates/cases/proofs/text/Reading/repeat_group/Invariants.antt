-- The words and the room for them stay as many, and the words that stand there stay counted.
use Rattle.std.proofs.Common.{◌≡◌, ◌≤◌, length}
use Rattle.cases.proofs.text.Reading.repeat_group.Given as goal

abbrev pub invariant-loop-i : goal.invariant-loop-i
invariant-loop-i l = record { room : length l.self.words.now ≡ length l.fn.self.words.now; count : l.end ≤ l.self.count }

abbrev pub invariant-loop-higher : goal.invariant-loop-higher
invariant-loop-higher l = record { room : length l.self.words.now ≡ length l.fn.self.words.now; count : l.end ≤ l.self.count }
