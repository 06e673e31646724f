-- The definitions before number `d` are read.
use Rattle.engine.specs.Steps.{from_asked}
use Rattle.engine.proofs.Driving.{ReadSoFar}
use Rattle.engine.proofs.answering.read_definitions.Given as goal

abbrev pub invariant-loop-d : goal.invariant-loop-d
invariant-loop-d l = ReadSoFar l.count (from_asked l.asked l.definitions l.d) l.draws
