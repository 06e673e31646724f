-- The rows drawn and passed over lead on to those left.
use Rattle.read_steps.proofs.Drawing.{Seeking}
use Rattle.read_steps.proofs.draw_next.Given as goal

abbrev pub invariant-loop-j : goal.invariant-loop-j
invariant-loop-j l = Seeking l.lent.format l.lent.words.now l.at l.fn.bindings.values l.fn.bindings.count l.draws l.set l.i l.bindings.values l.bindings.count l.used l.j
