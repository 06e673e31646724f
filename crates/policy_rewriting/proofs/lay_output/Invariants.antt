-- Once the definitions left are laid too, the output is, but for its header.
use Rattle.std.proofs.Common.{◌≡◌, length}
use Rattle.policy_rewriting.specs.Output.{Passing}
use Rattle.policy_rewriting.proofs.Output.{OutputLeft}
use Rattle.policy_rewriting.proofs.lay_output.Given as goal

abbrev pub invariant-loop-i : goal.invariant-loop-i
invariant-loop-i l = (length l.area ≡ length l.fn.area) × ((g : Passing l.policy) → OutputLeft g l.fn.area l.keys l.i l.to l.area)
