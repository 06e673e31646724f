-- The words passed are laid.
use Rattle.std.proofs.Common.{◌≡◌, take}
use Rattle.policy_rewriting.specs.Laid.{laid}
use Rattle.policy_rewriting.proofs.laying.lay_words.Given as goal

abbrev pub invariant-loop-i : goal.invariant-loop-i
invariant-loop-i l = l.area ≡ laid l.to (take l.i l.words) l.fn.area
