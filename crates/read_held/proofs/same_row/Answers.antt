-- Two sound records have one row just if they have the same words for it.
use Rattle.std.proofs.Common.{refl, arith}
use Rattle.rows.proofs.Case.{never}
use Rattle.read_held.proofs.Halving.{firsts_differ, words_differ, words_on, words_end}
use Rattle.read_held.proofs.same_row.Goals as goal

pub returns-then-one-other : goal.returns-then-one-other
returns-then-one-other c = (λ t. never t refl, λ e. absurd (firsts_differ _ _ c.requires.0 c.requires.1 c.if-one-other.true e))

pub returns-then-one-j : goal.returns-then-one-j
returns-then-one-j c =
    (λ t. never t refl, λ e. absurd (words_differ _ _ c.requires.0 c.requires.1 c.loop-j.j (omega arith) c.if-one-j.true e))

pub loop-j-preserved : goal.loop-j-preserved
loop-j-preserved c = words_on _ _ c.requires.0 c.requires.1 c.loop-j.j (omega arith) c.loop-j.invariant c.if-one-j.false

pub returns : goal.returns
returns c = (λ t. words_end _ _ c.requires.0 c.requires.1 c.loop-j.j (omega arith) c.loop-j.invariant, λ e. refl)
