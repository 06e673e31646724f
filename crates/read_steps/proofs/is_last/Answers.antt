use Rattle.std.proofs.Common.{◌-◌, get_or, arith}
use Rattle.sets.proofs.SetWords.{size, width_in}
use Rattle.read_steps.proofs.Last.{none_last, says_last}
use Rattle.read_steps.proofs.is_last.Goals as goal

pub returns-then-listed-eq0 : goal.returns-then-listed-eq0
returns-then-listed-eq0 c = none_last (omega arith)

pub is_row-requires : goal.is_row-requires
is_row-requires c =
    let s = size _ c.requires.2.sound in
    (c.requires.0, c.requires.1, omega arith, width_in c.args.set.now _ c.requires.2.sound (omega arith))

pub returns : goal.returns
returns c = says_last (get_or c.args.set.now 1 0 - 1) c.requires.2 (omega arith) c.is_row.ensures
