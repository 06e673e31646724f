-- One word more is written.
use Rattle.std.proofs.Common.{refl, arith}
use Rattle.rows.proofs.Put.{writing_start, writing_next, writing_end}
use Rattle.row_words.proofs.write.Goals as goal

pub loop-j-init : goal.loop-j-init
loop-j-init c = writing_start c.args.words.now c.args.area.now c.args.at

pub loop-j-preserved : goal.loop-j-preserved
loop-j-preserved c =
    let a = c.args in
    writing_next a.words.now a.area.now a.at (omega arith) c.loop-j.area c.loop-j.j _ c.loop-j.invariant (omega arith) refl

pub returns : goal.returns
returns c =
    let a = c.args in
    writing_end a.words.now a.area.now a.at c.loop-j.area c.loop-j.j c.loop-j.invariant (omega arith)
