-- One more of the row's words is written.
use Rattle.std.proofs.Common.{◌≡◌, length, rules, arith}
use Rattle.rows.specs.Layout.{row_words}
use Rattle.rows.proofs.Put.{writing_start, writing_next, writing_end}
use Rattle.row_words.specs.Values.{row_is}
use Rattle.row_words.proofs.RowLaws.{held_words_length}
use Rattle.row_words.proofs.row.Row.write.Goals as goal

pub loop-j-init : goal.loop-j-init
loop-j-init c = writing_start (row_words (row_is c.args.self.now)) c.args.area.now c.args.at

pub loop-j-preserved : goal.loop-j-preserved
loop-j-preserved c =
    let a = c.args in
    let four : length a.self.now.atoms ≡ 4 = search rules in
    let l = held_words_length a.self.now four (omega arith) in
    writing_next (row_words (row_is a.self.now)) a.area.now a.at (omega arith) c.loop-j.area c.loop-j.j _ c.loop-j.invariant (omega arith) c.word.ensures

pub returns : goal.returns
returns c =
    let a = c.args in
    let four : length a.self.now.atoms ≡ 4 = search rules in
    let l = held_words_length a.self.now four (omega arith) in
    writing_end (row_words (row_is a.self.now)) a.area.now a.at c.loop-j.area c.loop-j.j c.loop-j.invariant (omega arith)
