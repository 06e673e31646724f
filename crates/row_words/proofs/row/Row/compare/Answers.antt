-- One atom more is compared.
use Rattle.std.proofs.Common.{◌≡◌, length, rules, arith}
use Rattle.row_words.proofs.CompareLaws.{Against, compare_atoms, compare_next, compare_widths}
use Rattle.row_words.proofs.row.Row.compare.Goals as goal

pub returns-then-x-y : goal.returns-then-x-y
returns-then-x-y c =
    let a = c.args in
    let four : length a.self.now.atoms ≡ 4 = search rules in
    let g : Against a.self.now a.words.now a.at = record { room = omega arith; four = four; few = omega arith; narrow = omega arith } in
    compare_atoms g c.loop-j.j c.loop-j.invariant (omega arith) (omega arith) _ c.cmp.ensures c.if-x-y.true

pub loop-j-preserved : goal.loop-j-preserved
loop-j-preserved c =
    let a = c.args in
    let four : length a.self.now.atoms ≡ 4 = search rules in
    let g : Against a.self.now a.words.now a.at = record { room = omega arith; four = four; few = omega arith; narrow = omega arith } in
    compare_next g c.loop-j.j c.loop-j.invariant (omega arith) (omega arith) c.if-x-y.false

pub returns : goal.returns
returns c =
    let a = c.args in
    let four : length a.self.now.atoms ≡ 4 = search rules in
    let g : Against a.self.now a.words.now a.at = record { room = omega arith; four = four; few = omega arith; narrow = omega arith } in
    compare_widths g c.loop-j.j c.loop-j.invariant _ c.cmp-2.ensures (omega arith)
