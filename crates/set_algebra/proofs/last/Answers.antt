-- With a row on the left, the two are compared.
use Rattle.std.proofs.Common.{◌+◌, ◌*◌, ◌-◌, ◌∙◌, ap, arith}
use Rattle.rows.specs.Row.{Row, row_before}
use Rattle.rows.specs.Layout.{row_in, five_at}
use Rattle.row_words.specs.Values.{ordering_for}
use Rattle.row_words.proofs.RowLaws.{loaded_row, loaded_width}
use Rattle.set_algebra.proofs.Merging.{last_zero, last_some}
use Rattle.set_algebra.proofs.last.Goals as goal

pub returns-then-i-eq0 : goal.returns-then-i-eq0
returns-then-i-eq0 c = last_zero c.args.i _ _ (omega arith)

pub compare-requires : goal.compare-requires
compare-requires c =
    let a = c.args in
    let p = c.requires in
    let r = p.right_room in
    let s = p.some in
    let n = c.if-i-eq0.false in
    let w = p.left_width (omega arith) in
    (omega arith, omega (arith, loaded_width _ a.area.now (2 + 5 * (a.i - 1)) c.at-row.ensures), p.right_width)

pub returns : goal.returns
returns c =
    let a = c.args in
    let n = c.if-i-eq0.false in
    c.compare.ensures ∙ ap (λ (x : Row). ordering_for row_before x (row_in (five_at a.area.now (644 + 5 * (a.j - 1))))) (loaded_row _ a.area.now (2 + 5 * (a.i - 1)) c.at-row.ensures) ∙ last_some a.i _ _ (omega arith)
