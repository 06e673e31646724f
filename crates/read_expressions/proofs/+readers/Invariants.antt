-- Twice the words left; one more where an expression is read from the same word on. The loop keeps `Drawing`, of the rows drawn.
use Rattle.std.proofs.Common.{◌+◌, ◌*◌, ◌-◌, length}
use Rattle.read_values.specs.From.{from}
use Rattle.read_expressions.proofs.Draws.{Drawing}
use Rattle.read_expressions.proofs.+readers.Given as goal

abbrev pub decreases-draw_rows : goal.decreases-draw_rows
decreases-draw_rows l = 2 * (length l.lent.now.words.now - l.body.at) + 1

abbrev pub decreases-expr_has : goal.decreases-expr_has
decreases-expr_has l = 2 * (length l.lent.now.words.now - l.at) + 1

abbrev pub decreases-read_absent : goal.decreases-read_absent
decreases-read_absent l = 2 * (length l.lent.now.words.now - l.body.at) + 1

abbrev pub decreases-read_draw : goal.decreases-read_draw
decreases-read_draw l = 2 * (length l.lent.now.words.now - l.body.at) + 1

abbrev pub decreases-read_expr : goal.decreases-read_expr
decreases-read_expr l = 2 * (length l.lent.now.words.now - l.at)

abbrev pub decreases-read_guards : goal.decreases-read_guards
decreases-read_guards l = 2 * (length l.lent.now.words.now - l.body.at)

abbrev pub decreases-read_two : goal.decreases-read_two
decreases-read_two l = 2 * (length l.lent.now.words.now - l.at) + 1

abbrev pub invariant-draw_rows-loop-i : goal.invariant-draw_rows-loop-i
invariant-draw_rows-loop-i l =
    Drawing (from l.lent) l.lent.words.now l.pattern l.fn.body.at l.fn.body.left l.fn.bindings.values l.fn.bindings.count l.draws l.fn.body.free l.fn.area l.listed l.bindings.values l.bindings.count l.area l.used l.i

abbrev pub decreases-draw_rows-loop-i : goal.decreases-draw_rows-loop-i
decreases-draw_rows-loop-i l = l.listed - l.i
