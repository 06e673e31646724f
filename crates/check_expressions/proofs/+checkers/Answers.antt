-- Each way out is a step of `Steps`, and what was read on the way to it.
use Rattle.std.proofs.Common.{rules, sym, ◌∙◌}
use Rattle.policy.specs.Held.{guard_is}
use Rattle.check_polarity.specs.Earlier.{earlier_is}
use Rattle.check_expressions.specs.Expressions.{inside, two_facts}
use Rattle.check_expressions.proofs.Steps.{expr_unread, expr_uncoded, expr_deep, expr_coded, code_leaf, code_union, code_difference, code_comprehension, opened, body_head, body_opens, body_then, draw_reads, absent_reads}
use Rattle.check_expressions.proofs.+checkers.Goals as goal

pub check_expr-returns-in_err-word : goal.check_expr-returns-in_err-word
check_expr-returns-in_err-word t c = let e = expr_unread (earlier_is c.args.earlier.now) c.args.variables c.args.decoder.now.words.now c.args.decoder.now.draws c.args.levels c.in_err-word.ensures in search rules

pub check_expr-returns-in_err-code : goal.check_expr-returns-in_err-code
check_expr-returns-in_err-code t c = let e = expr_uncoded (earlier_is c.args.earlier.now) c.args.variables c.args.decoder.now.words.now c.args.decoder.now.draws c.in_ok-word.ensures c.args.levels _ c.try_from.ensures c.in_err-code.was in search rules

pub check_expr-returns-then-levels-eq0 : goal.check_expr-returns-then-levels-eq0
check_expr-returns-then-levels-eq0 t c = expr_deep (earlier_is c.args.earlier.now) c.args.variables c.args.decoder.now.words.now c.args.decoder.now.draws c.in_ok-word.ensures c.args.levels c.in_ok-code.code c.in_ok-code.ensures c.if-levels-eq0.true

pub check_expr-returns : goal.check_expr-returns
check_expr-returns t c = expr_coded (earlier_is c.args.earlier.now) c.args.variables c.args.decoder.now.words.now c.args.decoder.now.draws c.in_ok-word.ensures c.args.levels c.in_ok-code.code c.in_ok-code.ensures c.if-levels-eq0.false c.check_code.ensures

pub check_code-returns-in_default : goal.check_code-returns-in_default
check_code-returns-in_default t c =
    c.check_leaf.ensures
    ∙ sym (code_leaf (earlier_is c.args.earlier.now) (inside (earlier_is c.args.earlier.now) c.args.levels) c.args.variables c.args.decoder.now.words.now c.args.decoder.now.draws c.args.code c.in_default.not-Union c.in_default.not-Difference c.in_default.not-Comprehension)

pub check_code-returns-in_err-left-in-Union : goal.check_code-returns-in_err-left-in-Union
check_code-returns-in_err-left-in-Union t c = rw (c.in-Union.is, code_union (earlier_is c.args.earlier.now) c.args.levels c.args.variables c.args.decoder.now.words.now c.args.decoder.now.draws) (search rules)

pub check_code-returns-in_ok-left-in-Union : goal.check_code-returns-in_ok-left-in-Union
check_code-returns-in_ok-left-in-Union t c = rw (c.in-Union.is, code_union (earlier_is c.args.earlier.now) c.args.levels c.args.variables c.args.decoder.now.words.now c.args.decoder.now.draws) (search rules)

pub check_code-returns-in_err-left-in-Difference : goal.check_code-returns-in_err-left-in-Difference
check_code-returns-in_err-left-in-Difference t c = rw (c.in-Difference.is, code_difference (earlier_is c.args.earlier.now) c.args.levels c.args.variables c.args.decoder.now.words.now c.args.decoder.now.draws) (search rules)

pub check_code-returns-in_ok-left-in-Difference : goal.check_code-returns-in_ok-left-in-Difference
check_code-returns-in_ok-left-in-Difference t c = rw (c.in-Difference.is, code_difference (earlier_is c.args.earlier.now) c.args.levels c.args.variables c.args.decoder.now.words.now c.args.decoder.now.draws) (search rules)

pub check_code-returns-in_err-count-in-Comprehension : goal.check_code-returns-in_err-count-in-Comprehension
check_code-returns-in_err-count-in-Comprehension t c = rw (c.in-Comprehension.is, code_comprehension (earlier_is c.args.earlier.now) (inside (earlier_is c.args.earlier.now) c.args.levels) c.args.variables c.args.decoder.now.words.now c.args.decoder.now.draws) (search rules)

pub check_code-returns-in_ok-count-in-Comprehension : goal.check_code-returns-in_ok-count-in-Comprehension
check_code-returns-in_ok-count-in-Comprehension t c = rw (c.in-Comprehension.is, code_comprehension (earlier_is c.args.earlier.now) (inside (earlier_is c.args.earlier.now) c.args.levels) c.args.variables c.args.decoder.now.words.now c.args.decoder.now.draws) (search rules)

pub check_two-returns-in_err-left : goal.check_two-returns-in_err-left
unfolding two_facts
check_two-returns-in_err-left t c = search rules

pub check_two-returns-in_err-right : goal.check_two-returns-in_err-right
unfolding two_facts
check_two-returns-in_err-right t c = search rules

pub check_two-returns : goal.check_two-returns
unfolding two_facts
check_two-returns t c = search rules

pub check_guards-returns-then-left-eq0 : goal.check_guards-returns-then-left-eq0
check_guards-returns-then-left-eq0 t c = rw (body_head (earlier_is c.args.earlier.now) (inside (earlier_is c.args.earlier.now) c.args.levels) c.args.variables c.args.decoder.now.words.now c.args.decoder.now.draws c.args.left c.if-left-eq0.true) (search rules)

pub check_guards-returns-in_err-guard : goal.check_guards-returns-in_err-guard
unfolding opened guard_is
check_guards-returns-in_err-guard t c = rw (body_opens (earlier_is c.args.earlier.now) (inside (earlier_is c.args.earlier.now) c.args.levels) c.args.variables c.args.decoder.now.words.now c.args.decoder.now.draws c.args.left c.if-left-eq0.false) (search rules)

pub check_guards-returns-in-Draw : goal.check_guards-returns-in-Draw
unfolding opened guard_is
check_guards-returns-in-Draw t c =
    body_then (earlier_is c.args.earlier.now) (inside (earlier_is c.args.earlier.now) c.args.levels) c.args.variables c.args.decoder.now.words.now c.args.decoder.now.draws c.args.left c.if-left-eq0.false (rw c.in-Draw.is at c.in_ok-guard.ensures) c.check_draw.ensures

pub check_guards-returns-in-Same : goal.check_guards-returns-in-Same
unfolding opened guard_is
check_guards-returns-in-Same t c =
    body_then (earlier_is c.args.earlier.now) (inside (earlier_is c.args.earlier.now) c.args.levels) c.args.variables c.args.decoder.now.words.now c.args.decoder.now.draws c.args.left c.if-left-eq0.false (rw c.in-Same.is at c.in_ok-guard.ensures) c.check_guards.ensures

pub check_guards-returns-in-Different : goal.check_guards-returns-in-Different
unfolding opened guard_is
check_guards-returns-in-Different t c =
    body_then (earlier_is c.args.earlier.now) (inside (earlier_is c.args.earlier.now) c.args.levels) c.args.variables c.args.decoder.now.words.now c.args.decoder.now.draws c.args.left c.if-left-eq0.false (rw c.in-Different.is at c.in_ok-guard.ensures) c.check_guards-in-Different.ensures

pub check_guards-returns-in-Absent : goal.check_guards-returns-in-Absent
unfolding opened guard_is
check_guards-returns-in-Absent t c =
    body_then (earlier_is c.args.earlier.now) (inside (earlier_is c.args.earlier.now) c.args.levels) c.args.variables c.args.decoder.now.words.now c.args.decoder.now.draws c.args.left c.if-left-eq0.false (rw c.in-Absent.is at c.in_ok-guard.ensures) c.check_absent.ensures

pub check_draw-returns-in_err-count_draw : goal.check_draw-returns-in_err-count_draw
check_draw-returns-in_err-count_draw t c = rw (draw_reads (earlier_is c.args.earlier.now) c.args.levels c.args.left c.args.variables c.args.decoder.now.words.now c.args.decoder.now.draws) (search rules)

pub check_draw-returns-in_err-drawn : goal.check_draw-returns-in_err-drawn
check_draw-returns-in_err-drawn t c = rw (draw_reads (earlier_is c.args.earlier.now) c.args.levels c.args.left c.args.variables c.args.decoder.now.words.now c.args.decoder.now.draws) (search rules)

pub check_draw-returns-in_err-scope : goal.check_draw-returns-in_err-scope
check_draw-returns-in_err-scope t c = rw (draw_reads (earlier_is c.args.earlier.now) c.args.levels c.args.left c.args.variables c.args.decoder.now.words.now c.args.decoder.now.draws) (search rules)

pub check_draw-returns-in_err-rest : goal.check_draw-returns-in_err-rest
check_draw-returns-in_err-rest t c = rw (draw_reads (earlier_is c.args.earlier.now) c.args.levels c.args.left c.args.variables c.args.decoder.now.words.now c.args.decoder.now.draws) (search rules)

pub check_draw-returns : goal.check_draw-returns
check_draw-returns t c = rw (draw_reads (earlier_is c.args.earlier.now) c.args.levels c.args.left c.args.variables c.args.decoder.now.words.now c.args.decoder.now.draws) (search rules)

pub check_absent-returns-in_err-row : goal.check_absent-returns-in_err-row
check_absent-returns-in_err-row t c = rw (absent_reads (earlier_is c.args.earlier.now) c.args.levels c.args.left c.args.variables c.args.decoder.now.words.now c.args.decoder.now.draws) (search rules)

pub check_absent-returns-in_err-lacking : goal.check_absent-returns-in_err-lacking
check_absent-returns-in_err-lacking t c = rw (absent_reads (earlier_is c.args.earlier.now) c.args.levels c.args.left c.args.variables c.args.decoder.now.words.now c.args.decoder.now.draws) (search rules)

pub check_absent-returns-in_err-rest : goal.check_absent-returns-in_err-rest
check_absent-returns-in_err-rest t c = rw (absent_reads (earlier_is c.args.earlier.now) c.args.levels c.args.left c.args.variables c.args.decoder.now.words.now c.args.decoder.now.draws) (search rules)

pub check_absent-returns : goal.check_absent-returns
check_absent-returns t c = rw (absent_reads (earlier_is c.args.earlier.now) c.args.levels c.args.left c.args.variables c.args.decoder.now.words.now c.args.decoder.now.draws) (search rules)
