-- Each answer calls the law of its step.
use Rattle.std.proofs.Common.{refl, sym, ◌∙◌, ap, arith}
use Rattle.std.proofs.lemmas.Result.{err_from_is_err_and}
use Rattle.policy.specs.Decode.{is_node}
use Rattle.policy_places.proofs.Places.{inside, inside_body}
use Rattle.policy_places.proofs.Codes.{expr_code_lem, leaf_no_node}
use Rattle.policy_places.proofs.Past.{some_body}
use Rattle.policy_places.proofs.Held.{guard_told}
use Rattle.read_values.proofs.Answers.{cleared}
use Rattle.read_expressions.proofs.Exprs.{some_expr, long, ask_leaf, ask_union, ask_difference, ask_guards, say_leaf, say_union, say_difference, say_comprehension, say_left_refused, say_right_refused, both_filled, say_combined, tested_row, say_leaf_has, say_has_refused, ask_row, say_has}
use Rattle.read_expressions.proofs.Guards.{some_head, ask_draw, ask_absent, ask_compared, say_head, say_draw, say_absent, say_passes, say_fails, operand_later, ask_has, rest_after, absent_back, ask_absent_rest, absent_refused, absent_has, absent_lacks}
use Rattle.read_expressions.proofs.Draws.{drawn, draw_refused, draw_later, draw_complement, ask_each, say_each, drawing_start, now_room, ask_next, each_refused, refused_same, each_ended, ended_same, each_body, each_nearer, drawing_on, each_body_refused, each_done}
use Rattle.read_steps.proofs.Drawing.{drawn_told}
use Rattle.read_expressions.proofs.+readers.Goals as goal

-- ---- an expression

pub read_expr-offset_bounds-lent-at : goal.read_expr-offset_bounds-lent-at
read_expr-offset_bounds-lent-at t c = let i = inside c.requires.here in let fits = c.well_formed in omega arith

pub read_expr-bounds-lent-at : goal.read_expr-bounds-lent-at
read_expr-bounds-lent-at t c = let i = inside c.requires.here in omega arith

pub read_expr-of-requires : goal.read_expr-of-requires
read_expr-of-requires t c = expr_code_lem (some_expr c.requires)

pub read_expr-overflow_add-at : goal.read_expr-overflow_add-at
read_expr-overflow_add-at t c = let i = inside c.requires.here in let fits = c.well_formed in omega arith

pub read_expr-read_two-requires : goal.read_expr-read_two-requires
read_expr-read_two-requires t c = let i = inside c.requires.here in (omega arith, ask_union c.requires (sym c.in-Union.ensures))

pub read_expr-returns-in-Union-clause-says : goal.read_expr-returns-in-Union-clause-says
read_expr-returns-in-Union-clause-says t c = say_union (sym c.in-Union.ensures) c.read_two.ensures.says

pub read_expr-overflow_add-at-in-Difference : goal.read_expr-overflow_add-at-in-Difference
read_expr-overflow_add-at-in-Difference t c = let i = inside c.requires.here in let fits = c.well_formed in omega arith

pub read_expr-read_two-requires-in-Difference : goal.read_expr-read_two-requires-in-Difference
read_expr-read_two-requires-in-Difference t c = let i = inside c.requires.here in (omega arith, ask_difference c.requires (sym c.in-Difference.ensures))

pub read_expr-returns-in-Difference-clause-says : goal.read_expr-returns-in-Difference-clause-says
read_expr-returns-in-Difference-clause-says t c = say_difference (sym c.in-Difference.ensures) c.read_two-in-Difference.ensures.says

pub read_expr-bounds-lent-at-in-Comprehension : goal.read_expr-bounds-lent-at-in-Comprehension
read_expr-bounds-lent-at-in-Comprehension t c = let i = inside_body (some_body (some_expr c.requires) (sym c.in-Comprehension.ensures)).here in omega arith

pub read_expr-clear-requires : goal.read_expr-clear-requires
read_expr-clear-requires t c = let room = long c.requires in omega arith

pub read_expr-read_guards-requires : goal.read_expr-read_guards-requires
read_expr-read_guards-requires t c =
    let i = inside c.requires.here in
    (omega arith, ask_guards c.requires (sym c.in-Comprehension.ensures) c.clear.auto.set (cleared c.args.area.now (long c.requires) (omega arith) c.clear.ensures))

pub read_expr-returns-in-Comprehension-clause-says : goal.read_expr-returns-in-Comprehension-clause-says
read_expr-returns-in-Comprehension-clause-says t c =
    say_comprehension (sym c.in-Comprehension.ensures) (cleared c.args.area.now (long c.requires) (omega arith) c.clear.ensures) c.read_guards.ensures.says

pub read_expr-read_leaf-requires : goal.read_expr-read_leaf-requires
read_expr-read_leaf-requires t c =
    (ask_leaf c.requires (leaf_no_node _ c.of.ensures c.in_default.not-Union c.in_default.not-Difference c.in_default.not-Comprehension), long c.requires)

pub read_expr-returns-in_default-clause-says : goal.read_expr-returns-in_default-clause-says
read_expr-returns-in_default-clause-says t c =
    say_leaf (leaf_no_node _ c.of.ensures c.in_default.not-Union c.in_default.not-Difference c.in_default.not-Comprehension) c.read_leaf.ensures

-- ---- a union or a difference

pub read_two-returns-in_err-used-clause-says : goal.read_two-returns-in_err-used-clause-says
read_two-returns-in_err-used-clause-says t c =
    let p = err_from_is_err_and c.from_residual.result c.from_residual.ensures.1 in
    rw (p.1, p.2) (say_left_refused c.in_err-used.ensures.says)

pub read_two-returns-in-Err-clause-says : goal.read_two-returns-in-Err-clause-says
read_two-returns-in-Err-clause-says t c = say_right_refused c.in_ok-used.ensures.says c.in_ok-used.ensures.same c.skip_expr-second.ensures c.in-Err.ensures.says

pub read_two-combine_parts-requires : goal.read_two-combine_parts-requires
read_two-combine_parts-requires t c =
    let size = c.read_expr.auto.area in
    let room = c.requires.right in
    both_filled c.in_ok-used.ensures.says c.in_ok-used.ensures.same c.skip_expr-second.ensures c.in-Ok.ensures.says (omega arith) c.read_expr-2.auto.area

pub read_two-returns-in-Ok-clause-says : goal.read_two-returns-in-Ok-clause-says
read_two-returns-in-Ok-clause-says t c =
    let size = c.read_expr.auto.area in
    let room = c.requires.right in
    say_combined c.in_ok-used.ensures.says c.in_ok-used.ensures.same c.skip_expr-second.ensures c.in-Ok.ensures.says (omega arith) c.read_expr-2.auto.area c.combine_parts.ensures

-- ---- whether a row belongs

pub expr_has-offset_bounds-lent-at : goal.expr_has-offset_bounds-lent-at
expr_has-offset_bounds-lent-at t c = let i = inside c.requires.ask.here in let fits = c.well_formed in omega arith

pub expr_has-bounds-lent-at : goal.expr_has-bounds-lent-at
expr_has-bounds-lent-at t c = let i = inside c.requires.ask.here in omega arith

pub expr_has-of-requires : goal.expr_has-of-requires
expr_has-of-requires t c = expr_code_lem (some_expr c.requires.ask)

pub expr_has-leaf_has-requires : goal.expr_has-leaf_has-requires
expr_has-leaf_has-requires t c = (ask_leaf c.requires.ask (ap is_node (sym c.of.ensures) ∙ sym c.is_node.ensures ∙ c.if-not-is_node.true), long c.requires.ask, tested_row c.requires)

pub expr_has-returns-then-not-is_node-clause-says : goal.expr_has-returns-then-not-is_node-clause-says
expr_has-returns-then-not-is_node-clause-says t c = say_leaf_has (ap is_node (sym c.of.ensures) ∙ sym c.is_node.ensures ∙ c.if-not-is_node.true) c.leaf_has.ensures

pub expr_has-returns-in_err-used-clause-says : goal.expr_has-returns-in_err-used-clause-says
expr_has-returns-in_err-used-clause-says t c =
    let p = err_from_is_err_and c.from_residual.result c.from_residual.ensures.1 in
    rw (p.1, p.2) (say_has_refused c.in_err-used.ensures.says)

pub expr_has-has_row-requires : goal.expr_has-has_row-requires
expr_has-has_row-requires t c = ask_row c.in_ok-used.ensures.says c.in_ok-used.ensures.same c.requires.ask.bound (tested_row c.requires)

pub expr_has-returns-clause-says : goal.expr_has-returns-clause-says
expr_has-returns-clause-says t c = say_has c.in_ok-used.ensures.says c.in_ok-used.ensures.same c.has_row.ensures

-- ---- the guards left

pub read_guards-insert_head-gathered-requires : goal.read_guards-insert_head-gathered-requires
read_guards-insert_head-gathered-requires t c = let q = c.requires in (q.ask.bound, q.ask.gathering, some_head q c.if-body-eq0.true)

pub read_guards-returns-then-body-eq0-clause-says : goal.read_guards-returns-then-body-eq0-clause-says
read_guards-returns-then-body-eq0-clause-says t c = say_head c.if-body-eq0.true c.insert_head-gathered.ensures

pub read_guards-overflow_add-rest : goal.read_guards-overflow_add-rest
read_guards-overflow_add-rest t c = let i = inside_body c.requires.here in let fits = c.well_formed in omega arith

pub read_guards-read_draw-requires : goal.read_guards-read_draw-requires
read_guards-read_draw-requires t c =
    let i = inside_body c.requires.here in
    (omega arith, ask_draw c.requires c.if-body-eq0.false (guard_told c.guard_at-guard.ensures c.in-Draw.is))

pub read_guards-overflow_add-rest-then-passes : goal.read_guards-overflow_add-rest-then-passes
read_guards-overflow_add-rest-then-passes t c =
    let i = inside_body (ask_compared c.requires c.if-body-eq0.false c.in-Same.is c.guard_at-guard.ensures).here in
    let fits = c.well_formed in
    omega arith

pub read_guards-read_guards-requires : goal.read_guards-read_guards-requires
read_guards-read_guards-requires t c =
    let i = inside_body c.requires.here in
    (omega arith, ask_compared c.requires c.if-body-eq0.false c.in-Same.is c.guard_at-guard.ensures)

pub read_guards-returns-then-passes-clause-says : goal.read_guards-returns-then-passes-clause-says
read_guards-returns-then-passes-clause-says t c =
    say_passes c.if-body-eq0.false c.in-Same.is c.guard_at-guard.ensures (sym c.passes.ensures ∙ c.if-passes.true) c.read_guards.ensures.says

pub read_guards-overflow_add-rest-in-Absent : goal.read_guards-overflow_add-rest-in-Absent
read_guards-overflow_add-rest-in-Absent t c = let i = inside_body c.requires.here in let fits = c.well_formed in omega arith

pub read_guards-read_absent-requires : goal.read_guards-read_absent-requires
read_guards-read_absent-requires t c =
    let i = inside_body c.requires.here in
    (omega arith, ask_absent c.requires c.if-body-eq0.false (guard_told c.guard_at-guard.ensures c.in-Absent.is))

pub read_guards-returns-in-Draw-clause-says : goal.read_guards-returns-in-Draw-clause-says
read_guards-returns-in-Draw-clause-says t c = say_draw c.if-body-eq0.false (guard_told c.guard_at-guard.ensures c.in-Draw.is) c.read_draw.ensures.says

pub read_guards-returns-else-passes-clause-says : goal.read_guards-returns-else-passes-clause-says
read_guards-returns-else-passes-clause-says t c =
    say_fails c.if-body-eq0.false c.requires.ask.gathering c.in-Same.is c.guard_at-guard.ensures (sym c.passes.ensures ∙ c.if-passes.false)

pub read_guards-returns-in-Absent-clause-says : goal.read_guards-returns-in-Absent-clause-says
read_guards-returns-in-Absent-clause-says t c = say_absent c.if-body-eq0.false (guard_told c.guard_at-guard.ensures c.in-Absent.is) c.read_absent.ensures.says

-- ---- an absent guard

pub read_absent-expr_has-requires : goal.read_absent-expr_has-requires
read_absent-expr_has-requires t c =
    let later = operand_later c.requires c.skip_row-operand.ensures in
    (omega arith, ask_has c.requires c.skip_row-operand.ensures)

pub read_absent-returns-in_err-has-clause-says : goal.read_absent-returns-in_err-has-clause-says
read_absent-returns-in_err-has-clause-says t c =
    let p = err_from_is_err_and c.from_residual.result c.from_residual.ensures.1 in
    rw (p.1, p.2) (absent_refused c.skip_row-operand.ensures (absent_back c.requires c.expr_has.new.area c.expr_has.auto.area) c.in_err-has.ensures.says)

pub read_absent-returns-then-has-clause-says : goal.read_absent-returns-then-has-clause-says
read_absent-returns-then-has-clause-says t c =
    absent_has c.skip_row-operand.ensures (absent_back c.requires c.expr_has.new.area c.expr_has.auto.area) c.requires.ask.gathering c.in_ok-has.ensures.says c.if-has.true

pub read_absent-read_guards-requires : goal.read_absent-read_guards-requires
read_absent-read_guards-requires t c =
    let later = rest_after c.requires c.skip_row-operand.ensures c.skip_expr.ensures in (
      omega arith,
      ask_absent_rest c.requires c.skip_row-operand.ensures c.skip_expr.ensures c.in_ok-has.ensures.says.unchanged c.in_ok-has.ensures.same
          (absent_back c.requires c.expr_has.new.area c.expr_has.auto.area),
    )

pub read_absent-returns-clause-says : goal.read_absent-returns-clause-says
read_absent-returns-clause-says t c =
    absent_lacks c.skip_row-operand.ensures (absent_back c.requires c.expr_has.new.area c.expr_has.auto.area) c.requires.ask.gathering c.in_ok-has.ensures.says c.if-has.false
    c.skip_expr.ensures c.in_ok-has.ensures.same c.read_guards.ensures.says

-- ---- a draw

pub read_draw-returns-in_err-before-clause-says : goal.read_draw-returns-in_err-before-clause-says
read_draw-returns-in_err-before-clause-says t c =
    let p = err_from_is_err_and c.from_residual.result c.from_residual.ensures.1 in
    rw (p.1, p.2) (draw_refused c.requires c.read_expr.auto.area c.in_err-before.ensures.says)

pub read_draw-returns-then-area-free-ne0-clause-says : goal.read_draw-returns-then-area-free-ne0-clause-says
read_draw-returns-then-area-free-ne0-clause-says t c =
    draw_complement c.requires c.in_ok-before.ensures.says.unchanged (drawn c.requires c.read_expr.auto.area c.in_ok-before.ensures.says) c.if-area-free-ne0.true

pub read_draw-draw_rows-requires : goal.read_draw-draw_rows-requires
read_draw-draw_rows-requires t c =
    let later = draw_later c.requires c.skip_expr-pattern.ensures c.skip_pattern.ensures in (
      omega arith,
      ask_each c.requires c.in_ok-before.ensures.says.unchanged (drawn c.requires c.read_expr.auto.area c.in_ok-before.ensures.says) c.skip_expr-pattern.ensures c.skip_pattern.ensures
          c.in_ok-before.ensures.same,
    )

pub read_draw-returns-clause-says : goal.read_draw-returns-clause-says
read_draw-returns-clause-says t c =
    say_each c.requires c.in_ok-before.ensures.says.unchanged (drawn c.requires c.read_expr.auto.area c.in_ok-before.ensures.says) c.skip_expr-pattern.ensures c.skip_pattern.ensures
    c.if-area-free-ne0.false c.in_ok-before.ensures.same c.draw_rows.ensures.says

-- ---- the rows drawn

pub draw_rows-loop-i-init : goal.draw_rows-loop-i-init
draw_rows-loop-i-init t c = drawing_start c.requires refl

pub draw_rows-slice_bounds-draw_next-count : goal.draw_rows-slice_bounds-draw_next-count
draw_rows-slice_bounds-draw_next-count t c = let r = now_room c.loop-i.invariant in omega arith

pub draw_rows-slice_bounds-draw_next-start : goal.draw_rows-slice_bounds-draw_next-start
draw_rows-slice_bounds-draw_next-start t c = let r = now_room c.loop-i.invariant in omega arith

pub draw_rows-draw_next-requires : goal.draw_rows-draw_next-requires
draw_rows-draw_next-requires t c = ask_next c.loop-i.invariant

pub draw_rows-shape_of-area-in_err-total : goal.draw_rows-shape_of-area-in_err-total
draw_rows-shape_of-area-in_err-total t c = c.loop-i.invariant.size

pub draw_rows-returns-in_err-total-clause-says : goal.draw_rows-returns-in_err-total-clause-says
draw_rows-returns-in_err-total-clause-says t c =
    let p = err_from_is_err_and c.from_residual.result c.from_residual.ensures.1 in
    rw (p.1, p.2) (each_refused c.loop-i.invariant c.in_err-total.ensures)

pub draw_rows-returns-in_err-total-clause-same : goal.draw_rows-returns-in_err-total-clause-same
draw_rows-returns-in_err-total-clause-same t c = refused_same c.loop-i.invariant c.in_err-total.ensures

pub draw_rows-shape_of-area-in-End : goal.draw_rows-shape_of-area-in-End
draw_rows-shape_of-area-in-End t c = c.loop-i.invariant.size

pub draw_rows-returns-in-End-clause-says : goal.draw_rows-returns-in-End-clause-says
draw_rows-returns-in-End-clause-says t c = each_ended c.loop-i.invariant (drawn_told c.in-End.is c.in_ok-total.ensures)

pub draw_rows-returns-in-End-clause-same : goal.draw_rows-returns-in-End-clause-same
draw_rows-returns-in-End-clause-same t c = ended_same c.loop-i.invariant (drawn_told c.in-End.is c.in_ok-total.ensures)

pub draw_rows-read_guards-read-requires : goal.draw_rows-read_guards-read-requires
draw_rows-read_guards-read-requires t c = (omega arith, each_body c.loop-i.invariant (drawn_told c.in-Matches.is c.in_ok-total.ensures))

pub draw_rows-shape_of-area-in_err-used-in-Matches : goal.draw_rows-shape_of-area-in_err-used-in-Matches
draw_rows-shape_of-area-in_err-used-in-Matches t c = c.read_guards-read.auto.area ∙ c.loop-i.invariant.size

pub draw_rows-returns-in_err-used-in-Matches-clause-says : goal.draw_rows-returns-in_err-used-in-Matches-clause-says
draw_rows-returns-in_err-used-in-Matches-clause-says t c =
    let p = err_from_is_err_and c.from_residual-in_err-used-in-Matches.result c.from_residual-in_err-used-in-Matches.ensures.1 in
    rw (p.1, p.2) (each_body_refused c.loop-i.invariant (drawn_told c.in-Matches.is c.in_ok-total.ensures) c.in_err-used-in-Matches.ensures.says)

pub draw_rows-loop-i-smaller : goal.draw_rows-loop-i-smaller
draw_rows-loop-i-smaller t c = each_nearer c.loop-i.invariant (drawn_told c.in-Matches.is c.in_ok-total.ensures)

pub draw_rows-loop-i-preserved : goal.draw_rows-loop-i-preserved
draw_rows-loop-i-preserved t c = drawing_on c.loop-i.invariant (drawn_told c.in-Matches.is c.in_ok-total.ensures) c.in_ok-used-in-Matches.ensures.says c.read_guards-read.auto.area

pub draw_rows-shape_of-area : goal.draw_rows-shape_of-area
draw_rows-shape_of-area t c = c.loop-i.invariant.size

pub draw_rows-returns-clause-says : goal.draw_rows-returns-clause-says
draw_rows-returns-clause-says t c = each_done c.loop-i.invariant c.loop-i-test.false

pub draw_rows-returns-clause-same : goal.draw_rows-returns-clause-same
draw_rows-returns-clause-same t c = c.loop-i.invariant.same
