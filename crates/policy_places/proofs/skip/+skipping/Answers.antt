-- What stands at a place is told by its code.
use Rattle.std.proofs.Common.{ℕ, sym, arith}
use Rattle.policy_places.proofs.Codes.{expr_code_lem, body_code_lem, two_node, two_no_body, leaf_no_node, not_first, not_last}
use Rattle.policy_places.proofs.Places.{inside, inside_body}
use Rattle.policy_places.proofs.Past.{some_leaf_lem, past_leaf, some_first, some_second, second_after, past_two, some_body, past_body}
use Rattle.policy_places.proofs.Past.{some_head, past_head, some_operand, some_pattern, some_row, some_inner, inner_after, PastGuard, draw_passed, absent_passed, test_passed}
use Rattle.policy_places.proofs.skip.+skipping.Goals as goal
use Rattle.policy_places.proofs.skip.+skipping.Goals.{skip_guards-Joined-of, skip_guards-in-Draw, skip_guards-in-Absent, skip_guards-in-Same}

-- ---- an expression

pub skip_expr-offset_bounds-words-at : goal.skip_expr-offset_bounds-words-at
skip_expr-offset_bounds-words-at t c = let i = inside c.requires.here in let fits = c.well_formed in omega arith

pub skip_expr-bounds-words-at : goal.skip_expr-bounds-words-at
skip_expr-bounds-words-at t c = inside c.requires.here

pub skip_expr-of-requires : goal.skip_expr-of-requires
skip_expr-of-requires t c = expr_code_lem c.requires

pub skip_expr-bounds-words-at-in-Comprehension : goal.skip_expr-bounds-words-at-in-Comprehension
skip_expr-bounds-words-at-in-Comprehension t c = let i = inside_body (some_body c.requires (sym c.in-Comprehension.ensures)).here in omega arith

pub skip_expr-skip_guards-requires : goal.skip_expr-skip_guards-requires
skip_expr-skip_guards-requires t c = let i = inside c.requires.here in (omega arith, some_body c.requires (sym c.in-Comprehension.ensures))

pub skip_expr-returns-in-Comprehension : goal.skip_expr-returns-in-Comprehension
skip_expr-returns-in-Comprehension t c = past_body (sym c.in-Comprehension.ensures) c.skip_guards.ensures

pub skip_expr-skip_expr-second-requires : goal.skip_expr-skip_expr-second-requires
skip_expr-skip_expr-second-requires t c =
    let i = inside c.requires.here in
    (omega arith, some_first c.requires (two_node _ c.of.ensures c.in-Union.is) (two_no_body _ c.of.ensures c.in-Union.is))

pub skip_expr-skip_expr-requires : goal.skip_expr-skip_expr-requires
skip_expr-skip_expr-requires t c =
    let l = two_node _ c.of.ensures c.in-Union.is in
    let h = two_no_body _ c.of.ensures c.in-Union.is in
    let i = inside c.requires.here in
    let j = second_after c.skip_expr-second.ensures c.requires l h in
    (omega arith, some_second c.skip_expr-second.ensures c.requires l h)

pub skip_expr-returns-in-Union : goal.skip_expr-returns-in-Union
skip_expr-returns-in-Union t c = past_two c.skip_expr-second.ensures (two_node _ c.of.ensures c.in-Union.is) (two_no_body _ c.of.ensures c.in-Union.is) c.skip_expr.ensures

pub skip_expr-skip_leaf-requires : goal.skip_expr-skip_leaf-requires
skip_expr-skip_leaf-requires t c = some_leaf_lem c.requires (leaf_no_node _ c.of.ensures c.in_default.not-Union c.in_default.not-Difference c.in_default.not-Comprehension)

pub skip_expr-returns-in_default : goal.skip_expr-returns-in_default
skip_expr-returns-in_default t c = past_leaf (leaf_no_node _ c.of.ensures c.in_default.not-Union c.in_default.not-Difference c.in_default.not-Comprehension) c.skip_leaf.ensures

-- ---- the guards left

pub skip_guards-skip_row-requires : goal.skip_guards-skip_row-requires
skip_guards-skip_row-requires t c = some_head c.requires c.if-left-eq0.true

pub skip_guards-returns-then-left-eq0 : goal.skip_guards-returns-then-left-eq0
skip_guards-returns-then-left-eq0 t c = past_head c.if-left-eq0.true c.skip_row.ensures

pub skip_guards-offset_bounds-words-at : goal.skip_guards-offset_bounds-words-at
skip_guards-offset_bounds-words-at t c = let i = inside_body c.requires.here in let fits = c.well_formed in omega arith

pub skip_guards-bounds-words-at : goal.skip_guards-bounds-words-at
skip_guards-bounds-words-at t c = inside_body c.requires.here

pub skip_guards-of-requires : goal.skip_guards-of-requires
skip_guards-of-requires t c = body_code_lem c.if-left-eq0.false c.requires

pub skip_guards-skip_expr-pattern-requires : goal.skip_guards-skip_expr-pattern-requires
skip_guards-skip_expr-pattern-requires t c = let i = inside_body c.requires.here in (omega arith, some_operand c.if-left-eq0.false (sym c.in-Draw.ensures) c.requires)

pub skip_guards-skip_pattern-rest-requires : goal.skip_guards-skip_pattern-rest-requires
skip_guards-skip_pattern-rest-requires t c = some_pattern c.if-left-eq0.false (sym c.in-Draw.ensures) c.skip_expr-pattern.ensures c.requires

pub skip_guards-skip_row-inner-requires : goal.skip_guards-skip_row-inner-requires
skip_guards-skip_row-inner-requires t c = some_row c.if-left-eq0.false (sym c.in-Absent.ensures) c.requires

pub skip_guards-skip_expr-rest-requires : goal.skip_guards-skip_expr-rest-requires
skip_guards-skip_expr-rest-requires t c =
    let i = inside_body c.requires.here in
    let j = inner_after c.if-left-eq0.false (sym c.in-Absent.ensures) c.skip_row-inner.ensures c.requires in
    (omega arith, some_inner c.if-left-eq0.false (sym c.in-Absent.ensures) c.skip_row-inner.ensures c.requires)

passed : (t : ℕ) (c : goal.skip_guards-Joined-of t) → PastGuard c.args.words.now c.args.at c.args.left c.match-of.rest
passed t c =
    elim c.match-of.branch [
      | skip_guards-in-Draw w ↦ rw w.rest-is (draw_passed c.if-left-eq0.false c.requires (sym w.in-Draw.ensures) w.skip_expr-pattern.ensures w.skip_pattern-rest.ensures)
      | skip_guards-in-Absent w ↦ rw w.rest-is (absent_passed c.if-left-eq0.false c.requires (sym w.in-Absent.ensures) w.skip_row-inner.ensures w.skip_expr-rest.ensures)
      | skip_guards-in-Same w ↦ rw w.rest-is (test_passed c.if-left-eq0.false c.requires (not_first _ c.of.ensures w.in-Same.is) (not_last _ c.of.ensures w.in-Same.is))
    ]

pub skip_guards-skip_guards-requires : goal.skip_guards-skip_guards-requires
skip_guards-skip_guards-requires t c =
    let p = passed t c in
    let i = inside_body c.requires.here in
    let j = p.after in
    (omega arith, p.left_over)

pub skip_guards-returns : goal.skip_guards-returns
skip_guards-returns t c = (passed t (goal.at.skip_guards-returns t c).Joined-of).past _ c.skip_guards.ensures
