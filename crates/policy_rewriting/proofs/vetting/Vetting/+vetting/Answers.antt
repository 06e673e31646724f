-- What stands at a place is told by its code; the rest are laws of `Walks`.
use Rattle.std.proofs.Common.{◌+◌, [], ◌∷◌, get_or, inl, sym, ◌∙◌, ap, arith}
use Rattle.policy.specs.Codes.{code_number, guard_number}
use Rattle.policy_places.proofs.Codes.{expr_code_lem, body_code_lem, two_node, two_no_body, leaf_no_node}
use Rattle.policy_places.proofs.Places.{inside, inside_body}
use Rattle.policy_places.proofs.Past.{some_leaf_lem, some_first, some_body, some_head, some_operand, some_pattern}
use Rattle.policy_rewriting.proofs.Leaves.{code_laid, no_draw}
use Rattle.policy_rewriting.proofs.Walks.{then_laid, told, past_walked, leaf_walked, difference_broken, union_broken, union_walked, union_second, comprehension_walked, row_room, head_walked, absent_broken, draw_pattern, draw_broken, draw_walked, test_room, test_walked}
use Rattle.policy_rewriting.proofs.vetting.Vetting.+vetting.Goals as goal

-- ---- an expression

pub vet_expr-read_code-requires : goal.vet_expr-read_code-requires
vet_expr-read_code-requires t c = let l = expr_code_lem c.requires.0 in (inside c.requires.0.here, l.0, l.1)

pub vet_expr-returns-in_default : goal.vet_expr-returns-in_default
vet_expr-returns-in_default t c = difference_broken c.in_default.ensures

-- a comprehension
pub vet_expr-bounds-self-at : goal.vet_expr-bounds-self-at
vet_expr-bounds-self-at t c =
    let i = inside_body (some_body c.requires.0 (sym c.in-Some.ensures.0 ∙ ap code_number c.in-Comprehension.is)).here in
    omega arith

pub vet_expr-vet_guards-requires : goal.vet_expr-vet_guards-requires
vet_expr-vet_guards-requires t c =
    let body = some_body c.requires.0 (sym c.in-Some.ensures.0 ∙ ap code_number c.in-Comprehension.is) in
    let i = inside_body body.here in
    let room = c.requires.1.fits in
    (omega arith, (body, record { fits = omega arith }))

pub vet_expr-returns-in-Comprehension : goal.vet_expr-returns-in-Comprehension
vet_expr-returns-in-Comprehension t c =
    let ws = c.args.self.now.words.now in
    comprehension_walked (sym c.in-Some.ensures.0 ∙ ap code_number c.in-Comprehension.is)
    (then_laid c.args.to c.args.area.now (get_or ws c.args.at 0 ∷ []) (get_or ws (c.args.at + 1) 0 ∷ []) (code_laid c.args.to c.args.area.now (c.from.ensures ∙ c.in-Some.ensures.0) c.lay.ensures) c.lay-in-Comprehension.ensures)
    c.vet_guards.ensures

-- a union
pub vet_expr-vet_expr-requires : goal.vet_expr-vet_expr-requires
vet_expr-vet_expr-requires t c =
    let i = inside c.requires.0.here in
    let room = c.requires.1.fits in
    (omega arith, (some_first c.requires.0 (two_node _ c.in-Some.ensures.0 (inl c.in-Union.is)) (two_no_body _ c.in-Some.ensures.0 (inl c.in-Union.is)), record { fits = omega arith }))

pub vet_expr-returns-in_default-vet_expr : goal.vet_expr-returns-in_default-vet_expr
vet_expr-returns-in_default-vet_expr t c =
    union_broken (sym c.in-Some.ensures.0 ∙ ap code_number c.in-Union.is) (told c.vet_expr.ensures c.in_default-vet_expr.is)

pub vet_expr-vet_expr-requires-in-Union : goal.vet_expr-vet_expr-requires-in-Union
vet_expr-vet_expr-requires-in-Union t c =
    let s = union_second c.requires.0 (two_node _ c.in-Some.ensures.0 (inl c.in-Union.is)) (two_no_body _ c.in-Some.ensures.0 (inl c.in-Union.is)) c.requires.1 (told c.vet_expr.ensures c.in-Some-vet_expr.is) in
    let i = inside c.requires.0.here in
    let after = s.after in
    (omega arith, (s.here, s.room))

pub vet_expr-returns-in-Some-vet_expr : goal.vet_expr-returns-in-Some-vet_expr
vet_expr-returns-in-Some-vet_expr t c =
    union_walked (sym c.in-Some.ensures.0 ∙ ap code_number c.in-Union.is) (code_laid c.args.to c.args.area.now (c.from-in-Union.ensures ∙ c.in-Some.ensures.0) c.lay-in-Union.ensures)
    (told c.vet_expr.ensures c.in-Some-vet_expr.is) c.vet_expr-in-Union.ensures

-- a leaf
pub vet_expr-vet_leaf-requires : goal.vet_expr-vet_leaf-requires
vet_expr-vet_leaf-requires t c =
    (some_leaf_lem c.requires.0 (leaf_no_node _ c.in-Some.ensures.0 c.in_default-code.not-Union (λ f. c.in-Some.ensures.1 (sym c.in-Some.ensures.0 ∙ ap code_number f)) c.in_default-code.not-Comprehension), c.requires.1)

pub vet_expr-returns-in_default-code : goal.vet_expr-returns-in_default-code
vet_expr-returns-in_default-code t c =
    leaf_walked (leaf_no_node _ c.in-Some.ensures.0 c.in_default-code.not-Union (λ f. c.in-Some.ensures.1 (sym c.in-Some.ensures.0 ∙ ap code_number f)) c.in_default-code.not-Comprehension) c.vet_leaf.ensures

-- ---- the guards left

pub vet_guards-skip_row-next-requires : goal.vet_guards-skip_row-next-requires
vet_guards-skip_row-next-requires t c = some_head c.requires.0 c.if-left-eq0.true

pub vet_guards-copy-end-requires : goal.vet_guards-copy-end-requires
vet_guards-copy-end-requires t c = row_room (some_head c.requires.0 c.if-left-eq0.true) c.requires.1 c.skip_row-next.ensures

pub vet_guards-returns-then-left-eq0 : goal.vet_guards-returns-then-left-eq0
vet_guards-returns-then-left-eq0 t c = head_walked c.if-left-eq0.true c.skip_row-next.ensures c.copy-end.ensures

pub vet_guards-read_guard-requires : goal.vet_guards-read_guard-requires
vet_guards-read_guard-requires t c = let l = body_code_lem c.if-left-eq0.false c.requires.0 in (inside_body c.requires.0.here, l.0, l.1)

pub vet_guards-returns-in_default : goal.vet_guards-returns-in_default
vet_guards-returns-in_default t c = absent_broken c.if-left-eq0.false c.in_default.ensures

-- a draw
pub vet_guards-vet_expr-requires : goal.vet_guards-vet_expr-requires
vet_guards-vet_expr-requires t c =
    let i = inside_body c.requires.0.here in
    let room = c.requires.1.fits in
    (omega arith, (some_operand c.if-left-eq0.false (sym c.in-Some.ensures.0 ∙ ap guard_number c.in-Draw.is) c.requires.0, record { fits = omega arith }))

pub vet_guards-returns-in_default-vet_expr : goal.vet_guards-returns-in_default-vet_expr
vet_guards-returns-in_default-vet_expr t c =
    draw_broken c.if-left-eq0.false (sym c.in-Some.ensures.0 ∙ ap guard_number c.in-Draw.is) (told c.vet_expr.ensures c.in_default-vet_expr.is)

pub vet_guards-skip_pattern-rest-requires : goal.vet_guards-skip_pattern-rest-requires
vet_guards-skip_pattern-rest-requires t c =
    some_pattern c.if-left-eq0.false (sym c.in-Some.ensures.0 ∙ ap guard_number c.in-Draw.is) (past_walked (told c.vet_expr.ensures c.in-Some-vet_expr.is)) c.requires.0

pub vet_guards-copy-past-requires : goal.vet_guards-copy-past-requires
vet_guards-copy-past-requires t c =
    (draw_pattern c.if-left-eq0.false (sym c.in-Some.ensures.0 ∙ ap guard_number c.in-Draw.is) c.requires.0 c.requires.1 (told c.vet_expr.ensures c.in-Some-vet_expr.is) c.skip_pattern-rest.ensures).room

pub vet_guards-vet_guards-requires : goal.vet_guards-vet_guards-requires
vet_guards-vet_guards-requires t c =
    let p = draw_pattern c.if-left-eq0.false (sym c.in-Some.ensures.0 ∙ ap guard_number c.in-Draw.is) c.requires.0 c.requires.1 (told c.vet_expr.ensures c.in-Some-vet_expr.is) c.skip_pattern-rest.ensures in
    let i = inside_body c.requires.0.here in
    let after = p.after in
    (omega arith, (p.body, p.body_room _ c.copy-past.ensures.0))

pub vet_guards-returns-in-Some-vet_expr : goal.vet_guards-returns-in-Some-vet_expr
vet_guards-returns-in-Some-vet_expr t c =
    draw_walked c.if-left-eq0.false (sym c.in-Some.ensures.0 ∙ ap guard_number c.in-Draw.is) (code_laid c.args.to c.args.area.now (sym (ap guard_number c.in-Draw.is) ∙ c.in-Some.ensures.0) c.lay.ensures)
    (told c.vet_expr.ensures c.in-Some-vet_expr.is) c.skip_pattern-rest.ensures c.copy-past.ensures c.vet_guards.ensures

-- a comparison
pub vet_guards-copy-past-requires-in_default-code : goal.vet_guards-copy-past-requires-in_default-code
vet_guards-copy-past-requires-in_default-code t c =
    (test_room c.if-left-eq0.false (no_draw _ c.in-Some.ensures.0 c.in_default-code.not-Draw) c.in-Some.ensures.1 c.requires.0 c.requires.1).room

pub vet_guards-vet_guards-requires-in_default-code : goal.vet_guards-vet_guards-requires-in_default-code
vet_guards-vet_guards-requires-in_default-code t c =
    let p = test_room c.if-left-eq0.false (no_draw _ c.in-Some.ensures.0 c.in_default-code.not-Draw) c.in-Some.ensures.1 c.requires.0 c.requires.1 in
    let i = inside_body c.requires.0.here in
    (omega arith, (p.body, p.body_room _ c.copy-past-in_default-code.ensures.0))

pub vet_guards-returns-in_default-code : goal.vet_guards-returns-in_default-code
vet_guards-returns-in_default-code t c =
    test_walked c.if-left-eq0.false (no_draw _ c.in-Some.ensures.0 c.in_default-code.not-Draw) c.in-Some.ensures.1 c.copy-past-in_default-code.ensures c.vet_guards-in_default-code.ensures
