-- A guard by its code.
use Rattle.std.proofs.Common.{sym, arith}
use Rattle.policy_places.proofs.Codes.{guard_code_lem}
use Rattle.policy_places.proofs.Held.{guard_inside, guard_terms, is_draw_lem, is_absent_lem, is_same_lem, is_different_lem}
use Rattle.policy_places.proofs.guard_at.Goals as goal

pub offset_bounds-words-at : goal.offset_bounds-words-at
offset_bounds-words-at c = let i = guard_inside c.requires in let fits = c.well_formed in omega arith

pub bounds-words-at : goal.bounds-words-at
bounds-words-at c = guard_inside c.requires

pub of-requires : goal.of-requires
of-requires c = guard_code_lem c.requires

pub term_at-requires : goal.term_at-requires
term_at-requires c = let i = guard_terms c.requires (λ h. absurd (omega arith)) (λ h. absurd (omega arith)) in omega arith

pub returns-in-Draw : goal.returns-in-Draw
returns-in-Draw c = is_draw_lem (sym c.in-Draw.ensures)

pub returns-in-Absent : goal.returns-in-Absent
returns-in-Absent c = is_absent_lem (sym c.in-Absent.ensures)

pub term_at-requires-in-Same : goal.term_at-requires-in-Same
term_at-requires-in-Same c = let i = guard_terms c.requires (λ h. absurd (omega arith)) (λ h. absurd (omega arith)) in omega arith

pub returns-in-Same : goal.returns-in-Same
returns-in-Same c = is_same_lem c.term_at.ensures c.term_at-in-Same.ensures (sym c.in-Same.ensures)

pub term_at-requires-in-Different : goal.term_at-requires-in-Different
term_at-requires-in-Different c = let i = guard_terms c.requires (λ h. absurd (omega arith)) (λ h. absurd (omega arith)) in omega arith

pub term_at-requires-in-Different-2 : goal.term_at-requires-in-Different-2
term_at-requires-in-Different-2 c = let i = guard_terms c.requires (λ h. absurd (omega arith)) (λ h. absurd (omega arith)) in omega arith

pub returns-in-Different : goal.returns-in-Different
returns-in-Different c =
    is_different_lem c.term_at-in-Different.ensures c.term_at-in-Different-2.ensures (λ h. absurd (omega arith)) (λ h. absurd (omega arith)) (λ h. absurd (omega arith))
