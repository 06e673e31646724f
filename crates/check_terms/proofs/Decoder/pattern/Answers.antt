use Rattle.std.proofs.Common.{rules, arith, ◌≡◌, ◌-◌, ◌+◌, ◌≤◌, ap, sym}
use Rattle.policy.specs.Decode.{after, slots}
use Rattle.check_terms.specs.Answers.{keeping, scope, kept, pattern}
use Rattle.check_terms.proofs.Reading.{slot_few, matching_new, matching_old, matching_lost, matching_done}
use Rattle.check_terms.proofs.Decoder.pattern.Goals.{in-New, in_default}
use Rattle.check_terms.proofs.Decoder.pattern.Goals as goal

pub returns-in_err-width : goal.returns-in_err-width
unfolding keeping kept pattern
returns-in_err-width c = search rules

pub loop-init : goal.loop-init
unfolding keeping pattern
loop-init c =
    let all : c.in_ok-width.width - 0 ≡ c.in_ok-width.width = omega arith in
    record { rest = rw all (ap (λ x. kept scope (after x (λ w. slots w c.args.variables))) (sym c.in_ok-width.ensures)) }

pub returns-in_err-slot : goal.returns-in_err-slot
returns-in_err-slot c =
    let e = matching_lost (c.in_ok-width.width - (c.loop.counter + 1)) c.loop.invariant (omega arith) c.in_err-slot.ensures in search rules

pub overflow_add-count : goal.overflow_add-count
overflow_add-count c = let few : c.loop.count ≤ 15 = slot_few _ _ _ _ _ c.in_ok-slot.ensures c.in-New.is in omega arith

pub loop-preserved : goal.loop-preserved
loop-preserved c = elim c.match-branch-3.branch [
  | in-New w ↦ rw w.count-is (matching_new _ c.loop.invariant (omega arith) c.in_ok-slot.ensures w.in-New.is)
  | in_default w ↦ rw w.count-is (matching_old _ c.loop.invariant (omega arith) c.in_ok-slot.ensures w.in_default.not-New)
]

pub returns : goal.returns
returns c = matching_done c.loop.invariant (omega arith)
