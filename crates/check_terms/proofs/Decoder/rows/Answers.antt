use Rattle.std.proofs.Common.{rules, arith, ◌≡◌, ◌-◌, ◌+◌, ap, sym}
use Rattle.policy.specs.Decode.{row, rows, after, times}
use Rattle.check_terms.specs.Answers.{keeping, nothing, kept}
use Rattle.check_terms.proofs.Reading.{going_on, going_lost, going_done}
use Rattle.check_terms.proofs.Decoder.rows.Goals as goal

pub returns-in_err-count : goal.returns-in_err-count
unfolding keeping kept rows
returns-in_err-count c = search rules

pub loop-init : goal.loop-init
unfolding keeping rows
loop-init c =
    let all : c.in_ok-count.count - 0 ≡ c.in_ok-count.count = omega arith in
    record { rest = rw all (ap (λ x. kept nothing (after x (λ w. times w (row c.args.variables)))) (sym c.in_ok-count.ensures.reads)) }

pub returns-in_err-row : goal.returns-in_err-row
unfolding keeping
returns-in_err-row c =
    let e = going_lost (c.in_ok-count.count - (c.loop.counter + 1)) c.loop.invariant (omega arith) c.in_err-row.ensures in search rules

pub loop-preserved : goal.loop-preserved
unfolding keeping
loop-preserved c = going_on _ c.loop.invariant (omega arith) c.in_ok-row.ensures

pub returns : goal.returns
returns c = going_done c.loop.invariant (omega arith)
