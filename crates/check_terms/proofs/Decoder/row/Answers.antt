use Rattle.std.proofs.Common.{rules, arith, ◌≡◌, ◌-◌, ◌+◌, ap, sym}
use Rattle.policy.specs.Decode.{term, row, after, times}
use Rattle.check_terms.specs.Answers.{keeping, nothing, kept}
use Rattle.check_terms.proofs.Reading.{keeps_got, keeps_lost, going_on, going_lost, going_done}
use Rattle.check_terms.proofs.Decoder.row.Goals as goal

pub returns-in_err-width : goal.returns-in_err-width
unfolding keeping kept row
returns-in_err-width c = search rules

pub loop-init : goal.loop-init
unfolding keeping row
loop-init c =
    let all : c.in_ok-width.width - 0 ≡ c.in_ok-width.width = omega arith in
    record { rest = rw all (ap (λ x. kept nothing (after x (λ w. times w (term c.args.variables)))) (sym c.in_ok-width.ensures)) }

pub returns-in_err-term : goal.returns-in_err-term
returns-in_err-term c =
    let e = going_lost (c.in_ok-width.width - (c.loop.counter + 1)) c.loop.invariant (omega arith) (keeps_lost nothing c.in_err-term.ensures) in search rules

pub loop-preserved : goal.loop-preserved
loop-preserved c = going_on _ c.loop.invariant (omega arith) (keeps_got nothing c.in_ok-term.ensures)

pub returns : goal.returns
returns c = going_done c.loop.invariant (omega arith)
