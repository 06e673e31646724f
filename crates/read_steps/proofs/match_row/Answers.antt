use Rattle.std.proofs.Common.{refl, sym, ◌∙◌, arith}
use Rattle.policy_places.proofs.Held.{slot_told}
use Rattle.read_steps.proofs.Match.{passed_start, fitting, misfitting, slot_inside, new_scope, passed_new, passed_old, matched, mismatched}
use Rattle.read_steps.proofs.match_row.Goals.{in-New, in-Old+else-value_of-atom}
use Rattle.read_steps.proofs.match_row.Goals as goal

pub returns-then-not-fits : goal.returns-then-not-fits
returns-then-not-fits c = misfitting c.args.area.now c.args.row c.requires.2 c.requires.3 (sym c.fits.ensures ∙ c.if-not-fits.true)

pub loop-j-init : goal.loop-j-init
loop-j-init c = record { passed = passed_start c.requires.0 c.requires.1; count = refl }

pub slot_at-requires : goal.slot_at-requires
slot_at-requires c = slot_inside c.loop-j.invariant.passed (omega arith)

pub bind-scope-requires : goal.bind-scope-requires
bind-scope-requires c =
    new_scope c.loop-j.invariant.passed (omega arith) (slot_told c.slot_at.ensures c.in-New.is)

pub returns-then-value_of-atom : goal.returns-then-value_of-atom
returns-then-value_of-atom c =
    rw c.loop-j.invariant.count
    (mismatched c.loop-j.invariant.passed (fitting c.args.area.now c.args.row c.requires.2 c.requires.3 (sym c.fits.ensures ∙ c.if-not-fits.false)) c.requires.0
    (omega arith) (slot_told c.slot_at.ensures c.in-Old.is) (λ h. c.if-value_of-atom.true (c.value_of.ensures ∙ h)))

pub loop-j-preserved : goal.loop-j-preserved
loop-j-preserved c =
    let f = fitting c.args.area.now c.args.row c.requires.2 c.requires.3 (sym c.fits.ensures ∙ c.if-not-fits.false) in
    elim c.match-slot_at.branch [
      | in-New w ↦
          rw (w.bindings-is, w.scope-is, w.bind-scope.ensures.bound, w.bind-scope.ensures.values, w.bind-scope.ensures.same)
          (record { passed = passed_new c.loop-j.invariant.passed f (omega arith) (slot_told c.slot_at.ensures w.in-New.is); count = c.loop-j.invariant.count })
      | in-Old+else-value_of-atom w ↦
          rw (w.bindings-is, w.scope-is)
          (record { passed = passed_old c.loop-j.invariant.passed f (omega arith) (slot_told c.slot_at.ensures w.in-Old.is) (sym w.value_of.ensures ∙ w.if-value_of-atom.false); count = c.loop-j.invariant.count })
    ]

pub returns : goal.returns
returns c =
    matched c.loop-j.invariant.passed (fitting c.args.area.now c.args.row c.requires.2 c.requires.3 (sym c.fits.ensures ∙ c.if-not-fits.false)) c.requires.0
    (omega arith)
