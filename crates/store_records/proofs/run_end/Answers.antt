-- The slices are records, and the run goes on as long as they follow plainly.
use Rattle.std.proofs.Common.{◌∙◌, arith, sym}
use Rattle.store_records.proofs.Runs.{slice_length, going_next}
use Rattle.store_records.proofs.run_end.Goals as goal

pub pair-owner-requires : goal.pair-owner-requires
pair-owner-requires c = omega (arith, slice_length _ _ _ _ c.requires.1 c.requires.0 c.record_at-first.ensures)

pub bounds-first-2 : goal.bounds-first-2
bounds-first-2 c = omega (arith, slice_length _ _ _ _ c.requires.1 c.requires.0 c.record_at-first.ensures)

pub pair-requires : goal.pair-requires
pair-requires c = omega (arith, slice_length _ _ _ _ c.requires.1 c.loop-i-test.true c.record_at-this.ensures)

pub short_row-requires : goal.short_row-requires
short_row-requires c = slice_length _ _ _ _ c.requires.1 c.loop-i-test.true c.record_at-this.ensures

pub sound_term-requires : goal.sound_term-requires
sound_term-requires c = slice_length _ _ _ _ c.requires.1 c.loop-i-test.true c.record_at-this.ensures

pub follows-requires : goal.follows-requires
follows-requires c =
    (slice_length _ _ _ _ c.requires.1 (omega arith) c.record_at.ensures, slice_length _ _ _ _ c.requires.1 c.loop-i-test.true c.record_at-this.ensures)

pub loop-i-preserved : goal.loop-i-preserved
loop-i-preserved c =
    going_next _ _ _ c.requires.2 (λ k. (c.type_inv.store k).fits) c.requires.1 _ c.loop-i-test.true _ _ _
    c.record_at-first.ensures c.record_at-this.ensures c.record_at.ensures c.loop-i.invariant
    (sym c.pair.ensures ∙ c.if-pair-owner.false ∙ c.pair-owner.ensures)
    (c.short_row.ensures c.if-not-short_row.false) (sym c.sound_term.ensures ∙ c.if-not-sound_term.false)
    (c.follows.ensures c.if-not-follows.false)
