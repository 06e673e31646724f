-- Test by test: `proofs/Words.antt` says what each makes of `sound_at`.
use Rattle.std.proofs.Common.{sym, ◌∙◌, eq-eqb}
use Rattle.store_records.proofs.Words.{at_first, at_next}
use Rattle.store_records.proofs.sound_at.Goals as goal

pub returns-then-i-eq0 : goal.returns-then-i-eq0
returns-then-i-eq0 c = eq-eqb _ _ c.if-i-eq0.true ∙ at_first _ _ _ c.record_at-this.ensures (sym c.if-sound_record.true ∙ c.sound_record.ensures) c.if-i-eq0.true

pub returns-else-i-eq0 : goal.returns-else-i-eq0
returns-else-i-eq0 c =
    at_next _ _ _ c.record_at-this.ensures _ _ (sym c.if-sound_record.true ∙ c.sound_record.ensures) c.if-i-eq0.false c.record_at.ensures c.record_before.ensures
