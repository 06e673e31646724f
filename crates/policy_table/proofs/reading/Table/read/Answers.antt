-- A table is read entry by entry, as `Reading` says.
use Rattle.std.proofs.Common.{sym, ◌∙◌, arith}
use Rattle.policy.proofs.SoundTable.{header_of_lem}
use Rattle.policy_table.specs.Entries.{entry_is}
use Rattle.policy_table.proofs.PartAnswers.{listed_of}
use Rattle.policy_table.proofs.TableAnswers.{unsound_header_refused, none_read, unsound_entry_refused, ends_within, sound_entry_read, table_ends, table_left_over}
use Rattle.policy_table.proofs.reading.Table.read.Goals as goal

pub returns-then-not-sound_header-clause-table : goal.returns-then-not-sound_header-clause-table
returns-then-not-sound_header-clause-table c = unsound_header_refused _ (sym c.sound_header.ensures ∙ c.if-not-sound_header.true)

pub bounds-policy-1 : goal.bounds-policy-1
bounds-policy-1 c = omega (arith, header_of_lem _ (sym c.sound_header.ensures ∙ c.if-not-sound_header.false))

pub entry_place-due-requires : goal.entry_place-due-requires
entry_place-due-requires c = (header_of_lem _ (sym c.sound_header.ensures ∙ c.if-not-sound_header.false)).count

pub loop-i-init : goal.loop-i-init
loop-i-init c = none_read _ _ (sym c.sound_header.ensures ∙ c.if-not-sound_header.false) c.entry_place-due.ensures

pub sound_entry-requires : goal.sound_entry-requires
sound_entry-requires c = (omega arith, omega arith, c.loop-i.invariant.within, c.loop-i.invariant.polarized)

pub returns-then-not-sound_entry-clause-table : goal.returns-then-not-sound_entry-clause-table
returns-then-not-sound_entry-clause-table c =
    unsound_entry_refused _ _ _ c.loop-i.invariant c.loop-i-test.true (sym c.sound_entry.ensures ∙ c.if-not-sound_entry.true)

pub overflow_add-due : goal.overflow_add-due
overflow_add-due c =
    let h = ends_within _ _ _ c.loop-i.invariant c.loop-i-test.true (sym c.sound_entry.ensures ∙ c.if-not-sound_entry.false) c.entry_place.ensures (entry_is c.at-due.result) c.at-due.ensures in
    omega arith

pub loop-i-preserved : goal.loop-i-preserved
loop-i-preserved c =
    sound_entry_read _ _ _ c.loop-i.invariant c.loop-i-test.true (sym c.sound_entry.ensures ∙ c.if-not-sound_entry.false) c.entry_place.ensures (entry_is c.at-due.result) c.at-due.ensures

pub returns-then-due-policy-clause-table : goal.returns-then-due-policy-clause-table
returns-then-due-policy-clause-table c = table_left_over _ _ _ c.loop-i.invariant c.loop-i-test.false c.if-due-policy.true

pub invariant_of-result : goal.invariant_of-result
invariant_of-result c =
    let l = listed_of _ _ (table_ends _ _ _ c.loop-i.invariant c.loop-i-test.false c.if-due-policy.false) in
    record { few = l.few; fits = l.fits; inside = l.parts }

pub returns-clause-table : goal.returns-clause-table
returns-clause-table c = table_ends _ _ _ c.loop-i.invariant c.loop-i-test.false c.if-due-policy.false
