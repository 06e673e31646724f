-- The record at its place is not before the certificate, so it is the certificate if it is not past it either.
use Rattle.std.proofs.Common.{◌∙◌, arith, le-ltb}
use Rattle.rows.proofs.Records.{record_sound_at, held_here, held_none}
use Rattle.certificates.specs.Certificate.{record_words, sound_record}
use Rattle.certificates.specs.Store.{capacity}
use Rattle.certificates.proofs.RecordOrder.{record_order}
use Rattle.certificates.proofs.Sound.{sound_store_lem}
use Rattle.store_records.proofs.is_held.Goals as goal

pub bounds-store-0 : goal.bounds-store-0
bounds-store-0 c = omega (arith, (sound_store_lem c.args.store.now c.requires.0).long)

pub record_at-requires : goal.record_at-requires
record_at-requires c = let s = sound_store_lem c.args.store.now c.requires.0 in omega arith

pub record_before-requires : goal.record_before-requires
record_before-requires c =
    (c.requires.1, rw c.record_at.ensures (record_sound_at record_words capacity sound_record record_order c.args.store.now (sound_store_lem _ c.requires.0) _ c.if-place-store.true))

pub returns-then-place-store : goal.returns-then-place-store
returns-then-place-store c =
    held_here record_words record_order c.args.store.now c.args.certificate.now c.args.place _ _ c.if-place-store.true c.record_before.ensures c.record_at.ensures

pub returns-else-place-store : goal.returns-else-place-store
returns-else-place-store c = le-ltb _ _ (omega arith) ∙ held_none record_words record_order c.args.store.now c.args.certificate.now c.args.place (omega arith)
