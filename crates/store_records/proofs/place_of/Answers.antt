-- The record in the middle comes before the certificate, or it does not.
use Rattle.std.proofs.Common.{List, ℕ, sym, ap, ◌∙◌, arith}
use Rattle.rows.proofs.Records.{record_sound_at, place_few, place_stops, place_passes}
use Rattle.certificates.specs.Certificate.{record_words, sound_record, record_before}
use Rattle.certificates.specs.Store.{capacity}
use Rattle.certificates.proofs.RecordOrder.{record_order}
use Rattle.certificates.proofs.Sound.{sound_store_lem}
use Rattle.store_records.proofs.place_of.Goals as goal

pub bounds-store-0 : goal.bounds-store-0
bounds-store-0 c = omega (arith, (sound_store_lem c.args.store.now c.requires.0).long)

pub loop-low-init : goal.loop-low-init
loop-low-init c = (omega arith, place_few record_words record_order c.args.store.now c.args.certificate.now, omega arith)

pub record_at-requires : goal.record_at-requires
record_at-requires c = let s = sound_store_lem c.args.store.now c.requires.0 in omega arith

pub record_before-requires : goal.record_before-requires
record_before-requires c =
    (rw c.record_at.ensures (record_sound_at record_words capacity sound_record record_order c.args.store.now (sound_store_lem _ c.requires.0) _ (omega arith)), c.requires.1)

pub loop-low-preserved-then-record_before : goal.loop-low-preserved-then-record_before
loop-low-preserved-then-record_before c =
    let there = ap (λ (r : List ℕ). record_before r c.args.certificate.now) c.record_at.ensures in
    let tested = sym c.if-record_before.true ∙ c.record_before.ensures ∙ there in
    let p = place_passes record_words record_order c.args.store.now c.args.certificate.now (sound_store_lem _ c.requires.0).order _ (omega arith) tested in
    (omega arith, omega arith, omega arith)

pub loop-low-preserved : goal.loop-low-preserved
loop-low-preserved c =
    let there = ap (λ (r : List ℕ). record_before r c.args.certificate.now) c.record_at.ensures in
    let tested = sym c.if-record_before.false ∙ c.record_before.ensures ∙ there in
    let p = place_stops record_words record_order c.args.store.now c.args.certificate.now _ (omega arith) tested in
    (omega arith, omega arith, omega arith)

pub returns : goal.returns
returns c = omega arith
