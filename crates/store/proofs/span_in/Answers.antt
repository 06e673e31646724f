-- Both counts lie within the store, in order; the words between them are the name's.
use Rattle.std.proofs.Common.{arith}
use Rattle.certificates.proofs.Sound.{sound_store_lem}
use Rattle.certificates.proofs.NameParts.{begins_first, count_room, spans_found}
use Rattle.store.proofs.span_in.Goals as goal

pub count_before-requires-clause-in_bounds : goal.count_before-requires-clause-in_bounds
count_before-requires-clause-in_bounds c = let s = sound_store_lem c.args.store.now c.requires in (omega arith, omega arith)

pub count_before-requires-clause-pass_first : goal.count_before-requires-clause-pass_first
count_before-requires-clause-pass_first c = begins_first _ _ _ c.args.store.now c.requires _

pub overflow_mul-from : goal.overflow_mul-from
overflow_mul-from c = omega (arith, count_room _ _ _ c.args.store.now c.requires _ _ c.count_before.ensures)

pub overflow_add-from : goal.overflow_add-from
overflow_add-from c = omega (arith, count_room _ _ _ c.args.store.now c.requires _ _ c.count_before.ensures)

pub count_before-requires-2-clause-in_bounds : goal.count_before-requires-2-clause-in_bounds
count_before-requires-2-clause-in_bounds c = let s = sound_store_lem c.args.store.now c.requires in (omega arith, omega arith)

pub count_before-requires-2-clause-pass_first : goal.count_before-requires-2-clause-pass_first
count_before-requires-2-clause-pass_first c = begins_first _ _ _ c.args.store.now c.requires _

pub overflow_mul-to : goal.overflow_mul-to
overflow_mul-to c = omega (arith, count_room _ _ _ c.args.store.now c.requires _ _ c.count_before-2.ensures)

pub overflow_add-to : goal.overflow_add-to
overflow_add-to c = omega (arith, count_room _ _ _ c.args.store.now c.requires _ _ c.count_before-2.ensures)

pub returns : goal.returns
returns c = spans_found _ _ _ c.args.store.now c.requires _ _ c.count_before.ensures c.count_before-2.ensures
