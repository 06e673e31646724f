-- The last of the two last rows is copied to the `k`th place.
use Rattle.std.proofs.Common.{arith}
use Rattle.set_algebra.proofs.Merging.{counts, places, last_ready, same_some, after_some, merging_start, merging_ends, merging_right, merging_both, merging_left, merging_end}
use Rattle.set_algebra.proofs.merge.Goals as goal

pub bounds-area-1 : goal.bounds-area-1
bounds-area-1 c = let n = counts c.args.area.now c.requires.0 in omega arith

pub bounds-area-643 : goal.bounds-area-643
bounds-area-643 c = let n = counts c.args.area.now c.requires.0 in omega arith

pub loop-j-init : goal.loop-j-init
loop-j-init c =
    let n = counts c.args.area.now c.requires.0 in
    merging_start c.args.area.now c.requires.0 (omega arith) _ _ _ n.left_count n.right_count c.requires.1

pub last-order-requires : goal.last-order-requires
last-order-requires c =
    let a = c.args.area.now in
    last_ready a c.requires.0 c.loop-j.area _ _ (merging_ends a c.requires.0 (omega arith) _ _ _ _ c.loop-j.invariant) (omega arith)

pub overflow_sub-k : goal.overflow_sub-k
overflow_sub-k c = let p = places c.args.area.now c.requires.0 (omega arith) _ _ _ _ c.loop-j.invariant in omega arith

pub copy_row-requires : goal.copy_row-requires
copy_row-requires c =
    let n = counts c.args.area.now c.requires.0 in
    let p = places c.args.area.now c.requires.0 (omega arith) _ _ _ _ c.loop-j.invariant in
    (omega arith, omega arith)

pub loop-j-preserved-in-Less : goal.loop-j-preserved-in-Less
loop-j-preserved-in-Less c =
    merging_right c.args.area.now c.requires.0 (omega arith) _ _ _ _ c.loop-j.invariant (omega arith) _ c.last-order.ensures _ c.copy_row.auto.area c.in-Less.is c.copy_row.ensures

pub overflow_sub-i : goal.overflow_sub-i
overflow_sub-i c =
    let a = c.args.area.now in
    let h = same_some a c.requires.0 _ _ _ (merging_ends a c.requires.0 (omega arith) _ _ _ _ c.loop-j.invariant) (omega arith) _ c.last-order.ensures c.in-Equal.is in
    omega arith

pub copy_row-requires-in-Equal : goal.copy_row-requires-in-Equal
copy_row-requires-in-Equal c =
    let n = counts c.args.area.now c.requires.0 in
    let p = places c.args.area.now c.requires.0 (omega arith) _ _ _ _ c.loop-j.invariant in
    (omega arith, omega arith)

pub loop-j-preserved-in-Equal : goal.loop-j-preserved-in-Equal
loop-j-preserved-in-Equal c =
    merging_both c.args.area.now c.requires.0 (omega arith) _ _ _ _ c.loop-j.invariant (omega arith) _ c.last-order.ensures _ c.copy_row-in-Equal.auto.area c.in-Equal.is c.copy_row-in-Equal.ensures

pub overflow_sub-i-in-Greater : goal.overflow_sub-i-in-Greater
overflow_sub-i-in-Greater c =
    let a = c.args.area.now in
    let h = after_some a c.requires.0 _ _ _ (merging_ends a c.requires.0 (omega arith) _ _ _ _ c.loop-j.invariant) (omega arith) _ c.last-order.ensures c.in-Greater.is in
    omega arith

pub copy_row-requires-in-Greater : goal.copy_row-requires-in-Greater
copy_row-requires-in-Greater c =
    let n = counts c.args.area.now c.requires.0 in
    let p = places c.args.area.now c.requires.0 (omega arith) _ _ _ _ c.loop-j.invariant in
    (omega arith, omega arith)

pub loop-j-smaller : goal.loop-j-smaller
loop-j-smaller c =
    let a = c.args.area.now in
    let h = after_some a c.requires.0 _ _ _ (merging_ends a c.requires.0 (omega arith) _ _ _ _ c.loop-j.invariant) (omega arith) _ c.last-order.ensures c.in-Greater.is in
    omega arith

pub loop-j-preserved : goal.loop-j-preserved
loop-j-preserved c =
    merging_left c.args.area.now c.requires.0 (omega arith) _ _ _ _ c.loop-j.invariant (omega arith) _ c.last-order.ensures _ c.copy_row-in-Greater.auto.area c.in-Greater.is c.copy_row-in-Greater.ensures

pub returns : goal.returns
returns c = merging_end c.args.area.now c.requires.0 (omega arith) _ _ _ _ c.loop-j.invariant (omega arith)

pub overflow_mul-j : goal.overflow_mul-j
overflow_mul-j c = let p = places c.args.area.now c.requires.0 (omega arith) _ _ _ _ c.loop-j.invariant in omega arith

pub overflow_add-j : goal.overflow_add-j
overflow_add-j c = let p = places c.args.area.now c.requires.0 (omega arith) _ _ _ _ c.loop-j.invariant in omega arith

pub overflow_mul-i : goal.overflow_mul-i
overflow_mul-i c = let p = places c.args.area.now c.requires.0 (omega arith) _ _ _ _ c.loop-j.invariant in omega arith

pub overflow_add-i : goal.overflow_add-i
overflow_add-i c = let p = places c.args.area.now c.requires.0 (omega arith) _ _ _ _ c.loop-j.invariant in omega arith

pub overflow_mul-i-in-Greater : goal.overflow_mul-i-in-Greater
overflow_mul-i-in-Greater c = let p = places c.args.area.now c.requires.0 (omega arith) _ _ _ _ c.loop-j.invariant in omega arith

pub overflow_add-i-in-Greater : goal.overflow_add-i-in-Greater
overflow_add-i-in-Greater c = let p = places c.args.area.now c.requires.0 (omega arith) _ _ _ _ c.loop-j.invariant in omega arith
