-- The two last rows are compared.
use Rattle.std.proofs.Common.{arith}
use Rattle.set_algebra.proofs.Merging.{counts, last_ready, right_last, both_last, left_last, same_some, after_some, counting_start, counting_ends, counting_next, counting_end}
use Rattle.set_algebra.proofs.joint.Goals as goal

pub bounds-area-1 : goal.bounds-area-1
bounds-area-1 c = let n = counts c.args.area.now c.requires in omega arith

pub bounds-area-643 : goal.bounds-area-643
bounds-area-643 c = let n = counts c.args.area.now c.requires in omega arith

pub loop-j-init : goal.loop-j-init
loop-j-init c = let n = counts c.args.area.now c.requires in counting_start c.args.area.now c.requires _ _ n.left_count n.right_count

pub last-order-requires : goal.last-order-requires
last-order-requires c =
    last_ready c.args.area.now c.requires c.args.area.now _ _ (counting_ends c.args.area.now c.requires _ _ _ c.loop-j.invariant) (omega arith)

pub overflow_add-total : goal.overflow_add-total
overflow_add-total c = let n = counts c.args.area.now c.requires in let s = c.loop-j.invariant.sum in omega arith

pub loop-j-preserved-in-Less : goal.loop-j-preserved-in-Less
loop-j-preserved-in-Less c =
    let a = c.args.area.now in
    let r = right_last a c.requires a _ _ (counting_ends a c.requires _ _ _ c.loop-j.invariant) (omega arith) _ c.last-order.ensures c.in-Less.is in
    counting_next a c.requires _ _ _ _ _ _ c.loop-j.invariant (omega arith) (omega arith) r

pub overflow_sub-i : goal.overflow_sub-i
overflow_sub-i c =
    let a = c.args.area.now in
    let h = same_some a c.requires a _ _ (counting_ends a c.requires _ _ _ c.loop-j.invariant) (omega arith) _ c.last-order.ensures c.in-Equal.is in
    omega arith

pub loop-j-preserved-in-Equal : goal.loop-j-preserved-in-Equal
loop-j-preserved-in-Equal c =
    let a = c.args.area.now in
    let r = both_last a c.requires a _ _ (counting_ends a c.requires _ _ _ c.loop-j.invariant) (omega arith) _ c.last-order.ensures c.in-Equal.is in
    counting_next a c.requires _ _ _ _ _ _ c.loop-j.invariant (omega arith) (omega arith) r

pub overflow_sub-i-in-Greater : goal.overflow_sub-i-in-Greater
overflow_sub-i-in-Greater c =
    let a = c.args.area.now in
    let h = after_some a c.requires a _ _ (counting_ends a c.requires _ _ _ c.loop-j.invariant) (omega arith) _ c.last-order.ensures c.in-Greater.is in
    omega arith

pub loop-j-smaller : goal.loop-j-smaller
loop-j-smaller c =
    let a = c.args.area.now in
    let h = after_some a c.requires a _ _ (counting_ends a c.requires _ _ _ c.loop-j.invariant) (omega arith) _ c.last-order.ensures c.in-Greater.is in
    omega arith

pub loop-j-preserved : goal.loop-j-preserved
loop-j-preserved c =
    let a = c.args.area.now in
    let r = left_last a c.requires a _ _ (counting_ends a c.requires _ _ _ c.loop-j.invariant) (omega arith) _ c.last-order.ensures c.in-Greater.is in
    counting_next a c.requires _ _ _ _ _ _ c.loop-j.invariant (omega arith) (omega arith) r

pub overflow_add-result : goal.overflow_add-result
overflow_add-result c =
    let n = counts c.args.area.now c.requires in
    let s = counting_end c.args.area.now c.requires _ _ _ c.loop-j.invariant (omega arith) in
    omega arith

pub returns : goal.returns
returns c = counting_end c.args.area.now c.requires _ _ _ c.loop-j.invariant (omega arith)
