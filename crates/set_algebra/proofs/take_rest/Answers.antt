-- Of an area that the rows were struck out from: the row at `i` is copied, or its stroke is taken back.
use Rattle.std.proofs.Common.{ℕ, ◌≡◌, ◌<◌, List, length, arith}
use Rattle.set_algebra.specs.Private.{rights}
use Rattle.set_algebra.proofs.Striking.{Taking, taking_start, struck_count, bounds, taking_struck, taking_kept, taking_end, taken_count}
use Rattle.set_algebra.proofs.take_rest.Goals as goal
use Rattle.set_algebra.proofs.take_rest.Goals.{then-width-ge-STROKE, else-width-ge-STROKE}

pub bounds-area-643 : goal.bounds-area-643
bounds-area-643 c = let p = c.requires in omega (arith, (taking_start p.before p.rooms _ p.words).size, p.rooms.other_room)

pub loop-i-init : goal.loop-i-init
loop-i-init c before rooms e = taking_start before rooms _ e

pub bounds-area-at : goal.bounds-area-at
bounds-area-at c =
    let p = c.requires in
    let b = bounds p.before p.rooms _ _ _ (c.loop-i.invariant p.before p.rooms p.words) in
    let n = struck_count p.before p.rooms _ p.words in
    omega arith

pub overflow_mul-taken : goal.overflow_mul-taken
overflow_mul-taken c = let p = c.requires in let b = bounds p.before p.rooms _ _ _ (c.loop-i.invariant p.before p.rooms p.words) in omega arith

pub overflow_add-taken : goal.overflow_add-taken
overflow_add-taken c = let p = c.requires in let b = bounds p.before p.rooms _ _ _ (c.loop-i.invariant p.before p.rooms p.words) in omega arith

pub copy_row-requires : goal.copy_row-requires
copy_row-requires c =
    let p = c.requires in
    let b = bounds p.before p.rooms _ _ _ (c.loop-i.invariant p.before p.rooms p.words) in
    let n = struck_count p.before p.rooms _ p.words in
    (omega arith, omega arith)

pub overflow_add-taken-else-width-ge-STROKE : goal.overflow_add-taken-else-width-ge-STROKE
overflow_add-taken-else-width-ge-STROKE c = let p = c.requires in let b = bounds p.before p.rooms _ _ _ (c.loop-i.invariant p.before p.rooms p.words) in omega arith

as_before : {a : List ℕ} (now now' : List ℕ) (i kept kept' : ℕ) → now ≡ now' → kept ≡ kept' → Taking a now' i kept' → Taking a now i kept
as_before now now' i kept kept' e f x = rw (e, f) x

pub loop-i-preserved : goal.loop-i-preserved
loop-i-preserved c before rooms e =
    let n = struck_count before rooms _ e in
    let h : c.loop-i.i < length (rights before) = omega arith in
    elim c.if-width-ge-STROKE.branch [
      | then-width-ge-STROKE w ↦ as_before _ _ _ _ _ w.area-is w.taken-is (taking_struck before rooms _ _ _ (c.loop-i.invariant before rooms e) h (omega arith))
      | else-width-ge-STROKE w ↦ as_before _ _ _ _ _ w.area-is w.taken-is
          (taking_kept before rooms _ _ _ (c.loop-i.invariant before rooms e) h (omega arith) _ w.copy_row.auto.area w.copy_row.ensures)
    ]

pub returns : goal.returns
returns c = record {
  words = λ before rooms e. let n = struck_count before rooms _ e in taking_end before rooms _ _ _ (c.loop-i.invariant before rooms e) (omega arith);
  count = λ before rooms e. let n = struck_count before rooms _ e in taken_count before rooms _ _ _ (c.loop-i.invariant before rooms e) (omega arith);
}
