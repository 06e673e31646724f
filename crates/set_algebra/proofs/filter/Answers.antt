-- The row at `i` is looked for among the right's, and kept or left out.
use Rattle.std.proofs.Common.{ℕ, ◌≡◌, ◌<◌, ◌∙◌, ap, sym, Bool, true, false, refl, List, length, get_or, [], arith}
use mathlib.Core.Bool.{beq}
use Rattle.rows.specs.Ordered.{lists}
use Rattle.rows.specs.Row.{row_before}
use Rattle.set_algebra.specs.Private.{alike, lefts, rights}
use Rattle.set_algebra.proofs.Walking.{seek_ready, sought_here}
use Rattle.set_algebra.proofs.Filtering.{Filtered, filter_start, filter_left, filter_kept, filter_end, others_kept, row_here, numbers}
use Rattle.set_algebra.proofs.filter.Goals as goal
use Rattle.set_algebra.proofs.filter.Goals.{then-is_ok-listed, else-is_ok-listed}

pub loop-i-init : goal.loop-i-init
loop-i-init c = filter_start c.args.area.now c.args.listed

pub at-row-requires : goal.at-row-requires
at-row-requires c = let n = numbers c.args.area.now c.args.listed c.requires _ _ _ _ c.loop-i.invariant in omega arith

pub seek-place-requires : goal.seek-place-requires
seek-place-requires c =
    let a = c.args in
    let n = numbers a.area.now a.listed c.requires _ _ _ _ c.loop-i.invariant in
    let h : c.loop-i.i < length (lefts a.area.now) = omega arith in
    seek_ready c.requires _ c.loop-i.invariant.walk h (others_kept a.area.now a.listed c.requires _ _ _ _ c.loop-i.invariant) (row_here a.area.now a.listed c.requires _ _ _ _ c.loop-i.invariant h) _ c.at-row.ensures

pub overflow_mul-kept : goal.overflow_mul-kept
overflow_mul-kept c = let n = numbers c.args.area.now c.args.listed c.requires _ _ _ _ c.loop-i.invariant in omega arith

pub overflow_add-kept : goal.overflow_add-kept
overflow_add-kept c = let n = numbers c.args.area.now c.args.listed c.requires _ _ _ _ c.loop-i.invariant in omega arith

pub copy_row-requires : goal.copy_row-requires
copy_row-requires c = let n = numbers c.args.area.now c.args.listed c.requires _ _ _ _ c.loop-i.invariant in (omega arith, omega arith)

pub overflow_add-kept-then-is_ok-listed : goal.overflow_add-kept-then-is_ok-listed
overflow_add-kept-then-is_ok-listed c = let n = numbers c.args.area.now c.args.listed c.requires _ _ _ _ c.loop-i.invariant in omega arith

alike_is : (b q : Bool) → alike b q ≡ beq q b
alike_is true true = refl
alike_is true false = refl
alike_is false true = refl
alike_is false false = refl

as_before : {a : List ℕ} {b : Bool} (now now' : List ℕ) (i j j' kept kept' : ℕ) → now ≡ now' → j ≡ j' → kept ≡ kept' → Filtered a b now' i j' kept' → Filtered a b now i j kept
as_before now now' i j j' kept kept' e f g x = rw (e, f, g) x

pub loop-i-preserved : goal.loop-i-preserved
loop-i-preserved c =
    let a = c.args in
    let n = numbers a.area.now a.listed c.requires _ _ _ _ c.loop-i.invariant in
    let h : c.loop-i.i < length (lefts a.area.now) = omega arith in
    let s = sought_here c.requires _ c.loop-i.invariant.walk h (others_kept a.area.now a.listed c.requires _ _ _ _ c.loop-i.invariant) (row_here a.area.now a.listed c.requires _ _ _ _ c.loop-i.invariant h) _
    c.at-row.ensures c.seek-place.ensures in
    let found : lists row_before (rights a.area.now) (get_or (lefts a.area.now) c.loop-i.i []) ≡ c.is_ok.result = sym s.found ∙ sym c.is_ok.ensures.value in
    elim c.if-is_ok-listed.branch [
      | then-is_ok-listed w ↦ as_before _ _ _ _ _ _ _ w.area-is c.reached-j.ensures w.kept-is
          (filter_kept a.area.now a.listed c.requires _ _ _ _ c.loop-i.invariant h s.passed (ap (alike a.listed) found ∙ alike_is a.listed _ ∙ w.if-is_ok-listed.true) _ w.copy_row.auto.area w.copy_row.ensures)
      | else-is_ok-listed w ↦ as_before _ _ _ _ _ _ _ w.area-is c.reached-j.ensures w.kept-is
          (filter_left a.area.now a.listed c.requires _ _ _ _ c.loop-i.invariant h s.passed (ap (alike a.listed) found ∙ alike_is a.listed _ ∙ w.if-is_ok-listed.false))
    ]

pub overflow_cast-area : goal.overflow_cast-area
overflow_cast-area c = let n = numbers c.args.area.now c.args.listed c.requires _ _ _ _ c.loop-i.invariant in omega arith

pub returns : goal.returns
returns c =
    let n = numbers c.args.area.now c.args.listed c.requires _ _ _ _ c.loop-i.invariant in
    filter_end c.args.area.now c.args.listed c.requires _ _ _ _ c.loop-i.invariant (omega arith)
