-- The row at `i` is looked for among the left's, and struck out where it is found.
use Rattle.std.proofs.Common.{ℕ, ◌≡◌, ◌<◌, ◌+◌, ◌∙◌, ap, sym, List, length, get_or, [], arith}
use Rattle.rows.specs.Ordered.{lists}
use Rattle.rows.specs.Row.{row_before}
use Rattle.set_algebra.specs.Private.{lefts, rights}
use Rattle.set_algebra.proofs.Walking.{turned, seek_ready, sought_here}
use Rattle.set_algebra.proofs.Striking.{Striking, striking_start, striking_left, striking_struck, striking_end, lefts_kept, row_here, width_here, row_narrow, lengths}
use Rattle.set_algebra.proofs.strike.Goals as goal
use Rattle.set_algebra.proofs.strike.Goals.{then-is_ok, else-is_ok}

pub loop-i-init : goal.loop-i-init
loop-i-init c = striking_start c.args.area.now c.requires

pub at-row-requires : goal.at-row-requires
at-row-requires c = let n = lengths c.args.area.now c.requires in let s = c.loop-i.invariant.size in omega arith

pub seek-place-requires : goal.seek-place-requires
seek-place-requires c =
    let a = c.args.area.now in
    let n = lengths a c.requires in
    let h : c.loop-i.i < length (rights a) = omega arith in
    seek_ready (turned c.requires) _ c.loop-i.invariant.walk h (lefts_kept a c.requires _ _ _ c.loop-i.invariant) (row_here a c.requires _ _ _ c.loop-i.invariant h) _ c.at-row.ensures

pub bounds-area-at : goal.bounds-area-at
bounds-area-at c = let n = lengths c.args.area.now c.requires in let s = c.loop-i.invariant.size in omega arith

pub overflow_add-area : goal.overflow_add-area
overflow_add-area c =
    let n = lengths c.args.area.now c.requires in
    let h : c.loop-i.i < length (rights c.args.area.now) = omega arith in
    let w = width_here c.args.area.now c.requires _ _ _ c.loop-i.invariant h in
    let k = row_narrow c.args.area.now c.requires _ h in
    omega arith

pub bounds-area-at-then-is_ok : goal.bounds-area-at-then-is_ok
bounds-area-at-then-is_ok c = let n = lengths c.args.area.now c.requires in let s = c.loop-i.invariant.size in omega arith

as_before : {a : List ℕ} (now now' : List ℕ) (i j j' : ℕ) → now ≡ now' → j ≡ j' → Striking a now' i j' → Striking a now i j
as_before now now' i j j' e f x = rw (e, f) x

pub loop-i-preserved : goal.loop-i-preserved
loop-i-preserved c =
    let a = c.args.area.now in
    let n = lengths a c.requires in
    let h : c.loop-i.i < length (rights a) = omega arith in
    let w' = width_here a c.requires _ _ _ c.loop-i.invariant h in
    let s = sought_here (turned c.requires) _ c.loop-i.invariant.walk h (lefts_kept a c.requires _ _ _ c.loop-i.invariant) (row_here a c.requires _ _ _ c.loop-i.invariant h) _
    c.at-row.ensures c.seek-place.ensures in
    let found : lists row_before (lefts a) (get_or (rights a) c.loop-i.i []) ≡ c.is_ok.result = sym s.found ∙ sym c.is_ok.ensures.value in
    elim c.if-is_ok.branch [
      | then-is_ok w ↦ as_before _ _ _ _ _ w.area-is c.reached-j.ensures
          (striking_struck a c.requires _ _ _ c.loop-i.invariant h s.passed (found ∙ w.if-is_ok.true) _ (ap (λ (n : ℕ). n + 8) w'))
      | else-is_ok w ↦ as_before _ _ _ _ _ w.area-is c.reached-j.ensures (striking_left a c.requires _ _ _ c.loop-i.invariant h s.passed (found ∙ w.if-is_ok.false))
    ]

pub returns : goal.returns
returns c = let n = lengths c.args.area.now c.requires in striking_end c.args.area.now c.requires _ _ _ c.loop-i.invariant (omega arith)
