-- The row is compared with the `j`th.
use Rattle.std.proofs.Common.{ℕ, ◌≡◌, [], get_or, subst, Err, arith}
use Rattle.rows.specs.Row.{row_before}
use Rattle.rows.specs.Layout.{rows_in}
use Rattle.rows.proofs.Order.{row_order}
use Rattle.rows.proofs.Place.{between_up}
use Rattle.row_words.specs.Values.{row_is}
use Rattle.sets.proofs.SetWords.{size, width_in, row_before_lem, row_same, row_after, sound_ascending}
use Rattle.set_algebra.specs.Private.{Sought}
use Rattle.set_algebra.proofs.Seeking.{walk_start, seek_before, seek_same, seek_end}
use Rattle.set_algebra.proofs.seek.Goals as goal

pub bounds-set-1 : goal.bounds-set-1
bounds-set-1 c = let s = size c.args.set.now c.requires.0 in omega arith

pub loop-j-init : goal.loop-j-init
loop-j-init c = walk_start (rows_in c.args.set.now) (row_is c.args.row) c.args.start c.requires.2

pub compare-requires : goal.compare-requires
compare-requires c =
    let s = size c.args.set.now c.requires.0 in
    (omega arith, c.requires.1, width_in c.args.set.now _ c.requires.0 (omega arith))

pub returns-in-Less : goal.returns-in-Less
returns-in-Less c =
    let a = c.args in
    let s = size a.set.now c.requires.0 in
    seek_before (rows_in a.set.now) (row_is a.row) (sound_ascending a.set.now c.requires.0) c.loop-j.j c.loop-j.invariant (omega arith)
    (row_before_lem a.set.now _ (omega arith) a.row _ c.compare.ensures c.in-Less.is)

pub returns-in-Equal : goal.returns-in-Equal
returns-in-Equal c =
    let a = c.args in
    let s = size a.set.now c.requires.0 in
    seek_same (rows_in a.set.now) (row_is a.row) c.loop-j.j c.loop-j.invariant (omega arith) (row_same a.set.now _ (omega arith) a.row _ c.compare.ensures c.in-Equal.is)

pub loop-j-preserved : goal.loop-j-preserved
loop-j-preserved c =
    let a = c.args in
    let s = size a.set.now c.requires.0 in
    between_up row_before row_order [] (rows_in a.set.now) (sound_ascending a.set.now c.requires.0) (row_is a.row) _ _ _ c.loop-j.invariant (omega arith) (omega arith)
    (row_after a.set.now _ (omega arith) a.row _ c.compare.ensures c.in-Greater.is)

pub returns : goal.returns
returns c =
    let a = c.args in
    let s = size a.set.now c.requires.0 in
    let o = c.loop-j.invariant.order in
    let e : c.loop-j.j ≡ get_or a.set.now 1 0 = omega arith in
    subst (λ (n : ℕ). Sought (rows_in a.set.now) (row_is a.row) (Err n)) e (seek_end (rows_in a.set.now) (row_is a.row) c.loop-j.j c.loop-j.invariant (omega arith))
