-- Counted, then merged.
use Rattle.std.proofs.Common.{◌∙◌, ap, Bool, get_or, arith}
use Rattle.rows.specs.Layout.{formed}
use Rattle.rows.specs.Ordered.{join}
use Rattle.rows.specs.Row.{row_before}
use Rattle.set_algebra.specs.Private.{lefts, rights}
use Rattle.set_algebra.specs.Combined.{left_by, room_for}
use Rattle.set_algebra.proofs.Merging.{counts}
use Rattle.set_algebra.proofs.Combining.{too_many, joined_fits, joined_words, none_left_over}
use Rattle.set_algebra.proofs.join.Goals as goal

pub returns-then-total-gt-MOST_ROWS : goal.returns-then-total-gt-MOST_ROWS
unfolding room_for
returns-then-total-gt-MOST_ROWS c =
    let area = c.args.area.now in
    let f = too_many area c.requires _ c.joint-total.ensures (omega arith) in
    record { answer = ap room_for f; words = none_left_over area c.requires ∙ ap (λ (b : Bool). left_by b (formed (get_or area 0 0) (join row_before (lefts area) (rights area))) area) f }

pub merge-requires : goal.merge-requires
merge-requires c = (c.requires, c.joint-total.ensures, omega arith)

pub bounds-area-1 : goal.bounds-area-1
bounds-area-1 c = let n = counts c.args.area.now c.requires in let k = c.merge.auto in omega arith

pub returns : goal.returns
unfolding room_for
returns c =
    let area = c.args.area.now in
    let f = joined_fits area c.requires _ c.joint-total.ensures (omega arith) in
    record { answer = ap room_for f; words = joined_words area c.requires _ _ c.joint-total.ensures (omega arith) c.merge.ensures ∙ ap (λ (b : Bool). left_by b (formed (get_or area 0 0) (join row_before (lefts area) (rights area))) area) f }
