-- The later records are moved up, then the record is written before them: together one writing.
use Rattle.std.proofs.Common.{ℕ, ◌+◌, ◌*◌, ◌-◌, ◌≡◌, ◌∙◌, ap, List, length, set, take, drop, length-drop, arith}
use Rattle.rows.specs.Layout.{put}
use Rattle.rows.specs.Records.{count_of, put_in}
use Rattle.rows.proofs.Records.{one_more, both_parts, put_is}
use Rattle.row_words.proofs.WordLaws.{mid_put, paste_put}
use Rattle.records.proofs.insert.Goals as goal

pub returns : goal.returns
unfolding put_in
returns c =
    let a = c.args in
    let area : List ℕ = a.area.now in
    let w : ℕ = a.width in
    let n : ℕ = count_of area in
    let at : ℕ = 1 + w * a.place in
    let more = one_more w n in
    let parts : w * n ≡ w * a.place + w * (n - a.place) = both_parts w a.place n (omega arith) in
    let count : ℕ = 1 + w * n - at in
    let e : count ≡ w * (n - a.place) = omega arith in
    let s : at + w - at ≡ length a.words.now = omega arith in
    let moved = c.copy_within.ensures.after ∙ paste_put area (at + w) (drop at area) count (omega (arith, length-drop at area)) ∙ ap (λ (k : ℕ). put (at + w) (take k (drop at area)) area) e in
    ap (λ (m : List ℕ). set m 0 (n + 1))
    (mid_put at _ c.copy_within.new.self _ a.words.now s c.copy_from_slice.ensures.after ∙ ap (put at a.words.now) moved ∙ put_is w area a.words.now a.place (omega arith) (omega arith) (omega arith))
