-- The rows from `i` on moved up, the row written, and the count.
use Rattle.std.proofs.Common.{ℕ, ◌+◌, ◌*◌, ◌-◌, ◌≡◌, ◌∙◌, ap, List, length, get_or, take, drop, set, rules, length-drop, arith}
use Rattle.rows.specs.Layout.{row_words, put, rows_in}
use Rattle.row_words.specs.Values.{row_is}
use Rattle.row_words.proofs.RowLaws.{held_length}
use Rattle.row_words.proofs.WordLaws.{paste_put}
use Rattle.sets.proofs.SetWords.{size}
use Rattle.sets.proofs.Laid.{row_put_in}
use Rattle.sets.proofs.listing.insert_at.Goals as goal

pub copy_within-requires-clause-start_le_end : goal.copy_within-requires-clause-start_le_end
copy_within-requires-clause-start_le_end c = let s = size c.args.set.now c.requires.0 in omega arith

pub copy_within-requires-clause-in_bounds : goal.copy_within-requires-clause-in_bounds
copy_within-requires-clause-in_bounds c = let s = size c.args.set.now c.requires.0 in omega arith

pub copy_within-requires-clause-dest_in_bounds : goal.copy_within-requires-clause-dest_in_bounds
copy_within-requires-clause-dest_in_bounds c = let s = size c.args.set.now c.requires.0 in omega arith

pub overflow_add-set : goal.overflow_add-set
overflow_add-set c = let s = size c.args.set.now c.requires.0 in omega arith

pub returns : goal.returns
returns c =
    let a = c.args in
    let ws : List ℕ = a.set.now in
    let s = size ws c.requires.0 in
    let four : length a.row.atoms ≡ 4 = search rules in
    let l = held_length a.row four (omega arith) in
    let at : ℕ = 2 + 5 * a.i in
    let count : ℕ = 2 + 5 * get_or ws 1 0 - at in
    let n : count ≡ 5 * (length (rows_in ws) - a.i) = omega arith in
    let moved = c.copy_within.ensures.after ∙ paste_put ws (at + 5) (drop at ws) count (omega (arith, length-drop at ws)) ∙ ap (λ (k : ℕ). put (at + 5) (take k (drop at ws)) ws) n in
    ap (λ (m : List ℕ). set m 1 (get_or ws 1 0 + 1)) (c.write.ensures ∙ ap (put at (row_words (row_is a.row))) moved)
    ∙ ap (λ (m : ℕ). set (put at (row_words (row_is a.row)) (put (at + 5) (take (5 * (length (rows_in ws) - a.i)) (drop at ws)) ws)) 1 (m + 1)) s.count
    ∙ row_put_in ws c.requires.0 a.i (row_is a.row) (omega arith) (omega arith) (omega arith)
