-- The width, an atom of the row, or one of the zeros after it.
use Rattle.std.proofs.Common.{ℕ, ◌≡◌, sym, ◌∙◌, ap, length, get_or, rules, arith}
use Rattle.rows.specs.Layout.{row_words}
use Rattle.row_words.specs.Values.{row_is}
use Rattle.row_words.proofs.RowLaws.{held_width, held_used, held_unused}
use Rattle.row_words.proofs.row.Row.word.Goals as goal

pub returns-then-j-eq0 : goal.returns-then-j-eq0
returns-then-j-eq0 c =
    let row = c.args.self.now in
    let four : length row.atoms ≡ 4 = search rules in
    let z : 0 ≡ c.args.j = omega arith in
    sym (held_width row four (omega arith)) ∙ ap (λ (k : ℕ). get_or (row_words (row_is row)) k 0) z

pub returns-then-j-self : goal.returns-then-j-self
returns-then-j-self c =
    let row = c.args.self.now in
    let four : length row.atoms ≡ 4 = search rules in
    sym (held_used row four (omega arith) c.args.j (omega arith) (omega arith))

pub returns : goal.returns
returns c =
    let row = c.args.self.now in
    let four : length row.atoms ≡ 4 = search rules in
    sym (held_unused row four (omega arith) c.args.j (omega arith) (omega arith))
