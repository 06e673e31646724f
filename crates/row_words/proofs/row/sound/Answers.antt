-- One more of the unused atoms is 0.
use Rattle.std.proofs.Common.{sym, refl, arith}
use Rattle.row_words.proofs.RowLaws.{no_width, too_wide, looked_start, looked_next, looked_fails, looked_end}
use Rattle.row_words.proofs.row.sound.Goals as goal
use Rattle.row_words.proofs.row.sound.Goals.{then-width-lt1-via-then-width-lt1, then-width-lt1-via-else-width-lt1+then-width-gt4}

pub returns-then-width-lt1 : goal.returns-then-width-lt1
returns-then-width-lt1 c =
    elim c.then-width-lt1.branch [
      | then-width-lt1-via-then-width-lt1 w ↦ sym (no_width c.args.words.now c.args.at (omega arith) (omega arith))
      | then-width-lt1-via-else-width-lt1+then-width-gt4 w ↦ sym (too_wide c.args.words.now c.args.at (omega arith) (omega arith))
    ]

pub loop-j-init : goal.loop-j-init
loop-j-init c = looked_start c.args.words.now c.args.at (omega arith) _ refl (omega arith) (omega arith)

pub returns-then-words-at-ne0 : goal.returns-then-words-at-ne0
returns-then-words-at-ne0 c = sym (looked_fails c.args.words.now c.args.at (omega arith) c.loop-j.j c.loop-j.invariant (omega arith) (λ z. omega arith))

pub loop-j-preserved : goal.loop-j-preserved
loop-j-preserved c = looked_next c.args.words.now c.args.at (omega arith) c.loop-j.j c.loop-j.invariant (omega arith) (omega arith)

pub returns : goal.returns
returns c = sym (looked_end c.args.words.now c.args.at (omega arith) c.loop-j.j c.loop-j.invariant (omega arith))
