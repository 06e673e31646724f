-- Test by test.
use Rattle.std.proofs.Common.{sym, ◌∙◌, arith}
use Rattle.rows.proofs.Case.{never}
use Rattle.rows.proofs.LayoutLaws.{unsound, sound_order}
use Rattle.sets.proofs.sound.Goals as goal
use Rattle.sets.proofs.sound.Goals.{then-set-lt2-via-then-set-lt2, then-set-lt2-via-else-set-lt2+then-set-gt1, then-count-gt-MOST_ROWS-via-then-count-gt-MOST_ROWS, then-count-gt-MOST_ROWS-via-else-count-gt-MOST_ROWS+then-set-count}

pub returns-then-set-lt2 : goal.returns-then-set-lt2
returns-then-set-lt2 c =
    elim c.then-set-lt2.branch [
      | then-set-lt2-via-then-set-lt2 w ↦ sym (unsound c.args.set.now (λ s. omega (arith, s.header)))
      | then-set-lt2-via-else-set-lt2+then-set-gt1 w ↦ sym (unsound c.args.set.now (λ s. omega (arith, s.form)))
    ]

pub returns-then-count-gt-MOST_ROWS : goal.returns-then-count-gt-MOST_ROWS
returns-then-count-gt-MOST_ROWS c =
    elim c.then-count-gt-MOST_ROWS.branch [
      | then-count-gt-MOST_ROWS-via-then-count-gt-MOST_ROWS w ↦ sym (unsound c.args.set.now (λ s. omega (arith, s.count)))
      | then-count-gt-MOST_ROWS-via-else-count-gt-MOST_ROWS+then-set-count w ↦ sym (unsound c.args.set.now (λ s. omega (arith, s.whole)))
    ]

pub returns-then-sound_rows : goal.returns-then-sound_rows
returns-then-sound_rows c =
    c.ascends.ensures ∙ sym (sound_order c.args.set.now (omega arith) (omega arith) (omega arith) (omega arith) (sym c.sound_rows.ensures ∙ c.if-sound_rows.true))

pub returns-else-sound_rows : goal.returns-else-sound_rows
returns-else-sound_rows c = c.if-sound_rows.false ∙ sym (unsound c.args.set.now (λ s. never s.pieces (sym c.sound_rows.ensures ∙ c.if-sound_rows.false)))
