-- No record has a row of more than four atoms.
use Rattle.std.proofs.Common.{length, ap, arith}
use Rattle.rows.specs.Row.{Row}
use Rattle.read_held.proofs.Copying.{record_wide}
use Rattle.read_held.proofs.Searching.{none_holds}
use Rattle.read_held.proofs.is_held.Goals as goal

pub returns-in-None : goal.returns-in-None
returns-in-None c =
    none_holds c.args.minute c.args.records.now c.args.row.now
    (λ l h e. let wide = record_wide _ (c.requires.sound l h) in absurd (omega (arith, wide.few, ap (λ (x : Row). length x) e, c.in-None.ensures)))
