-- The day falls into the month that the quotient counts.
use Rattle.std.proofs.Common.{sym, arith}
use Rattle.calendar.specs.Gregorian.{leap}
use Rattle.calendar.proofs.Lengths.{falls_whole}
use Rattle.calendar.proofs.ClosedForms.{year_short, months_fall_first, months_fall_later}
use Rattle.calendar.proofs.months_in.Goals as goal

pub overflow_add-result : goal.overflow_add-result
overflow_add-result c = record { fits = omega (arith, year_short (leap c.args.year)) }

pub overflow_mul-result : goal.overflow_mul-result
overflow_mul-result c = record { fits = omega (arith, year_short (leap c.args.year)) }

pub overflow_add-result-else-days-second : goal.overflow_add-result-else-days-second
overflow_add-result-else-days-second c = record { fits = omega (arith, year_short (leap c.args.year)) }

pub returns-then-days-second : goal.returns-then-days-second
returns-then-days-second c =
    let a = c.args in
    sym (falls_whole a.days _ _ (months_fall_first (leap a.year) a.days (omega (arith, c.february-second.ensures))))

pub returns-else-days-second : goal.returns-else-days-second
returns-else-days-second c =
    let a = c.args in
    let e = c.february-second.ensures in
    rw e (sym (falls_whole a.days _ _ (months_fall_later (leap a.year) a.days (omega arith) c.requires)))
