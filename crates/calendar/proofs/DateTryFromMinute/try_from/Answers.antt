-- Step by step: the year, the month, the day.
use Rattle.std.proofs.Common.{sym, ◌∙◌, ap, arith}
use Rattle.calendar.specs.Converter.{converted, date_at}
use Rattle.calendar.specs.Reply.{dated_is}
use Rattle.calendar.proofs.Existing.{existing_exists}
use Rattle.calendar.proofs.ThereAndBack.{date_found, date_refused, date_exists, date_past}
use Rattle.calendar.proofs.Steps.{year_found, month_reached, date_by_steps}
use Rattle.calendar.proofs.DateTryFromMinute.try_from.Goals as goal

pub returns-then-minutes-ge-END : goal.returns-then-minutes-ge-END
unfolding dated_is
returns-then-minutes-ge-END c = sym (date_refused _ (date_past c.args.minute.0 (omega arith)))

pub overflow_add-year : goal.overflow_add-year
overflow_add-year c = record { fits = omega (arith, year_found c.args.minute.0 _ (omega arith) c.years_in-passed.ensures) }

pub days_of_years-requires : goal.days_of_years-requires
days_of_years-requires c = (year_found c.args.minute.0 _ (omega arith) c.years_in-passed.ensures).few

pub overflow_sub-left : goal.overflow_sub-left
overflow_sub-left c = omega (arith, year_found c.args.minute.0 _ (omega arith) c.years_in-passed.ensures)

pub months_in-over-requires : goal.months_in-over-requires
months_in-over-requires c = omega (arith, year_found c.args.minute.0 _ (omega arith) c.years_in-passed.ensures)

pub days_of_months-requires : goal.days_of_months-requires
days_of_months-requires c = omega (arith, month_reached c.args.minute.0 _ _ _ (omega arith) c.years_in-passed.ensures c.days_of_years.ensures c.months_in-over.ensures)

pub overflow_sub-day : goal.overflow_sub-day
overflow_sub-day c = omega (arith, month_reached c.args.minute.0 _ _ _ (omega arith) c.years_in-passed.ensures c.days_of_years.ensures c.months_in-over.ensures)

pub overflow_add-result : goal.overflow_add-result
overflow_add-result c = record { fits = omega (arith, month_reached c.args.minute.0 _ _ _ (omega arith) c.years_in-passed.ensures c.days_of_years.ensures c.months_in-over.ensures) }

pub returns : goal.returns
unfolding dated_is
returns c =
    let m = c.args.minute.0 in
    ap converted (date_by_steps m _ _ _ _ c.years_in-passed.ensures c.days_of_years.ensures c.months_in-over.ensures c.days_of_months.ensures)
    ∙ sym (date_found m (existing_exists (date_at m) (date_exists m (omega arith))))
