-- A date that passed the test exists, so its days and minutes are few enough to count.
use Rattle.std.proofs.Common.{◌≡◌, ◌<◌, Bool, true, sym, ◌∙◌, arith}
use Rattle.calendar.specs.Converter.{Date, exists, minutes_of}
use Rattle.calendar.specs.Reply.{date_is, minute_is}
use Rattle.calendar.proofs.Existing.{Existing, exists_opens, day_of, day_few}
use Rattle.calendar.proofs.ThereAndBack.{minutes_found, minutes_refused}
use Rattle.calendar.proofs.MinuteTryFromDate.try_from.Goals as goal

-- what is known of a date that exists, and how few its days are
counts : (d : Date) (r : Bool) → r ≡ exists d → r ≡ true → Existing d × (day_of d < 36525)
counts d r p q = let x = exists_opens d (sym p ∙ q) in (x, day_few d x)

pub returns-then-not-exists : goal.returns-then-not-exists
unfolding minute_is
returns-then-not-exists c = sym (minutes_refused _ (sym c.exists.ensures ∙ c.if-not-exists.true))

pub overflow_sub-date : goal.overflow_sub-date
overflow_sub-date c = omega (arith, counts (date_is c.args.date) _ c.exists.ensures c.if-not-exists.false)

pub days_of_years-years-requires : goal.days_of_years-years-requires
days_of_years-years-requires c = omega (arith, counts (date_is c.args.date) _ c.exists.ensures c.if-not-exists.false)

pub overflow_sub-date-2 : goal.overflow_sub-date-2
overflow_sub-date-2 c = omega (arith, counts (date_is c.args.date) _ c.exists.ensures c.if-not-exists.false)

pub days_of_months-months-requires : goal.days_of_months-months-requires
days_of_months-months-requires c = omega (arith, counts (date_is c.args.date) _ c.exists.ensures c.if-not-exists.false)

pub overflow_add-days : goal.overflow_add-days
overflow_add-days c = record { fits = omega (arith, counts (date_is c.args.date) _ c.exists.ensures c.if-not-exists.false) }

pub overflow_sub-days : goal.overflow_sub-days
overflow_sub-days c = omega (arith, counts (date_is c.args.date) _ c.exists.ensures c.if-not-exists.false)

pub overflow_add-days-2 : goal.overflow_add-days-2
overflow_add-days-2 c = record { fits = omega (arith, counts (date_is c.args.date) _ c.exists.ensures c.if-not-exists.false) }

pub overflow_mul-result : goal.overflow_mul-result
overflow_mul-result c = record { fits = omega (arith, counts (date_is c.args.date) _ c.exists.ensures c.if-not-exists.false) }

pub overflow_mul-result-2 : goal.overflow_mul-result-2
overflow_mul-result-2 c = record { fits = omega (arith, counts (date_is c.args.date) _ c.exists.ensures c.if-not-exists.false) }

pub overflow_add-result : goal.overflow_add-result
overflow_add-result c = record { fits = omega (arith, counts (date_is c.args.date) _ c.exists.ensures c.if-not-exists.false) }

pub overflow_add-result-2 : goal.overflow_add-result-2
overflow_add-result-2 c = record { fits = omega (arith, counts (date_is c.args.date) _ c.exists.ensures c.if-not-exists.false) }

pub returns : goal.returns
unfolding minute_is minutes_of
returns c = rw (c.days_of_years-years.ensures, c.days_of_months-months.ensures) (sym (minutes_found _ (sym c.exists.ensures ∙ c.if-not-exists.false)))
