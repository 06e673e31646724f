-- The converter both ways between minutes and Gregorian year, month, day, hour and minute, for 2000 to 2099.
use Rattle.std.specs.Prelude.{ℕ, ◌+◌, ◌-◌, ◌*◌, ◌/◌, ◌%◌, Bool, true, false, ◌&&◌, List, [], ◌∷◌, leb, ltb, get_or}
use Rattle.refusals.specs.RefusalTable.{bad_date}
use Rattle.rows.specs.Ordered.{words_before}
use Rattle.calendar.specs.Gregorian.{leap, months, days_of_first, whole_in, years_from}

-- a Gregorian year, month, day, hour and minute: any five numbers
pub record Date : Type 0 where
  pub year : ℕ
  pub month : ℕ
  pub day : ℕ
  pub hour : ℕ
  pub minute : ℕ

abbrev pub date_of : ℕ → ℕ → ℕ → ℕ → ℕ → Date
date_of y mo d h mi = record { year = y; month = mo; day = d; hour = h; minute = mi }

-- the converter knows the years 2000 to 2099
abbrev pub first_year : ℕ
first_year = 2000

abbrev pub last_year : ℕ
last_year = 2099

-- the days of each of those hundred years
unfoldable pub years : List ℕ
unfolding years_from
years = years_from first_year 100

abbrev pub within : ℕ → ℕ → ℕ → Bool
within least most n = leb least n && leb n most

-- the date is on the calendar, in those years: months count from 1 to 12, days from 1 to the month's length, hours and minutes from 0 to under 24 and 60
unfoldable pub exists : Date → Bool
unfolding leap months
exists d =
    within first_year last_year d.year && (within 1 12 d.month && (within 1 (get_or (months (leap d.year)) (d.month - 1) 0) d.day
    && (ltb d.hour 24 && ltb d.minute 60)))

-- the minutes since 2000-01-01 00:00 UTC: a day has 24 hours of 60 minutes, and before it lie the days of the whole years,
-- of the whole months and of its own month
unfoldable pub minutes_of : Date → ℕ
unfolding leap months days_of_first years
minutes_of d =
    (days_of_first (d.year - first_year) years + days_of_first (d.month - 1) (months (leap d.year)) + (d.day - 1)) * 1440 + d.hour * 60 + d.minute

-- the date of a minute: of its whole days the whole years are taken off, then the whole months of that year
unfoldable pub date_at : ℕ → Date
unfolding leap months days_of_first whole_in years
date_at minutes =
    let days : ℕ = minutes / 1440 in
    let passed : ℕ = whole_in days years in
    let left : ℕ = days - days_of_first passed years in
    let lengths : List ℕ = months (leap (first_year + passed)) in
    let over : ℕ = whole_in left lengths in
    date_of (first_year + passed) (over + 1) (left - days_of_first over lengths + 1) (minutes % 1440 / 60) (minutes % 60)

-- what either call answers
pub data Reply (A : Type 0) : Type 0 where
  converted : A → Reply A
  refused : ℕ → Reply A

-- a date that is not on the calendar, or lies outside those years, is refused with 16, which the converter alone gives; a minute is refused when its date is
unfoldable pub minutes_reply : Date → Reply ℕ
unfolding exists minutes_of
minutes_reply d = elim (exists d) [ true ↦ converted (minutes_of d) | false ↦ refused bad_date ]

unfoldable pub date_reply : ℕ → Reply Date
unfolding exists date_at
date_reply minutes = elim (exists (date_at minutes)) [ true ↦ converted (date_at minutes) | false ↦ refused bad_date ]

-- which of two dates is earlier: the year decides, then the month, the day, the hour, the minute
unfoldable pub earlier : Date → Date → Bool
unfolding words_before
earlier c d =
    words_before (c.year ∷ c.month ∷ c.day ∷ c.hour ∷ c.minute ∷ []) (d.year ∷ d.month ∷ d.day ∷ d.hour ∷ d.minute ∷ [])
