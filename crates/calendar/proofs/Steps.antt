-- From a minute to its date, step by step, as the code goes.
use Prim.Native.Nat.{ℕ, ◌+◌, ◌-◌, ◌/◌, ◌%◌, ◌≤◌, ◌<◌}
use mathlib.Core.Path.{◌≡◌}
use mathlib.Core.Bool.{Bool}
use native.Mathlib.Omega.{arith}
use Rattle.calendar.specs.Gregorian.{leap, months, days_of_first, whole_in}
use Rattle.calendar.specs.Converter.{date_of, first_year, years, date_at}
use Rattle.calendar.proofs.Lengths.{whole_falls}
use Rattle.calendar.proofs.Existing.{year_more, count_years, count_months}
use Rattle.calendar.proofs.ThereAndBack.{end, whole_years}

-- the year
pub record InYear (days y : ℕ) : Type 0 where
  pub few : y ≤ 99
  pub from : days_of_first y years ≤ days
  pub until : days - days_of_first y years < days_of_first 12 (months (leap (first_year + y)))

pub year_found : (m y : ℕ) → m < end → y ≡ whole_in (m / 1440) years → InYear (m / 1440) y
year_found m y h e =
    let w = rw (← e) at (whole_years m h).falls in
    let n = (whole_years m h).among in
    let l : y < 100 = omega (arith, n, count_years) in
    record { few = omega arith; from = w.from; until = omega (arith, w.from, w.until, year_more y l) }

-- the month
pub record InMonth (days k : ℕ) (b : Bool) : Type 0 where
  pub few : k ≤ 11
  pub from : days_of_first k (months b) ≤ days

pub month_found : (days k : ℕ) (b : Bool) → days < days_of_first 12 (months b) → k ≡ whole_in days (months b) → InMonth days k b
month_found days k b h e =
    let w = whole_falls days (months b) (rw (count_months b) h) in
    record { few = omega (arith, w.among, count_months b); from = rw e w.falls.from }

-- the month of a minute, from its year and the days before that year
pub month_reached : (m y s k : ℕ) → m < end → y ≡ whole_in (m / 1440) years → s ≡ days_of_first y years → k ≡ whole_in (m / 1440 - s) (months (leap (first_year + y))) →
    InMonth (m / 1440 - s) k (leap (first_year + y))
month_reached m y s k h p q r = month_found (m / 1440 - s) k (leap (first_year + y)) (omega (arith, year_found m y h p)) r

-- the date, from what each step finds
pub date_by_steps : (m y s k t : ℕ) → y ≡ whole_in (m / 1440) years → s ≡ days_of_first y years → k ≡ whole_in (m / 1440 - s) (months (leap (first_year + y))) →
    t ≡ days_of_first k (months (leap (first_year + y))) → date_of (first_year + y) (k + 1) (m / 1440 - s - t + 1) (m % 1440 / 60) (m % 60) ≡ date_at m
unfolding date_at
date_by_steps m y s k t p q r u = cc
