-- What an existing date's numbers are known to be, and where it lies in its month and year.
use Prim.Native.Nat.{ℕ, zero, suc, ◌+◌, ◌-◌, ◌≤◌, ◌<◌}
use mathlib.Core.Path.{◌≡◌, refl, sym, ◌∙◌, ap}
use mathlib.Core.Bool.{Bool, true, false}
use mathlib.Core.List.{List}
use native.Mathlib.Omega.{arith}
use native.Mathlib.Nat.{add-zero}
use lib.Dec.{ltb, leb}
use lib.ListN.{length, get_or}
use borrow.Author.Tests.{ltb-true, leb-true, lt-ltb, le-leb}
use Rattle.rows.proofs.Case.{Case, is_true, is_false, split, and_true, true_and}
use Rattle.calendar.specs.Gregorian.{leap, months, days_of_first, year_days, years_from}
use Rattle.calendar.specs.Converter.{Date, first_year, last_year, years, within, exists}
use Rattle.calendar.proofs.Lengths.{first_more, first_ascend, Falls}

-- the months of a date's year
abbrev pub months_of : Date → List ℕ
months_of d = months (leap d.year)

pub record Existing (d : Date) : Type 0 where
  pub from_first : first_year ≤ d.year
  pub to_last : d.year ≤ last_year
  pub from_january : 1 ≤ d.month
  pub to_december : d.month ≤ 12
  pub from_one : 1 ≤ d.day
  pub to_length : d.day ≤ get_or (months_of d) (d.month - 1) 0
  pub under_24 : d.hour < 24
  pub under_60 : d.minute < 60

within_opens : (a b n : ℕ) → within a b n ≡ true → (a ≤ n) × (n ≤ b)
within_opens a b n e = let t = and_true (leb a n) (leb n b) e in (leb-true a n t.0, leb-true n b t.1)

within_holds : (a b n : ℕ) → a ≤ n → n ≤ b → within a b n ≡ true
within_holds a b n p q = true_and (leb a n) (leb n b) (le-leb a n p) (le-leb n b q)

pub exists_opens : (d : Date) → exists d ≡ true → Existing d
unfolding exists
exists_opens d e =
    let y = and_true (within first_year last_year d.year) _ e in
    let m = and_true (within 1 12 d.month) _ y.1 in
    let a = and_true (within 1 (get_or (months_of d) (d.month - 1) 0) d.day) _ m.1 in
    let h = and_true (ltb d.hour 24) (ltb d.minute 60) a.1 in
    let y' = within_opens first_year last_year d.year y.0 in
    let m' = within_opens 1 12 d.month m.0 in
    let a' = within_opens 1 (get_or (months_of d) (d.month - 1) 0) d.day a.0 in
    record {
      from_first = y'.0;
      to_last = y'.1;
      from_january = m'.0;
      to_december = m'.1;
      from_one = a'.0;
      to_length = a'.1;
      under_24 = ltb-true d.hour 24 h.0;
      under_60 = ltb-true d.minute 60 h.1;
    }

pub existing_exists : (d : Date) → Existing d → exists d ≡ true
unfolding exists
existing_exists d x =
    true_and _ _ (within_holds first_year last_year d.year x.from_first x.to_last)
    (true_and _ _ (within_holds 1 12 d.month x.from_january x.to_december)
    (true_and _ _ (within_holds 1 (get_or (months_of d) (d.month - 1) 0) d.day x.from_one x.to_length)
    (true_and _ _ (lt-ltb d.hour 24 x.under_24) (lt-ltb d.minute 60 x.under_60))))

-- a date of which that does not hold does not exist
pub not_existing : (d : Date) → (Existing d → ⊥) → exists d ≡ false
not_existing d n = go (split (exists d))
  where
    go : Case (exists d) → exists d ≡ false
    go (is_true e) = absurd (n (exists_opens d e))
    go (is_false e) = e

-- the length of a year of the list
years_from_lem : (year n k : ℕ) → n < k → get_or (years_from year k) n 0 ≡ year_days (year + n)
unfolding years_from
years_from_lem year n zero h = absurd (omega arith)
years_from_lem year zero (suc k) h = ap year_days (sym (add-zero year))
years_from_lem year (suc n) (suc k) h = let e : suc year + n ≡ year + suc n = omega arith in years_from_lem (suc year) n k (omega arith) ∙ ap year_days e

year_length : (n : ℕ) → n < 100 → get_or years n 0 ≡ days_of_first 12 (months (leap (first_year + n)))
unfolding years year_days
year_length n h = years_from_lem first_year n 100 h

pub year_more : (n : ℕ) → n < 100 → days_of_first (suc n) years ≡ days_of_first n years + days_of_first 12 (months (leap (first_year + n)))
year_more n h = first_more n years ∙ ap (λ l. days_of_first n years + l) (year_length n h)

pub all_years : days_of_first 100 years ≡ 36525
unfolding years years_from year_days leap months days_of_first
all_years = refl

pub count_years : length years ≡ 100
unfolding years years_from year_days
count_years = refl

pub count_months : (b : Bool) → length (months b) ≡ 12
unfolding months
count_months b = refl

-- the day of a date, counted from the first of its year and of all years
abbrev pub day_in_year : Date → ℕ
day_in_year d = days_of_first (d.month - 1) (months_of d) + (d.day - 1)

abbrev pub day_of : Date → ℕ
day_of d = days_of_first (d.year - first_year) years + days_of_first (d.month - 1) (months_of d) + (d.day - 1)

module _ (d : Date) (x : Existing d) where
  pub in_month : Falls (day_in_year d) (d.month - 1) (months_of d)
  in_month = record { from = omega arith; until = omega (arith, first_more (d.month - 1) (months_of d)) }

  pub in_year : Falls (day_of d) (d.year - first_year) years
  in_year =
      let e : first_year + (d.year - first_year) ≡ d.year = omega arith in
      let l = ap (λ y. days_of_first 12 (months (leap y))) e in
      let m = first_ascend (suc (d.month - 1)) 12 (months_of d) (omega arith) in
      record { from = omega arith; until = omega (arith, year_more (d.year - first_year) (omega arith), in_month.until) }

  pub day_few : day_of d < 36525
  day_few = omega (arith, in_year.until, first_ascend (suc (d.year - first_year)) 100 years (omega arith), all_years)
