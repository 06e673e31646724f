-- The Gregorian calendar by its rules: leap years, the lengths of months and of years.
use Rattle.std.specs.Prelude.{ℕ, zero, suc, ◌+◌, ◌-◌, ◌%◌, Bool, true, false, not, ◌&&◌, ◌||◌, List, [], ◌∷◌, ltb, eqb}

-- every fourth year is a leap year, but of the hundredth years only the four hundredth are
unfoldable pub leap : ℕ → Bool
leap year = eqb (year % 4) 0 && (not (eqb (year % 100) 0) || eqb (year % 400) 0)

-- February, in a leap year and in any other
abbrev pub february_days : Bool → ℕ
february_days true = 29
february_days false = 28

-- the days of each month, January first, in a leap year and in any other
unfoldable pub months : Bool → List ℕ
months is_leap = 31 ∷ february_days is_leap ∷ 31 ∷ 30 ∷ 31 ∷ 30 ∷ 31 ∷ 31 ∷ 30 ∷ 31 ∷ 30 ∷ 31 ∷ []

-- the days of the first n of some months or years
unfoldable pub days_of_first : ℕ → List ℕ → ℕ
days_of_first zero lengths = 0
days_of_first (suc n) [] = 0
days_of_first (suc n) (l ∷ lengths) = l + days_of_first n lengths

-- the other way round: how many of them, from the first on, pass whole in so many days
unfoldable pub whole_in : ℕ → List ℕ → ℕ
whole_in days [] = 0
whole_in days (l ∷ lengths) = elim (ltb days l) [ true ↦ 0 | false ↦ suc (whole_in (days - l) lengths) ]

-- a year's days are those of its months
unfoldable pub year_days : ℕ → ℕ
unfolding leap months days_of_first
year_days year = days_of_first 12 (months (leap year))

-- the days of each of n years, from one year on
unfoldable pub years_from : ℕ → ℕ → List ℕ
unfolding year_days
years_from year zero = []
years_from year (suc n) = year_days year ∷ years_from (suc year) n
