-- The code's sums and quotients are the sums of lengths: tested at each number of years and months, and from there at each day.
use Prim.Native.Nat.{ℕ, zero, suc, ◌+◌, ◌-◌, ◌*◌, ◌/◌, ◌≤◌, ◌<◌}
use mathlib.Core.Path.{◌≡◌, refl, ◌∙◌, ap}
use mathlib.Core.Bool.{Bool, true, false, ◌&&◌}
use native.Mathlib.Omega.{arith}
use lib.Dec.{ltb, eqb}
use lib.ListN.{get_or}
use borrow.Author.Tests.{ltb-true, ltb-false, eqb-true}
use Rattle.rows.proofs.Case.{Case, is_true, is_false, split, and_true}
use Rattle.calendar.specs.Gregorian.{leap, february_days, months, days_of_first, whole_in, year_days, years_from}
use Rattle.calendar.specs.Converter.{years}
use Rattle.calendar.proofs.Lengths.{first_more, Falls, falls_whole}

-- the test passes at each number below n
each : (ℕ → Bool) → ℕ → Bool
each f zero = true
each f (suc n) = f n && each f n

each_at : (f : ℕ → Bool) (n k : ℕ) → each f n ≡ true → k < n → f k ≡ true
unfolding each
each_at f zero k e h = absurd (omega arith)
each_at f (suc n) k e h = go (split (ltb k n)) (and_true (f n) (each f n) e) (each_at f n k)
  where
    go : Case (ltb k n) → (f n ≡ true) × (each f n ≡ true) → (each f n ≡ true → k < n → f k ≡ true) → f k ≡ true
    go (is_true t) p before = before p.1 (ltb-true k n t)
    go (is_false t) p before = let s : k ≡ n = omega (arith, ltb-false k n t) in ap f s ∙ p.0

-- ---- years
years_right : ℕ → Bool
years_right n = eqb ((n * 1461 + 3) / 4) (days_of_first n years)

years_test : each years_right 101 ≡ true
unfolding each years_right years years_from year_days leap months days_of_first
years_test = refl

pub years_closed : (n : ℕ) → n ≤ 100 → (n * 1461 + 3) / 4 ≡ days_of_first n years
unfolding years_right
years_closed n h = eqb-true _ _ (each_at years_right 101 n years_test (omega arith))

pub years_fall : (days : ℕ) → days < 36525 → Falls days (days * 4 / 1461) years
years_fall days h =
    let n = days * 4 / 1461 in
    record { from = omega (arith, years_closed n (omega arith)); until = omega (arith, years_closed (suc n) (omega arith)) }

pub years_whole : (days : ℕ) → days < 36525 → whole_in days years ≡ days * 4 / 1461
years_whole days h = falls_whole days (days * 4 / 1461) years (years_fall days h)

-- ---- months
pub february_long : (b : Bool) → (28 ≤ february_days b) × (february_days b ≤ 29)
february_long true = omega arith
february_long false = omega arith

-- January, and the months from February on
pub months_first : (b : Bool) (n : ℕ) → n < 2 → (n * 367 + 5) / 12 ≡ days_of_first n (months b)
unfolding months days_of_first
months_first b zero h = refl
months_first b (suc zero) h = refl
months_first b (suc (suc n)) h = absurd (omega arith)

months_right : Bool → ℕ → Bool
months_right b n = eqb (((n + 2) * 367 + 5) / 12 + february_days b - 30) (days_of_first (n + 2) (months b))

months_test : (b : Bool) → each (months_right b) 11 ≡ true
unfolding each months_right months days_of_first
months_test true = refl
months_test false = refl

pub months_later : (b : Bool) (n : ℕ) → 2 ≤ n → n ≤ 12 → (n * 367 + 5) / 12 + february_days b - 30 ≡ days_of_first n (months b)
unfolding months_right
months_later b n g h =
    let e : n - 2 + 2 ≡ n = omega arith in
    rw e at (eqb-true (((n - 2 + 2) * 367 + 5) / 12 + february_days b - 30) (days_of_first (n - 2 + 2) (months b)) (each_at (months_right b) 11 (n - 2) (months_test b) (omega arith)))

pub year_short : (b : Bool) → days_of_first 12 (months b) ≤ 366
year_short b = omega (arith, months_later b 12 (omega arith) (omega arith), february_long b)

falls_first : (b : Bool) (days n : ℕ) → days / 31 ≡ n → days < 31 + february_days b → Falls days n (months b)
unfolding months days_of_first
falls_first b days zero e h = record { from = omega arith; until = omega arith }
falls_first b days (suc zero) e h = record { from = omega arith; until = omega arith }
falls_first b days (suc (suc n)) e h = absurd (omega (arith, february_long b))

pub months_fall_first : (b : Bool) (days : ℕ) → days < 31 + february_days b → Falls days (days / 31) (months b)
months_fall_first b days h = falls_first b days (days / 31) refl h

pub months_fall_later : (b : Bool) (days : ℕ) → 31 + february_days b ≤ days → days < days_of_first 12 (months b) →
    Falls days (((days + 30 - february_days b) * 12 + 6) / 367) (months b)
months_fall_later b days g h =
    let n = ((days + 30 - february_days b) * 12 + 6) / 367 in
    let f = february_long b in
    let all = months_later b 12 (omega arith) (omega arith) in
    record { from = omega (arith, months_later b n (omega arith) (omega arith)); until = omega (arith, months_later b (suc n) (omega arith) (omega arith)) }

-- a month's own days come on top of those before it
pub month_more : (b : Bool) (month : ℕ) → 1 ≤ month → days_of_first month (months b) ≡ days_of_first (month - 1) (months b) + get_or (months b) (month - 1) 0
month_more b month h = let e : month ≡ suc (month - 1) = omega arith in ap (λ n. days_of_first n (months b)) e ∙ first_more (month - 1) (months b)
