-- Months or years one after the other: the days of the first n, and how many pass whole in so many days.
use Prim.Native.Nat.{ℕ, zero, suc, ◌+◌, ◌-◌, ◌≤◌, ◌<◌}
use mathlib.Core.Path.{◌≡◌, refl, ◌∙◌, ap}
use mathlib.Core.List.{List, [], ◌∷◌}
use native.Mathlib.Omega.{arith}
use lib.Dec.{ltb}
use lib.ListN.{length, get_or}
use borrow.Author.Tests.{lt-ltb, le-ltb, ltb-true, ltb-false}
use Rattle.rows.proofs.Case.{Case, is_true, is_false, split}
use Rattle.calendar.specs.Gregorian.{days_of_first, whole_in}

-- one more
pub first_more : (n : ℕ) (ls : List ℕ) → days_of_first (suc n) ls ≡ days_of_first n ls + get_or ls n 0
unfolding days_of_first
first_more zero [] = refl
first_more zero (l ∷ ls) = omega arith
first_more (suc n) [] = refl
first_more (suc n) (l ∷ ls) = omega (arith, first_more n ls)

-- the more, the longer
pub first_ascend : (m n : ℕ) (ls : List ℕ) → m ≤ n → days_of_first m ls ≤ days_of_first n ls
unfolding days_of_first
first_ascend zero n ls h = omega arith
first_ascend (suc m) zero ls h = absurd (omega arith)
first_ascend (suc m) (suc n) [] h = omega arith
first_ascend (suc m) (suc n) (l ∷ ls) h = omega (arith, first_ascend m n ls (omega arith))

-- the day falls into the n-th, counted from 0
pub record Falls (days n : ℕ) (ls : List ℕ) : Type 0 where
  pub from : days_of_first n ls ≤ days
  pub until : days < days_of_first (suc n) ls

module _ (days l : ℕ) (ls : List ℕ) where
  whole_short : days < l → whole_in days (l ∷ ls) ≡ 0
  unfolding whole_in
  whole_short h = rw (lt-ltb days l h, whole_in)

  whole_long : l ≤ days → whole_in days (l ∷ ls) ≡ suc (whole_in (days - l) ls)
  unfolding whole_in
  whole_long h = rw (le-ltb days l h, whole_in)

-- as many pass whole as lie before the one that it falls into
pub falls_whole : (days n : ℕ) (ls : List ℕ) → Falls days n ls → whole_in days ls ≡ n
unfolding days_of_first
falls_whole days zero [] f = absurd (omega (arith, f.until))
falls_whole days (suc n) [] f = absurd (omega (arith, f.until))
falls_whole days zero (l ∷ ls) f = whole_short days l ls (omega (arith, f.until))
falls_whole days (suc n) (l ∷ ls) f =
    whole_long days l ls (omega (arith, f.from)) ∙ ap suc (falls_whole (days - l) n ls (record { from = omega (arith, f.from); until = omega (arith, f.until) }))

-- and it falls into one of them if it comes before the end of the last
pub record Whole (days : ℕ) (ls : List ℕ) : Type 0 where
  pub among : whole_in days ls < length ls
  pub falls : Falls days (whole_in days ls) ls

whole_falls_by : (days l : ℕ) (ls : List ℕ) → days < days_of_first (length (l ∷ ls)) (l ∷ ls) → Case (ltb days l) → (l ≤ days → Whole (days - l) ls) → Whole days (l ∷ ls)
unfolding days_of_first
whole_falls_by days l ls h (is_true t) before =
    let s = ltb-true days l t in
    let e = whole_short days l ls s in
    record { among = omega arith; falls = rw e (record { from = omega arith; until = omega arith }) }
whole_falls_by days l ls h (is_false t) before =
    let s = ltb-false days l t in
    let e = whole_long days l ls s in
    let w = before s in
    record { among = omega (arith, w.among); falls = rw e (record { from = omega (arith, w.falls.from); until = omega (arith, w.falls.until) }) }

pub whole_falls : (days : ℕ) (ls : List ℕ) → days < days_of_first (length ls) ls → Whole days ls
unfolding days_of_first
whole_falls days [] h = absurd (omega arith)
whole_falls days (l ∷ ls) h = whole_falls_by days l ls h (split (ltb days l)) (λ s. whole_falls (days - l) ls (omega arith))

-- past the end of the last all pass
pub whole_all : (days : ℕ) (ls : List ℕ) → days_of_first (length ls) ls ≤ days → whole_in days ls ≡ length ls
unfolding days_of_first whole_in
whole_all days [] h = refl
whole_all days (l ∷ ls) h = whole_long days l ls (omega arith) ∙ ap suc (whole_all (days - l) ls (omega arith))
