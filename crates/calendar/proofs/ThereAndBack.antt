-- The converter's theorem. Each way goes by the year and the month that a day falls into.
use Prim.Native.Nat.{ℕ, suc, ◌+◌, ◌-◌, ◌*◌, ◌/◌, ◌%◌, ◌≤◌, ◌<◌}
use mathlib.Core.Path.{◌≡◌, refl, sym, ◌∙◌, ap}
use mathlib.Core.Bool.{Bool, true, false, ◌&&◌, ◌||◌}
use mathlib.Core.List.{List}
use native.Mathlib.Omega.{arith}
use lib.Dec.{ltb, eqb}
use borrow.Author.Tests.{ltb-true, ltb-false, lt-ltb, le-ltb, eq-eqb, ne_eqb}
use Rattle.refusals.specs.RefusalTable.{bad_date}
use Rattle.rows.specs.Ordered.{words_before}
use Rattle.rows.proofs.Case.{Case, is_true, is_false, split, never}
use Rattle.calendar.specs.Gregorian.{leap, months, days_of_first, whole_in, year_days, years_from}
use Rattle.calendar.specs.Converter.{date_of, Date, first_year, years, exists, minutes_of, date_at, converted, refused, minutes_reply, date_reply, earlier}
use Rattle.calendar.specs.ThereAndBack.{Theorem}
use Rattle.calendar.proofs.Lengths.{first_more, first_ascend, Falls, falls_whole, Whole, whole_falls, whole_all}
use Rattle.calendar.proofs.Existing.{months_of, Existing, exists_opens, existing_exists, year_more, all_years, count_years, count_months, day_in_year, day_of, in_month, in_year}

-- the replies by the test
pub minutes_found : (d : Date) → exists d ≡ true → minutes_reply d ≡ converted (minutes_of d)
unfolding minutes_reply
minutes_found d e = rw (e, minutes_reply)

pub minutes_refused : (d : Date) → exists d ≡ false → minutes_reply d ≡ refused bad_date
unfolding minutes_reply
minutes_refused d e = rw (e, minutes_reply)

pub date_found : (m : ℕ) → exists (date_at m) ≡ true → date_reply m ≡ converted (date_at m)
unfolding date_reply
date_found m e = rw (e, date_reply)

pub date_refused : (m : ℕ) → exists (date_at m) ≡ false → date_reply m ≡ refused bad_date
unfolding date_reply
date_refused m e = rw (e, date_reply)

-- ---- from a date to its minutes and back
date_same : (c d : Date) → c.year ≡ d.year → c.month ≡ d.month → c.day ≡ d.day → c.hour ≡ d.hour → c.minute ≡ d.minute → c ≡ d
date_same c d y mo a h mi = λ i. record { year = y i; month = mo i; day = a i; hour = h i; minute = mi i }

-- the date of a minute whose day falls into year y and, with so many days left of it, into month k
date_falls : (m y k left : ℕ) → Falls (m / 1440) y years → m / 1440 ≡ days_of_first y years + left → Falls left k (months (leap (first_year + y))) →
    date_at m ≡ date_of (first_year + y) (k + 1) (left - days_of_first k (months (leap (first_year + y))) + 1) (m % 1440 / 60) (m % 60)
unfolding date_at
date_falls m y k left f e g =
    let l : m / 1440 - days_of_first y years ≡ left = omega arith in
    rw (falls_whole (m / 1440) y years f, l, falls_whole left k (months (leap (first_year + y))) g)

pub date_back : (d : Date) → Existing d → date_at (minutes_of d) ≡ d
unfolding minutes_of
date_back d x =
    let e : minutes_of d / 1440 ≡ day_of d = omega arith in
    let y : first_year + (d.year - first_year) ≡ d.year = omega arith in
    date_falls (minutes_of d) (d.year - first_year) (d.month - 1) (day_in_year d) (rw e (in_year d x)) (omega arith) (rw y (in_month d x))
    ∙ date_same _ d y (omega arith) (rw y (omega arith)) (omega arith) (omega arith)

-- ---- from minutes to their date and back
abbrev pub end : ℕ
end = 52596000

module _ (m : ℕ) where
  abbrev passed : ℕ
  passed = whole_in (m / 1440) years

  abbrev left : ℕ
  left = m / 1440 - days_of_first passed years

  abbrev lengths : List ℕ
  lengths = months (leap (first_year + passed))

  pub whole_years : m < end → Whole (m / 1440) years
  whole_years h = whole_falls (m / 1440) years (rw (count_years, all_years) (omega arith))

  whole_months : m < end → Whole left lengths
  whole_months h =
      let w = whole_years h in
      whole_falls left lengths (rw (count_months (leap (first_year + passed))) (omega (arith, w.falls.from, w.falls.until, year_more passed (omega (arith, w.among, count_years)))))

  pub date_exists : m < end → Existing (date_at m)
  unfolding date_at
  date_exists h =
      let w = whole_years h in
      let v = whole_months h in
      let n = whole_in left lengths in
      let e : n + 1 - 1 ≡ n = omega arith in
      record {
        from_first = omega arith;
        to_last = omega (arith, w.among, count_years);
        from_january = omega arith;
        to_december = omega (arith, v.among, count_months (leap (first_year + passed)));
        from_one = omega arith;
        to_length = rw e (omega (arith, v.falls.from, v.falls.until, first_more n lengths));
        under_24 = omega arith;
        under_60 = omega arith;
      }

  pub minutes_back : m < end → minutes_of (date_at m) ≡ m
  unfolding minutes_of date_at
  minutes_back h =
      let w = whole_years h in
      let v = whole_months h in
      let n = whole_in left lengths in
      let e : first_year + passed - first_year ≡ passed = omega arith in
      let f : n + 1 - 1 ≡ n = omega arith in
      rw (e, f) (omega (arith, w.falls.from, v.falls.from))

  all_passed : end ≤ m → passed ≡ 100
  all_passed h = whole_all (m / 1440) years (rw (count_years, all_years) (omega arith)) ∙ count_years

  pub date_past : end ≤ m → exists (date_at m) ≡ false
  unfolding exists date_at
  date_past h = rw (all_passed h)

  pub exists_below : exists (date_at m) ≡ true → m < end
  exists_below e = go (split (ltb m end))
    where
      go : Case (ltb m end) → m < end
      go (is_true t) = ltb-true m end t
      go (is_false t) = never e (date_past (ltb-false m end t))

pub minutes_few : (d : Date) → exists d ≡ true → minutes_of d < end
minutes_few d e = exists_below (minutes_of d) (ap exists (date_back d (exists_opens d e)) ∙ e)

-- ---- minutes ascend with dates

-- a number decides, and where it is the same the rest
step_decides : (a b m n : ℕ) (rest : Bool) → (a < b → m < n) → (b < a → n < m) → (a ≡ b → rest ≡ ltb m n) → (ltb a b || (eqb a b && rest)) ≡ ltb m n
step_decides a b m n rest less more same = go (split (ltb a b)) (split (ltb b a))
  where
    go : Case (ltb a b) → Case (ltb b a) → (ltb a b || (eqb a b && rest)) ≡ ltb m n
    go (is_true t) u = let h = less (ltb-true a b t) in rw (t, lt-ltb m n h)
    go (is_false t) (is_true u) =
        let k = ltb-true b a u in
        let h = more k in
        rw (t, ne_eqb a b (λ e. omega arith), le-ltb m n (omega arith))
    go (is_false t) (is_false u) =
        let k : a ≡ b = omega (arith, ltb-false a b t, ltb-false b a u) in
        rw (t, eq-eqb a b k) (same k)

module _ (c d : Date) (x : Existing c) (y : Existing d) where
  less_by_day : day_of c < day_of d → minutes_of c < minutes_of d
  unfolding minutes_of
  less_by_day h = omega (arith, x.under_24, x.under_60)

  less_by_year : c.year < d.year → minutes_of c < minutes_of d
  less_by_year h = less_by_day (omega (arith, (in_year c x).until, (in_year d y).from, first_ascend (suc (c.year - first_year)) (d.year - first_year) years (omega arith)))

  less_by_month : c.year ≡ d.year → c.month < d.month → minutes_of c < minutes_of d
  less_by_month e h =
      let p = ap (λ n. days_of_first (n - first_year) years) e in
      let q = ap (λ n. days_of_first (d.month - 1) (months (leap n))) e in
      less_by_day (omega (arith, (in_month c x).until, first_ascend (suc (c.month - 1)) (d.month - 1) (months_of c) (omega arith)))

  module _ (e : c.year ≡ d.year) (f : c.month ≡ d.month) where
    day_starts : days_of_first (c.year - first_year) years + days_of_first (c.month - 1) (months_of c) ≡ days_of_first (d.year - first_year) years + days_of_first (d.month - 1) (months_of d)
    day_starts = cc

    less_in_month : c.day < d.day → minutes_of c < minutes_of d
    less_in_month h = less_by_day (omega (arith, day_starts))

    less_in_day : c.day ≡ d.day → c.hour * 60 + c.minute < d.hour * 60 + d.minute → minutes_of c < minutes_of d
    unfolding minutes_of
    less_in_day g h = omega (arith, day_starts)

pub ascend : (c d : Date) → exists c ≡ true → exists d ≡ true → earlier c d ≡ ltb (minutes_of c) (minutes_of d)
unfolding earlier words_before
ascend c d s t =
    let x = exists_opens c s in
    let y = exists_opens d t in
    let m = minutes_of c in
    let n = minutes_of d in
    step_decides c.year d.year m n _ (less_by_year c d x y) (less_by_year d c y x) (λ e.
    step_decides c.month d.month m n _ (less_by_month c d x y e) (less_by_month d c y x (sym e)) (λ f.
    step_decides c.day d.day m n _ (less_in_month c d x y e f) (less_in_month d c y x (sym e) (sym f)) (λ g.
    step_decides c.hour d.hour m n _
    (λ h. less_in_day c d x y e f g (omega (arith, x.under_60))) (λ h. less_in_day d c y x (sym e) (sym f) (sym g) (omega (arith, y.under_60))) (λ k.
    step_decides c.minute d.minute m n false
    (λ h. less_in_day c d x y e f g (omega arith)) (λ h. less_in_day d c y x (sym e) (sym f) (sym g) (omega arith)) (λ l.
    sym (le-ltb m n (omega (arith, ap minutes_of (date_same c d e f g k l)))))))))

-- ---- each call undoes the other
module _ (d : Date) (m : ℕ) (r : minutes_reply d ≡ converted m) where
  minutes_of_lem : (exists d ≡ true) × (minutes_of d ≡ m)
  minutes_of_lem = go (split (exists d))
    where
      go : Case (exists d) → (exists d ≡ true) × (minutes_of d ≡ m)
      go (is_true e) = (e, let q : converted (minutes_of d) ≡ converted m = sym (minutes_found d e) ∙ r in cc)
      go (is_false e) = let q : refused bad_date ≡ converted m = sym (minutes_refused d e) ∙ r in let z : ◌≡◌ {A = ℕ} 0 1 = cc in absurd (omega arith)

  pub date_undoes_minutes : date_reply m ≡ converted d
  date_undoes_minutes =
      let b = date_back d (exists_opens d minutes_of_lem.0) in
      let a : date_at m ≡ d = sym (ap date_at minutes_of_lem.1) ∙ b in
      date_found m (ap exists a ∙ minutes_of_lem.0) ∙ ap converted a

module _ (m : ℕ) (d : Date) (r : date_reply m ≡ converted d) where
  date_of_lem : (exists d ≡ true) × (date_at m ≡ d)
  date_of_lem = go (split (exists (date_at m)))
    where
      go : Case (exists (date_at m)) → (exists d ≡ true) × (date_at m ≡ d)
      go (is_true e) = let q : converted (date_at m) ≡ converted d = sym (date_found m e) ∙ r in let s : date_at m ≡ d = cc in (sym (ap exists s) ∙ e, s)
      go (is_false e) = let q : refused bad_date ≡ converted d = sym (date_refused m e) ∙ r in let z : ◌≡◌ {A = ℕ} 0 1 = cc in absurd (omega arith)

  pub minutes_undoes_date : minutes_reply d ≡ converted m
  minutes_undoes_date =
      let f = exists_below m (ap exists date_of_lem.1 ∙ date_of_lem.0) in
      minutes_found d date_of_lem.0 ∙ ap converted (sym (ap minutes_of date_of_lem.1) ∙ minutes_back m f)

pub theorem : Theorem
unfolding leap months days_of_first whole_in year_days years_from years exists minutes_of date_at minutes_reply date_reply
theorem = record {
  minutes_found = minutes_found;
  minutes_refused = minutes_refused;
  minutes_few = minutes_few;
  date_found = λ m h. let e = existing_exists (date_at m) (date_exists m h) in (date_at m, e, date_found m e);
  date_refused = λ m h. date_refused m (date_past m h);
  date_undoes_minutes = date_undoes_minutes;
  minutes_undoes_date = minutes_undoes_date;
  ascend = ascend;
  one_to_one = λ c d s t e. sym (date_back c (exists_opens c s)) ∙ (ap date_at e ∙ date_back d (exists_opens d t));
  first_minute = refl;
  last_minute = refl;
  leap_1900 = refl;
  leap_2000 = refl;
  leap_2001 = refl;
  leap_2096 = refl;
  leap_2100 = refl;
  february_2000 = refl;
  february_2001 = refl;
  february_2096 = refl;
}
