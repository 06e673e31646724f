-- What holds of the converter's two replies together. Shown in proofs/ThereAndBack.antt.
use Rattle.std.specs.Prelude.{ℕ, ◌<◌, ◌≤◌, ◌≡◌, true, false, ltb}
use Rattle.refusals.specs.RefusalTable.{bad_date}
use Rattle.calendar.specs.Gregorian.{leap}
use Rattle.calendar.specs.Converter.{date_of, Date, converted, refused, exists, minutes_of, minutes_reply, date_reply, earlier}

pub record Theorem : Type 0 where
  -- exactly the existing dates are converted: each has its minutes, under 52,596,000, and every such number is some existing date's
  pub minutes_found : (d : Date) → exists d ≡ true → minutes_reply d ≡ converted (minutes_of d)
  pub minutes_refused : (d : Date) → exists d ≡ false → minutes_reply d ≡ refused bad_date
  pub minutes_few : (d : Date) → exists d ≡ true → minutes_of d < 52596000
  pub date_found : (m : ℕ) → m < 52596000 → (d : Date) × (exists d ≡ true) × (date_reply m ≡ converted d)
  pub date_refused : (m : ℕ) → 52596000 ≤ m → date_reply m ≡ refused bad_date
  -- each call undoes the other
  pub date_undoes_minutes : (d : Date) (m : ℕ) → minutes_reply d ≡ converted m → date_reply m ≡ converted d
  pub minutes_undoes_date : (m : ℕ) (d : Date) → date_reply m ≡ converted d → minutes_reply d ≡ converted m
  -- minutes ascend with dates: of two existing dates the earlier one has fewer minutes, and the one with fewer minutes is the earlier
  pub ascend : (c d : Date) → exists c ≡ true → exists d ≡ true → earlier c d ≡ ltb (minutes_of c) (minutes_of d)
  -- so no two existing dates have the same minutes
  pub one_to_one : (c d : Date) → exists c ≡ true → exists d ≡ true → minutes_of c ≡ minutes_of d → c ≡ d
  -- the first minute and the last
  pub first_minute : minutes_reply (date_of 2000 1 1 0 0) ≡ converted 0
  pub last_minute : minutes_reply (date_of 2099 12 31 23 59) ≡ converted 52595999
  -- the rule of leap years
  pub leap_1900 : leap 1900 ≡ false
  pub leap_2000 : leap 2000 ≡ true
  pub leap_2001 : leap 2001 ≡ false
  pub leap_2096 : leap 2096 ≡ true
  pub leap_2100 : leap 2100 ≡ false
  -- the day after 28 February
  pub february_2000 : minutes_reply (date_of 2000 2 29 0 0) ≡ converted 84960
  pub february_2001 : minutes_reply (date_of 2001 2 29 0 0) ≡ refused bad_date
  pub february_2096 : date_reply 50577899 ≡ converted (date_of 2096 2 29 12 59)
