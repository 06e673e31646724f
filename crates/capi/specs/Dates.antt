-- What converting dates and minutes hands out: the number returned and each out-parameter, for every reply.
use Rattle.std.specs.Prelude.{ℕ}
use Rattle.calendar.specs.Converter.{Date, date_of, Reply, converted, refused}
use Rattle.capi.specs.Replies.{no_refusal}

pub record HandedMinutes : Type 0 where
  pub number : ℕ
  pub minutes : ℕ

-- of a date that is refused the minutes are 0
unfoldable pub hand_minutes : Reply ℕ → HandedMinutes
hand_minutes (converted m) = record { number = no_refusal; minutes = m }
hand_minutes (refused n) = record { number = n; minutes = 0 }

pub record HandedDate : Type 0 where
  pub number : ℕ
  pub date : Date

-- of a minute that is refused all five are 0, which no date has
unfoldable pub hand_date : Reply Date → HandedDate
hand_date (converted d) = record { number = no_refusal; date = d }
hand_date (refused n) = record { number = n; date = date_of 0 0 0 0 0 }
