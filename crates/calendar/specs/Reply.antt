-- What the code answers with each reply.
use Rattle.std.specs.Prelude.{ℕ, Result, Ok, Err}
use Rattle.refusals.specs.Numbers.{number}
use Rattle.refusals.specs.declared.Refusal.{Refusal}
use Rattle.calendar.specs.Converter as spec
use Rattle.calendar.specs.declared.Date.{Date}
use Rattle.calendar.specs.declared.Minute.{Minute}

-- the code's types, case by case
abbrev pub date_is : Date → spec.Date
date_is d = spec.date_of d.year d.month d.day d.hour d.minute

unfoldable pub minute_is : Result Minute Refusal → spec.Reply ℕ
minute_is (Ok m) = spec.converted m.0
minute_is (Err r) = spec.refused (number r)

unfoldable pub dated_is : Result Date Refusal → spec.Reply spec.Date
dated_is (Ok d) = spec.converted (date_is d)
dated_is (Err r) = spec.refused (number r)
