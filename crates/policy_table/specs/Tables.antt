-- What the code's reader of a policy's table answers.
use Rattle.std.specs.Prelude.{ℕ, List, Result, Ok, Err}
use Rattle.refusals.specs.declared.Refusal.{Refusal}
use Rattle.refusals.specs.Numbers.{number}
use Rattle.policy.specs.Table as Meant
use Rattle.policy_table.specs.Entries.{entries_from}
use Rattle.policy_table.specs.declared.reading.Table.{Table}

abbrev pub table_read : List ℕ → Result Table Refusal → Meant.Table
table_read policy (Ok t) = Meant.table (entries_from t.count policy 2)
table_read policy (Err r) = Meant.refused (number r)
