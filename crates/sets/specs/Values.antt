-- What becomes of a row that is to be listed.
use Rattle.std.specs.Prelude.{ℕ, true, false, List, ltb, length, get_or, Bool, Result, Ok, Err}
use Rattle.refusals.specs.declared.Refusal.{Refusal}
use Rattle.refusals.specs.declared.Refusal.TheVariants.{TooManyRows}
use Rattle.rows.specs.Ordered.{lists, insert}
use Rattle.rows.specs.Row.{Row, row_before}
use Rattle.rows.specs.Sets.{RowSet, listing, most_rows}
use Rattle.rows.specs.Layout.{rows_in, formed, written}

-- "repeats count once", and no set lists over 128 rows: is the row new?
unfoldable pub insert_gives : RowSet → Row → Result Bool Refusal
insert_gives s r = elim (lists row_before (listing s) r) [ true ↦ Ok false | false ↦ elim (ltb (length (listing s)) most_rows) [ true ↦ Ok true | false ↦ Err TooManyRows ] ]

-- the words afterwards
unfoldable pub insert_leaves : Result Bool Refusal → List ℕ → Row → List ℕ
insert_leaves (Ok new) ws r = written (formed (get_or ws 0 0) (insert row_before r (rows_in ws))) ws
insert_leaves (Err refusal) ws r = ws
