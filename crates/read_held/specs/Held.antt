-- A name's records, and the rows of those that hold at a minute: what the code asks and finds.
use Rattle.std.specs.Prelude.{ℕ, ◌<◌, ◌≤◌, ◌≡◌, Bool, true, false, List, [], map, length, get_or, Option, None, Some}
use Rattle.refusals.specs.declared.Refusal.{Refusal}
use Rattle.refusals.specs.declared.Refusal.TheVariants.{TooManyRows}
use Rattle.rows.specs.Ordered.{keep, lists, join}
use Rattle.rows.specs.Row.{Row, row_before}
use Rattle.rows.specs.Sets.{most_rows}
use Rattle.rows.specs.Layout.{formed, written}
use Rattle.row_words.specs.Values.{row_is}
use Rattle.row_words.specs.declared.row.Row as HeldRow
use Rattle.certificates.specs.Certificate.{record_row, sound_record, holds_at}

-- the row of record i
abbrev pub row_at : List (List ℕ) → ℕ → Row
row_at rs i = record_row (get_or rs i [])

-- records of one name: each is sound, and no row comes before an earlier one
pub record Records (rs : List (List ℕ)) : Type 0 where
  pub sound : (i : ℕ) → i < length rs → sound_record (get_or rs i []) ≡ true
  pub climb : (i j : ℕ) → i < j → j < length rs → row_before (row_at rs j) (row_at rs i) ≡ false

-- the rows of those that hold at the minute, in order, each once
unfoldable pub rows_held : ℕ → List (List ℕ) → List Row
unfolding keep join holds_at
rows_held minute rs = join row_before (map (λ w. record_row w) (keep (holds_at minute) rs)) []

-- a set lists no more than so many rows, and these are more
abbrev pub TooMany : List Row → Refusal → Type 0
TooMany rows e = (e ≡ TooManyRows) × (most_rows < length rows)

-- the set in the area lists the rows that hold
pub record Copied (minute : ℕ) (rs : List (List ℕ)) (before area : List ℕ) : Type 0 where
  pub words : area ≡ written (formed (get_or before 0 0) (rows_held minute rs)) before
  pub few : length (rows_held minute rs) ≤ most_rows

-- the row in hand is the one of these atoms, if they are no more than a row has
abbrev pub IsRowOf : List ℕ → Option HeldRow.Row → Type 0
IsRowOf atoms None = 4 < length atoms
IsRowOf atoms (Some row) = (row.width ≤ 4) × (row_is row ≡ atoms)

-- a record of the row, if there is one
abbrev pub SayRecord : List (List ℕ) → Row → Option ℕ → Type 0
SayRecord rs x None = (l : ℕ) → l < length rs → row_at rs l ≡ x → ⊥
SayRecord rs x (Some i) = (i < length rs) × (row_at rs i ≡ x)

-- whether one of the records from `from` up to, but without, `end` holds that have record i's row
pub record SayBeside (minute : ℕ) (rs : List (List ℕ)) (i from end : ℕ) (r : Bool) : Type 0 where
  pub some : r ≡ true → (l : ℕ) × (l < length rs) × (row_at rs l ≡ row_at rs i) × (holds_at minute (get_or rs l []) ≡ true)
  pub none : r ≡ false → (l : ℕ) → from ≤ l → l < end → row_at rs l ≡ row_at rs i → holds_at minute (get_or rs l []) ≡ false

-- whether the row is among those that hold
pub record SayFound (minute : ℕ) (rs : List (List ℕ)) (x : Row) (r : Bool) : Type 0 where
  pub means : lists row_before (rows_held minute rs) x ≡ r
