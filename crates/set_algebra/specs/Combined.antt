-- What union and difference are lent, and what they leave there.
use Rattle.std.specs.Prelude.{ℕ, ◌*◌, ◌≡◌, Bool, true, false, List, leb, length, drop, Result, Ok, Err}
use Rattle.refusals.specs.declared.Refusal.{Refusal}
use Rattle.refusals.specs.declared.Refusal.TheVariants.{TooManyRows}
use Rattle.set_algebra.specs.declared.Operation.{Operation}
use Rattle.set_algebra.specs.declared.Operation.TheVariants.{Union, Difference}
use Rattle.rows.specs.Sets.{RowSet, listing, most_rows}
use Rattle.rows.specs.Layout.{set_room, sound_set, written}

-- Document 02, N3: "lent the two parts' sets and that place alone". The left set's room is the value's place, the right set's room lies behind it.
pub record TwoSets (area : List ℕ) : Type 0 where
  pub alone : length area ≡ 2 * set_room
  pub left : sound_set area ≡ true
  pub right : sound_set (drop set_room area) ≡ true

-- a value in its place, if it fits ("13: a value lists over 128 rows"). All words past its last row stay, the right set's too.
unfoldable pub left_by : Bool → RowSet → List ℕ → List ℕ
left_by true value area = written value area
left_by false value area = area

pub record Combined (value : RowSet) (before after : List ℕ) (fits : Bool) : Type 0 where
  pub answer : fits ≡ leb (length (listing value)) most_rows
  pub words : after ≡ left_by fits value before

abbrev pub is_difference : Operation → Bool
is_difference Union = false
is_difference Difference = true

-- "13: a value lists over 128 rows"
unfoldable pub room_for : Bool → Result (Unit {0}) Refusal
room_for true = Ok tt
room_for false = Err TooManyRows

pub record Combines (value : RowSet) (before after : List ℕ) (result : Result (Unit {0}) Refusal) : Type 0 where
  pub answer : result ≡ room_for (leb (length (listing value)) most_rows)
  pub words : after ≡ left_by (leb (length (listing value)) most_rows) value before
