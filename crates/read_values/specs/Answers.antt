-- The set that a reader leaves at the front of the area.
use Rattle.std.specs.Prelude.{ℕ, ◌≤◌, ◌≡◌, true, List, [], length, get_or}
use Rattle.rows.specs.Layout.{set_room, rows_in, sound_set}

-- a set lies at the area's front, with room for any other
pub record Filled (area : List ℕ) : Type 0 where
  pub long : set_room ≤ length area
  pub sound : sound_set area ≡ true

-- a set with this form and no rows
pub record Empty (form : ℕ) (area : List ℕ) : Type 0 where
  pub filled : Filled area
  pub is : get_or area 0 0 ≡ form
  pub none : rows_in area ≡ []
