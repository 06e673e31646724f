-- Sets in the area that is lent: which lies at its front, and what stays.
use Rattle.std.specs.Prelude.{ℕ, ◌≤◌, ◌<◌, ◌≡◌, List, get_or}
use Rattle.rows.specs.Layout.{set_room}
use Rattle.read_values.specs.Answers.{Filled}

-- the set of a comprehension while its rows are gathered lies at the front: it is finite
pub record Gathering (area : List ℕ) : Type 0 where
  pub filled : Filled area
  pub finite : get_or area 0 0 ≡ 0

-- the words behind the first set, up to `free`, are as they were
pub record Kept (free : ℕ) (before after : List ℕ) : Type 0 where
  pub stays : (k : ℕ) → set_room ≤ k → k < free → get_or after k 0 ≡ get_or before k 0
