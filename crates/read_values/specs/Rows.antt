-- The row that terms come to.
use Rattle.std.specs.Prelude.{ℕ, ◌≤◌, ◌≡◌, List, get_or}
use Rattle.row_words.specs.Values as held
use Rattle.row_words.specs.declared.row.Row as HeldRow
use Rattle.policy.specs.Syntax.{Term}
use Rattle.meaning.specs.Values.{Values, row_of}
use Rattle.policy_places.specs.Places.{StandsRow}

-- atom j of the row that the terms written there come to; 0 behind the last
pub record SayAtom (ws : List ℕ) (at : ℕ) (vs : Values) (j r : ℕ) : Type 0 where
  pub means : (n : ℕ) (ts : List Term) → StandsRow n ws at ts → get_or (row_of vs ts) j 0 ≡ r

-- the row, in the code's form
pub record SayRow (ws : List ℕ) (at : ℕ) (vs : Values) (r : HeldRow.Row) : Type 0 where
  pub some : 1 ≤ r.width
  pub few : r.width ≤ 4
  pub means : (n : ℕ) (ts : List Term) → StandsRow n ws at ts → held.row_is r ≡ row_of vs ts
