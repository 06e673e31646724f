-- Rows that stand in words at equal distances, and the place of a row among them.
use Rattle.std.specs.Prelude.{ℕ, zero, suc, ◌+◌, ◌*◌, ◌≤◌, ◌<◌, ◌≡◌, true, false, List, [], ◌∷◌, ◌++◌, length, get_or, take, drop, Result, Ok, Err}
use Rattle.rows.specs.Ordered.{ascending, lists, insert}
use Rattle.rows.specs.Row.{Row, row_before}
use Rattle.rows.specs.Layout.{row_in, five_at}

-- so many rows: the first one's five words stand at `start`, the next one's `step` words on
unfoldable pub rows_at : List ℕ → ℕ → ℕ → ℕ → List Row
unfolding row_in
rows_at ws start step zero = []
rows_at ws start step (suc n) = row_in (five_at ws start) ∷ rows_at ws (start + step) step n

-- none is cut off, none is wider than a row, and they ascend
pub record Listed (ws : List ℕ) (start step count : ℕ) : Type 0 where
  pub inside : (i : ℕ) → i < count → start + step * i + 5 ≤ length ws
  pub narrow : (i : ℕ) → i < count → get_or ws (start + step * i) 0 ≤ 4
  pub ascends : ascending row_before (rows_at ws start step count) ≡ true

-- where a row stands in an ascending list, or would stand
unfoldable pub Finds : List Row → Row → Result ℕ ℕ → Type 0
Finds xs r (Ok i) = (lists row_before xs r ≡ true) × (i < length xs) × (get_or xs i [] ≡ r)
Finds xs r (Err i) = (lists row_before xs r ≡ false) × (i ≤ length xs) × (insert row_before r xs ≡ take i xs ++ (r ∷ drop i xs))
