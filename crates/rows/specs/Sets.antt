-- Document 01, "Rows, sets, worlds": "A set is finite, or the complement of a finite set among all rows."
use Rattle.std.specs.Prelude.{ℕ, ◌≡◌, Bool, true, false, not, List}
use Rattle.rows.specs.Word.{All}
use Rattle.rows.specs.Ordered.{tied, lists, join, common, without, ascending}
use Rattle.rows.specs.Row.{Row, IsRow, row_before}

pub data RowSet : Type 0 where
  only : List Row → RowSet
  all_but : List Row → RowSet

-- "It 'lists' its rows, or its missing rows if it is a complement."
unfoldable pub listing : RowSet → List Row
listing (only xs) = xs
listing (all_but xs) = xs

-- what a set may list: rows alone, "strictly ascending"
pub record Proper (xs : List Row) : Type 0 where
  pub order : ascending row_before xs ≡ true
  pub rows : All IsRow xs

-- "No set lists over 128 rows."
abbrev pub most_rows : ℕ
most_rows = 128

-- "A row is in a finite answer if it is listed, in a complement if it is not, and otherwise missing from it."
unfoldable pub has : RowSet → Row → Bool
unfolding lists tied row_before
has (only xs) r = lists row_before xs r
has (all_but xs) r = not (lists row_before xs r)

-- "Union and difference work for complements too: complement A minus complement B is B minus A."
unfoldable pub unite : RowSet → RowSet → RowSet
unfolding join common without row_before
unite (only xs) (only ys) = only (join row_before xs ys)
unite (only xs) (all_but ys) = all_but (without row_before ys xs)
unite (all_but xs) (only ys) = all_but (without row_before xs ys)
unite (all_but xs) (all_but ys) = all_but (common row_before xs ys)

unfoldable pub subtract : RowSet → RowSet → RowSet
unfolding join common without row_before
subtract (only xs) (only ys) = only (without row_before xs ys)
subtract (only xs) (all_but ys) = only (common row_before xs ys)
subtract (all_but xs) (only ys) = all_but (join row_before ys xs)
subtract (all_but xs) (all_but ys) = only (without row_before ys xs)

-- the value of a union or, with `minus`, of a difference
unfoldable pub combined : Bool → RowSet → RowSet → RowSet
unfolding unite subtract
combined true s t = subtract s t
combined false s t = unite s t
