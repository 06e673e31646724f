-- Document 01, "Rows, sets, worlds": atoms and rows. The order of rows is document 02's, N1.
use Rattle.std.specs.Prelude.{ℕ, ◌≤◌, Bool, List, leb, length}
use Rattle.rows.specs.Word.{Words}
use Rattle.rows.specs.Ordered.{words_before}

-- "An atom is a word: below 2,147,483,648 a number, from there up a key."
abbrev pub first_key : ℕ
first_key = 2147483648

abbrev pub is_key : ℕ → Bool
is_key a = leb first_key a

-- A row is the list of its atoms; its width is the list's length.
abbrev pub Row : Type 0
Row = List ℕ

-- "A row has a width of 1 to 4 and that many atoms."
pub record IsRow (r : Row) : Type 0 where
  pub some : 1 ≤ length r
  pub few : length r ≤ 4
  pub words : Words r

-- "Row order becomes atom by atom first. If one row ends where the other goes on, the shorter comes first." Atoms are compared "unsigned", as document 01
-- has it: a key comes after every number.
unfoldable pub row_before : Row → Row → Bool
unfolding words_before
row_before = words_before
