-- What private functions promise one another on the way. No public contract cites these.
use Rattle.std.specs.Prelude.{ℕ, zero, suc, ◌+◌, ◌*◌, ◌-◌, ◌≤◌, ◌<◌, ◌≡◌, ◌⊎◌, Bool, true, false, not, List, [], ◌∷◌, ◌++◌, length, get_or, take, drop, set, Result, Ok, Err}
use Rattle.rows.specs.Ordered.{lists, common, without}
use Rattle.rows.specs.Row.{Row, row_before}
use Rattle.rows.specs.Layout.{row_words, laid, put, rows_in, sound_set}
use Rattle.std.specs.declared.cmp.Ordering.{Ordering}
use Rattle.std.specs.declared.cmp.Ordering.TheVariants.{Less}
use Rattle.std.specs.Result.{is_ok}
use Rattle.row_words.specs.Values.{ordering_for}

-- ---- the two sets

-- the 642 words of a set in an area
abbrev pub room_at : ℕ → List ℕ → List ℕ
room_at at area = take 642 (drop at area)

abbrev pub lefts : List ℕ → List Row
lefts area = rows_in (room_at 0 area)

abbrev pub rights : List ℕ → List Row
rights area = rows_in (room_at 642 area)

-- two rooms that share no word
unfoldable pub Apart : ℕ → ℕ → Type 0
Apart a b = (a + 642 ≤ b) ⊎ (b + 642 ≤ a)

-- two sound sets, each in a room of its own
pub record Rooms (area : List ℕ) (one other : ℕ) : Type 0 where
  pub apart : Apart one other
  pub one_room : one + 642 ≤ length area
  pub other_room : other + 642 ≤ length area
  pub one_sound : sound_set (room_at one area) ≡ true
  pub other_sound : sound_set (room_at other area) ≡ true

-- ---- a row looked for

-- the first so many of the list come before the row
unfoldable pub Passed : List Row → Row → ℕ → Type 0
Passed ys x n = (n ≤ length ys) × ((k : ℕ) → k < n → row_before (get_or ys k []) x ≡ true)

abbrev pub reached : Result ℕ ℕ → ℕ
reached (Ok n) = n
reached (Err n) = n

-- a walk along the list to where the row stands or would stand
pub record Sought (ys : List Row) (x : Row) (s : Result ℕ ℕ) : Type 0 where
  pub passed : Passed ys x (reached s)
  pub found : is_ok s ≡ lists row_before ys x

-- ---- the last rows of two lists

-- the left's first `i` rows and the right's first `j` lie in the area, and the last of each is a row's words
pub record LastRows (area : List ℕ) (i j : ℕ) : Type 0 where
  pub some : 0 < j
  pub left_room : 2 + 5 * i ≤ length area
  pub right_room : 644 + 5 * j ≤ length area
  pub left_width : 0 < i → get_or area (2 + 5 * (i - 1)) 0 ≤ 4
  pub right_width : get_or area (644 + 5 * (j - 1)) 0 ≤ 4

-- where the last of `n` rows stands to another: before it, if there is none
unfoldable pub last_order_for : ℕ → Row → Row → Ordering
unfolding ordering_for
last_order_for zero x y = Less
last_order_for (suc n) x y = ordering_for row_before x y

-- ---- rows kept

-- both, or neither
abbrev pub alike : Bool → Bool → Bool
alike true b = b
alike false b = not b

-- the rows of the first list that the second has, or those that it has not
unfoldable pub picked : Bool → List Row → List Row → List Row
unfolding common without
picked true xs ys = common row_before xs ys
picked false xs ys = without row_before xs ys

-- the right's rows that the left does not list
abbrev pub rest : List ℕ → List Row
rest area = picked false (rights area) (lefts area)

-- ---- rows struck out

-- a row's words, its width turned into one that no row has if it is struck out
unfoldable pub struck_words : Bool → Row → List ℕ
unfolding row_words
struck_words true r = set (row_words r) 0 (length r + 8)
struck_words false r = row_words r

-- the rows of the second list one after the other, those struck out that the first has
unfoldable pub struck : List Row → List Row → List ℕ
unfolding struck_words
struck xs [] = []
struck xs (y ∷ ys) = struck_words (lists row_before xs y) y ++ struck xs ys

-- the right's rows with those struck out that the left lists
abbrev pub strike_out : List ℕ → List ℕ
strike_out area = put 644 (struck (lefts area) (rights area)) area

pub record Struck (area : List ℕ) : Type 0 where
  pub before : List ℕ
  pub rooms : Rooms before 0 642
  pub words : area ≡ strike_out before

-- from whichever area it was struck out, as many rows as are not struck out are in the left's place, and no stroke is left
pub record Taken (entry exit : List ℕ) (kept : ℕ) : Type 0 where
  pub words : (before : List ℕ) → Rooms before 0 642 → entry ≡ strike_out before → exit ≡ put 2 (laid (rest before)) before
  pub count : (before : List ℕ) → Rooms before 0 642 → entry ≡ strike_out before → kept ≡ length (rest before)
