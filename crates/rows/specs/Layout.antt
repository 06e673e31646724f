-- Document 01, "Rows, sets, worlds": a row's five words, and a set's layout.
use Rattle.std.specs.Prelude.{ℕ, zero, suc, ◌+◌, ◌*◌, ◌-◌, Bool, true, false, ◌&&◌, List, [], ◌∷◌, ◌++◌, map, leb, eqb, length, get_or, take, drop, replicate}
use Rattle.rows.specs.Ordered.{ascending, words_before}
use Rattle.rows.specs.Row.{Row, row_before}
use Rattle.rows.specs.Sets.{RowSet, only, all_but, listing, most_rows}

-- "five words a row (width, four atoms, unused ones 0)"
unfoldable pub row_words : Row → List ℕ
row_words r = length r ∷ (r ++ replicate (4 - length r) 0)

unfoldable pub row_in : List ℕ → Row
row_in ws = take (get_or ws 0 0) (drop 1 ws)

-- the five words at a place
abbrev pub five_at : List ℕ → ℕ → List ℕ
five_at ws at = take 5 (drop at ws)

unfoldable pub zeros : List ℕ → Bool
zeros [] = true
zeros (w ∷ ws) = eqb w 0 && zeros ws

-- a width of 1 to 4, and the unused atoms 0
unfoldable pub sound_row : List ℕ → Bool
unfolding zeros
sound_row ws = leb 1 (get_or ws 0 0) && (leb (get_or ws 0 0) 4 && zeros (drop (get_or ws 0 0) (drop 1 ws)))

-- lists one after the other
unfoldable pub flat : List (List ℕ) → List ℕ
flat [] = []
flat (x ∷ xs) = x ++ flat xs

-- so many pieces, each of `size` words
unfoldable pub pieces : ℕ → ℕ → List ℕ → List (List ℕ)
pieces size zero ws = []
pieces size (suc n) ws = take size ws ∷ pieces size n (drop size ws)

-- each passes the test
unfoldable pub every : {A : Type 0} → (A → Bool) → List A → Bool
every f [] = true
every f (x ∷ xs) = f x && every f xs

-- "A set's layout: form (0 finite, 1 complement), count, then five words a row .., strictly ascending."
unfoldable pub form_word : RowSet → ℕ
form_word (only xs) = 0
form_word (all_but xs) = 1

-- rows one after the other, five words each
abbrev pub laid : List Row → List ℕ
laid xs = flat (map row_words xs)

unfoldable pub set_words : RowSet → List ℕ
unfolding form_word listing flat row_words
set_words s = form_word s ∷ length (listing s) ∷ laid (listing s)

-- words written over those that stand at a place
unfoldable pub put : ℕ → List ℕ → List ℕ → List ℕ
put at ws area = take at area ++ (ws ++ drop (at + length ws) area)

-- "so a set takes 642 words"
abbrev pub set_room : ℕ
set_room = 642

-- the set written to the front of an area, whose other words stay
unfoldable pub written : RowSet → List ℕ → List ℕ
unfolding set_words
written s area = set_words s ++ drop (length (set_words s)) area

-- the rows that the words of a set list, and the set that its form word makes of them
unfoldable pub rows_in : List ℕ → List Row
unfolding pieces row_in
rows_in ws = map row_in (pieces 5 (get_or ws 1 0) (drop 2 ws))

unfoldable pub formed : ℕ → List Row → RowSet
formed zero xs = only xs
formed (suc n) xs = all_but xs

unfoldable pub set_in : List ℕ → RowSet
unfolding rows_in formed
set_in ws = formed (get_or ws 0 0) (rows_in ws)

-- "A set handed in is sound if form, count, widths, zeros and order keep this and no row is cut off; words past its last row are not looked at."
unfoldable pub sound_set : List ℕ → Bool
unfolding every pieces sound_row rows_in ascending words_before row_before
sound_set ws = elim (leb 2 (length ws) && (leb (get_or ws 0 0) 1 && (leb (get_or ws 1 0) most_rows && leb (2 + 5 * get_or ws 1 0) (length ws)))) [
  | true ↦ every sound_row (pieces 5 (get_or ws 1 0) (drop 2 ws)) && ascending row_before (rows_in ws)
  | false ↦ false
]
