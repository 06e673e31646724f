-- Records kept in words: a count, then records of `w` words each, strictly ascending. Over any width, test and order: certificates are kept so in their store.
use Rattle.std.specs.Prelude.{ℕ, zero, suc, ◌+◌, ◌-◌, ◌*◌, Bool, true, false, not, ◌&&◌, List, ◌∷◌, ◌++◌, leb, ltb, length, get_or, take, drop, set}
use Rattle.rows.specs.Ordered.{ascending, leading, words_before}
use Rattle.rows.specs.Layout.{flat, pieces, every, put}

abbrev pub count_of : List ℕ → ℕ
count_of area = get_or area 0 0

-- the records, as many as the count says
unfoldable pub records_in : ℕ → List ℕ → List (List ℕ)
unfolding pieces
records_in w area = pieces w (count_of area) (drop 1 area)

-- unsound if there is no room for `most` records, the count is over that, a record fails the test or the order is broken
unfoldable pub sound_records : ℕ → ℕ → (List ℕ → Bool) → (List ℕ → List ℕ → Bool) → List ℕ → Bool
unfolding every records_in ascending
sound_records w most sound before area = elim (leb (1 + w * most) (length area) && leb (count_of area) most) [
  | true ↦ every sound (records_in w area) && ascending before (records_in w area)
  | false ↦ false
]

-- the area with these records; words past the last of them stay
unfoldable pub with_records : ℕ → List (List ℕ) → List ℕ → List ℕ
unfolding flat
with_records w rs area = length rs ∷ (flat rs ++ drop (1 + w * length rs) area)

-- ---- what code does with them, in terms of the words

-- record i
unfoldable pub record_at : ℕ → List ℕ → ℕ → List ℕ
record_at w area i = take w (drop (1 + w * i) area)

-- it comes behind the one before, if there is one
unfoldable pub behind_at : ℕ → (List ℕ → List ℕ → Bool) → List ℕ → ℕ → Bool
behind_at w before area zero = true
behind_at w before area (suc i) = before (record_at w area i) (record_at w area (suc i))

-- how many come before r: its place
unfoldable pub place_in : (List ℕ → List ℕ → Bool) → List (List ℕ) → List ℕ → ℕ
place_in before rs r = leading (λ x. before x r) rs

-- the record at the place, if there is one, is not past r
unfoldable pub held_at : ℕ → (List ℕ → List ℕ → Bool) → List ℕ → ℕ → List ℕ → Bool
held_at w before area place r = ltb place (count_of area) && not (before r (record_at w area place))

-- the area with r put in at a place, the records from there on moved up behind it, and the count raised
unfoldable pub put_in : ℕ → List ℕ → ℕ → List ℕ → List ℕ
put_in w area place r =
    let at : ℕ = 1 + w * place in
    let later : List ℕ = take (w * (count_of area - place)) (drop at area) in
    set (put at (r ++ later) area) 0 (count_of area + 1)

-- does a record begin with words that come before these, word by word? Where it begins with these, the answer is `also`.
unfoldable pub begins_before : Bool → List ℕ → List ℕ → Bool
begins_before false words r = words_before (take (length words) r) words
begins_before true words r = not (words_before words (take (length words) r))
