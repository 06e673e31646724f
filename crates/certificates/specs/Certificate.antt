-- Document 01, "Store and filing", with document 02's terms of validity (N4): what a certificate is, in words and in meaning.
use Rattle.std.specs.Prelude.{ℕ, Bool, ◌&&◌, List, [], ◌∷◌, map, eqb, leb, ltb, length, get_or, take}
use Rattle.rows.specs.Ordered.{keep, words_before, first_by}
use Rattle.rows.specs.Row.{Row, is_key, row_before}
use Rattle.rows.specs.Name.{Polarity, is_name, is_polarity, polarity_of}
use Rattle.rows.specs.Layout.{row_in, five_at, sound_row}

-- what a certificate says: "With + it says that the row is in the key's list, with − that it is not."
pub record Certificate : Type 0 where
  pub key : ℕ
  pub name : ℕ
  pub polarity : Polarity
  pub row : Row

-- ---- its words

-- "eight words a certificate: key, name, polarity, width, four atoms"; N4: "A certificate record gains two words after the atoms, first minute and end minute"
abbrev pub record_words : ℕ
record_words = 10

-- key, name and polarity, which are what "one name" means
abbrev pub record_name : List ℕ → List ℕ
record_name w = take 3 w

-- the row that follows them
abbrev pub record_row : List ℕ → Row
record_row w = row_in (five_at w 3)

-- "first minute and end minute, counted from 2000-01-01 00:00 UTC"
abbrev pub first_minute : List ℕ → ℕ
first_minute w = get_or w 8 0

abbrev pub end_minute : List ℕ → ℕ
end_minute w = get_or w 9 0

-- its term of validity
abbrev pub record_term : List ℕ → List ℕ
record_term w = first_minute w ∷ end_minute w ∷ []

-- "A certificate is unsound if its key is a number, its name is over 65,535, its polarity over 1, its width not 1 to 4, or an unused atom not 0";
-- "refusal 9 asks for ten" words
unfoldable pub sound_certificate : List ℕ → Bool
unfolding sound_row
sound_certificate w = eqb (length w) record_words && (is_key (get_or w 0 0) && (is_name (get_or w 1 0) && (is_polarity (get_or w 2 0) && sound_row (five_at w 3))))

-- 17: "an end not after its first minute"
unfoldable pub sound_term : List ℕ → Bool
sound_term w = ltb (first_minute w) (end_minute w)

-- a record as a store holds it: "A held record whose end is not after its first minute makes the store unsound."
unfoldable pub sound_record : List ℕ → Bool
unfolding sound_certificate sound_term
sound_record w = sound_certificate w && sound_term w

-- Document 02, N1: "records within one name follow this order", that of rows; N4: "Records of one row ascend by first, then by end minute." So records are in
-- order by key, name and polarity, then by the row, then by the term. Nothing else is in a sound record: there the last test finds no difference.
unfoldable pub record_before : List ℕ → List ℕ → Bool
unfolding first_by words_before row_before row_in
record_before = first_by record_name words_before (first_by record_row row_before (first_by record_term words_before words_before))

-- ---- its meaning

-- what a record says while it holds
unfoldable pub certificate_of : List ℕ → Certificate
unfolding polarity_of row_in
certificate_of w = record { key = get_or w 0 0; name = get_or w 1 0; polarity = polarity_of (get_or w 2 0); row = record_row w }

-- "it holds from the first up to, but without, the end"
unfoldable pub holds_at : ℕ → List ℕ → Bool
holds_at minute w = leb (first_minute w) minute && ltb minute (end_minute w)

-- what those of these records say "that hold then"
unfoldable pub said_at : ℕ → List (List ℕ) → List Certificate
unfolding keep holds_at certificate_of
said_at minute ws = map certificate_of (keep (holds_at minute) ws)
