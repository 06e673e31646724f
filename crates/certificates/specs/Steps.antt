-- What the code's inner functions find in the store's words. A portal's calls promise nothing by these.
use Rattle.std.specs.Prelude.{ℕ, ◌+◌, ◌*◌, ◌≤◌, ◌<◌, ◌≡◌, Bool, true, ◌&&◌, List, get_or, take, drop}
use Rattle.rows.specs.Ordered.{words_before}
use Rattle.rows.specs.Layout.{five_at, sound_row}
use Rattle.rows.specs.Records.{record_at, behind_at}
use Rattle.certificates.specs.Certificate.{record_words, record_term, sound_record, record_before}

-- record i is sound and comes behind the one before
abbrev pub sound_at : List ℕ → ℕ → Bool
sound_at store i = sound_record (record_at record_words store i) && behind_at record_words record_before store i

-- record i of a name's part, which has no count before its records
abbrev pub record_in : List ℕ → ℕ → List ℕ
record_in part i = take record_words (drop (record_words * i) part)

-- two words as one number
abbrev pub pair_at : List ℕ → ℕ → ℕ
pair_at words at = get_or words at 0 + get_or words (at + 1) 0 * 4294967296

-- a record comes plainly behind another of its name: by its first two atoms, or with the same row, of two atoms at most, by its term
pub data Follows (v w : List ℕ) : Type 0 where
  by_first : get_or v 4 0 < get_or w 4 0 → Follows v w
  by_second : get_or v 4 0 ≡ get_or w 4 0 → get_or v 5 0 < get_or w 5 0 → Follows v w
  by_term : get_or v 4 0 ≡ get_or w 4 0 → get_or v 5 0 ≡ get_or w 5 0 → get_or v 3 0 ≡ get_or w 3 0 → words_before (record_term v) (record_term w) ≡ true → Follows v w

-- a record of this polarity with a sound row of one atom or two
pub record ShortRow (w : List ℕ) (polarity : ℕ) : Type 0 where
  pub polar : get_or w 2 0 ≡ polarity
  pub sound : sound_row (five_at w 3) ≡ true
  pub short : get_or w 3 0 ≤ 2

-- the records after `start` and before `end`, of `count`: each is sound and comes behind the one before
pub record Run (store : List ℕ) (count start end : ℕ) : Type 0 where
  pub some : start < end
  pub few : end ≤ count
  pub each : (i : ℕ) → i < end → start < i → sound_at store i ≡ true
