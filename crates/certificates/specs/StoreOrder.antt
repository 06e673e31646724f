-- Document 02, N1 and N4: which of two certificates comes first in a store. Shown in proofs/StoreOrder.antt.
use Rattle.std.specs.Prelude.{ℕ, ◌≡◌, true, List, [], ◌∷◌, ◌++◌, map}
use Rattle.rows.specs.Ordered.{words_before, ascending}
use Rattle.rows.specs.Row.{Row, first_key, row_before}
use Rattle.rows.specs.Layout.{row_words}
use Rattle.rows.specs.SideBySide.{example}
use Rattle.certificates.specs.Certificate.{record_name, record_row, record_term, sound_record, record_before}

-- the certificate of a row in the first key's list 1 +, with its term
abbrev pub in_list : ℕ → ℕ → Row → List ℕ
in_list first end r = first_key ∷ 1 ∷ 0 ∷ (row_words r ++ (first ∷ end ∷ []))

-- one row through four terms, which may overlap; a later row with an earlier term; a row before both in a later list
abbrev pub terms : List (List ℕ)
terms = in_list 0 9 (7 ∷ []) ∷ in_list 3 5 (7 ∷ []) ∷ in_list 3 6 (7 ∷ []) ∷ in_list 4 5 (7 ∷ []) ∷ in_list 0 1 (8 ∷ [])
    ∷ (first_key ∷ 2 ∷ 0 ∷ 1 ∷ 6 ∷ 0 ∷ 0 ∷ 0 ∷ 0 ∷ 1 ∷ []) ∷ []

pub record Theorem : Type 0 where
  -- key, name and polarity decide, word by word
  pub by_name : (v w : List ℕ) → (record_name v ≡ record_name w → ⊥) → record_before v w ≡ words_before (record_name v) (record_name w)
  -- "records within one name follow this order", that of rows
  pub by_row : (v w : List ℕ) → record_name v ≡ record_name w → (record_row v ≡ record_row w → ⊥) → record_before v w ≡ row_before (record_row v) (record_row w)
  -- "Records of one row ascend by first, then by end minute."
  pub by_term : (v w : List ℕ) → sound_record v ≡ true → sound_record w ≡ true → record_name v ≡ record_name w → record_row v ≡ record_row w →
      record_before v w ≡ words_before (record_term v) (record_term w)
  pub rows_shown : ascending record_before (map (in_list 0 1) example) ≡ true
  pub terms_shown : ascending record_before terms ≡ true
