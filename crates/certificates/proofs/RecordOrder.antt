-- The order of records: by key, name and polarity, then by the row, then by the term. Which of these decides.
use Prim.Native.Nat.{ℕ}
use mathlib.Core.Path.{◌≡◌, sym, ◌∙◌}
use mathlib.Core.Bool.{Bool, true, false}
use mathlib.Core.List.{List}
use Rattle.rows.specs.Ordered.{StrictTotal, words_before, first_by}
use Rattle.rows.specs.Row.{row_before}
use Rattle.rows.proofs.Order.{words_order, row_order, first_order, first_decides, first_denies, first_same, first_not_after}
use Rattle.certificates.specs.Certificate.{record_name, record_row, record_term, record_before}

-- the order within one row, and within one name
abbrev term_before : List ℕ → List ℕ → Bool
term_before = first_by record_term words_before words_before

abbrev row_then_term : List ℕ → List ℕ → Bool
row_then_term = first_by record_row row_before term_before

term_order : StrictTotal term_before
term_order = first_order record_term words_order words_order

row_then_term_lem : StrictTotal row_then_term
row_then_term_lem = first_order record_row row_order term_order

pub record_order : StrictTotal record_before
unfolding record_before
record_order = first_order record_name words_order row_then_term_lem

module _ (v w : List ℕ) where
  pub name_decides : words_before (record_name v) (record_name w) ≡ true → record_before v w ≡ true
  unfolding record_before
  name_decides = first_decides record_name words_order row_then_term_lem v w

  pub name_denies : words_before (record_name w) (record_name v) ≡ true → record_before v w ≡ false
  unfolding record_before
  name_denies = first_denies record_name words_order row_then_term_lem v w

  pub names_ascend : record_before v w ≡ true → words_before (record_name w) (record_name v) ≡ false
  unfolding record_before
  names_ascend = first_not_after record_name words_order row_then_term_lem v w

  module _ (named : record_name v ≡ record_name w) where
    within_name : record_before v w ≡ row_then_term v w
    unfolding record_before
    within_name = first_same record_name words_order row_then_term_lem v w named

    pub row_decides : row_before (record_row v) (record_row w) ≡ true → record_before v w ≡ true
    row_decides e = within_name ∙ first_decides record_row row_order term_order v w e

    pub row_denies : row_before (record_row w) (record_row v) ≡ true → record_before v w ≡ false
    row_denies e = within_name ∙ first_denies record_row row_order term_order v w e

    pub rows_climb : record_before v w ≡ true → row_before (record_row w) (record_row v) ≡ false
    rows_climb e = first_not_after record_row row_order term_order v w (sym within_name ∙ e)

    module _ (alike : record_row v ≡ record_row w) where
      within_row : record_before v w ≡ term_before v w
      within_row = within_name ∙ first_same record_row row_order term_order v w alike

      pub term_decides : words_before (record_term v) (record_term w) ≡ true → record_before v w ≡ true
      term_decides e = within_row ∙ first_decides record_term words_order words_order v w e

      pub term_denies : words_before (record_term w) (record_term v) ≡ true → record_before v w ≡ false
      term_denies e = within_row ∙ first_denies record_term words_order words_order v w e
