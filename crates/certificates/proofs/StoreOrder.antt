-- The names decide; where they are the same, the rows do, and where these are the same, the terms.
use Prim.Native.Nat.{ℕ}
use mathlib.Core.Path.{◌≡◌, refl, sym, ◌∙◌, ap}
use mathlib.Core.Bool.{Bool, true, false}
use mathlib.Core.List.{List, map}
use Rattle.rows.specs.Ordered.{StrictTotal, words_before, first_by, tied, ascending}
use Rattle.rows.specs.Row.{row_before}
use Rattle.rows.specs.Layout.{row_in, row_words}
use Rattle.rows.specs.SideBySide.{example}
use Rattle.rows.proofs.Case.{Case, is_true, is_false, split}
use Rattle.rows.proofs.Order.{words_order, row_order}
use Rattle.certificates.specs.Certificate.{record_name, record_row, record_term, sound_record, record_before}
use Rattle.certificates.specs.StoreOrder.{in_list, terms, Theorem}
use Rattle.certificates.proofs.RecordOrder.{record_order, name_decides, name_denies, row_decides, row_denies, term_decides, term_denies}
use Rattle.certificates.proofs.Sound.{term_is_all}

-- what one part of two records decides: it may decide either way, and where it is the same nothing is left to decide
decided : {A : Type 0} {before : A → A → Bool} (laws : StrictTotal before) (part : List ℕ → A) (v w : List ℕ) → (before (part v) (part w) ≡ true → record_before v w ≡ true) →
    (before (part w) (part v) ≡ true → record_before v w ≡ false) → (part v ≡ part w → record_before v w ≡ false) → record_before v w ≡ before (part v) (part w)
decided {A} {before} laws part v w first second neither = go (split (before (part v) (part w))) (split (before (part w) (part v)))
  where
    go : Case (before (part v) (part w)) → Case (before (part w) (part v)) → record_before v w ≡ before (part v) (part w)
    go (is_true a) b = first a ∙ sym a
    go (is_false a) (is_true b) = second b ∙ sym a
    go (is_false a) (is_false b) = neither (laws.total (part v) (part w) a b) ∙ sym a

by_name : (v w : List ℕ) → (record_name v ≡ record_name w → ⊥) → record_before v w ≡ words_before (record_name v) (record_name w)
by_name v w differ = decided words_order record_name v w (name_decides v w) (name_denies v w) (λ e. absurd (differ e))

by_row : (v w : List ℕ) → record_name v ≡ record_name w → (record_row v ≡ record_row w → ⊥) → record_before v w ≡ row_before (record_row v) (record_row w)
by_row v w named differ = decided row_order record_row v w (row_decides v w named) (row_denies v w named) (λ e. absurd (differ e))

by_term : (v w : List ℕ) → sound_record v ≡ true → sound_record w ≡ true → record_name v ≡ record_name w → record_row v ≡ record_row w → record_before v w ≡ words_before (record_term v) (record_term w)
by_term v w sound_v sound_w named alike = decided words_order record_term v w (term_decides v w named alike) (term_denies v w named alike)
    (λ e. ap (record_before v) (sym (term_is_all v w sound_v sound_w named alike e)) ∙ record_order.irreflexive v)

rows_shown : ascending record_before (map (in_list 0 1) example) ≡ true
unfolding record_before first_by tied words_before row_before row_in row_words ascending
rows_shown = refl

terms_shown : ascending record_before terms ≡ true
unfolding record_before first_by tied words_before row_before row_in row_words ascending
terms_shown = refl

pub holds : Theorem
holds = record { by_name = by_name; by_row = by_row; by_term = by_term; rows_shown = rows_shown; terms_shown = terms_shown }
