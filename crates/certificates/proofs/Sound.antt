-- What soundness says of a record and of a store.
use Prim.Native.Nat.{ℕ, ◌<◌}
use mathlib.Core.Path.{◌≡◌, ◌∙◌, ap}
use mathlib.Core.Bool.{true}
use mathlib.Core.List.{List, [], ◌∷◌, ◌++◌}
use native.Mathlib.Omega.{arith}
use lib.Dec.{eqb}
use lib.ListN.{length, get_or, drop, length-drop, take-append-drop}
use lib.Seq.{drop-cons, drop-drop, length-take-le}
use borrow.Author.Tests.{eqb-true, eq-eqb, ltb-true, lt-ltb}
use Rattle.rows.specs.Word.{IsWord, Words}
use Rattle.rows.specs.Row.{IsRow, is_key}
use Rattle.rows.specs.Name.{is_name, is_polarity}
use Rattle.rows.specs.Layout.{row_words, five_at, sound_row}
use Rattle.rows.proofs.Case.{and_true, true_and}
use Rattle.rows.proofs.Lists.{all_drop, all_take, no_elements}
use Rattle.rows.proofs.LayoutLaws.{row_is_lem, row_written}
use Rattle.rows.proofs.Records.{SoundRecords}
use Rattle.certificates.specs.Certificate.{record_words, first_minute, end_minute, sound_certificate, sound_term, sound_record, record_name, record_row, record_term, certificate_of}
use Rattle.certificates.specs.Store.{capacity, sound_store, certificate_kind}
use Rattle.certificates.proofs.Filings.{Lawful, sound_in_lem}
use Rattle.certificates.proofs.RecordOrder.{record_order}

-- a record, test by test
pub record SoundRecord (w : List ℕ) : Type 0 where
  pub ten : length w ≡ record_words
  pub key : is_key (get_or w 0 0) ≡ true
  pub name : is_name (get_or w 1 0) ≡ true
  pub polarity : is_polarity (get_or w 2 0) ≡ true
  pub row : sound_row (five_at w 3) ≡ true
  pub term : first_minute w < end_minute w

pub sound_record_lem : (w : List ℕ) → sound_record w ≡ true → SoundRecord w
unfolding sound_record sound_certificate sound_term
sound_record_lem w e =
    let t = and_true (sound_certificate w) _ e in
    let a = and_true (eqb (length w) record_words) _ t.0 in
    let b = and_true (is_key (get_or w 0 0)) _ a.1 in
    let c = and_true (is_name (get_or w 1 0)) _ b.1 in
    let d = and_true (is_polarity (get_or w 2 0)) _ c.1 in
    record { ten = eqb-true (length w) record_words a.0; key = b.0; name = c.0; polarity = d.0; row = d.1; term = ltb-true (first_minute w) (end_minute w) t.1 }

pub record_sound : (w : List ℕ) → SoundRecord w → sound_record w ≡ true
unfolding sound_record sound_certificate sound_term
record_sound w s =
    true_and _ _ (true_and _ _ (eq-eqb (length w) record_words s.ten) (true_and _ _ s.key (true_and _ _ s.name (true_and _ _ s.polarity s.row))))
    (lt-ltb (first_minute w) (end_minute w) s.term)

-- both tests of words filed make a record
pub both_sound : (w : List ℕ) → sound_certificate w ≡ true → sound_term w ≡ true → sound_record w ≡ true
unfolding sound_record
both_sound w s t = true_and (sound_certificate w) (sound_term w) s t

pub sound_parts : (w : List ℕ) → sound_record w ≡ true → (sound_certificate w ≡ true) × (sound_term w ≡ true)
unfolding sound_record
sound_parts w e = and_true (sound_certificate w) (sound_term w) e

pub sound_ten : (w : List ℕ) → sound_certificate w ≡ true → length w ≡ record_words
unfolding sound_certificate
sound_ten w e = eqb-true (length w) record_words (and_true (eqb (length w) record_words) _ e).0

-- its words are its name, its row's five and its term
pub five_long : (w : List ℕ) → length w ≡ record_words → length (five_at w 3) ≡ 5
five_long w ten = length-take-le 5 (drop 3 w) (omega (arith, length-drop 3 w))

last_two : (w : List ℕ) → length w ≡ record_words → drop 8 w ≡ record_term w
last_two w ten =
    let ends : drop 10 w ≡ [] = no_elements (drop 10 w) (omega (arith, length-drop 10 w)) in
    drop-cons w 8 0 (omega arith) ∙ ap (λ (l : List ℕ). get_or w 8 0 ∷ l) (drop-cons w 9 0 (omega arith) ∙ ap (λ (l : List ℕ). get_or w 9 0 ∷ l) ends)

words_are : (w : List ℕ) → sound_record w ≡ true → w ≡ record_name w ++ (row_words (record_row w) ++ record_term w)
words_are w e =
    let s = sound_record_lem w e in
    let row : row_words (record_row w) ≡ five_at w 3 = row_written (five_at w 3) (five_long w s.ten) s.row in
    let past : drop 5 (drop 3 w) ≡ record_term w = drop-drop 5 3 w ∙ last_two w s.ten in
    rw row (rw (← past, take-append-drop 5 (drop 3 w), take-append-drop 3 w))

pub term_is_all : (v w : List ℕ) → sound_record v ≡ true → sound_record w ≡ true → record_name v ≡ record_name w → record_row v ≡ record_row w → record_term v ≡ record_term w → v ≡ w
term_is_all v w r s n e t =
    let x = words_are v r in
    let y = words_are w s in
    cc

-- what a certificate speaks about is a row
pub about_row : (w : List ℕ) → sound_record w ≡ true → Words w → IsRow (certificate_of w).row
unfolding certificate_of
about_row w e p =
    let s = sound_record_lem w e in
    row_is_lem (five_at w 3) (five_long w s.ten) s.row (all_take IsWord 5 (drop 3 w) (all_drop IsWord 3 w p))

-- certificates are a kind
abbrev pub certificate_laws : Lawful certificate_kind
certificate_laws = record { order = record_order; sized = λ w e. (sound_record_lem w e).ten }

-- a sound store, test by test
pub sound_store_lem : (store : List ℕ) → sound_store store ≡ true → SoundRecords record_words capacity sound_record record_order store
unfolding sound_store
sound_store_lem store e = sound_in_lem certificate_laws store e
