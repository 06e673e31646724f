-- When a certificate holds, by the two tests of its term.
use Prim.Native.Nat.{ℕ, zero, suc, ◌+◌, ◌*◌, ◌≤◌, ◌<◌}
use mathlib.Core.Path.{◌≡◌, refl}
use mathlib.Core.Bool.{true, false}
use mathlib.Core.List.{List, [], ◌∷◌}
use native.Mathlib.Omega.{arith}
use lib.Dec.{T, leb, ltb}
use lib.ListN.{get_or}
use borrow.Author.Tests.{leb-true, ltb-true, ltb-false, le-leb, lt-ltb}
use Rattle.refusals.specs.RefusalTable.{bad_certificate, bad_term}
use Rattle.rows.specs.Word.{All, Words}
use Rattle.rows.specs.Ordered.{lists, tied, first_by, words_before}
use Rattle.rows.specs.Row.{row_before}
use Rattle.rows.specs.Layout.{row_in, row_words, sound_row}
use Rattle.rows.proofs.Case.{Case, is_true, is_false, split, T_true, true_T, and_true, true_and}
use Rattle.certificates.specs.Certificate.{record_words, first_minute, end_minute, sound_certificate, sound_term, sound_record, record_before, holds_at}
use Rattle.certificates.specs.Store.{capacity, certificate_kind, certificate_refusal}
use Rattle.certificates.specs.Filing.{filed, held, refused, reply_given}
use Rattle.certificates.specs.Terms.{row7, semester, both_bad, Theorem}
use Rattle.certificates.proofs.Sound.{sound_parts}

within : (minute : ℕ) (w : List ℕ) → T (holds_at minute w) → (first_minute w ≤ minute) × (minute < end_minute w)
unfolding holds_at
within minute w t =
    let b = and_true (leb (first_minute w) minute) (ltb minute (end_minute w)) (true_T _ t) in
    (leb-true (first_minute w) minute b.0, ltb-true minute (end_minute w) b.1)

there : (minute : ℕ) (w : List ℕ) → first_minute w ≤ minute → minute < end_minute w → holds_at minute w ≡ true
unfolding holds_at
there minute w f e = true_and (leb (first_minute w) minute) (ltb minute (end_minute w)) (le-leb (first_minute w) minute f) (lt-ltb minute (end_minute w) e)

gone : (minute : ℕ) (w : List ℕ) → (T (holds_at minute w) → ⊥) → holds_at minute w ≡ false
gone minute w n = go (split (holds_at minute w))
  where
    go : Case (holds_at minute w) → holds_at minute w ≡ false
    go (is_true e) = absurd (n (T_true e))
    go (is_false e) = e

-- a word, or the 0 behind the last
small : (w : List ℕ) (i : ℕ) → Words w → get_or w i 0 < 4294967296
unfolding All
small [] i a = omega arith
small (x ∷ w) zero a = a.0
small (x ∷ w) (suc i) a = small w i a.1

-- ---- by computation, each for itself

not_yet_lem : holds_at 9 semester ≡ false
unfolding holds_at row_words
not_yet_lem = refl

begins : holds_at 10 semester ≡ true
unfolding holds_at row_words
begins = refl

lasts : holds_at 19 semester ≡ true
unfolding holds_at row_words
lasts = refl

ended : holds_at 20 semester ≡ false
unfolding holds_at row_words
ended = refl

nine : reply_given certificate_kind [] both_bad ≡ refused bad_certificate
unfolding reply_given certificate_refusal sound_record sound_certificate sound_term sound_row lists tied record_before first_by words_before row_before row_in row_words
nine = refl

seventeen : reply_given certificate_kind [] (row7 10 10) ≡ refused bad_term
unfolding reply_given certificate_refusal sound_record sound_certificate sound_term sound_row lists tied record_before first_by words_before row_before row_in row_words
seventeen = refl

not_held_lem : reply_given certificate_kind (row7 10 10 ∷ []) (row7 10 10) ≡ refused bad_term
unfolding reply_given certificate_refusal sound_record sound_certificate sound_term sound_row lists tied record_before first_by words_before row_before row_in row_words
not_held_lem = refl

again : reply_given certificate_kind (semester ∷ []) (row7 20 30) ≡ filed
unfolding reply_given certificate_refusal sound_record sound_certificate sound_term sound_row lists tied record_before first_by words_before row_before row_in row_words
again = refl

same : reply_given certificate_kind (semester ∷ []) semester ≡ held
unfolding reply_given certificate_refusal sound_record sound_certificate sound_term sound_row lists tied record_before first_by words_before row_before row_in row_words
same = refl

unsound : sound_record (row7 10 10) ≡ false
unfolding sound_record sound_certificate sound_term sound_row row_words
unsound = refl

room : 1 + record_words * capacity ≡ 16001
room = refl

pub theorem : Theorem
unfolding holds_at sound_term
theorem = record {
  holds = λ minute w. (within minute w, λ h. T_true (there minute w h.0 h.1));
  some = λ w s. there (first_minute w) w (omega arith) (ltb-true (first_minute w) (end_minute w) (sound_parts w s).1);
  none = λ minute w s. gone minute w (λ t. let h = within minute w t in let e = ltb-false (first_minute w) (end_minute w) s in let a = h.0 in let b = h.1 in absurd (omega arith));
  never = λ w a. gone 4294967295 w (λ t. let h = (within 4294967295 w t).1 in let b = small w 9 a in absurd (omega arith));
  not_yet = not_yet_lem;
  begins = begins;
  lasts = lasts;
  ended = ended;
  nine = nine;
  seventeen = seventeen;
  not_held = not_held_lem;
  again = again;
  same = same;
  unsound = unsound;
  room = room;
}
