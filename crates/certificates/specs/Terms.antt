-- Document 02, N4: when a certificate holds, and what filing says of its term. Shown in proofs/Terms.antt.
use Rattle.std.specs.Prelude.{ℕ, ◌+◌, ◌*◌, ◌≤◌, ◌<◌, ◌≡◌, ◌↔◌, true, false, List, [], ◌∷◌, T}
use Rattle.refusals.specs.RefusalTable.{bad_certificate, bad_term}
use Rattle.rows.specs.Word.{Words}
use Rattle.rows.specs.Row.{first_key}
use Rattle.certificates.specs.Certificate.{record_words, first_minute, end_minute, sound_term, sound_record, holds_at}
use Rattle.certificates.specs.StoreOrder.{in_list}
use Rattle.certificates.specs.Store.{capacity, certificate_kind}
use Rattle.certificates.specs.Filing.{filed, held, refused, reply_given}

-- row 7 in the first key's list 1 +, with a term
abbrev pub row7 : ℕ → ℕ → List ℕ
row7 first end = in_list first end (7 ∷ [])

abbrev pub semester : List ℕ
semester = row7 10 20

-- the same of polarity 2, which is none, ending as it begins
abbrev pub both_bad : List ℕ
both_bad = first_key ∷ 1 ∷ 2 ∷ 1 ∷ 7 ∷ 0 ∷ 0 ∷ 0 ∷ 10 ∷ 10 ∷ []

pub record Theorem : Type 0 where
  -- "it holds from the first up to, but without, the end"
  pub holds : (minute : ℕ) (w : List ℕ) → T (holds_at minute w) ↔ ((first_minute w ≤ minute) × (minute < end_minute w))
  -- a certificate that a store holds does hold, at its first minute
  pub some : (w : List ℕ) → sound_record w ≡ true → holds_at (first_minute w) w ≡ true
  -- one that ends no later than it begins never would: 17
  pub none : (minute : ℕ) (w : List ℕ) → sound_term w ≡ false → holds_at minute w ≡ false
  -- no certificate holds at the last word
  pub never : (w : List ℕ) → Words w → holds_at 4294967295 w ≡ false
  pub not_yet : holds_at 9 semester ≡ false
  pub begins : holds_at 10 semester ≡ true
  pub lasts : holds_at 19 semester ≡ true
  pub ended : holds_at 20 semester ≡ false
  -- "17, an end not after its first minute, when filing, right after 9": before Held too
  pub nine : reply_given certificate_kind [] both_bad ≡ refused bad_certificate
  pub seventeen : reply_given certificate_kind [] (row7 10 10) ≡ refused bad_term
  pub not_held : reply_given certificate_kind (row7 10 10 ∷ []) (row7 10 10) ≡ refused bad_term
  -- a row may be certified for several terms
  pub again : reply_given certificate_kind (semester ∷ []) (row7 20 30) ≡ filed
  pub same : reply_given certificate_kind (semester ∷ []) semester ≡ held
  -- "A held record whose end is not after its first minute makes the store unsound."
  pub unsound : sound_record (row7 10 10) ≡ false
  -- "A store is at least 16,001 words"
  pub room : 1 + record_words * capacity ≡ 16001
