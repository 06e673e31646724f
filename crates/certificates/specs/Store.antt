-- Document 01, "Store and filing": the store's words, and what filing a certificate goes by.
use Rattle.std.specs.Prelude.{ℕ, Bool, true, false, List}
use Rattle.refusals.specs.RefusalTable.{bad_store, bad_certificate, bad_term, store_full}
use Rattle.rows.specs.Records.{records_in}
use Rattle.certificates.specs.Certificate.{Certificate, record_words, sound_certificate, sound_record, said_at, record_before}
use Rattle.certificates.specs.Filing.{Kind, sound_in}

-- "A store is at least 16,001 words [1 + 10 × 1,600]: a count .., then .. words a certificate .., strictly ascending"; document 02, N4: "A store holds at most
-- 1,600 records of ten words." What is laid out so is defined over any width in rows/specs/Records.antt. The order is that of Certificate.antt, where
-- document 01 has "word by word".
abbrev pub capacity : ℕ
capacity = 1600

-- words filed that a store would not hold: 9 where the certificate is unsound; document 02, N4: "17, an end not after its first minute, when filing, right after 9"
unfoldable pub certificate_refusal : List ℕ → ℕ
unfolding sound_certificate
certificate_refusal w = elim (sound_certificate w) [ false ↦ bad_certificate | true ↦ bad_term ]

-- "Filing: 8, 9, Held, 10", with 17 between 9 and Held
abbrev pub certificate_kind : Kind
certificate_kind = record {
  words = record_words;
  most = capacity;
  sound = sound_record;
  before = record_before;
  bad_store = bad_store;
  bad_record = certificate_refusal;
  full = store_full;
}

-- the records held
abbrev pub records : List ℕ → List (List ℕ)
records store = records_in record_words store

-- "unsound .. if it is under 16,001 words, its count is over [1,600], a record is unsound or the order is broken"
unfoldable pub sound_store : List ℕ → Bool
unfolding sound_in sound_record record_before
sound_store store = sound_in certificate_kind store

-- what the store's records say that hold at a minute
unfoldable pub certificates_at : ℕ → List ℕ → List Certificate
unfolding records_in said_at
certificates_at minute store = said_at minute (records store)
