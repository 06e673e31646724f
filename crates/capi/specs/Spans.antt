-- Where the words of a part, or of a name's certificates, stand: what is handed out, and the words that it points to.
use Rattle.std.specs.Prelude.{ℕ, ◌≡◌, true, false, List, eqb, length, take, drop}
use Rattle.certificates.specs.NamePart.{name_part, name_start}
use Rattle.policy.specs.Part.{PartSpan, in_policy, whole_query, part_span, part_words}

-- what a part hands out: how many words, 1 if they are of the query, else 0, and the word where they start
pub record HandedPart : Type 0 where
  pub size : ℕ
  pub of_query : ℕ
  pub start : ℕ

-- "out of the policy (0 to 15) or the query (16). The query comes back whole at any length."
unfoldable pub hand_part : List ℕ → PartSpan → HandedPart
hand_part query (in_policy start size) = record { size = size; of_query = 0; start = start }
hand_part query whole_query = record { size = length query; of_query = 1; start = 0 }

-- the words that it points to
unfoldable pub words_of_part : List ℕ → List ℕ → HandedPart → List ℕ
words_of_part policy query h = take h.size (drop h.start (elim (eqb h.of_query 1) [ true ↦ query | false ↦ policy ]))

-- a part: where it lies, and the words that it points to, which are those that `part` hands back
pub record PartAt (policy query : List ℕ) (number : ℕ) (handed : HandedPart) : Type 0 where
  pub span : hand_part query (part_span policy number) ≡ handed
  pub words : words_of_part policy query handed ≡ part_words policy query number

-- what a name's certificates hand out: how many words, and the word of the store where they start
pub record HandedCertificates : Type 0 where
  pub size : ℕ
  pub start : ℕ

-- "The certificates of one name form one unbroken part of the store"
unfoldable pub hand_certificates : List ℕ → ℕ → ℕ → ℕ → HandedCertificates
unfolding name_part name_start
hand_certificates store key name polarity = record { size = length (name_part store key name polarity); start = name_start store key name polarity }

-- the words that it points to
unfoldable pub words_of_certificates : List ℕ → HandedCertificates → List ℕ
words_of_certificates store h = take h.size (drop h.start store)

-- one name's part of the store: where it lies, and the words that it points to, which are those that `certificates_of` hands back
pub record CertificatesAt (store : List ℕ) (key name polarity : ℕ) (handed : HandedCertificates) : Type 0 where
  pub span : hand_certificates store key name polarity ≡ handed
  pub words : words_of_certificates store handed ≡ name_part store key name polarity
