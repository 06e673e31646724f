-- Document 01, "Store and filing": "The certificates of one name form one unbroken part of the store, and the portal can be handed that part
-- (empty if there is none or the store is unsound)." One name is here a key, a name and a polarity.
use Rattle.std.specs.Prelude.{ℕ, ◌+◌, ◌*◌, Bool, true, false, ◌&&◌, List, [], ◌∷◌, eqb, get_or}
use Rattle.rows.specs.Ordered.{keep, leading, words_before}
use Rattle.rows.specs.Layout.{flat}
use Rattle.rows.specs.Records.{records_in}
use Rattle.certificates.specs.Certificate.{record_words, record_name}
use Rattle.certificates.specs.Store.{records, sound_store}

abbrev pub of_name : ℕ → ℕ → ℕ → List ℕ → Bool
of_name key name polarity w = eqb (get_or w 0 0) key && (eqb (get_or w 1 0) name && eqb (get_or w 2 0) polarity)

-- the words of the name's records, one after the other. That these stand in the store without a gap is shown in proofs/NameParts.antt, `spans_found`.
unfoldable pub name_part : List ℕ → ℕ → ℕ → ℕ → List ℕ
unfolding sound_store records_in keep flat
name_part store key name polarity = elim (sound_store store) [ true ↦ flat (keep (of_name key name polarity) (records store)) | false ↦ [] ]

-- the word of the store where that part begins: past the count and the records of earlier names; 0 where the store is unsound
unfoldable pub name_start : List ℕ → ℕ → ℕ → ℕ → ℕ
unfolding sound_store records_in leading words_before
name_start store key name polarity = elim (sound_store store) [
  | true ↦ 1 + record_words * leading (λ r. words_before (record_name r) (key ∷ name ∷ polarity ∷ [])) (records store)
  | false ↦ 0
]
