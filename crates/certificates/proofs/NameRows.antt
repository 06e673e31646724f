-- The records of one name: their words are cut back into them, each is sound, and their rows are in order.
use Prim.Native.Nat.{ℕ, ◌*◌, ◌<◌}
use mathlib.Core.Path.{◌≡◌, sym, ◌∙◌, ap}
use mathlib.Core.Bool.{true, false}
use mathlib.Core.List.{List, [], append-nil}
use native.Mathlib.Omega.{arith}
use lib.ListN.{length, get_or}
use Rattle.rows.specs.Word.{All}
use Rattle.rows.specs.Ordered.{keep}
use Rattle.rows.specs.Row.{row_before}
use Rattle.rows.specs.Layout.{flat, pieces}
use Rattle.rows.proofs.Case.{true_T}
use Rattle.rows.proofs.Lists.{all_in, all_of, all_at}
use Rattle.rows.proofs.Ordered.{keep-∈, keep_ascending}
use Rattle.rows.proofs.Place.{ascending_at}
use Rattle.rows.proofs.LayoutLaws.{Sized, flat_length, pieces_flat, piece_at}
use Rattle.certificates.specs.Certificate.{record_words, sound_record, record_name, record_row, record_before}
use Rattle.certificates.specs.Store.{records, sound_store}
use Rattle.certificates.specs.NamePart.{of_name, name_part}
use Rattle.certificates.specs.Steps.{record_in}
use Rattle.certificates.proofs.RecordOrder.{record_order, rows_climb}
use Rattle.certificates.proofs.Filings.{sound_sized}
use Rattle.certificates.proofs.Sound.{certificate_laws, sound_store_lem}
use Rattle.certificates.proofs.NameParts.{name_given, name_is}

module _ (key name polarity : ℕ) where
  -- sound, and of the name
  record OfName (w : List ℕ) : Type 0 where
    sound : sound_record w ≡ true
    named : of_name key name polarity w ≡ true

  module _ (store : List ℕ) (sound : sound_store store ≡ true) where
    of_name_lem : All OfName (keep (of_name key name polarity) (records store))
    of_name_lem = all_of OfName _ λ w i.
        let k = (keep-∈ (of_name key name polarity) (records store) w).0 i in
        record { sound = all_in (λ x. sound_record x ≡ true) (records store) (sound_store_lem store sound).each w k.1; named = true_T _ k.0 }

    -- the part's words are those of the name's records, one after the other
    part_flat : name_part store key name polarity ≡ flat (keep (of_name key name polarity) (records store))
    unfolding name_part
    part_flat = rw (sound, name_part)

    sized : All (Sized record_words) (keep (of_name key name polarity) (records store))
    sized = sound_sized certificate_laws _ (all_of _ _ (λ w i. (all_in OfName _ of_name_lem w i).sound))

    pub name_length : length (name_part store key name polarity) ≡ record_words * length (keep (of_name key name polarity) (records store))
    name_length = rw part_flat (flat_length record_words (keep (of_name key name polarity) (records store)) sized)

    pub name_pieces : pieces record_words (length (keep (of_name key name polarity) (records store))) (name_part store key name polarity) ≡ keep (of_name key name polarity) (records store)
    name_pieces =
        let rs : List (List ℕ) = keep (of_name key name polarity) (records store) in
        rw (part_flat, ← append-nil (flat rs)) (pieces_flat record_words rs [] sized)

    module _ (i : ℕ) (below : i < length (keep (of_name key name polarity) (records store))) where
      pub name_record : record_in (name_part store key name polarity) i ≡ get_or (keep (of_name key name polarity) (records store)) i []
      name_record = sym (sym (ap (λ (rs : List (List ℕ)). get_or rs i []) name_pieces) ∙ piece_at record_words _ (name_part store key name polarity) i below)

      it : OfName (get_or (keep (of_name key name polarity) (records store)) i [])
      it = all_at OfName _ of_name_lem i [] below

      pub name_sound : sound_record (record_in (name_part store key name polarity) i) ≡ true
      name_sound = rw name_record it.sound

      -- it is of the name
      named : record_name (get_or (keep (of_name key name polarity) (records store)) i []) ≡ name_given key name polarity
      named = name_is key name polarity _ it.sound it.named

    -- no row comes before an earlier one; the same may come again, with another term
    pub name_climbs : (i j : ℕ) → i < j → j < length (keep (of_name key name polarity) (records store)) →
        row_before (record_row (record_in (name_part store key name polarity) j)) (record_row (record_in (name_part store key name polarity) i)) ≡ false
    name_climbs i j less below =
        let rs : List (List ℕ) = keep (of_name key name polarity) (records store) in
        let order = keep_ascending record_before record_order (of_name key name polarity) (records store) (sound_store_lem store sound).order in
        rw (name_record i (omega arith), name_record j below)
        (rows_climb _ _ (named i (omega arith) ∙ sym (named j below)) (ascending_at record_before record_order [] rs order i j less below))
