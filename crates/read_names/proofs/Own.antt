-- A name's own rows, those certified for it, are the rows of its records that hold.
use Prim.Native.Nat.{ℕ, zero, suc, ◌*◌, ◌/◌, ◌≤◌}
use mathlib.Core.Path.{◌≡◌, refl, sym, ap, subst, ◌∙◌}
use mathlib.Core.Bool.{Bool, true, false, ◌&&◌}
use mathlib.Core.List.{List, [], ◌∷◌, map}
use native.Mathlib.Omega.{arith}
use lib.Dec.{eqb}
use lib.ListN.{length, get_or, take, drop}
use borrow.Author.Tests.{leb-true, eqb-true, eqb-false, eq-eqb, ne_eqb}
use Rattle.rows.specs.Word.{All}
use Rattle.rows.specs.Ordered.{◌∈◌, insert, join, keep}
use Rattle.rows.specs.Row.{row_before}
use Rattle.rows.specs.Name.{polarity_of, same_polarity}
use Rattle.rows.specs.Layout.{pieces}
use Rattle.rows.proofs.Case.{Case, is_true, is_false, split}
use Rattle.rows.proofs.Lists.{all_in, all_of}
use Rattle.rows.proofs.Ordered.{keep-∈, keep_turned, keep_length}
use Rattle.rows.proofs.Records.{records_length}
use Rattle.certificates.specs.Certificate.{record_row, sound_record, certificate_of, holds_at, said_at}
use Rattle.certificates.specs.Store.{records, sound_store, certificates_at}
use Rattle.certificates.specs.NamePart.{of_name, name_part}
use Rattle.certificates.specs.Steps.{record_in}
use Rattle.certificates.proofs.Sound.{sound_record_lem, sound_store_lem}
use Rattle.certificates.proofs.NameRows.{name_length, name_pieces, name_record, name_sound, name_climbs}
use Rattle.rows.specs.Row.{Row}
use Rattle.rows.proofs.LayoutLaws.{length_pieces}
use Rattle.meaning.specs.Links.{reachable}
use Rattle.meaning.specs.Evidence.{counts, joined}
use Rattle.std.specs.Simd.{first_chunks}
use Rattle.read_held.specs.Held.{Records, row_at, rows_held}

same_polarity_lem : (v w : ℕ) → v ≤ 1 → w ≤ 1 → same_polarity (polarity_of v) (polarity_of w) ≡ eqb v w
unfolding polarity_of
same_polarity_lem zero zero h l = refl
same_polarity_lem zero (suc zero) h l = refl
same_polarity_lem (suc zero) zero h l = refl
same_polarity_lem (suc zero) (suc zero) h l = refl
same_polarity_lem (suc (suc v)) w h l = absurd (omega arith)
same_polarity_lem zero (suc (suc w)) h l = absurd (omega arith)
same_polarity_lem (suc zero) (suc (suc w)) h l = absurd (omega arith)

eqb_swap : (a b : ℕ) → eqb a b ≡ eqb b a
eqb_swap a b = go (split (eqb b a))
  where
    go : Case (eqb b a) → eqb a b ≡ eqb b a
    go (is_true e) = eq-eqb a b (sym (eqb-true b a e)) ∙ sym e
    go (is_false e) = ne_eqb a b (λ h. eqb-false b a e (sym h)) ∙ sym e

last_first : (a b c : Bool) → (c && (a && b)) ≡ (a && (b && c))
last_first true true true = refl
last_first true true false = refl
last_first true false true = refl
last_first true false false = refl
last_first false b true = refl
last_first false b false = refl

-- a record is of a name exactly when what it says is
is_of_name : (k n v : ℕ) (w : List ℕ) → get_or w 2 0 ≤ 1 → v ≤ 1 → counts [] (certificate_of w) k n (polarity_of v) ≡ of_name k n v w
unfolding certificate_of reachable
is_of_name k n v w h l =
    rw (eqb_swap k (get_or w 0 0), eqb_swap n (get_or w 1 0), same_polarity_lem (get_or w 2 0) v h l) (last_first (eqb (get_or w 0 0) k) (eqb (get_or w 1 0) n) (eqb (get_or w 2 0) v))

own_records : (k n v : ℕ) → v ≤ 1 → (ws : List (List ℕ)) → All (λ w. get_or w 2 0 ≤ 1) ws →
    joined [] (map certificate_of ws) k n (polarity_of v) ≡ join row_before (map (λ w. record_row w) (keep (of_name k n v) ws)) []
unfolding joined keep join All certificate_of
own_records k n v l [] a = refl
own_records k n v l (w ∷ ws) a = go (is_of_name k n v w a.0 l) (own_records k n v l ws a.1) (split (of_name k n v w))
  where
    go : counts [] (certificate_of w) k n (polarity_of v) ≡ of_name k n v w →
        joined [] (map certificate_of ws) k n (polarity_of v) ≡ join row_before (map (λ w. record_row w) (keep (of_name k n v) ws)) [] →
        Case (of_name k n v w) → joined [] (map certificate_of (w ∷ ws)) k n (polarity_of v) ≡ join row_before (map (λ w. record_row w) (keep (of_name k n v) (w ∷ ws))) []
    go e ih (is_true h) = rw (e ∙ h, joined, h, keep) (ap (insert row_before (record_row w)) ih)
    go e ih (is_false h) = rw (e ∙ h, joined, h, keep) ih

module _ (store : List ℕ) (sound : sound_store store ≡ true) (k n v : ℕ) where
  abbrev of_it : List (List ℕ)
  of_it = keep (of_name k n v) (records store)

  module _ {part : List ℕ} (e : part ≡ name_part store k n v) where
    part_count : length part / 10 ≡ length of_it
    part_count = let l : length part ≡ 10 * length of_it = ap length e ∙ name_length k n v store sound in omega arith

    pub part_few : length part / 10 ≤ 1600
    part_few = omega (arith, part_count, keep_length (of_name k n v) (records store), records_length 10 store, (sound_store_lem store sound).few)

    pub part_pieces : pieces 10 (length part / 10) part ≡ of_it
    part_pieces = ap (λ (m : ℕ). pieces 10 m part) part_count ∙ ap (pieces 10 (length of_it)) e ∙ name_pieces k n v store sound

    pub own_rows_lem : v ≤ 1 → (minute : ℕ) → joined [] (certificates_at minute store) k n (polarity_of v) ≡ rows_held minute (pieces 10 (length part / 10) part)
    unfolding certificates_at said_at rows_held
    own_rows_lem h minute =
        own_records k n v h (keep (holds_at minute) (records store)) (all_of _ _ (λ w i. leb-true _ 1 (sound_record_lem w (in_store w ((keep-∈ (holds_at minute) (records store) w).0 i).1)).polarity))
        ∙ ap (λ (ws : List (List ℕ)). join row_before (map (λ w. record_row w) ws) [])
        (keep_turned (of_name k n v) (holds_at minute) (records store) ∙ ap (keep (holds_at minute)) (sym part_pieces))
      where
        in_store : (w : List ℕ) → w ∈ records store → sound_record w ≡ true
        in_store w i = all_in (λ x. sound_record x ≡ true) (records store) (sound_store_lem store sound).each w i

    pub part_records : Records (pieces 10 (length part / 10) part)
    part_records = subst (λ (rs : List (List ℕ)). Records rs) (sym part_pieces) (record {
      sound = λ i h. ap sound_record (sym (name_record k n v store sound i h)) ∙ name_sound k n v store sound i h;
      climb = λ i j h l.
          ap (λ (x : Row). row_before (row_at of_it j) x) (sym (ap (λ w. record_row w) (name_record k n v store sound i (omega arith))))
          ∙ ap (λ (x : Row). row_before x (record_row (record_in (name_part store k n v) i))) (sym (ap (λ w. record_row w) (name_record k n v store sound j l)))
          ∙ name_climbs k n v store sound i j h l;
    })

    pub records_few : length (pieces 10 (length part / 10) part) ≤ 1600
    records_few = omega (arith, part_few, length_pieces 10 (length part / 10) part)

-- chunks of words are pieces of them
pub chunks_pieces : (size n : ℕ) (ws : List ℕ) → first_chunks size n ws ≡ pieces size n ws
unfolding pieces
chunks_pieces size zero ws = refl
chunks_pieces size (suc n) ws = ap (λ rs. take size ws ∷ rs) (chunks_pieces size n (drop size ws))
