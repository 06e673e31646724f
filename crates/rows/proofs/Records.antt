-- Records of any width, test and order: one by one, the whole of them, a record's place, and a record put in there.
use Prim.Native.Nat.{ℕ, zero, suc, ◌+◌, ◌-◌, ◌*◌, ◌≤◌, ◌<◌}
use mathlib.Core.Path.{◌≡◌, refl, sym, ◌∙◌, ap}
use mathlib.Core.Bool.{Bool, true, false, not, ◌&&◌}
use mathlib.Core.List.{List, [], ◌∷◌, ◌++◌, append_assoc}
use native.Mathlib.Nat.{mul-suc, mul-add, mul-le-mul_left}
use native.Mathlib.Numerals.{add-one}
use native.Mathlib.Omega.{arith}
use lib.Dec.{leb, ltb}
use lib.ListN.{length, get_or, take, drop, set, length-append, length-drop}
use lib.Seq.{drop_at, drop-drop, length-take-le, take-take}
use borrow.Author.Tests.{lt-ltb, le-ltb, le-leb, lt-leb, leb-true, ltb-true}
use Rattle.rows.specs.Word.{All, IsWord, Words}
use Rattle.rows.specs.Ordered.{◌∈◌, StrictTotal, lists, insert, leading, PassFirst, ascending, words_before}
use Rattle.rows.specs.Layout.{flat, every, put}
use Rattle.rows.specs.Records.{count_of, records_in, sound_records, with_records, record_at, behind_at, place_in, held_at, put_in, begins_before}
use Rattle.rows.proofs.Case.{Case, is_true, is_false, split, never, and_true, true_and}
use Rattle.rows.proofs.Lists.{all_at, at_all, all_drop}
use Rattle.rows.proofs.Ordered.{Ascending, ascending_true, true_ascending, insert_length}
use Rattle.rows.proofs.Place.{ascending_at}
use Rattle.rows.proofs.Leading.{leading_few, leading_stops, leading_past, place_pass_first, place_held, place_insert}
use Rattle.rows.proofs.LayoutLaws.{Sized, length_pieces, piece_at, flat_length, flat_pieces, pieces_flat}
use Rattle.rows.proofs.Pieces.{every_true, true_every, each_before_next, pieces_words, pieces_take, pieces_drop, flat_append}
use Rattle.rows.proofs.Put.{put_then_before}

-- ---- records one by one

-- one record more, and the records up to a place and from it on
pub one_more : (w i : ℕ) → w * (i + 1) ≡ w * i + w
one_more w i = rw add-one (mul-suc w i)

pub both_parts : (w i n : ℕ) → i ≤ n → w * n ≡ w * i + w * (n - i)
both_parts w i n h = let e : n ≡ i + (n - i) = omega arith in ap (λ (m : ℕ). w * m) e ∙ mul-add w i (n - i)

pub next_within : (w i n : ℕ) → i < n → w * i + w ≤ w * n
next_within w i n h = omega (arith, mul-suc w i, mul-le-mul_left {m = suc i} {n = n} w (omega arith))

module _ (w : ℕ) (area : List ℕ) where
  pub records_length : length (records_in w area) ≡ count_of area
  unfolding records_in
  records_length = length_pieces w (count_of area) (drop 1 area)

  pub records_words : Words area → All Words (records_in w area)
  unfolding records_in
  records_words p = pieces_words w (count_of area) (drop 1 area) (all_drop IsWord 1 area p)

  pub record_at_lem : (i : ℕ) → i < count_of area → get_or (records_in w area) i [] ≡ record_at w area i
  unfolding records_in record_at
  record_at_lem i h = piece_at w (count_of area) (drop 1 area) i h ∙ ap (take w) (drop-drop (w * i) 1 area)

  pub record_length : (i : ℕ) → 1 + w * (i + 1) ≤ length area → length (record_at w area i) ≡ w
  unfolding record_at
  record_length i h = length-take-le w (drop (1 + w * i) area) (omega (arith, one_more w i, length-drop (1 + w * i) area))

  pub behind_first : (before : List ℕ → List ℕ → Bool) (i : ℕ) → i ≡ 0 → behind_at w before area i ≡ true
  unfolding behind_at
  behind_first before i e = rw e

  pub behind_before : (before : List ℕ → List ℕ → Bool) (i : ℕ) → (i ≡ 0 → ⊥) → (r s : List ℕ) → s ≡ record_at w area (i - 1) → r ≡ record_at w area i → behind_at w before area i ≡ before s r
  unfolding behind_at
  behind_before before zero n r s e f = absurd (n refl)
  behind_before before (suc i) n r s e f = let k : suc i - 1 ≡ i = omega arith in rw (e, f, k)

-- ---- the whole of them

module _ (w most : ℕ) (sound : List ℕ → Bool) {before : List ℕ → List ℕ → Bool} (laws : StrictTotal before) (area : List ℕ) where
  -- sound, test by test
  pub record SoundRecords : Type 0 where
    pub long : 1 + w * most ≤ length area
    pub few : count_of area ≤ most
    pub each : All (λ r. sound r ≡ true) (records_in w area)
    pub order : Ascending before laws (records_in w area)

  pub true_sound : sound_records w most sound before area ≡ true → SoundRecords
  unfolding sound_records
  true_sound e = go (split (leb (1 + w * most) (length area) && leb (count_of area) most))
    where
      go : Case (leb (1 + w * most) (length area) && leb (count_of area) most) → SoundRecords
      go (is_true p) =
          let a = and_true (leb (1 + w * most) (length area)) _ p in
          let f : (every sound (records_in w area) && ascending before (records_in w area)) ≡ true = rw (p, sound_records) at e in
          let b = and_true (every sound (records_in w area)) _ f in
          record {
            long = leb-true (1 + w * most) (length area) a.0;
            few = leb-true (count_of area) most a.1;
            each = every_true sound (records_in w area) b.0;
            order = ascending_true before laws (records_in w area) b.1;
          }
      go (is_false p) = never e (rw (p, sound_records))

  pub sound_true : SoundRecords → sound_records w most sound before area ≡ true
  unfolding sound_records
  sound_true s =
      rw (le-leb (1 + w * most) (length area) s.long, le-leb (count_of area) most s.few, sound_records)
      (true_and (every sound (records_in w area)) _ (true_every sound (records_in w area) s.each) (true_ascending before laws (records_in w area) s.order))

  -- the tests that come first
  pub too_short : length area < 1 + w * most → false ≡ sound_records w most sound before area
  unfolding sound_records
  too_short h = rw (lt-leb (1 + w * most) (length area) h, sound_records)

  pub too_many : 1 + w * most ≤ length area → most < count_of area → false ≡ sound_records w most sound before area
  unfolding sound_records
  too_many h k = rw (le-leb (1 + w * most) (length area) h, lt-leb (count_of area) most k, sound_records)

  within : {i : ℕ} → i < length (records_in w area) → i < count_of area
  within h = omega (arith, records_length w area)

  inside : {i : ℕ} → i < count_of area → i < length (records_in w area)
  inside h = omega (arith, records_length w area)

  -- otherwise they are sound just if each passes the test and comes behind the one before
  pub sound_each : 1 + w * most ≤ length area → count_of area ≤ most →
      ((i : ℕ) → i < count_of area → (sound (record_at w area i) ≡ true) × (behind_at w before area i ≡ true)) → true ≡ sound_records w most sound before area
  unfolding behind_at
  sound_each h k f = sym (sound_true (record { long = h; few = k; each = each; order = ascending_true before laws (records_in w area) order }))
    where
      each : All (λ r. sound r ≡ true) (records_in w area)
      each = at_all (λ r. sound r ≡ true) (records_in w area) [] (λ i h. ap sound (record_at_lem w area i (within h)) ∙ (f i (within h)).0)

      order : ascending before (records_in w area) ≡ true
      order = each_before_next before (records_in w area) [] (λ i h. rw (record_at_lem w area i (within (omega arith)), record_at_lem w area (suc i) (within h)) (f (suc i) (within h)).1)

  module _ (s : SoundRecords) where
    pub record_sound_at : (i : ℕ) → i < count_of area → sound (record_at w area i) ≡ true
    record_sound_at i h = rw (← record_at_lem w area i h) (all_at (λ r. sound r ≡ true) (records_in w area) s.each i [] (inside h))

    record_behind_at : (i : ℕ) → i < count_of area → behind_at w before area i ≡ true
    unfolding behind_at
    record_behind_at zero h = refl
    record_behind_at (suc i) h = rw (← record_at_lem w area i (omega arith), ← record_at_lem w area (suc i) h) (ascending_at before laws [] (records_in w area) s.order i (suc i) (omega arith) (inside h))

  pub unsound_at : (i : ℕ) → i < count_of area → (sound (record_at w area i) && behind_at w before area i) ≡ false → false ≡ sound_records w most sound before area
  unsound_at i h e = go (split (sound_records w most sound before area))
    where
      go : Case (sound_records w most sound before area) → false ≡ sound_records w most sound before area
      go (is_true t) = never (true_and _ _ (record_sound_at (true_sound t) i h) (record_behind_at (true_sound t) i h)) e
      go (is_false t) = sym t

-- ---- the place of a record

module _ (w : ℕ) {before : List ℕ → List ℕ → Bool} (laws : StrictTotal before) (area r : List ℕ) where
  pub place_few : place_in before (records_in w area) r ≤ count_of area
  unfolding place_in
  place_few = omega (arith, leading_few (λ x. before x r) (records_in w area), records_length w area)

  pub place_stops : (i : ℕ) → i < count_of area → false ≡ before (record_at w area i) r → place_in before (records_in w area) r ≤ i
  unfolding place_in
  place_stops i h e = leading_stops (λ x. before x r) (records_in w area) [] i (omega (arith, records_length w area)) (rw (record_at_lem w area i h) (sym e))

  held_at_lem : (p : ℕ) → held_at w before area p r ≡ (ltb p (length (records_in w area)) && not (before r (get_or (records_in w area) p [])))
  unfolding held_at
  held_at_lem p = go (split (ltb p (count_of area)))
    where
      go : Case (ltb p (count_of area)) → held_at w before area p r ≡ (ltb p (length (records_in w area)) && not (before r (get_or (records_in w area) p [])))
      go (is_true e) = rw (records_length w area, e, record_at_lem w area p (ltb-true _ _ e))
      go (is_false e) = rw (records_length w area, e)

  pub held_here : (p : ℕ) (b : Bool) (s : List ℕ) → p < count_of area → b ≡ before r s → s ≡ record_at w area p → not b ≡ held_at w before area p r
  unfolding held_at
  held_here p b s h e f = rw (lt-ltb p (count_of area) h, e, f)

  pub held_none : (p : ℕ) → count_of area ≤ p → false ≡ held_at w before area p r
  unfolding held_at
  held_none p h = rw (le-ltb p (count_of area) h)

  module _ (order : Ascending before laws (records_in w area)) where
    pub place_passes : (i : ℕ) → i < count_of area → true ≡ before (record_at w area i) r → i < place_in before (records_in w area) r
    unfolding place_in
    place_passes i h e = leading_past (λ x. before x r) (records_in w area) [] i (place_pass_first before laws r (records_in w area) order) (omega (arith, records_length w area)) (rw (record_at_lem w area i h) (sym e))

    pub held_is : (p : ℕ) → p ≡ place_in before (records_in w area) r → held_at w before area p r ≡ lists before (records_in w area) r
    unfolding place_in
    held_is p e =
        held_at_lem p ∙ ap (λ (n : ℕ). ltb n (length (records_in w area)) && not (before r (get_or (records_in w area) n []))) e
        ∙ place_held before laws r (records_in w area) [] order

-- ---- how many begin before words

module _ (w : ℕ) (area words : List ℕ) (also : Bool) (short : length words ≤ w) where
  begins_front : (i : ℕ) (also : Bool) → begins_before also words (record_at w area i) ≡ begins_before also words (drop (1 + w * i) area)
  unfolding begins_before record_at
  begins_front i false = ap (λ (x : List ℕ). words_before x words) (take-take (length words) w (drop (1 + w * i) area) short)
  begins_front i true = ap (λ (x : List ℕ). not (words_before words x)) (take-take (length words) w (drop (1 + w * i) area) short)

  begins_record : (i : ℕ) → i < count_of area → begins_before also words (get_or (records_in w area) i []) ≡ begins_before also words (drop (1 + w * i) area)
  begins_record i h = ap (begins_before also words) (record_at_lem w area i h) ∙ begins_front i also

  pub count_few : leading (begins_before also words) (records_in w area) ≤ count_of area
  count_few = omega (arith, leading_few (begins_before also words) (records_in w area), records_length w area)

  pub count_stops : (i : ℕ) → i < count_of area → false ≡ begins_before also words (drop (1 + w * i) area) → leading (begins_before also words) (records_in w area) ≤ i
  count_stops i h e = leading_stops (begins_before also words) (records_in w area) [] i (omega (arith, records_length w area)) (begins_record i h ∙ sym e)

  pub count_passes : PassFirst (begins_before also words) (records_in w area) → (i : ℕ) → i < count_of area → true ≡ begins_before also words (drop (1 + w * i) area) →
      i < leading (begins_before also words) (records_in w area)
  count_passes p i h e = leading_past (begins_before also words) (records_in w area) [] i p (omega (arith, records_length w area)) (begins_record i h ∙ sym e)

-- the words from one place to another are those of the records between
pub records_between : (w : ℕ) (area : List ℕ) (p q : ℕ) → p ≤ q → q ≤ count_of area → 1 + w * count_of area ≤ length area →
    take (1 + w * q - (1 + w * p)) (drop (1 + w * p) area) ≡ flat (take (q - p) (drop p (records_in w area)))
unfolding records_in
records_between w area p q o few whole =
    let n : 1 + w * q - (1 + w * p) ≡ w * (q - p) = omega (arith, both_parts w p q o) in
    let past = both_parts w q (count_of area) few in
    rw n (sym (
    ap (λ (rs : List (List ℕ)). flat (take (q - p) rs)) (pieces_drop w p (count_of area) (drop 1 area) (omega arith))
    ∙ ap flat (pieces_take w (q - p) (count_of area - p) (drop (w * p) (drop 1 area)) (omega arith))
    ∙ flat_pieces w (q - p) (drop (w * p) (drop 1 area)) (omega (arith, both_parts w p q o, length-drop 1 area, length-drop (w * p) (drop 1 area)))
    ∙ ap (take (w * (q - p))) (drop-drop (w * p) 1 area)))

-- ---- other records in the same area

module _ (w : ℕ) (rs : List (List ℕ)) (area : List ℕ) (sized : All (Sized w) rs) where
  pub with_records_lem : records_in w (with_records w rs area) ≡ rs
  unfolding records_in with_records
  with_records_lem = pieces_flat w rs _ sized

  pub with_length : 1 + w * length rs ≤ length area → length (with_records w rs area) ≡ length area
  unfolding with_records
  with_length h = let f = flat_length w rs sized in simp (length-append, length-drop) (omega arith)

  pub with_past : drop (1 + w * length rs) (with_records w rs area) ≡ drop (1 + w * length rs) area
  unfolding with_records
  with_past = drop_at (length rs ∷ flat rs) (drop (1 + w * length rs) area) (1 + w * length rs) (omega (arith, flat_length w rs sized))

-- ---- a record put in at its place

set_first : (ws : List ℕ) (n v : ℕ) (t : List ℕ) → 1 ≤ length ws → set (take (1 + n) ws ++ t) 0 v ≡ v ∷ (take n (drop 1 ws) ++ t)
set_first [] n v t h = absurd (omega arith)
set_first (x ∷ ws) n v t h = let e : 1 + n ≡ suc n = omega arith in rw e

module _ (w : ℕ) (area r : List ℕ) (p : ℕ) (few : p ≤ count_of area) (room : 1 + w * (count_of area + 1) ≤ length area) (whole : length r ≡ w) where
  abbrev later : List ℕ
  later = take (w * (count_of area - p)) (drop (1 + w * p) area)

  sizes : (w * (count_of area + 1) ≡ w * count_of area + w) × (w * count_of area ≡ w * p + w * (count_of area - p))
  sizes = (one_more w (count_of area), both_parts w p (count_of area) few)

  later_length : length later ≡ w * (count_of area - p)
  later_length = let s = sizes in length-take-le (w * (count_of area - p)) (drop (1 + w * p) area) (omega (arith, length-drop (1 + w * p) area))

  -- the records after it are moved up, then it is written before them
  pub put_is : put (1 + w * p) r (put (1 + w * p + w) later area) ≡ put (1 + w * p) (r ++ later) area
  put_is =
      let s = sizes in
      ap (λ (n : ℕ). put (1 + w * p) r (put (1 + w * p + n) later area)) (sym whole)
      ∙ put_then_before (1 + w * p) r later area (omega (arith, later_length))

  put_flat : flat (take p (records_in w area) ++ (r ∷ drop p (records_in w area))) ≡ take (w * p) (drop 1 area) ++ (r ++ later)
  unfolding records_in flat
  put_flat =
      let words : List ℕ = drop 1 area in
      let s = sizes in
      let l = length-drop 1 area in
      let m = length-drop (w * p) words in
      flat_append (take p (records_in w area)) (r ∷ drop p (records_in w area))
      ∙ rw (
        pieces_take w p (count_of area) words few,
        pieces_drop w p (count_of area) words few,
        flat_pieces w p words (omega arith),
        flat_pieces w (count_of area - p) (drop (w * p) words) (omega arith),
        drop-drop (w * p) 1 area,
      )

  put_words : put_in w area p r ≡ (count_of area + 1) ∷ ((take (w * p) (drop 1 area) ++ (r ++ later)) ++ drop (1 + w * (count_of area + 1)) area)
  unfolding put_in put
  put_words =
      let s = sizes in
      let past : 1 + w * p + length (r ++ later) ≡ 1 + w * (count_of area + 1) = omega (arith, length-append r later, later_length) in
      set_first area (w * p) (count_of area + 1) _ (omega arith)
      ∙ rw past (ap (λ (l : List ℕ). (count_of area + 1) ∷ l) (sym (append_assoc (take (w * p) (drop 1 area)) (r ++ later) (drop (1 + w * (count_of area + 1)) area))))

  pub put_is_insert : {before : List ℕ → List ℕ → Bool} (laws : StrictTotal before) → p ≡ place_in before (records_in w area) r → (¬ (r ∈ records_in w area)) →
      put_in w area p r ≡ with_records w (insert before r (records_in w area)) area
  unfolding with_records place_in
  put_is_insert {before} laws e new =
      let l : length (insert before r (records_in w area)) ≡ count_of area + 1 =
      insert_length before laws r (records_in w area) new ∙ sym (add-one _) ∙ ap (λ (n : ℕ). n + 1) (records_length w area) in
      let i : insert before r (records_in w area) ≡ take p (records_in w area) ++ (r ∷ drop p (records_in w area)) =
      place_insert before laws r (records_in w area) new ∙ ap (λ (n : ℕ). take n (records_in w area) ++ (r ∷ drop n (records_in w area))) (sym e) in
      put_words
      ∙ sym (rw (l, i, put_flat))
