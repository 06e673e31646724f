-- Union and difference in words: which rows each pair of forms keeps, and the value in its place.
use Prim.Native.Nat.{ℕ, zero, suc, ◌+◌, ◌*◌, ◌-◌, ◌≤◌, ◌<◌}
use mathlib.Core.Path.{◌≡◌, refl, sym, ◌∙◌, ap}
use mathlib.Core.Logic.{inl}
use mathlib.Core.Bool.{Bool, true, false}
use mathlib.Core.List.{List}
use native.Mathlib.Omega.{arith}
use lib.Dec.{leb, eqb}
use lib.ListN.{length, get_or, drop, set, length-drop}
use lib.Seq.{get_or-drop, get_or-set_other}
use borrow.Author.Tests.{le-leb, lt-leb}
use Rattle.rows.specs.Ordered.{join}
use Rattle.rows.specs.Row.{Row, row_before}
use Rattle.rows.specs.Sets.{RowSet, all_but, listing, most_rows, unite, subtract, combined}
use Rattle.rows.specs.Layout.{laid, written, put, rows_in, formed, set_in}
use Rattle.set_algebra.specs.Combined.{TwoSets, left_by, Combined}
use Rattle.set_algebra.specs.Private.{room_at, lefts, rights, Apart, Rooms, alike, picked, rest}
use Rattle.rows.proofs.Order.{row_order}
use Rattle.rows.proofs.Ordered.{Ascending}
use Rattle.rows.proofs.Joining.{join_turned}
use Rattle.rows.proofs.Put.{put_length, put_before}
use Rattle.rows.proofs.LayoutLaws.{formed_listing, formed_word}
use Rattle.sets.proofs.SetWords.{sound_ascending}
use Rattle.sets.proofs.Laid.{laid_length, narrow_in, written_count, written_new}
use Rattle.sets.proofs.Front.{front_of, rows_same, sound_same}
use Rattle.set_algebra.proofs.Walking.{room_few, room_form}
use Rattle.set_algebra.proofs.Filtering.{picked_length, picked_narrow}
use Rattle.set_algebra.proofs.Merging.{counts, narrow_both}

-- ---- the rows of both, listed together

module _ (a : List ℕ) (rooms : Rooms a 0 642) where
  abbrev xs : List Row
  xs = lefts a

  abbrev ys : List Row
  ys = rights a

  pub too_many : (total : ℕ) → total ≡ length (join row_before xs ys) → 128 < total → false ≡ leb (length (join row_before xs ys)) most_rows
  too_many total e h = sym (lt-leb (length (join row_before xs ys)) most_rows (omega arith))

  pub joined_fits : (total : ℕ) → total ≡ length (join row_before xs ys) → total ≤ 128 → true ≡ leb (length (join row_before xs ys)) most_rows
  joined_fits total e h = sym (le-leb (length (join row_before xs ys)) most_rows (omega arith))

  pub joined_words : (total : ℕ) (now : List ℕ) → total ≡ length (join row_before xs ys) → total ≤ 128 → now ≡ put 2 (laid (join row_before xs ys)) a → set now 1 total ≡ left_by true (formed (get_or a 0 0) (join row_before xs ys)) a
  unfolding left_by
  joined_words total now e h w =
      let both : List Row = join row_before xs ys in
      let S : RowSet = formed (get_or a 0 0) (join row_before xs ys) in
      let c = counts a rooms in
      let ls : listing (formed (get_or a 0 0) (join row_before xs ys)) ≡ join row_before xs ys = formed_listing (get_or a 0 0) (join row_before xs ys) in
      let ll : length (laid (listing (formed (get_or a 0 0) (join row_before xs ys)))) ≡ 5 * length (join row_before xs ys) = ap (λ (l : List Row). length (laid l)) ls ∙ laid_length (join row_before xs ys) (narrow_both a rooms) in
      ap (λ (l : List ℕ). set l 1 total) (w ∙ ap (λ (l : List Row). put 2 (laid l) a) (sym ls))
      ∙ ap (set (put 2 (laid (listing (formed (get_or a 0 0) (join row_before xs ys)))) a) 1) (e ∙ ap length (sym ls))
      ∙ written_count S a (omega arith) (formed_word (get_or a 0 0) (join row_before xs ys) (room_form a 0 rooms.one_room rooms.one_sound))

  pub none_left_over : a ≡ left_by false (formed (get_or a 0 0) (join row_before xs ys)) a
  unfolding left_by
  none_left_over = refl

  -- ---- the right's rows that the left lacks

  rest_few : length (rest a) ≤ 128
  rest_few = omega (arith, picked_length false ys xs, room_few a 642 rooms.other_room rooms.other_sound)

  rest_room : 2 + length (laid (rest a)) ≤ length a
  rest_room = omega (arith, laid_length (rest a) (picked_narrow false ys xs (narrow_in (room_at 642 a))), rest_few, rooms.other_room)

  -- they are in their places, the header is to be written
  pub record RestNumbers (now : List ℕ) : Type 0 where
    pub few : length (rest a) ≤ 128
    pub room : 1284 ≤ length a
    pub size : length now ≡ length a
    pub form : get_or a 0 0 ≤ 1
    pub form_now : (kept : ℕ) → get_or (set now 1 kept) 0 0 ≡ get_or a 0 0

  module _ (now : List ℕ) (w : now ≡ put 2 (laid (rest a)) a) where
    pub rest_numbers : RestNumbers now
    rest_numbers = record {
      few = rest_few;
      room = omega (arith, rooms.other_room);
      size = ap length w ∙ put_length 2 (laid (rest a)) a rest_room;
      form = room_form a 0 rooms.one_room rooms.one_sound;
      form_now = λ kept. get_or-set_other now 1 0 kept 0 (omega arith) ∙ ap (λ (l : List ℕ). get_or l 0 0) w ∙ put_before 2 (laid (rest a)) a rest_room 0 (omega arith);
    }

  pub rest_words : (kept : ℕ) (now : List ℕ) → now ≡ put 2 (laid (rest a)) a → kept ≡ length (rest a) →
      set (set now 1 kept) 0 (1 - get_or (set now 1 kept) 0 0) ≡ written (formed (1 - get_or a 0 0) (rest a)) a
  rest_words kept now w n =
      let b = rest_numbers now w in
      let form : ℕ = 1 - get_or a 0 0 in
      let S : RowSet = formed (1 - get_or a 0 0) (rest a) in
      let ls : listing (formed (1 - get_or a 0 0) (rest a)) ≡ rest a = formed_listing (1 - get_or a 0 0) (rest a) in
      let room : 2 + length (laid (listing (formed (1 - get_or a 0 0) (rest a)))) ≤ length a = omega (arith, rest_room, ap (λ (l : List Row). length (laid l)) ls) in
      ap (λ (k : ℕ). set (set now 1 kept) 0 (1 - k)) (b.form_now kept) ∙ ap (λ (l : List ℕ). set (set l 1 kept) 0 form) w ∙ ap (λ (k : ℕ). set (set (put 2 (laid (rest a)) a) 1 k) 0 form) n
      ∙ ap (λ (l : List Row). set (set (put 2 (laid l) a) 1 (length l)) 0 form) (sym ls)
      ∙ ap (set (set (put 2 (laid (listing S)) a) 1 (length (listing S))) 0) (sym (formed_word form (rest a) (omega arith))) ∙ written_new S a room

-- ---- what each pair of forms comes to

-- a complement in a union and a finite set in a difference list less; the others list more with a finite set, and with a complement what it lists and they do not
listed_by : Bool → Bool → ℕ → List Row → List Row → RowSet
listed_by false complement form us vs = formed form (picked complement us vs)
listed_by true true form us vs = formed (1 - form) (picked false vs us)
listed_by true false form us vs = formed form (join row_before us vs)

module _ (us vs : List Row) (up : Ascending row_before row_order us) (vp : Ascending row_before row_order vs) where
  by_forms : (minus : Bool) (l r : ℕ) → l ≤ 1 → r ≤ 1 → combined minus (formed l us) (formed r vs) ≡ listed_by (alike minus (eqb l 1)) (eqb r 1) l us vs
  unfolding combined unite subtract formed picked listed_by
  by_forms true zero zero h k = refl
  by_forms true zero (suc zero) h k = refl
  by_forms true (suc zero) zero h k = ap all_but (join_turned row_before row_order vs us vp up)
  by_forms true (suc zero) (suc zero) h k = refl
  by_forms false zero zero h k = refl
  by_forms false zero (suc zero) h k = refl
  by_forms false (suc zero) zero h k = refl
  by_forms false (suc zero) (suc zero) h k = refl
  by_forms minus (suc (suc l)) r h k = absurd (omega arith)
  by_forms minus zero (suc (suc r)) h k = absurd (omega arith)
  by_forms minus (suc zero) (suc (suc r)) h k = absurd (omega arith)

-- ---- the value in its place

module _ (a : List ℕ) (two : TwoSets a) where
  pub rooms : Rooms a 0 642
  unfolding Apart
  rooms =
      let n = two.alone in
      let d = length-drop 642 a in
      record {
        apart = inl (omega arith);
        one_room = omega arith;
        other_room = omega arith;
        one_sound = sound_same (front_of a (omega arith)) two.left;
        other_sound = sound_same (front_of (drop 642 a) (omega arith)) two.right;
      }

  left_form : get_or a 0 0 ≤ 1
  left_form = room_form a 0 rooms.one_room rooms.one_sound

  right_form : get_or a 642 0 ≤ 1
  right_form = room_form a 642 rooms.other_room rooms.other_sound

  left_is : set_in a ≡ formed (get_or a 0 0) (lefts a)
  unfolding set_in
  left_is = ap (formed (get_or a 0 0)) (sym (rows_same (front_of a rooms.one_room) two.left))

  right_is : set_in (drop 642 a) ≡ formed (get_or a 642 0) (rights a)
  unfolding set_in
  right_is =
      ap (λ (n : ℕ). formed n (rows_in (drop 642 a))) (get_or-drop 642 a 0 0)
      ∙ ap (formed (get_or a 642 0)) (sym (rows_same (front_of (drop 642 a) (omega (arith, length-drop 642 a, rooms.other_room))) two.right))

  module _ (minus : Bool) where
    abbrev value : RowSet
    value = combined minus (set_in a) (set_in (drop 642 a))

    value_is : combined minus (set_in a) (set_in (drop 642 a)) ≡ listed_by (alike minus (eqb (get_or a 0 0) 1)) (eqb (get_or a 642 0) 1) (get_or a 0 0) (lefts a) (rights a)
    value_is =
        ap (λ (s : RowSet). combined minus s (set_in (drop 642 a))) left_is ∙ ap (combined minus (formed (get_or a 0 0) (lefts a))) right_is
        ∙ by_forms (lefts a) (rights a) (sound_ascending (room_at 0 a) rooms.one_sound) (sound_ascending (room_at 642 a) rooms.other_sound) minus (get_or a 0 0) (get_or a 642 0) left_form right_form

    -- the value lists these rows, and is left there if they are not too many
    place : (form : ℕ) (rows : List Row) → combined minus (set_in a) (set_in (drop 642 a)) ≡ formed form rows →
        (fits : Bool) (after : List ℕ) → fits ≡ leb (length rows) most_rows → after ≡ left_by fits (formed form rows) a → Combined value a after fits
    place form rows v fits after f w = record {
      answer = f ∙ ap (λ (l : List Row). leb (length l) most_rows) (sym (formed_listing form rows) ∙ ap listing (sym v));
      words = w ∙ ap (λ (s : RowSet). left_by fits s a) (sym v);
    }

    pub filtered_value : alike minus (eqb (get_or a 0 0) 1) ≡ false → (after : List ℕ) → after ≡ written (formed (get_or a 0 0) (picked (eqb (get_or a 642 0) 1) (lefts a) (rights a))) a → Combined value a after true
    unfolding left_by listed_by
    filtered_value e after w =
        let few : length (picked (eqb (get_or a 642 0) 1) (lefts a) (rights a)) ≤ 128 = omega (arith, picked_length (eqb (get_or a 642 0) 1) (lefts a) (rights a), room_few a 0 rooms.one_room rooms.one_sound) in
        place (get_or a 0 0) _ (value_is ∙ ap (λ (b : Bool). listed_by b (eqb (get_or a 642 0) 1) (get_or a 0 0) (lefts a) (rights a)) e) true after (sym (le-leb _ 128 few)) w

    module _ (e : alike minus (eqb (get_or a 0 0) 1) ≡ true) where
      right_form_decides : (c : Bool) → eqb (get_or a 642 0) 1 ≡ c → combined minus (set_in a) (set_in (drop 642 a)) ≡ listed_by true c (get_or a 0 0) (lefts a) (rights a)
      right_form_decides c q =
          value_is ∙ ap (λ (b : Bool). listed_by b (eqb (get_or a 642 0) 1) (get_or a 0 0) (lefts a) (rights a)) e ∙ ap (λ (b : Bool). listed_by true b (get_or a 0 0) (lefts a) (rights a)) q

      pub rest_value : eqb (get_or a 642 0) 1 ≡ true → (after : List ℕ) → after ≡ written (formed (1 - get_or a 0 0) (rest a)) a → Combined value a after true
      unfolding left_by listed_by
      rest_value c after w = place (1 - get_or a 0 0) (rest a) (right_form_decides true c) true after (sym (le-leb _ 128 (rest_few a rooms))) w

      pub joined_value : eqb (get_or a 642 0) 1 ≡ false → (fits : Bool) (after : List ℕ) →
          fits ≡ leb (length (join row_before (lefts a) (rights a))) most_rows → after ≡ left_by fits (formed (get_or a 0 0) (join row_before (lefts a) (rights a))) a → Combined value a after fits
      unfolding listed_by
      joined_value c = place (get_or a 0 0) (join row_before (lefts a) (rights a)) (right_form_decides false c)
