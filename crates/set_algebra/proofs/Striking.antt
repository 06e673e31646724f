-- The right's rows that the left lists are struck out; then the others are taken, and the strokes taken back.
use Prim.Native.Nat.{ℕ, suc, ◌+◌, ◌*◌, ◌-◌, ◌≤◌, ◌<◌}
use mathlib.Core.Path.{◌≡◌, refl, sym, ◌∙◌, ap}
use mathlib.Core.Bool.{Bool, true, false}
use mathlib.Core.List.{List, [], ◌∷◌, ◌++◌, append_assoc, append-nil}
use native.Mathlib.Omega.{arith}
use lib.ListN.{length, get_or, take, drop, set, length-append, length-drop, length-set, drop_of_length-le}
use lib.Seq.{take-suc, take_all, length-take-le, drop-cons}
use Rattle.rows.specs.Word.{All}
use Rattle.rows.specs.Ordered.{lists, keep, without}
use Rattle.rows.specs.Row.{Row, row_before}
use Rattle.rows.specs.Layout.{row_words, five_at, flat, laid, put}
use Rattle.set_algebra.specs.Private.{room_at, lefts, rights, Rooms, Passed, alike, picked, rest, struck_words, struck, strike_out}
use Rattle.rows.proofs.Case.{Case, is_true, is_false, split}
use Rattle.rows.proofs.Lists.{all_at, all_take, all_drop}
use Rattle.rows.proofs.Put.{put_length, put_before, part_before, part_after, part_itself, put_then_after, put_then_before, put_first, put_past, put_none, put_itself}
use Rattle.rows.proofs.LayoutLaws.{row_length}
use Rattle.row_words.proofs.RowLaws.{five_width}
use Rattle.sets.proofs.SetWords.{sound_ascending}
use Rattle.sets.proofs.Laid.{Narrow, laid_length, narrow_in}
use Rattle.set_algebra.proofs.Walking.{Walk, walk_start, walk_on, room_few, room_count, room_row}
use Rattle.set_algebra.proofs.Filtering.{picked_length, picked_narrow, picked_more, picked_less, laid_more}

-- ---- rows struck out

struck_width : (b : Bool) (r : Row) → length r ≤ 4 → length (struck_words b r) ≡ 5
unfolding struck_words
struck_width true r h = length-set (row_words r) 0 (length r + 8) ∙ row_length r h
struck_width false r h = row_length r h

struck_length : (xs zs : List Row) → Narrow zs → length (struck xs zs) ≡ 5 * length zs
unfolding struck All
struck_length xs [] a = omega arith
struck_length xs (z ∷ zs) a =
    omega (arith, length-append (struck_words (lists row_before xs z) z) (struck xs zs), struck_width (lists row_before xs z) z a.0, struck_length xs zs a.1)

struck_append : (xs us vs : List Row) → struck xs (us ++ vs) ≡ struck xs us ++ struck xs vs
unfolding struck
struck_append xs [] vs = refl
struck_append xs (u ∷ us) vs =
    ap (λ (l : List ℕ). struck_words (lists row_before xs u) u ++ l) (struck_append xs us vs) ∙ sym (append_assoc (struck_words (lists row_before xs u) u) (struck xs us) (struck xs vs))

struck_more : (xs us : List Row) (u : Row) → struck xs (us ++ (u ∷ [])) ≡ struck xs us ++ struck_words (lists row_before xs u) u
unfolding struck
struck_more xs us u = struck_append xs us (u ∷ []) ∙ ap (λ (l : List ℕ). struck xs us ++ l) (append-nil (struck_words (lists row_before xs u) u))

-- a stroke drawn, and taken back
draw_stroke : (at : ℕ) (r : Row) (area : List ℕ) → length r ≤ 4 → at + 5 ≤ length area → set (put at (row_words r) area) at (length r + 8) ≡ put at (struck_words true r) area
unfolding struck_words row_words
draw_stroke at r area h room = put_first at (length r) (length r + 8) _ area (omega (arith, row_length r h))

take_stroke : (at : ℕ) (r : Row) (area ws : List ℕ) → length r ≤ 4 → at + (5 + length ws) ≤ length area → set (put at (struck_words true r ++ ws) area) at (length r) ≡ put at (row_words r ++ ws) area
unfolding struck_words row_words
take_stroke at r area ws h room = put_first at (length r + 8) (length r) _ area (omega (arith, length-append (row_words r) ws, row_length r h))

-- the width that stands there tells whether there is a stroke
struck_first : (r : Row) → get_or (struck_words true r) 0 0 ≡ length r + 8
unfolding struck_words row_words
struck_first r = refl

plain_first : (r : Row) → get_or (struck_words false r) 0 0 ≡ length r
unfolding struck_words row_words
plain_first r = refl

module _ (a : List ℕ) where
  -- the right's first `i` rows are struck out where the left lists them
  pub record Striking (now : List ℕ) (i j : ℕ) : Type 0 where
    pub walk : Walk (rights a) (lefts a) i j
    pub size : length now ≡ length a
    pub words : now ≡ put 644 (struck (lefts a) (take i (rights a))) a

  -- those of the first `i` rows that were not struck out are taken, and the strokes of the others taken back
  pub record Taking (now : List ℕ) (i kept : ℕ) : Type 0 where
    pub within : i ≤ length (rights a)
    pub count : kept ≡ length (picked false (take i (rights a)) (lefts a))
    pub size : length now ≡ length a
    pub words : now ≡ put 2 (laid (picked false (take i (rights a)) (lefts a))) (put (644 + 5 * i) (struck (lefts a) (drop i (rights a))) a)

module _ (a : List ℕ) (rooms : Rooms a 0 642) where
  abbrev xs : List Row
  xs = lefts a

  abbrev ys : List Row
  ys = rights a

  few : length ys ≤ 128
  few = room_few a 642 rooms.other_room rooms.other_sound

  narrow : Narrow ys
  narrow = narrow_in (room_at 642 a)

  pub row_narrow : (i : ℕ) → i < length ys → length (get_or ys i []) ≤ 4
  row_narrow i h = all_at _ ys narrow i [] h

  own : (i : ℕ) → i < length ys → five_at a (644 + 5 * i) ≡ row_words (get_or ys i [])
  own i h = room_row a 642 rooms.other_room rooms.other_sound i h

  -- ---- struck out so far

  pub record Lengths : Type 0 where
    pub rows : length ys ≤ 128
    pub count : get_or a 643 0 ≡ length ys
    pub room : 1284 ≤ length a

  pub lengths : Lengths
  lengths = record { rows = few; count = room_count a 642 rooms.other_room rooms.other_sound; room = omega (arith, rooms.other_room) }

  pub striking_start : Striking a a 0 0
  unfolding struck
  striking_start = record { walk = walk_start ys xs; size = refl; words = sym (put_none 644 a) }

  module _ (now : List ℕ) (i j : ℕ) (s : Striking a now i j) where
    so_far : length (struck xs (take i ys)) ≡ 5 * i
    so_far = omega (arith, struck_length xs (take i ys) (all_take _ i ys narrow), length-take-le i ys s.walk.within)

    pub lefts_kept : room_at 0 now ≡ room_at 0 a
    lefts_kept =
        let l = so_far in
        let w = s.walk.within in
        let m = few in
        let r = rooms.other_room in
        ap (room_at 0) s.words ∙ part_before 644 (struck xs (take i ys)) a (omega arith) 0 642 (omega arith)

    pub row_here : i < length ys → five_at now (644 + 5 * i) ≡ row_words (get_or ys i [])
    row_here h =
        let l = so_far in
        let m = few in
        let r = rooms.other_room in
        ap (λ (z : List ℕ). five_at z (644 + 5 * i)) s.words ∙ part_after 644 (struck xs (take i ys)) a (omega arith) (644 + 5 * i) 5 (omega arith) ∙ own i h

    module _ (h : i < length ys) where
      next_words : (after : List ℕ) → after ≡ put (644 + 5 * i) (struck_words (lists row_before xs (get_or ys i [])) (get_or ys i [])) now → after ≡ put 644 (struck xs (take (i + 1) ys)) a
      next_words after e =
          let w : List ℕ = struck_words (lists row_before xs (get_or ys i [])) (get_or ys i []) in
          let l = so_far in
          let m = few in
          let r = rooms.other_room in
          let five = struck_width (lists row_before xs (get_or ys i [])) (get_or ys i []) (row_narrow i h) in
          let at : 644 + 5 * i ≡ 644 + length (struck xs (take i ys)) = omega arith in
          let more : i + 1 ≡ suc i = omega arith in
          e ∙ ap (put (644 + 5 * i) w) s.words ∙ ap (λ (n : ℕ). put n w (put 644 (struck xs (take i ys)) a)) at ∙ put_then_after 644 (struck xs (take i ys)) w a (omega arith)
          ∙ ap (λ (l : List ℕ). put 644 l a) (sym (struck_more xs (take i ys) (get_or ys i []))) ∙ ap (λ (l : List Row). put 644 (struck xs l) a) (sym (take-suc ys i [] h) ∙ ap (λ (n : ℕ). take n ys) (sym more))

      -- its own words, written again
      again : put (644 + 5 * i) (row_words (get_or ys i [])) now ≡ now
      again =
          let m = few in
          let r = rooms.other_room in
          let z = s.size in
          ap (λ (l : List ℕ). put (644 + 5 * i) l now) (sym (row_here h)) ∙ put_itself (644 + 5 * i) 5 now (omega arith)

      on : {k : ℕ} → Passed xs (get_or ys i []) k → Walk ys xs (i + 1) k
      on = walk_on (sound_ascending (room_at 642 a) rooms.other_sound) h

      pub striking_left : {k : ℕ} → Passed xs (get_or ys i []) k → lists row_before xs (get_or ys i []) ≡ false → Striking a now (i + 1) k
      unfolding struck_words
      striking_left p e = record {
        walk = on p;
        size = s.size;
        words = next_words now (sym again ∙ ap (λ (b : Bool). put (644 + 5 * i) (struck_words b (get_or ys i [])) now) (sym e));
      }

      pub striking_struck : {k : ℕ} → Passed xs (get_or ys i []) k → lists row_before xs (get_or ys i []) ≡ true → (v : ℕ) → v ≡ length (get_or ys i []) + 8 → Striking a (set now (644 + 5 * i) v) (i + 1) k
      striking_struck p e v q =
          let m = few in
          let r = rooms.other_room in
          let z = s.size in
          record {
            walk = on p;
            size = length-set now (644 + 5 * i) v ∙ s.size;
            words = next_words (set now (644 + 5 * i) v)
                (ap (set now (644 + 5 * i)) q ∙ ap (λ (l : List ℕ). set l (644 + 5 * i) (length (get_or ys i []) + 8)) (sym again) ∙ draw_stroke (644 + 5 * i) (get_or ys i []) now (row_narrow i h) (omega arith)
                ∙ ap (λ (b : Bool). put (644 + 5 * i) (struck_words b (get_or ys i [])) now) (sym e));
          }

    pub width_here : i < length ys → get_or now (644 + 5 * i) 0 ≡ length (get_or ys i [])
    unfolding row_words
    width_here h = sym (five_width now (644 + 5 * i)) ∙ ap (λ (l : List ℕ). get_or l 0 0) (row_here h)

    pub striking_end : length ys ≤ i → now ≡ strike_out a
    striking_end h = s.words ∙ ap (λ (l : List Row). put 644 (struck xs l) a) (take_all i ys h)

  -- ---- the others taken so far

  struck_room : 644 + length (struck xs ys) ≤ length a
  struck_room = let m = few in let r = rooms.other_room in omega (arith, struck_length xs ys narrow)

  pub taking_start : (now : List ℕ) → now ≡ strike_out a → Taking a now 0 0
  unfolding picked without keep flat
  taking_start now e = record {
    within = omega arith;
    count = refl;
    size = ap length e ∙ put_length 644 (struck xs ys) a struck_room;
    words = e ∙ sym (put_none 2 (strike_out a));
  }

  pub struck_count : (now : List ℕ) → now ≡ strike_out a → get_or now 643 0 ≡ length ys
  struck_count now e =
      ap (λ (l : List ℕ). get_or l 643 0) e ∙ put_before 644 (struck xs ys) a struck_room 643 (omega arith) ∙ room_count a 642 rooms.other_room rooms.other_sound

  module _ (now : List ℕ) (i kept : ℕ) (t : Taking a now i kept) where
    abbrev P : List Row
    P = picked false (take i ys) xs

    taken_length : length (laid (picked false (take i ys) xs)) ≡ 5 * kept
    taken_length = omega (arith, laid_length P (picked_narrow false (take i ys) xs (all_take _ i ys narrow)), t.count)

    kept_few : kept ≤ i
    kept_few = omega (arith, t.count, picked_length false (take i ys) xs, length-take-le i ys t.within)

    pub record Bounds : Type 0 where
      pub rows : length ys ≤ 128
      pub low : kept ≤ i
      pub within : i ≤ length ys
      pub room : 1284 ≤ length a
      pub size : length now ≡ length a

    pub bounds : Bounds
    bounds = record { rows = few; low = kept_few; within = t.within; room = omega (arith, rooms.other_room); size = t.size }

    module _ (h : i < length ys) where
      abbrev y : Row
      y = get_or ys i []

      abbrev W : List ℕ
      W = struck_words (lists row_before xs y) y

      abbrev R : List ℕ
      R = struck xs (drop (i + 1) ys)

      next : struck xs (drop i ys) ≡ W ++ R
      unfolding struck
      next = let e : suc i ≡ i + 1 = omega arith in ap (struck xs) (drop-cons ys i [] h ∙ ap (λ (k : ℕ). y ∷ drop k ys) e)

      five : length W ≡ 5
      five = struck_width (lists row_before xs y) y (row_narrow i h)

      later : length R ≡ 5 * (length ys - (i + 1))
      later = omega (arith, struck_length xs (drop (i + 1) ys) (all_drop _ (i + 1) ys narrow), length-drop (i + 1) ys)

      now_is : now ≡ put 2 (laid P) (put (644 + 5 * i) (W ++ R) a)
      now_is = t.words ∙ ap (λ (l : List ℕ). put 2 (laid P) (put (644 + 5 * i) l a)) next

      words_here : five_at now (644 + 5 * i) ≡ W
      words_here =
          let b = bounds in
          let l = taken_length in
          let f = five in
          let g = later in
          let m : length (W ++ R) ≡ 5 + length R = omega (arith, length-append W R) in
          let z : length (put (644 + 5 * i) (W ++ R) a) ≡ length a = put_length (644 + 5 * i) (W ++ R) a (omega (arith, b.rows, b.room)) in
          ap (λ (l : List ℕ). five_at l (644 + 5 * i)) now_is ∙ part_after 2 (laid P) (put (644 + 5 * i) (W ++ R) a) (omega (arith, b.rows, b.room, b.low)) (644 + 5 * i) 5 (omega (arith, b.rows, b.low))
          ∙ ap (λ (l : List ℕ). five_at l (644 + 5 * i)) (sym (put_then_before (644 + 5 * i) W R a (omega (arith, b.rows, b.room))))
          ∙ ap (λ (k : ℕ). take k (drop (644 + 5 * i) (put (644 + 5 * i) W (put (644 + 5 * i + length W) R a)))) (sym f)
          ∙ part_itself (644 + 5 * i) W (put (644 + 5 * i + length W) R a) (omega (arith, b.rows, b.room, put_length (644 + 5 * i + length W) R a (omega (arith, b.rows, b.room))))

      width_is : get_or now (644 + 5 * i) 0 ≡ get_or W 0 0
      width_is = sym (five_width now (644 + 5 * i)) ∙ ap (λ (l : List ℕ). get_or l 0 0) words_here

      -- its own words behind it, the row need not be written
      restored : put (644 + 5 * i) (row_words y ++ R) a ≡ put (644 + 5 * (i + 1)) R a
      restored =
          let b = bounds in
          let g = later in
          let n : length (row_words y) ≡ 5 = row_length y (row_narrow i h) in
          let k : 644 + 5 * i + length (row_words y) ≡ 644 + 5 * (i + 1) = omega arith in
          sym (put_then_after (644 + 5 * i) (row_words y) R a (omega (arith, b.rows, b.room)))
          ∙ ap (put (644 + 5 * i + length (row_words y)) R) (ap (λ (l : List ℕ). put (644 + 5 * i) l a) (sym (own i h)) ∙ put_itself (644 + 5 * i) 5 a (omega (arith, b.rows, b.room)))
          ∙ ap (λ (n : ℕ). put n R a) k

      -- it is struck out
      module _ (e : lists row_before xs y ≡ true) where
        stroke_here : get_or now (644 + 5 * i) 0 ≡ length y + 8
        stroke_here = width_is ∙ ap (λ (c : Bool). get_or (struck_words c y) 0 0) e ∙ struck_first y

        struck_taken : (v : ℕ) → v ≡ length y → Taking a (set now (644 + 5 * i) v) (i + 1) kept
        struck_taken v q =
            let b = bounds in
            let l = taken_length in
            let g = later in
            let M : List ℕ = put (644 + 5 * i) (struck_words true y ++ R) a in
            let f : length (struck_words true y) ≡ 5 = struck_width true y (row_narrow i h) in
            let z : length (put (644 + 5 * i) (struck_words true y ++ R) a) ≡ length a =
            put_length (644 + 5 * i) (struck_words true y ++ R) a (omega (arith, length-append (struck_words true y) R, b.rows, b.room)) in
            let p = picked_less false ys xs i h (ap (alike false) e) in
            record {
              within = omega arith;
              count = t.count ∙ ap length (sym p);
              size = length-set now (644 + 5 * i) v ∙ t.size;
              words = ap (set now (644 + 5 * i)) q ∙ ap (λ (m : List ℕ). set m (644 + 5 * i) (length y)) (now_is ∙ ap (λ (c : Bool). put 2 (laid P) (put (644 + 5 * i) (struck_words c y ++ R) a)) e)
                  ∙ put_past 2 (laid P) M (644 + 5 * i) (length y) (omega (arith, b.rows, b.room, b.low)) (omega (arith, b.rows, b.low))
                  ∙ ap (put 2 (laid P)) (take_stroke (644 + 5 * i) y a R (row_narrow i h) (omega (arith, b.rows, b.room)) ∙ restored)
                  ∙ ap (λ (rs : List Row). put 2 (laid rs) (put (644 + 5 * (i + 1)) R a)) (sym p);
            }

      -- it is not
      module _ (e : lists row_before xs y ≡ false) where
        no_stroke_here : get_or now (644 + 5 * i) 0 ≡ length y
        no_stroke_here = width_is ∙ ap (λ (c : Bool). get_or (struck_words c y) 0 0) e ∙ plain_first y

        plain_taken : (after : List ℕ) → length after ≡ length now → after ≡ put (2 + 5 * kept) (take 5 (drop (644 + 5 * i) now)) now → Taking a after (i + 1) (kept + 1)
        unfolding struck_words
        plain_taken after s w =
            let b = bounds in
            let l = taken_length in
            let g = later in
            let N : List ℕ = put (644 + 5 * (i + 1)) R a in
            let n : length (row_words y) ≡ 5 = row_length y (row_narrow i h) in
            let k : 2 + 5 * kept ≡ 2 + length (laid P) = omega arith in
            let z : length (put (644 + 5 * (i + 1)) R a) ≡ length a = put_length (644 + 5 * (i + 1)) R a (omega (arith, b.rows, b.room)) in
            let p = picked_more false ys xs i h (ap (alike false) e) in
            let plain : W ≡ row_words y = ap (λ (c : Bool). struck_words c y) e in
            record {
              within = omega arith;
              count = omega (arith, t.count, ap length p, length-append P (y ∷ []));
              size = s ∙ t.size;
              words = w ∙ ap (λ (m : List ℕ). put (2 + 5 * kept) m now) (words_here ∙ plain) ∙ ap (put (2 + 5 * kept) (row_words y)) (now_is ∙ ap (λ (m : List ℕ). put 2 (laid P) (put (644 + 5 * i) (m ++ R) a)) plain ∙ ap (put 2 (laid P)) restored)
                  ∙ ap (λ (m : ℕ). put m (row_words y) (put 2 (laid P) N)) k ∙ put_then_after 2 (laid P) (row_words y) N (omega (arith, b.rows, b.room, b.low))
                  ∙ ap (λ (m : List ℕ). put 2 m N) (sym (laid_more P y)) ∙ ap (λ (rs : List Row). put 2 (laid rs) N) (sym p);
            }

      -- the width tells
      pub taking_struck : 8 ≤ get_or now (644 + 5 * i) 0 → Taking a (set now (644 + 5 * i) (get_or now (644 + 5 * i) 0 - 8)) (i + 1) kept
      taking_struck w = go (split (lists row_before xs y))
        where
          go : Case (lists row_before xs y) → Taking a (set now (644 + 5 * i) (get_or now (644 + 5 * i) 0 - 8)) (i + 1) kept
          go (is_true e) = struck_taken e _ (omega (arith, stroke_here e))
          go (is_false e) = absurd (omega (arith, no_stroke_here e, row_narrow i h))

      pub taking_kept : get_or now (644 + 5 * i) 0 < 8 → (after : List ℕ) → length after ≡ length now → after ≡ put (2 + 5 * kept) (take 5 (drop (644 + 5 * i) now)) now → Taking a after (i + 1) (kept + 1)
      taking_kept w after = go (split (lists row_before xs y))
        where
          go : Case (lists row_before xs y) → length after ≡ length now → after ≡ put (2 + 5 * kept) (take 5 (drop (644 + 5 * i) now)) now → Taking a after (i + 1) (kept + 1)
          go (is_true e) = absurd (omega (arith, stroke_here e))
          go (is_false e) = plain_taken e after

    pub taking_end : length ys ≤ i → now ≡ put 2 (laid (rest a)) a
    unfolding struck
    taking_end h =
        t.words ∙ ap (λ (rs : List Row). put 2 (laid (picked false rs xs)) (put (644 + 5 * i) (struck xs (drop i ys)) a)) (take_all i ys h)
        ∙ ap (λ (rs : List Row). put 2 (laid (rest a)) (put (644 + 5 * i) (struck xs rs) a)) (drop_of_length-le ys {i = i} h) ∙ ap (put 2 (laid (rest a))) (put_none (644 + 5 * i) a)

    pub taken_count : length ys ≤ i → kept ≡ length (rest a)
    taken_count h = t.count ∙ ap (λ (rs : List Row). length (picked false rs xs)) (take_all i ys h)
