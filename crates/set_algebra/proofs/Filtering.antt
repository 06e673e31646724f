-- Rows kept and rows left out, in place: the kept ones move down to the first places.
use Prim.Native.Nat.{ℕ, suc, ◌+◌, ◌*◌, ◌≤◌, ◌<◌}
use mathlib.Core.Path.{◌≡◌, refl, sym, ◌∙◌, ap, subst}
use mathlib.Core.Bool.{Bool, true, false}
use mathlib.Core.List.{List, [], ◌∷◌, ◌++◌, append-nil}
use native.Mathlib.Omega.{arith}
use lib.ListN.{length, get_or, take, drop, set, length-append}
use lib.Seq.{take-suc, take_all, length-take-le}
use Rattle.rows.specs.Ordered.{lists, keep, common, without}
use Rattle.rows.specs.Row.{Row, row_before}
use Rattle.rows.specs.Sets.{RowSet, listing}
use Rattle.rows.specs.Layout.{row_words, five_at, flat, laid, written, put, formed}
use Rattle.set_algebra.specs.Private.{room_at, lefts, rights, Rooms, Passed, alike, picked}
use Rattle.rows.proofs.Lists.{all_at, all_take}
use Rattle.rows.proofs.Ordered.{keep_append, keep_length}
use Rattle.rows.proofs.Sets.{keep_all}
use Rattle.rows.proofs.Put.{part_after, put_then_after, put_none}
use Rattle.rows.proofs.LayoutLaws.{row_length, formed_listing, formed_word}
use Rattle.sets.proofs.SetWords.{sound_ascending}
use Rattle.sets.proofs.Laid.{Narrow, laid_length, laid_append, narrow_in, written_count}
use Rattle.set_algebra.proofs.Walking.{Walk, walk_start, walk_on, room_kept, room_few, room_form, room_count, room_row}

-- ---- what is kept

test : Bool → List Row → Row → Bool
test b ys r = alike b (lists row_before ys r)

picked_keep : (b : Bool) (xs ys : List Row) → picked b xs ys ≡ keep (test b ys) xs
unfolding picked common without test
picked_keep true xs ys = refl
picked_keep false xs ys = refl

pub picked_length : (b : Bool) (xs ys : List Row) → length (picked b xs ys) ≤ length xs
picked_length b xs ys = omega (arith, ap length (picked_keep b xs ys), keep_length (test b ys) xs)

pub picked_narrow : (b : Bool) (xs ys : List Row) → Narrow xs → Narrow (picked b xs ys)
picked_narrow b xs ys a = subst Narrow (sym (picked_keep b xs ys)) (keep_all _ (test b ys) xs a)

module _ (b : Bool) (xs ys : List Row) (i : ℕ) (h : i < length xs) where
  one_more : picked b (take (i + 1) xs) ys ≡ keep (test b ys) (take i xs) ++ keep (test b ys) (get_or xs i [] ∷ [])
  one_more =
      let e : i + 1 ≡ suc i = omega arith in
      picked_keep b (take (i + 1) xs) ys ∙ ap (λ (k : ℕ). keep (test b ys) (take k xs)) e
      ∙ ap (keep (test b ys)) (take-suc xs i [] h) ∙ keep_append (test b ys) (take i xs) (get_or xs i [] ∷ [])

  pub picked_more : alike b (lists row_before ys (get_or xs i [])) ≡ true → picked b (take (i + 1) xs) ys ≡ picked b (take i xs) ys ++ (get_or xs i [] ∷ [])
  unfolding keep test
  picked_more e =
      let k : keep (test b ys) (get_or xs i [] ∷ []) ≡ get_or xs i [] ∷ [] = rw (e, keep) in
      one_more ∙ ap (λ (l : List Row). keep (test b ys) (take i xs) ++ l) k ∙ ap (λ (l : List Row). l ++ (get_or xs i [] ∷ [])) (sym (picked_keep b (take i xs) ys))

  pub picked_less : alike b (lists row_before ys (get_or xs i [])) ≡ false → picked b (take (i + 1) xs) ys ≡ picked b (take i xs) ys
  unfolding keep test
  picked_less e =
      let k : keep (test b ys) (get_or xs i [] ∷ []) ≡ [] = rw (e, keep) in
      one_more ∙ ap (λ (l : List Row). keep (test b ys) (take i xs) ++ l) k ∙ append-nil (keep (test b ys) (take i xs)) ∙ sym (picked_keep b (take i xs) ys)

-- one row laid behind others
pub laid_more : (xs : List Row) (x : Row) → laid (xs ++ (x ∷ [])) ≡ laid xs ++ row_words x
unfolding flat
laid_more xs x = laid_append xs (x ∷ []) ∙ ap (λ (l : List ℕ). laid xs ++ l) (append-nil (row_words x))

-- ---- the rows kept so far

module _ (a : List ℕ) (b : Bool) where
  -- the first `i` rows are looked for, and those of them that pass are in the first places
  pub record Filtered (now : List ℕ) (i j kept : ℕ) : Type 0 where
    pub walk : Walk (lefts a) (rights a) i j
    pub count : kept ≡ length (picked b (take i (lefts a)) (rights a))
    pub size : length now ≡ length a
    pub words : now ≡ put 2 (laid (picked b (take i (lefts a)) (rights a))) a

  pub filter_start : Filtered a 0 0 0
  unfolding picked common without keep flat
  filter_start = record { walk = walk_start (lefts a) (rights a); count = none b; size = refl; words = sym (ap (λ (l : List Row). put 2 (laid l) a) (empty b) ∙ put_none 2 a) }
    where
      empty : (c : Bool) → picked c [] (rights a) ≡ []
      empty true = refl
      empty false = refl

      none : (c : Bool) → 0 ≡ length (picked c [] (rights a))
      none true = refl
      none false = refl

module _ (a : List ℕ) (b : Bool) (rooms : Rooms a 0 642) where
  abbrev xs : List Row
  xs = lefts a

  abbrev ys : List Row
  ys = rights a

  few : length xs ≤ 128
  few = room_few a 0 rooms.one_room rooms.one_sound

  module _ (now : List ℕ) (i j kept : ℕ) (f : Filtered a b now i j kept) where
    so_far_length : length (laid (picked b (take i xs) ys)) ≡ 5 * kept
    so_far_length = omega (arith, laid_length (picked b (take i xs) ys) (picked_narrow b (take i xs) ys (all_take _ i xs (narrow_in (room_at 0 a)))), f.count)

    kept_few : kept ≤ i
    kept_few = omega (arith, f.count, picked_length b (take i xs) ys, length-take-le i xs f.walk.within)

    pub others_kept : room_at 642 now ≡ room_at 642 a
    others_kept =
        let l = so_far_length in
        let k = kept_few in
        let w = f.walk.within in
        let m = few in
        ap (room_at 642) f.words ∙ room_kept a 0 642 2 (laid (picked b (take i xs) ys)) rooms.apart (omega arith) (omega arith) rooms.one_room rooms.other_room

    pub row_here : i < length xs → five_at now (2 + 5 * i) ≡ row_words (get_or xs i [])
    row_here h =
        let l = so_far_length in
        let k = kept_few in
        let m = few in
        let r = rooms.one_room in
        ap (λ (z : List ℕ). five_at z (2 + 5 * i)) f.words ∙ part_after 2 (laid (picked b (take i xs) ys)) a (omega arith) (2 + 5 * i) 5 (omega arith)
        ∙ room_row a 0 rooms.one_room rooms.one_sound i h

    module _ {k : ℕ} (h : i < length xs) (p : Passed ys (get_or xs i []) k) where
      on : Walk xs ys (i + 1) k
      on = walk_on (sound_ascending (room_at 0 a) rooms.one_sound) h p

      pub filter_left : alike b (lists row_before ys (get_or xs i [])) ≡ false → Filtered a b now (i + 1) k kept
      filter_left e =
          let q = picked_less b xs ys i h e in
          record { walk = on; count = f.count ∙ ap length (sym q); size = f.size; words = f.words ∙ ap (λ (l : List Row). put 2 (laid l) a) (sym q) }

      pub filter_kept : alike b (lists row_before ys (get_or xs i [])) ≡ true →
          (after : List ℕ) → length after ≡ length now → after ≡ put (2 + 5 * kept) (take 5 (drop (2 + 5 * i) now)) now → Filtered a b after (i + 1) k (kept + 1)
      unfolding flat
      filter_kept e after s w =
          let q = picked_more b xs ys i h e in
          let l = so_far_length in
          let c = kept_few in
          let m = few in
          let r = rooms.one_room in
          let x : Row = get_or xs i [] in
          let five : length (row_words x) ≡ 5 = row_length x (all_at _ xs (narrow_in (room_at 0 a)) i [] h) in
          let at : 2 + 5 * kept ≡ 2 + length (laid (picked b (take i xs) ys)) = omega arith in
          record {
            walk = on;
            count = omega (arith, f.count, ap length q, length-append (picked b (take i xs) ys) (x ∷ []));
            size = s ∙ f.size;
            words = w ∙ ap (λ (z : List ℕ). put (2 + 5 * kept) z now) (row_here h) ∙ ap (put (2 + 5 * kept) (row_words x)) f.words
                ∙ ap (λ (n : ℕ). put n (row_words x) (put 2 (laid (picked b (take i xs) ys)) a)) at ∙ put_then_after 2 (laid (picked b (take i xs) ys)) (row_words x) a (omega arith)
                ∙ ap (λ (z : List ℕ). put 2 z a) (sym (laid_more (picked b (take i xs) ys) x)) ∙ ap (λ (z : List Row). put 2 (laid z) a) (sym q);
          }

    pub filter_end : length xs ≤ i → set now 1 kept ≡ written (formed (get_or a 0 0) (picked b xs ys)) a
    filter_end h =
        let all : take i xs ≡ xs = take_all i xs h in
        let S : RowSet = formed (get_or a 0 0) (picked b xs ys) in
        let ls : listing (formed (get_or a 0 0) (picked b xs ys)) ≡ picked b xs ys = formed_listing (get_or a 0 0) (picked b xs ys) in
        let n : kept ≡ length (listing (formed (get_or a 0 0) (picked b xs ys))) = f.count ∙ ap (λ (z : List Row). length (picked b z ys)) all ∙ ap length (sym ls) in
        let w : now ≡ put 2 (laid (listing (formed (get_or a 0 0) (picked b xs ys)))) a =
        f.words ∙ ap (λ (z : List Row). put 2 (laid (picked b z ys)) a) all ∙ ap (λ (z : List Row). put 2 (laid z) a) (sym ls) in
        let l : length (laid (listing (formed (get_or a 0 0) (picked b xs ys)))) ≡ 5 * kept = ap (λ (z : List Row). length (laid z)) ls ∙ ap (λ (z : List Row). length (laid (picked b z ys))) (sym all) ∙ so_far_length in
        let c = kept_few in
        let m = few in
        let v = f.walk.within in
        let r = rooms.one_room in
        ap (λ (z : List ℕ). set z 1 kept) w ∙ ap (set (put 2 (laid (listing (formed (get_or a 0 0) (picked b xs ys)))) a) 1) n
        ∙ written_count S a (omega arith) (formed_word (get_or a 0 0) (picked b xs ys) (room_form a 0 rooms.one_room rooms.one_sound))

    -- the numbers of the walk
    pub record Numbers : Type 0 where
      pub rows : length xs ≤ 128
      pub low : kept ≤ i
      pub within : i ≤ length xs
      pub count : get_or a 1 0 ≡ length xs
      pub room : 1284 ≤ length a
      pub size : length now ≡ length a

    pub numbers : Numbers
    numbers = record { rows = few; low = kept_few; within = f.walk.within; count = room_count a 0 rooms.one_room rooms.one_sound; room = omega (arith, rooms.other_room); size = f.size }
