-- Rows laid one after the other in an area, and a set written by its rows and its two first words.
use Prim.Native.Nat.{ℕ, zero, suc, ◌+◌, ◌*◌, ◌-◌, ◌≤◌, ◌<◌}
use mathlib.Core.Path.{◌≡◌, refl, sym, ◌∙◌, ap}
use mathlib.Core.Bool.{true}
use mathlib.Core.List.{List, [], ◌∷◌, ◌++◌, map, append_assoc}
use native.Mathlib.Omega.{arith}
use lib.ListN.{length, get_or, take, drop, set, length-append, length-take, length-drop, length-map, take-append-drop}
use lib.Seq.{take_at, drop_at, take-nil, length-take-le, drop-drop, set-get_or, get_or-set_other, take-take}
use Rattle.rows.specs.Word.{All}
use Rattle.rows.specs.Row.{Row}
use Rattle.rows.specs.Sets.{RowSet, listing}
use Rattle.rows.specs.Layout.{row_words, row_in, five_at, flat, laid, pieces, form_word, set_words, written, put, rows_in, formed, set_in, sound_set}
use Rattle.rows.proofs.Lists.{all_take, all_drop, all_both}
use Rattle.rows.proofs.LayoutLaws.{flat_length, row_length, Sized, listing_in, sound_rows, rows_count, formed_word, formed_listing, sound_length, sound_written, true_sound, row_written, piece_sound, row_at}
use Rattle.row_words.proofs.RowLaws.{five_length}
use Rattle.rows.proofs.Put.{put_before, put_then_after, put_then_before, put_less, put_none, put_itself}
use Rattle.sets.proofs.SetWords.{size}

pub drop_take : (a b : ℕ) (ws : List ℕ) → drop a (take (a + b) ws) ≡ take b (drop a ws)
drop_take zero b ws = let e : 0 + b ≡ b = omega arith in ap (λ (k : ℕ). take k ws) e
drop_take (suc a) b [] = let e : suc a + b ≡ suc (a + b) = omega arith in rw e (sym (take-nil b))
drop_take (suc a) b (w ∷ ws) = let e : suc a + b ≡ suc (a + b) = omega arith in rw e (drop_take a b ws)

-- no more than four atoms each, so five words each
abbrev pub Narrow : List Row → Type 0
Narrow = All (λ (r : Row). length r ≤ 4)

narrow_sized : (xs : List Row) → Narrow xs → All (Sized 5) (map row_words xs)
unfolding All
narrow_sized [] a = tt
narrow_sized (x ∷ xs) a = (row_length x a.0, narrow_sized xs a.1)

pub laid_length : (xs : List Row) → Narrow xs → length (laid xs) ≡ 5 * length xs
laid_length xs a = omega (arith, flat_length 5 (map row_words xs) (narrow_sized xs a), length-map xs row_words)

pub laid_append : (xs ys : List Row) → laid (xs ++ ys) ≡ laid xs ++ laid ys
unfolding flat
laid_append [] ys = refl
laid_append (x ∷ xs) ys = ap (λ (l : List ℕ). row_words x ++ l) (laid_append xs ys) ∙ sym (append_assoc (row_words x) (laid xs) (laid ys))

narrow_pieces : (n : ℕ) (ws : List ℕ) → Narrow (map row_in (pieces 5 n ws))
unfolding All pieces row_in
narrow_pieces zero ws = tt
narrow_pieces (suc n) ws =
    (omega (arith, length-take (get_or (take 5 ws) 0 0) (drop 1 (take 5 ws)), length-drop 1 (take 5 ws), length-take 5 ws), narrow_pieces n (drop 5 ws))

pub narrow_in : (ws : List ℕ) → Narrow (rows_in ws)
unfolding rows_in
narrow_in ws = narrow_pieces (get_or ws 1 0) (drop 2 ws)

-- the rows of a sound set, and those from `p` on
module _ (ws : List ℕ) (e : sound_set ws ≡ true) where
  pub laid_in : take (5 * length (rows_in ws)) (drop 2 ws) ≡ laid (rows_in ws)
  laid_in = ap (λ (n : ℕ). take (5 * n) (drop 2 ws)) (rows_count ws) ∙ sym (sound_rows ws e) ∙ ap laid (listing_in ws)

  module _ (p : ℕ) (h : p ≤ length (rows_in ws)) where
    both : take (5 * length (rows_in ws)) (drop 2 ws) ≡ laid (take p (rows_in ws)) ++ laid (drop p (rows_in ws))
    both = laid_in ∙ ap laid (sym (take-append-drop p (rows_in ws))) ∙ laid_append (take p (rows_in ws)) (drop p (rows_in ws))

    pub front_length : length (laid (take p (rows_in ws))) ≡ 5 * p
    front_length = omega (arith, laid_length (take p (rows_in ws)) (all_take _ p (rows_in ws) (narrow_in ws)), length-take-le p (rows_in ws) h)

    pub laid_front : take (5 * p) (drop 2 ws) ≡ laid (take p (rows_in ws))
    laid_front =
        sym (take-take (5 * p) (5 * length (rows_in ws)) (drop 2 ws) (omega arith)) ∙ ap (take (5 * p)) both
        ∙ take_at (laid (take p (rows_in ws))) (laid (drop p (rows_in ws))) (5 * p) front_length

    pub laid_rest : take (5 * (length (rows_in ws) - p)) (drop (2 + 5 * p) ws) ≡ laid (drop p (rows_in ws))
    laid_rest =
        let n : ℕ = length (rows_in ws) in
        let k : 5 * p + 5 * (n - p) ≡ 5 * n = omega arith in
        ap (take (5 * (n - p))) (sym (drop-drop (5 * p) 2 ws)) ∙ sym (drop_take (5 * p) (5 * (n - p)) (drop 2 ws)) ∙ ap (λ (m : ℕ). drop (5 * p) (take m (drop 2 ws))) k
        ∙ ap (drop (5 * p)) both ∙ drop_at (laid (take p (rows_in ws))) (laid (drop p (rows_in ws))) (5 * p) front_length

-- one row of them
pub row_words_at : (ws : List ℕ) (i : ℕ) → sound_set ws ≡ true → i < length (rows_in ws) → five_at ws (2 + 5 * i) ≡ row_words (get_or (rows_in ws) i [])
row_words_at ws i e h =
    let z = size ws e in
    let c = rows_count ws in
    sym (row_written (five_at ws (2 + 5 * i)) (five_length ws (2 + 5 * i) (omega arith)) (piece_sound (get_or ws 1 0) ws i (true_sound ws e).pieces (omega arith)))
    ∙ ap row_words (sym (row_at ws i (omega arith)))

-- a part of a part
pub inner : (p n m : ℕ) (ws : List ℕ) → p + n ≤ m → take n (drop p (take m ws)) ≡ take n (drop p ws)
inner p n m ws h =
    let e : m ≡ p + (m - p) = omega arith in
    ap (λ (k : ℕ). take n (drop p (take k ws))) e ∙ ap (take n) (drop_take p (m - p) ws) ∙ take-take n (m - p) (drop p ws) (omega arith)

-- the two first words
pub write_header : (ws area : List ℕ) (f n : ℕ) → 2 + length ws ≤ length area → set (set (put 2 ws area) 1 n) 0 f ≡ put 0 (f ∷ n ∷ ws) area
write_header ws area f n room =
    ap (λ (l : List ℕ). set l 0 f) (put_less 2 1 ws area n (omega arith) room) ∙ put_less 1 0 (n ∷ ws) area f (omega arith) (omega arith)

pub written_put : (S : RowSet) (area : List ℕ) → put 0 (set_words S) area ≡ written S area
unfolding put written
written_put S area = let e : 0 + length (set_words S) ≡ length (set_words S) = omega arith in ap (λ (k : ℕ). set_words S ++ drop k area) e

module _ (S : RowSet) (area : List ℕ) (room : 2 + length (laid (listing S)) ≤ length area) where
  pub written_new : set (set (put 2 (laid (listing S)) area) 1 (length (listing S))) 0 (form_word S) ≡ written S area
  unfolding set_words
  written_new = write_header (laid (listing S)) area (form_word S) (length (listing S)) room ∙ written_put S area

  -- the form stands already
  pub written_count : form_word S ≡ get_or area 0 0 → set (put 2 (laid (listing S)) area) 1 (length (listing S)) ≡ written S area
  written_count e =
      let now : List ℕ = set (put 2 (laid (listing S)) area) 1 (length (listing S)) in
      let p : get_or (put 2 (laid (listing S)) area) 0 0 ≡ get_or area 0 0 = put_before 2 (laid (listing S)) area room 0 (omega arith) in
      let q : get_or now 0 0 ≡ form_word S = get_or-set_other (put 2 (laid (listing S)) area) 1 0 (length (listing S)) 0 (omega arith) ∙ p ∙ sym e in
      sym (set-get_or now 0 0) ∙ ap (set now 0) q ∙ written_new

pub written_empty : (n : ℕ) (area : List ℕ) → n ≤ 1 → 2 ≤ length area → set (set area 1 0) 0 n ≡ written (formed n []) area
unfolding flat
written_empty n area h room =
    let S : RowSet = formed n [] in
    let l : listing (formed n []) ≡ [] = formed_listing n [] in
    let e : put 2 (laid (listing (formed n []))) area ≡ area = ap (λ (xs : List Row). put 2 (laid xs) area) l ∙ put_none 2 area in
    ap (λ (m : List ℕ). set (set m 1 0) 0 n) (sym e) ∙ ap (λ (k : ℕ). set (set (put 2 (laid (listing (formed n []))) area) 1 k) 0 n) (sym (ap length l))
    ∙ ap (set (set (put 2 (laid (listing (formed n []))) area) 1 (length (listing (formed n [])))) 0) (sym (formed_word n [] h))
    ∙ written_new S area (omega (arith, ap (λ (xs : List Row). length (laid xs)) l))

-- ---- a row put in among those of a sound set

module _ (ws : List ℕ) (e : sound_set ws ≡ true) (p : ℕ) (r : Row) (h : p ≤ length (rows_in ws)) (narrow : length r ≤ 4) (room : 2 + 5 * length (rows_in ws) + 5 ≤ length ws) where
  with_row : List Row
  with_row = take p (rows_in ws) ++ (r ∷ drop p (rows_in ws))

  moved : List ℕ
  moved = put (2 + 5 * p + 5) (take (5 * (length (rows_in ws) - p)) (drop (2 + 5 * p) ws)) ws

  later_length : length (laid (drop p (rows_in ws))) ≡ 5 * (length (rows_in ws) - p)
  later_length = omega (arith, laid_length (drop p (rows_in ws)) (all_drop _ p (rows_in ws) (narrow_in ws)), length-drop p (rows_in ws))

  rows_put : put (2 + 5 * p) (row_words r) moved ≡ put 2 (laid with_row) ws
  unfolding moved with_row flat
  rows_put =
      let front : List ℕ = laid (take p (rows_in ws)) in
      let later : List ℕ = laid (drop p (rows_in ws)) in
      let five : length (row_words r) ≡ 5 = row_length r narrow in
      let fl : length (laid (take p (rows_in ws))) ≡ 5 * p = front_length ws e p h in
      let ll = later_length in
      let a : 2 + 5 * p + 5 ≡ 2 + 5 * p + length (row_words r) = omega arith in
      let b : 2 + 5 * p ≡ 2 + length (laid (take p (rows_in ws))) = omega arith in
      let k : length (row_words r ++ later) ≡ 5 + length later = omega (arith, length-append (row_words r) later) in
      let q : put 2 front ws ≡ ws = ap (λ (l : List ℕ). put 2 l ws) (sym (laid_front ws e p h)) ∙ put_itself 2 (5 * p) ws (omega arith) in
      ap (λ (l : List ℕ). put (2 + 5 * p) (row_words r) (put (2 + 5 * p + 5) l ws)) (laid_rest ws e p h)
      ∙ ap (λ (n : ℕ). put (2 + 5 * p) (row_words r) (put n later ws)) a
      ∙ put_then_before (2 + 5 * p) (row_words r) later ws (omega arith)
      ∙ ap (λ (n : ℕ). put n (row_words r ++ later) ws) b
      ∙ ap (put (2 + length front) (row_words r ++ later)) (sym q)
      ∙ put_then_after 2 front (row_words r ++ later) ws (omega arith)
      ∙ ap (λ (l : List ℕ). put 2 l ws) (sym (laid_append (take p (rows_in ws)) (r ∷ drop p (rows_in ws))))

  with_length : length with_row ≡ length (rows_in ws) + 1
  unfolding with_row
  with_length = omega (arith, length-append (take p (rows_in ws)) (r ∷ drop p (rows_in ws)), length-take-le p (rows_in ws) h, length-drop p (rows_in ws))

  with_narrow : Narrow with_row
  unfolding with_row All
  with_narrow = all_both _ (take p (rows_in ws)) (r ∷ drop p (rows_in ws)) (all_take _ p (rows_in ws) (narrow_in ws)) (narrow, all_drop _ p (rows_in ws) (narrow_in ws))

  pub row_put_in : set (put (2 + 5 * p) (row_words r) (put (2 + 5 * p + 5) (take (5 * (length (rows_in ws) - p)) (drop (2 + 5 * p) ws)) ws)) 1 (length (rows_in ws) + 1)
      ≡ written (formed (get_or ws 0 0) (take p (rows_in ws) ++ (r ∷ drop p (rows_in ws)))) ws
  unfolding moved with_row
  row_put_in =
      let S : RowSet = formed (get_or ws 0 0) with_row in
      let ls : listing (formed (get_or ws 0 0) with_row) ≡ with_row = formed_listing (get_or ws 0 0) with_row in
      let n : length (listing (formed (get_or ws 0 0) with_row)) ≡ length (rows_in ws) + 1 = ap length ls ∙ with_length in
      let room2 : 2 + length (laid (listing (formed (get_or ws 0 0) with_row))) ≤ length ws = omega (arith, ap (λ (xs : List Row). length (laid xs)) ls, laid_length with_row with_narrow, with_length) in
      let z = (size ws e).form in
      ap (λ (l : List ℕ). set l 1 (length (rows_in ws) + 1)) (rows_put ∙ ap (λ (xs : List Row). put 2 (laid xs) ws) (sym ls))
      ∙ ap (set (put 2 (laid (listing (formed (get_or ws 0 0) with_row))) ws) 1) (sym n)
      ∙ written_count S ws room2 (formed_word (get_or ws 0 0) with_row z)

-- ---- a sound set copied to the front of another area

module _ (ws area : List ℕ) (e : sound_set ws ≡ true) where
  pub copy_length : length (set_words (set_in ws)) ≡ 2 + 5 * length (rows_in ws)
  copy_length = sound_length ws e ∙ ap (λ (n : ℕ). 2 + 5 * n) (sym (rows_count ws))

  pub copied : take (2 + 5 * get_or ws 1 0) ws ++ drop (2 + 5 * get_or ws 1 0) area ≡ written (set_in ws) area
  unfolding written
  copied =
      let n : ℕ = length (set_words (set_in ws)) in
      let t : take n ws ≡ set_words (set_in ws) = ap (take n) (sound_written ws e) ∙ take_at (set_words (set_in ws)) (drop n ws) n refl in
      ap (λ (k : ℕ). take k ws ++ drop k area) (sym (sound_length ws e)) ∙ ap (λ (l : List ℕ). l ++ drop n area) t
