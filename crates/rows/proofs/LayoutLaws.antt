-- The layout and its reading are inverse: a set written is sound and reads as itself, and a sound set's words are those of the set read from them.
use Prim.Native.Nat.{ℕ, zero, suc, ◌+◌, ◌*◌, ◌-◌, ◌≤◌, ◌<◌}
use mathlib.Core.Path.{◌≡◌, refl, sym, ◌∙◌, ap}
use mathlib.Core.Bool.{Bool, true, false, ◌&&◌}
use mathlib.Core.List.{List, [], ◌∷◌, ◌++◌, map, append_assoc}
use native.Mathlib.Omega.{arith}
use native.Mathlib.Nat.{mul-suc}
use lib.Dec.{leb, eqb}
use lib.ListN.{length, get_or, take, drop, replicate, length-append, length-take, length-drop, length-map, length-replicate, take-append-drop, get_or-map}
use lib.Seq.{take-append_seam, drop-append_seam, take_at, drop_at, length-take-le, take-add, drop-drop}
use borrow.Author.Tests.{leb-true, le-leb, eqb-true}
use Rattle.rows.specs.Word.{All, IsWord, Words}
use Rattle.rows.specs.Ordered.{ascending}
use Rattle.rows.specs.Row.{Row, IsRow, row_before}
use Rattle.rows.specs.Sets.{RowSet, only, all_but, listing, Proper, most_rows}
use Rattle.rows.specs.Layout.{row_words, row_in, five_at, zeros, sound_row, flat, pieces, every, form_word, set_words, written, rows_in, formed, set_in, sound_set}
use Rattle.rows.proofs.Case.{Case, is_true, is_false, split, never, and_true, true_and}
use Rattle.rows.proofs.Scan.{every_at}
use Rattle.rows.proofs.Order.{row_order}
use Rattle.rows.proofs.Lists.{all_take, all_drop}
use Rattle.rows.proofs.Ordered.{Ascending, true_ascending}
use Rattle.rows.proofs.Sets.{proper_ascending}

-- ---- pieces of any size

abbrev pub Sized : ℕ → List ℕ → Type 0
Sized size x = length x ≡ size

pub flat_length : (size : ℕ) (xs : List (List ℕ)) → All (Sized size) xs → length (flat xs) ≡ size * length xs
unfolding flat All
flat_length size [] a = omega arith
flat_length size (x ∷ xs) a = length-append x (flat xs) ∙ omega (arith, a.0, flat_length size xs a.1, mul-suc size (length xs))

pub pieces_flat : (size : ℕ) (xs : List (List ℕ)) (t : List ℕ) → All (Sized size) xs → pieces size (length xs) (flat xs ++ t) ≡ xs
unfolding flat pieces All
pieces_flat size [] t a = refl
pieces_flat size (x ∷ xs) t a =
    let e : (x ++ flat xs) ++ t ≡ x ++ (flat xs ++ t) = append_assoc x (flat xs) t in
    let f : take size ((x ++ flat xs) ++ t) ≡ x = ap (take size) e ∙ take_at x (flat xs ++ t) size a.0 in
    let d : drop size ((x ++ flat xs) ++ t) ≡ flat xs ++ t = ap (drop size) e ∙ drop_at x (flat xs ++ t) size a.0 in
    let r : pieces size (length xs) (drop size ((x ++ flat xs) ++ t)) ≡ xs = ap (pieces size (length xs)) d ∙ pieces_flat size xs t a.1 in
    cc

pub length_pieces : (size n : ℕ) (ws : List ℕ) → length (pieces size n ws) ≡ n
unfolding pieces
length_pieces size zero ws = refl
length_pieces size (suc n) ws = ap suc (length_pieces size n (drop size ws))

pub pieces_sized : (size n : ℕ) (ws : List ℕ) → size * n ≤ length ws → All (Sized size) (pieces size n ws)
unfolding pieces All
pieces_sized size zero ws h = tt
pieces_sized size (suc n) ws h =
    let m = mul-suc size n in
    (length-take-le size ws (omega arith), pieces_sized size n (drop size ws) (omega (arith, length-drop size ws)))

pub flat_pieces : (size n : ℕ) (ws : List ℕ) → size * n ≤ length ws → flat (pieces size n ws) ≡ take (size * n) ws
unfolding pieces flat
flat_pieces size zero ws h = let e : 0 ≡ size * 0 = omega arith in ap (λ (k : ℕ). take k ws) e
flat_pieces size (suc n) ws h =
    let m : size * suc n ≡ size + size * n = omega (arith, mul-suc size n) in
    ap (λ (t : List ℕ). take size ws ++ t) (flat_pieces size n (drop size ws) (omega (arith, length-drop size ws)))
    ∙ sym (take-add size (size * n) ws) ∙ ap (λ (k : ℕ). take k ws) (sym m)

-- ---- a row's five words

pub row_reads : (r : Row) → row_in (row_words r) ≡ r
unfolding row_in row_words
row_reads r = take-append_seam r (replicate (4 - length r) 0)

pub row_length : (r : Row) → length r ≤ 4 → length (row_words r) ≡ 5
unfolding row_words
row_length r h = omega (arith, length-append r (replicate (4 - length r) 0), length-replicate {A = ℕ} (4 - length r) 0)

replicate_zeros : (n : ℕ) → zeros (replicate n 0) ≡ true
unfolding zeros
replicate_zeros zero = refl
replicate_zeros (suc n) = replicate_zeros n

zeros_replicate : (ws : List ℕ) → zeros ws ≡ true → ws ≡ replicate (length ws) 0
unfolding zeros
zeros_replicate [] e = refl
zeros_replicate (w ∷ ws) e =
    let t = and_true (eqb w 0) (zeros ws) e in
    let z : w ≡ 0 = eqb-true w 0 t.0 in
    let r : ws ≡ replicate (length ws) 0 = zeros_replicate ws t.1 in
    cc

pub row_sound : (r : Row) → 1 ≤ length r → length r ≤ 4 → sound_row (row_words r) ≡ true
unfolding sound_row row_words
row_sound r a b = true_and _ _ (le-leb 1 (length r) a) (true_and _ _ (le-leb (length r) 4 b) (ap zeros (drop-append_seam r (replicate (4 - length r) 0)) ∙ replicate_zeros (4 - length r)))

pub record SoundWidth (ws : List ℕ) : Type 0 where
  pub some : 1 ≤ get_or ws 0 0
  pub few : get_or ws 0 0 ≤ 4
  pub unused : zeros (drop (get_or ws 0 0) (drop 1 ws)) ≡ true

pub sound_width : (ws : List ℕ) → sound_row ws ≡ true → SoundWidth ws
unfolding sound_row
sound_width ws e =
    let s = and_true (leb 1 (get_or ws 0 0)) (leb (get_or ws 0 0) 4 && zeros (drop (get_or ws 0 0) (drop 1 ws))) e in
    let t = and_true (leb (get_or ws 0 0) 4) (zeros (drop (get_or ws 0 0) (drop 1 ws))) s.1 in
    record { some = leb-true 1 (get_or ws 0 0) s.0; few = leb-true (get_or ws 0 0) 4 t.0; unused = t.1 }

pub row_width : (ws : List ℕ) → length ws ≡ 5 → sound_row ws ≡ true → length (row_in ws) ≡ get_or ws 0 0
unfolding row_in
row_width ws l e =
    let s = sound_width ws e in
    length-take (get_or ws 0 0) (drop 1 ws) ∙ omega (arith, length-drop 1 ws, s.few)

pub row_written : (ws : List ℕ) → length ws ≡ 5 → sound_row ws ≡ true → row_words (row_in ws) ≡ ws
unfolding row_in row_words
row_written [] l e = absurd (omega arith)
row_written (w ∷ t) l e =
    let s = sound_width (w ∷ t) e in
    let few : w ≤ 4 = s.few in
    let n : length (take w t) ≡ w = length-take-le w t (omega arith) in
    let d : length (drop w t) ≡ 4 - length (take w t) = length-drop w t ∙ omega arith in
    let z : drop w t ≡ replicate (4 - length (take w t)) 0 = zeros_replicate (drop w t) s.unused ∙ ap (λ (k : ℕ). replicate k 0) d in
    let u : take w t ++ replicate (4 - length (take w t)) 0 ≡ t = ap (λ (q : List ℕ). take w t ++ q) (sym z) ∙ take-append-drop w t in
    cc

-- ---- a list of rows

-- 1 to 4 atoms: all that the layout asks of a row
pub record Width (r : Row) : Type 0 where
  pub some : 1 ≤ length r
  pub few : length r ≤ 4

pub widths : (xs : List Row) → All IsRow xs → All Width xs
unfolding All
widths [] a = tt
widths (x ∷ xs) a = (record { some = a.0.some; few = a.0.few }, widths xs a.1)

width_sized : (xs : List Row) → All Width xs → All (Sized 5) (map row_words xs)
unfolding All
width_sized [] a = tt
width_sized (x ∷ xs) a = (row_length x a.0.few, width_sized xs a.1)

width_length : (xs : List Row) → All Width xs → length (flat (map row_words xs)) ≡ 5 * length xs
width_length xs a = omega (arith, flat_length 5 (map row_words xs) (width_sized xs a), length-map xs row_words)

pub rows_read : (xs : List Row) → map row_in (map row_words xs) ≡ xs
rows_read [] = refl
rows_read (x ∷ xs) =
    let e : row_in (row_words x) ≡ x = row_reads x in
    let f : map row_in (map row_words xs) ≡ xs = rows_read xs in
    cc

rows_sound : (xs : List Row) → All Width xs → every sound_row (map row_words xs) ≡ true
unfolding every All
rows_sound [] a = refl
rows_sound (x ∷ xs) a = true_and _ _ (row_sound x a.0.some a.0.few) (rows_sound xs a.1)

pub rows_written : (ps : List (List ℕ)) → All (Sized 5) ps → every sound_row ps ≡ true → map row_words (map row_in ps) ≡ ps
unfolding every All
rows_written [] a e = refl
rows_written (p ∷ ps) a e =
    let t = and_true (sound_row p) (every sound_row ps) e in
    let q : row_words (row_in p) ≡ p = row_written p a.0 t.0 in
    let r : map row_words (map row_in ps) ≡ ps = rows_written ps a.1 t.1 in
    cc

pub row_is_lem : (ws : List ℕ) → length ws ≡ 5 → sound_row ws ≡ true → Words ws → IsRow (row_in ws)
unfolding row_in
row_is_lem ws l e a =
    let s = sound_width ws e in
    let w : length (row_in ws) ≡ get_or ws 0 0 = row_width ws l e in
    record { some = omega (arith, s.some); few = omega (arith, s.few); words = all_take IsWord (get_or ws 0 0) (drop 1 ws) (all_drop IsWord 1 ws a) }

-- ---- a set

pub form_formed : (S : RowSet) → formed (form_word S) (listing S) ≡ S
unfolding formed form_word listing
form_formed (only xs) = refl
form_formed (all_but xs) = refl

pub form_small : (S : RowSet) → form_word S ≤ 1
unfolding form_word
form_small (only xs) = omega arith
form_small (all_but xs) = omega arith

pub formed_listing : (n : ℕ) (xs : List Row) → listing (formed n xs) ≡ xs
unfolding formed listing
formed_listing zero xs = refl
formed_listing (suc n) xs = refl

pub formed_word : (n : ℕ) (xs : List Row) → n ≤ 1 → form_word (formed n xs) ≡ n
unfolding formed form_word
formed_word zero xs h = refl
formed_word (suc n) xs h = omega arith

pub listing_in : (ws : List ℕ) → listing (set_in ws) ≡ rows_in ws
unfolding set_in
listing_in ws = formed_listing (get_or ws 0 0) (rows_in ws)

pub count_in : (ws : List ℕ) → length (listing (set_in ws)) ≡ get_or ws 1 0
unfolding set_in rows_in
count_in ws = ap length (listing_in ws) ∙ length-map (pieces 5 (get_or ws 1 0) (drop 2 ws)) row_in ∙ length_pieces 5 (get_or ws 1 0) (drop 2 ws)

pub set_size : (S : RowSet) → All Width (listing S) → length (set_words S) ≡ 2 + 5 * length (listing S)
unfolding set_words
set_size S a = omega (arith, width_length (listing S) a)

pub set_length : (S : RowSet) → All IsRow (listing S) → length (set_words S) ≡ 2 + 5 * length (listing S)
set_length S a = set_size S (widths (listing S) a)

pub written_length : (S : RowSet) (area : List ℕ) → length (set_words S) ≤ length area → length (written S area) ≡ length area
unfolding written
written_length S area h = omega (arith, length-append (set_words S) (drop (length (set_words S)) area), length-drop (length (set_words S)) area)

written_pieces : (S : RowSet) (area : List ℕ) → All Width (listing S) → pieces 5 (get_or (written S area) 1 0) (drop 2 (written S area)) ≡ map row_words (listing S)
unfolding written set_words
written_pieces S area a =
    ap (λ (n : ℕ). pieces 5 n (drop 2 (written S area))) (sym (length-map (listing S) row_words))
    ∙ pieces_flat 5 (map row_words (listing S)) (drop (length (set_words S)) area) (width_sized (listing S) a)

written_rows : (S : RowSet) (area : List ℕ) → All Width (listing S) → rows_in (written S area) ≡ listing S
unfolding rows_in
written_rows S area a = ap (map row_in) (written_pieces S area a) ∙ rows_read (listing S)

pub written_in : (S : RowSet) (area : List ℕ) → All Width (listing S) → set_in (written S area) ≡ S
unfolding set_in written set_words
written_in S area a = ap (formed (form_word S)) (written_rows S area a) ∙ form_formed S

pub written_reads : (S : RowSet) (area : List ℕ) → All IsRow (listing S) → set_in (written S area) ≡ S
written_reads S area a = written_in S area (widths (listing S) a)

-- what soundness says of the words
pub record Sound (ws : List ℕ) : Type 0 where
  pub header : 2 ≤ length ws
  pub form : get_or ws 0 0 ≤ 1
  pub count : get_or ws 1 0 ≤ most_rows
  pub whole : 2 + 5 * get_or ws 1 0 ≤ length ws
  pub pieces : every sound_row (pieces 5 (get_or ws 1 0) (drop 2 ws)) ≡ true
  pub order : ascending row_before (rows_in ws) ≡ true

header : List ℕ → Bool
header ws = leb 2 (length ws) && (leb (get_or ws 0 0) 1 && (leb (get_or ws 1 0) most_rows && leb (2 + 5 * get_or ws 1 0) (length ws)))

pub sound_true : (ws : List ℕ) → Sound ws → sound_set ws ≡ true
unfolding sound_set header
sound_true ws s =
    let h : header ws ≡ true = true_and _ _ (le-leb 2 (length ws) s.header) (true_and _ _ (le-leb (get_or ws 0 0) 1 s.form)
    (true_and _ _ (le-leb (get_or ws 1 0) most_rows s.count) (le-leb (2 + 5 * get_or ws 1 0) (length ws) s.whole))) in
    rw (h, sound_set) (true_and _ _ s.pieces s.order)

pub true_sound : (ws : List ℕ) → sound_set ws ≡ true → Sound ws
unfolding sound_set header
true_sound ws e = go (split (header ws))
  where
    go : Case (header ws) → Sound ws
    go (is_false h) = never e (rw (h, sound_set))
    go (is_true h) =
        let a = and_true (leb 2 (length ws)) _ h in
        let b = and_true (leb (get_or ws 0 0) 1) _ a.1 in
        let c = and_true (leb (get_or ws 1 0) most_rows) (leb (2 + 5 * get_or ws 1 0) (length ws)) b.1 in
        let d = and_true (every sound_row (pieces 5 (get_or ws 1 0) (drop 2 ws))) (ascending row_before (rows_in ws)) (rw (h, sound_set) at e) in
        record {
          header = leb-true 2 (length ws) a.0;
          form = leb-true (get_or ws 0 0) 1 b.0;
          count = leb-true (get_or ws 1 0) most_rows c.0;
          whole = leb-true (2 + 5 * get_or ws 1 0) (length ws) c.1;
          pieces = d.0;
          order = d.1;
        }

pub written_fits : (S : RowSet) (area : List ℕ) → Ascending row_before row_order (listing S) → All Width (listing S) → length (listing S) ≤ most_rows → 642 ≤ length area → sound_set (written S area) ≡ true
unfolding written set_words
written_fits S area o a n h =
    let l = set_size S a in
    let w = written_length S area (omega arith) in
    sound_true (written S area) (record {
      header = omega arith;
      form = form_small S;
      count = n;
      whole = omega arith;
      pieces = ap (every sound_row) (written_pieces S area a) ∙ rows_sound (listing S) a;
      order = ap (ascending row_before) (written_rows S area a) ∙ true_ascending row_before row_order (listing S) o;
    })

pub written_sound : (S : RowSet) (area : List ℕ) → Proper (listing S) → length (listing S) ≤ most_rows → 642 ≤ length area → sound_set (written S area) ≡ true
written_sound S area p n h = written_fits S area (proper_ascending p) (widths (listing S) p.rows) n h

-- ---- the converse

pub sound_few : (ws : List ℕ) → sound_set ws ≡ true → length (listing (set_in ws)) ≤ most_rows
sound_few ws e = let c = (true_sound ws e).count in omega (arith, count_in ws)

pub sound_rows : (ws : List ℕ) → sound_set ws ≡ true → flat (map row_words (listing (set_in ws))) ≡ take (5 * get_or ws 1 0) (drop 2 ws)
unfolding rows_in
sound_rows ws e =
    let s = true_sound ws e in
    let w = s.whole in
    let l = length-drop 2 ws in
    let z = pieces_sized 5 (get_or ws 1 0) (drop 2 ws) (omega arith) in
    ap (λ (xs : List Row). flat (map row_words xs)) (listing_in ws) ∙ ap flat (rows_written (pieces 5 (get_or ws 1 0) (drop 2 ws)) z s.pieces)
    ∙ flat_pieces 5 (get_or ws 1 0) (drop 2 ws) (omega arith)

pub sound_length : (ws : List ℕ) → sound_set ws ≡ true → length (set_words (set_in ws)) ≡ 2 + 5 * get_or ws 1 0
unfolding set_words
sound_length ws e =
    let s = true_sound ws e in
    let w = s.whole in
    omega (arith, ap length (sound_rows ws e), length-take (5 * get_or ws 1 0) (drop 2 ws), length-drop 2 ws)

two_and_rest : (ws : List ℕ) → 2 ≤ length ws → ws ≡ get_or ws 0 0 ∷ get_or ws 1 0 ∷ drop 2 ws
two_and_rest [] h = absurd (omega arith)
two_and_rest (a ∷ []) h = absurd (omega arith)
two_and_rest (a ∷ b ∷ ws) h = refl

pub sound_written : (ws : List ℕ) → sound_set ws ≡ true → ws ≡ written (set_in ws) ws
unfolding written set_words set_in
sound_written ws e =
    let s = true_sound ws e in
    let f : form_word (set_in ws) ≡ get_or ws 0 0 = formed_word (get_or ws 0 0) (rows_in ws) s.form in
    let c : length (listing (set_in ws)) ≡ get_or ws 1 0 = count_in ws in
    let r : flat (map row_words (listing (set_in ws))) ≡ take (5 * get_or ws 1 0) (drop 2 ws) = sound_rows ws e in
    let d : drop (length (set_words (set_in ws))) ws ≡ drop (5 * get_or ws 1 0) (drop 2 ws) = ap (λ (k : ℕ). drop k ws) (sound_length ws e) ∙ sym (drop-drop (5 * get_or ws 1 0) 2 ws) in
    let t : take (5 * get_or ws 1 0) (drop 2 ws) ++ drop (5 * get_or ws 1 0) (drop 2 ws) ≡ drop 2 ws = take-append-drop (5 * get_or ws 1 0) (drop 2 ws) in
    let u : flat (map row_words (listing (set_in ws))) ++ drop (length (set_words (set_in ws))) ws ≡ drop 2 ws = cc in
    let v : ws ≡ get_or ws 0 0 ∷ get_or ws 1 0 ∷ drop 2 ws = two_and_rest ws s.header in
    cc

-- ---- piece by piece

pub piece_at : (size n : ℕ) (ws : List ℕ) (i : ℕ) → i < n → get_or (pieces size n ws) i [] ≡ take size (drop (size * i) ws)
unfolding pieces
piece_at size zero ws i h = absurd (omega arith)
piece_at size (suc n) ws zero h = let e : 0 ≡ size * 0 = omega arith in ap (λ (k : ℕ). take size (drop k ws)) e
piece_at size (suc n) ws (suc i) h =
    let e : size + size * i ≡ size * suc i = omega (arith, mul-suc size i) in
    piece_at size n (drop size ws) i (omega arith) ∙ ap (take size) (drop-drop (size * i) size ws ∙ ap (λ (k : ℕ). drop k ws) e)

-- row `i` of a set stands at word 2 + 5i
pub row_piece : (n : ℕ) (ws : List ℕ) (i : ℕ) → i < n → get_or (pieces 5 n (drop 2 ws)) i [] ≡ five_at ws (2 + 5 * i)
row_piece n ws i h = piece_at 5 n (drop 2 ws) i h ∙ ap (take 5) (drop-drop (5 * i) 2 ws)

pub row_at : (ws : List ℕ) (i : ℕ) → i < get_or ws 1 0 → get_or (rows_in ws) i [] ≡ row_in (five_at ws (2 + 5 * i))
unfolding rows_in row_in
row_at ws i h = get_or-map row_in (pieces 5 (get_or ws 1 0) (drop 2 ws)) i [] ∙ ap row_in (row_piece (get_or ws 1 0) ws i h)

pub piece_sound : (n : ℕ) (ws : List ℕ) (i : ℕ) → every sound_row (pieces 5 n (drop 2 ws)) ≡ true → i < n → sound_row (five_at ws (2 + 5 * i)) ≡ true
piece_sound n ws i e h =
    ap sound_row (sym (row_piece n ws i h)) ∙ every_at sound_row (pieces 5 n (drop 2 ws)) i [] e (omega (arith, length_pieces 5 n (drop 2 ws)))

pub rows_count : (ws : List ℕ) → length (rows_in ws) ≡ get_or ws 1 0
unfolding rows_in
rows_count ws = length-map (pieces 5 (get_or ws 1 0) (drop 2 ws)) row_in ∙ length_pieces 5 (get_or ws 1 0) (drop 2 ws)

-- ---- the test, step by step

pub unsound : (ws : List ℕ) → (Sound ws → ⊥) → sound_set ws ≡ false
unsound ws f = go (split (sound_set ws))
  where
    go : Case (sound_set ws) → sound_set ws ≡ false
    go (is_true e) = absurd (f (true_sound ws e))
    go (is_false e) = e

pub sound_order : (ws : List ℕ) → 2 ≤ length ws → get_or ws 0 0 ≤ 1 → get_or ws 1 0 ≤ most_rows → 2 + 5 * get_or ws 1 0 ≤ length ws →
    every sound_row (pieces 5 (get_or ws 1 0) (drop 2 ws)) ≡ true → sound_set ws ≡ ascending row_before (rows_in ws)
sound_order ws a b c d e = go (split (ascending row_before (rows_in ws)))
  where
    go : Case (ascending row_before (rows_in ws)) → sound_set ws ≡ ascending row_before (rows_in ws)
    go (is_true o) = sound_true ws (record { header = a; form = b; count = c; whole = d; pieces = e; order = o }) ∙ sym o
    go (is_false o) = unsound ws (λ s. never s.order o) ∙ sym o

-- the rows of a sound set have their widths
pieces_widths : (n : ℕ) (ws : List ℕ) → 5 * n ≤ length ws → every sound_row (pieces 5 n ws) ≡ true → All Width (map row_in (pieces 5 n ws))
unfolding pieces every All
pieces_widths zero ws h e = tt
pieces_widths (suc n) ws h e =
    let t = and_true (sound_row (take 5 ws)) (every sound_row (pieces 5 n (drop 5 ws))) e in
    let l : length (take 5 ws) ≡ 5 = length-take-le 5 ws (omega arith) in
    let s = sound_width (take 5 ws) t.0 in
    let w = row_width (take 5 ws) l t.0 in
    (record { some = omega (arith, s.some); few = omega (arith, s.few) }, pieces_widths n (drop 5 ws) (omega (arith, length-drop 5 ws)) t.1)

pub sound_widths : (ws : List ℕ) → sound_set ws ≡ true → All Width (rows_in ws)
unfolding rows_in
sound_widths ws e =
    let s = true_sound ws e in
    let w = s.whole in
    pieces_widths (get_or ws 1 0) (drop 2 ws) (omega (arith, length-drop 2 ws)) s.pieces
