-- A row in words and in hand, and which of two comes first.
use Prim.Native.Nat.{ℕ, suc, ◌+◌, ◌-◌, ◌≤◌, ◌<◌}
use mathlib.Core.Path.{◌≡◌, refl, sym, ◌∙◌, ap}
use mathlib.Core.Bool.{true, false}
use mathlib.Core.List.{List, [], ◌∷◌, ◌++◌}
use native.Mathlib.Omega.{arith}
use lib.ListN.{length, get_or, take, drop, replicate, length-drop, get_or-replicate, get_or-append}
use lib.Seq.{split_at, drop-cons, get_or-take, get_or-drop, get_or-append-add, take-suc, take_all, length-take-le, take-take, drop-drop}
use borrow.Author.Tests.{le-leb, lt-leb}
use Rattle.rows.specs.Ordered.{words_before}
use Rattle.rows.specs.Row.{Row, row_before}
use Rattle.rows.specs.Layout.{row_in, row_words, five_at, zeros, sound_row}
use Rattle.row_words.specs.Values.{five_is, row_is}
use Rattle.row_words.specs.declared.row.Row as Held
use Rattle.rows.proofs.LayoutLaws.{row_length, sound_width}
use Rattle.rows.proofs.Scan.{and_true_left, and_false_left, zeros_next, zeros_fails, zeros_end}
use Rattle.rows.proofs.Order.{word_by_word, shorter_first}

-- ---- five words

drop_next : (ws : List ℕ) (at next : ℕ) → next ≡ suc at → at < length ws → drop at ws ≡ get_or ws at 0 ∷ drop next ws
drop_next ws at next e h = rw e (drop-cons ws at 0 h)

pub five_words : (ws : List ℕ) (at : ℕ) → at + 5 ≤ length ws → five_at ws at ≡ get_or ws at 0 ∷ get_or ws (at + 1) 0 ∷ get_or ws (at + 2) 0 ∷ get_or ws (at + 3) 0 ∷ get_or ws (at + 4) 0 ∷ []
five_words ws at h =
    let a = drop_next ws at (at + 1) (omega arith) (omega arith) in
    let b = drop_next ws (at + 1) (at + 2) (omega arith) (omega arith) in
    let c = drop_next ws (at + 2) (at + 3) (omega arith) (omega arith) in
    let d = drop_next ws (at + 3) (at + 4) (omega arith) (omega arith) in
    let e = drop_next ws (at + 4) (at + 5) (omega arith) (omega arith) in
    rw (a, b, c, d, e)

pub five_length : (ws : List ℕ) (at : ℕ) → at + 5 ≤ length ws → length (five_at ws at) ≡ 5
five_length ws at h = length-take-le 5 (drop at ws) (omega (arith, length-drop at ws))

pub five_at_lem : (ws : List ℕ) (at i : ℕ) → i < 5 → get_or (five_at ws at) i 0 ≡ get_or ws (at + i) 0
five_at_lem ws at i h = get_or-take 5 (drop at ws) i 0 h ∙ get_or-drop at ws i 0

pub five_width : (ws : List ℕ) (at : ℕ) → get_or (five_at ws at) 0 0 ≡ get_or ws at 0
five_width ws at = let e : at + 0 ≡ at = omega arith in five_at_lem ws at 0 (omega arith) ∙ ap (λ (k : ℕ). get_or ws k 0) e

-- a row of five words: its width and its atoms
pub row_in_length : (ws : List ℕ) → length ws ≡ 5 → get_or ws 0 0 ≤ 4 → length (row_in ws) ≡ get_or ws 0 0
unfolding row_in
row_in_length ws l h = length-take-le (get_or ws 0 0) (drop 1 ws) (omega (arith, length-drop 1 ws))

pub row_in_atom : (ws : List ℕ) (j : ℕ) → j < get_or ws 0 0 → get_or (row_in ws) j 0 ≡ get_or ws (1 + j) 0
unfolding row_in
row_in_atom ws j h = get_or-take (get_or ws 0 0) (drop 1 ws) j 0 h ∙ get_or-drop 1 ws j 0

-- the row whose five words stand at a place
pub row_at_length : (ws : List ℕ) (at : ℕ) → at + 5 ≤ length ws → get_or ws at 0 ≤ 4 → length (row_in (five_at ws at)) ≡ get_or ws at 0
row_at_length ws at room few = let e = five_width ws at in row_in_length (five_at ws at) (five_length ws at room) (omega arith) ∙ e

pub row_at_atom : (ws : List ℕ) (at j : ℕ) → get_or ws at 0 ≤ 4 → j < get_or ws at 0 → get_or (row_in (five_at ws at)) j 0 ≡ get_or ws (at + 1 + j) 0
row_at_atom ws at j few h =
    let e = five_width ws at in
    let s : at + (1 + j) ≡ at + 1 + j = omega arith in
    row_in_atom (five_at ws at) j (omega arith) ∙ five_at_lem ws at (1 + j) (omega arith) ∙ ap (λ (k : ℕ). get_or ws k 0) s

-- its atoms stand behind its width
row_in_front : (xs : List ℕ) → get_or xs 0 0 ≤ 4 → row_in (take 5 xs) ≡ take (get_or xs 0 0) (drop 1 xs)
unfolding row_in
row_in_front [] h = refl
row_in_front (x ∷ xs) h = take-take x 4 xs h

pub row_at_words : (ws : List ℕ) (at : ℕ) → get_or ws at 0 ≤ 4 → row_in (five_at ws at) ≡ take (get_or ws at 0) (drop (at + 1) ws)
row_at_words ws at h =
    let z : at + 0 ≡ at = omega arith in
    let e : get_or (drop at ws) 0 0 ≡ get_or ws at 0 = get_or-drop at ws 0 0 ∙ ap (λ (k : ℕ). get_or ws k 0) z in
    row_in_front (drop at ws) (omega (arith, e)) ∙ ap (λ (k : ℕ). take k (drop 1 (drop at ws))) e ∙ ap (take (get_or ws at 0)) (drop-drop 1 at ws)

pub sound_narrow : (ws : List ℕ) (at : ℕ) → sound_row (five_at ws at) ≡ true → get_or ws at 0 ≤ 4
sound_narrow ws at e = let s = (sound_width (five_at ws at) e).few in omega (arith, five_width ws at)

-- is it a sound row? the words from `j` on are still to be looked at
pub record Looked (ws : List ℕ) (at j : ℕ) : Type 0 where
  pub within : j ≤ 4
  pub rest : sound_row (five_at ws at) ≡ zeros (drop j (drop 1 (five_at ws at)))

module _ (ws : List ℕ) (at : ℕ) (room : at + 5 ≤ length ws) where
  pub no_width : get_or ws at 0 < 1 → sound_row (five_at ws at) ≡ false
  unfolding sound_row
  no_width h = and_false_left _ _ (lt-leb 1 (get_or (five_at ws at) 0 0) (omega (arith, five_width ws at)))

  pub too_wide : 4 < get_or ws at 0 → sound_row (five_at ws at) ≡ false
  unfolding sound_row
  too_wide h =
      let w = five_width ws at in
      and_true_left _ _ (le-leb 1 (get_or (five_at ws at) 0 0) (omega arith)) ∙ and_false_left _ _ (lt-leb (get_or (five_at ws at) 0 0) 4 (omega arith))

  pub looked_start : (j : ℕ) → j ≡ get_or ws at 0 → 1 ≤ j → j ≤ 4 → Looked ws at j
  unfolding sound_row
  looked_start j e a b =
      let w = five_width ws at in
      record {
        within = b;
        rest = and_true_left _ _ (le-leb 1 (get_or (five_at ws at) 0 0) (omega arith)) ∙ and_true_left _ _ (le-leb (get_or (five_at ws at) 0 0) 4 (omega arith))
            ∙ ap (λ (k : ℕ). zeros (drop k (drop 1 (five_at ws at)))) (w ∙ sym e);
      }

  atoms_length : length (drop 1 (five_at ws at)) ≡ 4
  atoms_length = omega (arith, length-drop 1 (five_at ws at), five_length ws at room)

  module _ (j : ℕ) (l : Looked ws at j) where
    pub looked_end : 4 ≤ j → sound_row (five_at ws at) ≡ true
    looked_end h = l.rest ∙ zeros_end (drop 1 (five_at ws at)) j (omega (arith, atoms_length))

    module _ (h : j < 4) where
      atom_word : get_or (drop 1 (five_at ws at)) j 0 ≡ get_or ws (at + 1 + j) 0
      atom_word =
          let e : at + (1 + j) ≡ at + 1 + j = omega arith in
          get_or-drop 1 (five_at ws at) j 0 ∙ five_at_lem ws at (1 + j) (omega arith) ∙ ap (λ (k : ℕ). get_or ws k 0) e

      pub looked_next : get_or ws (at + 1 + j) 0 ≡ 0 → Looked ws at (j + 1)
      looked_next e = record { within = omega arith; rest = l.rest ∙ zeros_next (drop 1 (five_at ws at)) j (omega (arith, atoms_length)) (atom_word ∙ e) }

      pub looked_fails : (get_or ws (at + 1 + j) 0 ≡ 0 → ⊥) → sound_row (five_at ws at) ≡ false
      looked_fails e = l.rest ∙ zeros_fails (drop 1 (five_at ws at)) j (omega (arith, atoms_length)) (λ z. e (sym atom_word ∙ z))

-- ---- which comes first

-- the first words are the same, and then they differ
pub first_differs : (x y : List ℕ) (j : ℕ) → take j x ≡ take j y → j < length x → j < length y → get_or x j 0 < get_or y j 0 → words_before x y ≡ true
first_differs x y j e h k l =
    let a = split_at x j 0 h in
    let b = split_at y j 0 k in
    let f = word_by_word (take j x) (get_or x j 0) (get_or y j 0) (drop (suc j) x) (drop (suc j) y) l in
    cc

-- or one ends and the other goes on
first_ends : (x y : List ℕ) (j : ℕ) → take j x ≡ take j y → length x ≤ j → j < length y → words_before x y ≡ true
first_ends x y j e h k =
    let a = take_all j x h in
    let b = split_at y j 0 k in
    let f = shorter_first (take j x) (get_or y j 0) (drop (suc j) y) in
    cc

-- of rows, too
pub row_differs : (x y : Row) (j : ℕ) → take j x ≡ take j y → j < length x → j < length y → get_or x j 0 < get_or y j 0 → row_before x y ≡ true
unfolding row_before
row_differs = first_differs

pub row_ends : (x y : Row) (j : ℕ) → take j x ≡ take j y → length x ≤ j → j < length y → row_before x y ≡ true
unfolding row_before
row_ends = first_ends

-- one word more that is the same
pub front_next : (x y : List ℕ) (j : ℕ) → take j x ≡ take j y → j < length x → j < length y → get_or x j 0 ≡ get_or y j 0 → take (j + 1) x ≡ take (j + 1) y
front_next x y j f h k e =
    let s : j + 1 ≡ suc j = omega arith in
    let p : take (suc j) x ≡ take j x ++ (get_or x j 0 ∷ []) = take-suc x j 0 h in
    let q : take (suc j) y ≡ take j y ++ (get_or y j 0 ∷ []) = take-suc y j 0 k in
    rw s (cc)

-- the first words of two lists of one length are the same, as the first atoms of two rows of one width
pub record Agree (x y : Row) (j : ℕ) : Type 0 where
  pub width : length x ≡ length y
  pub within : j ≤ length x
  pub front : take j x ≡ take j y

pub agree_start : (x y : Row) → length x ≡ length y → Agree x y 0
agree_start x y e = record { width = e; within = omega arith; front = refl }

pub agree_next : (x y : Row) (j : ℕ) → Agree x y j → j < length x → get_or x j 0 ≡ get_or y j 0 → Agree x y (j + 1)
agree_next x y j a h e =
    let w = a.width in
    record { width = w; within = omega arith; front = front_next x y j a.front h (omega arith) e }

pub agree_end : (x y : Row) (j : ℕ) → Agree x y j → length x ≤ j → x ≡ y
agree_end x y j a h = let w = a.width in sym (take_all j x h) ∙ a.front ∙ take_all j y (omega arith)

-- ---- a row in hand

pub held_length : (r : Held.Row) → length r.atoms ≡ 4 → r.width ≤ 4 → length (row_is r) ≡ r.width
unfolding row_is
held_length r l h = length-take-le r.width r.atoms (omega arith)

pub held_atom : (r : Held.Row) (j : ℕ) → j < r.width → get_or (row_is r) j 0 ≡ get_or r.atoms j 0
unfolding row_is
held_atom r j h = get_or-take r.width r.atoms j 0 h

-- one that was loaded
pub loaded_row : (r : Held.Row) (ws : List ℕ) (at : ℕ) → five_is r ≡ five_at ws at → row_is r ≡ row_in (five_at ws at)
unfolding row_is
loaded_row r ws at e = ap row_in e

pub loaded_width : (r : Held.Row) (ws : List ℕ) (at : ℕ) → five_is r ≡ five_at ws at → r.width ≡ get_or ws at 0
unfolding five_is
loaded_width r ws at e = ap (λ (l : List ℕ). get_or l 0 0) e ∙ five_width ws at

-- its five words: the width, the atoms, and zeros
module _ (r : Held.Row) (four : length r.atoms ≡ 4) (few : r.width ≤ 4) where
  pub held_width : get_or (row_words (row_is r)) 0 0 ≡ r.width
  unfolding row_words
  held_width = held_length r four few

  pub held_words_length : length (row_words (row_is r)) ≡ 5
  held_words_length = row_length (row_is r) (omega (arith, held_length r four few))

  pub held_used : (j : ℕ) → 0 < j → j ≤ r.width → get_or (row_words (row_is r)) j 0 ≡ get_or r.atoms (j - 1) 0
  unfolding row_words
  held_used j a h =
      let e : j ≡ suc (j - 1) = omega arith in
      ap (λ (k : ℕ). get_or (row_words (row_is r)) k 0) e
      ∙ get_or-append (row_is r) (replicate (4 - length (row_is r)) 0) 0 (j - 1) (omega (arith, held_length r four few)) ∙ held_atom r (j - 1) (omega arith)

  pub held_unused : (j : ℕ) → r.width < j → j < 5 → get_or (row_words (row_is r)) j 0 ≡ 0
  unfolding row_words
  held_unused j h k =
      let l = held_length r four few in
      let e : j ≡ suc (length (row_is r) + (j - 1 - length (row_is r))) = omega arith in
      ap (λ (k : ℕ). get_or (row_words (row_is r)) k 0) e
      ∙ get_or-append-add (row_is r) (replicate (4 - length (row_is r)) 0) (j - 1 - length (row_is r)) 0
      ∙ get_or-replicate (4 - length (row_is r)) (j - 1 - length (row_is r)) 0 0 (omega arith)
