-- Rows that stand in words at equal distances, one by one, and what a search among rows in order answers.
use Prim.Native.Nat.{ℕ, zero, suc, ◌+◌, ◌*◌, ◌≤◌, ◌<◌}
use mathlib.Core.Path.{◌≡◌, refl, sym, ◌∙◌, ap, subst}
use mathlib.Core.Bool.{true, false}
use mathlib.Core.List.{List, [], ◌∷◌, map}
use native.Mathlib.Omega.{arith}
use native.Mathlib.Nat.{mul-suc, mul-le-mul_left}
use lib.ListN.{length, get_or, take, drop, length-map, get_or-map}
use lib.Seq.{drop-nil, drop-drop, take-take, get_or-drop, ext_get_or}
use Rattle.rows.specs.Ordered.{ascending, lists}
use Rattle.rows.specs.Row.{Row, row_before}
use Rattle.rows.specs.Layout.{row_in, five_at, pieces}
use Rattle.rows.proofs.Order.{row_order}
use Rattle.rows.proofs.Ordered.{Ascending, ascending_true}
use Rattle.rows.proofs.Place.{Between, between_up, between_down, gap_insert, gap_lists, found_lists}
use Rattle.rows.proofs.LayoutLaws.{length_pieces, piece_at}
use Rattle.row_words.specs.Values.{ordering_for}
use Rattle.row_words.specs.Search.{rows_at, Listed, Finds}
use Rattle.std.proofs.Common.{Result, Ok, Err}
use Rattle.std.specs.declared.cmp.Ordering.{Ordering}
use Rattle.std.specs.declared.cmp.Ordering.TheVariants.{Less, Equal, Greater}
use Rattle.row_words.proofs.Orderings.{less_before, equal_same, greater_after}

-- ---- the rows

pub rows_at_length : (ws : List ℕ) (start step count : ℕ) → length (rows_at ws start step count) ≡ count
unfolding rows_at
rows_at_length ws start step zero = refl
rows_at_length ws start step (suc n) = ap suc (rows_at_length ws (start + step) step n)

pub rows_at_get : (ws : List ℕ) (start step count i : ℕ) → i < count → get_or (rows_at ws start step count) i [] ≡ row_in (five_at ws (start + step * i))
unfolding rows_at
rows_at_get ws start step zero i h = absurd (omega arith)
rows_at_get ws start step (suc n) zero h = let e : start ≡ start + step * 0 = omega arith in ap (λ (k : ℕ). row_in (five_at ws k)) e
rows_at_get ws start step (suc n) (suc i) h =
    let e : start + step + step * i ≡ start + step * suc i = omega (arith, mul-suc step i) in
    rows_at_get ws (start + step) step n i (omega arith) ∙ ap (λ (k : ℕ). row_in (five_at ws k)) e

-- ---- the rows in records of `w` words, from word `k` of each on

-- of a record's words those count that the row takes
row_front : (k w : ℕ) (ws : List ℕ) → k + 5 ≤ w → get_or ws k 0 ≤ 4 → row_in (drop k (take w ws)) ≡ row_in (five_at ws k)
unfolding row_in
row_front k zero ws h n = absurd (omega arith)
row_front zero (suc w) [] h n = refl
row_front zero (suc w) (x ∷ ws) h n = take-take x w ws (omega arith) ∙ sym (take-take x 4 ws n)
row_front (suc k) (suc w) [] h n = refl
row_front (suc k) (suc w) (x ∷ ws) h n = row_front k w ws (omega arith) n

module _ (ws : List ℕ) (k w count : ℕ) (room : k + 5 ≤ w) (narrow : (i : ℕ) → i < count → get_or ws (k + w * i) 0 ≤ 4) where
  row_in_piece : (i : ℕ) → i < count → get_or (map (λ p. row_in (drop k p)) (pieces w count ws)) i [] ≡ row_in (five_at ws (k + w * i))
  unfolding row_in
  row_in_piece i h =
      let none : [] ≡ row_in (drop k []) = ap row_in (sym (drop-nil k)) in
      let e : w * i + k ≡ k + w * i = omega arith in
      ap (get_or (map (λ p. row_in (drop k p)) (pieces w count ws)) i) none
      ∙ get_or-map (λ p. row_in (drop k p)) (pieces w count ws) i []
      ∙ ap (λ (p : List ℕ). row_in (drop k p)) (piece_at w count ws i h)
      ∙ row_front k w (drop (w * i) ws) room (omega (arith, narrow i h, get_or-drop (w * i) ws k 0, ap (λ (j : ℕ). get_or ws j 0) e))
      ∙ ap (λ (p : List ℕ). row_in (take 5 p)) (drop-drop k (w * i) ws ∙ ap (λ (j : ℕ). drop j ws) e)

  pub rows_in_pieces : rows_at ws k w count ≡ map (λ p. row_in (drop k p)) (pieces w count ws)
  rows_in_pieces =
      let n = rows_at_length ws k w count in
      ext_get_or [] _ _ (n ∙ sym (length-map (pieces w count ws) (λ p. row_in (drop k p)) ∙ length_pieces w count ws))
      (λ i h. rows_at_get ws k w count i (omega arith) ∙ sym (row_in_piece i (omega arith)))

  pub listed_in_pieces : w * count ≤ length ws → ascending row_before (map (λ p. row_in (drop k p)) (pieces w count ws)) ≡ true → Listed ws k w count
  listed_in_pieces whole order = record {
    inside = λ i h. omega (arith, mul-suc w i, mul-le-mul_left {m = suc i} {n = count} w (omega arith));
    narrow = narrow;
    ascends = ap (ascending row_before) rows_in_pieces ∙ order;
  }

-- ---- what the search answers

pub finds_at : (xs : List Row) (r : Row) (i : ℕ) → i < length xs → get_or xs i [] ≡ r → Finds xs r (Ok i)
unfolding Finds
finds_at xs r i h e = (found_lists row_before row_order [] xs r i h e, h, e)

pub finds_missing : (xs : List Row) (r : Row) (low high : ℕ) → Between row_before row_order [] xs r low high → high ≤ low → Finds xs r (Err low)
unfolding Finds
finds_missing xs r low high b h =
    let o = b.order in
    let g : Between row_before row_order [] xs r low low = let e : high ≡ low = omega arith in subst (Between row_before row_order [] xs r low) e b in
    (gap_lists row_before row_order [] xs r low g, g.end, gap_insert row_before row_order [] xs r low g)

pub ok_listed : (xs : List Row) (r : Row) (f : Result ℕ ℕ) (i : ℕ) → f ≡ Ok i → Finds xs r f → lists row_before xs r ≡ true
unfolding Finds
ok_listed xs r f i e s = (subst (Finds xs r) e s).0

pub err_unlisted : (xs : List Row) (r : Row) (f : Result ℕ ℕ) (i : ℕ) → f ≡ Err i → Finds xs r f → lists row_before xs r ≡ false
unfolding Finds
err_unlisted xs r f i e s = (subst (Finds xs r) e s).0

-- ---- one step of it: the row was compared with row `m`

module _ {ws : List ℕ} {start step count : ℕ} (l : Listed ws start step count) {x : Row} {low high : ℕ} (b : Between row_before row_order [] (rows_at ws start step count) x low high)
    (m : ℕ) (h : low ≤ m) (k : m < high) where
  pub below_count : m < count
  below_count = let e = b.end in omega (arith, rows_at_length ws start step count)

  module _ {o : Ordering} (compared : o ≡ ordering_for row_before x (row_in (five_at ws (start + step * m)))) where
    order_there : ordering_for row_before x (get_or (rows_at ws start step count) m []) ≡ o
    order_there = ap (ordering_for row_before x) (rows_at_get ws start step count m below_count) ∙ sym compared

    order : Ascending row_before row_order (rows_at ws start step count)
    order = ascending_true row_before row_order (rows_at ws start step count) l.ascends

    pub halve_before : o ≡ Less → Between row_before row_order [] (rows_at ws start step count) x low m
    halve_before e = between_down row_before row_order [] (rows_at ws start step count) order x low high m b h k (less_before row_order _ _ (order_there ∙ e))

    pub halve_same : o ≡ Equal → Finds (rows_at ws start step count) x (Ok m)
    halve_same e = let n = b.end in finds_at (rows_at ws start step count) x m (omega arith) (sym (equal_same row_order _ _ (order_there ∙ e)))

    pub halve_after : o ≡ Greater → Between row_before row_order [] (rows_at ws start step count) x (m + 1) high
    halve_after e = between_up row_before row_order [] (rows_at ws start step count) order x low high m b h k (greater_after row_order _ _ (order_there ∙ e))
