-- A set in words, as the code reads it: the rows where they stand.
use Prim.Native.Nat.{ℕ, zero, suc, ◌+◌, ◌*◌, ◌-◌, ◌≤◌, ◌<◌}
use mathlib.Core.Path.{◌≡◌, sym, ◌∙◌, ap, subst}
use mathlib.Core.Bool.{true, false, not}
use mathlib.Core.List.{List, []}
use native.Mathlib.Omega.{arith}
use lib.Dec.{eqb, eqb-suc-zero}
use lib.ListN.{length, get_or, drop}
use lib.Seq.{ext_get_or}
use Rattle.rows.specs.Ordered.{ascending, lists}
use Rattle.rows.specs.Sets.{has}
use Rattle.rows.specs.Row.{Row, row_before}
use Rattle.rows.specs.Layout.{row_in, five_at, sound_row, pieces, every, rows_in, formed, set_in, sound_set}
use Rattle.row_words.specs.Values.{five_is, row_is, ordering_for}
use Rattle.row_words.specs.Search.{rows_at, Listed, Finds}
use Rattle.row_words.specs.declared.row.Row as Held
use Rattle.std.specs.declared.cmp.Ordering.{Ordering}
use Rattle.std.specs.declared.cmp.Ordering.TheVariants.{Less, Equal, Greater}
use Rattle.std.specs.Ordering.{is_lt}
use Rattle.std.proofs.Common.{Err}
use Rattle.rows.proofs.Order.{row_order}
use Rattle.rows.proofs.Ordered.{Ascending, ascending_true}
use Rattle.rows.proofs.Place.{Between, between_all, between_up}
use Rattle.rows.proofs.LayoutLaws.{piece_sound, row_at, rows_count, true_sound}
use Rattle.row_words.proofs.RowLaws.{sound_narrow, loaded_row}
use Rattle.row_words.proofs.Orderings.{less_before, equal_same, greater_after, is_less}
use Rattle.row_words.proofs.SearchLaws.{rows_at_length, rows_at_get, finds_missing}

pub width_at : (n : ℕ) (ws : List ℕ) (i : ℕ) → every sound_row (pieces 5 n (drop 2 ws)) ≡ true → i < n → get_or ws (2 + 5 * i) 0 ≤ 4
width_at n ws i e h = sound_narrow ws (2 + 5 * i) (piece_sound n ws i e h)

-- row `i`, loaded, was compared with row `j`
module _ (ws : List ℕ) (i j : ℕ) (h : i < get_or ws 1 0) (k : j < get_or ws 1 0) (r : Held.Row) (o : Ordering)
    (loaded : five_is r ≡ five_at ws (2 + 5 * i)) (compared : o ≡ ordering_for row_before (row_is r) (row_in (five_at ws (2 + 5 * j)))) where
  rows_order : ordering_for row_before (get_or (rows_in ws) i []) (get_or (rows_in ws) j []) ≡ o
  rows_order =
      let e : get_or (rows_in ws) i [] ≡ row_is r = row_at ws i h ∙ sym (loaded_row r ws (2 + 5 * i) loaded) in
      let f : get_or (rows_in ws) j [] ≡ row_in (five_at ws (2 + 5 * j)) = row_at ws j k in
      cc

  pub rows_before : is_lt o ≡ row_before (get_or (rows_in ws) i []) (get_or (rows_in ws) j [])
  rows_before = ap is_lt (sym rows_order) ∙ is_less row_before (get_or (rows_in ws) i []) (get_or (rows_in ws) j [])

-- a row in hand was compared with row `m`
module _ (ws : List ℕ) (m : ℕ) (h : m < get_or ws 1 0) (r : Held.Row) (o : Ordering) (compared : o ≡ ordering_for row_before (row_is r) (row_in (five_at ws (2 + 5 * m)))) where
  row_order_at : ordering_for row_before (row_is r) (get_or (rows_in ws) m []) ≡ o
  row_order_at = ap (ordering_for row_before (row_is r)) (row_at ws m h) ∙ sym compared

  pub row_before_lem : o ≡ Less → row_before (row_is r) (get_or (rows_in ws) m []) ≡ true
  row_before_lem e = less_before row_order _ _ (row_order_at ∙ e)

  pub row_same : o ≡ Equal → get_or (rows_in ws) m [] ≡ row_is r
  row_same e = sym (equal_same row_order _ _ (row_order_at ∙ e))

  pub row_after : o ≡ Greater → row_before (get_or (rows_in ws) m []) (row_is r) ≡ true
  row_after e = greater_after row_order _ _ (row_order_at ∙ e)

-- a sound set's rows ascend
pub sound_ascending : (ws : List ℕ) → sound_set ws ≡ true → Ascending row_before row_order (rows_in ws)
sound_ascending ws e = ascending_true row_before row_order (rows_in ws) (true_sound ws e).order

-- they stand five words apart, as the search asks
module _ (ws : List ℕ) (n : ℕ) (e : n ≡ get_or ws 1 0) where
  pub set_rows : rows_at ws 2 5 n ≡ rows_in ws
  set_rows =
      let l = rows_at_length ws 2 5 n in
      let c = rows_count ws in
      ext_get_or [] (rows_at ws 2 5 n) (rows_in ws) (omega arith) (λ i h. rows_at_get ws 2 5 n i (omega arith) ∙ sym (row_at ws i (omega arith)))

  pub set_listed : sound_set ws ≡ true → Listed ws 2 5 n
  set_listed s =
      let t = true_sound ws s in
      let w = t.whole in
      record {
        inside = λ i h. omega arith;
        narrow = λ i h. width_at (get_or ws 1 0) ws i t.pieces (omega arith);
        ascends = ap (ascending row_before) set_rows ∙ t.order;
      }

  -- the row comes after the last of them
  pub finds_past : sound_set ws ≡ true → (r : Row) → 0 < n → row_before (get_or (rows_in ws) (n - 1) []) r ≡ true → Finds (rows_in ws) r (Err n)
  finds_past s r h b =
      let c = rows_count ws in
      let f : n - 1 + 1 ≡ n = omega arith in
      finds_missing (rows_in ws) r n n (subst (λ (i : ℕ). Between row_before row_order [] (rows_in ws) r i n) f
      (between_up row_before row_order [] (rows_in ws) (sound_ascending ws s) r 0 n (n - 1) (between_all row_before row_order [] (rows_in ws) r n (omega arith)) (omega arith) (omega arith) b)) (omega arith)

  -- there are none
  pub finds_none : (r : Row) → n ≡ 0 → Finds (rows_in ws) r (Err 0)
  finds_none r z = let c = rows_count ws in finds_missing (rows_in ws) r 0 0 (between_all row_before row_order [] (rows_in ws) r 0 (omega arith)) (omega arith)

-- the numbers of a sound set
pub record Size (ws : List ℕ) : Type 0 where
  pub header : 2 ≤ length ws
  pub form : get_or ws 0 0 ≤ 1
  pub count : get_or ws 1 0 ≡ length (rows_in ws)
  pub few : length (rows_in ws) ≤ 128
  pub whole : 2 + 5 * length (rows_in ws) ≤ length ws

pub size : (ws : List ℕ) → sound_set ws ≡ true → Size ws
size ws e =
    let s = true_sound ws e in
    let c = rows_count ws in
    record { header = s.header; form = s.form; count = sym c; few = omega (arith, s.count); whole = omega (arith, s.whole) }

pub width_in : (ws : List ℕ) (i : ℕ) → sound_set ws ≡ true → i < length (rows_in ws) → get_or ws (2 + 5 * i) 0 ≤ 4
width_in ws i e h = width_at (get_or ws 1 0) ws i (true_sound ws e).pieces (omega (arith, rows_count ws))

-- what the form makes of it
formed_listed : (n : ℕ) (xs : List Row) (r : Row) → lists row_before xs r ≡ true → eqb n 0 ≡ has (formed n xs) r
unfolding formed has
formed_listed zero xs r e = sym e
formed_listed (suc n) xs r e = eqb-suc-zero n ∙ sym (ap not e)

formed_unlisted : (n : ℕ) (xs : List Row) (r : Row) → lists row_before xs r ≡ false → not (eqb n 0) ≡ has (formed n xs) r
unfolding formed has
formed_unlisted zero xs r e = sym e
formed_unlisted (suc n) xs r e = ap not (eqb-suc-zero n) ∙ sym (ap not e)

pub has_listed : (ws : List ℕ) (r : Row) → lists row_before (rows_in ws) r ≡ true → eqb (get_or ws 0 0) 0 ≡ has (set_in ws) r
unfolding set_in
has_listed ws r e = formed_listed (get_or ws 0 0) (rows_in ws) r e

pub has_unlisted : (ws : List ℕ) (r : Row) → lists row_before (rows_in ws) r ≡ false → not (eqb (get_or ws 0 0) 0) ≡ has (set_in ws) r
unfolding set_in
has_unlisted ws r e = formed_unlisted (get_or ws 0 0) (rows_in ws) r e
