-- Which of two sound records comes before, by their names, then by their rows, then by their terms.
use Prim.Native.Nat.{ℕ, ◌≤◌, ◌<◌}
use mathlib.Core.Path.{◌≡◌, sym, ◌∙◌, ap}
use mathlib.Core.Bool.{true, false}
use mathlib.Core.List.{List}
use native.Mathlib.Omega.{arith}
use lib.Dec.{ltb, eqb}
use lib.ListN.{length, get_or, take}
use lib.Seq.{length-take-le, take-take, get_or-take}
use borrow.Author.Tests.{le-ltb, eq-eqb, ne_eqb, ltb-true, ltb-false}
use Rattle.rows.specs.Ordered.{words_before}
use Rattle.rows.specs.Layout.{five_at}
use Rattle.rows.specs.Row.{Row, row_before}
use Rattle.rows.proofs.Case.{Case, is_true, is_false, split}
use Rattle.rows.proofs.Order.{row_order}
use Rattle.row_words.specs.Values.{five_is, row_is, ordering_for}
use Rattle.row_words.specs.declared.row.Row as Held
use Rattle.std.proofs.Common.{Ordering, Less, Equal, Greater}
use Rattle.row_words.proofs.RowLaws.{first_differs, loaded_row, sound_narrow}
use Rattle.row_words.proofs.Orderings.{less_before, equal_same, greater_after}
use Rattle.certificates.specs.Certificate.{first_minute, end_minute, record_name, record_row, record_term, sound_record, record_before}
use Rattle.certificates.proofs.RecordOrder.{name_decides, name_denies, row_decides, row_denies}
use Rattle.certificates.proofs.Sound.{sound_record_lem}
use Rattle.certificates.proofs.StoreOrder.{holds}

pub record_width : (w : List ℕ) → sound_record w ≡ true → get_or w 3 0 ≤ 4
record_width w s = sound_narrow w 3 (sound_record_lem w s).row

-- the terms, as the code compares them
module _ (a b : List ℕ) where
  pub first_differ : (first_minute a ≡ first_minute b → ⊥) → ltb (first_minute a) (first_minute b) ≡ words_before (record_term a) (record_term b)
  unfolding words_before
  first_differ n = go (split (ltb (first_minute a) (first_minute b)))
    where
      go : Case (ltb (first_minute a) (first_minute b)) → ltb (first_minute a) (first_minute b) ≡ words_before (record_term a) (record_term b)
      go (is_true t) = rw t
      go (is_false t) = rw (t, ne_eqb _ _ n)

  pub first_alike : first_minute a ≡ first_minute b → ltb (end_minute a) (end_minute b) ≡ words_before (record_term a) (record_term b)
  unfolding words_before
  first_alike e = go (split (ltb (end_minute a) (end_minute b))) (split (eqb (end_minute a) (end_minute b)))
    where
      go : Case (ltb (end_minute a) (end_minute b)) → Case (eqb (end_minute a) (end_minute b)) → ltb (end_minute a) (end_minute b) ≡ words_before (record_term a) (record_term b)
      go (is_true t) u = rw (le-ltb (first_minute a) (first_minute b) (omega arith), eq-eqb _ _ e, t)
      go (is_false t) (is_true u) = rw (le-ltb (first_minute a) (first_minute b) (omega arith), eq-eqb _ _ e, t, u)
      go (is_false t) (is_false u) = rw (le-ltb (first_minute a) (first_minute b) (omega arith), eq-eqb _ _ e, t, u)

-- the names, as the code compares them: the first words that differ decide
module _ (a b : List ℕ) (j : ℕ) (alike : take j a ≡ take j b) where
  unlike : (x y : List ℕ) → length x ≡ 10 → length y ≡ 10 → take j x ≡ take j y → j < 3 → get_or x j 0 < get_or y j 0 → words_before (record_name x) (record_name y) ≡ true
  unlike x y l m e h d =
      let p : take j (take 3 x) ≡ take j x = take-take j 3 x (omega arith) in
      let q : take j (take 3 y) ≡ take j y = take-take j 3 y (omega arith) in
      let u : get_or (take 3 x) j 0 ≡ get_or x j 0 = get_or-take 3 x j 0 h in
      let v : get_or (take 3 y) j 0 ≡ get_or y j 0 = get_or-take 3 y j 0 h in
      first_differs (take 3 x) (take 3 y) j (p ∙ e ∙ sym q) (omega (arith, length-take-le 3 x (omega arith))) (omega (arith, length-take-le 3 y (omega arith))) (omega arith)

  pub name_differs : length a ≡ 10 → length b ≡ 10 → j < 3 → (get_or a j 0 ≡ get_or b j 0 → ⊥) → ltb (get_or a j 0) (get_or b j 0) ≡ record_before a b
  name_differs l m h n = go (split (ltb (get_or a j 0) (get_or b j 0)))
    where
      go : Case (ltb (get_or a j 0) (get_or b j 0)) → ltb (get_or a j 0) (get_or b j 0) ≡ record_before a b
      go (is_true t) = let d = ltb-true _ _ t in t ∙ sym (name_decides a b (unlike a b l m alike h (omega arith)))
      go (is_false t) = let d = ltb-false _ _ t in t ∙ sym (name_denies a b (unlike b a m l (sym alike) h (omega arith)))

  -- or none does
  pub name_same : j ≡ 3 → record_name a ≡ record_name b
  name_same e = ap (λ (n : ℕ). take n a) (sym e) ∙ alike ∙ ap (λ (n : ℕ). take n b) e

-- the names are the same: the rows, as the code compares them
module _ (a b : List ℕ) (sound_a : sound_record a ≡ true) (sound_b : sound_record b ≡ true) (named : record_name a ≡ record_name b) where
  module _ (r : Held.Row) (loaded : five_is r ≡ five_at a 3) (o : Ordering) (compared : o ≡ ordering_for row_before (row_is r) (record_row b)) where
    rows_compared : ordering_for row_before (record_row a) (record_row b) ≡ o
    rows_compared = ap (λ (x : Row). ordering_for row_before x (record_row b)) (sym (loaded_row r a 3 loaded)) ∙ sym compared

    pub row_before_lem : o ≡ Less → true ≡ record_before a b
    row_before_lem e = sym (row_decides a b named (less_before row_order (record_row a) (record_row b) (rows_compared ∙ e)))

    -- the rows are the same too: the terms decide
    pub row_same : o ≡ Equal → words_before (record_term a) (record_term b) ≡ record_before a b
    row_same e = sym (holds.by_term a b sound_a sound_b named (equal_same row_order (record_row a) (record_row b) (rows_compared ∙ e)))

    pub row_after : o ≡ Greater → false ≡ record_before a b
    row_after e = sym (row_denies a b named (greater_after row_order (record_row a) (record_row b) (rows_compared ∙ e)))
