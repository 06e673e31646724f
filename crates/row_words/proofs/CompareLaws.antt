-- A row in hand against a row in words, atom by atom.
use Prim.Native.Nat.{ℕ, ◌+◌, ◌≤◌, ◌<◌}
use mathlib.Core.Path.{◌≡◌, sym, ◌∙◌}
use mathlib.Core.List.{List}
use native.Mathlib.Omega.{arith}
use Rattle.std.proofs.Common.{min}
use lib.ListN.{length, get_or, take}
use lib.Seq.{take_all}
use Rattle.std.specs.declared.cmp.Ordering.TheVariants.{Less, Equal, Greater}
use Rattle.std.specs.declared.cmp.Ordering.{Ordering}
use Rattle.std.specs.Ordering.{nat_cmp, MatchOrdering}
use Rattle.std.proofs.lemmas.Cmp.{ranked}
use Rattle.rows.specs.Row.{row_before}
use Rattle.rows.specs.Layout.{row_in, five_at}
use Rattle.row_words.specs.Values.{row_is, ordering_for}
use Rattle.row_words.specs.declared.row.Row as Held
use Rattle.rows.proofs.Order.{row_order}
use Rattle.row_words.proofs.RowLaws.{row_at_length, row_at_atom, held_length, held_atom, row_ends, row_differs, front_next}
use Rattle.row_words.proofs.Orderings.{ordering_less, ordering_equal, ordering_greater}

-- a row in hand against the five words at a place, atom by atom
pub record Against (r : Held.Row) (ws : List ℕ) (at : ℕ) : Type 0 where
  pub room : at + 5 ≤ length ws
  pub four : length r.atoms ≡ 4
  pub few : r.width ≤ 4
  pub narrow : get_or ws at 0 ≤ 4

module _ {r : Held.Row} {ws : List ℕ} {at : ℕ} (a : Against r ws at) where
  mine : length (row_is r) ≡ r.width
  mine = held_length r a.four a.few

  theirs : length (row_in (five_at ws at)) ≡ get_or ws at 0
  theirs = row_at_length ws at a.room a.narrow

  module _ (j : ℕ) (front : take j (row_is r) ≡ take j (row_in (five_at ws at))) where
    pub compare_ends : r.width ≤ j → j < get_or ws at 0 → ordering_for row_before (row_is r) (row_in (five_at ws at)) ≡ Less
    compare_ends h k = ordering_less row_order _ _ (row_ends _ _ j front (omega (arith, mine)) (omega (arith, theirs)))

    pub compare_goes_on : j < r.width → get_or ws at 0 ≤ j → ordering_for row_before (row_is r) (row_in (five_at ws at)) ≡ Greater
    compare_goes_on h k = ordering_greater row_order _ _ (row_ends _ _ j (sym front) (omega (arith, theirs)) (omega (arith, mine)))

    pub compare_same : r.width ≤ j → get_or ws at 0 ≤ j → ordering_for row_before (row_is r) (row_in (five_at ws at)) ≡ Equal
    compare_same h k = ordering_equal row_order _ _ (sym (take_all j _ (omega (arith, mine))) ∙ front ∙ take_all j _ (omega (arith, theirs)))

    module _ (h : j < r.width) (k : j < get_or ws at 0) where
      here : get_or (row_is r) j 0 ≡ get_or r.atoms j 0
      here = held_atom r j h

      there : get_or (row_in (five_at ws at)) j 0 ≡ get_or ws (at + 1 + j) 0
      there = row_at_atom ws at j a.narrow k

      pub compare_less : get_or r.atoms j 0 < get_or ws (at + 1 + j) 0 → ordering_for row_before (row_is r) (row_in (five_at ws at)) ≡ Less
      compare_less l = ordering_less row_order _ _ (row_differs _ _ j front (omega (arith, mine)) (omega (arith, theirs)) (omega (arith, here, there)))

      pub compare_more : get_or ws (at + 1 + j) 0 < get_or r.atoms j 0 → ordering_for row_before (row_is r) (row_in (five_at ws at)) ≡ Greater
      compare_more l = ordering_greater row_order _ _ (row_differs _ _ j (sym front) (omega (arith, theirs)) (omega (arith, mine)) (omega (arith, here, there)))

      pub compare_next : get_or r.atoms j 0 ≡ get_or ws (at + 1 + j) 0 → take (j + 1) (row_is r) ≡ take (j + 1) (row_in (five_at ws at))
      compare_next e = front_next _ _ j front (omega (arith, mine)) (omega (arith, theirs)) (here ∙ e ∙ sym there)

      pub compare_atoms : (o : Ordering) → o ≡ nat_cmp (get_or r.atoms j 0) (get_or ws (at + 1 + j) 0) → (get_or r.atoms j 0 ≡ get_or ws (at + 1 + j) 0 → ⊥) →
          o ≡ ordering_for row_before (row_is r) (row_in (five_at ws at))
      compare_atoms o e n = go o (ranked (get_or r.atoms j 0) (get_or ws (at + 1 + j) 0) o e)
        where
          go : (p : Ordering) → MatchOrdering p (get_or r.atoms j 0 < get_or ws (at + 1 + j) 0) (get_or r.atoms j 0 ≡ get_or ws (at + 1 + j) 0) (get_or ws (at + 1 + j) 0 < get_or r.atoms j 0) →
              p ≡ ordering_for row_before (row_is r) (row_in (five_at ws at))
          go Less m = sym (compare_less m)
          go Equal m = absurd (n m)
          go Greater m = sym (compare_more m)

    -- one of them ends here
    pub compare_widths : (o : Ordering) → o ≡ nat_cmp r.width (get_or ws at 0) → min r.width (get_or ws at 0) ≡ j →
        o ≡ ordering_for row_before (row_is r) (row_in (five_at ws at))
    compare_widths o e h = go o (ranked r.width (get_or ws at 0) o e)
      where
        go : (p : Ordering) → MatchOrdering p (r.width < get_or ws at 0) (r.width ≡ get_or ws at 0) (get_or ws at 0 < r.width) → p ≡ ordering_for row_before (row_is r) (row_in (five_at ws at))
        go Less m = sym (compare_ends (omega arith) (omega arith))
        go Equal m = sym (compare_same (omega arith) (omega arith))
        go Greater m = sym (compare_goes_on (omega arith) (omega arith))
