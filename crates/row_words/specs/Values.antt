-- What a row in hand is, and how two compare.
use Rattle.std.specs.Prelude.{ℕ, Bool, true, false, List, ◌∷◌}
use Rattle.std.specs.declared.cmp.Ordering.{Ordering}
use Rattle.std.specs.declared.cmp.Ordering.TheVariants.{Less, Equal, Greater}
use Rattle.rows.specs.Row.{Row}
use Rattle.rows.specs.Layout.{row_in}
use Rattle.row_words.specs.declared.row.Row as Held

-- a row in hand: its five words, and the row that they are
unfoldable pub five_is : Held.Row → List ℕ
five_is r = r.width ∷ r.atoms

unfoldable pub row_is : Held.Row → Row
unfolding five_is row_in
row_is r = row_in (five_is r)

-- which of two comes first, in an order
unfoldable pub ordering_for : {A : Type 0} → (A → A → Bool) → A → A → Ordering
ordering_for before x y = elim (before x y) [ true ↦ Less | false ↦ elim (before y x) [ true ↦ Greater | false ↦ Equal ] ]
