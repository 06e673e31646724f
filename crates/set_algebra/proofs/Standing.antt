-- For callers: what `combine` leaves at the front of its area, where the value fits, is a sound set, and reads as the value.
use Prim.Native.Nat.{ℕ, ◌≤◌}
use mathlib.Core.Path.{◌≡◌, sym, ◌∙◌, ap}
use mathlib.Core.Bool.{Bool, true, false}
use mathlib.Core.List.{List}
use lib.ListN.{length}
use borrow.Author.Tests.{leb-true}
use Rattle.rows.specs.Sets.{RowSet, listing, most_rows, combined}
use Rattle.rows.proofs.LayoutLaws.{Width}
use Rattle.rows.proofs.Sets.{unite_all, subtract_all, unite_ascending, subtract_ascending}
use Rattle.sets.proofs.Standing.{Stands, Fit, written_stands}
use Rattle.set_algebra.specs.Combined.{left_by, Combined}

pub combined_fit : (minus : Bool) (S T : RowSet) → Fit S → Fit T → Fit (combined minus S T)
unfolding combined
combined_fit true S T s t = record { order = subtract_ascending S T s.order t.order; widths = subtract_all Width S T s.widths t.widths }
combined_fit false S T s t = record { order = unite_ascending S T s.order t.order; widths = unite_all Width S T s.widths t.widths }

pub combined_stands : {value : RowSet} {before after : List ℕ} {fits : Bool} → Combined value before after fits → fits ≡ true → Fit value → 642 ≤ length before → Stands value after
unfolding left_by
combined_stands {value} {before} c e fit long =
    let few = leb-true (length (listing value)) most_rows (sym c.answer ∙ e) in
    written_stands fit few before long (c.words ∙ ap (λ (b : Bool). left_by b value before) e)
