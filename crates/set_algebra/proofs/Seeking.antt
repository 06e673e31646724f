-- A walk along a list to where a row stands or would stand.
use Prim.Native.Nat.{ℕ, ◌≤◌, ◌<◌}
use mathlib.Core.Path.{◌≡◌, sym, subst}
use mathlib.Core.Bool.{true}
use Rattle.std.proofs.Common.{Ok, Err}
use mathlib.Core.List.{List, []}
use native.Mathlib.Omega.{arith}
use lib.ListN.{length, get_or}
use Rattle.rows.specs.Row.{Row, row_before}
use Rattle.set_algebra.specs.Private.{Passed, Sought}
use Rattle.rows.proofs.Order.{row_order}
use Rattle.rows.proofs.Ordered.{Ascending}
use Rattle.rows.proofs.Place.{Between, between_down, gap_lists, found_lists}

-- the rows passed come before the row; of the others nothing is known yet
abbrev pub Walked : List Row → Row → ℕ → Type 0
Walked ys x j = Between row_before row_order [] ys x j (length ys)

module _ (ys : List Row) (x : Row) where
  pub walk_start : (j : ℕ) → Passed ys x j → Walked ys x j
  unfolding Passed
  walk_start j p = record { order = p.0; end = omega arith; below = p.1; above = λ k h l. absurd (omega arith) }

  passed_of : (j high : ℕ) → Between row_before row_order [] ys x j high → Passed ys x j
  unfolding Passed
  passed_of j high b = let o = b.order in let e = b.end in (omega arith, b.below)

  pub seek_before : Ascending row_before row_order ys → (j : ℕ) → Walked ys x j → j < length ys → row_before x (get_or ys j []) ≡ true → Sought ys x (Err j)
  seek_before a j w h e =
      let g = between_down row_before row_order [] ys a x j (length ys) j w (omega arith) h e in
      record { passed = passed_of j j g; found = sym (gap_lists row_before row_order [] ys x j g) }

  pub seek_same : (j : ℕ) → Walked ys x j → j < length ys → get_or ys j [] ≡ x → Sought ys x (Ok j)
  seek_same j w h e = record { passed = passed_of j (length ys) w; found = sym (found_lists row_before row_order [] ys x j h e) }

  pub seek_end : (j : ℕ) → Walked ys x j → length ys ≤ j → Sought ys x (Err j)
  seek_end j w h =
      let o = w.order in
      let e : length ys ≡ j = omega arith in
      let g : Between row_before row_order [] ys x j j = subst (Between row_before row_order [] ys x j) e w in
      record { passed = passed_of j j g; found = sym (gap_lists row_before row_order [] ys x j g) }
