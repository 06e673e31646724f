-- The three ends of an insertion.
use Prim.Native.Nat.{ℕ, ◌≤◌, ◌<◌}
use mathlib.Core.Path.{◌≡◌, refl, sym, ◌∙◌, ap, subst}
use mathlib.Core.Bool.{Bool, true, false}
use mathlib.Core.List.{List, [], ◌∷◌, ◌++◌}
use lib.ListN.{length, get_or, take, drop}
use borrow.Author.Tests.{lt-ltb, le-ltb}
use Rattle.rows.specs.Ordered.{◌∈◌, lists}
use Rattle.rows.specs.Row.{Row, row_before}
use Rattle.rows.specs.Sets.{listing, most_rows}
use Rattle.rows.specs.Layout.{rows_in, formed, set_in, sound_set, written}
use Rattle.sets.specs.Values.{insert_gives, insert_leaves}
use Rattle.row_words.specs.Search.{Finds}
use Rattle.std.proofs.Common.{Result, Ok, Err}
use Rattle.refusals.specs.declared.Refusal.TheVariants.{TooManyRows}
use Rattle.rows.proofs.Case.{T_true}
use Rattle.rows.proofs.Order.{row_order}
use Rattle.rows.proofs.Ordered.{lists_iff}
use Rattle.rows.proofs.Place.{insert_known}
use Rattle.rows.proofs.LayoutLaws.{listing_in, sound_written}
use Rattle.row_words.proofs.SearchLaws.{ok_listed, err_unlisted}
use Rattle.sets.proofs.SetWords.{sound_ascending}

module _ (ws : List ℕ) (r : Row) (f : Result ℕ ℕ) (i : ℕ) (finds : Finds (rows_in ws) r f) where
  listed_as : (b : Bool) → lists row_before (rows_in ws) r ≡ b → lists row_before (listing (set_in ws)) r ≡ b
  listed_as b e = ap (λ (xs : List Row). lists row_before xs r) (listing_in ws) ∙ e

  -- it is listed already
  pub known_answer : f ≡ Ok i → Ok false ≡ insert_gives (set_in ws) r
  unfolding insert_gives
  known_answer e = rw (listed_as true (ok_listed (rows_in ws) r f i e finds), insert_gives)

  pub known_words : sound_set ws ≡ true → f ≡ Ok i → ws ≡ insert_leaves (Ok false) ws r
  unfolding insert_leaves set_in
  known_words s e =
      let m : r ∈ rows_in ws = (lists_iff row_before row_order (rows_in ws) r).0 (T_true (ok_listed (rows_in ws) r f i e finds)) in
      sound_written ws s ∙ ap (λ (xs : List Row). written (formed (get_or ws 0 0) xs) ws) (sym (insert_known row_before row_order [] (rows_in ws) r (sound_ascending ws s) m))

  module _ (e : f ≡ Err i) where
    pub err_place : i ≤ length (rows_in ws)
    unfolding Finds
    err_place = (subst (Finds (rows_in ws) r) e finds).1

    unlisted : lists row_before (listing (set_in ws)) r ≡ false
    unlisted = listed_as false (err_unlisted (rows_in ws) r f i e finds)

    -- there is no room
    pub full_answer : 128 ≤ length (rows_in ws) → Err TooManyRows ≡ insert_gives (set_in ws) r
    unfolding insert_gives
    full_answer h = rw (unlisted, listing_in ws, le-ltb (length (rows_in ws)) most_rows h, insert_gives)

    pub full_words : ws ≡ insert_leaves (Err TooManyRows) ws r
    unfolding insert_leaves
    full_words = refl

    -- it is put in
    pub new_answer : length (rows_in ws) < 128 → Ok true ≡ insert_gives (set_in ws) r
    unfolding insert_gives
    new_answer h = rw (unlisted, listing_in ws, lt-ltb (length (rows_in ws)) most_rows h, insert_gives)

    pub new_words : (now : List ℕ) → now ≡ written (formed (get_or ws 0 0) (take i (rows_in ws) ++ (r ∷ drop i (rows_in ws)))) ws → now ≡ insert_leaves (Ok true) ws r
    unfolding insert_leaves Finds
    new_words now p = p ∙ ap (λ (xs : List Row). written (formed (get_or ws 0 0) xs) ws) (sym (subst (Finds (rows_in ws) r) e finds).2)
