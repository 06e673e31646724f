-- For callers: what `clear`, `copy` and `insert` leave at the front of an area is a sound set, and reads as the set meant.
use Prim.Native.Nat.{ℕ, ◌≤◌, ◌<◌}
use mathlib.Core.Path.{◌≡◌, sym, ◌∙◌, ap}
use mathlib.Core.Bool.{true}
use mathlib.Core.List.{List, []}
use native.Mathlib.Omega.{arith}
use lib.Dec.{ltb}
use lib.ListN.{length, get_or}
use borrow.Author.Tests.{ltb-true, ltb-false}
use Rattle.rows.specs.Word.{All}
use Rattle.rows.specs.Ordered.{◌∈◌, lists, insert}
use Rattle.rows.specs.Row.{Row, row_before}
use Rattle.rows.specs.Sets.{RowSet, listing, most_rows}
use Rattle.rows.specs.Layout.{form_word, set_words, written, rows_in, formed, set_in, sound_set}
use Rattle.sets.specs.Values.{insert_gives}
use Rattle.std.proofs.Common.{Ok, Err, Bool}
use Rattle.refusals.specs.declared.Refusal.{Refusal}
use Rattle.rows.proofs.Case.{Case, is_true, is_false, split, never, T_true, true_T}
use Rattle.rows.proofs.Order.{row_order}
use Rattle.rows.proofs.Ordered.{Ascending, lists_iff, insert_ascending, insert_length}
use Rattle.rows.proofs.Sets.{insert_all}
use Rattle.rows.proofs.Place.{insert_known}
use Rattle.rows.proofs.Joining.{insert_shorter}
use Rattle.rows.proofs.LayoutLaws.{Width, listing_in, formed_listing, formed_word, set_size, written_length, written_in, written_fits, sound_few, sound_widths, true_sound}
use Rattle.sets.proofs.SetWords.{size, sound_ascending}
use Rattle.sets.proofs.Front.{SameFront, set_same, sound_same}

pub record Stands (S : RowSet) (area : List ℕ) : Type 0 where
  pub long : 642 ≤ length area
  pub sound : sound_set area ≡ true
  pub set : set_in area ≡ S

module _ {S : RowSet} {area : List ℕ} (s : Stands S area) where
  pub stands_rows : rows_in area ≡ listing S
  stands_rows = sym (listing_in area) ∙ ap listing s.set

  pub stands_form : get_or area 0 0 ≡ form_word S
  unfolding set_in
  stands_form = sym (formed_word (get_or area 0 0) (rows_in area) (true_sound area s.sound).form) ∙ ap form_word s.set

  pub stands_front : {now : List ℕ} → SameFront area now → Stands S now
  stands_front e = record { long = e.second; sound = sound_same e s.sound; set = set_same e s.sound ∙ s.set }

-- a set whose rows ascend, each of 1 to 4 atoms
pub record Fit (S : RowSet) : Type 0 where
  pub order : Ascending row_before row_order (listing S)
  pub widths : All Width (listing S)

pub formed_fit : (form : ℕ) (xs : List Row) → Ascending row_before row_order xs → All Width xs → Fit (formed form xs)
formed_fit form xs a w = record { order = rw (formed_listing form xs) a; widths = rw (formed_listing form xs) w }

pub formed_few : (form : ℕ) (xs : List Row) → length xs ≤ most_rows → length (listing (formed form xs)) ≤ most_rows
formed_few form xs h = rw (formed_listing form xs) h

pub sound_fit : (ws : List ℕ) → sound_set ws ≡ true → Fit (set_in ws)
unfolding set_in
sound_fit ws e = formed_fit (get_or ws 0 0) (rows_in ws) (sound_ascending ws e) (sound_widths ws e)

-- it is written, if it lists no more rows than a set may
module _ {S : RowSet} (f : Fit S) (few : length (listing S) ≤ most_rows) where
  pub fit_size : length (set_words S) ≤ 642
  fit_size = omega (arith, set_size S f.widths)

  pub written_stands : (area : List ℕ) {now : List ℕ} → 642 ≤ length area → now ≡ written S area → Stands S now
  written_stands area h e =
      let n = fit_size in
      record {
        long = omega (arith, ap length e, written_length S area (omega arith));
        sound = ap sound_set e ∙ written_fits S area f.order f.widths few h;
        set = ap set_in e ∙ written_in S area f.widths;
      }

-- `clear` and `copy`
pub cleared_stands : (form : ℕ) (area : List ℕ) {now : List ℕ} → 642 ≤ length area → now ≡ written (formed form []) area → Stands (formed form []) now
unfolding Ascending All
cleared_stands form area h e = written_stands (formed_fit form [] tt tt) (formed_few form [] (omega arith)) area h e

module _ (ws : List ℕ) (s : sound_set ws ≡ true) where
  pub set_fits : length (set_words (set_in ws)) ≤ 642
  set_fits = fit_size (sound_fit ws s) (sound_few ws s)

  pub copied_stands : (area : List ℕ) {now : List ℕ} → 642 ≤ length area → now ≡ written (set_in ws) area → Stands (set_in ws) now
  copied_stands = written_stands (sound_fit ws s) (sound_few ws s)

-- `insert`: there was room or the row was known, or there was none
module _ (ws : List ℕ) (r : Row) (s : sound_set ws ≡ true) where
  pub inserted_fit : Width r → Fit (formed (get_or ws 0 0) (insert row_before r (rows_in ws)))
  inserted_fit w =
      formed_fit (get_or ws 0 0) _ (insert_ascending row_before row_order r (rows_in ws) (sound_ascending ws s)) (insert_all Width r (rows_in ws) w (sound_widths ws s))

  listed_as : lists row_before (rows_in ws) r ≡ lists row_before (listing (set_in ws)) r
  listed_as = ap (λ (xs : List Row). lists row_before xs r) (sym (listing_in ws))

  pub inserted_few : (new : Bool) → Ok new ≡ insert_gives (set_in ws) r → length (insert row_before r (rows_in ws)) ≤ 128
  unfolding insert_gives
  inserted_few new q = go (split (lists row_before (listing (set_in ws)) r)) (split (ltb (length (listing (set_in ws))) most_rows))
    where
      go : Case (lists row_before (listing (set_in ws)) r) → Case (ltb (length (listing (set_in ws))) most_rows) → length (insert row_before r (rows_in ws)) ≤ 128
      go (is_true l) m =
          let i : r ∈ rows_in ws = (lists_iff row_before row_order (rows_in ws) r).0 (T_true (listed_as ∙ l)) in
          omega (arith, (size ws s).few, ap length (insert_known row_before row_order [] (rows_in ws) r (sound_ascending ws s) i))
      go (is_false l) (is_true m) = omega (arith, ltb-true (length (listing (set_in ws))) most_rows m, ap length (listing_in ws), insert_shorter row_before row_order r (rows_in ws))
      go (is_false l) (is_false m) = let h = rw (l, m, insert_gives) at q in let z : ◌≡◌ {A = ℕ} 0 1 = cc in absurd (omega arith)

  pub full_many : (x : Refusal) → Err x ≡ insert_gives (set_in ws) r → 128 < length (insert row_before r (rows_in ws))
  unfolding insert_gives
  full_many x q = go (split (lists row_before (listing (set_in ws)) r)) (split (ltb (length (listing (set_in ws))) most_rows))
    where
      go : Case (lists row_before (listing (set_in ws)) r) → Case (ltb (length (listing (set_in ws))) most_rows) → 128 < length (insert row_before r (rows_in ws))
      go (is_true l) m = let h = rw (l, insert_gives) at q in let z : ◌≡◌ {A = ℕ} 0 1 = cc in absurd (omega arith)
      go (is_false l) (is_true m) = let h = rw (l, m, insert_gives) at q in let z : ◌≡◌ {A = ℕ} 0 1 = cc in absurd (omega arith)
      go (is_false l) (is_false m) = omega (
        arith,
        ltb-false (length (listing (set_in ws))) most_rows m,
        ap length (listing_in ws),
        insert_length row_before row_order r (rows_in ws) (λ i. never (true_T _ ((lists_iff row_before row_order (rows_in ws) r).1 i)) (listed_as ∙ l)),
      )
