-- One set's rows looked for among the other's, one after the other: each search goes on where the one before ended.
use Prim.Native.Nat.{ℕ, ◌+◌, ◌*◌, ◌≤◌, ◌<◌}
use mathlib.Core.Path.{◌≡◌, sym, ◌∙◌, ap, subst}
use mathlib.Core.Logic.{inl, inr}
use mathlib.Core.Bool.{true}
use mathlib.Core.List.{List, []}
use native.Mathlib.Omega.{arith}
use lib.ListN.{length, get_or, take, drop}
use lib.Seq.{drop-drop, get_or-take, get_or-drop}
use Rattle.rows.specs.Row.{Row, row_before}
use Rattle.rows.specs.Layout.{row_words, row_in, five_at, put, rows_in, sound_set}
use Rattle.row_words.specs.Values.{five_is, row_is}
use Rattle.set_algebra.specs.Private.{room_at, Apart, Rooms, Passed, Sought}
use Rattle.row_words.specs.declared.row.Row as Held
use Rattle.std.proofs.Common.{Result}
use Rattle.rows.proofs.Order.{row_order}
use Rattle.rows.proofs.Lists.{all_at}
use Rattle.rows.proofs.Ordered.{Ascending}
use Rattle.rows.proofs.Place.{ascending_at}
use Rattle.rows.proofs.Put.{part_after, part_before}
use Rattle.rows.proofs.LayoutLaws.{row_reads}
use Rattle.row_words.proofs.RowLaws.{loaded_row, loaded_width, five_width}
use Rattle.sets.proofs.SetWords.{size}
use Rattle.sets.proofs.Laid.{narrow_in, row_words_at, inner}

-- ---- rooms

-- what is written within one room leaves the other as it was
pub room_kept : (a : List ℕ) (one other at : ℕ) (ws : List ℕ) → Apart one other → one ≤ at → at + length ws ≤ one + 642 → one + 642 ≤ length a → other + 642 ≤ length a → room_at other (put at ws a) ≡ room_at other a
unfolding Apart
room_kept a one other at ws (inl h) k l m n = part_after at ws a (omega arith) other 642 (omega arith)
room_kept a one other at ws (inr h) k l m n = part_before at ws a (omega arith) other 642 (omega arith)

other_way : (one other : ℕ) → Apart one other → Apart other one
unfolding Apart
other_way one other (inl h) = inr h
other_way one other (inr h) = inl h

pub turned : {a : List ℕ} {one other : ℕ} → Rooms a one other → Rooms a other one
turned {one} {other} r = record { apart = other_way one other r.apart; one_room = r.other_room; other_room = r.one_room; one_sound = r.other_sound; other_sound = r.one_sound }

pub room_word : (a : List ℕ) (at k : ℕ) → k < 642 → get_or (room_at at a) k 0 ≡ get_or a (at + k) 0
room_word a at k h = get_or-take 642 (drop at a) k 0 h ∙ get_or-drop at a k 0

-- row `i` of the set in a room
module _ (a : List ℕ) (at : ℕ) (room : at + 642 ≤ length a) (sound : sound_set (room_at at a) ≡ true) where
  pub room_few : length (rows_in (room_at at a)) ≤ 128
  room_few = (size (room_at at a) sound).few

  pub room_form : get_or a at 0 ≤ 1
  room_form = let e : at + 0 ≡ at = omega arith in omega (arith, (size (room_at at a) sound).form, room_word a at 0 (omega arith), ap (λ (k : ℕ). get_or a k 0) e)

  pub room_count : get_or a (at + 1) 0 ≡ length (rows_in (room_at at a))
  room_count = sym (room_word a at 1 (omega arith)) ∙ (size (room_at at a) sound).count

  pub room_row : (i : ℕ) → i < length (rows_in (room_at at a)) → five_at a (at + 2 + 5 * i) ≡ row_words (get_or (rows_in (room_at at a)) i [])
  room_row i h =
      let f = room_few in
      let e : at + (2 + 5 * i) ≡ at + 2 + 5 * i = omega arith in
      ap (five_at a) (sym e) ∙ ap (take 5) (sym (drop-drop (2 + 5 * i) at a)) ∙ sym (inner (2 + 5 * i) 5 642 (drop at a) (omega arith)) ∙ row_words_at (room_at at a) i sound h

-- a row loaded from such words is that row
pub loaded_is : (r : Held.Row) (x : Row) (ws : List ℕ) (at : ℕ) → five_is r ≡ five_at ws at → five_at ws at ≡ row_words x → row_is r ≡ x
loaded_is r x ws at e f = loaded_row r ws at e ∙ ap row_in f ∙ row_reads x

pub loaded_narrow : (r : Held.Row) (x : Row) (ws : List ℕ) (at : ℕ) → five_is r ≡ five_at ws at → five_at ws at ≡ row_words x → length x ≤ 4 → r.width ≤ 4
unfolding row_words
loaded_narrow r x ws at e f h = omega (arith, loaded_width r ws at e, five_width ws at, ap (λ (l : List ℕ). get_or l 0 0) f)

-- ---- the walk

-- the first `i` rows are looked for, and the first `j` of the others come before the next
pub record Walk (mine theirs : List Row) (i j : ℕ) : Type 0 where
  pub within : i ≤ length mine
  pub passed : i < length mine → Passed theirs (get_or mine i []) j

pub walk_start : (mine theirs : List Row) → Walk mine theirs 0 0
unfolding Passed
walk_start mine theirs = record { within = omega arith; passed = λ h. (omega arith, λ k l. absurd (omega arith)) }

pub walk_on : {mine theirs : List Row} {i k : ℕ} → Ascending row_before row_order mine → i < length mine → Passed theirs (get_or mine i []) k → Walk mine theirs (i + 1) k
unfolding Passed
walk_on {mine} {theirs} {i} {k} up h p = record {
  within = omega arith;
  passed = λ l. (p.0, λ n q. row_order.transitive _ _ _ (p.1 n q) (ascending_at row_before row_order [] mine up i (i + 1) (omega arith) l));
}

-- row `i`, loaded while the other room is as it was, and looked for there
module _ {a : List ℕ} {from other : ℕ} (rooms : Rooms a from other) (now : List ℕ) {i j : ℕ} (walk : Walk (rows_in (room_at from a)) (rows_in (room_at other a)) i j) (h : i < length (rows_in (room_at from a)))
    (kept : room_at other now ≡ room_at other a) (here : five_at now (from + 2 + 5 * i) ≡ row_words (get_or (rows_in (room_at from a)) i [])) (r : Held.Row) (loaded : five_is r ≡ five_at now (from + 2 + 5 * i)) where
  row_is_lem : row_is r ≡ get_or (rows_in (room_at from a)) i []
  row_is_lem = loaded_is r (get_or (rows_in (room_at from a)) i []) now (from + 2 + 5 * i) loaded here

  pub seek_ready : (sound_set (room_at other now) ≡ true) × (r.width ≤ 4) × Passed (rows_in (room_at other now)) (row_is r) j
  seek_ready = (
    ap sound_set kept ∙ rooms.other_sound,
    loaded_narrow r (get_or (rows_in (room_at from a)) i []) now (from + 2 + 5 * i) loaded here (all_at _ (rows_in (room_at from a)) (narrow_in (room_at from a)) i [] h),
    subst (λ (x : Row). Passed (rows_in (room_at other now)) x j) (sym row_is_lem) (subst (λ (l : List ℕ). Passed (rows_in l) (get_or (rows_in (room_at from a)) i []) j) (sym kept) (walk.passed h)),
  )

  pub sought_here : {s : Result ℕ ℕ} → Sought (rows_in (room_at other now)) (row_is r) s → Sought (rows_in (room_at other a)) (get_or (rows_in (room_at from a)) i []) s
  sought_here {s} q = subst (λ (l : List ℕ). Sought (rows_in l) (get_or (rows_in (room_at from a)) i []) s) kept (subst (λ (x : Row). Sought (rows_in (room_at other now)) x s) row_is_lem q)
