-- A union or a difference, left at the front of the area.
use Prim.Native.Nat.{ℕ, ◌≤◌}
use mathlib.Core.Path.{◌≡◌, sym, ap, ◌∙◌, refl}
use mathlib.Core.Bool.{Bool, true, false}
use mathlib.Core.List.{List, ◌++◌}
use native.Mathlib.Omega.{arith}
use lib.ListN.{length, take, drop, length-append, length-drop}
use lib.Seq.{take-take, take-append-le, length-take-le}
use lib.Dec.{leb}
use borrow.Author.Tests.{leb-true, leb-false}
use Rattle.rows.specs.Sets.{RowSet, listing, combined}
use Rattle.rows.specs.Layout.{set_in}
use Rattle.set_algebra.specs.Combined.{TwoSets, Combined, Combines, room_for}
use Rattle.sets.proofs.Front.{SameFront, set_same, sound_same}
use Rattle.sets.proofs.Laid.{drop_take}
use Rattle.sets.proofs.Standing.{sound_fit, stands_front}
use Rattle.set_algebra.proofs.Standing.{combined_fit, combined_stands}
use Rattle.meaning.specs.Reading.{done, small}
use Rattle.read_values.specs.Answers.{Filled}
use Rattle.read_values.specs.Outcomes.{outcome, IfOk}
use Rattle.read_steps.specs.Steps.{SayCombined}
use Rattle.read_values.proofs.Answers.{stands_filled, small_few, small_many}
use Rattle.std.specs.Prelude.{Result as Outcome, Ok, Err}
use Rattle.refusals.specs.declared.Refusal.{Refusal}
use Rattle.refusals.specs.declared.Refusal.TheVariants.{TooManyRows}

-- ---- what the operation answered

as_combined : {value : RowSet} {before after : List ℕ} {r : Outcome (Unit {0}) Refusal} → Combines value before after r → Combined value before after (leb (length (listing value)) 128)
as_combined c = record { answer = refl; words = c.words }

room_is : (b : Bool) (u : Unit {0}) → Ok u ≡ room_for b → b ≡ true
unfolding room_for
room_is true u e = refl
room_is false u e = let z : ◌≡◌ {A = ℕ} 0 1 = cc in absurd (omega arith)

no_room_is : (b : Bool) (x : Refusal) → Err x ≡ room_for b → (b ≡ false) × (x ≡ TooManyRows)
unfolding room_for
no_room_is true x e = let z : ◌≡◌ {A = ℕ} 0 1 = cc in absurd (omega arith)
no_room_is false x e = (refl, cc)

module _ {area : List ℕ} (left : Filled area) (right : Filled (drop 642 area)) where
  pub two_rooms : 1284 ≤ length area
  two_rooms = omega (arith, right.long, length-drop 642 area)

  -- the two sets by themselves
  abbrev alone : List ℕ
  alone = take 1284 area

  alone_length : length (take 1284 area) ≡ 1284
  alone_length = length-take-le 1284 area two_rooms

  left_same : SameFront area (take 1284 area)
  left_same = record { front = sym (take-take 642 1284 area (omega arith)); first = left.long; second = omega (arith, alone_length) }

  right_same : SameFront (drop 642 area) (drop 642 (take 1284 area))
  right_same = record {
    front = sym (ap (take 642) (drop_take 642 642 area) ∙ take-take 642 642 (drop 642 area) (omega arith));
    first = right.long;
    second = omega (arith, length-drop 642 alone, alone_length);
  }

  pub two_sets : TwoSets (take 1284 area)
  two_sets = record { alone = alone_length; left = sound_same left_same left.sound; right = sound_same right_same right.sound }

  value_is : (minus : Bool) → combined minus (set_in (take 1284 area)) (set_in (drop 642 (take 1284 area))) ≡ combined minus (set_in area) (set_in (drop 642 area))
  value_is minus =
      ap (λ (s : RowSet). combined minus s (set_in (drop 642 alone))) (set_same left_same left.sound) ∙ ap (combined minus (set_in area)) (set_same right_same right.sound)

  -- what was lent is back, and behind it the rest of the area
  module _ (minus : Bool) {k : ℕ} {after : List ℕ} where
    pub value_fits : {u : Unit {0}} (behind : List ℕ) → Combines (combined minus (set_in (take 1284 area)) (set_in (drop 642 (take 1284 area)))) (take 1284 area) after (Ok u) →
        SayCombined minus k area (Ok k) (after ++ behind)
    unfolding IfOk outcome
    value_fits {u} behind c =
        let e = room_is _ u c.answer in
        let fit = combined_fit minus _ _ (sound_fit alone two_sets.left) (sound_fit (drop 642 alone) two_sets.right) in
        let there = combined_stands (as_combined c) e fit left_same.second in
        let long = there.long in
        let same : SameFront after (after ++ behind) = record { front = sym (take-append-le 642 after behind long); first = long; second = omega (arith, length-append after behind) } in
        let s = stands_front there same in
        record {
          filled = stands_filled s;
          means = ap (λ (v : RowSet). small v k) (sym (value_is minus)) ∙ small_few _ k (leb-true _ 128 e) ∙ ap (λ (v : RowSet). done v k) (sym s.set);
        }

    pub value_too_large : {x : Refusal} {now : List ℕ} → Combines (combined minus (set_in (take 1284 area)) (set_in (drop 642 (take 1284 area)))) (take 1284 area) after (Err x) →
        SayCombined minus k area (Err x) now
    unfolding IfOk outcome
    value_too_large {x} c =
        let n = no_room_is _ x c.answer in
        rw n.1 (record { filled = tt; means = ap (λ (v : RowSet). small v k) (sym (value_is minus)) ∙ small_many _ k (leb-false _ 128 n.0) })
