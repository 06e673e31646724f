-- A set at the front of an area, whether it is small enough to be an answer, and one draw more.
use Prim.Native.Nat.{ℕ, ◌+◌, ◌≤◌, ◌<◌}
use mathlib.Core.Path.{◌≡◌, sym, ◌∙◌}
use mathlib.Core.List.{List, []}
use lib.ListN.{length}
use borrow.Author.Tests.{le-leb, lt-leb, lt-ltb, le-ltb}
use Rattle.rows.specs.Sets.{RowSet, listing}
use Rattle.rows.specs.Layout.{written, formed}
use Rattle.rows.proofs.LayoutLaws.{formed_listing, formed_word}
use Rattle.sets.proofs.Standing.{Stands, stands_rows, stands_form, cleared_stands}
use Rattle.meaning.specs.Reading.{done, refused, small, tick}
use Rattle.read_values.specs.Answers.{Filled, Empty}
use Rattle.read_values.specs.Outcomes.{outcome}
use Rattle.std.specs.Prelude.{Ok, Err}
use Rattle.refusals.specs.Numbers.{number}
use Rattle.refusals.specs.declared.Refusal.{Refusal}
use Rattle.refusals.specs.declared.Refusal.TheVariants.{TooManyDraws}

pub stands_filled : {S : RowSet} {area : List ℕ} → Stands S area → Filled area
stands_filled s = record { long = s.long; sound = s.sound }

-- a set that is started
pub cleared : {form : ℕ} (area : List ℕ) {now : List ℕ} → 642 ≤ length area → form ≤ 1 → now ≡ written (formed form []) area → Empty form now
cleared {form} area long h e =
    let s = cleared_stands form area long e in
    record { filled = stands_filled s; is = stands_form s ∙ formed_word form [] h; none = stands_rows s ∙ formed_listing form [] }

-- a set that is small, and one that is not

pub small_few : (s : RowSet) (k : ℕ) → length (listing s) ≤ 128 → small s k ≡ done s k
unfolding small
small_few s k h = rw (le-leb (length (listing s)) 128 h, small)

pub small_many : (s : RowSet) (k : ℕ) → 128 < length (listing s) → small s k ≡ refused 13
unfolding small
small_many s k h = rw (lt-leb (length (listing s)) 128 h, small)

-- one draw more, or one too many

pub tick_counted : (k : ℕ) → k < 1000000 → outcome tt (Ok (k + 1)) ≡ tick k
unfolding outcome tick
tick_counted k h = rw (lt-ltb k 1000000 h, tick)

pub tick_refused : (k : ℕ) → 1000000 ≤ k → outcome tt (Err TooManyDraws) ≡ tick k
unfolding outcome tick
tick_refused k h = rw (le-ltb k 1000000 h, tick)

-- what a caller has from it

pub ticked_done : (k j : ℕ) → outcome tt (Ok j) ≡ tick k → tick k ≡ done tt j
unfolding outcome
ticked_done k j says = sym says

pub ticked_refused : (k : ℕ) (x : Refusal) → outcome tt (Err x) ≡ tick k → tick k ≡ refused (number x)
unfolding outcome
ticked_refused k x says = sym says
