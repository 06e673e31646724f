-- What the theorems about expressions claim holds of the smallest steps.
use Prim.Native.Nat.{ℕ}
use mathlib.Core.Path.{◌≡◌, refl, sym, ◌∙◌, subst}
use mathlib.Core.Logic.{◌↔◌}
use mathlib.Core.Bool.{Bool, true, false}
use native.Mathlib.Omega.{arith}
use lib.Dec.{T, leb}
use lib.ListN.{length}
use Rattle.refusals.specs.RefusalTable.{complement_drawn}
use Rattle.rows.specs.Row.{Row}
use Rattle.rows.specs.Name.{Polarity, plus, minus, same_polarity}
use Rattle.rows.specs.Sets.{RowSet, listing, Proper, most_rows, has}
use Rattle.meaning.specs.Reading.{done, refused, Reading, small}
use Rattle.meaning.specs.Faithful.{Tidy}
use Rattle.meaning.specs.Monotone.{Along}
use Rattle.meaning.specs.Exact.{Steady}
use Rattle.meaning.specs.Closed.{Not12}
use Rattle.meaning.proofs.Steps.{done_value, refused_number, not_refused, either, small_done}

pub small_tidy : (s t : RowSet) (k j : ℕ) → Proper (listing s) → small s k ≡ done t j → Tidy t
small_tidy s t k j a e = let d = small_done s t k j e in record { proper = subst (λ (u : RowSet). Proper (listing u)) d.value a; few = d.few }

-- a set has what P says, one equal to it too
pub has_by : (s t : RowSet) (r : Row) (P : Type 0) → s ≡ t → T (has s r) ↔ P → T (has t r) ↔ P
has_by s t r P e h = subst (λ (u : RowSet). T (has u r) ↔ P) e h

pub along_same : (p : Polarity) (A : Type 0) → Along p A A
along_same plus A = record { go = λ a. a }
along_same minus A = record { go = λ a. a }

pub same_polarity_lem : (q p : Polarity) → T (same_polarity q p) → q ≡ p
same_polarity_lem plus plus t = refl
same_polarity_lem plus minus t = absurd t
same_polarity_lem minus plus t = absurd t
same_polarity_lem minus minus t = refl

pub give_steady : {A : Type 0} (a : A) → Steady (λ k. done a k)
give_steady a k k' j j' b b' e e' = sym (done_value e) ∙ done_value e'

pub small_steady : (s : RowSet) → Steady (small s)
small_steady s k k' j j' a a' e e' = sym (small_done s a k j e).value ∙ (small_done s a' k' j' e').value

pub either_steady : {A : Type 0} (b : Bool) (m n : Reading A) → Steady m → Steady n → Steady (either b m n)
either_steady true m n s t = s
either_steady false m n s t = t

pub give_not : {A : Type 0} (a : A) → Not12 (λ k. done a k)
give_not a k e = not_refused e

pub refuse_not : {A : Type 0} (n : ℕ) → (n ≡ complement_drawn → ⊥) → Not12 {A = A} (λ k. refused n)
refuse_not n f k e = f (refused_number e)

pub either_not : {A : Type 0} (b : Bool) (m n : Reading A) → Not12 m → Not12 n → Not12 (either b m n)
either_not true m n f g = f
either_not false m n f g = g

pub small_not : (s : RowSet) → Not12 (small s)
unfolding small
small_not s = either_not (leb (length (listing s)) most_rows) _ _ (give_not s) (refuse_not 13 (λ q. omega arith))
