-- What a reader answers in the code: the draws made so far, or a refusal.
use Rattle.std.specs.Prelude.{ℕ, Bool, List, Result as Outcome, Ok, Err}
use Rattle.refusals.specs.declared.Refusal.{Refusal}
use Rattle.refusals.specs.Numbers.{number}
use Rattle.meaning.specs.Reading.{Result, done, refused}

-- so many draws were made, and x was found
unfoldable pub outcome : {A : Type 0} → A → Outcome ℕ Refusal → Result A
outcome x (Ok k) = done x k
outcome x (Err r) = refused (number r)

-- whether a row belongs
unfoldable pub tested : Outcome (Bool × ℕ) Refusal → Result Bool
tested (Ok p) = done p.0 p.1
tested (Err r) = refused (number r)

-- what holds of the area if the reading is done
unfoldable pub IfOk : (List ℕ → Type 0) → Outcome ℕ Refusal → List ℕ → Type 0
IfOk P (Ok k) area = P area
IfOk P (Err r) area = Unit {0}
