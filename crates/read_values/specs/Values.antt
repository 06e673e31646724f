-- The values of variables as the readers lend them, and the comparisons of them.
use Rattle.std.specs.Prelude.{ℕ, ◌≤◌, ◌≡◌, Bool, false, not, List, eqb, length, take}
use Rattle.policy.specs.Held.{term_is}
use Rattle.policy.specs.declared.Guard as HeldGuard
use Rattle.policy.specs.declared.Guard.TheVariants.{Draw, Same, Different, Absent}
use Rattle.meaning.specs.Values.{Values, value}

-- the first `count` of the values lent are those of the variables in scope
pub record Bound (values : List ℕ) (count : ℕ) : Type 0 where
  pub scope : count ≤ 16
  pub long : 16 ≤ length values

-- those are as they were; behind them a reader may write
pub record Unchanged (count : ℕ) (before after : List ℕ) : Type 0 where
  pub size : length after ≡ length before
  pub front : take count after ≡ take count before

-- whether a comparison passes: "same and different, if the two atoms are equal or differ". The others compare nothing; of them it says no.
unfoldable pub passing : Values → HeldGuard.Guard → Bool
passing vs Draw = false
passing vs (Same x y) = eqb (value vs (term_is x)) (value vs (term_is y))
passing vs (Different x y) = not (eqb (value vs (term_is x)) (value vs (term_is y)))
passing vs Absent = false
