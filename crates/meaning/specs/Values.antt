-- The values of variables, and what terms and rows of terms come to with them.
use Rattle.std.specs.Prelude.{ℕ, List, map, get_or}
use Rattle.rows.specs.Row.{Row}
use Rattle.policy.specs.Syntax.{Term, atom, var}

-- the values of the variables in scope, variable 0 first
abbrev pub Values : Type 0
Values = List ℕ

unfoldable pub value : Values → Term → ℕ
value vs (atom a) = a
value vs (var i) = get_or vs i 0

unfoldable pub row_of : Values → List Term → Row
unfolding value
row_of vs ts = map (value vs) ts
