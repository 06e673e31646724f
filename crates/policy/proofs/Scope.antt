-- No more than 16 variables are ever in scope in what fits.
use Prim.Native.Nat.{ℕ, ◌+◌, ◌≤◌}
use mathlib.Core.List.{List, [], ◌∷◌}
use native.Mathlib.Omega.{arith}
use Rattle.policy.specs.Syntax.{Slot, old, new}
use Rattle.policy.specs.Words.{fresh}
use Rattle.policy.specs.WellFormed.{FitSlots}

pub pattern_scope : (n : ℕ) (p : List Slot) → FitSlots n p → n ≤ 16 → n + fresh p ≤ 16
unfolding FitSlots fresh
pattern_scope n [] f h = omega arith
pattern_scope n (old t ∷ p) f h = pattern_scope n p f.1 h
pattern_scope n (new ∷ p) f h = omega (arith, pattern_scope (n + 1) p f.1 (omega (arith, f.0)))
