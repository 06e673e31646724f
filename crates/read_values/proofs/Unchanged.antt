-- The values lent: the first `count` stay, and one more may be bound behind them.
use Prim.Native.Nat.{ℕ, ◌+◌, ◌≤◌, ◌<◌}
use mathlib.Core.Path.{◌≡◌, refl, sym, ap, ◌∙◌}
use mathlib.Core.List.{List, [], ◌∷◌, ◌++◌}
use native.Mathlib.Omega.{arith}
use native.Mathlib.Numerals.{add-one}
use lib.ListN.{length, take, set, length-set}
use lib.Seq.{take-take, take-set-le, take-suc-set}
use Rattle.read_values.specs.Values.{Bound, Unchanged}

pub unchanged_self : {count : ℕ} {a : List ℕ} → Unchanged count a a
unchanged_self = record { size = refl; front = refl }

pub unchanged_then : {count : ℕ} {a b c : List ℕ} → Unchanged count a b → Unchanged count b c → Unchanged count a c
unchanged_then p q = record { size = q.size ∙ p.size; front = q.front ∙ p.front }

pub unchanged_less : {count more : ℕ} {a b : List ℕ} → count ≤ more → Unchanged more a b → Unchanged count a b
unchanged_less {count} {more} {a} {b} h p = record { size = p.size; front = sym (take-take count more b h) ∙ ap (take count) p.front ∙ take-take count more a h }

pub bound_after : {count : ℕ} {a b : List ℕ} → Unchanged count a b → Bound a count → Bound b count
bound_after p h = let l = p.size in let g = h.long in record { scope = h.scope; long = omega arith }

-- one more value is bound
module _ (a : List ℕ) (count x : ℕ) where
  pub unchanged_bind : Unchanged count a (set a count x)
  unchanged_bind = record { size = length-set a count x; front = take-set-le count a count x (omega arith) }

  pub take_bind : count < length a → take (count + 1) (set a count x) ≡ take count a ++ (x ∷ [])
  take_bind h = rw add-one (take-suc-set a count x h)

  pub bound_bind : count < 16 → Bound a count → Bound (set a count x) (count + 1)
  bound_bind h b = let l = length-set a count x in let g = b.long in record { scope = omega arith; long = omega arith }
