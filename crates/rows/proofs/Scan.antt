-- What a walk along a list has found so far: a test passed by each, and an ascending order.
use Prim.Native.Nat.{ℕ, zero, suc, ◌+◌, ◌≤◌, ◌<◌}
use mathlib.Core.Path.{◌≡◌, refl, sym, ◌∙◌, ap}
use mathlib.Core.Bool.{Bool, true, false, ◌&&◌}
use mathlib.Core.List.{List, [], ◌∷◌}
use native.Mathlib.Omega.{arith}
use native.Mathlib.Numerals.{add-one}
use lib.ListN.{length, get_or, drop, length-drop, drop_of_length-le}
use lib.Seq.{drop-cons}
use lib.Dec.{eqb}
use borrow.Author.Tests.{eq-eqb, ne_eqb}
use Rattle.rows.specs.Ordered.{before_first, ascending}
use Rattle.rows.specs.Layout.{every, zeros}
use Rattle.rows.proofs.Case.{and_true}

pub and_true_left : (a b : Bool) → a ≡ true → (a && b) ≡ b
and_true_left true b e = refl
and_true_left false b e = let z : ◌≡◌ {A = ℕ} 0 1 = cc in absurd (omega arith)

pub and_false_left : (a b : Bool) → a ≡ false → (a && b) ≡ false
and_false_left true b e = let z : ◌≡◌ {A = ℕ} 0 1 = cc in absurd (omega arith)
and_false_left false b e = refl

pub from_here : {A : Type 0} (xs : List A) (i : ℕ) (d : A) → i < length xs → drop i xs ≡ get_or xs i d ∷ drop (i + 1) xs
from_here xs i d h = rw add-one (drop-cons xs i d h)

-- whether all pass is whether those from `i` on do
pub record Passed {A : Type 0} (f : A → Bool) (xs : List A) (i : ℕ) : Type 0 where
  pub within : i ≤ length xs
  pub rest : every f xs ≡ every f (drop i xs)

module _ {A : Type 0} (f : A → Bool) (xs : List A) where
  pub passed_none : Passed f xs 0
  passed_none = record { within = omega arith; rest = refl }

  pub passed_all : (i : ℕ) → Passed f xs i → length xs ≤ i → every f xs ≡ true
  unfolding every
  passed_all i p h = p.rest ∙ ap (every f) (drop_of_length-le xs {i = i} h)

  module _ (i : ℕ) (d : A) (p : Passed f xs i) (h : i < length xs) where
    pub passed_next : f (get_or xs i d) ≡ true → Passed f xs (i + 1)
    unfolding every
    passed_next e = record { within = omega arith; rest = p.rest ∙ ap (every f) (from_here xs i d h) ∙ and_true_left (f (get_or xs i d)) (every f (drop (i + 1) xs)) e }

    pub passed_fails : f (get_or xs i d) ≡ false → every f xs ≡ false
    unfolding every
    passed_fails e = p.rest ∙ ap (every f) (from_here xs i d h) ∙ and_false_left (f (get_or xs i d)) (every f (drop (i + 1) xs)) e

pub every_at : {A : Type 0} (f : A → Bool) (xs : List A) (i : ℕ) (d : A) → every f xs ≡ true → i < length xs → f (get_or xs i d) ≡ true
unfolding every
every_at f [] i d e h = absurd (omega arith)
every_at f (x ∷ xs) zero d e h = (and_true (f x) (every f xs) e).0
every_at f (x ∷ xs) (suc i) d e h = every_at f xs i d (and_true (f x) (every f xs) e).1 (omega arith)

-- the same of words that are to be 0
pub zeros_next : (ws : List ℕ) (i : ℕ) → i < length ws → get_or ws i 0 ≡ 0 → zeros (drop i ws) ≡ zeros (drop (i + 1) ws)
unfolding zeros
zeros_next ws i h e = ap zeros (from_here ws i 0 h) ∙ and_true_left (eqb (get_or ws i 0) 0) (zeros (drop (i + 1) ws)) (eq-eqb (get_or ws i 0) 0 e)

pub zeros_fails : (ws : List ℕ) (i : ℕ) → i < length ws → (get_or ws i 0 ≡ 0 → ⊥) → zeros (drop i ws) ≡ false
unfolding zeros
zeros_fails ws i h e = ap zeros (from_here ws i 0 h) ∙ and_false_left (eqb (get_or ws i 0) 0) (zeros (drop (i + 1) ws)) (ne_eqb (get_or ws i 0) 0 e)

pub zeros_end : (ws : List ℕ) (i : ℕ) → length ws ≤ i → zeros (drop i ws) ≡ true
unfolding zeros
zeros_end ws i h = ap zeros (drop_of_length-le ws {i = i} h)

-- whether the list ascends is whether it does from `i` on
module _ {A : Type 0} (before : A → A → Bool) where
  pub record Climbed (xs : List A) (i : ℕ) : Type 0 where
    pub within : i ≤ length xs
    pub rest : ascending before xs ≡ ascending before (drop i xs)

  pub climbed_none : (xs : List A) → Climbed xs 0
  climbed_none xs = record { within = omega arith; rest = refl }

  pub climbed_all : (xs : List A) (i : ℕ) → Climbed xs i → length xs ≤ i + 1 → ascending before xs ≡ true
  unfolding ascending before_first
  climbed_all xs i c h = c.rest ∙ short (drop i xs) (omega (arith, length-drop i xs))
    where
      short : (ys : List A) → length ys ≤ 1 → ascending before ys ≡ true
      short [] k = refl
      short (y ∷ []) k = refl
      short (y ∷ z ∷ ys) k = absurd (omega arith)

  module _ (xs : List A) (i : ℕ) (d : A) (c : Climbed xs i) (h : i + 1 < length xs) where
    two : drop i xs ≡ get_or xs i d ∷ get_or xs (i + 1) d ∷ drop (i + 1 + 1) xs
    two = from_here xs i d (omega arith) ∙ ap (λ (l : List A). get_or xs i d ∷ l) (from_here xs (i + 1) d h)

    step : ascending before xs ≡ (before (get_or xs i d) (get_or xs (i + 1) d) && ascending before (drop (i + 1) xs))
    unfolding ascending before_first
    step = c.rest ∙ ap (ascending before) two ∙ ap (λ (l : List A). before (get_or xs i d) (get_or xs (i + 1) d) && ascending before l) (sym (from_here xs (i + 1) d h))

    pub climbed_next : before (get_or xs i d) (get_or xs (i + 1) d) ≡ true → Climbed xs (i + 1)
    climbed_next e = record { within = omega arith; rest = step ∙ and_true_left _ (ascending before (drop (i + 1) xs)) e }

    pub climbed_fails : before (get_or xs i d) (get_or xs (i + 1) d) ≡ false → ascending before xs ≡ false
    climbed_fails e = step ∙ and_false_left _ (ascending before (drop (i + 1) xs)) e
