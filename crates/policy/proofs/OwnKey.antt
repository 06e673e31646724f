-- The definition that an own name stands for has its name and polarity.
use Prim.Native.Nat.{ℕ, zero, suc, ◌<◌}
use mathlib.Core.Path.{◌≡◌, refl, ap}
use mathlib.Core.Bool.{Bool, true, false}
use mathlib.Core.List.{List, [], ◌∷◌}
use native.Mathlib.Omega.{arith}
use lib.Dec.{T, eqb}
use lib.ListN.{length}
use Rattle.rows.specs.Name.{Polarity, plus, minus, same_polarity}
use Rattle.rows.proofs.Case.{Case, is_true, is_false, split, T_true, true_T, T_left, T_right, T_and, T_eqb, never}
use Rattle.policy.specs.OwnKey.{Declared, declares, definition_of, Has, Theorem}

same_polarity_lem : (q p : Polarity) → T (same_polarity q p) → q ≡ p
same_polarity_lem plus plus t = refl
same_polarity_lem plus minus t = absurd t
same_polarity_lem minus plus t = absurd t
same_polarity_lem minus minus t = refl

polarity_same : (p : Polarity) → T (same_polarity p p)
polarity_same plus = tt
polarity_same minus = tt

module _ (n : ℕ) (p : Polarity) where
  pub definition_here : (x : Declared) (xs : List Declared) → declares x n p ≡ true → definition_of (x ∷ xs) n p ≡ 0
  unfolding definition_of
  definition_here x xs e = ap (λ (b : Bool). elim b as (λ c. ℕ) [ true ↦ zero | false ↦ suc (definition_of xs n p) ]) e

  pub definition_past : (x : Declared) (xs : List Declared) → declares x n p ≡ false → definition_of (x ∷ xs) n p ≡ suc (definition_of xs n p)
  unfolding definition_of
  definition_past x xs e = ap (λ (b : Bool). elim b as (λ c. ℕ) [ true ↦ zero | false ↦ suc (definition_of xs n p) ]) e

  is_declared : (x : Declared) → declares x n p ≡ true → (x.name ≡ n) × (x.polarity ≡ p)
  unfolding declares
  is_declared x e =
      let t = T_true e in
      ((T_eqb x.name n).0 (T_left (eqb x.name n) (same_polarity x.polarity p) t), same_polarity_lem x.polarity p (T_right (eqb x.name n) (same_polarity x.polarity p) t))

  declared_is : (x : Declared) → x.name ≡ n → x.polarity ≡ p → T (declares x n p)
  unfolding declares
  declared_is x e f = (T_and (eqb x.name n) (same_polarity x.polarity p)).1 ((T_eqb x.name n).1 e, rw f (polarity_same p))

  found_has : (xs : List Declared) → definition_of xs n p < length xs → Has xs (definition_of xs n p) n p
  unfolding definition_of
  found_has [] h = absurd (omega arith)
  found_has (x ∷ xs) h = go (λ l. found_has xs l) (split (declares x n p))
    where
      go : (definition_of xs n p < length xs → Has xs (definition_of xs n p) n p) → Case (declares x n p) → Has (x ∷ xs) (definition_of (x ∷ xs) n p) n p
      go rest (is_true e) = let i = is_declared x e in rw (definition_here x xs e) (record { within = omega arith; name = i.0; polarity = i.1 })
      go rest (is_false e) =
          let i = rest (omega (arith, definition_past x xs e)) in
          rw (definition_past x xs e) (record { within = omega (arith, i.within); name = i.name; polarity = i.polarity })

  some_found : (xs : List Declared) (d : ℕ) → Has xs d n p → definition_of xs n p < length xs
  some_found [] d i = absurd (omega (arith, i.within))
  some_found (x ∷ xs) d i = go (λ e j. some_found xs e j) d i (split (declares x n p))
    where
      go : ((e : ℕ) → Has xs e n p → definition_of xs n p < length xs) → (d : ℕ) → Has (x ∷ xs) d n p → Case (declares x n p) → definition_of (x ∷ xs) n p < length (x ∷ xs)
      go rest d i (is_true e) = omega (arith, definition_here x xs e)
      go rest zero i (is_false e) = never (true_T _ (declared_is x i.name i.polarity)) e
      go rest (suc d) i (is_false e) = omega (arith, definition_past x xs e, rest d (record { within = omega (arith, i.within); name = i.name; polarity = i.polarity }))

pub theorem : Theorem
theorem = record { has = λ xs n p h. found_has n p xs h; finds = λ xs d n p h. some_found n p xs d h }
