-- Tests and their truth: case analysis with the equation, and what ∧, ∨ and ¬ of tests say.
use Prim.Native.Nat.{ℕ}
use mathlib.Core.Path.{◌≡◌, refl, sym, subst}
use mathlib.Core.Logic.{◌⊎◌, inl, inr, ◌↔◌}
use mathlib.Core.Bool.{Bool, true, false, not, ◌&&◌, ◌||◌}
use native.Mathlib.Omega.{arith}
use lib.Dec.{T, T_not, not_T, eqb}
use borrow.Author.Tests.{eqb-true, eq-eqb}

pub data Case (b : Bool) : Type 0 where
  is_true : b ≡ true → Case b
  is_false : b ≡ false → Case b

pub split : (b : Bool) → Case b
split true = is_true refl
split false = is_false refl

pub never : {A : Type 0} {b : Bool} → b ≡ true → b ≡ false → A
never {b} p q = let z : ◌≡◌ {A = ℕ} 0 1 = cc in absurd (omega arith)

pub and_true : (a b : Bool) → (a && b) ≡ true → (a ≡ true) × (b ≡ true)
and_true true b e = (refl, e)
and_true false b e = never e refl

pub true_and : (a b : Bool) → a ≡ true → b ≡ true → (a && b) ≡ true
true_and true b e f = f
true_and false b e f = e

-- tests as types
pub T_true : {b : Bool} → b ≡ true → T b
T_true e = subst T (sym e) tt

pub true_T : (b : Bool) → T b → b ≡ true
true_T true t = refl
true_T false t = absurd t

pub T_left : (a b : Bool) → T (a && b) → T a
T_left true b t = tt
T_left false b t = t

pub T_right : (a b : Bool) → T (a && b) → T b
T_right true b t = t
T_right false b t = absurd t

pub T_and : (a b : Bool) → T (a && b) ↔ (T a × T b)
T_and true b = (λ t. (tt, t), λ t. t.1)
T_and false b = (λ t. absurd t, λ t. t.0)

pub T_or : (a b : Bool) → T (a || b) ↔ (T a ⊎ T b)
T_or true b = (λ t. inl tt, λ t. tt)
T_or false b = (λ t. inr t, λ t. elim t [ inl x ↦ absurd x | inr x ↦ x ])

pub T_and_not : (a b : Bool) → T (a && not b) ↔ (T a × (¬ T b))
T_and_not true b = (λ t. (tt, T_not b t), λ t. not_T b t.1)
T_and_not false b = (λ t. absurd t, λ t. t.0)

pub T_decided : (b : Bool) → ((T b → ⊥) → ⊥) → T b
T_decided true f = tt
T_decided false f = absurd (f (λ t. t))

pub T_eqb : (a b : ℕ) → T (eqb a b) ↔ (a ≡ b)
T_eqb a b = (λ t. eqb-true a b (true_T _ t), λ e. T_true (eq-eqb a b e))

-- two tests that hold together are the same
pub same_test : (a b : Bool) → T a ↔ T b → a ≡ b
same_test true true f = refl
same_test true false f = absurd (f.0 tt)
same_test false true f = absurd (f.1 tt)
same_test false false f = refl

-- chains of ↔, and its congruences
infixr 3 ◌then◌
pub ◌then◌ : {A B C : Type 0} → A ↔ B → B ↔ C → A ↔ C
f then g = (λ a. g.0 (f.0 a), λ c. f.1 (g.1 c))

pub iff_refl : {A : Type 0} → A ↔ A
iff_refl = (λ a. a, λ a. a)

pub iff_sym : {A B : Type 0} → A ↔ B → B ↔ A
iff_sym f = (f.1, f.0)

pub both_or : {A B C D : Type 0} → A ↔ B → C ↔ D → (A ⊎ C) ↔ (B ⊎ D)
both_or f g = (λ t. elim t [ inl a ↦ inl (f.0 a) | inr c ↦ inr (g.0 c) ], λ t. elim t [ inl b ↦ inl (f.1 b) | inr d ↦ inr (g.1 d) ])

pub both_and_not : {A B C D : Type 0} → A ↔ B → C ↔ D → (A × (¬ C)) ↔ (B × (¬ D))
both_and_not f g = (λ t. (f.0 t.0, λ d. t.1 (g.1 d)), λ t. (f.1 t.0, λ c. t.1 (g.0 c)))

pub both_not : {A B : Type 0} → A ↔ B → (¬ A) ↔ (¬ B)
both_not f = (λ n b. n (f.1 b), λ n a. n (f.0 a))

pub swap_or : {A B : Type 0} → (A ⊎ B) ↔ (B ⊎ A)
swap_or = (λ t. elim t [ inl a ↦ inr a | inr b ↦ inl b ], λ t. elim t [ inl b ↦ inr b | inr a ↦ inl a ])
