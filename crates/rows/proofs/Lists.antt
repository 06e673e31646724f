-- Lists of anything: what each of them has, what is in them, and how long they are.
use Prim.Native.Nat.{ℕ, zero, suc, ◌<◌}
use mathlib.Core.Path.{◌≡◌, refl, sym, ◌∙◌, ap, subst}
use mathlib.Core.Logic.{◌⊎◌, inl, inr, ◌↔◌}
use mathlib.Core.List.{List, [], ◌∷◌, ◌++◌, map}
use native.Mathlib.Omega.{arith}
use lib.ListN.{length, get_or, take, drop}
use Rattle.rows.specs.Word.{All}
use Rattle.rows.specs.Ordered.{◌∈◌}

-- what holds of each holds of one, and back
pub all_in : {A : Type 0} (P : A → Type 0) (xs : List A) → All P xs → (x : A) → x ∈ xs → P x
unfolding All ◌∈◌
all_in P [] a x i = absurd i
all_in P (y ∷ ys) a x (inl e) = subst P (sym e) a.0
all_in P (y ∷ ys) a x (inr i) = all_in P ys a.1 x i

pub all_of : {A : Type 0} (P : A → Type 0) (xs : List A) → ((x : A) → x ∈ xs → P x) → All P xs
unfolding All ◌∈◌
all_of P [] f = tt
all_of P (y ∷ ys) f = (f y (inl refl), all_of P ys (λ x i. f x (inr i)))

-- the same by places
pub all_at : {A : Type 0} (P : A → Type 0) (xs : List A) → All P xs → (i : ℕ) (d : A) → i < length xs → P (get_or xs i d)
unfolding All
all_at P [] a i d h = absurd (omega arith)
all_at P (x ∷ xs) a zero d h = a.0
all_at P (x ∷ xs) a (suc i) d h = all_at P xs a.1 i d (omega arith)

pub at_all : {A : Type 0} (P : A → Type 0) (xs : List A) (d : A) → ((i : ℕ) → i < length xs → P (get_or xs i d)) → All P xs
unfolding All
at_all P [] d f = tt
at_all P (x ∷ xs) d f = (f 0 (omega arith), at_all P xs d (λ i h. f (suc i) (omega arith)))

-- what all have, a part of them has
pub all_take : {A : Type 0} (P : A → Type 0) (n : ℕ) (xs : List A) → All P xs → All P (take n xs)
unfolding All
all_take P zero xs a = tt
all_take P (suc n) [] a = tt
all_take P (suc n) (x ∷ xs) a = (a.0, all_take P n xs a.1)

pub all_drop : {A : Type 0} (P : A → Type 0) (n : ℕ) (xs : List A) → All P xs → All P (drop n xs)
unfolding All
all_drop P zero xs a = a
all_drop P (suc n) [] a = tt
all_drop P (suc n) (x ∷ xs) a = all_drop P n xs a.1

-- two lists, one after the other
pub all_left : {A : Type 0} (P : A → Type 0) (xs ys : List A) → All P (xs ++ ys) → All P xs
unfolding All
all_left P [] ys a = tt
all_left P (x ∷ xs) ys a = (a.0, all_left P xs ys a.1)

pub all_right : {A : Type 0} (P : A → Type 0) (xs ys : List A) → All P (xs ++ ys) → All P ys
unfolding All
all_right P [] ys a = a
all_right P (x ∷ xs) ys a = all_right P xs ys a.1

pub all_both : {A : Type 0} (P : A → Type 0) (xs ys : List A) → All P xs → All P ys → All P (xs ++ ys)
unfolding All
all_both P [] ys a b = b
all_both P (x ∷ xs) ys a b = (a.0, all_both P xs ys a.1 b)

-- the images of a list's elements
pub map-∈ : {A B : Type 0} (f : A → B) (xs : List A) (y : B) → (y ∈ map f xs) ↔ ((x : A) × (x ∈ xs) × (y ≡ f x))
unfolding ◌∈◌
map-∈ f [] y = (λ t. absurd t, λ t. t.1)
map-∈ f (x ∷ xs) y = (
  λ t. elim t [ inl e ↦ (x, inl refl, e) | inr i ↦ (let z = (map-∈ f xs y).0 i in (z.0, inr z.1, z.2)) ],
  λ t. back t t.1 (map-∈ f xs y).1,
)
  where
    back : (t : (z : _) × ((z ≡ x) ⊎ (z ∈ xs)) × (y ≡ f z)) → (t.0 ≡ x) ⊎ (t.0 ∈ xs) → ((z : _) × (z ∈ xs) × (y ≡ f z) → y ∈ map f xs) → (y ≡ f x) ⊎ (y ∈ map f xs)
    back t (inl e) ih = inl (t.2 ∙ ap f e)
    back t (inr i) ih = inr (ih (t.0, i, t.2))

-- one more at the end
pub length_snoc {ℓ} : {A : Type ℓ} (xs : List A) (x : A) → length (xs ++ (x ∷ [])) ≡ suc (length xs)
length_snoc [] x = refl
length_snoc (y ∷ xs) x = ap suc (length_snoc xs x)

pub no_elements : {A : Type 0} (xs : List A) → length xs ≡ 0 → xs ≡ []
no_elements [] e = refl
no_elements (x ∷ xs) e = absurd (omega arith)
