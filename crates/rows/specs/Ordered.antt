-- Lists in strictly ascending order, over any elements and any test `before`. Rows, records and whatever else is kept in order share this.
use Rattle.std.specs.Prelude.{ℕ, suc, ◌≡◌, ◌⊎◌, Bool, ◌&&◌, ◌||◌, ltb, eqb}
use Rattle.std.proofs.Math.Bool.{true, false, not}
use mathlib.Core.List.{List, [], ◌∷◌}
use Rattle.rows.specs.Word.{All}

infix 4 ◌∈◌
unfoldable pub ◌∈◌ : {A : Type 0} → A → List A → Type 0
r ∈ [] = ⊥
r ∈ (x ∷ xs) = (r ≡ x) ⊎ (r ∈ xs)

-- the laws of a strict total order: all that is ever used of one
pub record StrictTotal {A : Type 0} (before : A → A → Bool) : Type 0 where
  pub irreflexive : (x : A) → before x x ≡ false
  pub transitive : (x y z : A) → before x y ≡ true → before y z ≡ true → before x z ≡ true
  pub total : (x y : A) → before x y ≡ false → before y x ≡ false → x ≡ y

-- the elements that pass the test
unfoldable pub keep : {A : Type 0} → (A → Bool) → List A → List A
keep f [] = []
keep f (x ∷ xs) = elim (f x) [ true ↦ x ∷ keep f xs | false ↦ keep f xs ]

-- how many pass the test from the front on
unfoldable pub leading : {A : Type 0} → (A → Bool) → List A → ℕ
leading f [] = 0
leading f (x ∷ xs) = elim (f x) [ true ↦ suc (leading f xs) | false ↦ 0 ]

-- those that pass the test stand before those that fail it
unfoldable pub PassFirst : {A : Type 0} → (A → Bool) → List A → Type 0
unfolding All
PassFirst f [] = Unit {0}
PassFirst f (x ∷ xs) = All (λ y. f y ≡ true → f x ≡ true) xs × PassFirst f xs

-- word by word: the first that differs decides; where one list ends and the other goes on, the shorter comes first
unfoldable pub words_before : List ℕ → List ℕ → Bool
words_before [] [] = false
words_before [] (y ∷ ys) = true
words_before (x ∷ xs) [] = false
words_before (x ∷ xs) (y ∷ ys) = ltb x y || (eqb x y && words_before xs ys)

module _ {A : Type 0} (before : A → A → Bool) where
  -- neither comes before the other
  unfoldable pub tied : A → A → Bool
  tied x y = not (before x y) && not (before y x)

  -- is it one of the list?
  unfoldable pub lists : List A → A → Bool
  unfolding tied
  lists [] r = false
  lists (x ∷ xs) r = tied r x || lists xs r

  -- the list with the element in its place; one that it has already is not put in twice
  unfoldable pub insert : A → List A → List A
  insert r [] = r ∷ []
  insert r (x ∷ xs) = elim (before r x) [ true ↦ r ∷ (x ∷ xs) | false ↦ elim (before x r) [ true ↦ x ∷ insert r xs | false ↦ x ∷ xs ] ]

  -- all of the first list put into the second
  unfoldable pub join : List A → List A → List A
  unfolding insert
  join [] ys = ys
  join (x ∷ xs) ys = insert x (join xs ys)

  -- those of the first list that the second has, and those that it has not
  unfoldable pub common : List A → List A → List A
  unfolding keep lists
  common xs ys = keep (lists ys) xs

  unfoldable pub without : List A → List A → List A
  unfolding keep lists
  without xs ys = keep (λ r. not (lists ys r)) xs

  -- it comes before the first of the list
  unfoldable pub before_first : A → List A → Bool
  before_first x [] = true
  before_first x (y ∷ ys) = before x y

  -- strictly ascending: each comes before the next
  unfoldable pub ascending : List A → Bool
  unfolding before_first
  ascending [] = true
  ascending (x ∷ xs) = before_first x xs && ascending xs

-- first by what `f` gives of each, in the order `before`; where that is the same, by `rest`
unfoldable pub first_by : {A B : Type 0} → (A → B) → (B → B → Bool) → (A → A → Bool) → A → A → Bool
unfolding tied
first_by f before rest x y = before (f x) (f y) || (tied before (f x) (f y) && rest x y)
