-- The steps of a reading, taken apart: what a step that is done, or refused, says of the steps before it.
use Prim.Native.Nat.{ℕ, ◌≤◌}
use mathlib.Core.Path.{◌≡◌, refl, ◌∙◌, ap, subst}
use mathlib.Core.Logic.{◌⊎◌, inl, inr}
use mathlib.Core.Bool.{Bool, true, false}
use mathlib.Core.List.{List}
use native.Mathlib.Omega.{arith}
use lib.Dec.{leb}
use lib.ListN.{length}
use borrow.Author.Tests.{leb-true}
use Rattle.rows.specs.Row.{Row}
use Rattle.rows.specs.Sets.{RowSet, only, all_but, listing, most_rows}
use Rattle.rows.proofs.Case.{Case, is_true, is_false, split}
use Rattle.meaning.specs.Reading.{Result, done, refused, Reading, after, within, small, drawable}

pub done_value : {A : Type 0} {a b : A} {k j : ℕ} → done a k ≡ done b j → a ≡ b
done_value {a} {b} {k} {j} e = cc

pub done_draws : {A : Type 0} {a b : A} {k j : ℕ} → done a k ≡ done b j → k ≡ j
done_draws {a} {b} {k} {j} e = cc

pub refused_number : {A : Type 0} {n m : ℕ} → ◌≡◌ {A = Result A} (refused n) (refused m) → n ≡ m
refused_number {n} {m} e = cc

pub not_done : {A B : Type 0} {n k : ℕ} {a : A} → ◌≡◌ {A = Result A} (refused n) (done a k) → B
not_done {n} {k} {a} e = let z : ◌≡◌ {A = ℕ} 0 1 = cc in absurd (omega arith)

pub not_refused : {A B : Type 0} {n k : ℕ} {a : A} → ◌≡◌ {A = Result A} (done a k) (refused n) → B
not_refused {n} {k} {a} e = let z : ◌≡◌ {A = ℕ} 0 1 = cc in absurd (omega arith)

-- what is done after m was preceded by m done
pub record Done {A B : Type 0} (m : Result A) (f : A → Reading B) (b : B) (k : ℕ) : Type 0 where
  pub value : A
  pub draws : ℕ
  pub first : m ≡ done value draws
  pub rest : f value draws ≡ done b k

pub after_done : {A B : Type 0} (m : Result A) (f : A → Reading B) (b : B) (k : ℕ) → after m f ≡ done b k → Done m f b k
unfolding after
after_done (done a j) f b k e = record { value = a; draws = j; first = refl; rest = e }
after_done (refused n) f b k e = not_done e

-- what is refused after m was refused by m, or m was done
pub record Passed {A B : Type 0} (m : Result A) (f : A → Reading B) (n : ℕ) : Type 0 where
  pub value : A
  pub draws : ℕ
  pub first : m ≡ done value draws
  pub rest : f value draws ≡ refused n

pub after_refused : {A B : Type 0} (m : Result A) (f : A → Reading B) (n : ℕ) → after m f ≡ refused n → (m ≡ refused n) ⊎ Passed m f n
unfolding after
after_refused (done a j) f n e = inr (record { value = a; draws = j; first = refl; rest = e })
after_refused (refused i) f n e = inl (ap refused (refused_number e))

-- two equal steps
pub after_same : {A B : Type 0} (m n : Result A) (f g : A → Reading B) → m ≡ n → ((a : A) (k : ℕ) → f a k ≡ g a k) → after m f ≡ after n g
unfolding after
after_same m n f g e h = ap (λ (l : Result _). after l f) e ∙ go n
  where
    go : (l : Result _) → after l f ≡ after l g
    go (done a k) = h a k
    go (refused i) = refl

-- a step that is one of two
abbrev pub either : {A : Type 0} → Bool → Reading A → Reading A → Reading A
either b m n = elim b as (λ c. Reading _) [ true ↦ m | false ↦ n ]

pub either_done : {A : Type 0} (P : A → Type 0) (b : Bool) (m n : Reading A) {k j : ℕ} {a : A} → (m k ≡ done a j → P a) → (n k ≡ done a j → P a) → either b m n k ≡ done a j → P a
either_done P true m n f g e = f e
either_done P false m n f g e = g e

-- a value that is done is small, and is the one given
pub record Small (s : RowSet) (k : ℕ) (t : RowSet) (j : ℕ) : Type 0 where
  pub value : s ≡ t
  pub draws : k ≡ j
  pub few : length (listing t) ≤ most_rows

pub small_done : (s t : RowSet) (k j : ℕ) → small s k ≡ done t j → Small s k t j
unfolding small
small_done s t k j e = go (split (leb (length (listing s)) most_rows))
  where
    go : Case (leb (length (listing s)) most_rows) → Small s k t j
    go (is_true h) =
        let f : done s k ≡ done t j = rw (h, small) at e in
        record { value = done_value f; draws = done_draws f; few = subst (λ (u : RowSet). length (listing u) ≤ most_rows) (done_value f) (leb-true _ most_rows h) }
    go (is_false h) = not_done (let f : ◌≡◌ {A = Result RowSet} (refused 13) (done t j) = rw (h, small) at e in f)

pub record Within (xs : List Row) (k : ℕ) (ys : List Row) (j : ℕ) : Type 0 where
  pub value : xs ≡ ys
  pub draws : k ≡ j
  pub few : length ys ≤ most_rows

pub within_done : (xs ys : List Row) (k j : ℕ) → within xs k ≡ done ys j → Within xs k ys j
unfolding within
within_done xs ys k j e = go (split (leb (length xs) most_rows))
  where
    go : Case (leb (length xs) most_rows) → Within xs k ys j
    go (is_true h) =
        let f : done xs k ≡ done ys j = rw (h, within) at e in
        record { value = done_value f; draws = done_draws f; few = subst (λ (u : List Row). length u ≤ most_rows) (done_value f) (leb-true _ most_rows h) }
    go (is_false h) = not_done (let f : ◌≡◌ {A = Result (List Row)} (refused 13) (done ys j) = rw (h, within) at e in f)

pub drawable_done : (s : RowSet) (xs : List Row) (k j : ℕ) → drawable s k ≡ done xs j → s ≡ only xs
unfolding drawable
drawable_done (only ys) xs k j e = ap only (done_value e)
drawable_done (all_but ys) xs k j e = not_done e
