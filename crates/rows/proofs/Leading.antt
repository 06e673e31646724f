-- How many of a list pass a test from the front on: where those that pass stand first, the place of an element in an ascending list, and an unbroken part of it.
use Prim.Native.Nat.{ℕ, zero, suc, ◌-◌, ◌≤◌, ◌<◌}
use mathlib.Core.Path.{◌≡◌, refl, sym, ◌∙◌, ap}
use mathlib.Core.Logic.{inl, inr}
use mathlib.Core.Bool.{Bool, true, false, not, ◌&&◌}
use mathlib.Core.List.{List, [], ◌∷◌, ◌++◌}
use native.Mathlib.Nat.{sub-zero}
use native.Mathlib.Omega.{arith}
use lib.Dec.{ltb, leb-suc-suc}
use lib.ListN.{length, get_or, take, drop}
use borrow.Author.Tests.{lt-ltb, le-ltb}
use Rattle.rows.specs.Word.{All}
use Rattle.rows.specs.Ordered.{◌∈◌, StrictTotal, keep, leading, PassFirst, tied, lists, insert}
use Rattle.rows.proofs.Case.{Case, is_true, is_false, split, never}
use Rattle.rows.proofs.Order.{not_both}
use Rattle.rows.proofs.Lists.{all_of, all_at}
use Rattle.rows.proofs.Ordered.{Under, Ascending, under_in}
use Rattle.rows.proofs.Place.{lists_not}

module _ {A : Type 0} (f : A → Bool) where
  pub leading_few : (xs : List A) → leading f xs ≤ length xs
  unfolding leading
  leading_few [] = omega arith
  leading_few (x ∷ xs) = go (leading_few xs) (split (f x))
    where
      go : leading f xs ≤ length xs → Case (f x) → leading f (x ∷ xs) ≤ length (x ∷ xs)
      go ih (is_true p) = rw (p, leading) (omega arith)
      go ih (is_false p) = rw (p, leading) (omega arith)

  -- one that fails stops the count
  pub leading_stops : (xs : List A) (d : A) (i : ℕ) → i < length xs → f (get_or xs i d) ≡ false → leading f xs ≤ i
  unfolding leading
  leading_stops [] d i h e = absurd (omega arith)
  leading_stops (x ∷ xs) d zero h e = rw (e, leading) (omega arith)
  leading_stops (x ∷ xs) d (suc i) h e = go (leading_stops xs d i (omega arith) e) (split (f x))
    where
      go : leading f xs ≤ i → Case (f x) → leading f (x ∷ xs) ≤ suc i
      go ih (is_true p) = rw (p, leading) (omega arith)
      go ih (is_false p) = rw (p, leading) (omega arith)

  -- where those that pass stand first, one that passes is counted
  pub leading_past : (xs : List A) (d : A) (i : ℕ) → PassFirst f xs → i < length xs → f (get_or xs i d) ≡ true → i < leading f xs
  unfolding leading PassFirst
  leading_past [] d i p h e = absurd (omega arith)
  leading_past (x ∷ xs) d zero p h e = rw (e, leading) (omega arith)
  leading_past (x ∷ xs) d (suc i) p h e =
      let b = all_at (λ y. f y ≡ true → f x ≡ true) xs p.0 i d (omega arith) e in
      let ih = leading_past xs d i p.1 (omega arith) e in
      rw (b, leading) (omega arith)

  -- and where the first fails, so do the others
  leading_none : (x : A) (xs : List A) → All (λ y. f y ≡ true → f x ≡ true) xs → f x ≡ false → leading f xs ≡ 0
  unfolding leading All
  leading_none x [] a n = refl
  leading_none x (y ∷ ys) a n = go (split (f y))
    where
      go : Case (f y) → leading f (y ∷ ys) ≡ 0
      go (is_true p) = never (a.0 p) n
      go (is_false p) = rw (p, leading)

  -- so they do in an ascending list, if what comes before one that passes passes
  pub ascending_pass_first : {before : A → A → Bool} (laws : StrictTotal before) → ((x y : A) → before x y ≡ true → f y ≡ true → f x ≡ true) →
      (xs : List A) → Ascending before laws xs → PassFirst f xs
  unfolding PassFirst Ascending
  ascending_pass_first laws down [] a = tt
  ascending_pass_first {before} laws down (x ∷ xs) a = (all_of _ xs (λ y i. down x y (under_in before laws x y xs a.0 i)), ascending_pass_first laws down xs a.1)

-- the part of a list between two such counts
module _ {A : Type 0} (f g : A → Bool) (more : (x : A) → f x ≡ true → g x ≡ true) where
  pub leading_more : (xs : List A) → leading f xs ≤ leading g xs
  unfolding leading
  leading_more [] = omega arith
  leading_more (x ∷ xs) = go (leading_more xs) (split (f x))
    where
      go : leading f xs ≤ leading g xs → Case (f x) → leading f (x ∷ xs) ≤ leading g (x ∷ xs)
      go ih (is_true p) = rw (p, more x p, leading) (omega arith)
      go ih (is_false p) = rw (p, leading) (omega arith)

  -- those that pass the one test and fail the other lie there, unbroken
  pub keep_between : (h : A → Bool) (xs : List A) → PassFirst f xs → PassFirst g xs → All (λ x. h x ≡ (g x && not (f x))) xs →
      keep h xs ≡ take (leading g xs - leading f xs) (drop (leading f xs) xs)
  unfolding leading keep PassFirst All
  keep_between h [] a b e = refl
  keep_between h (x ∷ xs) a b e = go (keep_between h xs a.1 b.1 e.1) (split (f x)) (split (g x))
    where
      go : keep h xs ≡ take (leading g xs - leading f xs) (drop (leading f xs) xs) → Case (f x) → Case (g x) →
          keep h (x ∷ xs) ≡ take (leading g (x ∷ xs) - leading f (x ∷ xs)) (drop (leading f (x ∷ xs)) (x ∷ xs))
      go ih (is_true p) (is_true q) =
          let n : suc (leading g xs) - suc (leading f xs) ≡ leading g xs - leading f xs = omega arith in
          let no : h x ≡ false = e.0 ∙ rw (p, q) in
          rw (no, keep, p, q, leading) (rw n ih)
      go ih (is_true p) (is_false q) = never (more x p) q
      go ih (is_false p) (is_true q) =
          let yes : h x ≡ true = e.0 ∙ rw (p, q) in
          let rest : keep h xs ≡ take (leading g xs) xs = rw (leading_none f x xs a.0 p, sub-zero (leading g xs)) at ih in
          rw (yes, keep, p, q, leading) (rw (sub-zero (suc (leading g xs))) (ap (λ (l : List A). x ∷ l) rest))
      go ih (is_false p) (is_false q) =
          let no : h x ≡ false = e.0 ∙ rw (p, q) in
          let rest : keep h xs ≡ [] = rw (leading_none f x xs a.0 p, leading_none g x xs b.0 q) at ih in
          rw (no, keep, p, q, leading) rest

-- the place of w in an ascending list: how many come before it
module _ {A : Type 0} (before : A → A → Bool) (laws : StrictTotal before) (w : A) where
  pub place_pass_first : (xs : List A) → Ascending before laws xs → PassFirst (λ x. before x w) xs
  place_pass_first = ascending_pass_first (λ x. before x w) laws (λ x y b e. laws.transitive x y w b e)

  -- what comes before the first of an ascending list is not in it
  none_held : (x : A) (xs : List A) → Under before laws x xs → before w x ≡ true → lists before xs w ≡ false
  none_held x xs u q = lists_not before laws w xs w (λ i. never q (not_both laws x w (under_in before laws x w xs u i)))

  -- w is listed if it lies at its place
  pub place_held : (xs : List A) (d : A) → Ascending before laws xs →
      (ltb (leading (λ x. before x w) xs) (length xs) && not (before w (get_or xs (leading (λ x. before x w) xs) d))) ≡ lists before xs w
  unfolding leading lists tied Ascending
  place_held [] d a = rw (le-ltb 0 0 (omega arith))
  place_held (x ∷ xs) d a = go (place_held xs d a.1) (split (before x w)) (split (before w x))
    where
      go : (ltb (leading (λ y. before y w) xs) (length xs) && not (before w (get_or xs (leading (λ y. before y w) xs) d))) ≡ lists before xs w →
          Case (before x w) → Case (before w x) →
          (ltb (leading (λ y. before y w) (x ∷ xs)) (length (x ∷ xs)) && not (before w (get_or (x ∷ xs) (leading (λ y. before y w) (x ∷ xs)) d))) ≡ lists before (x ∷ xs) w
      go ih (is_true p) q = rw (p, not_both laws x w p, leading, leb-suc-suc (suc (leading (λ y. before y w) xs)) (length xs)) ih
      go ih (is_false p) (is_true q) = rw (p, q, leading, lt-ltb 0 (suc (length xs)) (omega arith)) (sym (none_held x xs a.0 q))
      go ih (is_false p) (is_false q) = rw (p, q, leading, lt-ltb 0 (suc (length xs)) (omega arith))

  -- one that is not there is put in at its place
  pub place_insert : (xs : List A) → (¬ (w ∈ xs)) → insert before w xs ≡ take (leading (λ x. before x w) xs) xs ++ (w ∷ drop (leading (λ x. before x w) xs) xs)
  unfolding leading insert ◌∈◌
  place_insert [] n = refl
  place_insert (x ∷ xs) n = go (place_insert xs (λ i. n (inr i))) (split (before x w)) (split (before w x))
    where
      go : insert before w xs ≡ take (leading (λ y. before y w) xs) xs ++ (w ∷ drop (leading (λ y. before y w) xs) xs) →
          Case (before x w) → Case (before w x) →
          insert before w (x ∷ xs) ≡ take (leading (λ y. before y w) (x ∷ xs)) (x ∷ xs) ++ (w ∷ drop (leading (λ y. before y w) (x ∷ xs)) (x ∷ xs))
      go ih (is_true p) q = rw (not_both laws x w p, p, insert, leading) (ap (λ (l : List A). x ∷ l) ih)
      go ih (is_false p) (is_true q) = rw (q, p, insert, leading)
      go ih (is_false p) (is_false q) = absurd (n (inl (laws.total w x q p)))
