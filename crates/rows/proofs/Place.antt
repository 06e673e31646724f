-- The place of an element in an ascending list, found by halving, and what `lists` and `insert` make of it.
use Prim.Native.Nat.{ℕ, zero, suc, ◌+◌, ◌≤◌, ◌<◌}
use mathlib.Core.Path.{◌≡◌, refl, sym, ◌∙◌, ap, subst}
use mathlib.Core.Logic.{inl, inr}
use mathlib.Core.Bool.{Bool, true, false}
use mathlib.Core.List.{List, [], ◌∷◌, ◌++◌}
use native.Mathlib.Omega.{arith}
use lib.Dec.{ltb}
use borrow.Author.Tests.{ltb-true, ltb-false}
use lib.ListN.{length, get_or, take, drop}
use Rattle.rows.specs.Ordered.{◌∈◌, StrictTotal, lists, insert}
use Rattle.rows.proofs.Case.{Case, is_true, is_false, split, never, T_true, true_T}
use Rattle.rows.proofs.Ordered.{Ascending, under_in, lists_iff, insert-∈, insert_ascending, ascending_unique}

pub get_or-∈ : {A : Type 0} (xs : List A) (i : ℕ) (d : A) → i < length xs → get_or xs i d ∈ xs
unfolding ◌∈◌
get_or-∈ [] i d h = absurd (omega arith)
get_or-∈ (x ∷ xs) zero d h = inl refl
get_or-∈ (x ∷ xs) (suc i) d h = inr (get_or-∈ xs i d (omega arith))

-- what is in a list stands somewhere in it
pub at-∈ : {A : Type 0} (xs : List A) (x d : A) → x ∈ xs → (i : ℕ) × (i < length xs) × (x ≡ get_or xs i d)
unfolding ◌∈◌
at-∈ [] x d m = absurd m
at-∈ (y ∷ ys) x d (inl e) = (0, omega arith, e)
at-∈ (y ∷ ys) x d (inr m) = let f = at-∈ ys x d m in let h = f.1 in (suc f.0, omega arith, f.2)

module _ {A : Type 0} (before : A → A → Bool) (laws : StrictTotal before) (d : A) where
  -- by their numbers
  pub ascending_at : (xs : List A) → Ascending before laws xs → (i j : ℕ) → i < j → j < length xs → before (get_or xs i d) (get_or xs j d) ≡ true
  unfolding Ascending
  ascending_at [] a i j h k = absurd (omega arith)
  ascending_at (x ∷ xs) a i zero h k = absurd (omega arith)
  ascending_at (x ∷ xs) a zero (suc j) h k = under_in before laws x (get_or xs j d) xs a.0 (get_or-∈ xs j d (omega arith))
  ascending_at (x ∷ xs) a (suc i) (suc j) h k = ascending_at xs a.1 i j (omega arith) (omega arith)

  -- those below `low` come before the element, those from `high` on after it
  pub record Between (xs : List A) (r : A) (low high : ℕ) : Type 0 where
    pub order : low ≤ high
    pub end : high ≤ length xs
    pub below : (i : ℕ) → i < low → before (get_or xs i d) r ≡ true
    pub above : (i : ℕ) → high ≤ i → i < length xs → before r (get_or xs i d) ≡ true

  pub between_all : (xs : List A) (r : A) (n : ℕ) → n ≡ length xs → Between xs r 0 n
  between_all xs r n e = record { order = omega arith; end = omega arith; below = λ i h. absurd (omega arith); above = λ i h k. absurd (omega arith) }

  upto : (xs : List A) → Ascending before laws xs → (r : A) (i m : ℕ) → m < length xs → before (get_or xs m d) r ≡ true → i ≤ m → before (get_or xs i d) r ≡ true
  upto xs a r i m k e h = go (split (ltb i m))
    where
      go : Case (ltb i m) → before (get_or xs i d) r ≡ true
      go (is_true t) = laws.transitive (get_or xs i d) (get_or xs m d) r (ascending_at xs a i m (ltb-true i m t) k) e
      go (is_false t) =
          let g : m ≤ i = ltb-false i m t in
          let q : m ≡ i = omega arith in
          subst (λ (n : ℕ). before (get_or xs n d) r ≡ true) q e

  from : (xs : List A) → Ascending before laws xs → (r : A) (i m : ℕ) → i < length xs → before r (get_or xs m d) ≡ true → m ≤ i → before r (get_or xs i d) ≡ true
  from xs a r i m k e h = go (split (ltb m i))
    where
      go : Case (ltb m i) → before r (get_or xs i d) ≡ true
      go (is_true t) = laws.transitive r (get_or xs m d) (get_or xs i d) e (ascending_at xs a m i (ltb-true m i t) k)
      go (is_false t) =
          let g : i ≤ m = ltb-false m i t in
          let q : m ≡ i = omega arith in
          subst (λ (n : ℕ). before r (get_or xs n d) ≡ true) q e

  module _ (xs : List A) (a : Ascending before laws xs) (r : A) (low high m : ℕ) (b : Between xs r low high) (h : low ≤ m) (k : m < high) where
    pub between_up : before (get_or xs m d) r ≡ true → Between xs r (m + 1) high
    between_up e = let n = b.end in record {
      order = omega arith;
      end = n;
      below = λ i l. upto xs a r i m (omega arith) e (omega arith);
      above = b.above;
    }

    pub between_down : before r (get_or xs m d) ≡ true → Between xs r low m
    between_down e = let n = b.end in record {
      order = h;
      end = omega arith;
      below = b.below;
      above = λ i l q. from xs a r i m q e l;
    }

  -- nothing between: the place where it would stand
  tail : (x : A) (xs : List A) (r : A) (i : ℕ) → Between (x ∷ xs) r (suc i) (suc i) → Between xs r i i
  tail x xs r i b = let e = b.end in record {
    order = omega arith;
    end = omega arith;
    below = λ k h. b.below (suc k) (omega arith);
    above = λ k h l. b.above (suc k) (omega arith) (omega arith);
  }

  pub gap_insert : (xs : List A) (r : A) (i : ℕ) → Between xs r i i → insert before r xs ≡ take i xs ++ (r ∷ drop i xs)
  unfolding insert
  gap_insert [] r zero b = refl
  gap_insert [] r (suc i) b = absurd (let e = b.end in omega arith)
  gap_insert (x ∷ xs) r zero b = rw (b.above 0 (omega arith) (omega arith), insert)
  gap_insert (x ∷ xs) r (suc i) b = go (gap_insert xs r i (tail x xs r i b)) (b.below 0 (omega arith)) (split (before r x))
    where
      go : insert before r xs ≡ take i xs ++ (r ∷ drop i xs) → before x r ≡ true → Case (before r x) → insert before r (x ∷ xs) ≡ x ∷ (take i xs ++ (r ∷ drop i xs))
      go ih e (is_true f) = never (laws.transitive r x r f e) (laws.irreflexive r)
      go ih e (is_false f) = rw (f, e, insert) (ap (λ (l : List A). x ∷ l) ih)

  pub gap_lacks : (xs : List A) (r : A) (i : ℕ) → Between xs r i i → ¬ (r ∈ xs)
  unfolding ◌∈◌
  gap_lacks [] r i b m = m
  gap_lacks (x ∷ xs) r zero b (inl e) = never (b.above 0 (omega arith) (omega arith)) (ap (before r) (sym e) ∙ laws.irreflexive r)
  gap_lacks (x ∷ xs) r zero b (inr m) = gap_lacks xs r zero (record {
    order = omega arith;
    end = omega arith;
    below = λ k h. absurd (omega arith);
    above = λ k h l. b.above (suc k) (omega arith) (omega arith);
  }) m
  gap_lacks (x ∷ xs) r (suc i) b (inl e) = never (b.below 0 (omega arith)) (ap (λ (y : A). before y r) (sym e) ∙ laws.irreflexive r)
  gap_lacks (x ∷ xs) r (suc i) b (inr m) = gap_lacks xs r i (tail x xs r i b) m

  pub lists_not : (xs : List A) (r : A) → ¬ (r ∈ xs) → lists before xs r ≡ false
  lists_not xs r n = go (split (lists before xs r))
    where
      go : Case (lists before xs r) → lists before xs r ≡ false
      go (is_true e) = absurd (n ((lists_iff before laws xs r).0 (T_true e)))
      go (is_false e) = e

  pub lists-∈ : (xs : List A) (r : A) → r ∈ xs → lists before xs r ≡ true
  lists-∈ xs r m = true_T _ ((lists_iff before laws xs r).1 m)

  pub gap_lists : (xs : List A) (r : A) (i : ℕ) → Between xs r i i → lists before xs r ≡ false
  gap_lists xs r i b = lists_not xs r (gap_lacks xs r i b)

  -- the element itself
  pub found_lists : (xs : List A) (r : A) (i : ℕ) → i < length xs → get_or xs i d ≡ r → lists before xs r ≡ true
  found_lists xs r i h e = lists-∈ xs r (subst (λ (y : A). y ∈ xs) e (get_or-∈ xs i d h))

  pub insert_known : (xs : List A) (r : A) → Ascending before laws xs → r ∈ xs → insert before r xs ≡ xs
  insert_known xs r a m = ascending_unique before laws (insert before r xs) xs (insert_ascending before laws r xs a) a
      (λ y. (λ j. elim ((insert-∈ before laws r xs y).0 j) [ inl e ↦ subst (λ (z : A). z ∈ xs) (sym e) m | inr k ↦ k ], λ j. (insert-∈ before laws r xs y).1 (inr j)))
