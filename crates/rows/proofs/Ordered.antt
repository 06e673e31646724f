-- Lists in strictly ascending order: what the operations hold, that they keep the order, and that such a list is determined by its elements.
-- One theory for rows, records and whatever else is kept in order: of the order only its laws are used.
use Prim.Native.Nat.{suc, ◌≤◌}
use mathlib.Core.Path.{◌≡◌, refl, sym, ◌∙◌, ap, subst}
use mathlib.Core.Logic.{◌⊎◌, inl, inr, ◌↔◌}
use mathlib.Core.Bool.{Bool, true, false, not, ◌&&◌}
use mathlib.Core.List.{List, [], ◌∷◌, ◌++◌}
use native.Mathlib.Omega.{arith}
use lib.Dec.{T}
use lib.ListN.{length}
use Rattle.rows.specs.Word.{All}
use Rattle.rows.specs.Ordered.{◌∈◌, StrictTotal, tied, lists, insert, join, keep, before_first, ascending}
use Rattle.rows.proofs.Case.{Case, is_true, is_false, split, never, and_true, true_and, T_true, true_T, T_or, ◌then◌, iff_refl, both_or}
use Rattle.rows.proofs.Lists.{all_in}

-- the elements that pass the test
pub keep-∈ : {A : Type 0} (f : A → Bool) (xs : List A) (r : A) → (r ∈ keep f xs) ↔ (T (f r) × (r ∈ xs))
unfolding keep ◌∈◌
keep-∈ f [] r = (λ t. absurd t, λ t. t.1)
keep-∈ f (x ∷ xs) r = go (keep-∈ f xs r) (split (f x))
  where
    go : (r ∈ keep f xs) ↔ (T (f r) × (r ∈ xs)) → Case (f x) → (r ∈ keep f (x ∷ xs)) ↔ (T (f r) × ((r ≡ x) ⊎ (r ∈ xs)))
    go ih (is_true p) = rw (p, keep) (
      λ t. elim t [ inl e ↦ (subst (λ y. T (f y)) (sym e) (T_true p), inl e) | inr i ↦ ((ih.0 i).0, inr (ih.0 i).1) ],
      λ t. elim t.1 [ inl e ↦ inl e | inr i ↦ inr (ih.1 (t.0, i)) ],
    )
    go ih (is_false p) = rw (p, keep) (
      λ t. ((ih.0 t).0, inr (ih.0 t).1),
      λ t. elim t.1 [ inl e ↦ absurd (subst T (ap f e ∙ p) t.0) | inr i ↦ ih.1 (t.0, i) ],
    )

pub keep_append : {A : Type 0} (f : A → Bool) (xs ys : List A) → keep f (xs ++ ys) ≡ keep f xs ++ keep f ys
unfolding keep
keep_append f [] ys = refl
keep_append f (x ∷ xs) ys = go (keep_append f xs ys) (split (f x))
  where
    go : keep f (xs ++ ys) ≡ keep f xs ++ keep f ys → Case (f x) → keep f (x ∷ (xs ++ ys)) ≡ keep f (x ∷ xs) ++ keep f ys
    go ih (is_true e) = rw (e, keep) (ap (λ (l : List _). x ∷ l) ih)
    go ih (is_false e) = rw (e, keep) ih

-- two tests, in either order
module _ {A : Type 0} where
  keeps : (f : A → Bool) (x : A) (xs : List A) → f x ≡ true → keep f (x ∷ xs) ≡ x ∷ keep f xs
  unfolding keep
  keeps f x xs e = rw (e, keep)

  drops : (f : A → Bool) (x : A) (xs : List A) → f x ≡ false → keep f (x ∷ xs) ≡ keep f xs
  unfolding keep
  drops f x xs e = rw (e, keep)

  pub keep_turned : (f g : A → Bool) (xs : List A) → keep f (keep g xs) ≡ keep g (keep f xs)
  unfolding keep
  keep_turned f g [] = refl
  keep_turned f g (x ∷ xs) = go (keep_turned f g xs) (split (f x)) (split (g x))
    where
      go : keep f (keep g xs) ≡ keep g (keep f xs) → Case (f x) → Case (g x) → keep f (keep g (x ∷ xs)) ≡ keep g (keep f (x ∷ xs))
      go ih (is_true a) (is_true b) = ap (keep f) (keeps g x xs b) ∙ keeps f x (keep g xs) a ∙ ap (λ (l : List A). x ∷ l) ih ∙ sym (keeps g x (keep f xs) b) ∙ ap (keep g) (sym (keeps f x xs a))
      go ih (is_true a) (is_false b) = ap (keep f) (drops g x xs b) ∙ ih ∙ sym (drops g x (keep f xs) b) ∙ ap (keep g) (sym (keeps f x xs a))
      go ih (is_false a) (is_true b) = ap (keep f) (keeps g x xs b) ∙ drops f x (keep g xs) a ∙ ih ∙ ap (keep g) (sym (drops f x xs a))
      go ih (is_false a) (is_false b) = ap (keep f) (drops g x xs b) ∙ ih ∙ ap (keep g) (sym (drops f x xs a))

pub keep_length : {A : Type 0} (f : A → Bool) (xs : List A) → length (keep f xs) ≤ length xs
unfolding keep
keep_length f [] = omega arith
keep_length f (x ∷ xs) = go (keep_length f xs) (split (f x))
  where
    go : length (keep f xs) ≤ length xs → Case (f x) → length (keep f (x ∷ xs)) ≤ length (x ∷ xs)
    go ih (is_true e) = rw (e, keep) (omega arith)
    go ih (is_false e) = rw (e, keep) (omega arith)

module _ {A : Type 0} (before : A → A → Bool) (laws : StrictTotal before) where
  pub same_iff : (r x : A) → T (tied before r x) ↔ (r ≡ x)
  unfolding tied
  same_iff r x = (λ t. to (split (before r x)) (split (before x r)) (true_T _ t), λ e. subst (λ (y : A). T (tied before r y)) e (T_true itself))
    where
      itself : (not (before r r) && not (before r r)) ≡ true
      itself = rw (laws.irreflexive r)

      to : Case (before r x) → Case (before x r) → (not (before r x) && not (before x r)) ≡ true → r ≡ x
      to (is_true p) q e = never e (rw p)
      to (is_false p) (is_true q) e = never e (rw (p, q))
      to (is_false p) (is_false q) e = laws.total r x p q

  -- a list lists its elements
  pub lists_iff : (xs : List A) (r : A) → T (lists before xs r) ↔ (r ∈ xs)
  unfolding lists ◌∈◌
  lists_iff [] r = iff_refl
  lists_iff (x ∷ xs) r = T_or (tied before r x) (lists before xs r) then both_or (same_iff r x) (lists_iff xs r)

  -- what `insert` and `join` hold
  pub insert-∈ : (x : A) (xs : List A) (r : A) → (r ∈ insert before x xs) ↔ ((r ≡ x) ⊎ (r ∈ xs))
  unfolding insert ◌∈◌
  insert-∈ x [] r = iff_refl
  insert-∈ x (y ∷ ys) r = go (insert-∈ x ys r) (split (before x y)) (split (before y x))
    where
      go : (r ∈ insert before x ys) ↔ ((r ≡ x) ⊎ (r ∈ ys)) → Case (before x y) → Case (before y x) →
          (r ∈ insert before x (y ∷ ys)) ↔ ((r ≡ x) ⊎ ((r ≡ y) ⊎ (r ∈ ys)))
      go ih (is_true p) q = rw (p, insert) iff_refl
      go ih (is_false p) (is_true q) = rw (p, q, insert) (both_or iff_refl ih then (to, from))
        where
          to : (r ≡ y) ⊎ ((r ≡ x) ⊎ (r ∈ ys)) → (r ≡ x) ⊎ ((r ≡ y) ⊎ (r ∈ ys))
          to (inl e) = inr (inl e)
          to (inr (inl e)) = inl e
          to (inr (inr i)) = inr (inr i)

          from : (r ≡ x) ⊎ ((r ≡ y) ⊎ (r ∈ ys)) → (r ≡ y) ⊎ ((r ≡ x) ⊎ (r ∈ ys))
          from (inl e) = inr (inl e)
          from (inr (inl e)) = inl e
          from (inr (inr i)) = inr (inr i)
      go ih (is_false p) (is_false q) = rw (p, q, insert) (
        λ t. inr t,
        λ t. elim t [ inl e ↦ inl (e ∙ laws.total x y p q) | inr i ↦ i ],
      )

  pub join-∈ : (xs ys : List A) (r : A) → (r ∈ join before xs ys) ↔ ((r ∈ xs) ⊎ (r ∈ ys))
  unfolding join ◌∈◌
  join-∈ [] ys r = (λ t. inr t, λ t. elim t [ inl a ↦ absurd a | inr b ↦ b ])
  join-∈ (x ∷ xs) ys r = insert-∈ x (join before xs ys) r then both_or iff_refl (join-∈ xs ys r) then (to, from)
    where
      to : (r ≡ x) ⊎ ((r ∈ xs) ⊎ (r ∈ ys)) → ((r ≡ x) ⊎ (r ∈ xs)) ⊎ (r ∈ ys)
      to (inl e) = inl (inl e)
      to (inr (inl i)) = inl (inr i)
      to (inr (inr j)) = inr j

      from : ((r ≡ x) ⊎ (r ∈ xs)) ⊎ (r ∈ ys) → (r ≡ x) ⊎ ((r ∈ xs) ⊎ (r ∈ ys))
      from (inl (inl e)) = inl e
      from (inl (inr i)) = inr (inl i)
      from (inr j) = inr (inr j)

  -- it comes before each of the list
  unfoldable pub Under : A → List A → Type 0
  unfolding All
  Under x = All (λ y. before x y ≡ true)

  -- strictly ascending: each comes before all that follow
  unfoldable pub Ascending : List A → Type 0
  unfolding Under
  Ascending [] = Unit {0}
  Ascending (x ∷ xs) = Under x xs × Ascending xs

  under_less : (x y : A) (zs : List A) → before x y ≡ true → Under y zs → Under x zs
  unfolding Under All
  under_less x y [] b u = tt
  under_less x y (z ∷ zs) b u = (laws.transitive x y z b u.0, under_less x y zs b u.1)

  pub under_in : (x y : A) (ys : List A) → Under x ys → y ∈ ys → before x y ≡ true
  unfolding Under
  under_in x y ys u i = all_in (λ z. before x z ≡ true) ys u y i

  -- the test agrees
  under_first : (x : A) (xs : List A) → Ascending xs → before_first before x xs ≡ true → Under x xs
  unfolding before_first Ascending Under All
  under_first x [] a b = tt
  under_first x (y ∷ ys) a b = (b, under_less x y ys b a.0)

  first_under : (x : A) (xs : List A) → Under x xs → before_first before x xs ≡ true
  unfolding before_first Under All
  first_under x [] u = refl
  first_under x (y ∷ ys) u = u.0

  pub ascending_true : (xs : List A) → ascending before xs ≡ true → Ascending xs
  unfolding ascending Ascending
  ascending_true [] e = tt
  ascending_true (x ∷ xs) e =
      let t = and_true (before_first before x xs) (ascending before xs) e in
      let a = ascending_true xs t.1 in
      (under_first x xs a t.0, a)

  pub true_ascending : (xs : List A) → Ascending xs → ascending before xs ≡ true
  unfolding ascending Ascending
  true_ascending [] a = refl
  true_ascending (x ∷ xs) a = true_and (before_first before x xs) (ascending before xs) (first_under x xs a.0) (true_ascending xs a.1)

  -- the operations keep the order
  under_insert : (x r : A) (ys : List A) → before x r ≡ true → Under x ys → Under x (insert before r ys)
  unfolding Under All insert
  under_insert x r [] b u = (b, tt)
  under_insert x r (y ∷ ys) b u = go (under_insert x r ys b u.1) (split (before r y)) (split (before y r))
    where
      go : Under x (insert before r ys) → Case (before r y) → Case (before y r) → Under x (insert before r (y ∷ ys))
      go ih (is_true p) q = rw (p, insert) (b, u)
      go ih (is_false p) (is_true q) = rw (p, q, insert) (u.0, ih)
      go ih (is_false p) (is_false q) = rw (p, q, insert) u

  pub insert_ascending : (r : A) (xs : List A) → Ascending xs → Ascending (insert before r xs)
  unfolding Ascending Under All insert
  insert_ascending r [] a = (tt, tt)
  insert_ascending r (x ∷ xs) a = go (insert_ascending r xs a.1) (split (before r x)) (split (before x r))
    where
      go : Ascending (insert before r xs) → Case (before r x) → Case (before x r) → Ascending (insert before r (x ∷ xs))
      go ih (is_true p) q = rw (p, insert) ((p, under_less r x xs p a.0), a)
      go ih (is_false p) (is_true q) = rw (p, q, insert) (under_insert x r xs q a.0, ih)
      go ih (is_false p) (is_false q) = rw (p, q, insert) a

  pub join_ascending : (xs ys : List A) → Ascending ys → Ascending (join before xs ys)
  unfolding join
  join_ascending [] ys a = a
  join_ascending (x ∷ xs) ys a = insert_ascending x (join before xs ys) (join_ascending xs ys a)

  under_keep : (x : A) (f : A → Bool) (ys : List A) → Under x ys → Under x (keep f ys)
  unfolding Under All keep
  under_keep x f [] u = tt
  under_keep x f (y ∷ ys) u = go (under_keep x f ys u.1) (split (f y))
    where
      go : Under x (keep f ys) → Case (f y) → Under x (keep f (y ∷ ys))
      go ih (is_true p) = rw (p, keep) (u.0, ih)
      go ih (is_false p) = rw (p, keep) ih

  pub keep_ascending : (f : A → Bool) (xs : List A) → Ascending xs → Ascending (keep f xs)
  unfolding Ascending keep
  keep_ascending f [] a = tt
  keep_ascending f (x ∷ xs) a = go (keep_ascending f xs a.1) (split (f x))
    where
      go : Ascending (keep f xs) → Case (f x) → Ascending (keep f (x ∷ xs))
      go ih (is_true p) = rw (p, keep) (under_keep x f xs a.0, ih)
      go ih (is_false p) = rw (p, keep) ih

  -- an element that is not there makes the list one longer
  pub insert_length : (r : A) (xs : List A) → (¬ (r ∈ xs)) → length (insert before r xs) ≡ suc (length xs)
  unfolding insert ◌∈◌
  insert_length r [] n = refl
  insert_length r (x ∷ xs) n = go (insert_length r xs (λ i. n (inr i))) (split (before r x)) (split (before x r))
    where
      go : length (insert before r xs) ≡ suc (length xs) → Case (before r x) → Case (before x r) → length (insert before r (x ∷ xs)) ≡ suc (length (x ∷ xs))
      go ih (is_true p) q = rw (p, insert)
      go ih (is_false p) (is_true q) = rw (p, q, insert) (ap suc ih)
      go ih (is_false p) (is_false q) = absurd (n (inl (laws.total r x p q)))

  -- one ascending list for each collection of elements
  irreflexive : (x : A) → before x x ≡ true → ⊥
  irreflexive x b = never b (laws.irreflexive x)

  pub ascending_unique : (xs ys : List A) → Ascending xs → Ascending ys → ((r : A) → (r ∈ xs) ↔ (r ∈ ys)) → xs ≡ ys
  unfolding Ascending ◌∈◌
  ascending_unique [] [] a b h = refl
  ascending_unique [] (y ∷ ys) a b h = absurd ((h y).1 (inl refl))
  ascending_unique (x ∷ xs) [] a b h = absurd ((h x).0 (inl refl))
  ascending_unique (x ∷ xs) (y ∷ ys) a b h =
      let e : x ≡ y = firsts ((h x).0 (inl refl)) ((h y).1 (inl refl)) in
      let t : xs ≡ ys = ascending_unique xs ys a.1 b.1 (λ r. (λ i. rest x xs y ys a.0 e r i ((h r).0 (inr i)), λ i. rest y ys x xs b.0 (sym e) r i ((h r).1 (inr i)))) in
      cc
    where
      firsts : (x ≡ y) ⊎ (x ∈ ys) → (y ≡ x) ⊎ (y ∈ xs) → x ≡ y
      firsts (inl e) j = e
      firsts (inr i) (inl e) = sym e
      firsts (inr i) (inr j) = absurd (irreflexive x (laws.transitive x y x (under_in x y xs a.0 j) (under_in y x ys b.0 i)))

      rest : (x : A) (xs : List A) (y : A) (ys : List A) → Under x xs → x ≡ y → (r : A) → r ∈ xs → (r ≡ y) ⊎ (r ∈ ys) → r ∈ ys
      rest x xs y ys u e r i (inl f) = let g : r ≡ x = f ∙ sym e in absurd (irreflexive x (under_in x x xs u (subst (λ (z : A). z ∈ xs) g i)))
      rest x xs y ys u e r i (inr j) = j
