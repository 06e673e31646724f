-- Two ascending lists joined, seen from their ends: the last of the join is the later of the two last elements.
use Prim.Native.Nat.{ℕ, zero, suc, ◌+◌, ◌-◌, ◌≤◌, ◌<◌}
use mathlib.Core.Path.{◌≡◌, refl, sym, ◌∙◌, ap, subst}
use mathlib.Core.Logic.{◌⊎◌, inl, inr, ◌↔◌}
use mathlib.Core.Bool.{Bool, true}
use mathlib.Core.List.{List, [], ◌∷◌, ◌++◌, append_assoc}
use native.Mathlib.Omega.{arith}
use lib.ListN.{length, get_or, take, drop, length-append, take-append-drop}
use lib.Seq.{take-suc, take-take, take_at, drop_at, length-take-le}
use Rattle.rows.specs.Ordered.{◌∈◌, StrictTotal, insert, join}
use Rattle.rows.proofs.Case.{Case, is_true, is_false, split, ◌then◌, iff_refl, iff_sym, both_or}
use Rattle.rows.proofs.Ordered.{Ascending, Under, under_in, insert-∈, insert_ascending, join-∈, join_ascending, ascending_unique}
use Rattle.rows.proofs.Place.{get_or-∈}

∈-append : {A : Type 0} (xs ys : List A) (r : A) → (r ∈ (xs ++ ys)) ↔ ((r ∈ xs) ⊎ (r ∈ ys))
unfolding ◌∈◌
∈-append [] ys r = (λ m. inr m, λ t. elim t [ inl m ↦ absurd m | inr m ↦ m ])
∈-append (x ∷ xs) ys r = both_or iff_refl (∈-append xs ys r) then (to, from)
  where
    to : (r ≡ x) ⊎ ((r ∈ xs) ⊎ (r ∈ ys)) → ((r ≡ x) ⊎ (r ∈ xs)) ⊎ (r ∈ ys)
    to (inl e) = inl (inl e)
    to (inr (inl m)) = inl (inr m)
    to (inr (inr m)) = inr m

    from : ((r ≡ x) ⊎ (r ∈ xs)) ⊎ (r ∈ ys) → (r ≡ x) ⊎ ((r ∈ xs) ⊎ (r ∈ ys))
    from (inl (inl e)) = inl e
    from (inl (inr m)) = inr (inl m)
    from (inr m) = inr (inr m)

pub ∈-last : {A : Type 0} (xs : List A) (z r : A) → (r ∈ (xs ++ (z ∷ []))) ↔ ((r ∈ xs) ⊎ (r ≡ z))
unfolding ◌∈◌
∈-last xs z r = ∈-append xs (z ∷ []) r then both_or iff_refl (λ t. elim t [ inl e ↦ e | inr m ↦ absurd m ], λ e. inl e)

-- the last of the first `k` taken off
module _ {A : Type 0} (xs zs : List A) (z : A) (k : ℕ) (e : take k xs ≡ zs ++ (z ∷ [])) (h : k ≤ length xs) where
  pub last_place : k ≡ length zs + 1
  last_place = omega (arith, ap length e, length-append zs (z ∷ []), length-take-le k xs h)

  pub last_front : take (k - 1) xs ≡ zs
  last_front =
      let p = last_place in
      sym (take-take (k - 1) k xs (omega arith)) ∙ ap (take (k - 1)) e ∙ take_at zs (z ∷ []) (k - 1) (omega arith)

  pub last_rest : drop (k - 1) xs ≡ z ∷ drop k xs
  last_rest =
      let p = last_place in
      ap (drop (k - 1)) (sym (take-append-drop k xs) ∙ ap (λ (l : List A). l ++ drop k xs) e ∙ append_assoc zs (z ∷ []) (drop k xs)) ∙ drop_at zs (z ∷ drop k xs) (k - 1) (omega arith)

module _ {A : Type 0} (before : A → A → Bool) (laws : StrictTotal before) where
  -- all of the list come before it
  abbrev Above : A → List A → Type 0
  Above z xs = (r : A) → r ∈ xs → before r z ≡ true

  ascending_last : (xs : List A) (z : A) → Ascending before laws xs → Above z xs → Ascending before laws (xs ++ (z ∷ []))
  unfolding Ascending Under Rattle.rows.specs.Word.All ◌∈◌
  ascending_last [] z a b = (tt, tt)
  ascending_last (x ∷ xs) z a b = (under xs a.0, ascending_last xs z a.1 (λ r m. b r (inr m)))
    where
      under : (ys : List A) → Under before laws x ys → Under before laws x (ys ++ (z ∷ []))
      under [] u = (b x (inl refl), tt)
      under (y ∷ ys) u = (u.0, under ys u.1)

  ascending_take : (k : ℕ) (xs : List A) → Ascending before laws xs → Ascending before laws (take k xs)
  unfolding Ascending Under Rattle.rows.specs.Word.All
  ascending_take zero xs a = tt
  ascending_take (suc k) [] a = tt
  ascending_take (suc k) (x ∷ xs) a = (under k xs a.0, ascending_take k xs a.1)
    where
      under : (n : ℕ) (ys : List A) → Under before laws x ys → Under before laws x (take n ys)
      under zero ys u = tt
      under (suc n) [] u = tt
      under (suc n) (y ∷ ys) u = (u.0, under n ys u.1)

  -- one list is the join of two others, with one element more at the end
  join_last : (us vs cs ds : List A) (z : A) → Ascending before laws vs → Ascending before laws ds → Above z us → Above z vs →
      ((r : A) → ((r ∈ cs) ⊎ (r ∈ ds)) ↔ (((r ∈ us) ⊎ (r ∈ vs)) ⊎ (r ≡ z))) → join before cs ds ≡ join before us vs ++ (z ∷ [])
  join_last us vs cs ds z b d f g h = ascending_unique before laws (join before cs ds) (join before us vs ++ (z ∷ []))
      (join_ascending before laws cs ds d)
      (ascending_last (join before us vs) z (join_ascending before laws us vs b) (λ r m. elim ((join-∈ before laws us vs r).0 m) [ inl i ↦ f r i | inr i ↦ g r i ]))
      (λ r. join-∈ before laws cs ds r then h r then iff_sym (∈-last (join before us vs) z r then both_or (join-∈ before laws us vs r) iff_refl))

  join_right : (us vs : List A) (z : A) → Ascending before laws vs → Above z us → Above z vs → join before us (vs ++ (z ∷ [])) ≡ join before us vs ++ (z ∷ [])
  join_right us vs z b f g = join_last us vs us (vs ++ (z ∷ [])) z b (ascending_last vs z b g) f g
      (λ r. both_or iff_refl (∈-last vs z r) then
      (λ t. elim t [ inl i ↦ inl (inl i) | inr (inl i) ↦ inl (inr i) | inr (inr e) ↦ inr e ], λ t. elim t [ inl (inl i) ↦ inl i | inl (inr i) ↦ inr (inl i) | inr e ↦ inr (inr e) ]))

  join_left : (us vs : List A) (z : A) → Ascending before laws vs → Above z us → Above z vs → join before (us ++ (z ∷ [])) vs ≡ join before us vs ++ (z ∷ [])
  join_left us vs z b f g = join_last us vs (us ++ (z ∷ [])) vs z b b f g
      (λ r. both_or (∈-last us z r) iff_refl then
      (λ t. elim t [ inl (inl i) ↦ inl (inl i) | inl (inr e) ↦ inr e | inr i ↦ inl (inr i) ], λ t. elim t [ inl (inl i) ↦ inl (inl i) | inl (inr i) ↦ inr i | inr e ↦ inl (inr e) ]))

  join_both : (us vs : List A) (z : A) → Ascending before laws vs → Above z us → Above z vs → join before (us ++ (z ∷ [])) (vs ++ (z ∷ [])) ≡ join before us vs ++ (z ∷ [])
  join_both us vs z b f g = join_last us vs (us ++ (z ∷ [])) (vs ++ (z ∷ [])) z b (ascending_last vs z b g) f g
      (λ r. both_or (∈-last us z r) (∈-last vs z r) then (
        λ t. elim t [ inl (inl i) ↦ inl (inl i) | inl (inr e) ↦ inr e | inr (inl i) ↦ inl (inr i) | inr (inr e) ↦ inr e ],
        λ t. elim t [ inl (inl i) ↦ inl (inl i) | inl (inr i) ↦ inr (inl i) | inr e ↦ inl (inr e) ],
      ))

  pub join_none : (us : List A) → Ascending before laws us → join before us [] ≡ us
  unfolding Ascending ◌∈◌
  join_none us a = ascending_unique before laws (join before us []) us (join_ascending before laws us [] tt) a
      (λ r. join-∈ before laws us [] r then (λ t. elim t [ inl i ↦ i | inr i ↦ absurd i ], λ i. inl i))

  -- one element more, put in last
  pub join_one_more : (us : List A) (z : A) → join before (us ++ (z ∷ [])) [] ≡ insert before z (join before us [])
  unfolding Ascending ◌∈◌
  join_one_more us z = ascending_unique before laws (join before (us ++ (z ∷ [])) []) (insert before z (join before us []))
      (join_ascending before laws (us ++ (z ∷ [])) [] tt) (insert_ascending before laws z (join before us []) (join_ascending before laws us [] tt))
      (λ r. join-∈ before laws (us ++ (z ∷ [])) [] r then both_or (∈-last us z r) iff_refl then
      (λ t. elim t [ inl (inl i) ↦ inr (inl i) | inl (inr e) ↦ inl e | inr i ↦ absurd i ], λ t. elim t [ inl e ↦ inl (inr e) | inr (inl i) ↦ inl (inl i) | inr (inr i) ↦ absurd i ]) then
      iff_sym (insert-∈ before laws z (join before us []) r then both_or iff_refl (join-∈ before laws us [] r)))

  pub join_turned : (us vs : List A) → Ascending before laws us → Ascending before laws vs → join before us vs ≡ join before vs us
  join_turned us vs a b = ascending_unique before laws (join before us vs) (join before vs us) (join_ascending before laws us vs b) (join_ascending before laws vs us a)
      (λ r. join-∈ before laws us vs r then (λ t. elim t [ inl i ↦ inr i | inr i ↦ inl i ], λ t. elim t [ inl i ↦ inr i | inr i ↦ inl i ]) then iff_sym (join-∈ before laws vs us r))

  -- a join is no shorter than either
  insert_longer : (r : A) (xs : List A) → length xs ≤ length (insert before r xs)
  unfolding insert
  insert_longer r [] = omega arith
  insert_longer r (x ∷ xs) = go (insert_longer r xs) (split (before r x)) (split (before x r))
    where
      go : length xs ≤ length (insert before r xs) → Case (before r x) → Case (before x r) → length (x ∷ xs) ≤ length (insert before r (x ∷ xs))
      go ih (is_true p) q = rw (p, insert) (omega arith)
      go ih (is_false p) (is_true q) = rw (p, q, insert) (omega arith)
      go ih (is_false p) (is_false q) = rw (p, q, insert) (omega arith)

  pub join_longer : (us vs : List A) → length vs ≤ length (join before us vs)
  unfolding join
  join_longer [] vs = omega arith
  join_longer (a ∷ us) vs = omega (arith, join_longer us vs, insert_longer a (join before us vs))

  -- what is all among others is no longer than they
  pub within_shorter : (us vs : List A) → Ascending before laws us → Ascending before laws vs → ((r : A) → r ∈ us → r ∈ vs) → length us ≤ length vs
  within_shorter us vs a b h =
      let same : join before vs us ≡ vs = ascending_unique before laws (join before vs us) vs (join_ascending before laws vs us a) b
      (λ r. join-∈ before laws vs us r then (λ t. elim t [ inl i ↦ i | inr i ↦ h r i ], λ i. inl i)) in
      omega (arith, join_longer vs us, ap length same)

  -- nor longer than the two together
  pub insert_shorter : (r : A) (xs : List A) → length (insert before r xs) ≤ suc (length xs)
  unfolding insert
  insert_shorter r [] = omega arith
  insert_shorter r (x ∷ xs) = go (insert_shorter r xs) (split (before r x)) (split (before x r))
    where
      go : length (insert before r xs) ≤ suc (length xs) → Case (before r x) → Case (before x r) → length (insert before r (x ∷ xs)) ≤ suc (length (x ∷ xs))
      go ih (is_true p) q = rw (p, insert) (omega arith)
      go ih (is_false p) (is_true q) = rw (p, q, insert) (omega arith)
      go ih (is_false p) (is_false q) = rw (p, q, insert) (omega arith)

  pub join_shorter : (us vs : List A) → length (join before us vs) ≤ length us + length vs
  unfolding join
  join_shorter [] vs = omega arith
  join_shorter (u ∷ us) vs = omega (arith, join_shorter us vs, insert_shorter u (join before us vs))

  -- by numbers: the first `i` of one list and the first `j` of the other
  module _ (d : A) (xs ys : List A) (p : Ascending before laws xs) (q : Ascending before laws ys) where
    abbrev pub firsts : ℕ → ℕ → List A
    firsts i j = join before (take i xs) (take j ys)

    take_last : (zs : List A) (k : ℕ) → 0 < k → k ≤ length zs → take k zs ≡ take (k - 1) zs ++ (get_or zs (k - 1) d ∷ [])
    take_last zs k h l = let e : k ≡ suc (k - 1) = omega arith in ap (λ (n : ℕ). take n zs) e ∙ take-suc zs (k - 1) d (omega arith)

    below : (zs : List A) → Ascending before laws zs → (k : ℕ) → k < length zs → Above (get_or zs k d) (take k zs)
    unfolding ◌∈◌ Ascending
    below [] a k h r m = absurd (omega arith)
    below (z ∷ zs) a zero h r m = absurd m
    below (z ∷ zs) a (suc k) h r (inl e) = subst (λ (y : A). before y (get_or zs k d) ≡ true) (sym e) (under_in before laws z (get_or zs k d) zs a.0 (get_or-∈ zs k d (omega arith)))
    below (z ∷ zs) a (suc k) h r (inr m) = below zs a.1 k (omega arith) r m

    -- all of the first `k` come before what comes after the last of them
    through : (zs : List A) → Ascending before laws zs → (k : ℕ) (y : A) → k ≤ length zs → (0 < k → before (get_or zs (k - 1) d) y ≡ true) → Above y (take k zs)
    unfolding ◌∈◌
    through zs a zero y h b r m = absurd m
    through zs a (suc k) y h b r m =
        let e : suc k - 1 ≡ k = omega arith in
        let l : before (get_or zs k d) y ≡ true = subst (λ (n : ℕ). before (get_or zs n d) y ≡ true) e (b (omega arith)) in
        let t : take (suc k) zs ≡ take k zs ++ (get_or zs k d ∷ []) = take-suc zs k d (omega arith) in
        elim ((∈-last (take k zs) (get_or zs k d) r).0 (subst (λ (w : List A). r ∈ w) t m)) [
          | inl i ↦ laws.transitive r (get_or zs k d) y (below zs a k (omega arith) r i) l
          | inr c ↦ subst (λ (w : A). before w y ≡ true) (sym c) l
        ]

    module _ (i j : ℕ) (k : i ≤ length xs) (l : j ≤ length ys) where
      pub firsts_right : 0 < j → (0 < i → before (get_or xs (i - 1) d) (get_or ys (j - 1) d) ≡ true) → firsts i j ≡ firsts i (j - 1) ++ (get_or ys (j - 1) d ∷ [])
      firsts_right h b =
          ap (join before (take i xs)) (take_last ys j h l)
          ∙ join_right (take i xs) (take (j - 1) ys) (get_or ys (j - 1) d) (ascending_take (j - 1) ys q) (through xs p i (get_or ys (j - 1) d) k b) (below ys q (j - 1) (omega arith))

      pub firsts_left : 0 < i → (0 < j → before (get_or ys (j - 1) d) (get_or xs (i - 1) d) ≡ true) → firsts i j ≡ firsts (i - 1) j ++ (get_or xs (i - 1) d ∷ [])
      firsts_left h b =
          ap (λ (w : List A). join before w (take j ys)) (take_last xs i h k)
          ∙ join_left (take (i - 1) xs) (take j ys) (get_or xs (i - 1) d) (ascending_take j ys q) (below xs p (i - 1) (omega arith)) (through ys q j (get_or xs (i - 1) d) l b)

      pub firsts_both : 0 < i → 0 < j → get_or xs (i - 1) d ≡ get_or ys (j - 1) d → firsts i j ≡ firsts (i - 1) (j - 1) ++ (get_or xs (i - 1) d ∷ [])
      firsts_both h m e =
          let z : A = get_or xs (i - 1) d in
          ap (λ (w : List A). join before w (take j ys)) (take_last xs i h k)
          ∙ ap (join before (take (i - 1) xs ++ (z ∷ []))) (take_last ys j m l ∙ ap (λ (w : A). take (j - 1) ys ++ (w ∷ [])) (sym e))
          ∙ join_both (take (i - 1) xs) (take (j - 1) ys) z (ascending_take (j - 1) ys q) (below xs p (i - 1) (omega arith)) (subst (λ (w : A). Above w (take (j - 1) ys)) (sym e) (below ys q (j - 1) (omega arith)))

      pub firsts_longer : (i ≤ length (firsts i j)) × (j ≤ length (firsts i j))
      firsts_longer =
          let a = ascending_take i xs p in
          let b = ascending_take j ys q in
          (omega (arith, ap length (join_turned (take i xs) (take j ys) a b), join_longer (take j ys) (take i xs), length-take-le i xs k), omega (arith, join_longer (take i xs) (take j ys), length-take-le j ys l))

    pub firsts_none : (i : ℕ) → firsts i 0 ≡ take i xs
    firsts_none i = join_none (take i xs) (ascending_take i xs p)
