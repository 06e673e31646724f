-- The orders are strict total orders. Everything about sets and stores rests on these laws and on nothing else of an order.
use Prim.Native.Nat.{ℕ, ◌<◌, ◌≤◌}
use mathlib.Core.Path.{◌≡◌, refl, sym, ◌∙◌, ap}
use mathlib.Core.Logic.{◌⊎◌, inl, inr}
use mathlib.Core.Bool.{Bool, true, false, ◌&&◌, ◌||◌}
use mathlib.Core.List.{List, [], ◌∷◌, ◌++◌}
use native.Mathlib.Omega.{arith}
use lib.Dec.{ltb, eqb}
use borrow.Author.Tests.{ltb-true, ltb-false, eqb-true, lt-ltb, le-ltb, eq-eqb}
use Rattle.rows.specs.Ordered.{StrictTotal, tied, first_by, words_before}
use Rattle.rows.specs.Row.{row_before}
use Rattle.rows.proofs.Case.{Case, is_true, is_false, split, never}

-- first by a number, then by a test: how words are compared
abbrev step : ℕ → ℕ → Bool → Bool
step x y q = ltb x y || (eqb x y && q)

step_less : (x y : ℕ) (q : Bool) → x < y → step x y q ≡ true
step_less x y q h = rw (lt-ltb x y h)

step_equal : (x y : ℕ) (q : Bool) → x ≡ y → step x y q ≡ q
step_equal x y q e = rw (le-ltb x y (omega arith), eq-eqb x y e)

open_step : (x y : ℕ) (q : Bool) → step x y q ≡ true → Case (ltb x y) → Case (eqb x y) → (x < y) ⊎ ((x ≡ y) × (q ≡ true))
open_step x y q h (is_true a) b = inl (ltb-true x y a)
open_step x y q h (is_false a) (is_true b) = inr (eqb-true x y b, rw (a, b) at h)
open_step x y q h (is_false a) (is_false b) = never h (rw (a, b))

pub step_opens : (x y : ℕ) (q : Bool) → step x y q ≡ true → (x < y) ⊎ ((x ≡ y) × (q ≡ true))
step_opens x y q h = open_step x y q h (split (ltb x y)) (split (eqb x y))

step_transitive : (x y z : ℕ) (p q r : Bool) → (p ≡ true → q ≡ true → r ≡ true) → step x y p ≡ true → step y z q ≡ true → step x z r ≡ true
step_transitive x y z p q r f a b = go (step_opens x y p a) (step_opens y z q b)
  where
    go : (x < y) ⊎ ((x ≡ y) × (p ≡ true)) → (y < z) ⊎ ((y ≡ z) × (q ≡ true)) → step x z r ≡ true
    go (inl h) (inl k) = step_less x z r (omega arith)
    go (inl h) (inr k) = step_less x z r (omega arith)
    go (inr h) (inl k) = step_less x z r (omega arith)
    go (inr h) (inr k) = step_equal x z r (omega arith) ∙ f h.1 k.1

-- neither way round: the numbers are equal, and then the tests fail too
step_total : (x y : ℕ) (p q : Bool) → step x y p ≡ false → step y x q ≡ false → (x ≡ y) × (p ≡ false) × (q ≡ false)
step_total x y p q a b = go (split (ltb x y)) (split (ltb y x))
  where
    go : Case (ltb x y) → Case (ltb y x) → (x ≡ y) × (p ≡ false) × (q ≡ false)
    go (is_true h) k = never (step_less x y p (ltb-true x y h)) a
    go (is_false h) (is_true k) = never (step_less y x q (ltb-true y x k)) b
    go (is_false h) (is_false k) =
        let g : y ≤ x = ltb-false x y h in
        let l : x ≤ y = ltb-false y x k in
        (omega arith, sym (step_equal x y p (omega arith)) ∙ a, sym (step_equal y x q (omega arith)) ∙ b)

words_irreflexive : (x : List ℕ) → words_before x x ≡ false
unfolding words_before
words_irreflexive [] = refl
words_irreflexive (a ∷ x) = step_equal a a (words_before x x) refl ∙ words_irreflexive x

words_transitive : (x y z : List ℕ) → words_before x y ≡ true → words_before y z ≡ true → words_before x z ≡ true
unfolding words_before
words_transitive [] [] z p q = never p refl
words_transitive [] (b ∷ y) [] p q = never q refl
words_transitive [] (b ∷ y) (c ∷ z) p q = refl
words_transitive (a ∷ x) [] z p q = never p refl
words_transitive (a ∷ x) (b ∷ y) [] p q = never q refl
words_transitive (a ∷ x) (b ∷ y) (c ∷ z) p q = step_transitive a b c _ _ _ (words_transitive x y z) p q

words_total : (x y : List ℕ) → words_before x y ≡ false → words_before y x ≡ false → x ≡ y
unfolding words_before
words_total [] [] p q = refl
words_total [] (b ∷ y) p q = never refl p
words_total (a ∷ x) [] p q = never refl q
words_total (a ∷ x) (b ∷ y) p q =
    let s = step_total a b (words_before x y) (words_before y x) p q in
    let e : a ≡ b = s.0 in
    let t : x ≡ y = words_total x y s.1 s.2 in
    cc

pub words_order : StrictTotal words_before
words_order = record { irreflexive = words_irreflexive; transitive = words_transitive; total = words_total }

-- which of two lists that begin alike comes first: the first word that differs decides, or the shorter comes first
pub word_by_word : (front : List ℕ) (a b : ℕ) (x y : List ℕ) → a < b → words_before (front ++ (a ∷ x)) (front ++ (b ∷ y)) ≡ true
unfolding words_before
word_by_word [] a b x y h = step_less a b (words_before x y) h
word_by_word (c ∷ front) a b x y h = step_equal c c (words_before (front ++ (a ∷ x)) (front ++ (b ∷ y))) refl ∙ word_by_word front a b x y h

pub shorter_first : (front : List ℕ) (a : ℕ) (x : List ℕ) → words_before front (front ++ (a ∷ x)) ≡ true
unfolding words_before
shorter_first [] a x = refl
shorter_first (b ∷ front) a x = step_equal b b (words_before front (front ++ (a ∷ x))) refl ∙ shorter_first front a x

pub row_order : StrictTotal row_before
unfolding row_before
row_order = words_order

module _ {A : Type 0} {before : A → A → Bool} (laws : StrictTotal before) where
  pub not_both : (x y : A) → before x y ≡ true → before y x ≡ false
  not_both x y p = go (split (before y x))
    where
      go : Case (before y x) → before y x ≡ false
      go (is_true q) = never (laws.transitive x y x p q) (laws.irreflexive x)
      go (is_false q) = q

  -- x is y or comes before it, and y comes before z
  pub least_then_less : (x y z : A) → before y x ≡ false → before y z ≡ true → before x z ≡ true
  least_then_less x y z p q = go (split (before x y))
    where
      go : Case (before x y) → before x z ≡ true
      go (is_true r) = laws.transitive x y z r q
      go (is_false r) = rw (laws.total x y r p) q

  -- x comes before y, and y is z or comes before it
  pub less_then_least : (x y z : A) → before x y ≡ true → before z y ≡ false → before x z ≡ true
  less_then_least x y z p q = go (split (before y z))
    where
      go : Case (before y z) → before x z ≡ true
      go (is_true r) = laws.transitive x y z p r
      go (is_false r) = rw (← laws.total y z r q) p

-- first by what f gives, then by another order
module _ {A B : Type 0} (f : A → B) {before : B → B → Bool} (laws : StrictTotal before) {rest : A → A → Bool} (laws' : StrictTotal rest) where
  pub first_decides : (x y : A) → before (f x) (f y) ≡ true → first_by f before rest x y ≡ true
  unfolding first_by
  first_decides x y e = rw e

  pub first_denies : (x y : A) → before (f y) (f x) ≡ true → first_by f before rest x y ≡ false
  unfolding first_by tied
  first_denies x y e = rw (not_both laws (f y) (f x) e, e)

  pub first_same : (x y : A) → f x ≡ f y → first_by f before rest x y ≡ rest x y
  unfolding first_by tied
  first_same x y e = rw (e, laws.irreflexive (f y))

  -- which of the two has decided
  first_opens : (x y : A) → first_by f before rest x y ≡ true → (before (f x) (f y) ≡ true) ⊎ ((f x ≡ f y) × (rest x y ≡ true))
  first_opens x y e = go (split (before (f x) (f y))) (split (before (f y) (f x)))
    where
      go : Case (before (f x) (f y)) → Case (before (f y) (f x)) → (before (f x) (f y) ≡ true) ⊎ ((f x ≡ f y) × (rest x y ≡ true))
      go (is_true p) q = inl p
      go (is_false p) (is_true q) = never e (first_denies x y q)
      go (is_false p) (is_false q) = let s = laws.total (f x) (f y) p q in inr (s, sym (first_same x y s) ∙ e)

  pub first_order : StrictTotal (first_by f before rest)
  first_order = record { irreflexive = λ x. first_same x x refl ∙ laws'.irreflexive x; transitive = between; total = neither }
    where
      between : (x y z : A) → first_by f before rest x y ≡ true → first_by f before rest y z ≡ true → first_by f before rest x z ≡ true
      between x y z p q = go (first_opens x y p) (first_opens y z q)
        where
          go : (before (f x) (f y) ≡ true) ⊎ ((f x ≡ f y) × (rest x y ≡ true)) → (before (f y) (f z) ≡ true) ⊎ ((f y ≡ f z) × (rest y z ≡ true)) → first_by f before rest x z ≡ true
          go (inl a) (inl b) = first_decides x z (laws.transitive (f x) (f y) (f z) a b)
          go (inl a) (inr b) = first_decides x z (sym (ap (before (f x)) b.0) ∙ a)
          go (inr a) (inl b) = first_decides x z (ap (λ (u : B). before u (f z)) a.0 ∙ b)
          go (inr a) (inr b) = first_same x z (a.0 ∙ b.0) ∙ laws'.transitive x y z a.1 b.1

      neither : (x y : A) → first_by f before rest x y ≡ false → first_by f before rest y x ≡ false → x ≡ y
      neither x y p q = go (split (before (f x) (f y))) (split (before (f y) (f x)))
        where
          go : Case (before (f x) (f y)) → Case (before (f y) (f x)) → x ≡ y
          go (is_true a) b = never (first_decides x y a) p
          go (is_false a) (is_true b) = never (first_decides y x b) q
          go (is_false a) (is_false b) =
              let s = laws.total (f x) (f y) a b in
              laws'.total x y (sym (first_same x y s) ∙ p) (sym (first_same y x (sym s)) ∙ q)

  -- of two in order, the first gives nothing that comes after what the second gives
  pub first_not_after : (x y : A) → first_by f before rest x y ≡ true → before (f y) (f x) ≡ false
  first_not_after x y e = go (split (before (f y) (f x)))
    where
      go : Case (before (f y) (f x)) → before (f y) (f x) ≡ false
      go (is_true p) = never e (first_denies x y p)
      go (is_false p) = p
