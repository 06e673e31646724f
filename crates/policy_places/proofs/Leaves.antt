-- A leaf that stands at a place: which it is, what stands inside it, and the place after it.
use Prim.Native.Nat.{ℕ, ◌+◌, ◌≤◌, ◌<◌}
use mathlib.Core.Path.{◌≡◌, refl, sym, subst, ◌∙◌}
use mathlib.Core.List.{List, [], ◌∷◌, ◌++◌, append_assoc}
use native.Mathlib.Omega.{arith}
use lib.ListN.{length, get_or, length-append}
use Rattle.rows.specs.Name.{Polarity, plus, polarity_word}
use Rattle.policy.specs.OwnKey.{Scope, reach, Origin}
use Rattle.policy.specs.Leaf.{Leaf, finite, cofinite, definition, listed, vetted, leaf_code, leaf_rest, leaf_words, FitLeaf, LeafCode, is_finite, is_cofinite, is_definition, is_listed, is_vetted, no_leaf, leaf_of}
use Rattle.policy.specs.Syntax.{Term}
use Rattle.policy.specs.Words.{term_words}
use Rattle.policy_places.specs.Places.{At, name_words, StandsRows, StandsName, StandsLeaf, SomeRows, SomeLeaf, PastRows, PastLeaf}
use Rattle.policy_places.proofs.Places.{at_skip, at_front, at_word, at_next, at_long, term_length}

-- ---- a leaf by its code

-- P of a leaf with this code
unfoldable ForCode : (Leaf → Type 0) → LeafCode → Type 0
ForCode P is_finite = (rs : List (List Term)) → P (finite rs)
ForCode P is_cofinite = (rs : List (List Term)) → P (cofinite rs)
ForCode P is_definition = (d : ℕ) → P (definition d)
ForCode P is_listed = (t : Term) (k : ℕ) (p : Polarity) (o : Origin) → P (listed t k p o)
ForCode P is_vetted = (t : Term) (k : ℕ) (o : Origin) (d : ℕ) → P (vetted t k o d)
ForCode P no_leaf = ⊥

by_code : (P : Leaf → Type 0) (x : Leaf) → ForCode P (leaf_of (leaf_code x)) → P x
unfolding ForCode leaf_of leaf_code
by_code P (finite rs) g = g rs
by_code P (cofinite rs) g = g rs
by_code P (definition d) g = g d
by_code P (listed t k p o) g = g t k p o
by_code P (vetted t k o d) g = g t k o d

module _ {scope : Scope} {n : ℕ} {ws : List ℕ} {at : ℕ} {x : Leaf} (P : Leaf → Type 0) (s : StandsLeaf scope n ws at x) where
  code_at : get_or ws at 0 ≡ leaf_code x
  unfolding leaf_words
  code_at = at_word s.words

  on_code : (c : ℕ) → get_or ws at 0 ≡ c → ForCode P (leaf_of c) → P x
  on_code c h g = by_code P x (subst (λ (k : ℕ). ForCode P (leaf_of k)) (sym h ∙ code_at) g)

  pub on_definition : get_or ws at 0 ≡ 3 → ((d : ℕ) → P (definition d)) → P x
  unfolding ForCode leaf_of
  on_definition h g = on_code 3 h g

  pub on_listed : get_or ws at 0 ≡ 4 → ((t : Term) (k : ℕ) (p : Polarity) (o : Origin) → P (listed t k p o)) → P x
  unfolding ForCode leaf_of
  on_listed h g = on_code 4 h g

  pub on_vetted : get_or ws at 0 ≡ 8 → ((t : Term) (k : ℕ) (o : Origin) (d : ℕ) → P (vetted t k o d)) → P x
  unfolding ForCode leaf_of
  on_vetted h g = on_code 8 h g

  -- neither 3 nor 4 nor 8
  pub on_rows : (get_or ws at 0 ≡ 3 → ⊥) → (get_or ws at 0 ≡ 4 → ⊥) → (get_or ws at 0 ≡ 8 → ⊥) → ((rs : List (List Term)) → P (finite rs)) → ((rs : List (List Term)) → P (cofinite rs)) → P x
  unfolding leaf_code
  on_rows d l v f g = go x code_at
    where
      go : (y : Leaf) → get_or ws at 0 ≡ leaf_code y → P y
      go (finite rs) h = f rs
      go (cofinite rs) h = g rs
      go (definition k) h = absurd (d h)
      go (listed t k p o) h = absurd (l h)
      go (vetted t k o e) h = absurd (v h)

-- ---- what stands inside a leaf

-- code 8: the words of a name, then a definition's number
pub record InVetted (scope : Scope) (ws : List ℕ) (at : ℕ) (t : Term) (k : ℕ) (o : Origin) (d : ℕ) : Type 0 where
  pub name : StandsName scope ws (at + 1) t k plus o
  pub number : get_or ws (at + 5) 0 ≡ d
  pub known : d < reach scope
  pub inside : at + 5 < length ws

pub name_length : (t : Term) (k : ℕ) (p : Polarity) → length (name_words t k p) ≡ 4
name_length t k p = omega (arith, length-append (term_words t) (k ∷ polarity_word p ∷ []), term_length t)

-- the definition's number is the word after the code
pub record InDefinition (scope : Scope) (ws : List ℕ) (at d : ℕ) : Type 0 where
  pub number : get_or ws (at + 1) 0 ≡ d
  pub known : d < reach scope
  pub inside : at + 1 < length ws

module _ {scope : Scope} {n : ℕ} {ws : List ℕ} {at : ℕ} where
  pub inside_leaf : {x : Leaf} → StandsLeaf scope n ws at x → at < length ws
  unfolding leaf_words
  inside_leaf s = omega (arith, at_long (omega arith) s.words)

  pub in_finite : {rs : List (List Term)} → StandsLeaf scope n ws at (finite rs) → StandsRows n ws (at + 1) rs
  unfolding FitLeaf leaf_words leaf_rest
  in_finite s = record { words = at_next s.words; fit = s.fit }

  pub in_cofinite : {rs : List (List Term)} → StandsLeaf scope n ws at (cofinite rs) → StandsRows n ws (at + 1) rs
  unfolding FitLeaf leaf_words leaf_rest
  in_cofinite s = record { words = at_next s.words; fit = s.fit }

  pub in_definition : {d : ℕ} → StandsLeaf scope n ws at (definition d) → InDefinition scope ws at d
  unfolding FitLeaf leaf_words leaf_rest
  in_definition s =
      let h = at_next s.words in
      record { number = at_word h; known = s.fit; inside = omega (arith, at_long (omega arith) h) }

  pub in_listed : {t : Term} {k : ℕ} {p : Polarity} {o : Origin} → StandsLeaf scope n ws at (listed t k p o) → StandsName scope ws (at + 1) t k p o
  unfolding FitLeaf leaf_words leaf_rest
  in_listed s = record { words = at_next s.words; origin = s.fit.2 }

  pub in_vetted : {t : Term} {k : ℕ} {o : Origin} {d : ℕ} → StandsLeaf scope n ws at (vetted t k o d) → InVetted scope ws at t k o d
  unfolding FitLeaf leaf_words leaf_rest
  in_vetted {t} {k} {o} {d} s =
      let all : At ws (at + 1) (name_words t k plus ++ (d ∷ [])) = subst (At ws (at + 1)) (sym (append_assoc (term_words t) (k ∷ polarity_word plus ∷ []) (d ∷ []))) (at_next s.words) in
      let e : at + 1 + length (name_words t k plus) ≡ at + 5 = omega (arith, name_length t k plus) in
      let last : At ws (at + 5) (d ∷ []) = subst (λ (p : ℕ). At ws p (d ∷ [])) e (at_skip (name_words t k plus) (d ∷ []) all) in
      record {
        name = record { words = at_front (name_words t k plus) (d ∷ []) all; origin = s.fit.2 };
        number = at_word last;
        known = s.fit.3;
        inside = omega (arith, at_long (omega arith) last);
      }

-- ---- the place after a leaf

module _ {ws : List ℕ} {at : ℕ} where
  -- codes 1 and 2
  module _ (d : get_or ws at 0 ≡ 3 → ⊥) (l : get_or ws at 0 ≡ 4 → ⊥) (v : get_or ws at 0 ≡ 8 → ⊥) where
    pub some_rows : SomeLeaf ws at → SomeRows ws (at + 1)
    some_rows x =
        on_rows (λ y. StandsLeaf x.scope x.n ws at y → SomeRows ws (at + 1)) x.here d l v
        (λ rs s. record { n = x.n; rs = rs; here = in_finite s }) (λ rs s. record { n = x.n; rs = rs; here = in_cofinite s }) x.here

    pub past_rows : {r : ℕ} → PastRows ws (at + 1) r → PastLeaf ws at r
    unfolding leaf_words leaf_rest
    past_rows {r} g = record {
      past = λ scope n x s.
          on_rows (λ y. StandsLeaf scope n ws at y → r ≡ at + length (leaf_words y)) s d l v
          (λ rs h. let q = g.past n rs (in_finite h) in omega arith) (λ rs h. let q = g.past n rs (in_cofinite h) in omega arith) s;
    }

  -- codes 3, 4 and 8
  pub definition_inside : SomeLeaf ws at → get_or ws at 0 ≡ 3 → at + 1 < length ws
  definition_inside x c = on_definition (λ y. StandsLeaf x.scope x.n ws at y → at + 1 < length ws) x.here c (λ d s. (in_definition s).inside) x.here

  pub past_definition : get_or ws at 0 ≡ 3 → PastLeaf ws at (at + 2)
  unfolding leaf_words leaf_rest
  past_definition c = record { past = λ scope n x s. on_definition (λ y. at + 2 ≡ at + length (leaf_words y)) s c (λ d. refl) }

  pub name_inside : SomeLeaf ws at → get_or ws at 0 ≡ 4 → at + 5 ≤ length ws
  name_inside x c =
      on_listed (λ y. StandsLeaf x.scope x.n ws at y → at + 5 ≤ length ws) x.here c
      (λ t k p o s. let l = name_length t k p in omega (arith, at_long (omega arith) (in_listed s).words)) x.here

  pub past_name : get_or ws at 0 ≡ 4 → PastLeaf ws at (at + 5)
  unfolding leaf_words leaf_rest
  past_name c = record { past = λ scope n x s. on_listed (λ y. at + 5 ≡ at + length (leaf_words y)) s c (λ t k p o. let l = name_length t k p in omega arith) }

  pub vetted_inside : SomeLeaf ws at → get_or ws at 0 ≡ 8 → at + 6 ≤ length ws
  vetted_inside x c = on_vetted (λ y. StandsLeaf x.scope x.n ws at y → at + 6 ≤ length ws) x.here c (λ t k o d s. omega (arith, (in_vetted s).inside)) x.here

  pub past_vetted : get_or ws at 0 ≡ 8 → PastLeaf ws at (at + 6)
  unfolding leaf_words leaf_rest
  past_vetted c = record {
    past = λ scope n x s. on_vetted (λ y. at + 6 ≡ at + length (leaf_words y)) s c (λ t k o d. omega (arith, length-append (term_words t) (k ∷ polarity_word plus ∷ d ∷ []), term_length t));
  }
