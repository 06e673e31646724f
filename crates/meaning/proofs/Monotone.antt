-- What belongs to an expression follows each polarity that it has, from world to world.
use Prim.Native.Nat.{ℕ}
use mathlib.Core.Logic.{◌⊎◌, inl, inr}
use mathlib.Core.List.{List, ◌++◌}
use lib.Dec.{T}
use Rattle.rows.specs.Row.{Row}
use Rattle.rows.specs.Name.{Polarity, plus, minus, opposite}
use Rattle.rows.proofs.Case.{T_left, T_right}
use Rattle.policy.specs.Syntax.{Slot, Expr, leaf, union, difference, comprehension, Body, head, draw, same, different, absent}
use Rattle.policy.specs.Polarity.{Known, has_polarity, guards_have}
use Rattle.meaning.specs.Values.{Values, row_of}
use Rattle.meaning.specs.World.{World, Below}
use Rattle.meaning.specs.Belonging.{Meanings, BelongsBy, Belongs, PassesBy, Passes}
use Rattle.meaning.specs.Monotone.{Along, Ways, Follows, Theorem}
use Rattle.meaning.proofs.Claims.{along_same}
use Rattle.meaning.proofs.Leaf.{leaf_along}

along_or : (p : Polarity) {A B C D : Type 0} → Along p A B → Along p C D → Along p (A ⊎ C) (B ⊎ D)
along_or plus f g = record { go = λ t. elim t [ inl a ↦ inl (f.go a) | inr c ↦ inr (g.go c) ] }
along_or minus f g = record { go = λ t. elim t [ inl a ↦ inl (f.go a) | inr c ↦ inr (g.go c) ] }

along_and : (p : Polarity) {A B C D : Type 0} → Along p A B → Along p C D → Along p (A × C) (B × D)
along_and plus f g = record { go = λ t. (f.go t.0, g.go t.1) }
along_and minus f g = record { go = λ t. (f.go t.0, g.go t.1) }

along_not : (p : Polarity) {A B : Type 0} → Along (opposite p) A B → Along p (¬ A) (¬ B)
along_not plus f = record { go = λ n b. n (f.go b) }
along_not minus f = record { go = λ n b. n (f.go b) }

module _ (format : ℕ) (W U : World) (below : Below W U) (ks : List Known) (D E : Meanings) (known : Ways ks D E) where
  along_draw : (p : Polarity) (e : Expr) (s : List Slot) (rest : Body) (vs : Values) (r : Row) →
      ((x : Row) → Along p (Belongs format W D e vs x) (Belongs format U E e vs x)) → ((ws : Values) → Along p (Passes format W D rest ws r) (Passes format U E rest ws r)) →
      Along p (Passes format W D (draw e s rest) vs r) (Passes format U E (draw e s rest) vs r)
  unfolding PassesBy
  along_draw plus e s rest vs r f g = record { go = λ (own, (x, i, m, b), t). (own, (x, i, m, (f x).go b), (g (vs ++ own)).go t) }
  along_draw minus e s rest vs r f g = record { go = λ (own, (x, i, m, b), t). (own, (x, i, m, (f x).go b), (g (vs ++ own)).go t) }

  mutual
    unfolding has_polarity BelongsBy

    pub monotone : (e : Expr) → Follows format W U ks D E e
    monotone (leaf x) p t vs r = leaf_along W U below ks D E known x p t vs r
    monotone (union a b) p t vs r =
        along_or p (monotone a p (T_left (has_polarity a ks p) (has_polarity b ks p) t) vs r) (monotone b p (T_right (has_polarity a ks p) (has_polarity b ks p) t) vs r)
    monotone (difference a b) p t vs r =
        along_and p (monotone a p (T_left (has_polarity a ks p) (has_polarity b ks (opposite p)) t) vs r)
        (along_not p (monotone b (opposite p) (T_right (has_polarity a ks p) (has_polarity b ks (opposite p)) t) vs r))
    monotone (comprehension b) p t vs r = guards b p t vs r

    pub guards : (b : Body) (p : Polarity) → T (guards_have b ks p) → (vs : Values) (r : Row) → Along p (Passes format W D b vs r) (Passes format U E b vs r)
    guards (head h) p t vs r = along_same p _
    guards (draw e s rest) p t vs r =
        along_draw p e s rest vs r (λ x. monotone e p (T_left (has_polarity e ks p) (guards_have rest ks p) t) vs x)
        (λ ws. guards rest p (T_right (has_polarity e ks p) (guards_have rest ks p) t) ws r)
    guards (same x y rest) p t vs r = along_and p (along_same p _) (guards rest p t vs r)
    guards (different x y rest) p t vs r = along_and p (along_same p _) (guards rest p t vs r)
    guards (absent h e rest) p t vs r =
        along_and p (along_not p (monotone e (opposite p) (T_left (has_polarity e ks (opposite p)) (guards_have rest ks p) t) vs (row_of vs h)))
        (guards rest p (T_right (has_polarity e ks (opposite p)) (guards_have rest ks p) t) vs r)

pub theorem : Theorem
theorem = monotone
