-- Rewriting keeps what the checks ask: a definition that is external and passes 3 to 7 passes them when it is vetted, and is as open as before.
use Prim.Native.Nat.{ℕ, suc, ◌+◌, ◌<◌}
use mathlib.Core.Path.{◌≡◌, refl, sym, ap, subst}
use mathlib.Core.List.{List}
use native.Mathlib.Omega.{arith}
use lib.Dec.{T}
use lib.ListN.{get_or}
use Rattle.rows.specs.Name.{Polarity, plus, minus, same_polarity}
use Rattle.rows.proofs.Case.{T_left, T_right, T_and}
use Rattle.policy.specs.OwnKey.{Scope, reach}
use Rattle.policy.specs.Leaf.{Leaf, finite, cofinite, definition, listed, vetted, FitLeaf, name_has, leaf_has, leaf_open}
use Rattle.policy.specs.Syntax.{Expr, leaf, union, difference, comprehension, Body, head, draw, same, different, absent}
use Rattle.policy.specs.Words.{fresh, guard_count}
use Rattle.policy.specs.WellFormed.{Fit, FitBody, depth, body_depth, draw_count, body_draws, WellFormed}
use Rattle.policy.specs.Polarity.{Known, unknown, has_polarity, guards_have, open_expr, draws_closed, guards_closed}
use Rattle.policy.specs.External.{external_leaf, external_expr, external_body, vet_leaf, each_leaf, each_leaf_in, vet, vet_body}

pub each_guards : (f : Leaf → Leaf) (b : Body) → guard_count (each_leaf_in f b) ≡ guard_count b
unfolding each_leaf_in guard_count
each_guards f (head r) = refl
each_guards f (draw e s b) = ap suc (each_guards f b)
each_guards f (same x y b) = ap suc (each_guards f b)
each_guards f (different x y b) = ap suc (each_guards f b)
each_guards f (absent r e b) = ap suc (each_guards f b)

-- leaves that stay as they are
mutual
  unfolding each_leaf

  pub each_same : (e : Expr) → each_leaf (λ x. x) e ≡ e
  each_same (leaf x) = refl
  each_same (union a b) = rw (each_same a, each_same b)
  each_same (difference a b) = rw (each_same a, each_same b)
  each_same (comprehension b) = rw (each_same_in b)

  each_same_in : (b : Body) → each_leaf_in (λ x. x) b ≡ b
  each_same_in (head r) = refl
  each_same_in (draw e s b) = rw (each_same e, each_same_in b)
  each_same_in (same x y b) = rw (each_same_in b)
  each_same_in (different x y b) = rw (each_same_in b)
  each_same_in (absent r e b) = rw (each_same e, each_same_in b)

module _ (scope : Scope) (first : 0 < reach scope) where
  fit_leaf : (n : ℕ) (x : Leaf) → FitLeaf scope n x → FitLeaf scope n (vet_leaf x)
  unfolding FitLeaf vet_leaf
  fit_leaf n (finite rs) f = f
  fit_leaf n (cofinite rs) f = f
  fit_leaf n (definition d) f = f
  fit_leaf n (listed t name plus o) f = (f.0, f.1, f.2, first)
  fit_leaf n (listed t name minus o) f = f
  fit_leaf n (vetted t name o d) f = f

  mutual
    unfolding Fit each_leaf

    pub vet_fit : (n : ℕ) (e : Expr) → Fit scope n e → Fit scope n (vet e)
    vet_fit n (leaf x) f = fit_leaf n x f
    vet_fit n (union a b) f = (vet_fit n a f.0, vet_fit n b f.1)
    vet_fit n (difference a b) f = (vet_fit n a f.0, vet_fit n b f.1)
    vet_fit n (comprehension b) f = (omega (arith, f.0, each_guards vet_leaf b), body_fit n b f.1)

    body_fit : (n : ℕ) (b : Body) → FitBody scope n b → FitBody scope n (vet_body b)
    body_fit n (head r) f = f
    body_fit n (draw e s b) f = (vet_fit n e f.0, f.1, body_fit (n + fresh s) b f.2)
    body_fit n (same x y b) f = (f.0, f.1, body_fit n b f.2)
    body_fit n (different x y b) f = (f.0, f.1, body_fit n b f.2)
    body_fit n (absent r e b) f = (f.0, vet_fit n e f.1, body_fit n b f.2)

mutual
  unfolding depth each_leaf

  pub vet_depth : (e : Expr) → depth (vet e) ≡ depth e
  vet_depth (leaf x) = refl
  vet_depth (union a b) = rw (vet_depth a, vet_depth b)
  vet_depth (difference a b) = rw (vet_depth a, vet_depth b)
  vet_depth (comprehension b) = rw (body_depth_lem b)

  body_depth_lem : (b : Body) → body_depth (vet_body b) ≡ body_depth b
  body_depth_lem (head r) = refl
  body_depth_lem (draw e s b) = rw (vet_depth e, body_depth_lem b)
  body_depth_lem (same x y b) = body_depth_lem b
  body_depth_lem (different x y b) = body_depth_lem b
  body_depth_lem (absent r e b) = rw (vet_depth e, body_depth_lem b)

mutual
  unfolding draw_count each_leaf

  pub vet_draws : (e : Expr) → draw_count (vet e) ≡ draw_count e
  vet_draws (leaf x) = refl
  vet_draws (union a b) = rw (vet_draws a, vet_draws b)
  vet_draws (difference a b) = rw (vet_draws a, vet_draws b)
  vet_draws (comprehension b) = body_draws_lem b

  body_draws_lem : (b : Body) → body_draws (vet_body b) ≡ body_draws b
  body_draws_lem (head r) = refl
  body_draws_lem (draw e s b) = rw (vet_draws e, body_draws_lem b)
  body_draws_lem (same x y b) = body_draws_lem b
  body_draws_lem (different x y b) = body_draws_lem b
  body_draws_lem (absent r e b) = rw (vet_draws e, body_draws_lem b)

pub vet_formed : (scope : Scope) → 0 < reach scope → (e : Expr) → WellFormed scope e → WellFormed scope (vet e)
vet_formed scope h e w = record { fit = vet_fit scope h 0 e w.fit; shallow = omega (arith, w.shallow, vet_depth e); draws = omega (arith, w.draws, vet_draws e) }

module _ (ks : List Known) where
  open_leaf : (x : Leaf) → leaf_open (vet_leaf x) ks ≡ leaf_open x ks
  unfolding leaf_open vet_leaf
  open_leaf (finite rs) = refl
  open_leaf (cofinite rs) = refl
  open_leaf (definition d) = refl
  open_leaf (listed t n plus o) = refl
  open_leaf (listed t n minus o) = refl
  open_leaf (vetted t n o d) = refl

  pub vet_open : (e : Expr) → open_expr (vet e) ks ≡ open_expr e ks
  unfolding open_expr each_leaf
  vet_open (leaf x) = open_leaf x
  vet_open (union a b) = rw (vet_open a, vet_open b)
  vet_open (difference a b) = vet_open a
  vet_open (comprehension b) = refl

  mutual
    unfolding draws_closed each_leaf

    pub vet_closed : (e : Expr) → draws_closed (vet e) ks ≡ draws_closed e ks
    vet_closed (leaf x) = refl
    vet_closed (union a b) = rw (vet_closed a, vet_closed b)
    vet_closed (difference a b) = rw (vet_closed a, vet_closed b)
    vet_closed (comprehension b) = body_closed b

    body_closed : (b : Body) → guards_closed (vet_body b) ks ≡ guards_closed b ks
    body_closed (head r) = refl
    body_closed (draw e s b) = rw (vet_open e, vet_closed e, body_closed b)
    body_closed (same x y b) = body_closed b
    body_closed (different x y b) = body_closed b
    body_closed (absent r e b) = rw (vet_closed e, body_closed b)

  -- definition 0 is declared −
  module _ (keys : (get_or ks 0 unknown).declared ≡ minus) where
    has_leaf : (x : Leaf) → T (external_leaf plus x) → T (leaf_has x ks plus) → T (leaf_has (vet_leaf x) ks plus)
    unfolding external_leaf leaf_has vet_leaf
    has_leaf (finite rs) t h = h
    has_leaf (cofinite rs) t h = h
    has_leaf (definition d) t h = h
    has_leaf (listed i n plus o) t h =
        (T_and (name_has plus o ks plus) (same_polarity (get_or ks 0 unknown).declared minus)).1 (h, subst (λ (p : Polarity). T (same_polarity p minus)) (sym keys) tt)
    has_leaf (listed i n minus o) t h = h
    has_leaf (vetted i n o d) t h = h

    mutual
      unfolding external_expr has_polarity each_leaf

      pub vet_has : (e : Expr) → T (external_expr plus e) → T (has_polarity e ks plus) → T (has_polarity (vet e) ks plus)
      vet_has (leaf x) t h = has_leaf x t h
      vet_has (union a b) t h =
          (T_and (has_polarity (vet a) ks plus) (has_polarity (vet b) ks plus)).1 (
            vet_has a (T_left (external_expr plus a) (external_expr plus b) t) (T_left (has_polarity a ks plus) (has_polarity b ks plus) h),
            vet_has b (T_right (external_expr plus a) (external_expr plus b) t) (T_right (has_polarity a ks plus) (has_polarity b ks plus) h),
          )
      vet_has (difference a b) t h = absurd t
      vet_has (comprehension b) t h = body_has b t h

      body_has : (b : Body) → T (external_body plus b) → T (guards_have b ks plus) → T (guards_have (vet_body b) ks plus)
      body_has (head r) t h = tt
      body_has (draw e s b) t h =
          (T_and (has_polarity (vet e) ks plus) (guards_have (vet_body b) ks plus)).1 (
            vet_has e (T_left (external_expr plus e) (external_body plus b) t) (T_left (has_polarity e ks plus) (guards_have b ks plus) h),
            body_has b (T_right (external_expr plus e) (external_body plus b) t) (T_right (has_polarity e ks plus) (guards_have b ks plus) h),
          )
      body_has (same x y b) t h = body_has b t h
      body_has (different x y b) t h = body_has b t h
      body_has (absent r e b) t h = absurd t
