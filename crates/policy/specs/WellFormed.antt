-- Document 01, "Expressions, in prefix order": the rules that an expression keeps. The decoder reads just the words of those that keep them (`Parsing`).
use Rattle.std.specs.Prelude.{ℕ, suc, ◌+◌, ◌≤◌, max, List, [], ◌∷◌, length}
use Rattle.policy.specs.Syntax.{Slot, old, new, Expr, leaf, union, difference, comprehension, Body, head, draw, same, different, absent}
use Rattle.policy.specs.OwnKey.{Scope}
use Rattle.policy.specs.Leaf.{FitLeaf}
pub use Rattle.policy.specs.Terms.{FitRow, FitRows}
unfoldable pub use Rattle.policy.specs.Terms.{FitTerm, FitIssuer}
use Rattle.policy.specs.Words.{fresh, guard_count}

-- "a new variable, which must be the count of variables in scope, at most 15"; "a variable from earlier in the pattern may be used"
unfoldable pub FitSlots : ℕ → List Slot → Type 0
unfolding FitTerm
FitSlots n [] = Unit {0}
FitSlots n (old t ∷ p) = FitTerm n t × FitSlots n p
FitSlots n (new ∷ p) = (n ≤ 15) × FitSlots (n + 1) p

pub record FitPattern (n : ℕ) (p : List Slot) : Type 0 where
  pub some : 1 ≤ length p
  pub few : length p ≤ 4
  pub slots : FitSlots n p

unfoldable mutual
  unfolding FitTerm FitLeaf fresh guard_count

  pub Fit : Scope → ℕ → Expr → Type 0
  Fit s n (leaf x) = FitLeaf s n x
  Fit s n (union a b) = Fit s n a × Fit s n b
  Fit s n (difference a b) = Fit s n a × Fit s n b
  Fit s n (comprehension b) = (guard_count b ≤ 8) × FitBody s n b

  -- "Variables end with their comprehension": each guard sees those of the draws before it
  pub FitBody : Scope → ℕ → Body → Type 0
  FitBody s n (head r) = FitRow n r
  FitBody s n (draw e p b) = Fit s n e × FitPattern n p × FitBody s (n + fresh p) b
  FitBody s n (same x y b) = FitTerm n x × FitTerm n y × FitBody s n b
  FitBody s n (different x y b) = FitTerm n x × FitTerm n y × FitBody s n b
  FitBody s n (absent r e b) = FitRow n r × Fit s n e × FitBody s n b

-- "A whole definition or query stands at depth 1, each expression directly inside another one deeper"
unfoldable mutual
  pub depth : Expr → ℕ
  depth (leaf x) = 1
  depth (union a b) = suc (max (depth a) (depth b))
  depth (difference a b) = suc (max (depth a) (depth b))
  depth (comprehension b) = suc (body_depth b)

  pub body_depth : Body → ℕ
  body_depth (head r) = 0
  body_depth (draw e p b) = max (depth e) (body_depth b)
  body_depth (same x y b) = body_depth b
  body_depth (different x y b) = body_depth b
  body_depth (absent r e b) = max (depth e) (body_depth b)

-- the draw guards that stand in it, at any depth
unfoldable mutual
  pub draw_count : Expr → ℕ
  draw_count (leaf x) = 0
  draw_count (union a b) = draw_count a + draw_count b
  draw_count (difference a b) = draw_count a + draw_count b
  draw_count (comprehension b) = body_draws b

  pub body_draws : Body → ℕ
  body_draws (head r) = 0
  body_draws (draw e p b) = suc (draw_count e + body_draws b)
  body_draws (same x y b) = body_draws b
  body_draws (different x y b) = body_draws b
  body_draws (absent r e b) = draw_count e + body_draws b

-- a whole definition or query
pub record WellFormed (s : Scope) (e : Expr) : Type 0 where
  pub fit : Fit s 0 e
  pub shallow : depth e ≤ 15
  pub draws : draw_count e ≤ 8
