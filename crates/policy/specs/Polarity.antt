-- Document 01, "Polarity and openness": which polarities an expression has (the source's Table 3), which expressions are open, the verdict.
use Rattle.std.specs.Prelude.{ℕ, Bool, true, false, not, ◌&&◌, ◌||◌, List}
use Rattle.rows.specs.Name.{Polarity, opposite}
use Rattle.policy.specs.Leaf.{leaf_has, leaf_open}
pub use Rattle.policy.specs.Leaf.{Known, unknown, scope_of}
use Rattle.policy.specs.Syntax.{Expr, leaf, union, difference, comprehension, Body, head, draw, same, different, absent}

unfoldable mutual
  unfolding leaf_has

  pub has_polarity : Expr → List Known → Polarity → Bool
  has_polarity (leaf x) ks p = leaf_has x ks p
  has_polarity (union a b) ks p = has_polarity a ks p && has_polarity b ks p
  has_polarity (difference a b) ks p = has_polarity a ks p && has_polarity b ks (opposite p)
  has_polarity (comprehension b) ks p = guards_have b ks p

  -- "those that every draw has and that are opposite to one of every absent guard. No other operand counts"
  pub guards_have : Body → List Known → Polarity → Bool
  guards_have (head row) ks p = true
  guards_have (draw e pattern rest) ks p = has_polarity e ks p && guards_have rest ks p
  guards_have (same x y rest) ks p = guards_have rest ks p
  guards_have (different x y rest) ks p = guards_have rest ks p
  guards_have (absent row e rest) ks p = has_polarity e ks (opposite p) && guards_have rest ks p

-- "Open: 2, a − name, 3 of an open definition, 5 with an open part, 6 with an open left."
unfoldable pub open_expr : Expr → List Known → Bool
unfolding leaf_open
open_expr (leaf x) ks = leaf_open x ks
open_expr (union a b) ks = open_expr a ks || open_expr b ks
open_expr (difference a b) ks = open_expr a ks
open_expr (comprehension b) ks = false

-- "Only sets that are not open may be drawn from", at any depth
unfoldable mutual
  unfolding open_expr

  pub draws_closed : Expr → List Known → Bool
  draws_closed (leaf x) ks = true
  draws_closed (union a b) ks = draws_closed a ks && draws_closed b ks
  draws_closed (difference a b) ks = draws_closed a ks && draws_closed b ks
  draws_closed (comprehension b) ks = guards_closed b ks

  pub guards_closed : Body → List Known → Bool
  guards_closed (head row) ks = true
  guards_closed (draw e pattern rest) ks = not (open_expr e ks) && (draws_closed e ks && guards_closed rest ks)
  guards_closed (same x y rest) ks = guards_closed rest ks
  guards_closed (different x y rest) ks = guards_closed rest ks
  guards_closed (absent row e rest) ks = draws_closed e ks && guards_closed rest ks

-- "Both gives verdict 0 exact, + alone 1 lower, − alone 2 upper." (A query with none is refused.)
pub data Verdict : Type 0 where
  exact lower upper : Verdict

unfoldable pub verdict_word : Verdict → ℕ
verdict_word exact = 0
verdict_word lower = 1
verdict_word upper = 2
