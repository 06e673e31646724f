-- Document 01, "Expressions, in prefix order": what the words stand for.
use Rattle.std.specs.Prelude.{List}
use Rattle.policy.specs.Leaf.{Leaf}
pub use Rattle.policy.specs.Terms.{Term, atom, var}

-- "A slot is a term, or 2 and the number of a new variable": the number is the count of variables in scope, so it is not kept
pub data Slot : Type 0 where
  old : Term → Slot
  new : Slot

mutual
  pub data Expr : Type 0 where
    leaf : Leaf → Expr
    union : Expr → Expr → Expr  -- 5
    difference : Expr → Expr → Expr  -- 6
    comprehension : Body → Expr  -- 7

  -- the guards of a comprehension, one after the other, and at their end its head
  pub data Body : Type 0 where
    head : List Term → Body
    draw : Expr → List Slot → Body → Body  -- 1
    same : Term → Term → Body → Body  -- 2
    different : Term → Term → Body → Body  -- 3
    absent : List Term → Expr → Body → Body  -- 4
