-- How many sets of the lent area a reading takes.
use Rattle.std.specs.Prelude.{ℕ, suc, ◌*◌, ◌≤◌, max}
use Rattle.rows.specs.Layout.{set_room}
use Rattle.policy.specs.OwnKey.{Scope}
use Rattle.policy.specs.Syntax.{Expr, leaf, union, difference, comprehension, Body, head, draw, same, different, absent}
use Rattle.policy.specs.WellFormed.{WellFormed}

-- so many sets lie in the area while an expression is read, its own among them: a right operand lies behind the left one's set,
-- a draw's operand behind those of the draws before it
unfoldable mutual
  pub room_of : Expr → ℕ
  room_of (leaf x) = 1
  room_of (union a b) = max (room_of a) (suc (room_of b))
  room_of (difference a b) = max (room_of a) (suc (room_of b))
  room_of (comprehension b) = suc (body_room b)

  -- besides the set that is gathered
  pub body_room : Body → ℕ
  body_room (head r) = 0
  body_room (draw e p b) = max (room_of e) (suc (body_room b))
  body_room (same x y b) = body_room b
  body_room (different x y b) = body_room b
  body_room (absent r e b) = max (room_of e) (body_room b)

-- 11, "scratch area under 16,384": every well-formed definition and query is read within it, and nothing is tested while reading
abbrev pub Theorem : Type 0
Theorem = (scope : Scope) (e : Expr) → WellFormed scope e → set_room * room_of e ≤ 16384
