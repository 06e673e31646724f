-- A whole definition or query: what was checked stands at its first word, and the area has room for the sets that it needs.
use Prim.Native.Nat.{ℕ, ◌+◌, ◌≤◌}
use mathlib.Core.List.{List}
use native.Mathlib.Omega.{arith}
use lib.ListN.{length}
use Rattle.policy.specs.Syntax.{Expr, leaf, union, difference, comprehension, Body, head, draw, same, different, absent}
use Rattle.policy.specs.WellFormed.{depth, body_depth, draw_count, body_draws}
use Rattle.policy.proofs.Decoding.{parse_fits}
use Rattle.policy_places.proofs.Places.{whole_here}
use Rattle.read_values.specs.From.{From, scope_in}
use Rattle.read_expressions.specs.Room.{room_of, body_room, Theorem}
use Rattle.read_expressions.specs.Readers.{AskExpr, SayExpr, AskWhole, SayWhole}
use Rattle.std.specs.Prelude.{Result as Outcome}
use Rattle.refusals.specs.declared.Refusal.{Refusal}

-- each level and each draw adds one set at most
mutual
  unfolding room_of depth draw_count

  room_needed : (e : Expr) → room_of e ≤ depth e + draw_count e
  room_needed (leaf x) = omega arith
  room_needed (union a b) = omega (arith, room_needed a, room_needed b)
  room_needed (difference a b) = omega (arith, room_needed a, room_needed b)
  room_needed (comprehension b) = omega (arith, body_needed b)

  body_needed : (b : Body) → body_room b ≤ body_depth b + body_draws b
  body_needed (head r) = omega arith
  body_needed (draw e p b) = omega (arith, room_needed e, body_needed b)
  body_needed (same x y b) = body_needed b
  body_needed (different x y b) = body_needed b
  body_needed (absent r e b) = omega (arith, room_needed e, body_needed b)

-- 15 levels and eight draws: 23 sets at most
pub room_enough : Theorem
room_enough scope e w =
    let shallow = w.shallow in
    let draws = w.draws in
    omega (arith, room_needed e)

module _ {f : From} {ws : List ℕ} {values area : List ℕ} where
  pub ask_whole : 16 ≤ length values → AskWhole f ws area → AskExpr f ws 0 values 0 area
  ask_whole long q =
      let room = q.long in
      record {
        sound = q.sound;
        bound = record { scope = omega arith; long = long };
        e = q.e;
        here = whole_here (scope_in f) ws q.e q.parses;
        room = omega (arith, room_enough (scope_in f) q.e (parse_fits (scope_in f) ws q.e q.parses));
      }

  pub say_whole : {k : ℕ} {r : Outcome ℕ Refusal} {later : List ℕ} → SayExpr f ws 0 values 0 k r later area → SayWhole f ws k r area
  say_whole s = record { filled = s.filled; means = λ e h. s.means.says e (whole_here (scope_in f) ws e h) }
