-- The reader of expressions: what its callees are asked, and what it says when they have said theirs.
use Prim.Native.Nat.{ℕ, ◌+◌, ◌-◌, ◌*◌, ◌≤◌, ◌<◌}
use mathlib.Core.Path.{◌≡◌, refl, sym, ap, subst, ◌∙◌}
use mathlib.Core.Logic.{◌⊎◌, inl, inr}
use mathlib.Core.Bool.{Bool, true, false}
use mathlib.Core.List.{List, []}
use native.Mathlib.Omega.{arith}
use lib.Dec.{eqb}
use lib.ListN.{length, take, drop, get_or}
use borrow.Author.Tests.{eq-eqb, ne_eqb}
use Rattle.rows.specs.Row.{Row}
use Rattle.rows.specs.Sets.{RowSet, only, has, combined}
use Rattle.rows.specs.Layout.{rows_in, set_in}
use Rattle.policy.specs.Decode.{is_node}
use Rattle.policy.specs.Syntax.{Expr, leaf, union, difference, comprehension}
use Rattle.meaning.specs.Values.{Values, row_of}
use Rattle.meaning.specs.Reading.{Result, done, refused, Reading, after, small, read}
use Rattle.read_values.specs.Values.{Bound, Unchanged}
use Rattle.policy_places.specs.Places.{Stands, SomeRow, SomeExpr, PastExpr}
use Rattle.read_values.specs.Answers.{Filled, Empty}
use Rattle.read_values.specs.Outcomes.{outcome, tested, IfOk}
use Rattle.read_values.specs.From.{From, scope_in}
use Rattle.read_steps.specs.Areas.{Gathering}
use Rattle.read_steps.specs.Steps.{SayCombined, SayHas}
use Rattle.read_leaves.specs.Leaves.{AskLeaf, SayLeaf, SayLeafHas}
use Rattle.read_expressions.specs.Room.{room_of}
use Rattle.read_expressions.specs.Readers.{reading, gathering, Means, AskExpr, AskHas, AskTwo, AskBody, SayExpr, SayExprHas, SayTwo, SayBody}
use Rattle.policy_places.proofs.Places.{on_leaf, on_union, on_difference, on_comprehension, in_leaf, in_union, in_difference, in_comprehension, expr_some}
use Rattle.policy_places.proofs.Past.{right_here}
use Rattle.read_values.proofs.Unchanged.{unchanged_self, unchanged_then, bound_after}
use Rattle.sets.proofs.Front.{SameFront, set_same}
use Rattle.read_steps.proofs.Areas.{filled_same, finite_set, given_back, back_part, back_front, part_length}
use Rattle.std.specs.Prelude.{Result as Outcome, Ok, Err}
use Rattle.refusals.specs.Numbers.{number}
use Rattle.refusals.specs.declared.Refusal.{Refusal}

-- ---- readings one after the other

pub after_done : {A B : Type 0} {m : Result A} {x : A} {j : ℕ} (g : A → Reading B) {r : Result B} → m ≡ done x j → g x j ≡ r → after m g ≡ r
unfolding after
after_done {A} g e h = ap (λ (z : Result A). after z g) e ∙ h

pub after_refused : {A B : Type 0} {m : Result A} {n : ℕ} (g : A → Reading B) → m ≡ refused n → after m g ≡ refused n
unfolding after
after_refused {A} g e = ap (λ (z : Result A). after z g) e

-- ---- an answer taken apart

module _ {f : From} {ws : List ℕ} {at : ℕ} {values : List ℕ} {count k : ℕ} {later area : List ℕ} where
  module _ {j : ℕ} (s : SayExpr f ws at values count k (Ok j) later area) where
    pub done_means : Means f ws at count (take count values) k (done (set_in area) j)
    unfolding outcome
    done_means = s.means

    pub done_filled : Filled area
    unfolding IfOk
    done_filled = s.filled

  pub refused_means : {x : Refusal} → SayExpr f ws at values count k (Err x) later area → Means f ws at count (take count values) k (refused (number x))
  unfolding outcome
  refused_means s = s.means

  -- said of values that those in scope had already before
  pub expr_since : {r : Outcome ℕ Refusal} {first : List ℕ} → Unchanged count first values → SayExpr f ws at values count k r later area → SayExpr f ws at first count k r later area
  expr_since {r} u s = record {
    unchanged = unchanged_then u s.unchanged;
    filled = s.filled;
    means = subst (λ (vs : Values). Means f ws at count vs k (outcome (set_in area) r)) u.front s.means;
  }

  -- said of as many variables in scope
  expr_in : {r : Outcome ℕ Refusal} {scope : ℕ} → scope ≡ count → SayExpr f ws at values scope k r later area → SayExpr f ws at values count k r later area
  expr_in {r} e s = subst (λ (n : ℕ). SayExpr f ws at values n k r later area) e s

-- ---- what the callees are asked

pub some_room : (e : Expr) → 1 ≤ room_of e
unfolding room_of
some_room (leaf x) = omega arith
some_room (union a b) = omega arith
some_room (difference a b) = omega arith
some_room (comprehension b) = omega arith

module _ {f : From} {ws : List ℕ} {at : ℕ} {values : List ℕ} {count : ℕ} {area : List ℕ} (q : AskExpr f ws at values count area) where
  pub some_expr : SomeExpr ws at
  some_expr = record { scope = scope_in f; n = count; e = q.e; here = q.here }

  pub long : 642 ≤ length area
  long = let r = q.room in omega (arith, some_room q.e)

  pub ask_leaf : is_node (get_or ws at 0) ≡ false → AskLeaf f ws at values count
  ask_leaf c =
      on_leaf (λ e. Stands (scope_in f) count ws at e → AskLeaf f ws at values count) q.here c (λ x s. record { sound = q.sound; bound = q.bound; x = x; here = in_leaf s }) q.here

  pub ask_union : get_or ws at 0 ≡ 5 → AskTwo f ws (at + 1) values count area
  unfolding room_of
  ask_union c =
      on_union (λ e. Stands (scope_in f) count ws at e → 642 * room_of e ≤ length area → AskTwo f ws (at + 1) values count area) q.here c
      (λ a b s r. record { sound = q.sound; bound = q.bound; x = a; y = b; here = in_union s; left = omega arith; right = omega arith }) q.here q.room

  pub ask_difference : get_or ws at 0 ≡ 6 → AskTwo f ws (at + 1) values count area
  unfolding room_of
  ask_difference c =
      on_difference (λ e. Stands (scope_in f) count ws at e → 642 * room_of e ≤ length area → AskTwo f ws (at + 1) values count area) q.here c
      (λ a b s r. record { sound = q.sound; bound = q.bound; x = a; y = b; here = in_difference s; left = omega arith; right = omega arith }) q.here q.room

  pub ask_guards : {clear : List ℕ} → get_or ws at 0 ≡ 7 → length clear ≡ length area → Empty 0 clear → AskBody f ws (at + 2) (get_or ws (at + 1) 0) values count clear 642
  unfolding room_of
  ask_guards {clear} c l m =
      on_comprehension (λ e. Stands (scope_in f) count ws at e → 642 * room_of e ≤ length area → AskBody f ws (at + 2) (get_or ws (at + 1) 0) values count clear 642) q.here c
      (λ b s r. record {
        ask = record { sound = q.sound; bound = q.bound; gathering = record { filled = m.filled; finite = m.is }; behind = omega arith };
        b = b;
        here = (in_comprehension s).body;
        room = omega arith;
      }) q.here q.room

-- ---- what is said, code by code

module _ {f : From} {ws : List ℕ} {at : ℕ} {values : List ℕ} {count k : ℕ} {r : Outcome ℕ Refusal} where
  pub say_leaf : {area : List ℕ} → is_node (get_or ws at 0) ≡ false → SayLeaf f ws at (take count values) k r area → SayExpr f ws at values count k r values area
  unfolding read
  say_leaf {area} c g = record {
    unchanged = unchanged_self;
    filled = g.filled;
    means = record {
      says = λ e s.
          on_leaf (λ x. Stands (scope_in f) count ws at x → reading f x (take count values) k ≡ outcome (set_in area) r) s c (λ x h. g.means count x (in_leaf h)) s;
    };
  }

  module _ {later area : List ℕ} where
    pub say_union : get_or ws at 0 ≡ 5 → SayTwo f ws (at + 1) false values count k r later area → SayExpr f ws at values count k r later area
    unfolding read combined
    say_union c g = record {
      unchanged = g.unchanged;
      filled = g.filled;
      means = record {
        says = λ e s.
            on_union (λ x. Stands (scope_in f) count ws at x → reading f x (take count values) k ≡ outcome (set_in area) r) s c (λ x y h. g.means.says x y (in_union h)) s;
      };
    }

    pub say_difference : get_or ws at 0 ≡ 6 → SayTwo f ws (at + 1) true values count k r later area → SayExpr f ws at values count k r later area
    unfolding read combined
    say_difference c g = record {
      unchanged = g.unchanged;
      filled = g.filled;
      means = record {
        says = λ e s.
            on_difference (λ x. Stands (scope_in f) count ws at x → reading f x (take count values) k ≡ outcome (set_in area) r) s c (λ x y h. g.means.says x y (in_difference h)) s;
      };
    }

-- the rows gathered are the set
gathered_filled : (r : Outcome ℕ Refusal) (area : List ℕ) → IfOk Gathering r area → IfOk Filled r area
unfolding IfOk
gathered_filled (Ok j) area g = g.filled
gathered_filled (Err x) area g = tt

gathered_set : (r : Outcome ℕ Refusal) (area : List ℕ) → IfOk Gathering r area → after (outcome (rows_in area) r) (λ xs i. done (only xs) i) ≡ outcome (set_in area) r
unfolding IfOk outcome after
gathered_set (Ok j) area g = ap (λ (s : RowSet). done s j) (sym (finite_set area g.finite))
gathered_set (Err x) area g = refl

pub say_comprehension : {f : From} {ws : List ℕ} {at : ℕ} {values : List ℕ} {count k : ℕ} {clear : List ℕ} {r : Outcome ℕ Refusal} {later area : List ℕ} → get_or ws at 0 ≡ 7 → Empty 0 clear →
    SayBody f ws (at + 2) (get_or ws (at + 1) 0) values count k 642 clear r later area → SayExpr f ws at values count k r later area
unfolding read
say_comprehension {f} {ws} {at} {values} {count} {k} {clear} {r} {later} {area} c m g = record {
  unchanged = g.unchanged;
  filled = gathered_filled r area g.gathering;
  means = record {
    says = λ e s.
        on_comprehension (λ x. Stands (scope_in f) count ws at x → reading f x (take count values) k ≡ outcome (set_in area) r) s c
        (λ b h.
        let b-is : gathering f b (take count values) [] k ≡ outcome (rows_in area) r =
        ap (λ (xs : List Row). gathering f b (take count values) xs k) (sym m.none) ∙ g.means.says b (in_comprehension h).body in
        ap (λ (z : Result (List Row)). after z (λ xs i. done (only xs) i)) b-is ∙ gathered_set r area g.gathering) s;
  };
}

-- ---- a union or a difference

module _ {f : From} {ws : List ℕ} {at : ℕ} {values : List ℕ} {count : ℕ} {area : List ℕ} (q : AskTwo f ws at values count area) where
  pub some_left : SomeExpr ws at
  some_left = record { scope = scope_in f; n = count; e = q.x; here = q.here.left }

  pub ask_left : AskExpr f ws at values count area
  ask_left = record { sound = q.sound; bound = q.bound; e = q.x; here = q.here.left; room = q.left }

  pub ask_right : {second : ℕ} {later : List ℕ} {scope : ℕ} (left : List ℕ) → PastExpr ws at second → Unchanged count values later → scope ≡ count → length left ≡ length area →
      AskExpr f ws second later scope (take (length left - 642) (drop 642 left))
  ask_right {second} {later} left p u e l =
      let r = q.right in
      let m = part_length 642 left (omega arith) in
      subst (λ (n : ℕ). AskExpr f ws second later n (take (length left - 642) (drop 642 left))) (sym e)
      (record { sound = q.sound; bound = bound_after u q.bound; e = q.y; here = right_here p q.here; room = omega arith })

  pub right_after : {second : ℕ} → PastExpr ws at second → at < second
  right_after p = let e = p.past (scope_in f) count q.x q.here.left in omega (arith, expr_some q.x count)

module _ {f : From} {ws : List ℕ} {at : ℕ} {values : List ℕ} {count k : ℕ} where
  pub say_left_refused : {minus : Bool} {left later area : List ℕ} {x : Refusal} → SayExpr f ws at values count k (Err x) later left → SayTwo f ws at minus values count k (Err x) later area
  unfolding IfOk outcome
  say_left_refused s = record { unchanged = s.unchanged; filled = tt; means = record { says = λ x y h. after_refused _ ((refused_means s).says x h.left) } }

  module _ {left middle : List ℕ} {j second scope : ℕ} (s₁ : SayExpr f ws at values count k (Ok j) middle left) (same : scope ≡ count) (p : PastExpr ws at second) where
    pub say_right_refused : {minus : Bool} {later right area : List ℕ} {x : Refusal} → SayExpr f ws second middle scope j (Err x) later right → SayTwo f ws at minus values count k (Err x) later area
    unfolding IfOk outcome
    say_right_refused s =
        let since = expr_since s₁.unchanged (expr_in same s) in
        record {
          unchanged = since.unchanged;
          filled = tt;
          means = record { says = λ x y h. after_done _ ((done_means s₁).says x h.left) (after_refused _ ((refused_means since).says y (right_here p h))) };
        }

    module _ {later right : List ℕ} {i : ℕ} (s₂ : SayExpr f ws second middle scope j (Ok i) later right)
        (inside : 642 ≤ length left) (size : length right ≡ length (take (length left - 642) (drop 642 left))) where
      front : SameFront left (given_back left 642 right inside size)
      front = back_front left 642 right inside size (omega arith)

      pub both_filled : Filled (given_back left 642 right inside size) × Filled (drop 642 (given_back left 642 right inside size))
      both_filled = (filled_same front (done_filled s₁), subst Filled (sym (back_part left 642 right inside size)) (done_filled s₂))

      pub say_combined : {minus : Bool} {r : Outcome ℕ Refusal} {area : List ℕ} → SayCombined minus i (given_back left 642 right inside size) r area → SayTwo f ws at minus values count k r later area
      say_combined {minus} g =
          let since = expr_since s₁.unchanged (expr_in same s₂) in
          record {
            unchanged = since.unchanged;
            filled = g.filled;
            means = record {
              says = λ x y h.
                  after_done _ ((done_means s₁).says x h.left) (after_done _ ((done_means since).says y (right_here p h))
                  (ap (λ (s : RowSet). small (combined minus s (set_in right)) i) (sym (set_same front (done_filled s₁).sound))
                  ∙ ap (λ (l : List ℕ). small (combined minus (set_in (given_back left 642 right inside size)) (set_in l)) i) (sym (back_part left 642 right inside size)) ∙ g.means));
            };
          }

-- ---- whether a row belongs to an expression

module _ {f : From} {ws : List ℕ} {at row : ℕ} {values : List ℕ} {count : ℕ} {area : List ℕ} (q : AskHas f ws at row values count area) where
  pub tested_row : SomeRow ws row
  tested_row = record { n = count; ts = q.ts; here = q.tested }

module _ {f : From} {ws : List ℕ} {at row : ℕ} {values : List ℕ} {count k : ℕ} where
  pub say_leaf_has : {r : Outcome (Bool × ℕ) Refusal} → is_node (get_or ws at 0) ≡ false → SayLeafHas f ws at row (take count values) k r → SayExprHas f ws at row values count k r values
  unfolding read
  say_leaf_has {r} c g = record {
    unchanged = unchanged_self;
    means = record {
      says = λ e s ts t.
          on_leaf (λ x. Stands (scope_in f) count ws at x → after (reading f x (take count values) k) (λ y i. done (has y (row_of (take count values) ts)) i) ≡ tested r) s c
          (λ x h. g.means count x (in_leaf h) count ts t) s;
    };
  }

  module _ {later area : List ℕ} where
    pub say_has_refused : {x : Refusal} → SayExpr f ws at values count k (Err x) later area → SayExprHas f ws at row values count k (Err x) later
    unfolding tested
    say_has_refused s = record { unchanged = s.unchanged; means = record { says = λ x h ts t. after_refused _ ((refused_means s).says x h) } }

    module _ {j : ℕ} (s : SayExpr f ws at values count k (Ok j) later area) {scope : ℕ} (same : scope ≡ count) where
      -- the row is looked for in the set that was read
      pub ask_row : Bound values count → SomeRow ws row → Bound later scope × Filled area × SomeRow ws row
      ask_row b r = (subst (λ (n : ℕ). Bound later n) (sym same) (bound_after s.unchanged b), done_filled s, r)

      pub say_has : {b : Bool} → SayHas ws row (take scope later) area b → SayExprHas f ws at row values count k (Ok (b, j)) later
      unfolding tested
      say_has {b} h = record {
        unchanged = s.unchanged;
        means = record {
          says = λ x w ts t.
              after_done _ ((done_means s).says x w)
              (ap (λ (y : Bool). done y j)
              (ap (λ (vs : Values). has (set_in area) (row_of vs ts)) (sym s.unchanged.front ∙ ap (λ (n : ℕ). take n later) (sym same)) ∙ h.means count ts t));
        };
      }
