-- The reader of guards, guard by guard, and that of an absent guard.
use Prim.Native.Nat.{ℕ, ◌+◌, ◌-◌, ◌*◌, ◌≤◌, ◌<◌}
use mathlib.Core.Path.{◌≡◌, refl, sym, ap, subst, ◌∙◌}
use mathlib.Core.Logic.{◌⊎◌, inl, inr}
use mathlib.Core.Bool.{Bool, true, false, not}
use mathlib.Core.List.{List}
use native.Mathlib.Omega.{arith}
use lib.Dec.{eqb}
use lib.ListN.{length, take, drop}
use Rattle.rows.specs.Row.{Row}
use Rattle.rows.specs.Sets.{has}
use Rattle.rows.specs.Layout.{rows_in, set_in}
use Rattle.rows.proofs.Case.{never}
use Rattle.policy.specs.Syntax.{Term, Expr, Body, absent}
use Rattle.policy.specs.Words.{guard_count}
use Rattle.policy.specs.Held.{term_is}
use Rattle.meaning.specs.Values.{Values, value, row_of}
use Rattle.meaning.specs.Reading.{Result, done, refused, Reading, after, read}
use Rattle.meaning.proofs.Steps.{either}
use Rattle.read_values.specs.Values.{Unchanged, passing}
use Rattle.policy_places.specs.Places.{StandsBody, StandsAbsent, SomeRow, SomeExpr, SomeGuard, PastRow, PastExpr, IsGuard}
use Rattle.read_values.specs.Answers.{Filled}
use Rattle.read_values.specs.Outcomes.{outcome, tested, IfOk}
use Rattle.read_values.specs.From.{From, scope_in}
use Rattle.read_steps.specs.Areas.{Gathering, Kept}
use Rattle.read_steps.specs.Steps.{SayHead}
use Rattle.read_expressions.specs.Room.{room_of, body_room}
use Rattle.read_expressions.specs.Readers.{reading, gathering, Means, MeansBody, AskHas, AskBody, AskDraw, AskAbsent, SayExpr, SayExprHas, SayBody, SayDraw, SayAbsent}
use Rattle.policy_places.proofs.Places.{on_head, on_draw, on_same, on_different, on_absent, in_head, in_draw, in_same, in_different, in_absent, expr_some, inside, row_length}
use Rattle.read_values.proofs.Held.{same_passes, different_passes}
use Rattle.policy_places.proofs.Past.{operand_here, over_is, over_here}
use Rattle.read_values.proofs.Unchanged.{unchanged_self, unchanged_then, bound_after}
use Rattle.sets.proofs.Front.{SameFront, rows_same}
use Rattle.read_steps.proofs.Areas.{gathering_same, kept_self, kept_then, given_back, back_length, back_part, back_front, back_kept, part_length}
use Rattle.read_expressions.proofs.Exprs.{done_means, done_filled, some_room}
use Rattle.std.specs.Prelude.{Result as Outcome, Ok, Err}
use Rattle.refusals.specs.declared.Refusal.{Refusal}
use Rattle.policy.specs.declared.Term as HeldTerm
use Rattle.policy.specs.declared.Guard as HeldGuard
use Rattle.policy.specs.declared.Guard.TheVariants.{Draw, Same, Different, Absent}

-- ---- a step that is one of two

first_of : (b : Bool) (m n : Reading (List Row)) (k : ℕ) (a : Result (List Row)) → b ≡ true → m k ≡ a → either b m n k ≡ a
first_of true m n k a e h = h
first_of false m n k a e h = never e refl

second_of : (b : Bool) (m n : Reading (List Row)) (k : ℕ) (a : Result (List Row)) → b ≡ false → n k ≡ a → either b m n k ≡ a
second_of true m n k a e h = never refl e
second_of false m n k a e h = h

-- the same step by the test turned round
turned : (b : Bool) (m n : Reading (List Row)) (k : ℕ) → either b n m k ≡ either (not b) m n k
turned true m n k = refl
turned false m n k = refl

-- ---- a comparison

-- the guard is one of the two comparisons, as the `match` on it tells
abbrev pub Compares : HeldGuard.Guard → Type 0
Compares g = ((x : HeldTerm.Term) × (y : HeldTerm.Term) × (g ≡ Same x y)) ⊎ ((x : HeldTerm.Term) × (y : HeldTerm.Term) × (g ≡ Different x y))

-- the guards after a comparison, and what is gathered: it goes by whether the comparison passes
record Compared (f : From) (ws : List ℕ) (at left count : ℕ) (vs : Values) (g : HeldGuard.Guard) (b : Body) : Type 0 where
  pub rest : Body
  pub here : StandsBody (scope_in f) count ws (at + 5) (left - 1) rest
  pub room : body_room rest ≡ body_room b
  pub gathers : (found : List Row) (k : ℕ) → gathering f b vs found k ≡ either (passing vs g) (gathering f rest vs found) (λ j. done found j) k

module _ (f : From) {ws : List ℕ} {at left count : ℕ} (vs : Values) (z : left ≡ 0 → ⊥) where
  compared_same : {x y : HeldTerm.Term} → IsGuard ws at (Same x y) → {b : Body} → StandsBody (scope_in f) count ws at left b → Compared f ws at left count vs (Same x y) b
  unfolding read room_of
  compared_same {x} {y} i s =
      on_same (λ c. StandsBody (scope_in f) count ws at left c → Compared f ws at left count vs (Same x y) c) s z x y i
      (λ c t. record {
        rest = c;
        here = in_same t;
        room = refl;
        gathers = λ found k.
            ap (λ (o : Bool). either o (gathering f c vs found) (λ j. done found j) k) (same_passes vs refl refl refl);
      }) s

  compared_different : {x y : HeldTerm.Term} → IsGuard ws at (Different x y) → {b : Body} → StandsBody (scope_in f) count ws at left b → Compared f ws at left count vs (Different x y) b
  unfolding read room_of
  compared_different {x} {y} i s =
      on_different (λ c. StandsBody (scope_in f) count ws at left c → Compared f ws at left count vs (Different x y) c) s z x y i
      (λ c t. record {
        rest = c;
        here = in_different t;
        room = refl;
        gathers = λ found k.
            turned (eqb (value vs (term_is x)) (value vs (term_is y))) (gathering f c vs found) (λ j. done found j) k
            ∙ ap (λ (o : Bool). either o (gathering f c vs found) (λ j. done found j) k) (different_passes vs refl refl refl);
      }) s

  compared_as_same : {g : HeldGuard.Guard} {x y : HeldTerm.Term} → g ≡ Same x y → IsGuard ws at g → {b : Body} → StandsBody (scope_in f) count ws at left b → Compared f ws at left count vs g b
  compared_as_same {g} {x} {y} e i {b} s = subst (λ (h : HeldGuard.Guard). Compared f ws at left count vs h b) (sym e) (compared_same {x = x} {y = y} (subst (λ (h : HeldGuard.Guard). IsGuard ws at h) e i) s)

  compared_as_different : {g : HeldGuard.Guard} {x y : HeldTerm.Term} → g ≡ Different x y → IsGuard ws at g → {b : Body} → StandsBody (scope_in f) count ws at left b → Compared f ws at left count vs g b
  compared_as_different {g} {x} {y} e i {b} s = subst (λ (h : HeldGuard.Guard). Compared f ws at left count vs h b) (sym e) (compared_different {x = x} {y = y} (subst (λ (h : HeldGuard.Guard). IsGuard ws at h) e i) s)

  compared : {g : HeldGuard.Guard} → Compares g → IsGuard ws at g → {b : Body} → StandsBody (scope_in f) count ws at left b → Compared f ws at left count vs g b
  compared (inl (x, y, e)) i s = compared_as_same e i s
  compared (inr (x, y, e)) i s = compared_as_different e i s

-- ---- what the callees are asked

module _ {f : From} {ws : List ℕ} {at left : ℕ} {values : List ℕ} {count : ℕ} {area : List ℕ} {free : ℕ} (q : AskBody f ws at left values count area free) where
  pub some_head : left ≡ 0 → SomeRow ws at
  some_head z = on_head (λ b. StandsBody (scope_in f) count ws at left b → SomeRow ws at) q.here z (λ ts s. record { n = count; ts = ts; here = in_head s }) q.here

  module _ (z : left ≡ 0 → ⊥) where
    pub some_guard : SomeGuard ws at
    some_guard =
        let c = q.here.count in
        let h : (guard_count q.b ≡ 0 → ⊥) = λ e. z (sym c ∙ e) in
        record { n = count; b = q.b; some = omega arith; words = q.here.words }

    pub ask_draw : IsGuard ws at Draw → AskDraw f ws (at + 1) (left - 1) values count area free
    unfolding room_of
    ask_draw i =
        on_draw (λ b. StandsBody (scope_in f) count ws at left b → free + 642 * body_room b ≤ length area → AskDraw f ws (at + 1) (left - 1) values count area free) q.here z i
        (λ e p b s r. record { ask = q.ask; e = e; p = p; b = b; here = in_draw s; room = omega arith; rest = omega arith }) q.here q.room

    pub ask_absent : IsGuard ws at Absent → AskAbsent f ws (at + 1) (left - 1) values count area free
    unfolding room_of
    ask_absent i =
        on_absent (λ b. StandsBody (scope_in f) count ws at left b → free + 642 * body_room b ≤ length area → AskAbsent f ws (at + 1) (left - 1) values count area free) q.here z i
        (λ r e b s h. record { ask = q.ask; r = r; e = e; b = b; here = in_absent s; room = omega arith; rest = omega arith }) q.here q.room

    pub ask_compared : {g : HeldGuard.Guard} → Compares g → IsGuard ws at g → AskBody f ws (at + 5) (left - 1) values count area free
    ask_compared t i =
        let c = compared f (take count values) z t i q.here in
        let e = c.room in
        let r = q.room in
        record { ask = q.ask; b = c.rest; here = c.here; room = omega arith }

-- ---- what is said, guard by guard

module _ {f : From} {ws : List ℕ} {at left : ℕ} {values : List ℕ} {count k free : ℕ} {entry : List ℕ} {r : Outcome ℕ Refusal} where
  pub say_head : {area : List ℕ} → left ≡ 0 → SayHead ws at (take count values) k entry r area → SayBody f ws at left values count k free entry r values area
  unfolding read
  say_head {area} z g = record {
    unchanged = unchanged_self;
    gathering = g.gathering;
    kept = g.kept free;
    means = record {
      says = λ b s.
          on_head (λ x. StandsBody (scope_in f) count ws at left x → gathering f x (take count values) (rows_in entry) k ≡ outcome (rows_in area) r) s z (λ ts h. g.means count ts (in_head h)) s;
    };
  }

  module _ {later area : List ℕ} (z : left ≡ 0 → ⊥) where
    pub say_draw : IsGuard ws at Draw → SayDraw f ws (at + 1) (left - 1) values count k free entry r later area → SayBody f ws at left values count k free entry r later area
    say_draw i g = record {
      unchanged = g.unchanged;
      gathering = g.gathering;
      kept = g.kept;
      means = record {
        says = λ b s.
            on_draw (λ x. StandsBody (scope_in f) count ws at left x → gathering f x (take count values) (rows_in entry) k ≡ outcome (rows_in area) r) s z i (λ e p c h. g.means.says e p c (in_draw h)) s;
      };
    }

    pub say_absent : IsGuard ws at Absent → SayAbsent f ws (at + 1) (left - 1) values count k free entry r later area → SayBody f ws at left values count k free entry r later area
    say_absent i g = record {
      unchanged = g.unchanged;
      gathering = g.gathering;
      kept = g.kept;
      means = record {
        says = λ b s.
            on_absent (λ x. StandsBody (scope_in f) count ws at left x → gathering f x (take count values) (rows_in entry) k ≡ outcome (rows_in area) r) s z i (λ t e c h. g.means.says t e c (in_absent h)) s;
      };
    }

    pub say_passes : {g : HeldGuard.Guard} → Compares g → IsGuard ws at g → passing (take count values) g ≡ true →
        SayBody f ws (at + 5) (left - 1) values count k free entry r later area → SayBody f ws at left values count k free entry r later area
    say_passes {g} t i e s = record {
      unchanged = s.unchanged;
      gathering = s.gathering;
      kept = s.kept;
      means = record {
        says = λ b h.
            let c = compared f (take count values) z t i h in
            c.gathers (rows_in entry) k
            ∙ first_of (passing (take count values) g) (gathering f c.rest (take count values) (rows_in entry)) (λ j. done (rows_in entry) j) k (outcome (rows_in area) r) e
            (s.means.says c.rest c.here);
      };
    }

-- a comparison that fails: the rows found so far are left as they are
pub say_fails : {f : From} {ws : List ℕ} {at left : ℕ} {values : List ℕ} {count k free : ℕ} {area : List ℕ} → (left ≡ 0 → ⊥) → Gathering area → {g : HeldGuard.Guard} → Compares g → IsGuard ws at g →
    passing (take count values) g ≡ false → SayBody f ws at left values count k free area (Ok k) values area
unfolding IfOk outcome
say_fails {f} {values} {count} {k} {area} z gathered {g} t i e = record {
  unchanged = unchanged_self;
  gathering = gathered;
  kept = kept_self;
  means = record {
    says = λ b h.
        let c = compared f (take count values) z t i h in
        c.gathers (rows_in area) k
        ∙ second_of (passing (take count values) g) (gathering f c.rest (take count values) (rows_in area)) (λ j. done (rows_in area) j) k (done (rows_in area) k) e refl;
  };
}

-- said of values that those in scope had already before
pub body_since : {f : From} {ws : List ℕ} {at left : ℕ} {first values : List ℕ} {count k free : ℕ} {entry : List ℕ} {r : Outcome ℕ Refusal} {later area : List ℕ} → Unchanged count first values →
    SayBody f ws at left values count k free entry r later area → SayBody f ws at left first count k free entry r later area
body_since {f} {ws} {at} {left} {count} {k} {entry} {r} {area} u s = record {
  unchanged = unchanged_then u s.unchanged;
  gathering = s.gathering;
  kept = s.kept;
  means = subst (λ (vs : Values). MeansBody f ws at left count vs k (rows_in entry) (outcome (rows_in area) r)) u.front s.means;
}

-- ---- an area that was lent from `free` on, and given back

pub record Back (area : List ℕ) (free : ℕ) (back : List ℕ) : Type 0 where
  pub size : length back ≡ length area
  pub front : SameFront area back
  pub kept : Kept free area back

pub given_back_lem : (area : List ℕ) (free : ℕ) (ys : List ℕ) (inside : free ≤ length area) → 642 ≤ free → (size : length ys ≡ length (take (length area - free) (drop free area))) →
    Back area free (given_back area free ys inside size)
given_back_lem area free ys inside behind size = record { size = back_length area free ys inside size; front = back_front area free ys inside size behind; kept = back_kept area free ys inside size }

-- the rows gathered are still there
pub back_rows : {area : List ℕ} {free : ℕ} {back : List ℕ} → Back area free back → Gathering area → rows_in back ≡ rows_in area
back_rows o g = rows_same o.front g.filled.sound

-- ---- an absent guard

module _ {f : From} {ws : List ℕ} {at left : ℕ} {values : List ℕ} {count : ℕ} {area : List ℕ} {free : ℕ} (q : AskAbsent f ws at left values count area free) where
  pub absent_row : SomeRow ws at
  absent_row = record { n = count; ts = q.r; here = q.here.row }

  pub absent_room : free + 642 ≤ length area
  absent_room = let r = q.room in omega (arith, some_room q.e)

  pub absent_inside : free ≤ length area
  absent_inside = omega (arith, absent_room)

  -- the area again, where `ys` was left in the part that was lent
  pub absent_back : (ys : List ℕ) (size : length ys ≡ length (take (length area - free) (drop free area))) → Back area free (given_back area free ys absent_inside size)
  absent_back ys size = given_back_lem area free ys absent_inside q.ask.behind size

  module _ {operand : ℕ} (past : PastRow ws at operand) where
    pub some_tested : SomeExpr ws operand
    some_tested = record { scope = scope_in f; n = count; e = q.e; here = operand_here past q.here }

    pub operand_later : length ws - operand < length ws - at
    operand_later =
        let e = past.past count q.r q.here.row in
        omega (arith, row_length q.r, inside (operand_here past q.here))

    pub ask_has : AskHas f ws operand at values count (take (length area - free) (drop free area))
    ask_has =
        let r = q.room in
        let l = part_length free area absent_inside in
        record {
          ask = record { sound = q.ask.sound; bound = q.ask.bound; e = q.e; here = operand_here past q.here; room = omega arith };
          ts = q.r;
          tested = q.here.row;
        }

    pub rest_after : {rest : ℕ} → PastExpr ws operand rest → at < rest
    rest_after next = let e = over_is past q.here next in omega (arith, expr_some q.e count)

    pub ask_absent_rest : {rest : ℕ} {later back : List ℕ} {scope : ℕ} → PastExpr ws operand rest → Unchanged count values later → scope ≡ count → Back area free back →
        AskBody f ws rest left later scope back free
    ask_absent_rest {rest} {later} {back} next u same o =
        let r = q.rest in
        let l = o.size in
        subst (λ (n : ℕ). AskBody f ws rest left later n back free) (sym same)
        (record {
          ask = record { sound = q.ask.sound; bound = bound_after u q.ask.bound; gathering = gathering_same o.front q.ask.gathering; behind = q.ask.behind };
          b = q.b;
          here = over_here past q.here next;
          room = omega arith;
        })

-- what is read and then tested, by the test's answer
after_has : {A B : Type 0} (m : Result A) (h : A → Bool) (g : Bool → Reading B) → after m (λ s. g (h s)) ≡ after (after m (λ s i. done (h s) i)) g
unfolding after
after_has (done a k) h g = refl
after_has (refused n) h g = refl

module _ {f : From} {ws : List ℕ} {at left : ℕ} {values : List ℕ} {count k free : ℕ} {area : List ℕ} {operand : ℕ} (past : PastRow ws at operand) {later back : List ℕ} (b : Back area free back) where
  answered : {x : Outcome (Bool × ℕ) Refusal} → SayExprHas f ws operand at values count k x later → {t : List Term} {e : Expr} {c : Body} → StandsAbsent (scope_in f) count ws at left t e c →
      gathering f (absent t e c) (take count values) (rows_in area) k
      ≡ after (tested x) (λ y. either y (λ i. done (rows_in area) i) (gathering f c (take count values) (rows_in area)))
  unfolding read
  answered said {t} {e} {c} s =
      after_has (reading f e (take count values) k) (λ x. has x (row_of (take count values) t)) (λ y. either y (λ i. done (rows_in area) i) (gathering f c (take count values) (rows_in area)))
      ∙ ap (λ (a : Result Bool). after a (λ y. either y (λ i. done (rows_in area) i) (gathering f c (take count values) (rows_in area))))
      (said.means.says e (operand_here past s) t s.row)

  pub absent_refused : {x : Refusal} → SayExprHas f ws operand at values count k (Err x) later → SayAbsent f ws at left values count k free area (Err x) later back
  unfolding after tested IfOk outcome
  absent_refused said = record { unchanged = said.unchanged; gathering = tt; kept = b.kept; means = record { says = λ t e c s. answered said s } }

  module _ (g : Gathering area) {has : Bool} {j : ℕ} (said : SayExprHas f ws operand at values count k (Ok (has, j)) later) where
    answered_as : {y : Bool} → has ≡ y → {t : List Term} {e : Expr} {c : Body} → StandsAbsent (scope_in f) count ws at left t e c →
        gathering f (absent t e c) (take count values) (rows_in area) k ≡ either y (λ i. done (rows_in area) i) (gathering f c (take count values) (rows_in area)) j
    unfolding after tested
    answered_as is {t} {e} {c} s = answered said s ∙ ap (λ (y : Bool). either y (λ i. done (rows_in area) i) (gathering f c (take count values) (rows_in area)) j) is

    pub absent_has : has ≡ true → SayAbsent f ws at left values count k free area (Ok j) later back
    unfolding IfOk outcome
    absent_has is = record {
      unchanged = said.unchanged;
      gathering = gathering_same b.front g;
      kept = b.kept;
      means = record { says = λ t e c s. answered_as is s ∙ ap (λ (xs : List Row). done xs j) (sym (back_rows b g)) };
    }

    pub absent_lacks : {rest scope : ℕ} {r : Outcome ℕ Refusal} {last after : List ℕ} → has ≡ false → PastExpr ws operand rest → scope ≡ count →
        SayBody f ws rest left later scope j free back r last after → SayAbsent f ws at left values count k free area r last after
    absent_lacks {rest} {r = r} {last = last} {after = after} is next same s =
        let since = body_since said.unchanged (subst (λ (n : ℕ). SayBody f ws rest left later n j free back r last after) same s) in
        record {
          unchanged = since.unchanged;
          gathering = s.gathering;
          kept = kept_then b.kept s.kept;
          means = record {
            says = λ t e c w.
                answered_as is w ∙ ap (λ (xs : List Row). gathering f c (take count values) xs j) (sym (back_rows b g)) ∙ since.means.says c (over_here past w next);
          };
        }

-- ---- an operand that was read into the area from `free` on

pub record Operand (f : From) (ws : List ℕ) (at : ℕ) (values : List ℕ) (count k : ℕ) (area : List ℕ) (free : ℕ) (back : List ℕ) (j : ℕ) : Type 0 where
  pub lent : Back area free back
  pub filled : Filled (drop free back)
  pub means : Means f ws at count (take count values) k (done (set_in (drop free back)) j)

pub operand : (area : List ℕ) (free : ℕ) {ys : List ℕ} (inside : free ≤ length area) → 642 ≤ free → (size : length ys ≡ length (take (length area - free) (drop free area))) →
    {f : From} {ws : List ℕ} {at : ℕ} {values : List ℕ} {count k : ℕ} {later : List ℕ} {j : ℕ} → SayExpr f ws at values count k (Ok j) later ys →
    Operand f ws at values count k area free (given_back area free ys inside size) j
operand area free {ys} inside behind size {f} {ws} {at} {values} {count} {k} {later} {j} s =
    let b : drop free (given_back area free ys inside size) ≡ ys = back_part area free ys inside size in
    record {
      lent = given_back_lem area free ys inside behind size;
      filled = subst Filled (sym b) (done_filled s);
      means = subst (λ (l : List ℕ). Means f ws at count (take count values) k (done (set_in l) j)) (sym b) (done_means s);
    }
