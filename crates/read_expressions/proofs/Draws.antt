-- The reader of a draw, and the loop over the rows of the drawn set.
use Prim.Native.Nat.{ℕ, zero, suc, ◌+◌, ◌-◌, ◌≤◌, ◌<◌}
use mathlib.Core.Path.{◌≡◌, refl, sym, ap, subst, ◌∙◌}
use mathlib.Core.List.{List}
use native.Mathlib.Omega.{arith}
use lib.ListN.{length, take, drop, get_or, length-drop, drop_of_length-le}
use lib.Seq.{get_or-drop}
use Rattle.rows.specs.Row.{Row}
use Rattle.rows.specs.Sets.{RowSet, only, all_but}
use Rattle.rows.specs.Layout.{rows_in, formed, set_in}
use Rattle.rows.proofs.LayoutLaws.{rows_count}
use Rattle.policy.specs.Syntax.{Slot, Body}
use Rattle.policy.specs.Words.{fresh}
use Rattle.meaning.specs.Values.{Values}
use Rattle.meaning.specs.Reading.{Result, done, refused, drawable, draw_each, read}
use Rattle.read_values.specs.Values.{Bound, Unchanged}
use Rattle.policy_places.specs.Places.{StandsPattern, StandsBody, SomeExpr, SomePattern, PastExpr, PastPattern}
use Rattle.read_values.specs.Answers.{Filled}
use Rattle.read_values.specs.Outcomes.{outcome, IfOk}
use Rattle.read_values.specs.From.{From, scope_in}
use Rattle.read_steps.specs.Areas.{Gathering, Kept}
use Rattle.read_steps.specs.Steps.{SayDrawn}
use Rattle.read_expressions.specs.Readers.{gathering, MeansEach, AskExpr, AskBody, AskDraw, AskEach, SayExpr, SayBody, SayDraw, SayEach}
use Rattle.policy_places.proofs.Places.{expr_some, inside, slots_scope}
use Rattle.policy_places.proofs.Past.{pattern_here, rest_is, rest_here}
use Rattle.read_values.proofs.Unchanged.{unchanged_self, unchanged_then, unchanged_less, bound_after}
use Rattle.sets.proofs.Front.{SameFront, rows_same}
use Rattle.read_steps.proofs.Areas.{filled_same, gathering_same, finite_set, kept_self, kept_less, kept_then, kept_part, given_back, back_kept, part_length, part_whole}
use Rattle.read_expressions.proofs.Exprs.{after_done, after_refused, refused_means, some_room}
use Rattle.read_expressions.proofs.Guards.{Operand, operand, back_rows}
use Rattle.read_steps.proofs.Drawing.{drawn_since, drawn_ahead, drawn_inside, drawn_scope, drawn_row, end_scope, drawn_end, refused_scope, drawn_refused}
use Rattle.read_steps.specs.declared.Drawn as Drawn
use Rattle.std.specs.Prelude.{Result as Outcome, Ok, Err}
use Rattle.refusals.specs.Numbers.{number}
use Rattle.refusals.specs.declared.Refusal.{Refusal}
use Rattle.refusals.specs.declared.Refusal.TheVariants.{ComplementDrawn}

-- ---- the loop: whatever the rows left lead to from here, all lead to from the start

pub record Drawing (f : From) (ws : List ℕ) (pattern rest left : ℕ) (first : List ℕ) (count k free : ℕ) (entry : List ℕ) (listed : ℕ) (values : List ℕ) (scope : ℕ) (area : List ℕ) (used i : ℕ) : Type 0 where
  pub asked : AskEach f ws pattern rest left first count entry free
  pub all : length (rows_in (drop free entry)) ≡ listed
  pub within : i ≤ listed
  pub size : length area ≡ length entry
  pub unchanged : Unchanged count first values
  pub same : scope ≡ count
  pub gathering : Gathering area
  pub kept : Kept (free + 642) entry area
  pub means : (a : Result (List Row)) → MeansEach f ws pattern rest left count (take count first) (drop i (rows_in (drop free entry))) used (rows_in area) a →
      MeansEach f ws pattern rest left count (take count first) (rows_in (drop free entry)) k (rows_in entry) a

module _ {f : From} {ws : List ℕ} {pattern rest left : ℕ} {values : List ℕ} {count : ℕ} {entry : List ℕ} {free : ℕ} (q : AskEach f ws pattern rest left values count entry free) where
  pub each_room : free + 642 ≤ length entry
  each_room = let l = q.drawn.long in omega (arith, length-drop free entry)

  pub each_slots : SomePattern count ws pattern
  each_slots = record { p = q.p; here = q.slots }

  pub drawing_start : {k listed : ℕ} → listed ≡ get_or entry (free + 1) 0 → Drawing f ws pattern rest left values count k free entry listed values count entry k 0
  drawing_start e = record {
    asked = q;
    all = rows_count (drop free entry) ∙ get_or-drop free entry 1 0 ∙ sym e;
    within = omega arith;
    size = refl;
    unchanged = unchanged_self;
    same = refl;
    gathering = q.ask.gathering;
    kept = kept_self;
    means = λ a g. g;
  }

module _ {f : From} {ws : List ℕ} {pattern rest left : ℕ} {first : List ℕ} {count k free : ℕ} {entry : List ℕ} {listed : ℕ} {values : List ℕ} {scope : ℕ} {now : List ℕ} {used i : ℕ}
    (d : Drawing f ws pattern rest left first count k free entry listed values scope now used i) where
  drawn_front : SameFront (drop free entry) (drop free now)
  drawn_front = kept_part d.asked.ask.behind d.size (each_room d.asked) d.kept

  pub now_room : free + 642 ≤ length now
  now_room = let s = d.size in let r = each_room d.asked in omega arith

  -- the set is lent as a part of the area
  pub ask_next : Bound values scope × SomePattern scope ws pattern × Filled (take (length now - free) (drop free now))
  ask_next = (
    subst (λ (n : ℕ). Bound values n) (sym d.same) (bound_after d.unchanged d.asked.ask.bound),
    subst (λ (n : ℕ). SomePattern n ws pattern) (sym d.same) (each_slots d.asked),
    subst Filled (sym (part_whole free now)) (filled_same drawn_front d.asked.drawn),
  )

  pub each_done : listed ≤ i → SayEach f ws pattern rest left first count k free entry (Ok used) values now
  unfolding IfOk outcome draw_each
  each_done h = record {
    unchanged = d.unchanged;
    gathering = d.gathering;
    kept = kept_less (omega arith) d.kept;
    means = d.means (done (rows_in now) used) (record { says = λ p b s w. rw (drop_of_length-le (rows_in (drop free entry)) {i = i} (omega (arith, d.all))) });
  }

  -- said of the rows and of the values that were there at the start
  since : {r : Outcome Drawn.Drawn Refusal} {later : List ℕ} {wider : ℕ} → SayDrawn f.format ws pattern values scope (rows_in (take (length now - free) (drop free now))) i used r later wider →
      SayDrawn f.format ws pattern first count (rows_in (drop free entry)) i used r later wider
  since {r} {later} {wider} said =
      let rows : rows_in (take (length now - free) (drop free now)) ≡ rows_in (drop free entry) = ap rows_in (part_whole free now) ∙ rows_same drawn_front d.asked.drawn.sound in
      drawn_since d.unchanged (subst (λ (n : ℕ). SayDrawn f.format ws pattern values n (rows_in (drop free entry)) i used r later wider) d.same
      (subst (λ (xs : List Row). SayDrawn f.format ws pattern values scope xs i used r later wider) rows said))

  module _ {later : List ℕ} {wider : ℕ} where
    module _ {x : Refusal} (said : SayDrawn f.format ws pattern values scope (rows_in (take (length now - free) (drop free now))) i used (Err x) later wider) where
      pub each_refused : SayEach f ws pattern rest left first count k free entry (Err x) later now
      unfolding IfOk outcome
      each_refused = record {
        unchanged = (since said).unchanged;
        gathering = tt;
        kept = kept_less (omega arith) d.kept;
        means = d.means (refused (number x)) (record { says = λ p b s w. drawn_refused (since said) s (gathering f b) (rows_in now) });
      }

      pub refused_same : wider ≡ count
      refused_same = refused_scope (since said) d.asked.slots

    module _ {j : ℕ} (said : SayDrawn f.format ws pattern values scope (rows_in (take (length now - free) (drop free now))) i used (Ok (Drawn.TheVariants.End j)) later wider) where
      pub each_ended : SayEach f ws pattern rest left first count k free entry (Ok j) later now
      unfolding IfOk outcome
      each_ended = record {
        unchanged = (since said).unchanged;
        gathering = d.gathering;
        kept = kept_less (omega arith) d.kept;
        means = d.means (done (rows_in now) j) (record { says = λ p b s w. drawn_end (since said) s (gathering f b) (rows_in now) });
      }

      pub ended_same : wider ≡ count
      ended_same = end_scope (since said) d.asked.slots

    module _ {next one : ℕ} (said : SayDrawn f.format ws pattern values scope (rows_in (take (length now - free) (drop free now))) i used (Ok (Drawn.TheVariants.Matches next one)) later wider) where
      scope_is : {p : List Slot} → StandsPattern count ws pattern p → wider ≡ count + fresh p
      scope_is s = drawn_scope (since said) s

      body_here : {p : List Slot} {b : Body} → StandsPattern count ws pattern p → StandsBody (scope_in f) (count + fresh p) ws rest left b → StandsBody (scope_in f) wider ws rest left b
      body_here {p} {b} s w = subst (λ (n : ℕ). StandsBody (scope_in f) n ws rest left b) (sym (scope_is s)) w

      pub each_body : AskBody f ws rest left later wider now (free + 642)
      each_body =
          let c = scope_is d.asked.slots in
          let r = d.asked.room in
          let b = d.asked.ask.behind in
          let s = d.size in
          let u = bound_after (since said).unchanged d.asked.ask.bound in
          record {
            ask = record {
              sound = d.asked.ask.sound;
              bound = record { scope = omega (arith, slots_scope count d.asked.p d.asked.ask.bound.scope d.asked.slots.fit.slots); long = u.long };
              gathering = d.gathering;
              behind = omega arith;
            };
            b = d.asked.b;
            here = body_here d.asked.slots d.asked.here;
            room = omega arith;
          }

      pub each_nearer : listed - next < listed - i
      each_nearer = let a = drawn_ahead (since said) in let n = drawn_inside (since said) in omega (arith, d.all)

      module _ {last after : List ℕ} where
        then_still : {o : Outcome ℕ Refusal} → SayBody f ws rest left later wider one (free + 642) now o last after → Unchanged count first last
        then_still s = let c = scope_is d.asked.slots in unchanged_then (since said).unchanged (unchanged_less (omega arith) s.unchanged)

        pub drawing_on : {j : ℕ} → SayBody f ws rest left later wider one (free + 642) now (Ok j) last after → length after ≡ length now →
            Drawing f ws pattern rest left first count k free entry listed last count after j next
        unfolding IfOk outcome
        drawing_on {j} s l =
            let n = drawn_inside (since said) in
            record {
              asked = d.asked;
              all = d.all;
              within = omega (arith, d.all);
              size = l ∙ d.size;
              unchanged = then_still s;
              same = refl;
              gathering = s.gathering;
              kept = kept_then d.kept s.kept;
              means = λ a m. d.means a (record { says = λ p b t w. drawn_row (since said) t (gathering f b) (rows_in now) ∙ after_done _ (s.means.says b (body_here t w)) (m.says p b t w) });
            }

        pub each_body_refused : {x : Refusal} → SayBody f ws rest left later wider one (free + 642) now (Err x) last after → SayEach f ws pattern rest left first count k free entry (Err x) last after
        unfolding IfOk outcome
        each_body_refused {x} s =
            record {
              unchanged = then_still s;
              gathering = tt;
              kept = kept_less (omega arith) (kept_then d.kept s.kept);
              means = d.means (refused (number x)) (record { says = λ p b t w. drawn_row (since said) t (gathering f b) (rows_in now) ∙ after_refused _ (s.means.says b (body_here t w)) });
            }

-- ---- a draw: its operand, then its rows

first_word : (free : ℕ) (a : List ℕ) → get_or (drop free a) 0 0 ≡ get_or a free 0
first_word free a = let e : free + 0 ≡ free = omega arith in get_or-drop free a 0 0 ∙ ap (λ (k : ℕ). get_or a k 0) e

complement : (n : ℕ) (xs : List Row) → (n ≡ 0 → ⊥) → formed n xs ≡ all_but xs
unfolding formed
complement zero xs h = absurd (h refl)
complement (suc n) xs h = refl

module _ {f : From} {ws : List ℕ} {at left : ℕ} {values : List ℕ} {count : ℕ} {area : List ℕ} {free : ℕ} (q : AskDraw f ws at left values count area free) where
  pub some_operand : SomeExpr ws at
  some_operand = record { scope = scope_in f; n = count; e = q.e; here = q.here.operand }

  pub draw_room : free + 642 ≤ length area
  draw_room = let r = q.room in omega (arith, some_room q.e)

  pub draw_inside : free ≤ length area
  draw_inside = omega (arith, draw_room)

  pub ask_operand : AskExpr f ws at values count (take (length area - free) (drop free area))
  ask_operand =
      let r = q.room in
      let l = part_length free area draw_inside in
      record { sound = q.ask.sound; bound = q.ask.bound; e = q.e; here = q.here.operand; room = omega arith }

  module _ {ys : List ℕ} (size : length ys ≡ length (take (length area - free) (drop free area))) {k : ℕ} {later : List ℕ} where
    pub drawn : {j : ℕ} → SayExpr f ws at values count k (Ok j) later ys → Operand f ws at values count k area free (given_back area free ys draw_inside size) j
    drawn s = operand area free draw_inside q.ask.behind size s

    pub draw_refused : {x : Refusal} → SayExpr f ws at values count k (Err x) later ys → SayDraw f ws at left values count k free area (Err x) later (given_back area free ys draw_inside size)
    unfolding read IfOk outcome
    draw_refused s = record {
      unchanged = s.unchanged;
      gathering = tt;
      kept = back_kept area free ys draw_inside size;
      means = record { says = λ x p b h. after_refused _ ((refused_means s).says x h.operand) };
    }

  module _ {pattern : ℕ} (past : PastExpr ws at pattern) where
    pub some_pattern : SomePattern count ws pattern
    some_pattern = record { p = q.p; here = pattern_here past q.here }

    pub draw_later : {rest : ℕ} → PastPattern ws pattern rest → length ws - rest < length ws - at
    draw_later next = let e = rest_is past q.here next in omega (arith, expr_some q.e count, inside q.here.operand)

  module _ {k : ℕ} {later back : List ℕ} {before : ℕ} (u : Unchanged count values later) (o : Operand f ws at values count k area free back before) where
    pub draw_complement : (get_or back free 0 ≡ 0 → ⊥) → SayDraw f ws at left values count k free area (Err ComplementDrawn) later back
    unfolding read IfOk outcome drawable set_in
    draw_complement h =
        let w : set_in (drop free back) ≡ all_but (rows_in (drop free back)) = complement (get_or (drop free back) 0 0) (rows_in (drop free back)) (λ e. h (sym (first_word free back) ∙ e)) in
        record {
          unchanged = u;
          gathering = tt;
          kept = o.lent.kept;
          means = record { says = λ e p b s. after_done _ (o.means.says e s.operand) (after_refused _ (ap (λ (x : RowSet). drawable x before) w)) };
        }

    module _ {pattern rest : ℕ} (past : PastExpr ws at pattern) (next : PastPattern ws pattern rest) where
      pub ask_each : {scope : ℕ} → scope ≡ count → AskEach f ws pattern rest left later scope back free
      ask_each same =
          let l = o.lent.size in
          let r = q.rest in
          let asked : AskEach f ws pattern rest left later count back free = record {
            ask = record { sound = q.ask.sound; bound = bound_after u q.ask.bound; gathering = gathering_same o.lent.front q.ask.gathering; behind = q.ask.behind };
            p = q.p;
            b = q.b;
            slots = pattern_here past q.here;
            here = rest_here past q.here next;
            drawn = o.filled;
            room = omega arith;
          } in
          subst (λ (n : ℕ). AskEach f ws pattern rest left later n back free) (sym same) asked

      -- what its rows lead to is what the draw leads to
      pub say_each : get_or back free 0 ≡ 0 → {r : Outcome ℕ Refusal} {last after : List ℕ} {scope : ℕ} → scope ≡ count → SayEach f ws pattern rest left later scope before free back r last after →
          SayDraw f ws at left values count k free area r last after
      unfolding read drawable
      say_each z {r} {last} {after} same said =
          let g = subst (λ (n : ℕ). SayEach f ws pattern rest left later n before free back r last after) same said in
          let w : set_in (drop free back) ≡ only (rows_in (drop free back)) = finite_set (drop free back) (first_word free back ∙ z) in
          let stay : rows_in back ≡ rows_in area = back_rows o.lent q.ask.gathering in
          let means : MeansEach f ws pattern rest left count (take count values) (rows_in (drop free back)) before (rows_in area) (outcome (rows_in after) r) =
          subst (λ (vs : Values). MeansEach f ws pattern rest left count vs (rows_in (drop free back)) before (rows_in area) (outcome (rows_in after) r)) u.front
          (subst (λ (found : List Row). MeansEach f ws pattern rest left count (take count later) (rows_in (drop free back)) before found (outcome (rows_in after) r)) stay g.means) in
          record {
            unchanged = unchanged_then u g.unchanged;
            gathering = g.gathering;
            kept = kept_then o.lent.kept g.kept;
            means = record {
              says = λ e p b s.
                  after_done _ (o.means.says e s.operand) (after_done _ (ap (λ (x : RowSet). drawable x before) w) (means.says p b (pattern_here past s) (rest_here past s next)));
            };
          }
