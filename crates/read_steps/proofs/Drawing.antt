-- Rows drawn in turn until one matches.
use Prim.Native.Nat.{ℕ, suc, ◌+◌, ◌*◌, ◌≤◌, ◌<◌}
use mathlib.Core.Path.{◌≡◌, refl, sym, ap, subst, ◌∙◌}
use mathlib.Core.Bool.{Bool, true, false}
use mathlib.Core.List.{List, []}
use mathlib.Core.Option.{Option, none, some}
use native.Mathlib.Numerals.{add-one}
use native.Mathlib.Omega.{arith}
use lib.ListN.{length, take, drop, get_or, drop_of_length-le}
use lib.Seq.{drop-cons}
use Rattle.rows.specs.Row.{Row}
use Rattle.rows.specs.Layout.{five_at, row_in, rows_in}
use Rattle.rows.proofs.LayoutLaws.{true_sound, rows_count, row_at}
use Rattle.sets.proofs.SetWords.{width_at}
use Rattle.policy.specs.Syntax.{Slot}
use Rattle.policy.specs.Words.{fresh}
use Rattle.meaning.specs.Values.{Values}
use Rattle.meaning.specs.Matching.{match}
use Rattle.meaning.specs.Reading.{Result, done, refused, Reading, after, tick, on_match, draw_each}
use Rattle.read_values.specs.Values.{Bound, Unchanged}
use Rattle.policy_places.specs.Places.{StandsPattern, SomePattern}
use Rattle.read_values.specs.Answers.{Filled}
use Rattle.read_values.proofs.Unchanged.{unchanged_self, unchanged_then, bound_after}
use Rattle.read_steps.specs.Steps.{matched_is, drawn_is, Among, InScope, SayMatch, SayDrawn}
use Rattle.std.specs.Prelude.{Result as Outcome, Ok, Err}
use Rattle.refusals.specs.Numbers.{number}
use Rattle.refusals.specs.declared.Refusal.{Refusal}
use Rattle.read_steps.specs.declared.Drawn as Drawn

-- ---- what a caller has from it

module _ {format : ℕ} {ws : List ℕ} {at : ℕ} {values : List ℕ} {count : ℕ} {xs : List Row} {i k : ℕ} {r : Outcome Drawn.Drawn Refusal} {later : List ℕ} {scope : ℕ} where
  -- said of values that those in scope had already before
  pub drawn_since : {first : List ℕ} → Unchanged count first values → SayDrawn format ws at values count xs i k r later scope → SayDrawn format ws at first count xs i k r later scope
  drawn_since u s = record {
    unchanged = unchanged_then u s.unchanged;
    among = s.among;
    scope = s.scope;
    means = λ p h rest found.
        subst (λ (vs : Values). draw_each format rest p vs (drop i xs) found k ≡ drawn_is format r later scope rest p vs xs found) u.front (s.means p h rest found);
  }

module _ {format : ℕ} {ws : List ℕ} {at : ℕ} {values : List ℕ} {count : ℕ} {xs : List Row} {i k : ℕ} {later : List ℕ} {scope : ℕ} where
  -- said of what a `match` told
  pub drawn_told : {d e : Drawn.Drawn} → d ≡ e → SayDrawn format ws at values count xs i k (Ok d) later scope → SayDrawn format ws at values count xs i k (Ok e) later scope
  drawn_told h s = subst (λ (x : Drawn.Drawn). SayDrawn format ws at values count xs i k (Ok x) later scope) h s

  module _ {next draws : ℕ} (s : SayDrawn format ws at values count xs i k (Ok (Drawn.TheVariants.Matches next draws)) later scope) where
    drawn_among : (i < next) × (next ≤ length xs)
    unfolding Among
    drawn_among = s.among

    pub drawn_ahead : i < next
    drawn_ahead = drawn_among.0

    pub drawn_inside : next ≤ length xs
    drawn_inside = drawn_among.1

    pub drawn_scope : {p : List Slot} → StandsPattern count ws at p → scope ≡ count + fresh p
    unfolding InScope
    drawn_scope {p} h = s.scope p h

    pub drawn_row : {p : List Slot} → StandsPattern count ws at p → (rest : Values → List Row → Reading (List Row)) (found : List Row) →
        draw_each format rest p (take count values) (drop i xs) found k ≡ after (rest (take scope later) found draws) (λ more. draw_each format rest p (take count values) (drop next xs) more)
    unfolding drawn_is
    drawn_row {p} h rest found = s.means p h rest found

  module _ {draws : ℕ} (s : SayDrawn format ws at values count xs i k (Ok (Drawn.TheVariants.End draws)) later scope) {p : List Slot} (h : StandsPattern count ws at p) where
    pub end_scope : scope ≡ count
    unfolding InScope
    end_scope = s.scope p h

    pub drawn_end : (rest : Values → List Row → Reading (List Row)) (found : List Row) → draw_each format rest p (take count values) (drop i xs) found k ≡ done found draws
    unfolding drawn_is
    drawn_end rest found = s.means p h rest found

  module _ {x : Refusal} (s : SayDrawn format ws at values count xs i k (Err x) later scope) {p : List Slot} (h : StandsPattern count ws at p) where
    pub refused_scope : scope ≡ count
    unfolding InScope
    refused_scope = s.scope p h

    pub drawn_refused : (rest : Values → List Row → Reading (List Row)) (found : List Row) → draw_each format rest p (take count values) (drop i xs) found k ≡ refused (number x)
    unfolding drawn_is
    drawn_refused rest found = s.means p h rest found

-- ---- one draw

module _ (format : ℕ) (rest : Values → List Row → Reading (List Row)) (p : List Slot) (vs : Values) (xs found : List Row) (k i : ℕ) (inside : i < length xs) where
  draw_due : {a : Result (Unit {0})} → tick k ≡ a →
      draw_each format rest p vs (drop i xs) found k ≡ after a (λ _. λ j. after (on_match rest found (match format p vs (get_or xs i [])) j) (λ more. draw_each format rest p vs (drop (i + 1) xs) more))
  unfolding draw_each
  draw_due h =
      rw (drop-cons xs i [] inside, add-one)
      (ap (λ (a : Result (Unit {0})). after a (λ _. λ j. after (on_match rest found (match format p vs (get_or xs i [])) j) (λ more. draw_each format rest p vs (drop (suc i) xs) more))) h)

  draw_limit : {n : ℕ} → tick k ≡ refused n → draw_each format rest p vs (drop i xs) found k ≡ refused n
  unfolding after
  draw_limit h = draw_due h

  draw_one : {one : ℕ} → tick k ≡ done tt one → (o : Option Values) → match format p vs (get_or xs i []) ≡ o →
      draw_each format rest p vs (drop i xs) found k ≡ after (on_match rest found o one) (λ more. draw_each format rest p vs (drop (i + 1) xs) more)
  unfolding after
  draw_one {one} h o m = draw_due h ∙ ap (λ (o : Option Values). after (on_match rest found o one) (λ more. draw_each format rest p vs (drop (i + 1) xs) more)) m

-- ---- the loop: what the rows left lead to from here, all lead to from the start

pub record Seeking (format : ℕ) (ws : List ℕ) (at : ℕ) (first : List ℕ) (count k : ℕ) (set : List ℕ) (i : ℕ) (values : List ℕ) (scope used j : ℕ) : Type 0 where
  pub filled : Filled set
  pub ahead : i ≤ j
  pub unchanged : Unchanged count first values
  pub same : scope ≡ count
  pub means : (p : List Slot) → StandsPattern count ws at p → (rest : Values → List Row → Reading (List Row)) (found : List Row) →
      draw_each format rest p (take count first) (drop i (rows_in set)) found k ≡ draw_each format rest p (take count first) (drop j (rows_in set)) found used

pub seeking_start : {format : ℕ} {ws : List ℕ} {at : ℕ} {values : List ℕ} {count k : ℕ} {set : List ℕ} {i : ℕ} → Filled set → Seeking format ws at values count k set i values count k i
seeking_start f = record {
  filled = f;
  ahead = omega arith;
  unchanged = unchanged_self;
  same = refl;
  means = λ p s rest found. refl;
}

module _ {format : ℕ} {ws : List ℕ} {at : ℕ} {first : List ℕ} {count k : ℕ} {set : List ℕ} {i : ℕ} {values : List ℕ} {scope used j : ℕ}
    (d : Seeking format ws at first count k set i values scope used j) where
  -- a row is asked for by the values then
  pub ask_row : Bound first count → SomePattern count ws at → Bound values scope × SomePattern scope ws at
  ask_row b p = subst (λ (n : ℕ). Bound values n × SomePattern n ws at) (sym d.same) (bound_after d.unchanged b, p)

  pub seeking_end : get_or set 1 0 ≤ j → SayDrawn format ws at first count (rows_in set) i k (Ok (Drawn.TheVariants.End used)) values scope
  unfolding drawn_is Among InScope draw_each
  seeking_end h = record {
    unchanged = d.unchanged;
    among = tt;
    scope = λ p s. d.same;
    means = λ p s rest found.
        d.means p s rest found
        ∙ ap (λ (ys : List Row). draw_each format rest p (take count first) ys found used) (drop_of_length-le (rows_in set) {i = j} (omega (arith, rows_count set)));
  }

  module _ (less : j < get_or set 1 0) where
    inside_rows : j < length (rows_in set)
    inside_rows = omega (arith, rows_count set)

    pub row_inside : 2 + 5 * j + 5 ≤ length set
    row_inside =
        let n = (true_sound set d.filled.sound).count in
        let l = d.filled.long in
        omega arith

    pub row_narrow : get_or set (2 + 5 * j) 0 ≤ 4
    row_narrow = width_at (get_or set 1 0) set j (true_sound set d.filled.sound).pieces less

    row_is_lem : row_in (five_at set (2 + 5 * j)) ≡ get_or (rows_in set) j []
    row_is_lem = sym (row_at set j less)

    pub seeking_limit : {x : Refusal} → tick used ≡ refused (number x) → SayDrawn format ws at first count (rows_in set) i k (Err x) values scope
    unfolding drawn_is Among InScope
    seeking_limit many = record {
      unchanged = d.unchanged;
      among = tt;
      scope = λ p s. d.same;
      means = λ p s rest found. d.means p s rest found ∙ draw_limit format rest p (take count first) (rows_in set) found used j inside_rows many;
    }

    module _ {one : ℕ} (drawn : tick used ≡ done tt one) {ok : Bool} {later : List ℕ} {wider : ℕ}
        (match_said : SayMatch format ws at values scope (row_in (five_at set (2 + 5 * j))) ok later wider) where
      said : SayMatch format ws at values count (row_in (five_at set (2 + 5 * j))) ok later wider
      said = subst (λ (n : ℕ). SayMatch format ws at values n (row_in (five_at set (2 + 5 * j))) ok later wider) d.same match_said

      still : Unchanged count first later
      still = unchanged_then d.unchanged said.unchanged

      matched : {p : List Slot} → StandsPattern count ws at p → match format p (take count first) (get_or (rows_in set) j []) ≡ matched_is ok later wider
      matched {p} s =
          ap (λ (x : Row). match format p (take count first) x) (sym row_is_lem)
          ∙ ap (λ (vs : Values). match format p vs (row_in (five_at set (2 + 5 * j)))) (sym d.unchanged.front) ∙ said.means p s

      pub seeking_miss : ok ≡ false → Seeking format ws at first count k set i later wider one (j + 1)
      unfolding matched_is on_match after
      seeking_miss ko =
          let a = d.ahead in
          record {
            filled = d.filled;
            ahead = omega arith;
            unchanged = still;
            same = said.back ko;
            means = λ p s rest found. d.means p s rest found ∙ draw_one format rest p (take count first) (rows_in set) found used j inside_rows drawn none (matched s ∙ rw ko);
          }

      pub seeking_hit : ok ≡ true → SayDrawn format ws at first count (rows_in set) i k (Ok (Drawn.TheVariants.Matches (j + 1) one)) later wider
      unfolding matched_is on_match drawn_is Among InScope
      seeking_hit it =
          let a = d.ahead in
          let l = inside_rows in
          record {
            unchanged = still;
            among = (omega arith, omega arith);
            scope = λ p s. said.scope p s it;
            means = λ p s rest found.
                d.means p s rest found
                ∙ draw_one format rest p (take count first) (rows_in set) found used j inside_rows drawn (some (take wider later)) (matched s ∙ rw it);
          }
