-- Every set that is read lists rows alone, in ascending order, at most 128 of them: it has a layout.
use Prim.Native.Nat.{ℕ, ◌+◌, ◌≤◌}
use mathlib.Core.Path.{◌≡◌, refl, subst}
use mathlib.Core.Bool.{Bool, true, false}
use mathlib.Core.Option.{Option, none, some}
use mathlib.Core.List.{List, [], ◌∷◌}
use native.Mathlib.Omega.{arith}
use lib.Dec.{eqb}
use lib.ListN.{length}
use Rattle.rows.specs.Word.{All, IsWord, Words}
use Rattle.rows.specs.Ordered.{insert}
use Rattle.rows.specs.Row.{Row, IsRow, row_before}
use Rattle.rows.specs.Sets.{RowSet, only, listing, Proper, most_rows, has, unite, subtract}
use Rattle.rows.proofs.Lists.{all_left, all_right}
use Rattle.rows.proofs.Sets.{none_proper, insert_proper, unite_proper, subtract_proper}
use Rattle.policy.specs.OwnKey.{Scope}
use Rattle.policy.specs.Syntax.{Slot, Expr, leaf, union, difference, comprehension, Body, head, draw, same, different, absent}
use Rattle.policy.specs.Words.{term_words, term_row_words, slot_words, fresh, expr_words, body_words}
use Rattle.policy.specs.WellFormed.{Fit, FitBody}
use Rattle.meaning.specs.Values.{Values, value, row_of}
use Rattle.meaning.specs.Evidence.{Evidence}
use Rattle.meaning.specs.Matching.{match}
use Rattle.meaning.specs.Reading.{done, Reading, drawable, tick, on_match, draw_each, read, gather}
use Rattle.meaning.specs.Faithful.{Tidy, ProperNames, TidySets, WheneverRead}
use Rattle.meaning.proofs.Steps.{done_value, after_done, either, within_done, drawable_done}
use Rattle.meaning.proofs.Rows.{row_of_terms}
use Rattle.meaning.proofs.Matching.{match_words}
use Rattle.meaning.proofs.Claims.{small_tidy}
use Rattle.meaning.proofs.Leaf.{leaf_tidy}

pub record TidyRows (xs : List Row) : Type 0 where
  pub proper : Proper xs
  pub few : length xs ≤ most_rows

-- what a step adds to the rows found so far keeps them tidy
abbrev Keeps : (List Row → Reading (List Row)) → Type 0
Keeps f = (acc : List Row) (k : ℕ) (found : List Row) (j : ℕ) → TidyRows acc → f acc k ≡ done found j → TidyRows found

give_tidy : (acc found : List Row) (k j : ℕ) → TidyRows acc → done acc k ≡ done found j → TidyRows found
give_tidy acc found k j a e = subst TidyRows (done_value e) a

either_tidy : (b : Bool) (m n : Reading (List Row)) (k : ℕ) (found : List Row) (j : ℕ) → (m k ≡ done found j → TidyRows found) → (n k ≡ done found j → TidyRows found) →
    either b m n k ≡ done found j → TidyRows found
either_tidy true m n k found j f g e = f e
either_tidy false m n k found j f g e = g e

module _ (format : ℕ) (rest : Values → List Row → Reading (List Row)) (keeps : (ws : Values) → Words ws → Keeps (rest ws)) where
  on_match_tidy : (o : Option Values) → ((ws : Values) → o ≡ some ws → Words ws) → Keeps (λ acc. on_match rest acc o)
  unfolding on_match
  on_match_tidy none w acc k found j a e = give_tidy acc found k j a e
  on_match_tidy (some vs) w acc k found j a e = keeps vs (w vs refl) acc k found j a e

  draw_each_tidy : (p : List Slot) (vs : Values) → Words vs → (xs : List Row) → All IsRow xs → Keeps (draw_each format rest p vs xs)
  unfolding draw_each All
  draw_each_tidy p vs w [] i acc k found j a e = give_tidy acc found k j a e
  draw_each_tidy p vs w (x ∷ xs) i acc k found j a e =
      let t = after_done (tick k) _ found j e in
      let m = after_done (on_match rest acc (match format p vs x) t.draws) _ found j t.rest in
      draw_each_tidy p vs w xs i.1 m.value m.draws found j
      (on_match_tidy (match format p vs x) (λ ws q. match_words format p vs x ws w i.0.words q) acc t.draws m.value m.draws a m.first) m.rest

module _ (format : ℕ) (names : Evidence) (sets : List RowSet) (proper_names : ProperNames names) (tidy_sets : TidySets sets) where
  mutual
    unfolding read Fit expr_words body_words listing All

    pub read_tidy : (e : Expr) → WheneverRead format names sets e (λ vs s. Tidy s)
    read_tidy (leaf x) m n f t vs w k s j q = leaf_tidy names sets proper_names tidy_sets x m n f t vs w k s j q
    read_tidy (union a b) m n f t vs w k s j q =
        let x = after_done (read format names sets a vs k) _ s j q in
        let y = after_done (read format names sets b vs x.draws) _ s j x.rest in
        small_tidy (unite x.value y.value) s y.draws j (unite_proper x.value y.value
        (read_tidy a m n f.0 (all_left IsWord (expr_words a n) _ t.1) vs w k x.value x.draws x.first).proper
        (read_tidy b m n f.1 (all_right IsWord (expr_words a n) _ t.1) vs w x.draws y.value y.draws y.first).proper) y.rest
    read_tidy (difference a b) m n f t vs w k s j q =
        let x = after_done (read format names sets a vs k) _ s j q in
        let y = after_done (read format names sets b vs x.draws) _ s j x.rest in
        small_tidy (subtract x.value y.value) s y.draws j (subtract_proper x.value y.value
        (read_tidy a m n f.0 (all_left IsWord (expr_words a n) _ t.1) vs w k x.value x.draws x.first).proper
        (read_tidy b m n f.1 (all_right IsWord (expr_words a n) _ t.1) vs w x.draws y.value y.draws y.first).proper) y.rest
    read_tidy (comprehension b) m n f t vs w k s j q =
        let x = after_done (gather format names sets b vs [] k) _ s j q in
        let g = gather_tidy b m n f.1 t.1.1 vs w [] k x.value x.draws (record { proper = none_proper; few = omega arith }) x.first in
        subst Tidy (done_value x.rest) (record { proper = g.proper; few = g.few })

    pub gather_tidy : (b : Body) (m : Scope) (n : ℕ) → FitBody m n b → Words (body_words b n) → (vs : Values) → Words vs → Keeps (gather format names sets b vs)
    gather_tidy (head h) m n f t vs w acc k found j a q =
        let d = within_done (insert row_before (row_of vs h) acc) found k j q in
        record { proper = subst Proper d.value (insert_proper (row_of vs h) acc (row_of_terms n vs w h f t) a.proper); few = d.few }
    gather_tidy (draw e p rest) m n f t vs w acc k found j a q =
        let x = after_done (read format names sets e vs k) _ found j q in
        let y = after_done (drawable x.value x.draws) _ found j x.rest in
        let s = read_tidy e m n f.0 (all_left IsWord (expr_words e n) _ t.1) vs w k x.value x.draws x.first in
        let i : Tidy (only y.value) = subst Tidy (drawable_done x.value y.value x.draws y.draws y.first) s in
        let u = all_right IsWord (expr_words e n) _ t.1 in
        draw_each_tidy format (λ ws more. gather format names sets rest ws more)
        (λ ws v acc' i' found' l b' g. gather_tidy rest m (n + fresh p) f.2 (all_right IsWord (slot_words n p) _ u.1) ws v acc' i' found' l b' g)
        p vs w y.value i.proper.rows acc y.draws found j a y.rest
    gather_tidy (same x y rest) m n f t vs w acc k found j a q =
        either_tidy (eqb (value vs x) (value vs y)) (gather format names sets rest vs acc) (λ i. done acc i) k found j
        (λ g. gather_tidy rest m n f.2 (all_right IsWord (term_words y) _ (all_right IsWord (term_words x) _ t.1)) vs w acc k found j a g) (λ g. give_tidy acc found k j a g) q
    gather_tidy (different x y rest) m n f t vs w acc k found j a q =
        either_tidy (eqb (value vs x) (value vs y)) (λ i. done acc i) (gather format names sets rest vs acc) k found j
        (λ g. give_tidy acc found k j a g) (λ g. gather_tidy rest m n f.2 (all_right IsWord (term_words y) _ (all_right IsWord (term_words x) _ t.1)) vs w acc k found j a g) q
    gather_tidy (absent h e rest) m n f t vs w acc k found j a q =
        let x = after_done (read format names sets e vs k) _ found j q in
        either_tidy (has x.value (row_of vs h)) (λ i. done acc i) (gather format names sets rest vs acc) x.draws found j
        (λ g. give_tidy acc found x.draws j a g)
        (λ g. gather_tidy rest m n f.2 (all_right IsWord (expr_words e n) _ (all_right IsWord (term_row_words h) _ t.1)) vs w acc x.draws found j a g) x.rest
