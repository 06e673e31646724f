-- What is not open is read as a finite set, so a checked draw never meets a complement: refusal 12 is not reached.
use Prim.Native.Nat.{ℕ, ◌+◌}
use mathlib.Core.Path.{◌≡◌, subst}
use mathlib.Core.Logic.{inl, inr}
use mathlib.Core.Bool.{Bool, true, false, not, ◌&&◌, ◌||◌}
use mathlib.Core.Option.{Option, none, some}
use mathlib.Core.List.{List, [], ◌∷◌}
use native.Mathlib.Omega.{arith}
use lib.Dec.{T, eqb, ltb, leb}
use lib.ListN.{length}
use Rattle.refusals.specs.RefusalTable.{complement_drawn}
use Rattle.rows.specs.Ordered.{insert}
use Rattle.rows.specs.Row.{Row, is_key, row_before}
use Rattle.rows.specs.Name.{plus}
use Rattle.rows.specs.Sets.{RowSet, only, all_but, most_rows, has, unite, subtract}
use Rattle.rows.proofs.Case.{T_left, T_right}
use Rattle.certificates.specs.Stores.{Held}
use Rattle.policy.specs.Syntax.{Slot, Expr, leaf, union, difference, comprehension, Body, head, draw, same, different, absent}
use Rattle.policy.specs.Polarity.{Known, open_expr, draws_closed, guards_closed}
use Rattle.meaning.specs.Values.{Values, value, row_of}
use Rattle.meaning.specs.Evidence.{Evidence, joined, names_held}
use Rattle.meaning.specs.Matching.{match}
use Rattle.meaning.specs.Reading.{Result, done, refused, Reading, after, within, drawable, tick, on_match, draw_each, read, gather}
use Rattle.meaning.specs.Closed.{IsFinite, FiniteNames, FiniteSets, Not12, ReadFinite, Never12, Theorem}
use Rattle.meaning.proofs.Steps.{done_value, refused_number, not_refused, after_done, after_refused, small_done}
use Rattle.meaning.proofs.Claims.{give_not, refuse_not, either_not, small_not}
use Rattle.meaning.proofs.Leaf.{leaf_finite, leaf_not_12}

pub held_finite : (h : Held) → FiniteNames (names_held h)
unfolding IsFinite names_held
held_finite h k n = go (is_key k)
  where
    go : (b : Bool) → IsFinite (elim b as (λ c. RowSet) [ true ↦ only (joined h.links h.certificates k n plus) | false ↦ only [] ])
    go true = tt
    go false = tt

finite_unite : (s t : RowSet) → IsFinite s → IsFinite t → IsFinite (unite s t)
unfolding IsFinite unite
finite_unite (only xs) (only ys) a b = tt
finite_unite (only xs) (all_but ys) a b = b
finite_unite (all_but xs) t a b = absurd a

finite_subtract : (s t : RowSet) → IsFinite s → IsFinite (subtract s t)
unfolding IsFinite subtract
finite_subtract (only xs) (only ys) a = tt
finite_subtract (only xs) (all_but ys) a = tt
finite_subtract (all_but xs) t a = absurd a

neither_left : (a b : Bool) → T (not (a || b)) → T (not a)
neither_left true b t = absurd t
neither_left false b t = tt

neither_right : (a b : Bool) → T (not (a || b)) → T (not b)
neither_right true b t = absurd t
neither_right false b t = t

-- a first step that is never refused with 12, then one that is not, whatever value the first is done with
after_not : {A B : Type 0} (m : Reading A) (f : A → Reading B) → Not12 m → ((k : ℕ) (a : A) (j : ℕ) → m k ≡ done a j → Not12 (f a)) → Not12 (λ k. after (m k) f)
after_not m f g h k e = elim (after_refused (m k) f complement_drawn e) [ inl q ↦ g k q | inr p ↦ h k p.value p.draws p.first p.draws p.rest ]

within_not : (xs : List Row) → Not12 (within xs)
unfolding within
within_not xs = either_not (leb (length xs) most_rows) _ _ (give_not xs) (refuse_not 13 (λ q. omega arith))

tick_not : Not12 tick
unfolding tick
tick_not k e = go (ltb k 1000000) e
  where
    go : (b : Bool) → ◌≡◌ {A = Result (Unit {0})} (elim b as (λ c. Result (Unit {0})) [ true ↦ done tt (k + 1) | false ↦ refused 14 ]) (refused complement_drawn) → ⊥
    go true q = not_refused q
    go false q = let n : ◌≡◌ {A = ℕ} 14 complement_drawn = refused_number q in omega arith

drawable_not : (s : RowSet) → IsFinite s → Not12 (drawable s)
unfolding IsFinite drawable
drawable_not (only xs) f = give_not xs
drawable_not (all_but xs) f = λ k e. f

module _ (format : ℕ) (rest : Values → List Row → Reading (List Row)) (fine : (vs : Values) (acc : List Row) → Not12 (rest vs acc)) where
  on_match_not : (acc : List Row) (o : Option Values) → Not12 (on_match rest acc o)
  unfolding on_match
  on_match_not acc none = give_not acc
  on_match_not acc (some vs) = fine vs acc

  draw_each_not : (p : List Slot) (vs : Values) (xs acc : List Row) → Not12 (draw_each format rest p vs xs acc)
  unfolding draw_each
  draw_each_not p vs [] acc = give_not acc
  draw_each_not p vs (x ∷ xs) acc =
      after_not tick _ tick_not (λ k u j q. after_not (on_match rest acc (match format p vs x)) _ (on_match_not acc (match format p vs x)) (λ k' more j' q'. draw_each_not p vs xs more))

module _ (format : ℕ) (names : Evidence) (finite_names : FiniteNames names) (sets : List RowSet) (ks : List Known)
    (finite_sets : FiniteSets ks sets) where
  pub closed_finite : (e : Expr) → ReadFinite format names sets ks e
  unfolding open_expr read IsFinite
  closed_finite (leaf x) t vs k s j q = leaf_finite names finite_names sets ks finite_sets x t vs k s j q
  closed_finite (union a b) t vs k s j q =
      let x = after_done (read format names sets a vs k) _ s j q in
      let y = after_done (read format names sets b vs x.draws) _ s j x.rest in
      subst IsFinite (small_done (unite x.value y.value) s y.draws j y.rest).value
      (finite_unite x.value y.value (closed_finite a (neither_left (open_expr a ks) (open_expr b ks) t) vs k x.value x.draws x.first)
      (closed_finite b (neither_right (open_expr a ks) (open_expr b ks) t) vs x.draws y.value y.draws y.first))
  closed_finite (difference a b) t vs k s j q =
      let x = after_done (read format names sets a vs k) _ s j q in
      let y = after_done (read format names sets b vs x.draws) _ s j x.rest in
      subst IsFinite (small_done (subtract x.value y.value) s y.draws j y.rest).value
      (finite_subtract x.value y.value (closed_finite a t vs k x.value x.draws x.first))
  closed_finite (comprehension b) t vs k s j q =
      let x = after_done (gather format names sets b vs [] k) _ s j q in
      subst IsFinite (done_value x.rest) tt

  mutual
    unfolding draws_closed read

    pub never_12 : (e : Expr) → Never12 format names sets ks e
    never_12 (leaf x) t vs = leaf_not_12 names sets x vs
    never_12 (union a b) t vs =
        after_not (read format names sets a vs) _ (never_12 a (T_left (draws_closed a ks) (draws_closed b ks) t) vs) (λ k x j q.
        after_not (read format names sets b vs) _ (never_12 b (T_right (draws_closed a ks) (draws_closed b ks) t) vs) (λ k' y j' q'. small_not (unite x y)))
    never_12 (difference a b) t vs =
        after_not (read format names sets a vs) _ (never_12 a (T_left (draws_closed a ks) (draws_closed b ks) t) vs) (λ k x j q.
        after_not (read format names sets b vs) _ (never_12 b (T_right (draws_closed a ks) (draws_closed b ks) t) vs) (λ k' y j' q'. small_not (subtract x y)))
    never_12 (comprehension b) t vs = after_not (gather format names sets b vs []) _ (guards_never_12 b t vs []) (λ k xs j q. give_not (only xs))

    pub guards_never_12 : (b : Body) → T (guards_closed b ks) → (vs : Values) (acc : List Row) → Not12 (gather format names sets b vs acc)
    guards_never_12 (head h) t vs acc = within_not (insert row_before (row_of vs h) acc)
    guards_never_12 (draw e p rest) t vs acc =
        let t₁ = T_left (not (open_expr e ks)) (draws_closed e ks && guards_closed rest ks) t in
        let t₂ = T_right (not (open_expr e ks)) (draws_closed e ks && guards_closed rest ks) t in
        after_not (read format names sets e vs) _ (never_12 e (T_left (draws_closed e ks) (guards_closed rest ks) t₂) vs) (λ k s j q.
        after_not (drawable s) _ (drawable_not s (closed_finite e t₁ vs k s j q)) (λ k' xs j' q'.
        draw_each_not format (λ ws more. gather format names sets rest ws more) (λ ws more. guards_never_12 rest (T_right (draws_closed e ks) (guards_closed rest ks) t₂) ws more) p vs xs acc))
    guards_never_12 (same x y rest) t vs acc = either_not (eqb (value vs x) (value vs y)) _ _ (guards_never_12 rest t vs acc) (give_not acc)
    guards_never_12 (different x y rest) t vs acc = either_not (eqb (value vs x) (value vs y)) _ _ (give_not acc) (guards_never_12 rest t vs acc)
    guards_never_12 (absent h e rest) t vs acc =
        after_not (read format names sets e vs) _ (never_12 e (T_left (draws_closed e ks) (guards_closed rest ks) t) vs) (λ k s j q.
        either_not (has s (row_of vs h)) _ _ (give_not acc) (guards_never_12 rest (T_right (draws_closed e ks) (guards_closed rest ks) t) vs acc))

pub theorem : Theorem
theorem = record { finite = closed_finite; never12 = never_12; held = held_finite }
