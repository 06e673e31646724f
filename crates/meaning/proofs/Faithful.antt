-- What is read is what belongs.
use Prim.Native.Nat.{ℕ, ◌+◌}
use mathlib.Core.Path.{◌≡◌, refl, subst}
use mathlib.Core.Logic.{◌⊎◌, inl, inr, ◌↔◌}
use mathlib.Core.Bool.{Bool, true, false}
use mathlib.Core.Option.{Option, none, some}
use mathlib.Core.List.{List, [], ◌∷◌, ◌++◌}
use native.Mathlib.Omega.{arith}
use lib.Dec.{T, eqb}
use Rattle.rows.specs.Word.{All, IsWord, Words}
use Rattle.rows.specs.Ordered.{◌∈◌}
use Rattle.rows.specs.Row.{Row, IsRow, row_before}
use Rattle.rows.specs.Sets.{RowSet, only, has, unite, subtract}
use Rattle.rows.proofs.Case.{T_eqb, ◌then◌, iff_refl, both_or, both_and_not, swap_or}
use Rattle.rows.proofs.Order.{row_order}
use Rattle.rows.proofs.Lists.{all_in, all_left, all_right}
use Rattle.rows.proofs.Ordered.{insert-∈}
use Rattle.rows.proofs.Sets.{only_iff, unite_iff, subtract_iff}
use Rattle.policy.specs.OwnKey.{Scope}
use Rattle.policy.specs.Syntax.{Slot, Expr, leaf, union, difference, comprehension, Body, head, draw, same, different, absent}
use Rattle.policy.specs.Words.{term_words, term_row_words, slot_words, fresh, expr_words, body_words}
use Rattle.policy.specs.WellFormed.{Fit, FitBody}
use Rattle.meaning.specs.Values.{Values, value, row_of}
use Rattle.meaning.specs.Evidence.{Evidence}
use Rattle.meaning.specs.Matching.{match}
use Rattle.meaning.specs.Reading.{done, Reading, drawable, tick, on_match, draw_each, read, gather}
use Rattle.meaning.specs.World.{World}
use Rattle.meaning.specs.Belonging.{Meanings, BelongsBy, PassesBy, Passes}
use Rattle.meaning.specs.Faithful.{Tidy, ProperNames, TidySets, Shows, Agree, WheneverRead, JustThose, Theorem}
use Rattle.meaning.proofs.Steps.{done_value, after_done, either, small_done, within_done, drawable_done}
use Rattle.meaning.proofs.Rows.{row_of_terms}
use Rattle.meaning.proofs.Matching.{match_bound, matches_match, match_words}
use Rattle.meaning.proofs.Claims.{has_by}
use Rattle.meaning.proofs.Leaf.{leaf_rows}
use Rattle.meaning.proofs.Proper.{read_tidy}
use Rattle.meaning.proofs.Model.{held_names_proper, held_shows}

-- the rows found are those found before and those that R names
abbrev Adds : List Row → List Row → (Row → Type 0) → Type 0
Adds acc found R = (r : Row) → IsRow r → (r ∈ found) ↔ ((r ∈ acc) ⊎ R r)

adds_none : (acc found : List Row) (R : Row → Type 0) → acc ≡ found → ((r : Row) → R r → ⊥) → Adds acc found R
adds_none acc found R e f = subst (λ (zs : List Row). Adds acc zs R) e (λ r i. (λ t. inl t, λ t. elim t [ inl a ↦ a | inr b ↦ absurd (f r b) ]))

-- what a whole draw adds
abbrev Drawn : ℕ → (Values → Row → Type 0) → List Slot → Values → List Row → Row → Type 0
Drawn format R p vs xs r = (x : Row) × (ws : Values) × (x ∈ xs) × (match format p vs x ≡ some ws) × R ws r

module _ (format : ℕ) (rest : Values → List Row → Reading (List Row)) (R : Values → Row → Type 0)
    (adds : (ws : Values) → Words ws → (acc : List Row) (k : ℕ) (found : List Row) (j : ℕ) → rest ws acc k ≡ done found j → Adds acc found (R ws)) where
  -- what one drawn row adds
  abbrev One : List Slot → Values → Row → Row → Type 0
  One p vs x r = (ws : Values) × (match format p vs x ≡ some ws) × R ws r

  one_adds : (p : List Slot) (vs : Values) (x : Row) → ((ws : Values) → match format p vs x ≡ some ws → Words ws) → (acc : List Row) (k : ℕ) (found : List Row) (j : ℕ) (o : Option Values) →
      match format p vs x ≡ o → on_match rest acc o k ≡ done found j → Adds acc found (One p vs x)
  unfolding on_match
  one_adds p vs x w acc k found j none m e =
      adds_none acc found _ (done_value e) (λ r t. let q : match format p vs x ≡ some t.0 = t.1 in let z : ◌≡◌ {A = ℕ} 0 1 = cc in absurd (omega arith))
  one_adds p vs x w acc k found j (some ws) m e = λ r i. adds ws (w ws m) acc k found j e r i then
      both_or iff_refl (λ t. (ws, m, t), λ t. let q : match format p vs x ≡ some t.0 = t.1 in let f : t.0 ≡ ws = cc in subst (λ (us : Values). R us r) f t.2)

  draws_add : (p : List Slot) (vs : Values) → Words vs → (xs : List Row) → All IsRow xs → (acc : List Row) (k : ℕ) (found : List Row) (j : ℕ) →
      draw_each format rest p vs xs acc k ≡ done found j → Adds acc found (Drawn format R p vs xs)
  unfolding draw_each ◌∈◌ All
  draws_add p vs w [] i acc k found j e = adds_none acc found _ (done_value e) (λ r t. t.2)
  draws_add p vs w (x ∷ xs) i acc k found j e =
      let t = after_done (tick k) _ found j e in
      let m = after_done (on_match rest acc (match format p vs x) t.draws) _ found j t.rest in
      go m.value (one_adds p vs x (λ ws q. match_words format p vs x ws w i.0.words q) acc t.draws m.value m.draws (match format p vs x) refl m.first)
      (draws_add p vs w xs i.1 m.value m.draws found j m.rest)
    where
      go : (mid : List Row) → Adds acc mid (One p vs x) → Adds mid found (Drawn format R p vs xs) → Adds acc found (Drawn format R p vs (x ∷ xs))
      go mid f g r i = g r i then both_or (f r i) iff_refl then (to, from)
        where
          to : ((r ∈ acc) ⊎ One p vs x r) ⊎ Drawn format R p vs xs r → (r ∈ acc) ⊎ Drawn format R p vs (x ∷ xs) r
          to (inl (inl a)) = inl a
          to (inl (inr b)) = inr (x, b.0, inl refl, b.1, b.2)
          to (inr c) = inr (c.0, c.1, inr c.2, c.3, c.4)

          pick : (y : Row) (ws : Values) → (y ≡ x) ⊎ (y ∈ xs) → match format p vs y ≡ some ws → R ws r → ((r ∈ acc) ⊎ One p vs x r) ⊎ Drawn format R p vs xs r
          pick y ws (inl h) m t = inl (inr (ws, subst (λ (z : Row). match format p vs z ≡ some ws) h m, t))
          pick y ws (inr h) m t = inr (y, ws, h, m, t)

          from : (r ∈ acc) ⊎ Drawn format R p vs (x ∷ xs) r → ((r ∈ acc) ⊎ One p vs x r) ⊎ Drawn format R p vs xs r
          from (inl a) = inl (inl a)
          from (inr d) = pick d.0 d.1 d.2 d.3 d.4

-- a guard that is a test: the rest is read where it passes, or where it fails
tested : (b : Bool) (P A : Type 0) (acc found : List Row) (k j : ℕ) (m : Reading (List Row)) (r : Row) → T b ↔ P → (m k ≡ done found j → (r ∈ found) ↔ ((r ∈ acc) ⊎ A)) →
    either b m (λ i. done acc i) k ≡ done found j → (r ∈ found) ↔ ((r ∈ acc) ⊎ (P × A))
tested true P A acc found k j m r p h q = h q then both_or iff_refl (λ a. (p.0 tt, a), λ t. t.1)
tested false P A acc found k j m r p h q =
    subst (λ (ys : List Row). (r ∈ ys) ↔ ((r ∈ acc) ⊎ (P × A))) (done_value q) (λ t. inl t, λ t. elim t [ inl a ↦ a | inr b ↦ absurd (p.1 b.0) ])

untested : (b : Bool) (P A : Type 0) (acc found : List Row) (k j : ℕ) (m : Reading (List Row)) (r : Row) → T b ↔ P → (m k ≡ done found j → (r ∈ found) ↔ ((r ∈ acc) ⊎ A)) →
    either b (λ i. done acc i) m k ≡ done found j → (r ∈ found) ↔ ((r ∈ acc) ⊎ ((¬ P) × A))
untested false P A acc found k j m r p h q = h q then both_or iff_refl (λ a. (λ x. p.1 x, a), λ t. t.1)
untested true P A acc found k j m r p h q =
    subst (λ (ys : List Row). (r ∈ ys) ↔ ((r ∈ acc) ⊎ ((¬ P) × A))) (done_value q) (λ t. inl t, λ t. elim t [ inl a ↦ a | inr b ↦ absurd (b.0 (p.0 tt)) ])

none_first : (xs : List Row) (r : Row) (A : Type 0) → (r ∈ xs) ↔ ((r ∈ []) ⊎ A) → (r ∈ xs) ↔ A
unfolding ◌∈◌
none_first xs r A h = h then (λ t. elim t [ inl a ↦ absurd a | inr b ↦ b ], λ b. inr b)

module _ (format : ℕ) (names : Evidence) (W : World) (shows : Shows names W) (proper_names : ProperNames names)
    (sets : List RowSet) (D : Meanings) (agree : Agree sets D) (tidy_sets : TidySets sets) where
  -- what a draw finds is what passes
  drawn_iff : (e : Expr) (p : List Slot) (rest : Body) (vs : Values) (xs : List Row) → All IsRow xs → JustThose format W D e vs (only xs) → (r : Row) →
      Drawn format (Passes format W D rest) p vs xs r ↔ Passes format W D (draw e p rest) vs r
  unfolding PassesBy
  drawn_iff e p rest vs xs rows h r = (to, from)
    where
      to : Drawn format (Passes format W D rest) p vs xs r → Passes format W D (draw e p rest) vs r
      to (x, ws, i, m, t) =
          let b = match_bound format p vs x ws m in
          let is_row = all_in IsRow xs rows x i in
          (b.own, (x, is_row, b.fit, (h x is_row).0 ((only_iff xs x).1 i)), subst (λ (us : Values). Passes format W D rest us r) b.behind t)

      from : Passes format W D (draw e p rest) vs r → Drawn format (Passes format W D rest) p vs xs r
      from (own, (x, is_row, m, i), t) =
          (x, vs ++ own, (only_iff xs x).0 ((h x is_row).1 i), matches_match format p vs own x m, t)

  mutual
    unfolding read BelongsBy Fit expr_words body_words All

    pub read_rows : (e : Expr) → WheneverRead format names sets e (JustThose format W D e)
    read_rows (leaf x) m n f t vs w k s j q r i = leaf_rows names W shows sets D agree x m n f t vs w k s j q r i
    read_rows (union a b) m n f t vs w k s j q r i =
        let x = after_done (read format names sets a vs k) _ s j q in
        let y = after_done (read format names sets b vs x.draws) _ s j x.rest in
        has_by (unite x.value y.value) s r _ (small_done _ s y.draws j y.rest).value (unite_iff x.value y.value r then both_or
        (read_rows a m n f.0 (all_left IsWord (expr_words a n) _ t.1) vs w k x.value x.draws x.first r i)
        (read_rows b m n f.1 (all_right IsWord (expr_words a n) _ t.1) vs w x.draws y.value y.draws y.first r i))
    read_rows (difference a b) m n f t vs w k s j q r i =
        let x = after_done (read format names sets a vs k) _ s j q in
        let y = after_done (read format names sets b vs x.draws) _ s j x.rest in
        has_by (subtract x.value y.value) s r _ (small_done _ s y.draws j y.rest).value (subtract_iff x.value y.value r then both_and_not
        (read_rows a m n f.0 (all_left IsWord (expr_words a n) _ t.1) vs w k x.value x.draws x.first r i)
        (read_rows b m n f.1 (all_right IsWord (expr_words a n) _ t.1) vs w x.draws y.value y.draws y.first r i))
    read_rows (comprehension b) m n f t vs w k s j q r i =
        let x = after_done (gather format names sets b vs [] k) _ s j q in
        has_by (only x.value) s r _ (done_value x.rest)
        (only_iff x.value r then none_first x.value r _ (gather_rows b m n f.1 t.1.1 vs w [] k x.value x.draws x.first r i))

    pub gather_rows : (b : Body) (m : Scope) (n : ℕ) → FitBody m n b → Words (body_words b n) → (vs : Values) → Words vs → (acc : List Row) (k : ℕ) (found : List Row) (j : ℕ) →
        gather format names sets b vs acc k ≡ done found j → Adds acc found (Passes format W D b vs)
    gather_rows (head h) m n f t vs w acc k found j q r i =
        subst (λ (ys : List Row). (r ∈ ys) ↔ ((r ∈ acc) ⊎ (r ≡ row_of vs h))) (within_done _ found k j q).value
        (insert-∈ row_before row_order (row_of vs h) acc r then swap_or)
    gather_rows (draw e p rest) m n f t vs w acc k found j q r i =
        let x = after_done (read format names sets e vs k) _ found j q in
        let y = after_done (drawable x.value x.draws) _ found j x.rest in
        let g : x.value ≡ only y.value = drawable_done x.value y.value x.draws y.draws y.first in
        let v = all_left IsWord (expr_words e n) _ t.1 in
        let u = all_right IsWord (expr_words e n) _ t.1 in
        let h : JustThose format W D e vs (only y.value) = subst (JustThose format W D e vs) g (λ z l. read_rows e m n f.0 v vs w k x.value x.draws x.first z l) in
        let o : Tidy (only y.value) = subst Tidy g (read_tidy format names sets proper_names tidy_sets e m n f.0 v vs w k x.value x.draws x.first) in
        draws_add format (λ ws more. gather format names sets rest ws more) (Passes format W D rest)
        (λ ws v' acc' k' found' j' q' r' i'. gather_rows rest m (n + fresh p) f.2 (all_right IsWord (slot_words n p) _ u.1) ws v' acc' k' found' j' q' r' i')
        p vs w y.value o.proper.rows acc y.draws found j y.rest r i
        then both_or iff_refl (drawn_iff e p rest vs y.value o.proper.rows h r)
    gather_rows (same x y rest) m n f t vs w acc k found j q r i =
        tested (eqb (value vs x) (value vs y)) _ _ acc found k j (gather format names sets rest vs acc) r (T_eqb (value vs x) (value vs y))
        (λ g. gather_rows rest m n f.2 (all_right IsWord (term_words y) _ (all_right IsWord (term_words x) _ t.1)) vs w acc k found j g r i) q
    gather_rows (different x y rest) m n f t vs w acc k found j q r i =
        untested (eqb (value vs x) (value vs y)) _ _ acc found k j (gather format names sets rest vs acc) r (T_eqb (value vs x) (value vs y))
        (λ g. gather_rows rest m n f.2 (all_right IsWord (term_words y) _ (all_right IsWord (term_words x) _ t.1)) vs w acc k found j g r i) q
    gather_rows (absent h e rest) m n f t vs w acc k found j q r i =
        let x = after_done (read format names sets e vs k) _ found j q in
        let u = all_right IsWord (term_row_words h) _ t.1 in
        untested (has x.value (row_of vs h)) _ _ acc found x.draws j (gather format names sets rest vs acc) r
        (read_rows e m n f.1 (all_left IsWord (expr_words e n) _ u) vs w k x.value x.draws x.first (row_of vs h)
        (row_of_terms n vs w h f.0 (all_left IsWord (term_row_words h) _ t.1)))
        (λ g. gather_rows rest m n f.2 (all_right IsWord (expr_words e n) _ u) vs w acc x.draws found j g r i) x.rest

pub theorem : Theorem
theorem = record { tidy = read_tidy; rows = read_rows; proper = held_names_proper; shows = held_shows }
