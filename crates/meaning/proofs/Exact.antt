-- An expression with both polarities names no list and no definition: its reading is the same whatever is held. And the value that is read never
-- depends on the draws made before.
use Prim.Native.Nat.{ℕ}
use mathlib.Core.Path.{◌≡◌, refl, sym, ◌∙◌, subst}
use mathlib.Core.Bool.{Bool, true, false}
use mathlib.Core.Option.{Option, none, some}
use mathlib.Core.List.{List, [], ◌∷◌}
use lib.Dec.{T, eqb}
use Rattle.rows.specs.Ordered.{insert}
use Rattle.rows.specs.Row.{Row, row_before}
use Rattle.rows.specs.Name.{plus, minus}
use Rattle.rows.specs.Sets.{RowSet, only, has, unite, subtract}
use Rattle.rows.proofs.Case.{T_left, T_right}
use Rattle.policy.specs.Syntax.{Slot, Expr, leaf, union, difference, comprehension, Body, head, draw, same, different, absent}
use Rattle.policy.specs.Polarity.{Known, has_polarity, guards_have}
use Rattle.meaning.specs.Values.{Values, value, row_of}
use Rattle.meaning.specs.Evidence.{Evidence}
use Rattle.meaning.specs.Matching.{match}
use Rattle.meaning.specs.Reading.{done, Reading, after, within, drawable, tick, on_match, draw_each, read, gather}
use Rattle.meaning.specs.Exact.{Steady, ReadAlike, Theorem}
use Rattle.meaning.proofs.Steps.{after_done, after_same, either, within_done, drawable_done}
use Rattle.meaning.proofs.Claims.{give_steady, small_steady, either_steady}
use Rattle.meaning.proofs.Leaf.{leaf_same, leaf_steady}

-- two ways to read the guards that follow, the same on every row
module _ (format : ℕ) (f g : Values → List Row → Reading (List Row)) (h : (vs : Values) (acc : List Row) (k : ℕ) → f vs acc k ≡ g vs acc k) where
  on_match_same : (acc : List Row) (o : Option Values) (k : ℕ) → on_match f acc o k ≡ on_match g acc o k
  unfolding on_match
  on_match_same acc none k = refl
  on_match_same acc (some vs) k = h vs acc k

  draw_each_same : (p : List Slot) (vs : Values) (xs acc : List Row) (k : ℕ) → draw_each format f p vs xs acc k ≡ draw_each format g p vs xs acc k
  unfolding draw_each
  draw_each_same p vs [] acc k = refl
  draw_each_same p vs (x ∷ xs) acc k =
      after_same (tick k) (tick k) _ _ refl (λ u j.
      after_same _ _ _ _ (on_match_same acc (match format p vs x) j) (λ found i. draw_each_same p vs xs found i))

either_same : {A : Type 0} (b : Bool) (m n m' n' : Reading A) (k : ℕ) → m k ≡ m' k → n k ≡ n' k → either b m n k ≡ either b m' n' k
either_same true m n m' n' k e f = e
either_same false m n m' n' k e f = f

module _ (format : ℕ) (names names' : Evidence) (sets sets' : List RowSet) (ks : List Known) where
  mutual
    unfolding has_polarity read

    pub read_same : (e : Expr) → ReadAlike format names names' sets sets' ks e
    read_same (leaf x) t u vs k = leaf_same names names' sets sets' ks x t u vs k
    read_same (union a b) t u vs k =
        after_same (read format names sets a vs k) (read format names' sets' a vs k) _ _
        (read_same a (T_left (has_polarity a ks plus) (has_polarity b ks plus) t) (T_left (has_polarity a ks minus) (has_polarity b ks minus) u) vs k)
        (λ x j. after_same (read format names sets b vs j) (read format names' sets' b vs j) _ _
        (read_same b (T_right (has_polarity a ks plus) (has_polarity b ks plus) t) (T_right (has_polarity a ks minus) (has_polarity b ks minus) u) vs j) (λ y i. refl))
    read_same (difference a b) t u vs k =
        after_same (read format names sets a vs k) (read format names' sets' a vs k) _ _
        (read_same a (T_left (has_polarity a ks plus) (has_polarity b ks minus) t) (T_left (has_polarity a ks minus) (has_polarity b ks plus) u) vs k)
        (λ x j. after_same (read format names sets b vs j) (read format names' sets' b vs j) _ _
        (read_same b (T_right (has_polarity a ks minus) (has_polarity b ks plus) u) (T_right (has_polarity a ks plus) (has_polarity b ks minus) t) vs j) (λ y i. refl))
    read_same (comprehension b) t u vs k =
        after_same (gather format names sets b vs [] k) (gather format names' sets' b vs [] k) _ _ (gather_same b t u vs [] k) (λ x j. refl)

    pub gather_same : (b : Body) → T (guards_have b ks plus) → T (guards_have b ks minus) → (vs : Values) (acc : List Row) (k : ℕ) →
        gather format names sets b vs acc k ≡ gather format names' sets' b vs acc k
    gather_same (head h) t u vs acc k = refl
    gather_same (draw e p rest) t u vs acc k =
        after_same (read format names sets e vs k) (read format names' sets' e vs k) _ _
        (read_same e (T_left (has_polarity e ks plus) (guards_have rest ks plus) t) (T_left (has_polarity e ks minus) (guards_have rest ks minus) u) vs k)
        (λ s j. after_same (drawable s j) (drawable s j) _ _ refl
        (λ xs i. draw_each_same format (λ ws found. gather format names sets rest ws found) (λ ws found. gather format names' sets' rest ws found)
        (λ ws found l. gather_same rest (T_right (has_polarity e ks plus) (guards_have rest ks plus) t) (T_right (has_polarity e ks minus) (guards_have rest ks minus) u) ws found l)
        p vs xs acc i))
    gather_same (same x y rest) t u vs acc k = either_same (eqb (value vs x) (value vs y)) _ _ _ _ k (gather_same rest t u vs acc k) refl
    gather_same (different x y rest) t u vs acc k = either_same (eqb (value vs x) (value vs y)) _ _ _ _ k refl (gather_same rest t u vs acc k)
    gather_same (absent h e rest) t u vs acc k =
        after_same (read format names sets e vs k) (read format names' sets' e vs k) _ _
        (read_same e (T_left (has_polarity e ks plus) (guards_have rest ks minus) u) (T_left (has_polarity e ks minus) (guards_have rest ks plus) t) vs k)
        (λ s j. either_same (has s (row_of vs h)) _ _ _ _ j refl
        (gather_same rest (T_right (has_polarity e ks minus) (guards_have rest ks plus) t) (T_right (has_polarity e ks plus) (guards_have rest ks minus) u) vs acc j))

after_steady : {A B : Type 0} (m : Reading A) (f : A → Reading B) → Steady m → ((a : A) → Steady (f a)) → Steady (λ k. after (m k) f)
after_steady m f s t k k' j j' b b' e e' =
    let x = after_done (m k) f b j e in
    let x' = after_done (m k') f b' j' e' in
    let v : x.value ≡ x'.value = s k k' x.draws x'.draws x.value x'.value x.first x'.first in
    t x'.value x.draws x'.draws j j' b b' (subst (λ a. f a x.draws ≡ done b j) v x.rest) x'.rest

within_steady : (xs : List Row) → Steady (within xs)
within_steady xs k k' j j' a a' e e' = sym (within_done xs a k j e).value ∙ (within_done xs a' k' j' e').value

drawable_steady : (s : RowSet) → Steady (drawable s)
drawable_steady s k k' j j' a a' e e' = only_inj (sym (drawable_done s a k j e) ∙ drawable_done s a' k' j' e')
  where
    only_inj : only a ≡ only a' → a ≡ a'
    only_inj p = cc

tick_steady : Steady tick
tick_steady k k' j j' a a' e e' = refl

module _ (format : ℕ) (rest : Values → List Row → Reading (List Row)) (steady : (ws : Values) (acc : List Row) → Steady (rest ws acc)) where
  on_match_steady : (acc : List Row) (o : Option Values) → Steady (on_match rest acc o)
  unfolding on_match
  on_match_steady acc none = give_steady acc
  on_match_steady acc (some vs) = steady vs acc

  draw_each_steady : (p : List Slot) (vs : Values) (xs acc : List Row) → Steady (draw_each format rest p vs xs acc)
  unfolding draw_each
  draw_each_steady p vs [] acc = give_steady acc
  draw_each_steady p vs (x ∷ xs) acc = after_steady tick _ tick_steady (λ u. after_steady (on_match rest acc (match format p vs x)) _ (on_match_steady acc (match format p vs x)) (λ more. draw_each_steady p vs xs more))

module _ (format : ℕ) (names : Evidence) (sets : List RowSet) where
  mutual
    unfolding read

    pub read_steady : (e : Expr) (vs : Values) → Steady (read format names sets e vs)
    read_steady (leaf x) vs = leaf_steady names sets x vs
    read_steady (union a b) vs = after_steady (read format names sets a vs) _ (read_steady a vs) (λ x. after_steady (read format names sets b vs) _ (read_steady b vs) (λ y. small_steady (unite x y)))
    read_steady (difference a b) vs = after_steady (read format names sets a vs) _ (read_steady a vs) (λ x. after_steady (read format names sets b vs) _ (read_steady b vs) (λ y. small_steady (subtract x y)))
    read_steady (comprehension b) vs = after_steady (gather format names sets b vs []) _ (gather_steady b vs []) (λ xs. give_steady (only xs))

    pub gather_steady : (b : Body) (vs : Values) (acc : List Row) → Steady (gather format names sets b vs acc)
    gather_steady (head r) vs acc = within_steady (insert row_before (row_of vs r) acc)
    gather_steady (draw e p rest) vs acc =
        after_steady (read format names sets e vs) _ (read_steady e vs) (λ s. after_steady (drawable s) _ (drawable_steady s)
        (λ xs. draw_each_steady format (λ ws more. gather format names sets rest ws more) (λ ws more. gather_steady rest ws more) p vs xs acc))
    gather_steady (same x y rest) vs acc = either_steady (eqb (value vs x) (value vs y)) _ _ (gather_steady rest vs acc) (give_steady acc)
    gather_steady (different x y rest) vs acc = either_steady (eqb (value vs x) (value vs y)) _ _ (give_steady acc) (gather_steady rest vs acc)
    gather_steady (absent r e rest) vs acc =
        after_steady (read format names sets e vs) _ (read_steady e vs) (λ s. either_steady (has s (row_of vs r)) _ _ (give_steady acc) (gather_steady rest vs acc))

pub theorem : Theorem
theorem = record { alike = read_same; steady = read_steady }
