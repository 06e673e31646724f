-- The laws of leaves: what the theorems about expressions say, of the leaves alone. A theorem's case for a leaf is one of these.
use Prim.Native.Nat.{ℕ}
use mathlib.Core.Path.{◌≡◌, refl, subst}
use mathlib.Core.Logic.{◌↔◌}
use mathlib.Core.Bool.{Bool, true, false, not}
use mathlib.Core.List.{List, [], ◌∷◌, ◌++◌, map}
use native.Mathlib.Omega.{arith}
use lib.Dec.{T}
use lib.ListN.{get_or}
use Rattle.rows.specs.Word.{All, IsWord, Words}
use Rattle.rows.specs.Ordered.{◌∈◌}
use Rattle.rows.specs.Row.{Row, IsRow, row_before}
use Rattle.rows.specs.Name.{Polarity, plus, minus, opposite, same_polarity}
use Rattle.rows.specs.Sets.{RowSet, only, all_but, listing, Proper, has}
use Rattle.rows.proofs.Case.{◌then◌, iff_refl, both_or, both_not, T_left, T_right}
use Rattle.rows.proofs.Order.{row_order}
use Rattle.rows.proofs.Lists.{all_left, all_right}
use Rattle.rows.proofs.Ordered.{insert-∈}
use Rattle.rows.proofs.Sets.{none_proper, insert_proper, only_iff, all_but_iff}
use Rattle.policy.specs.Terms.{Term, term_words, each, term_row_words, FitRow}
use Rattle.policy.specs.OwnKey.{Scope, Origin, by_certificates, by_definition}
use Rattle.policy.specs.Leaf.{Leaf, finite, cofinite, definition, listed, vetted, leaf_words, FitLeaf, Known, unknown, name_has, name_open, leaf_has, leaf_open}
use Rattle.meaning.specs.Values.{Values, value, row_of}
use Rattle.meaning.specs.Evidence.{Evidence}
use Rattle.meaning.specs.Reading.{done, Reading, rows_of, read_name, read_leaf}
use Rattle.meaning.specs.World.{World, Below}
use Rattle.meaning.specs.Belonging.{InList, Meanings, InName, BelongsLeaf}
use Rattle.meaning.specs.Faithful.{Tidy, ProperNames, TidySets, Shows, Agree}
use Rattle.meaning.specs.Monotone.{Along, Ways}
use Rattle.meaning.specs.Exact.{Steady}
use Rattle.meaning.specs.Closed.{IsFinite, FiniteNames, FiniteSets, Not12}
use Rattle.meaning.proofs.Steps.{done_value, either, either_done, small_done}
use Rattle.meaning.proofs.Rows.{value_word, row_of_terms}
use Rattle.meaning.proofs.Claims.{small_tidy, has_by, along_same, same_polarity_lem, give_steady, small_steady, either_steady, give_not, small_not, either_not}

rows_of_proper : (n : ℕ) (vs : Values) → Words vs → (rs : List (List Term)) → All (FitRow n) rs → Words (each term_row_words rs) → Proper (rows_of vs rs)
unfolding rows_of All each
rows_of_proper n vs w [] f t = none_proper
rows_of_proper n vs w (r ∷ rs) f t =
    insert_proper (row_of vs r) (rows_of vs rs) (row_of_terms n vs w r f.0 (all_left IsWord (term_row_words r) _ t))
    (rows_of_proper n vs w rs f.1 (all_right IsWord (term_row_words r) _ t))

-- what is read lists rows alone, in ascending order, at most 128 of them
name_tidy : (names : Evidence) (sets : List RowSet) → ProperNames names → TidySets sets → (i n : ℕ) (p : Polarity) (o : Origin) (k : ℕ) {s : RowSet} {j : ℕ} →
    read_name names sets i n p o k ≡ done s j → Tidy s
unfolding read_name
name_tidy names sets a b i n p by_certificates k {s} {j} q = small_tidy (names i n p) s k j (a i n p) q
name_tidy names sets a b i n p (by_definition d) k q = subst Tidy (done_value q) (b d)

pub leaf_tidy : (names : Evidence) (sets : List RowSet) → ProperNames names → TidySets sets → (x : Leaf) (m : Scope) (n : ℕ) → FitLeaf m n x → Words (leaf_words x) → (vs : Values) → Words vs →
    (k : ℕ) (s : RowSet) (j : ℕ) → read_leaf names sets x vs k ≡ done s j → Tidy s
unfolding read_leaf FitLeaf leaf_words listing All
leaf_tidy names sets a b (finite rs) m n f t vs w k s j q = small_tidy (only (rows_of vs rs)) s k j (rows_of_proper n vs w rs f.rows t.1.1) q
leaf_tidy names sets a b (cofinite rs) m n f t vs w k s j q = small_tidy (all_but (rows_of vs rs)) s k j (rows_of_proper n vs w rs f.rows t.1.1) q
leaf_tidy names sets a b (definition d) m n f t vs w k s j q = subst Tidy (done_value q) (b d)
leaf_tidy names sets a b (listed i l p o) m n f t vs w k s j q = name_tidy names sets a b (value vs i) l p o k q
leaf_tidy names sets a b (vetted i l o d) m n f t vs w k s j q =
    either_done Tidy (has (get_or sets d (only [])) (value vs i ∷ [])) _ _ (λ e. subst Tidy (done_value e) (record { proper = none_proper; few = omega arith }))
    (name_tidy names sets a b (value vs i) l plus o k) q

-- the rows written in a literal
rows_of-∈ : (vs : Values) (rs : List (List Term)) (r : Row) → (r ∈ rows_of vs rs) ↔ (r ∈ map (row_of vs) rs)
unfolding rows_of ◌∈◌
rows_of-∈ vs [] r = iff_refl
rows_of-∈ vs (x ∷ rs) r = insert-∈ row_before row_order (row_of vs x) (rows_of vs rs) r then both_or iff_refl (rows_of-∈ vs rs r)

-- the one-atom row of an issuer
issuer_row : (i : Term) (ws : List ℕ) → Words (term_words i ++ ws) → (vs : Values) → Words vs → IsRow (value vs i ∷ [])
unfolding All
issuer_row i ws t vs w = record { some = omega arith; few = omega arith; words = (value_word vs w i (all_left IsWord (term_words i) ws t), tt) }

-- no rows where the test holds, else those that are read
unless_rows : (c : Bool) (C P : Type 0) (m : Reading RowSet) (s : RowSet) (k j : ℕ) (r : Row) → T c ↔ C → (m k ≡ done s j → T (has s r) ↔ P) →
    either c (λ e. done (only []) e) m k ≡ done s j → T (has s r) ↔ ((¬ C) × P)
unfolding ◌∈◌
unless_rows true C P m s k j r c h e = has_by (only []) s r _ (done_value e) (only_iff [] r then (λ x. absurd x, λ x. x.0 (c.0 tt)))
unless_rows false C P m s k j r c h e = h e then (λ p. (λ x. c.1 x, p), λ x. x.1)

-- what is read is what belongs
module _ (names : Evidence) (W : World) (shows : Shows names W) (sets : List RowSet) (D : Meanings) (agree : Agree sets D) where
  name_rows_lem : (u l : ℕ) (p : Polarity) (o : Origin) (k : ℕ) {s : RowSet} {j : ℕ} (r : Row) → IsRow r → read_name names sets u l p o k ≡ done s j → T (has s r) ↔ InName W D u l p o r
  unfolding read_name InName
  name_rows_lem u l p by_certificates k {s} {j} r i q = has_by (names u l p) s r _ (small_done _ s k j q).value (shows u l p r i)
  name_rows_lem u l p (by_definition d) k {s} r i q = has_by (get_or sets d (only [])) s r _ (done_value q) (agree d r i)

  pub leaf_rows : (x : Leaf) (m : Scope) (n : ℕ) → FitLeaf m n x → Words (leaf_words x) → (vs : Values) → Words vs → (k : ℕ) (s : RowSet) (j : ℕ) → read_leaf names sets x vs k ≡ done s j →
      (r : Row) → IsRow r → T (has s r) ↔ BelongsLeaf (InName W) D x vs r
  unfolding read_leaf BelongsLeaf leaf_words All
  leaf_rows (finite rs) m n f t vs w k s j q r i = has_by (only (rows_of vs rs)) s r _ (small_done _ s k j q).value (only_iff (rows_of vs rs) r then rows_of-∈ vs rs r)
  leaf_rows (cofinite rs) m n f t vs w k s j q r i = has_by (all_but (rows_of vs rs)) s r _ (small_done _ s k j q).value (all_but_iff (rows_of vs rs) r then both_not (rows_of-∈ vs rs r))
  leaf_rows (definition d) m n f t vs w k s j q r i = has_by (get_or sets d (only [])) s r _ (done_value q) (agree d r i)
  leaf_rows (listed u l p o) m n f t vs w k s j q r i = name_rows_lem (value vs u) l p o k r i q
  leaf_rows (vetted u l o d) m n f t vs w k s j q r i =
      unless_rows (has (get_or sets d (only [])) (value vs u ∷ [])) _ _ (read_name names sets (value vs u) l plus o) s k j r (agree d (value vs u ∷ []) (issuer_row u _ t.1 vs w))
      (name_rows_lem (value vs u) l plus o k r i) q

along_listed : (W U : World) → Below W U → (k n : ℕ) (p : Polarity) (r : Row) → Along p (InList W k n p r) (InList U k n p r)
unfolding InList
along_listed W U b k n plus r = record { go = λ t. (t.0, b.more k n r t.1) }
along_listed W U b k n minus r = record { go = λ f key. b.less k n r (f key) }

-- an own name goes the way of its definition
name_along : (W U : World) → Below W U → (ks : List Known) (D E : Meanings) → Ways ks D E → (k n : ℕ) (q : Polarity) (o : Origin) (p : Polarity) → T (name_has q o ks p) → (r : Row) →
    Along p (InName W D k n q o r) (InName U E k n q o r)
unfolding name_has InName
name_along W U below ks D E known k n q by_certificates p t r = subst (λ (m : Polarity). Along m (InList W k n q r) (InList U k n q r)) (same_polarity_lem q p t) (along_listed W U below k n q r)
name_along W U below ks D E known k n q (by_definition d) p t r = subst (λ (m : Polarity). Along m (get_or D d (λ x. ⊥) r) (get_or E d (λ x. ⊥) r)) (same_polarity_lem _ p t) (known d r)

-- what is in the one and absent from the other goes the way of the one, if the other goes the opposite way
absent_along : (p : Polarity) {A B C G : Type 0} → Along (opposite p) A B → Along p C G → Along p ((¬ A) × C) ((¬ B) × G)
absent_along plus a c = record { go = λ x. (λ b. x.0 (a.go b), c.go x.1) }
absent_along minus a c = record { go = λ x. (λ b. x.0 (a.go b), c.go x.1) }

-- what belongs grows with +, shrinks with −
pub leaf_along : (W U : World) → Below W U → (ks : List Known) (D E : Meanings) → Ways ks D E → (x : Leaf) (p : Polarity) → T (leaf_has x ks p) → (vs : Values) (r : Row) →
    Along p (BelongsLeaf (InName W) D x vs r) (BelongsLeaf (InName U) E x vs r)
unfolding leaf_has BelongsLeaf
leaf_along W U below ks D E known (finite rs) p t vs r = along_same p _
leaf_along W U below ks D E known (cofinite rs) p t vs r = along_same p _
leaf_along W U below ks D E known (definition d) p t vs r = subst (λ (q : Polarity). Along q (get_or D d (λ x. ⊥) r) (get_or E d (λ x. ⊥) r)) (same_polarity_lem _ p t) (known d r)
leaf_along W U below ks D E known (listed u n q o) p t vs r = name_along W U below ks D E known (value vs u) n q o p t r
leaf_along W U below ks D E known (vetted u n o d) p t vs r =
    let declared = T_right (name_has plus o ks p) (same_polarity (get_or ks d unknown).declared (opposite p)) t in
    let listed = T_left (name_has plus o ks p) (same_polarity (get_or ks d unknown).declared (opposite p)) t in
    absent_along p (subst (λ (q : Polarity). Along q (get_or D d (λ x. ⊥) (value vs u ∷ [])) (get_or E d (λ x. ⊥) (value vs u ∷ []))) (same_polarity_lem _ (opposite p) declared) (known d (value vs u ∷ [])))
    (name_along W U below ks D E known (value vs u) n plus o p listed r)

not_both : (q : Polarity) → T (same_polarity q plus) → T (same_polarity q minus) → ⊥
not_both plus t u = u
not_both minus t u = t

-- no name has both
name_not_both : (q : Polarity) (o : Origin) (ks : List Known) → T (name_has q o ks plus) → T (name_has q o ks minus) → ⊥
unfolding name_has
name_not_both q by_certificates ks t u = not_both q t u
name_not_both q (by_definition d) ks t u = not_both (get_or ks d unknown).declared t u

-- with both polarities it is read the same whatever is held
pub leaf_same : (names names' : Evidence) (sets sets' : List RowSet) (ks : List Known) (x : Leaf) → T (leaf_has x ks plus) → T (leaf_has x ks minus) → (vs : Values) (k : ℕ) →
    read_leaf names sets x vs k ≡ read_leaf names' sets' x vs k
unfolding leaf_has read_leaf
leaf_same names names' sets sets' ks (finite rs) t u vs k = refl
leaf_same names names' sets sets' ks (cofinite rs) t u vs k = refl
leaf_same names names' sets sets' ks (definition d) t u vs k = absurd (not_both (get_or ks d unknown).declared t u)
leaf_same names names' sets sets' ks (listed x n p o) t u vs k = absurd (name_not_both p o ks t u)
leaf_same names names' sets sets' ks (vetted x n o d) t u vs k = absurd (name_not_both plus o ks (T_left (name_has plus o ks plus) _ t) (T_left (name_has plus o ks minus) _ u))

-- the value does not depend on the draws made before
name_steady : (names : Evidence) (sets : List RowSet) (k n : ℕ) (p : Polarity) (o : Origin) → Steady (read_name names sets k n p o)
unfolding read_name
name_steady names sets k n p by_certificates = small_steady (names k n p)
name_steady names sets k n p (by_definition d) = give_steady _

pub leaf_steady : (names : Evidence) (sets : List RowSet) (x : Leaf) (vs : Values) → Steady (read_leaf names sets x vs)
unfolding read_leaf
leaf_steady names sets (finite rs) vs = small_steady (only (rows_of vs rs))
leaf_steady names sets (cofinite rs) vs = small_steady (all_but (rows_of vs rs))
leaf_steady names sets (definition d) vs = give_steady _
leaf_steady names sets (listed t n p o) vs = name_steady names sets (value vs t) n p o
leaf_steady names sets (vetted t n o d) vs = either_steady (has (get_or sets d (only [])) (value vs t ∷ [])) _ _ (give_steady (only [])) (name_steady names sets (value vs t) n plus o)

-- what is not open is finite
name_finite : (names : Evidence) → FiniteNames names → (sets : List RowSet) (ks : List Known) → FiniteSets ks sets → (k n : ℕ) (p : Polarity) (o : Origin) → T (not (name_open p o ks)) →
    (i : ℕ) {s : RowSet} {j : ℕ} → read_name names sets k n p o i ≡ done s j → IsFinite s
unfolding name_open read_name IsFinite
name_finite names a sets ks b k n plus by_certificates t i {s} {j} q = subst IsFinite (small_done (names k n plus) s i j q).value (a k n)
name_finite names a sets ks b k n minus by_certificates t i q = absurd t
name_finite names a sets ks b k n p (by_definition d) t i q = subst IsFinite (done_value q) (b d t)

pub leaf_finite : (names : Evidence) → FiniteNames names → (sets : List RowSet) (ks : List Known) → FiniteSets ks sets → (x : Leaf) → T (not (leaf_open x ks)) → (vs : Values) →
    (k : ℕ) (s : RowSet) (j : ℕ) → read_leaf names sets x vs k ≡ done s j → IsFinite s
unfolding leaf_open read_leaf IsFinite
leaf_finite names a sets ks b (finite rs) t vs k s j q = subst IsFinite (small_done (only (rows_of vs rs)) s k j q).value tt
leaf_finite names a sets ks b (cofinite rs) t vs k s j q = absurd t
leaf_finite names a sets ks b (definition d) t vs k s j q = subst IsFinite (done_value q) (b d t)
leaf_finite names a sets ks b (listed u n p o) t vs k s j q = name_finite names a sets ks b (value vs u) n p o t k q
leaf_finite names a sets ks b (vetted u n o d) t vs k s j q =
    either_done IsFinite (has (get_or sets d (only [])) (value vs u ∷ [])) _ _ (λ e. subst IsFinite (done_value e) tt) (name_finite names a sets ks b (value vs u) n plus o t k) q

-- no leaf is refused with 12
name_not_12 : (names : Evidence) (sets : List RowSet) (k n : ℕ) (p : Polarity) (o : Origin) → Not12 (read_name names sets k n p o)
unfolding read_name
name_not_12 names sets k n p by_certificates = small_not (names k n p)
name_not_12 names sets k n p (by_definition d) = give_not _

pub leaf_not_12 : (names : Evidence) (sets : List RowSet) (x : Leaf) (vs : Values) → Not12 (read_leaf names sets x vs)
unfolding read_leaf
leaf_not_12 names sets (finite rs) vs = small_not (only (rows_of vs rs))
leaf_not_12 names sets (cofinite rs) vs = small_not (all_but (rows_of vs rs))
leaf_not_12 names sets (definition d) vs = give_not _
leaf_not_12 names sets (listed u n p o) vs = name_not_12 names sets (value vs u) n p o
leaf_not_12 names sets (vetted u n o d) vs = either_not (has (get_or sets d (only [])) (value vs u ∷ [])) _ _ (give_not (only [])) (name_not_12 names sets (value vs u) n plus o)
