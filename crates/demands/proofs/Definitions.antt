-- Checked definitions, one after the other, in a policy of either format: the sets read for them are tidy and have what the definitions mean, their meanings
-- follow their declared polarities from world to world, and 12 is not met.
use Prim.Native.Nat.{ℕ, zero, suc}
use mathlib.Core.Path.{◌≡◌, refl, sym, ◌∙◌, ap, subst}
use mathlib.Core.Logic.{◌↔◌}
use mathlib.Core.Bool.{not}
use mathlib.Core.List.{List, [], ◌∷◌, ◌++◌}
use native.Mathlib.Omega.{arith}
use lib.Dec.{T}
use lib.ListN.{length}
use Rattle.refusals.specs.RefusalTable.{complement_drawn}
use Rattle.rows.specs.Word.{All, Words}
use Rattle.rows.specs.Row.{Row, IsRow}
use Rattle.rows.specs.Name.{plus}
use Rattle.rows.specs.Sets.{RowSet, has, listing}
use Rattle.rows.proofs.Case.{iff_refl}
use Rattle.rows.proofs.Lists.{length_snoc}
use Rattle.rows.proofs.Sets.{none_proper}
use Rattle.policy.specs.OwnKey.{Scope}
use Rattle.policy.specs.Syntax.{Expr}
use Rattle.policy.specs.Words.{expr_words}
use Rattle.policy.specs.WellFormed.{Fit}
use Rattle.policy.specs.Parse.{parse, parsed}
use Rattle.policy.specs.Polarity.{Known, scope_of, draws_closed, Verdict}
use Rattle.policy.specs.Table.{Entry, entry_words}
use Rattle.policy.specs.Definitions.{known_of}
use Rattle.policy.proofs.Decoding.{parse_words, parse_fits}
use Rattle.policy.proofs.Judging.{Accepted, none, one, entry_words_lem}
use Rattle.meaning.specs.Evidence.{Evidence}
use Rattle.meaning.specs.Reading.{Result, done, refused, read}
use Rattle.meaning.specs.World.{World, Below}
use Rattle.meaning.specs.Belonging.{Meanings, Belongs, meanings_by, meanings}
use Rattle.meaning.specs.Faithful.{Tidy, ProperNames, TidySets, Shows, Agree}
use Rattle.meaning.specs.Monotone.{Along, Ways}
use Rattle.meaning.specs.Closed.{IsFinite, FiniteNames, FiniteSets}
use Rattle.meaning.proofs.Claims.{along_same}
use Rattle.meaning.proofs.Proper.{read_tidy}
use Rattle.meaning.proofs.Faithful.{read_rows}
use Rattle.meaning.proofs.Monotone.{monotone}
use Rattle.meaning.proofs.Closed.{closed_finite, never_12}
use Rattle.demands.specs.Query.{Outcome, answered, read_from}
use Rattle.demands.specs.Query as Query

-- a whole expression that was parsed from words keeps the rules, and its words are words
pub record Sound (scope : Scope) (e : Expr) : Type 0 where
  pub fit : Fit scope 0 e
  pub words : Words (expr_words e 0)

pub parsed_sound : (scope : Scope) (ws : List ℕ) (e : Expr) → parse scope ws ≡ parsed e → Words ws → Sound scope e
parsed_sound scope ws e p w = record { fit = (parse_fits scope ws e p).fit; words = subst Words (parse_words scope ws e p) w }

-- no values are words
pub no_values : Words []
unfolding All
no_values = tt

tidy_snoc : (sets : List RowSet) → TidySets sets → (s : RowSet) → Tidy s → TidySets (sets ++ (s ∷ []))
tidy_snoc [] t s h zero = h
tidy_snoc [] t s h (suc d) = t d
tidy_snoc (y ∷ sets) t s h zero = t zero
tidy_snoc (y ∷ sets) t s h (suc d) = tidy_snoc sets (λ c. t (suc c)) s h d

agree_snoc : (sets : List RowSet) (D : Meanings) → length sets ≡ length D → Agree sets D → (s : RowSet) (P : Row → Type 0) → ((r : Row) → IsRow r → T (has s r) ↔ P r) →
    Agree (sets ++ (s ∷ [])) (D ++ (P ∷ []))
agree_snoc [] [] m g s P h zero r i = h r i
agree_snoc [] [] m g s P h (suc d) r i = g d r i
agree_snoc [] (x ∷ D) m g s P h d r i = absurd (omega arith)
agree_snoc (y ∷ sets) [] m g s P h d r i = absurd (omega arith)
agree_snoc (y ∷ sets) (x ∷ D) m g s P h zero r i = g zero r i
agree_snoc (y ∷ sets) (x ∷ D) m g s P h (suc d) r i = agree_snoc sets D (omega arith) (λ c q j. g (suc c) q j) s P h d r i

ways_snoc : (ks : List Known) (D E : Meanings) → length ks ≡ length D → length ks ≡ length E → Ways ks D E →
    (k : Known) (P Q : Row → Type 0) → ((r : Row) → Along k.declared (P r) (Q r)) → Ways (ks ++ (k ∷ [])) (D ++ (P ∷ [])) (E ++ (Q ∷ []))
ways_snoc [] [] [] m n w k P Q a zero r = a r
ways_snoc [] [] [] m n w k P Q a (suc d) r = along_same plus ⊥
ways_snoc [] [] (y ∷ E) m n w k P Q a d r = absurd (omega arith)
ways_snoc [] (x ∷ D) E m n w k P Q a d r = absurd (omega arith)
ways_snoc (l ∷ ks) [] E m n w k P Q a d r = absurd (omega arith)
ways_snoc (l ∷ ks) (x ∷ D) [] m n w k P Q a d r = absurd (omega arith)
ways_snoc (l ∷ ks) (x ∷ D) (y ∷ E) m n w k P Q a zero r = w zero r
ways_snoc (l ∷ ks) (x ∷ D) (y ∷ E) m n w k P Q a (suc d) r = ways_snoc ks D E (omega arith) (omega arith) (λ c q. w (suc c) q) k P Q a d r

-- from world to world, through the definitions
module _ (format : ℕ) (W U : World) (b : Below W U) where
  pub ways : {ours : ℕ} {policy : List ℕ} {xs : List Entry} {ks ls : List Known} {es : List Expr} → Accepted ours policy xs ks es ls →
      (D E : Meanings) → length ks ≡ length D → length ks ≡ length E → Ways ks D E → Ways ls (meanings format W es D) (meanings format U es E)
  unfolding meanings_by
  ways none D E m n w = w
  ways (one {x = x} {ks = ks} {e = e} a rest) D E m n w =
      let P = Belongs format W D e [] in
      let Q = Belongs format U E e [] in
      ways rest (D ++ (P ∷ [])) (E ++ (Q ∷ []))
      (length_snoc ks (known_of x e ks) ∙ ap suc m ∙ sym (length_snoc D P))
      (length_snoc ks (known_of x e ks) ∙ ap suc n ∙ sym (length_snoc E Q))
      (ways_snoc ks D E m n w (known_of x e ks) P Q (λ r. monotone format W U b ks D E w e (known_of x e ks).declared a.has [] r))

-- an answered call read the query, last, from sets that have what the definitions mean
pub record Reached (format : ℕ) (names : Evidence) (D : Meanings) (q : Expr) (S : RowSet) (j : ℕ) : Type 1 where
  pub sets : List RowSet
  pub draws : ℕ
  pub last : read format names sets q [] draws ≡ done S j
  pub agree : Agree sets D
  pub tidy : TidySets sets

end_reached : (v w : Verdict) (j : ℕ) (S : RowSet) (a : Result RowSet) →
    (elim a as (λ c. Outcome) [ done s k ↦ answered v k s | refused n ↦ Query.refused n 16 ]) ≡ answered w j S → a ≡ done S j
end_reached v w j S (done s k) e = cc
end_reached v w j S (refused n) e = let z : ◌≡◌ {A = ℕ} 0 1 = cc in absurd (omega arith)

module _ (format : ℕ) (names : Evidence) (W : World) (shows : Shows names W) (proper : ProperNames names) (ours : ℕ) (policy : List ℕ) (words : Words policy) (q : Expr) (v : Verdict) where
  pub reached : {xs : List Entry} {ks ls : List Known} {es : List Expr} → Accepted ours policy xs ks es ls → (sets : List RowSet) (D : Meanings) (k : ℕ) → length sets ≡ length D →
      Agree sets D → TidySets sets → (w : Verdict) (j : ℕ) (S : RowSet) → read_from format names es q v sets k ≡ answered w j S → Reached format names (meanings format W es D) q S j
  unfolding read_from meanings_by
  reached none sets D k m g t w j S h =
      record { sets = sets; draws = k; last = end_reached v w j S (read format names sets q [] k) h; agree = g; tidy = t }
  reached (one {x = x} {ks = ks} {e = e} {es = es} a rest) sets D k m g t w j S h =
      go (λ s i l g' t' f. reached rest (sets ++ (s ∷ [])) (D ++ (Belongs format W D e [] ∷ [])) i l g' t' w j S f) (read format names sets e [] k) refl
    where
      go : ((s : RowSet) (i : ℕ) → length (sets ++ (s ∷ [])) ≡ length (D ++ (Belongs format W D e [] ∷ [])) → Agree (sets ++ (s ∷ [])) (D ++ (Belongs format W D e [] ∷ [])) →
          TidySets (sets ++ (s ∷ [])) → read_from format names es q v (sets ++ (s ∷ [])) i ≡ answered w j S →
          Reached format names (meanings format W es (D ++ (Belongs format W D e [] ∷ []))) q S j) →
          (b : Result RowSet) → read format names sets e [] k ≡ b → Reached format names (meanings format W es (D ++ (Belongs format W D e [] ∷ []))) q S j
      go ih (done s i) f =
          let o = parsed_sound (scope_of ours ks) (entry_words policy x) e a.parses (entry_words_lem policy x words) in
          ih s i (length_snoc sets s ∙ ap suc m ∙ sym (length_snoc D (Belongs format W D e [])))
          (agree_snoc sets D m g s (Belongs format W D e []) (λ r z. read_rows format names W shows proper sets D g t e (scope_of ours ks) 0 o.fit o.words [] no_values k s i f r z))
          (tidy_snoc sets t s (read_tidy format names sets proper t e (scope_of ours ks) 0 o.fit o.words [] no_values k s i f))
          (rw (f, read_from) at h)
      go ih (refused n) f =
          let g : Query.refused n (length sets) ≡ answered w j S = rw (f, read_from) at h in
          let z : ◌≡◌ {A = ℕ} 0 1 = cc in absurd (omega arith)

finite_snoc : (ks : List Known) (sets : List RowSet) → length ks ≡ length sets → FiniteSets ks sets → (k : Known) (s : RowSet) → (T (not k.is_open) → IsFinite s) →
    FiniteSets (ks ++ (k ∷ [])) (sets ++ (s ∷ []))
finite_snoc [] [] m f k s h zero t = h t
finite_snoc [] [] m f k s h (suc d) t = f d t
finite_snoc [] (y ∷ sets) m f k s h d t = absurd (omega arith)
finite_snoc (x ∷ ks) [] m f k s h d t = absurd (omega arith)
finite_snoc (x ∷ ks) (y ∷ sets) m f k s h zero t = f zero t
finite_snoc (x ∷ ks) (y ∷ sets) m f k s h (suc d) t = finite_snoc ks sets (omega arith) (λ c u. f (suc c) u) k s h d t

-- the definitions, then the query, draw from nothing open: 12 is not met in any of them
module _ (format : ℕ) (names : Evidence) (finite : FiniteNames names) (ours : ℕ) (policy : List ℕ) (q : Expr) (v : Verdict) (part : ℕ) where
  pub reads_not_12 : {xs : List Entry} {ks ls : List Known} {es : List Expr} → Accepted ours policy xs ks es ls → T (draws_closed q ls) → (sets : List RowSet) (k : ℕ) →
      length ks ≡ length sets → FiniteSets ks sets → ¬ (read_from format names es q v sets k ≡ Query.refused complement_drawn part)
  unfolding read_from known_of
  reads_not_12 (none {ks = ks}) closed sets k m f h = go (read format names sets q [] k) refl h
    where
      go : (a : Result RowSet) → read format names sets q [] k ≡ a →
          (elim a as (λ c. Outcome) [ done s j ↦ answered v j s | refused n ↦ Query.refused n 16 ]) ≡ Query.refused complement_drawn part → ⊥
      go (done s j) e g = let z : ◌≡◌ {A = ℕ} 0 1 = cc in absurd (omega arith)
      go (refused n) e g = let z : n ≡ complement_drawn = cc in never_12 format names finite sets ks f q closed [] k (e ∙ ap refused z)
  reads_not_12 (one {x = x} {ks = ks} {e = e} {es = es} a rest) closed sets k m f h =
      go (λ s i g l. reads_not_12 rest closed (sets ++ (s ∷ [])) i (length_snoc ks (known_of x e ks) ∙ ap suc m ∙ sym (length_snoc sets s)) g l) (read format names sets e [] k) refl h
    where
      go : ((s : RowSet) (i : ℕ) → FiniteSets (ks ++ (known_of x e ks ∷ [])) (sets ++ (s ∷ [])) → ¬ (read_from format names es q v (sets ++ (s ∷ [])) i ≡ Query.refused complement_drawn part)) →
          (b : Result RowSet) → read format names sets e [] k ≡ b →
          (elim b as (λ c. Outcome) [ done s i ↦ read_from format names es q v (sets ++ (s ∷ [])) i | refused n ↦ Query.refused n (length sets) ]) ≡ Query.refused complement_drawn part → ⊥
      go ih (done s i) d l = ih s i (finite_snoc ks sets m f (known_of x e ks) s (λ t. closed_finite format names finite sets ks f e t [] k s i d)) l
      go ih (refused n) d l = let z : n ≡ complement_drawn = cc in never_12 format names finite sets ks f e a.closed [] k (d ∙ ap refused z)

-- before the first definition
pub none_agree : Agree [] []
unfolding has
none_agree d r i = iff_refl

pub none_tidy : TidySets []
unfolding listing
none_tidy d = record { proper = none_proper; few = omega arith }

pub none_finite : FiniteSets [] []
unfolding IsFinite
none_finite d t = tt
