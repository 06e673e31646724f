-- The checks of leaves: what each definition reads is what the code reads, one after the other.
use Rattle.std.proofs.Common.{ℕ, zero, suc, ◌≡◌, ◌≢◌, ◌<◌, Bool, true, false, List, [], ◌∷◌, Result, Ok, Err, Option, Some, None, cond, get_or, ltb, leb, eqb, refl, sym, ◌∙◌, ap, arith}
use mathlib.Core.Logic.{◌⊎◌, inl, inr}
use lib.ListN.{length-map}
use borrow.Author.Tests.{ltb-true, lt-leb, ne_eqb}
use Rattle.refusals.specs.RefusalTable.{bad_word, not_in_scope}
use Rattle.refusals.specs.declared.Refusal.{Refusal}
use Rattle.refusals.specs.declared.Refusal.TheVariants.{NotInScope}
use Rattle.refusals.specs.Numbers.{number}
use Rattle.rows.specs.Name.{Polarity, plus, minus, polarity_of, is_name}
use Rattle.rows.specs.Polarities.{polarity_is}
use Rattle.rows.specs.declared.Polarity as Held
use Rattle.rows.specs.declared.Polarity.TheVariants.{Plus, Minus}
use Rattle.rows.specs.contracts.Polarity.{the_type}
use denote.Enum.Bare.{sameb}
use Rattle.policy.specs.declared.codes.Code.{Code}
use Rattle.policy.specs.declared.codes.Code.TheVariants as code
use Rattle.policy.specs.Codes.{code_number}
use Rattle.policy.specs.OwnKey.{reach, Origin, by_certificates, by_definition, definition_of, origin_of, is_available, origin}
use Rattle.policy.specs.Leaf.{unknown, Leaf, finite, cofinite, definition, listed, vetted, declaration, leaf_has, leaf_open, name_has, name_open, leaf_of, leaf_as}
use Rattle.policy.specs.Syntax.{Term, atom, var, leaf}
use Rattle.policy.specs.Decode.{Read, got, refused, Reader, after, need, give, refuse, word_where, polarity, issuer, rows}
use Rattle.policy.specs.Polarity.{has_polarity, open_expr, draws_closed}
use Rattle.policy.proofs.Basics.{impossible}
use Rattle.check_terms.specs.Answers.{kept, keeping, nothing}
use Rattle.check_polarity.specs.Earlier.{Before, scope_at, known_is, unnamed, earlier_is, number_in}
use Rattle.check_polarity.specs.Facts.{facts_for, term_facts, difference_of, one_polarity}
use Rattle.check_polarity.specs.declared.Facts.{Facts}
use Rattle.check_polarity.specs.declared.Earlier.{Earlier}
use Rattle.check_polarity.proofs.EarlierAnswers.{known_count, known_get}
use Rattle.check_leaves.specs.Checks.{literal_facts, definition_facts, issued, is_own, facts_from, name_facts_for, leaf_facts}

-- whatever was read, its facts are these
pub forgot : {A B : Type 0} (x : Read A) {b : B} {us : List ℕ} {k : ℕ} → got tt us k ≡ kept nothing x → got b us k ≡ kept (λ a. b) x
unfolding kept
forgot (got a vs j) e = cc
forgot (refused n) e = impossible cc

pub kept_give : {A B C : Type 0} (F : B → C) (g : A → B) (x : Read A) → kept F (after x (λ a. give (g a))) ≡ kept (λ a. F (g a)) x
unfolding kept
kept_give F g (got a us k) = refl
kept_give F g (refused n) = refl

pub forgot_refused : {A B : Type 0} (x : Read A) (b : B) {n : ℕ} → refused n ≡ kept nothing x → refused n ≡ kept (λ a. b) x
unfolding kept
forgot_refused (got a vs j) b e = impossible cc
forgot_refused (refused m) b e = cc

-- an earlier definition
one_facts : (b : Before) (d : ℕ) (p : Held.Polarity) (o : Bool) → (get_or b.known d unknown).declared ≡ polarity_is p → (get_or b.known d unknown).is_open ≡ o → one_polarity p o ≡ facts_for b (leaf (definition d))
unfolding facts_for has_polarity leaf_has open_expr leaf_open draws_closed
one_facts b d Plus o e f = rw (e, f)
one_facts b d Minus o e f = rw (e, f)

pub definition_is : (x : Earlier) (d : ℕ) → d < x.count →
    one_polarity (get_or x.definitions d unnamed).polarity (get_or x.definitions d unnamed).«open» ≡ facts_for (earlier_is x) (leaf (definition d))
unfolding known_is
definition_is x d h =
    let at : get_or (earlier_is x).known d unknown ≡ known_is (get_or x.definitions d unnamed) = known_get x d h in
    one_facts (earlier_is x) d (get_or x.definitions d unnamed).polarity (get_or x.definitions d unnamed).«open» (ap (λ y. y.declared) at) (ap (λ y. y.is_open) at)

pub reach_is : (x : Earlier) → reach (scope_at (earlier_is x)) ≡ x.count
reach_is x = length-map (earlier_is x).known declaration ∙ known_count x

-- ---- a name's facts

-- the facts, or the refusal
abbrev pub told : Result Facts Refusal → Reader Facts
told (Ok f) = give f
told (Err r) = refuse (number r)

module _ (b : Before) (t : Term) (name : ℕ) (p : Polarity) where
  own_origin : (t : Term) → is_own b.our_key t ≡ true → origin_of (scope_at b) t name p ≡ by_definition (definition_of (scope_at b).available name p)
  unfolding origin_of is_own
  own_origin (atom a) e = rw (e, origin_of)
  own_origin (var i) e = impossible cc

  other_origin : (t : Term) → is_own b.our_key t ≡ false → origin_of (scope_at b) t name p ≡ by_certificates
  unfolding origin_of is_own
  other_origin (atom a) e = rw (e, origin_of)
  other_origin (var i) e = refl

  module _ (own : is_own b.our_key t ≡ true) {r : Option ℕ} (e : r ≡ number_in b name p) where
    d : ℕ
    d = definition_of (scope_at b).available name p

    looked : (c : Bool) → ltb d (reach (scope_at b)) ≡ c → r ≡ cond c (Some d) None
    unfolding number_in d
    looked c h = e ∙ ap (λ c. cond c (Some d) None) h

    found_is : (c : Bool) → ltb d (reach (scope_at b)) ≡ c → name_facts_for b t name p ≡ elim c as (λ c. Result Facts Refusal) [ true ↦ Ok (facts_for b (leaf (listed t name p (by_definition d)))) | false ↦ Err NotInScope ]
    unfolding name_facts_for facts_from is_available d
    found_is c h = ap (facts_from b t name p) (own_origin t own) ∙ ap (λ c. elim c as (λ c. Result Facts Refusal) [ true ↦ Ok (facts_for b (leaf (listed t name p (by_definition d)))) | false ↦ Err NotInScope ]) h

    pub undefined : r ≡ None → Err NotInScope ≡ name_facts_for b t name p
    undefined f = go (ltb d (reach (scope_at b))) refl
      where
        go : (c : Bool) → ltb d (reach (scope_at b)) ≡ c → Err NotInScope ≡ name_facts_for b t name p
        go true h = let z = looked true h in impossible cc
        go false h = sym (found_is false h)

    pub defined : {n : ℕ} → r ≡ Some n → (n < reach (scope_at b)) × (Ok (facts_for b (leaf (definition n))) ≡ name_facts_for b t name p)
    unfolding facts_for has_polarity leaf_has name_has open_expr leaf_open name_open draws_closed
    defined {n} f = go (ltb d (reach (scope_at b))) refl
      where
        go : (c : Bool) → ltb d (reach (scope_at b)) ≡ c → (n < reach (scope_at b)) × (Ok (facts_for b (leaf (definition n))) ≡ name_facts_for b t name p)
        go true h = let z = looked true h in let q : n ≡ d = cc in rw q (ltb-true d (reach (scope_at b)) h, sym (found_is true h))
        go false h = let z = looked false h in impossible cc

  origin_told : (us : List ℕ) (k : ℕ) → kept (λ x. facts_for b (leaf x)) (after (origin (scope_at b) t name p us k) (λ o. give (listed t name p o))) ≡ told (name_facts_for b t name p) us k
  unfolding origin name_facts_for facts_from kept
  origin_told us k = go (is_available (scope_at b) (origin_of (scope_at b) t name p))
    where
      go : (c : Bool) → kept (λ x. facts_for b (leaf x)) (after (after (need not_in_scope c us k) (λ u. give (origin_of (scope_at b) t name p))) (λ o. give (listed t name p o))) ≡
          told (elim c as (λ c. Result Facts Refusal) [ true ↦ Ok (facts_for b (leaf (listed t name p (origin_of (scope_at b) t name p)))) | false ↦ Err NotInScope ]) us k
      go true = refl
      go false = refl

pub certified : (b : Before) (t : Term) (name : ℕ) (q : Held.Polarity) (o : Bool) (f : Facts) → is_own b.our_key t ≡ false → o ≡ sameb the_type q Minus → f ≡ one_polarity q o → Ok f ≡ name_facts_for b t name (polarity_is q)
unfolding name_facts_for facts_from is_available facts_for has_polarity leaf_has name_has open_expr leaf_open name_open draws_closed
certified b t name Plus o f e i g = sym (ap (facts_from b t name plus) (other_origin b t name plus t e) ∙ ap Ok (sym (g ∙ ap (one_polarity Plus) i)))
certified b t name Minus o f e i g = sym (ap (facts_from b t name minus) (other_origin b t name minus t e) ∙ ap Ok (sym (g ∙ ap (one_polarity Minus) i)))

-- ---- codes 4 and 8

-- an issuer and a name, and then the rest
module _ {A B : Type 0} (F : A → B) (n : ℕ) (R : Term → ℕ → Reader A) (Q : Term → ℕ → Reader B) (same : (t : Term) (name : ℕ) (us : List ℕ) (k : ℕ) → kept F (R t name us k) ≡ Q t name us k) where
  issued_then : (us : List ℕ) (k : ℕ) → kept F (after (issuer n us k) (λ t vs j. after (word_where bad_word is_name vs j) (R t))) ≡ after (issued n us k) (λ i. Q i.0 i.1)
  unfolding issued kept
  issued_then us k = go (issuer n us k)
    where
      named : (t : Term) (x : Read ℕ) → kept F (after x (R t)) ≡ after {A = Term × ℕ} (after x (λ name. give (t, name))) (λ i. Q i.0 i.1)
      named t (got name vs j) = same t name vs j
      named t (refused m) = refl

      go : (x : Read Term) → kept F (after x (λ t vs j. after (word_where bad_word is_name vs j) (R t))) ≡
          after {A = Term × ℕ} (after x (λ t vs j. after (word_where bad_word is_name vs j) (λ name. give (t, name)))) (λ i. Q i.0 i.1)
      go (got t vs j) = named t (word_where bad_word is_name vs j)
      go (refused m) = refl

module _ (b : Before) where
  abbrev F : Leaf → Facts
  F x = facts_for b (leaf x)

  abbrev pub name_rest : Term → ℕ → Reader Facts
  name_rest t name = λ us k. after (word_where bad_word (λ w. leb w 1) us k) (λ w. told (name_facts_for b t name (polarity_of w)))

  name_same : (t : Term) (name : ℕ) (us : List ℕ) (k : ℕ) → kept F (after (polarity us k) (λ p vs j. after (origin (scope_at b) t name p vs j) (λ o. give (listed t name p o)))) ≡ name_rest t name us k
  unfolding polarity kept
  name_same t name us k = go (word_where bad_word (λ w. leb w 1) us k)
    where
      go : (x : Read ℕ) → kept F (after (after x (λ w. give (polarity_of w))) (λ p vs j. after (origin (scope_at b) t name p vs j) (λ o. give (listed t name p o)))) ≡ after x (λ w. told (name_facts_for b t name (polarity_of w)))
      go (got w vs j) = origin_told b t name (polarity_of w) vs j
      go (refused m) = refl

  pub name_reads : (n : ℕ) (us : List ℕ) (k : ℕ) → leaf_facts b n 4 us k ≡ after (issued n us k) (λ i. name_rest i.0 i.1)
  unfolding leaf_facts keeping leaf_as leaf_of
  name_reads n us k = issued_then F n (λ t name us k. after (polarity us k) (λ p vs j. after (origin (scope_at b) t name p vs j) (λ o. give (listed t name p o)))) name_rest name_same us k

  abbrev pub vetted_rest : Term → ℕ → Reader Facts
  vetted_rest t name = λ us k. after (word_where bad_word (λ w. leb w 0) us k) (λ w vs j. after (told (name_facts_for b t name plus) vs j) (λ f vs j. after (definition_facts b vs j) (λ g. give (difference_of f g))))

  only_plus : (w : ℕ) → eqb w 0 ≡ leb w 0
  only_plus zero = refl
  only_plus (suc w) = rw (ne_eqb (suc w) 0 (λ e. absurd (omega arith)), lt-leb (suc w) 0 (omega arith)) refl

  plus_word : (us : List ℕ) (k : ℕ) → word_where bad_word (λ w. eqb w 0) us k ≡ word_where bad_word (λ w. leb w 0) us k
  unfolding word_where
  plus_word [] k = refl
  plus_word (w ∷ us) k = ap (λ c. after (need bad_word c us k) (λ t. give w)) (only_plus w)

  vetted_same : (t : Term) (name : ℕ) (us : List ℕ) (k : ℕ) →
      kept F (after (word_where bad_word (λ w. eqb w 0) us k) (λ p vs j. after (origin (scope_at b) t name plus vs j) (λ o vs j. after (word_where not_in_scope (λ d. ltb d (reach (scope_at b))) vs j) (λ d. give (vetted t name o d))))) ≡ vetted_rest t name us k
  unfolding kept origin name_facts_for facts_from definition_facts keeping difference_of facts_for has_polarity leaf_has open_expr leaf_open draws_closed
  vetted_same t name us k = ap (λ x. kept F (after x (λ p vs j. after (origin (scope_at b) t name plus vs j) (λ o vs j. after (word_where not_in_scope (λ d. ltb d (reach (scope_at b))) vs j) (λ d. give (vetted t name o d)))))) (plus_word us k) ∙ go (word_where bad_word (λ w. leb w 0) us k)
    where
      o : Origin
      o = origin_of (scope_at b) t name plus

      last : (x : Read ℕ) → kept F (after x (λ d. give (vetted t name (origin_of (scope_at b) t name plus) d))) ≡
          after (kept (λ d. F (definition d)) x) (λ g. give (difference_of (F (listed t name plus (origin_of (scope_at b) t name plus))) g))
      last (got d vs j) = refl
      last (refused m) = refl

      chosen : (c : Bool) (vs : List ℕ) (j : ℕ) →
          kept F (after (after (need not_in_scope c vs j) (λ u. give (origin_of (scope_at b) t name plus))) (λ o vs j. after (word_where not_in_scope (λ d. ltb d (reach (scope_at b))) vs j) (λ d. give (vetted t name o d)))) ≡
          after (told (elim c as (λ c. Result Facts Refusal) [ true ↦ Ok (F (listed t name plus (origin_of (scope_at b) t name plus))) | false ↦ Err NotInScope ]) vs j)
          (λ f vs j. after (kept (λ d. F (definition d)) (word_where not_in_scope (λ d. ltb d (reach (scope_at b))) vs j)) (λ g. give (difference_of f g)))
      chosen true vs j = last (word_where not_in_scope (λ d. ltb d (reach (scope_at b))) vs j)
      chosen false vs j = refl

      go : (x : Read ℕ) →
          kept F (after x (λ p vs j. after (origin (scope_at b) t name plus vs j) (λ o vs j. after (word_where not_in_scope (λ d. ltb d (reach (scope_at b))) vs j) (λ d. give (vetted t name o d))))) ≡
          after x (λ w vs j. after (told (name_facts_for b t name plus) vs j) (λ f vs j. after (definition_facts b vs j) (λ g. give (difference_of f g))))
      go (got w vs j) = chosen (is_available (scope_at b) (origin_of (scope_at b) t name plus)) vs j
      go (refused m) = refl

  pub vetted_reads : (n : ℕ) (us : List ℕ) (k : ℕ) → leaf_facts b n 8 us k ≡ after (issued n us k) (λ i. vetted_rest i.0 i.1)
  unfolding leaf_facts keeping leaf_as leaf_of
  vetted_reads n us k = issued_then F n (λ t name us k. after (word_where bad_word (λ w. eqb w 0) us k) (λ p vs j. after (origin (scope_at b) t name plus vs j) (λ o vs j. after (word_where not_in_scope (λ d. ltb d (reach (scope_at b))) vs j) (λ d. give (vetted t name o d))))) vetted_rest vetted_same us k

-- ---- a leaf by its code

module _ (b : Before) (n : ℕ) (us : List ℕ) (k : ℕ) where
  literal : (f : List (List Term) → Leaf) (c : Bool) → ((rs : List (List Term)) → facts_for b (leaf (f rs)) ≡ term_facts c) → (x : Read (List (List Term))) →
      kept (λ y. facts_for b (leaf y)) (after x (λ rs. give (f rs))) ≡ kept (λ rs. term_facts c) x
  unfolding kept
  literal f c e (got rs vs j) = ap (λ z. got z vs j) (e rs)
  literal f c e (refused m) = refl

  pub finite_reads : leaf_facts b n 1 us k ≡ literal_facts false n us k
  unfolding leaf_facts literal_facts keeping leaf_as leaf_of facts_for has_polarity leaf_has open_expr leaf_open draws_closed
  finite_reads = literal finite false (λ rs. refl) (rows n us k)

  pub cofinite_reads : leaf_facts b n 2 us k ≡ literal_facts true n us k
  unfolding leaf_facts literal_facts keeping leaf_as leaf_of facts_for has_polarity leaf_has open_expr leaf_open draws_closed
  cofinite_reads = literal cofinite true (λ rs. refl) (rows n us k)

  pub definition_reads : leaf_facts b n 3 us k ≡ definition_facts b us k
  unfolding leaf_facts definition_facts keeping leaf_as leaf_of
  definition_reads = kept_give (λ x. facts_for b (leaf x)) definition (word_where not_in_scope (λ d. ltb d (reach (scope_at b))) us k)

  -- a code that is no leaf's
  pub leaf_none : (code : ℕ) → (code ≢ 1) → (code ≢ 2) → (code ≢ 3) → (code ≢ 4) → (code ≢ 8) → refused bad_word ≡ leaf_facts b n code us k
  unfolding leaf_facts keeping kept leaf_as leaf_of
  leaf_none zero f c d m v = refl
  leaf_none (suc zero) f c d m v = absurd (f refl)
  leaf_none (suc (suc zero)) f c d m v = absurd (c refl)
  leaf_none (suc (suc (suc zero))) f c d m v = absurd (d refl)
  leaf_none (suc (suc (suc (suc zero)))) f c d m v = absurd (m refl)
  leaf_none (suc (suc (suc (suc (suc zero))))) f c d m v = refl
  leaf_none (suc (suc (suc (suc (suc (suc zero)))))) f c d m v = refl
  leaf_none (suc (suc (suc (suc (suc (suc (suc zero))))))) f c d m v = refl
  leaf_none (suc (suc (suc (suc (suc (suc (suc (suc zero)))))))) f c d m v = absurd (v refl)
  leaf_none (suc (suc (suc (suc (suc (suc (suc (suc (suc w))))))))) f c d m v = refl

  pub no_leaf_reads : {c : Code} → (c ≡ code.Union) ⊎ ((c ≡ code.Difference) ⊎ (c ≡ code.Comprehension)) → refused bad_word ≡ leaf_facts b n (code_number c) us k
  unfolding leaf_facts keeping kept leaf_as leaf_of
  no_leaf_reads (inl e) = rw e refl
  no_leaf_reads (inr (inl e)) = rw e refl
  no_leaf_reads (inr (inr e)) = rw e refl
