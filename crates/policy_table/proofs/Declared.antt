-- What a policy's table declares, and the definition of a name and polarity among them.
use Prim.Native.Nat.{ℕ, zero, suc, ◌+◌, ◌*◌, ◌-◌, ◌≤◌, ◌<◌}
use mathlib.Core.Path.{◌≡◌, refl, sym, ◌∙◌, ap, subst}
use mathlib.Core.Bool.{Bool, true, false, not, ◌&&◌, ◌||◌}
use mathlib.Core.List.{List, [], ◌∷◌, ◌++◌, map, map-append}
use native.Mathlib.Omega.{arith}
use lib.Dec.{T, eqb, eqb-zero-suc, eqb-suc-zero, eqb-suc-suc}
use lib.ListN.{length, length-map}
use borrow.Author.Tests.{ltb-true, eqb-true, eqb-false, eq-eqb, ne_eqb}
use Rattle.rows.specs.Word.{All}
use Rattle.rows.specs.Name.{Polarity, same_polarity, polarity_of}
use Rattle.rows.proofs.Case.{Case, is_true, is_false, split, true_T}
use Rattle.policy.specs.OwnKey.{Declared, Scope, Origin, by_certificates, by_definition, declares, definition_of, origin_of, is_available, FitOrigin}
use Rattle.policy.specs.Leaf.{Known, declaration}
use Rattle.policy.specs.Syntax.{Term, Expr, var}
use Rattle.policy.specs.Definitions.{known_of}
use Rattle.policy.specs.Table.{Entry, entry_at, named}
use Rattle.policy.proofs.OwnKey.{definition_here, definition_past}
use Rattle.policy_table.specs.Entries.{entry_place, entries_from, entries_before, Polarized, declared_as, declared_in}
use Rattle.policy_table.proofs.PartAnswers.{length_entries}

-- ---- the definition of a name and polarity in a list

module _ (n : ℕ) (q : Polarity) where
  -- none of them is it, nor is one more
  none_more : (y : Declared) (xs : List Declared) → eqb (definition_of (xs ++ (y ∷ [])) n q) (suc (length xs)) ≡ (not (declares y n q) && eqb (definition_of xs n q) (length xs))
  unfolding definition_of
  none_more y [] = go (split (declares y n q))
    where
      go : Case (declares y n q) → eqb (definition_of (y ∷ []) n q) 1 ≡ (not (declares y n q) && eqb 0 0)
      go (is_true e) = rw (definition_here n q y [] e, e)
      go (is_false e) = rw (definition_past n q y [] e, e)
  none_more y (x ∷ xs) = go (none_more y xs) (split (declares x n q)) (split (declares y n q))
    where
      go : eqb (definition_of (xs ++ (y ∷ [])) n q) (suc (length xs)) ≡ (not (declares y n q) && eqb (definition_of xs n q) (length xs)) →
          Case (declares x n q) → Case (declares y n q) →
          eqb (definition_of (x ∷ (xs ++ (y ∷ []))) n q) (suc (suc (length xs))) ≡ (not (declares y n q) && eqb (definition_of (x ∷ xs) n q) (suc (length xs)))
      go ih (is_true e) (is_true f) = rw (definition_here n q x (xs ++ (y ∷ [])) e, f) (eqb-zero-suc (suc (length xs)))
      go ih (is_true e) (is_false f) = rw (definition_here n q x xs e, definition_here n q x (xs ++ (y ∷ [])) e, f, eqb-zero-suc (length xs), eqb-zero-suc (suc (length xs)))
      go ih (is_false e) f = rw (definition_past n q x xs e, definition_past n q x (xs ++ (y ∷ [])) e, eqb-suc-suc (definition_of xs n q) (length xs), eqb-suc-suc (definition_of (xs ++ (y ∷ [])) n q) (suc (length xs))) ih

-- ---- the table's

pub length_declared : (p : List ℕ) (n : ℕ) → length (declared_in p n) ≡ n
unfolding declared_in
length_declared p n = length-map (entries_from n p 2) declared_as ∙ length_entries n p 2

entries_more : (n : ℕ) (p : List ℕ) (at : ℕ) → entries_from (suc n) p at ≡ entries_from n p at ++ (entry_at p (at + 4 * n) ∷ [])
unfolding entries_from
entries_more zero p at = let e : at ≡ at + 4 * 0 = omega arith in ap (λ (a : ℕ). entry_at p a ∷ []) e
entries_more (suc n) p at =
    let e : at + 4 + 4 * n ≡ at + 4 * suc n = omega arith in
    ap (λ (xs : List Entry). entry_at p at ∷ xs) (entries_more n p (at + 4) ∙ ap (λ (a : ℕ). entries_from n p (at + 4) ++ (entry_at p a ∷ [])) e)

pub declared_more : (p : List ℕ) (n : ℕ) → declared_in p (suc n) ≡ declared_in p n ++ (declared_as (entry_at p (entry_place n)) ∷ [])
unfolding declared_in
declared_more p n = ap (map declared_as) (entries_more n p 2) ∙ map-append declared_as (entries_from n p 2) (entry_at p (entry_place n) ∷ [])

-- what is known of the first n definitions, and of one more
pub known_more : (p : List ℕ) (n : ℕ) (ks : List Known) (e : Expr) → map declaration ks ≡ declared_in p n →
    map declaration (ks ++ (known_of (entry_at p (entry_place n)) e ks ∷ [])) ≡ declared_in p (suc n)
unfolding known_of
known_more p n ks e h =
    map-append declaration ks (known_of (entry_at p (entry_place n)) e ks ∷ [])
    ∙ ap (λ (xs : List Declared). xs ++ (declared_as (entry_at p (entry_place n)) ∷ [])) h ∙ sym (declared_more p n)

-- ---- where a name's rows come from, these being available

pub own_within : {ours n : ℕ} {t : Term} {q : Polarity} {o : Origin} (p : List ℕ) (known : ℕ) → FitOrigin (record { our_key = ours; available = declared_in p known }) t n q o →
    o ≡ by_definition (definition_of (declared_in p known) n q) → definition_of (declared_in p known) n q < known
unfolding is_available
own_within {ours} {n} {q = q} p known f e =
    let d = definition_of (declared_in p known) n q in
    let l = ltb-true d _ (true_T _ (subst (λ (x : Origin). T (is_available (record { our_key = ours; available = declared_in p known }) x)) e f.available)) in
    omega (arith, length_declared p known)

pub not_fixed : {s : Scope} {i n : ℕ} {q : Polarity} {o : Origin} → FitOrigin s (var i) n q o → o ≡ by_certificates
unfolding origin_of
not_fixed f = f.is

-- ---- an entry's words

polarities_same : (a b : ℕ) → a ≤ 1 → b ≤ 1 → eqb a b ≡ same_polarity (polarity_of b) (polarity_of a)
unfolding polarity_of
polarities_same zero zero h k = refl
polarities_same zero (suc b) h k = eqb-zero-suc b
polarities_same (suc a) zero h k = eqb-suc-zero a
polarities_same (suc a) (suc b) h k = eq-eqb (suc a) (suc b) (omega arith)

same_name : (a b : ℕ) → eqb a b ≡ eqb b a
same_name a b = go (split (eqb b a))
  where
    go : Case (eqb b a) → eqb a b ≡ eqb b a
    go (is_true e) = eq-eqb a b (sym (eqb-true b a e)) ∙ sym e
    go (is_false e) = ne_eqb a b (λ f. eqb-false b a e (sym f)) ∙ sym e

-- two entries whose polarities are polarities
same_words : (x y : Entry) → Polarized x → Polarized y → (eqb x.name y.name && eqb x.polarity y.polarity) ≡ declares (declared_as y) x.name (polarity_of x.polarity)
unfolding declares
same_words x y h k =
    ap (λ (b : Bool). b && eqb x.polarity y.polarity) (same_name x.name y.name)
    ∙ ap (λ (b : Bool). eqb y.name x.name && b) (polarities_same x.polarity y.polarity h k)

-- no entry before entry i has the name and polarity of x
not_or : (a b : Bool) → (not a && not b) ≡ not (a || b)
not_or true b = refl
not_or false b = refl

pub none_named : (p : List ℕ) (i : ℕ) (x : Entry) → All Polarized (entries_before p i) → Polarized x →
    eqb (definition_of (declared_in p i) x.name (polarity_of x.polarity)) i ≡ not (named (entries_before p i) x)
unfolding declared_in definition_of entries_from entries_before named All
none_named p zero x a h = refl
none_named p (suc i) x a h =
    let n = x.name in
    let q = polarity_of x.polarity in
    let y = entry_at p (entry_place i) in
    let same : (eqb n y.name && eqb x.polarity y.polarity) ≡ declares (declared_as y) n q = same_words x y h a.0 in
    ap (λ (ys : List Declared). eqb (definition_of ys n q) (suc i)) (declared_more p i)
    ∙ ap (λ (k : ℕ). eqb (definition_of (declared_in p i ++ (declared_as y ∷ [])) n q) (suc k)) (sym (length_declared p i))
    ∙ none_more n q (declared_as y) (declared_in p i)
    ∙ ap (λ (k : ℕ). not (declares (declared_as y) n q) && eqb (definition_of (declared_in p i) n q) k) (length_declared p i)
    ∙ ap (λ (b : Bool). not (declares (declared_as y) n q) && b) (none_named p i x a.1 h)
    ∙ ap (λ (b : Bool). not b && not (named (entries_before p i) x)) (sym same)
    ∙ not_or (eqb n y.name && eqb x.polarity y.polarity) (named (entries_before p i) x)

-- ---- the search: none of the first i is it

abbrev declared_from : ℕ → List ℕ → ℕ → List Declared
declared_from n p at = map declared_as (entries_from n p at)

pub record Searching (p : List ℕ) (known n : ℕ) (q : Polarity) (i : ℕ) : Type 0 where
  pub within : i ≤ known
  pub left : definition_of (declared_in p known) n q ≡ i + definition_of (declared_from (known - i) p (entry_place i)) n q

module _ (p : List ℕ) (known n : ℕ) (q : Polarity) where
  pub none_searched : Searching p known n q 0
  unfolding declared_in
  none_searched =
      let e : known ≡ known - 0 = omega arith in
      let f = ap (λ (k : ℕ). definition_of (declared_from k p 2) n q) e in
      record { within = omega arith; left = omega arith }

  module _ (i : ℕ) (s : Searching p known n q i) where
    pub none_left_lem : known ≤ i → definition_of (declared_in p known) n q ≡ known
    unfolding definition_of entries_from
    none_left_lem h =
        let e : known - i ≡ 0 = omega arith in
        let f = ap (λ (k : ℕ). definition_of (declared_from k p (entry_place i)) n q) e in
        omega (arith, s.within, s.left)

    module _ (more : i < known) where
      next : declared_from (known - i) p (entry_place i) ≡ declared_as (entry_at p (entry_place i)) ∷ declared_from (known - (i + 1)) p (entry_place (i + 1))
      unfolding entries_from
      next =
          let e : known - i ≡ suc (known - (i + 1)) = omega arith in
          let f : entry_place i + 4 ≡ entry_place (i + 1) = omega arith in
          ap (λ (k : ℕ). declared_from k p (entry_place i)) e ∙ ap (λ (a : ℕ). declared_as (entry_at p (entry_place i)) ∷ declared_from (known - (i + 1)) p a) f

      module _ (x : Entry) (at : x ≡ entry_at p (entry_place i)) (b : Bool) (asked : b ≡ declares (declared_as x) n q) where
        here : {a : Bool} → b ≡ a → declares (declared_as (entry_at p (entry_place i))) n q ≡ a
        here e = ap (λ (y : Entry). declares (declared_as y) n q) (sym at) ∙ (sym asked ∙ e)

        pub found : b ≡ true → (i < known) × (definition_of (declared_in p known) n q ≡ i)
        found e =
            let f = ap (λ (xs : List Declared). definition_of xs n q) next ∙ definition_here n q _ _ (here e) in
            (more, omega (arith, s.left))

        pub passed : b ≡ false → Searching p known n q (i + 1)
        passed e =
            let f = ap (λ (xs : List Declared). definition_of xs n q) next ∙ definition_past n q _ _ (here e) in
            record { within = omega arith; left = omega (arith, s.left) }
