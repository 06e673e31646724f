-- A name: read from certificates or, under our own key, as the definition that it stands for.
use Prim.Native.Nat.{ℕ, ◌+◌, ◌≤◌, ◌<◌}
use mathlib.Core.Path.{◌≡◌, refl, sym, ap, ◌∙◌}
use mathlib.Core.Bool.{Bool, true, false}
use mathlib.Core.List.{List, []}
use native.Mathlib.Omega.{arith}
use lib.Dec.{eqb}
use lib.ListN.{length, get_or}
use Rattle.rows.specs.Polarities.{polarity_is}
use Rattle.rows.specs.declared.Polarity as Held
use Rattle.rows.specs.Name.{Polarity, polarity_of}
use Rattle.rows.specs.Sets.{RowSet, only, has}
use Rattle.rows.specs.Layout.{set_in, written}
use Rattle.sets.proofs.Standing.{copied_stands}
use Rattle.policy.specs.OwnKey.{Scope, Origin, by_certificates, by_definition, definition_of, origin_of}
use Rattle.policy.specs.Syntax.{Term, atom, var}
use Rattle.policy.specs.Words.{term_words}
use Rattle.policy_table.specs.Entries.{declared_in}
use Rattle.policy_table.proofs.Declared.{own_within, not_fixed}
use Rattle.meaning.specs.Values.{Values, value, row_of}
use Rattle.meaning.specs.Reading.{Result, done, after, small, read_name}
use Rattle.policy_places.specs.Places.{StandsName, SomeName}
use Rattle.policy_places.proofs.Places.{at_word, at_next}
use Rattle.read_values.specs.Outcomes.{outcome, tested, IfOk}
use Rattle.read_values.specs.From.{From, sets_in, scope_in, names, sets}
use Rattle.std.specs.Prelude.{Result as Outcome, Ok}
use Rattle.refusals.specs.declared.Refusal.{Refusal}
use Rattle.read_values.proofs.Answers.{stands_filled}
use Rattle.read_steps.specs.Steps.{SayHas}
use Rattle.read_names.proofs.Named.{polarity_back, name_here}
use Rattle.read_leaves.specs.Leaves.{SayDefinition, origin_if, SayOwn, AskOwn, SayOwnSet, SayCertified, SayCertifiedHas, AskName, SayListed, SayListedHas}

-- ---- under our own key or not

module _ {ours : ℕ} {ws : List ℕ} {at : ℕ} where
  -- the issuer is a variable
  pub no_atom : (get_or ws at 0 ≡ 0 → ⊥) → SayOwn ours ws at false
  unfolding origin_if term_words
  no_atom z = record { means = λ s k t n p o h. go t n p o h }
    where
      go : {s : Scope} (t : Term) (n : ℕ) (p : Polarity) (o : Origin) → StandsName s ws at t n p o → o ≡ by_certificates
      go (atom a) n p o h = absurd (z (at_word h.words))
      go (var i) n p o h = not_fixed h.origin

  pub by_atom : get_or ws at 0 ≡ 0 → SayOwn ours ws at (eqb (get_or ws (at + 1) 0) ours)
  unfolding origin_if origin_of term_words
  by_atom z = record { means = λ s k t n p o h. go s k t n p o h }
    where
      go : (s : Scope) → s.our_key ≡ ours → (t : Term) (n : ℕ) (p : Polarity) (o : Origin) → StandsName s ws at t n p o → o ≡ origin_if (eqb (get_or ws (at + 1) 0) ours) s n p
      go s k (atom a) n p o h =
          let e : eqb a s.our_key ≡ eqb (get_or ws (at + 1) 0) ours = rw (k, at_word (at_next h.words)) in
          h.origin.is ∙ either_origin (eqb a s.our_key) ∙ ap (λ (b : Bool). origin_if b s n p) e
        where
          either_origin : (b : Bool) → (elim b as (λ c. Origin) [ true ↦ by_definition (definition_of s.available n p) | false ↦ by_certificates ]) ≡ origin_if b s n p
          either_origin true = refl
          either_origin false = refl
      go s k (var i) n p o h = let one = at_word h.words in absurd (omega arith)

-- ---- the set of the definition

module _ {ours known : ℕ} {policy ws : List ℕ} {at : ℕ} (a : AskOwn ours known policy ws at) where
  number_is : {s : Scope} {t : Term} {n : ℕ} {p : Polarity} {o : Origin} → StandsName s ws at t n p o →
      definition_of (declared_in policy known) (get_or ws (at + 2) 0) (polarity_of (get_or ws (at + 3) 0)) ≡ definition_of (declared_in policy known) n p
  number_is {t = t} {n = n} {p = p} h =
      let w = name_here t n p h.words in
      ap (λ (m : ℕ). definition_of (declared_in policy known) m (polarity_of (get_or ws (at + 3) 0))) w.name
      ∙ ap (definition_of (declared_in policy known) n) (ap polarity_of w.polarity ∙ sym (polarity_back p))

  -- where the table is asked for it
  module _ (q : Held.Polarity) (e : polarity_is q ≡ polarity_of (get_or ws (at + 3) 0)) where
    pub own_found : {d : ℕ} → definition_of (declared_in policy known) (get_or ws (at + 2) 0) (polarity_is q) ≡ d →
        d ≡ definition_of (declared_in policy known) (get_or ws (at + 2) 0) (polarity_of (get_or ws (at + 3) 0))
    own_found f = sym f ∙ ap (definition_of (declared_in policy known) (get_or ws (at + 2) 0)) e

    pub own_missing : definition_of (declared_in policy known) (get_or ws (at + 2) 0) (polarity_is q) ≡ known → ⊥
    own_missing f = let g = own_found {d = known} f in omega (arith, g, number_is a.here, a.within)

  pub own_long : at + 4 ≤ length ws
  own_long = (name_here a.t a.n a.p a.here.words).inside

  module _ {d : ℕ} (is : d ≡ definition_of (declared_in policy known) (get_or ws (at + 2) 0) (polarity_of (get_or ws (at + 3) 0))) where
    pub own_known : d < known
    own_known = omega (arith, is, number_is a.here, a.within)

    pub own_lies : {defs set : List ℕ} → SayDefinition known d defs set → SayOwnSet known policy defs ws at set
    own_lies {defs} s = record {
      filled = s.filled;
      means = λ scope t n p o h. s.means ∙ ap (λ (i : ℕ). get_or (sets_in known defs) i (only [])) (is ∙ number_is h);
    }

-- ---- what is asked

module _ {f : From} {ws : List ℕ} {at : ℕ} {values : List ℕ} {count : ℕ} (a : AskName f ws at values count) where
  pub some_listed : SomeName ws at
  some_listed = record { t = a.t; m = a.n; p = a.p; words = a.here.words }

  pub ask_own : {b : Bool} → SayOwn f.our_key ws at b → b ≡ true → AskOwn f.our_key f.known f.policy ws at
  unfolding origin_if
  ask_own s e =
      let own = s.means (scope_in f) refl a.t a.n a.p a.o a.here ∙ ap (λ (b : Bool). origin_if b (scope_in f) a.n a.p) e in
      record { table = a.sound.table; t = a.t; n = a.n; p = a.p; o = a.o; here = a.here; within = own_within f.policy f.known a.here.origin own }

-- ---- what is read, and whether a row belongs

module _ (f : From) {ws : List ℕ} {at : ℕ} (vs : Values) (k : ℕ) where
  -- the definition's set
  module _ {b : Bool} (own : SayOwn f.our_key ws at b) (is : b ≡ true) {set : List ℕ} (s : SayOwnSet f.known f.policy f.defs ws at set) where
    own_read : (t : Term) (n : ℕ) (p : Polarity) (o : Origin) → StandsName (scope_in f) ws at t n p o → read_name (names f) (sets f) (value vs t) n p o k ≡ done (set_in set) k
    unfolding read_name origin_if
    own_read t n p o h =
        let e : o ≡ by_definition (definition_of (declared_in f.policy f.known) n p) = own.means (scope_in f) refl t n p o h ∙ ap (λ (b : Bool). origin_if b (scope_in f) n p) is in
        ap (λ (x : Origin). read_name (names f) (sets f) (value vs t) n p x k) e ∙ ap (λ (z : RowSet). done z k) (sym (s.means (scope_in f) t n p o h))

    pub listed_own : (to : List ℕ) {area : List ℕ} → 642 ≤ length to → area ≡ written (set_in set) to → SayListed f ws at vs k (Ok k) area
    unfolding IfOk outcome
    listed_own to long e =
        let z = copied_stands set s.filled.sound to long e in
        record { filled = stands_filled z; means = λ t n p o h. own_read t n p o h ∙ ap (λ (y : RowSet). done y k) (sym z.set) }

    pub listed_own_has : {row : ℕ} {found : Bool} → SayHas ws row vs set found → SayListedHas f ws at row vs k (Ok (found, k))
    unfolding after tested
    listed_own_has g = record {
      means = λ t n p o h m ts st.
          ap (λ (x : Result RowSet). after x (λ z i. done (has z (row_of vs ts)) i)) (own_read t n p o h) ∙ ap (λ (x : Bool). done x k) (g.means m ts st);
    }

  -- its certificates
  module _ {b : Bool} (own : SayOwn f.our_key ws at b) (is : b ≡ false) where
    certified : {t : Term} {n : ℕ} {p : Polarity} {o : Origin} → StandsName (scope_in f) ws at t n p o → read_name (names f) (sets f) (value vs t) n p o k ≡ small (names f (value vs t) n p) k
    unfolding read_name origin_if
    certified {t} {n} {p} {o} h =
        let e : o ≡ by_certificates = own.means (scope_in f) refl t n p o h ∙ ap (λ (b : Bool). origin_if b (scope_in f) n p) is in
        ap (λ (x : Origin). read_name (names f) (sets f) (value vs t) n p x k) e

    pub listed_certified : {r : Outcome ℕ Refusal} {area : List ℕ} → SayCertified (names f) ws at vs k r area → SayListed f ws at vs k r area
    listed_certified s = record { filled = s.filled; means = λ t n p o h. certified h ∙ s.means t n p h.words }

    pub listed_certified_has : {row : ℕ} {r : Outcome (Bool × ℕ) Refusal} → SayCertifiedHas (names f) ws at row vs k r → SayListedHas f ws at row vs k r
    listed_certified_has s = record {
      means = λ t n p o h m ts g. ap (λ (x : Result RowSet). after x (λ z i. done (has z (row_of vs ts)) i)) (certified h) ∙ s.means t n p h.words m ts g;
    }
