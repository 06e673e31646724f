-- What the readers of leaves ask and say, of whatever stands in the words.
use Rattle.std.specs.Prelude.{ℕ, ◌≤◌, ◌<◌, ◌≡◌, Bool, true, false, List, [], ◌∷◌, length, get_or, Result as Outcome}
use Rattle.rows.specs.Sets.{only, has}
use Rattle.rows.specs.Layout.{formed, set_in}
use Rattle.rows.specs.Name.{Polarity}
use Rattle.policy.specs.OwnKey.{Scope, Origin, by_certificates, by_definition, definition_of}
use Rattle.policy.specs.Leaf.{Leaf, vetted}
use Rattle.policy.specs.Syntax.{Term}
use Rattle.policy_table.specs.Entries.{entry_place, declared_in}
use Rattle.meaning.specs.Values.{Values, value, row_of}
use Rattle.certificates.specs.Stores.{held_in}
use Rattle.meaning.specs.Evidence.{Evidence, names_held}
use Rattle.read_names.specs.declared.held.Held as Lent
use Rattle.meaning.specs.Reading.{done, after, small, rows_of, read_name, read_leaf}
use Rattle.read_values.specs.Values.{Bound}
use Rattle.policy_places.specs.Places.{At, name_words, StandsName, StandsLeaf, StandsRow, StandsRows}
use Rattle.read_values.specs.Answers.{Filled}
use Rattle.read_values.specs.Outcomes.{outcome, tested, IfOk}
use Rattle.read_values.specs.From.{From, sets_in, scope_in, names, sets, SoundFrom}
use Rattle.refusals.specs.declared.Refusal.{Refusal}

-- the rows written there, in a set of this form
pub record SayRows (ws : List ℕ) (at form : ℕ) (vs : Values) (area : List ℕ) : Type 0 where
  pub filled : Filled area
  pub means : (n : ℕ) (rs : List (List Term)) → StandsRows n ws at rs → (k : ℕ) → small (formed form (rows_of vs rs)) k ≡ done (set_in area) k

-- the set of definition d lies at the front
pub record SayDefinition (known d : ℕ) (defs set : List ℕ) : Type 0 where
  pub filled : Filled set
  pub means : set_in set ≡ get_or (sets_in known defs) d (only [])

-- whether the one-atom row of the issuer of the code 8 that stands there belongs to its definition
pub record SayAmong (known : ℕ) (defs ws : List ℕ) (at : ℕ) (vs : Values) (r : Bool) : Type 0 where
  pub means : (s : Scope) (n : ℕ) (t : Term) (m : ℕ) (o : Origin) (d : ℕ) → StandsLeaf s n ws at (vetted t m o d) → has (get_or (sets_in known defs) d (only [])) (value vs t ∷ []) ≡ r

-- ---- a name

-- under our own key or not: where the rows of the name that stands there then come from
unfoldable pub origin_if : Bool → Scope → ℕ → Polarity → Origin
unfolding definition_of
origin_if true s n p = by_definition (definition_of s.available n p)
origin_if false s n p = by_certificates

pub record SayOwn (ours : ℕ) (ws : List ℕ) (at : ℕ) (r : Bool) : Type 0 where
  pub means : (s : Scope) → s.our_key ≡ ours → (t : Term) (n : ℕ) (p : Polarity) (o : Origin) → StandsName s ws at t n p o → o ≡ origin_if r s n p

-- some own name stands there, where so many definitions of the policy are available
pub record AskOwn (ours known : ℕ) (policy ws : List ℕ) (at : ℕ) : Type 0 where
  pub table : entry_place known ≤ length policy
  pub t : Term
  pub n : ℕ
  pub p : Polarity
  pub o : Origin
  pub here : StandsName (record { our_key = ours; available = declared_in policy known }) ws at t n p o
  pub within : definition_of (declared_in policy known) n p < known

-- the set of the definition that it stands for lies at the front
pub record SayOwnSet (known : ℕ) (policy defs ws : List ℕ) (at : ℕ) (set : List ℕ) : Type 0 where
  pub filled : Filled set
  pub means : (s : Scope) (t : Term) (n : ℕ) (p : Polarity) (o : Origin) → StandsName s ws at t n p o → set_in set ≡ get_or (sets_in known defs) (definition_of (declared_in policy known) n p) (only [])

-- what is held, as evidence
abbrev pub held_by : Lent.Held → Evidence
held_by h = names_held (held_in h.minute (record { store = h.store.now; links = h.links.now }))

-- the certified rows of the name that stands there, where this evidence is held
pub record SayCertified (held : Evidence) (ws : List ℕ) (at : ℕ) (vs : Values) (k : ℕ) (r : Outcome ℕ Refusal) (area : List ℕ) : Type 0 where
  pub filled : IfOk Filled r area
  pub means : (t : Term) (n : ℕ) (p : Polarity) → At ws at (name_words t n p) → small (held (value vs t) n p) k ≡ outcome (set_in area) r

-- whether the row that the terms come to belongs to them, or the refusal that reading them meets
pub record SayCertifiedHas (held : Evidence) (ws : List ℕ) (at row : ℕ) (vs : Values) (k : ℕ) (r : Outcome (Bool × ℕ) Refusal) : Type 0 where
  pub means : (t : Term) (m : ℕ) (p : Polarity) → At ws at (name_words t m p) → (n : ℕ) (ts : List Term) → StandsRow n ws row ts →
      after (small (held (value vs t) m p) k) (λ s i. done (has s (row_of vs ts)) i) ≡ tested r

-- some name stands there
pub record AskName (f : From) (ws : List ℕ) (at : ℕ) (values : List ℕ) (count : ℕ) : Type 0 where
  pub sound : SoundFrom f
  pub bound : Bound values count
  pub t : Term
  pub n : ℕ
  pub p : Polarity
  pub o : Origin
  pub here : StandsName (scope_in f) ws at t n p o

-- whichever it is, its set is left at the area's front, k draws being made before
pub record SayListed (f : From) (ws : List ℕ) (at : ℕ) (vs : Values) (k : ℕ) (r : Outcome ℕ Refusal) (area : List ℕ) : Type 0 where
  pub filled : IfOk Filled r area
  pub means : (t : Term) (n : ℕ) (p : Polarity) (o : Origin) → StandsName (scope_in f) ws at t n p o → read_name (names f) (sets f) (value vs t) n p o k ≡ outcome (set_in area) r

-- whether the row that the terms come to belongs to it, or the refusal that reading it meets
pub record SayListedHas (f : From) (ws : List ℕ) (at row : ℕ) (vs : Values) (k : ℕ) (r : Outcome (Bool × ℕ) Refusal) : Type 0 where
  pub means : (t : Term) (n : ℕ) (p : Polarity) (o : Origin) → StandsName (scope_in f) ws at t n p o → (m : ℕ) (ts : List Term) → StandsRow m ws row ts →
      after (read_name (names f) (sets f) (value vs t) n p o k) (λ s i. done (has s (row_of vs ts)) i) ≡ tested r

-- ---- a leaf

-- some leaf stands there
pub record AskLeaf (f : From) (ws : List ℕ) (at : ℕ) (values : List ℕ) (count : ℕ) : Type 0 where
  pub sound : SoundFrom f
  pub bound : Bound values count
  pub x : Leaf
  pub here : StandsLeaf (scope_in f) count ws at x

-- whichever it is, its set is left at the area's front, k draws being made before
pub record SayLeaf (f : From) (ws : List ℕ) (at : ℕ) (vs : Values) (k : ℕ) (r : Outcome ℕ Refusal) (area : List ℕ) : Type 0 where
  pub filled : IfOk Filled r area
  pub means : (n : ℕ) (x : Leaf) → StandsLeaf (scope_in f) n ws at x → read_leaf (names f) (sets f) x vs k ≡ outcome (set_in area) r

-- whether the row that the terms come to belongs to it, or the refusal that reading it meets
pub record SayLeafHas (f : From) (ws : List ℕ) (at row : ℕ) (vs : Values) (k : ℕ) (r : Outcome (Bool × ℕ) Refusal) : Type 0 where
  pub means : (n : ℕ) (x : Leaf) → StandsLeaf (scope_in f) n ws at x → (m : ℕ) (ts : List Term) → StandsRow m ws row ts →
      after (read_leaf (names f) (sets f) x vs k) (λ s i. done (has s (row_of vs ts)) i) ≡ tested r
