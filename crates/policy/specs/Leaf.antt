-- Document 01, "Expressions, in prefix order" and "Polarity and openness", of the leaves alone: what they are, their words, the rules that they keep, their
-- polarities, which of them are open, and how they are read off the words. Code 8 is document 02's, N2, names under our own key are N7's.
use Rattle.std.specs.Prelude.{ℕ, zero, suc, ◌<◌, Bool, true, false, ◌&&◌, List, [], ◌∷◌, ◌++◌, map, T, ltb, eqb, length, get_or}
use Rattle.refusals.specs.RefusalTable.{bad_word, not_in_scope}
use Rattle.rows.specs.Name.{Polarity, plus, minus, opposite, same_polarity, polarity_word, is_name}
use Rattle.policy.specs.Terms.{Term, term_words, each, term_row_words, FitIssuer, FitRows}
use Rattle.policy.specs.Readers.{Reader, ◌>>=◌, give, refuse, word_where, issuer, rows, polarity}
use Rattle.policy.specs.OwnKey.{Declared, Scope, reach, FitOrigin, origin}
pub use Rattle.policy.specs.OwnKey.{Origin, by_certificates, by_definition}

-- the expressions that hold no other. (Leaf is our word for them, node for the others; the documents have none.)
pub data Leaf : Type 0 where
  finite : List (List Term) → Leaf  -- 1
  cofinite : List (List Term) → Leaf  -- 2
  definition : ℕ → Leaf  -- 3
  listed : Term → ℕ → Polarity → Origin → Leaf  -- 4: issuer, name, polarity; where its rows come from is in no word
  vetted : Term → ℕ → Origin → ℕ → Leaf  -- 8: issuer, name (its polarity is +), the definition that the issuer must be absent from. (Our word for it.)

-- a leaf's code, and the words after it
unfoldable pub leaf_code : Leaf → ℕ
leaf_code (finite rs) = 1
leaf_code (cofinite rs) = 2
leaf_code (definition d) = 3
leaf_code (listed t m p o) = 4
leaf_code (vetted t m o d) = 8

unfoldable pub leaf_rest : Leaf → List ℕ
unfolding polarity_word each term_words term_row_words
leaf_rest (finite rs) = length rs ∷ each term_row_words rs
leaf_rest (cofinite rs) = length rs ∷ each term_row_words rs
leaf_rest (definition d) = d ∷ []
leaf_rest (listed t m p o) = term_words t ++ (m ∷ polarity_word p ∷ [])
-- "code 8 with the same words and then a definition's number"
leaf_rest (vetted t m o d) = term_words t ++ (m ∷ polarity_word plus ∷ d ∷ [])

unfoldable pub leaf_words : Leaf → List ℕ
unfolding leaf_code leaf_rest
leaf_words x = leaf_code x ∷ leaf_rest x

-- n variables are in scope
unfoldable pub FitLeaf : Scope → ℕ → Leaf → Type 0
unfolding FitIssuer
FitLeaf s n (finite rs) = FitRows n rs
FitLeaf s n (cofinite rs) = FitRows n rs
FitLeaf s n (definition d) = d < reach s
FitLeaf s n (listed t name p o) = FitIssuer n t × T (is_name name) × FitOrigin s t name p o
FitLeaf s n (vetted t name o d) = FitIssuer n t × T (is_name name) × FitOrigin s t name plus o × (d < reach s)

-- what is known of an earlier definition: its name, its declared polarity, and whether it is open
pub record Known : Type 0 where
  pub name : ℕ
  pub declared : Polarity
  pub is_open : Bool

abbrev pub unknown : Known
unknown = record { name = 0; declared = plus; is_open = false }

-- where these definitions stand before, this being our key
abbrev pub declaration : Known → Declared
declaration k = record { name = k.name; polarity = k.declared }

abbrev pub scope_of : ℕ → List Known → Scope
scope_of ours ks = record { our_key = ours; available = map declaration ks }

-- of a name: "4 its own"; an own name has its definition's
unfoldable pub name_has : Polarity → Origin → List Known → Polarity → Bool
name_has q by_certificates ks p = same_polarity q p
name_has q (by_definition d) ks p = same_polarity (get_or ks d unknown).declared p

-- "a − name" is open; of an own name "its openness is that of the definition"
unfoldable pub name_open : Polarity → Origin → List Known → Bool
name_open q by_certificates ks = same_polarity q minus
name_open q (by_definition d) ks = (get_or ks d unknown).is_open

unfoldable pub leaf_has : Leaf → List Known → Polarity → Bool
unfolding name_has
leaf_has (finite rows) ks p = true
leaf_has (cofinite rows) ks p = true
leaf_has (definition d) ks p = same_polarity (get_or ks d unknown).declared p
leaf_has (listed t n q o) ks p = name_has q o ks p
-- "Its polarity is + if its definition is declared −, else none": the list that it guards is +, so p is
leaf_has (vetted t n o d) ks p = name_has plus o ks p && same_polarity (get_or ks d unknown).declared (opposite p)

-- "Open: 2, a − name, 3 of an open definition"
unfoldable pub leaf_open : Leaf → List Known → Bool
unfolding name_open
leaf_open (finite rows) ks = false
leaf_open (cofinite rows) ks = true
leaf_open (definition d) ks = (get_or ks d unknown).is_open
leaf_open (listed t n q o) ks = name_open q o ks
-- "and it is not open", for a + name is not; "Code 8 with our key does the same for the list that it guards, openness too."
leaf_open (vetted t n o d) ks = name_open plus o ks

-- the code of a leaf
pub data LeafCode : Type 0 where
  is_finite is_cofinite is_definition is_listed is_vetted no_leaf : LeafCode

unfoldable pub leaf_of : ℕ → LeafCode
leaf_of zero = no_leaf
leaf_of (suc zero) = is_finite
leaf_of (suc (suc zero)) = is_cofinite
leaf_of (suc (suc (suc zero))) = is_definition
leaf_of (suc (suc (suc (suc zero)))) = is_listed
leaf_of (suc (suc (suc (suc (suc zero))))) = no_leaf
leaf_of (suc (suc (suc (suc (suc (suc zero)))))) = no_leaf
leaf_of (suc (suc (suc (suc (suc (suc (suc zero))))))) = no_leaf
leaf_of (suc (suc (suc (suc (suc (suc (suc (suc zero)))))))) = is_vetted
leaf_of (suc (suc (suc (suc (suc (suc (suc (suc (suc n))))))))) = no_leaf

-- codes, of leaves and of nodes, go from 1 to this
abbrev pub last_code : ℕ
last_code = 8

unfoldable pub some_leaf : LeafCode → Bool
some_leaf is_finite = true
some_leaf is_cofinite = true
some_leaf is_definition = true
some_leaf is_listed = true
some_leaf is_vetted = true
some_leaf no_leaf = false

-- what follows a leaf's code that is read
unfoldable pub leaf_as : Scope → ℕ → LeafCode → Reader Leaf
unfolding rows word_where issuer polarity origin
leaf_as s n is_finite = do
  rs ← rows n
  give (finite rs)
leaf_as s n is_cofinite = do
  rs ← rows n
  give (cofinite rs)
leaf_as s n is_definition = do
  d ← word_where not_in_scope (λ d. ltb d (reach s))
  give (definition d)
leaf_as s n is_listed = do
  t ← issuer n
  name ← word_where bad_word is_name
  p ← polarity
  o ← origin s t name p
  give (listed t name p o)
-- "In code 8 a polarity − is refused with 3."
leaf_as s n is_vetted = do
  t ← issuer n
  name ← word_where bad_word is_name
  p ← word_where bad_word (λ w. eqb w 0)
  o ← origin s t name plus
  d ← word_where not_in_scope (λ d. ltb d (reach s))
  give (vetted t name o d)
leaf_as s n no_leaf = refuse bad_word
