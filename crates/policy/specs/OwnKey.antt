-- Document 02, N7: our own key. "Curators write our key before our own names; by the source, a name defined at the node stands for its definition." What is
-- available at a place, and where the rows of a name come from. (An own name is our word for a name under our key.)
use Rattle.std.specs.Prelude.{ℕ, zero, suc, ◌<◌, ◌≡◌, Bool, true, false, ◌&&◌, List, [], ◌∷◌, T, ltb, eqb, length, get_or}
use Rattle.refusals.specs.RefusalTable.{not_in_scope}
use Rattle.rows.specs.Name.{Polarity, plus, same_polarity}
use Rattle.policy.specs.Terms.{Term, atom, var}
use Rattle.policy.specs.Readers.{Reader, ◌>>◌, give, need}

-- a definition's name and declared polarity
pub record Declared : Type 0 where
  pub name : ℕ
  pub polarity : Polarity

-- what the decoder goes by at a place: our key, and the definitions that are available there, in file order. "3: d, an earlier definition (in a query, any)."
pub record Scope : Type 0 where
  pub our_key : ℕ
  pub available : List Declared

-- so many are available
abbrev pub reach : Scope → ℕ
reach s = length s.available

-- where the rows of a name come from: certificates (and links), or the definition of this number. (Origin is our word for it.)
pub data Origin : Type 0 where
  by_certificates : Origin
  by_definition : ℕ → Origin

unfoldable pub declares : Declared → ℕ → Polarity → Bool
declares x n p = eqb x.name n && same_polarity x.polarity p

-- "the definition of that name and polarity": its number; where none of these is it, their count. (No two definitions of a policy share both.)
unfoldable pub definition_of : List Declared → ℕ → Polarity → ℕ
unfolding declares
definition_of [] n p = zero
definition_of (x ∷ xs) n p = elim (declares x n p) [ true ↦ zero | false ↦ suc (definition_of xs n p) ]

-- "Code 4 with that key as a fixed issuer reads the definition of that name and polarity"; "A variable that happens to hold our key still reads certificates."
unfoldable pub origin_of : Scope → Term → ℕ → Polarity → Origin
unfolding definition_of
origin_of s (atom a) n p = elim (eqb a s.our_key) [ true ↦ by_definition (definition_of s.available n p) | false ↦ by_certificates ]
origin_of s (var i) n p = by_certificates

-- "if it is available at that place"
unfoldable pub is_available : Scope → Origin → Bool
is_available s by_certificates = true
is_available s (by_definition d) = ltb d (reach s)

-- the rows of the name come from there
pub record FitOrigin (s : Scope) (t : Term) (n : ℕ) (p : Polarity) (o : Origin) : Type 0 where
  pub is : o ≡ origin_of s t n p
  pub available : T (is_available s o)

-- "If none is available there, it is refused with 4 at its polarity word": what follows reading that word
unfoldable pub origin : Scope → Term → ℕ → Polarity → Reader Origin
unfolding is_available origin_of
origin s t n p = do
  need not_in_scope (is_available s (origin_of s t n p))
  give (origin_of s t n p)

-- ---- it is the definition of that name and polarity

abbrev pub undeclared : Declared
undeclared = record { name = 0; polarity = plus }

-- definition d has this name and polarity
pub record Has (xs : List Declared) (d n : ℕ) (p : Polarity) : Type 0 where
  pub within : d < length xs
  pub name : (get_or xs d undeclared).name ≡ n
  pub polarity : (get_or xs d undeclared).polarity ≡ p

-- what is found has both; and where one of them has, one is found. (That it is the only one, refusal 2 sees to: "Name and polarity pairs differ.")
pub record Theorem : Type 0 where
  pub has : (xs : List Declared) (n : ℕ) (p : Polarity) → definition_of xs n p < length xs → Has xs (definition_of xs n p) n p
  pub finds : (xs : List Declared) (d n : ℕ) (p : Polarity) → Has xs d n p → definition_of xs n p < length xs
