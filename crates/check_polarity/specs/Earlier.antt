-- What is known where an expression stands, as the code holds it: our key, and the definitions before.
use Rattle.std.specs.Prelude.{ℕ, zero, suc, Bool, false, Option, Some, None, cond, ltb, List, [], ◌∷◌, ◌++◌, get_or}
use Rattle.rows.specs.Name.{Polarity, polarity_of}
use Rattle.rows.specs.Polarities.{polarity_is}
use Rattle.rows.specs.declared.Polarity.TheVariants.{Plus}
use Rattle.policy.specs.OwnKey.{Scope, reach, definition_of}
use Rattle.policy.specs.Polarity.{Known, scope_of}
use Rattle.check_polarity.specs.declared.Definition.{Definition}
use Rattle.check_polarity.specs.declared.Earlier.{Earlier}

pub record Before : Type 0 where
  pub our_key : ℕ
  pub known : List Known

-- what the decoder goes by there
abbrev pub scope_at : Before → Scope
scope_at b = scope_of b.our_key b.known

-- before any definition
abbrev pub none_before : ℕ → Before
none_before ours = record { our_key = ours; known = [] }

-- one definition more
abbrev pub and_then : Before → Known → Before
and_then b k = record { our_key = b.our_key; known = b.known ++ (k ∷ []) }

unfoldable pub known_is : Definition → Known
known_is d = record { name = d.name; declared = polarity_is d.polarity; is_open = d.«open» }

abbrev pub unnamed : Definition
unnamed = record { name = 0; polarity = Plus; «open» = false }

-- of the first so many
unfoldable pub known_up_to : List Definition → ℕ → List Known
unfolding known_is
known_up_to ds zero = []
known_up_to ds (suc n) = known_up_to ds n ++ (known_is (get_or ds n unnamed) ∷ [])

unfoldable pub earlier_is : Earlier → Before
unfolding known_up_to
earlier_is x = record { our_key = x.our_key; known = known_up_to x.definitions x.count }

-- a definition of this name that declares the polarity of this word
unfoldable pub known_as : ℕ → ℕ → Bool → Known
unfolding polarity_of
known_as name polarity o = record { name = name; declared = polarity_of polarity; is_open = o }

-- the number of the definition of that name and polarity, where one of those before is it
unfoldable pub number_in : Before → ℕ → Polarity → Option ℕ
unfolding definition_of
number_in b n p = let d = definition_of (scope_at b).available n p in cond (ltb d (reach (scope_at b))) (Some d) None
