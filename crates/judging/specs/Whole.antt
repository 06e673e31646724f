-- A definition or a query by itself.
use Rattle.std.specs.Prelude.{ℕ, List, Result, Ok, Err}
use Rattle.refusals.specs.declared.Refusal.{Refusal}
use Rattle.refusals.specs.Numbers.{number}
use Rattle.rows.specs.Name.{Polarity}
use Rattle.policy.specs.Table.{Entry}
use Rattle.policy.specs.Parse.{Parsed, parsed, parse}
use Rattle.policy.specs.Parse as Parse
use Rattle.policy.specs.Polarity.{has_polarity, draws_closed}
use Rattle.policy.specs.Definitions.{polarized, check_definition}
use Rattle.policy.specs.Checking.{check_query}
use Rattle.check_polarity.specs.Earlier.{Before, scope_at}
use Rattle.check_polarity.specs.Facts.{facts_for}
use Rattle.check_polarity.specs.declared.Facts.{Facts}

-- what it comes to: its facts, or the refusal's number
pub data Whole : Type 0 where
  checked : Facts → Whole
  refused : ℕ → Whole

abbrev pub whole_is : Result Facts Refusal → Whole
whole_is (Ok f) = checked f
whole_is (Err r) = refused (number r)

unfoldable pub whole_for : Before → Parsed → Whole
unfolding facts_for
whole_for b (parsed e) = checked (facts_for b e)
whole_for b (Parse.refused n) = refused n

-- a definition that declares this polarity
unfoldable pub definition_parsed : Before → Polarity → List ℕ → Parsed
unfolding parse polarized has_polarity draws_closed
definition_parsed b polarity ws = elim (parse (scope_at b) ws) [
  | parsed e ↦ polarized (has_polarity e b.known polarity) (draws_closed e b.known) e
  | Parse.refused n ↦ Parse.refused n
]

-- an entry's definition, and a query, where this is known
abbrev pub definition_at : List ℕ → Before → Entry → Parsed
definition_at policy b x = check_definition b.our_key policy b.known x

abbrev pub query_at : Before → List ℕ → Parsed
query_at b query = check_query b.our_key b.known query
