-- The part that a refusal is about, so told that its number says which it is.
use Rattle.std.specs.Prelude.{◌<◌}
use Rattle.refusals.specs.RefusalTable.{query_part}
use Rattle.refusals.specs.declared.Part.{Part}
use Rattle.refusals.specs.declared.Part.TheVariants.{Definition, Query, Neither}

-- no definition has the number of the query or that of neither
abbrev pub IsPart : Part → Type 0
IsPart (Definition d) = d < query_part
IsPart Query = Unit {0}
IsPart Neither = Unit {0}
