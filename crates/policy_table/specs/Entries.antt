-- The entries of a policy's table by their places, and what they declare.
use Rattle.std.specs.Prelude.{ℕ, zero, suc, ◌+◌, ◌*◌, ◌≤◌, List, [], ◌∷◌, length, map}
use Rattle.rows.specs.Name.{polarity_of}
use Rattle.policy.specs.OwnKey.{Declared}
use Rattle.policy.specs.Table.{Entry, entry_at}
use Rattle.policy_table.specs.declared.entries.Entry as Read

-- the word at which entry i begins
abbrev pub entry_place : ℕ → ℕ
entry_place i = 2 + 4 * i

-- an entry as the code reads it
abbrev pub entry_is : Read.Entry → Entry
entry_is x = record { name = x.name; polarity = x.polarity; offset = x.offset; size = x.size }

-- its part lies inside the policy
abbrev pub Inside : List ℕ → Entry → Type 0
Inside policy x = x.offset + x.size ≤ length policy

-- n entries, the first of them at word `at`
unfoldable pub entries_from : ℕ → List ℕ → ℕ → List Entry
unfolding entry_at
entries_from zero policy at = []
entries_from (suc n) policy at = entry_at policy at ∷ entries_from n policy (at + 4)

-- those before entry i, the last of them first
unfoldable pub entries_before : List ℕ → ℕ → List Entry
unfolding entry_at
entries_before policy zero = []
entries_before policy (suc i) = entry_at policy (entry_place i) ∷ entries_before policy i

-- its second word is a polarity
abbrev pub Polarized : Entry → Type 0
Polarized x = x.polarity ≤ 1

-- an entry's name and declared polarity; those of the first n definitions of the policy's table
abbrev pub declared_as : Entry → Declared
declared_as x = record { name = x.name; polarity = polarity_of x.polarity }

unfoldable pub declared_in : List ℕ → ℕ → List Declared
unfolding entries_from polarity_of
declared_in policy n = map declared_as (entries_from n policy 2)
