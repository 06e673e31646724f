-- Where one name's part of the store lies, as the code finds it.
use Rattle.std.specs.Prelude.{ℕ, ◌-◌, ◌≤◌, ◌≡◌, List, length, take, drop}
use Rattle.certificates.specs.NamePart.{name_part, name_start}

-- the words from the one up to the other are the name's part, and lie within the store
pub record Spans (store : List ℕ) (key name polarity from to : ℕ) : Type 0 where
  pub start : from ≡ name_start store key name polarity
  pub order : from ≤ to
  pub inside : to ≤ length store
  pub words : take (to - from) (drop from store) ≡ name_part store key name polarity
