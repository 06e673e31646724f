-- Document 02, N5: which names links reach.
use Rattle.std.specs.Prelude.{◌≡◌, Bool, ◌&&◌, ◌||◌, List, [], ◌∷◌, eqb}
use Rattle.rows.specs.Ordered.{◌∈◌}
use Rattle.rows.specs.Name.{Polarity, same_polarity}
use Rattle.certificates.specs.Link.{Named, Link}

-- "every name that links reach from it, itself included": in any number of steps, each from the first name of a link of this polarity to its second
pub data Reaches (ls : List Link) (p : Polarity) : Named → Named → Type 0 where
  itself : {x : Named} → Reaches ls p x x
  step : {l : Link} {y : Named} → l ∈ ls → l.polarity ≡ p → Reaches ls p l.second y → Reaches ls p l.first y

abbrev pub same_named : Named → Named → Bool
same_named x y = eqb x.key y.key && eqb x.name y.name

-- the same as a test: a way from x to y does without the link l, or it has one without l to l's first name, and one without l from l's second name on
unfoldable pub reachable : List Link → Polarity → Named → Named → Bool
reachable [] p x y = same_named x y
reachable (l ∷ ls) p x y = reachable ls p x y || (same_polarity l.polarity p && (reachable ls p x l.first && reachable ls p l.second y))
