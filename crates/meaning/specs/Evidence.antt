-- What reading rests on: a set for each key, name and polarity. Whatever is held enters the meaning of a policy through this alone.
use Rattle.std.specs.Prelude.{ℕ, Bool, true, false, ◌&&◌, List, [], ◌∷◌}
use Rattle.rows.specs.Ordered.{insert}
use Rattle.rows.specs.Row.{Row, is_key, row_before}
use Rattle.rows.specs.Name.{Polarity, plus, minus, same_polarity}
use Rattle.rows.specs.Sets.{RowSet, only, all_but}
use Rattle.certificates.specs.Certificate.{Certificate}
use Rattle.certificates.specs.Link.{Named, Link}
use Rattle.certificates.specs.Stores.{Held}
use Rattle.meaning.specs.Links.{reachable}

abbrev pub Evidence : Type 0
Evidence = ℕ → ℕ → Polarity → RowSet

abbrev pub named : ℕ → ℕ → Named
named k n = record { key = k; name = n }

-- the certificate is of a name that the links reach from this one
abbrev pub counts : List Link → Certificate → ℕ → ℕ → Polarity → Bool
counts ls c k n p = same_polarity c.polarity p && reachable ls p (named k n) (named c.key c.name)

-- Document 02, N5: "The value read for a name joins the certified rows of every name that links reach from it, itself included." In order, each once.
unfoldable pub joined : List Link → List Certificate → ℕ → ℕ → Polarity → List Row
unfolding insert row_before reachable
joined ls [] k n p = []
joined ls (c ∷ cs) k n p = elim (counts ls c k n p) [ true ↦ insert row_before c.row (joined ls cs k n p) | false ↦ joined ls cs k n p ]

-- Document 01: "a + name has just its certified rows; a − name has all rows but its certified ones", here those joined.
-- "A variable issuer that holds a number reads as no rows (+) or all rows (−)."
unfoldable pub names_held : Held → Evidence
unfolding joined
names_held h k n plus = elim (is_key k) [ true ↦ only (joined h.links h.certificates k n plus) | false ↦ only [] ]
names_held h k n minus = elim (is_key k) [ true ↦ all_but (joined h.links h.certificates k n minus) | false ↦ all_but [] ]
