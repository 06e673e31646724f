-- Document 01, "Rows, sets, worlds" and "Lists of filings", document 02, N5: worlds, and when a certificate or a link is true in one.
use Rattle.std.specs.Prelude.{ℕ, List}
use Rattle.rows.specs.Ordered.{◌∈◌}
use Rattle.rows.specs.Row.{Row, IsRow}
use Rattle.rows.specs.Name.{Polarity, plus, minus}
use Rattle.certificates.specs.Certificate.{Certificate}
use Rattle.certificates.specs.Link.{Named, Link}
use Rattle.certificates.specs.Stores.{Held}

-- "A world gives each key and + name any finite set of rows, and each key and − name any set of rows at all."
-- (What it gives to a number, or to a name over 65,535, nothing ever asks.)
pub record World : Type 1 where
  pub finite_list : ℕ → ℕ → List Row
  pub any_list : ℕ → ℕ → Row → Type 0
  pub finite_rows : (k n : ℕ) (r : Row) → r ∈ finite_list k n → IsRow r
  pub any_rows : (k n : ℕ) (r : Row) → any_list k n r → IsRow r

-- "With + it says that the row is in the key's list, with − that it is not."
unfoldable pub Says : World → ℕ → ℕ → Polarity → Row → Type 0
Says W k n plus r = r ∈ W.finite_list k n
Says W k n minus r = ¬ (W.any_list k n r)

-- "A certificate is true in a world if what it says is so there."
abbrev pub TrueIn : World → Certificate → Type 0
TrueIn W c = Says W c.key c.name c.polarity c.row

-- "A + link says that the first list contains the second, a − link that it is contained in it."
unfoldable pub LinkSays : World → Polarity → Named → Named → Type 0
LinkSays W plus x y = (r : Row) → r ∈ W.finite_list y.key y.name → r ∈ W.finite_list x.key x.name
LinkSays W minus x y = (r : Row) → W.any_list x.key x.name r → W.any_list y.key y.name r

abbrev pub LinkTrueIn : World → Link → Type 0
LinkTrueIn W l = LinkSays W l.polarity l.first l.second

-- "worlds where all certificates accepted so far are true"; "In its worlds the links accepted so far are true as well."
pub record AllTrue (W : World) (h : Held) : Type 0 where
  pub certificates : (c : Certificate) → c ∈ h.certificates → TrueIn W c
  pub links : (l : Link) → l ∈ h.links → LinkTrueIn W l

-- U has all that W has in + lists, and nothing that W lacks in − lists
pub record Below (W U : World) : Type 0 where
  pub more : (k n : ℕ) (r : Row) → r ∈ W.finite_list k n → r ∈ U.finite_list k n
  pub less : (k n : ℕ) (r : Row) → U.any_list k n r → W.any_list k n r

-- each certificate is about a row
abbrev pub AboutRows : Held → Type 0
AboutRows h = (c : Certificate) → c ∈ h.certificates → IsRow c.row
