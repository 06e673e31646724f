-- What is said of a name where this evidence is held: its rows, read or looked up.
use Rattle.std.specs.Prelude.{ℕ, ◌≡◌, Bool, List}
use Rattle.rows.specs.Ordered.{lists}
use Rattle.rows.specs.Row.{Row, row_before}
use Rattle.rows.specs.Name.{Polarity}
use Rattle.rows.specs.Sets.{RowSet, has}
use Rattle.rows.specs.Layout.{formed}
use Rattle.rows.specs.Polarities.{polarity_is, polarity_number}
use Rattle.certificates.specs.Link.{Named}
use Rattle.certificates.specs.Stores.{held_in}
use Rattle.policy.specs.Syntax.{Term}
use Rattle.meaning.specs.Values.{Values, value}
use Rattle.meaning.specs.Evidence.{named, names_held}
use Rattle.policy_places.specs.Places.{At, name_words}
use Rattle.read_links.specs.declared.Name.{Name}
use Rattle.read_names.specs.Reached.{name_rows}
use Rattle.read_names.specs.declared.held.Held as Lent

-- the key and the number
abbrev pub named_by : Name → Named
named_by n = named n.key n.number

-- the set of a name, by what is held
abbrev pub name_set : Lent.Held → Name → RowSet
name_set h n = names_held (held_in h.minute (record { store = h.store.now; links = h.links.now })) n.key n.number (polarity_is n.polarity)

-- the rows that are certified for a key's name
abbrev pub rows_for : Lent.Held → Name → List Row
rows_for h n = name_rows h.minute h.store.now h.links.now n.key n.number (polarity_number n.polarity)

-- the name stands at a word, with the value of its issuer
pub record StandsFor (ws : List ℕ) (at : ℕ) (vs : Values) (n : Name) : Type 0 where
  pub key : (t : Term) (m : ℕ) (p : Polarity) → At ws at (name_words t m p) → value vs t ≡ n.key
  pub number : (t : Term) (m : ℕ) (p : Polarity) → At ws at (name_words t m p) → m ≡ n.number
  pub polarity : (t : Term) (m : ℕ) (p : Polarity) → At ws at (name_words t m p) → p ≡ polarity_is n.polarity

-- whether a row belongs to a set of this form that lists it or does not
pub record SayBelongs (form : ℕ) (listed r : Bool) : Type 0 where
  pub means : (xs : List Row) (x : Row) → lists row_before xs x ≡ listed → has (formed form xs) x ≡ r
