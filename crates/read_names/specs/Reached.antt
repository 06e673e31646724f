-- The rows of a name, through links: what the code asks and finds.
use Rattle.std.specs.Prelude.{ℕ, ◌/◌, ◌≤◌, ◌<◌, ◌≡◌, ◌⊎◌, ◌↔◌, Bool, true, List, length, get_or}
use Rattle.refusals.specs.declared.Refusal.{Refusal}
use Rattle.refusals.specs.declared.Refusal.TheVariants.{TooManyRows}
use Rattle.rows.specs.Ordered.{◌∈◌, ascending}
use Rattle.rows.specs.Row.{Row, row_before}
use Rattle.rows.specs.Name.{polarity_of}
use Rattle.rows.specs.Sets.{RowSet, most_rows, listing, has}
use Rattle.rows.specs.Layout.{pieces, rows_in, set_in}
use Rattle.certificates.specs.Certificate.{record_words}
use Rattle.certificates.specs.Store.{certificates_at}
use Rattle.certificates.specs.NamePart.{name_part}
use Rattle.certificates.specs.Link.{Named}
use Rattle.meaning.specs.Evidence.{joined}
use Rattle.read_values.specs.Answers.{Filled}
use Rattle.read_links.specs.Reached.{links_of}
use Rattle.read_held.specs.Held.{rows_held}
use Rattle.read_names.specs.declared.reached.Looking.{Looking}

-- a name's part of the store, its records, and the rows of those that hold at the minute
abbrev pub part_of : List ℕ → ℕ → Named → List ℕ
part_of store polarity y = name_part store y.key y.name polarity

abbrev pub records_of : List ℕ → ℕ → Named → List (List ℕ)
records_of store polarity y = pieces record_words (length (part_of store polarity y) / record_words) (part_of store polarity y)

abbrev pub own_rows : ℕ → List ℕ → ℕ → Named → List Row
own_rows minute store polarity y = rows_held minute (records_of store polarity y)

-- and those that are joined for it through links
abbrev pub name_rows : ℕ → List ℕ → List ℕ → ℕ → ℕ → ℕ → List Row
name_rows minute store links key name polarity = joined (links_of links) (certificates_at minute store) key name (polarity_of polarity)

-- the row is one of these names' own
abbrev pub HeldFor : ℕ → List ℕ → ℕ → List Named → Row → Type 0
HeldFor minute store polarity ys x = (y : Named) × (y ∈ ys) × (x ∈ own_rows minute store polarity y)

-- a list of rows in order that has all these is longer than a set's
abbrev pub Overfull : (Row → Type 0) → Type 0
Overfull P = (ys : List Row) → ascending row_before ys ≡ true → ((x : Row) → P x → x ∈ ys) → most_rows < length ys

-- the set lists these rows too
pub record Joined (P : Row → Type 0) (before area : List ℕ) : Type 0 where
  pub filled : Filled area
  pub form : get_or area 0 0 ≡ get_or before 0 0
  pub rows : (x : Row) → (x ∈ rows_in area) ↔ ((x ∈ rows_in before) ⊎ P x)

-- or they and its own are too many
abbrev pub NotJoined : (Row → Type 0) → List ℕ → Refusal → Type 0
NotJoined P before e = (e ≡ TooManyRows) × Overfull (λ x. (x ∈ rows_in before) ⊎ P x)

-- whether the row is one of these names' own; and rows that have all of theirs, no more than there are records
pub record SayLooking (minute : ℕ) (store : List ℕ) (polarity : ℕ) (names : List Named) (x : Row) (r : Looking) : Type 0 where
  pub means : (r.held ≡ true) ↔ HeldFor minute store polarity names x
  pub rows : List Row
  pub order : ascending row_before rows ≡ true
  pub all : (y : Row) → HeldFor minute store polarity names y → y ∈ rows
  pub few : length rows ≤ r.records

-- the set in the area is this one, which lists no more rows than a set may
pub record Listed (s : RowSet) (area : List ℕ) : Type 0 where
  pub filled : Filled area
  pub set : set_in area ≡ s
  pub few : length (listing s) ≤ most_rows

-- whether the row belongs to the set, which lists no more than that
pub record Belongs (s : RowSet) (x : Row) (r : Bool) : Type 0 where
  pub few : length (listing s) ≤ most_rows
  pub means : has s x ≡ r

-- it lists more
abbrev pub Large : RowSet → Refusal → Type 0
Large s e = (e ≡ TooManyRows) × (most_rows < length (listing s))
