-- What the search along links asks and finds.
use Rattle.std.specs.Prelude.{ℕ, zero, suc, ◌+◌, ◌≤◌, ◌<◌, ◌≡◌, ◌↔◌, ◌⊎◌, Bool, true, List, [], ◌∷◌, ◌++◌, get_or, drop}
use Rattle.rows.specs.Ordered.{◌∈◌}
use Rattle.rows.specs.Records.{count_of, record_at}
use Rattle.rows.specs.Name.{Polarity, polarity_of}
use Rattle.certificates.specs.Link.{Named, Link, link_words, link_of, most_links, link_records, links_said}
use Rattle.rows.specs.Polarities.{polarity_is}
use Rattle.rows.specs.declared.Polarity as Held
use Rattle.rows.specs.declared.Polarity.TheVariants.{Plus}
use Rattle.read_links.specs.declared.Name.{Name}
use Rattle.meaning.specs.Links.{Reaches}
use Rattle.meaning.specs.Evidence.{named}

-- the links of a link store
abbrev pub links_of : List ℕ → List Link
links_of links = links_said (link_records links)

-- a key's list without its polarity
abbrev pub named_by : Name → Named
named_by n = named n.key n.number

abbrev pub nobody : Name
nobody = record { key = 0; number = 0; polarity = Plus }

-- the first so many names
unfoldable pub names_in : ℕ → List Name → List Named
names_in zero ns = []
names_in (suc n) ns = named_by (get_or ns 0 nobody) ∷ names_in n (drop 1 ns)

-- no name stands there twice
unfoldable pub Once : List Named → Type 0
Once [] = Unit {0}
Once (x ∷ xs) = (¬ (x ∈ xs)) × Once xs

-- room for a name and the second of each link
abbrev pub found_room : ℕ
found_room = 1 + most_links

-- a link of this polarity starts at the name
pub record StartsAt (links : List ℕ) (p : Polarity) (x : Named) : Type 0 where
  pub link : Link
  pub held : link ∈ links_of links
  pub polar : link.polarity ≡ p
  pub here : link.first ≡ x

pub record SayLinked (links : List ℕ) (polarity key name : ℕ) (r : Bool) : Type 0 where
  pub means : (r ≡ true) ↔ StartsAt links (polarity_of polarity) (named key name)

-- just the names that links of this polarity reach from this one, each once, and all of this polarity
pub record SayReached (links : List ℕ) (name : Name) (found : List Name) (count : ℕ) : Type 0 where
  pub few : count ≤ found_room
  pub just : (y : Named) → (y ∈ names_in count found) ↔ Reaches (links_of links) (polarity_is name.polarity) (named_by name) y
  pub once : Once (names_in count found)
  pub polar : (i : ℕ) → i < count → (get_or found i nobody).polarity ≡ name.polarity

-- ---- what the functions within ask and find

-- link i, and name i of those found
abbrev pub link_in : List ℕ → ℕ → Link
link_in links i = link_of (record_at link_words links i)

abbrev pub name_in : List Name → ℕ → Named
name_in found i = named_by (get_or found i nobody)

-- link i starts at the name
pub record From (links : List ℕ) (key name polarity i : ℕ) : Type 0 where
  pub held : i < count_of links
  pub polar : (link_in links i).polarity ≡ polarity_of polarity
  pub here : (link_in links i).first ≡ named key name

pub record SayFrom (links : List ℕ) (key name polarity i : ℕ) (r : Bool) : Type 0 where
  pub means : (r ≡ true) ↔ From links key name polarity i

-- the links that start at the name follow one another from link `start` on
pub record FirstFrom (links : List ℕ) (key name polarity start : ℕ) : Type 0 where
  pub none : (i : ℕ) → From links key name polarity i → start ≤ i
  pub together : (i j : ℕ) → start ≤ i → i ≤ j → From links key name polarity j → From links key name polarity i

pub record SayFound (found : List Name) (count key name : ℕ) (r : Bool) : Type 0 where
  pub means : (r ≡ true) ↔ (named key name ∈ names_in count found)

-- there is room for the name, if it is not there
pub record RoomFor (x : Named) (found : List Name) (count : ℕ) : Type 0 where
  pub new : (¬ (x ∈ names_in count found)) → count < found_room

-- a name put behind others, if it is not among them
pub data Adding (x : Named) (xs : List Named) : List Named → Type 0 where
  known : x ∈ xs → Adding x xs xs
  new : (¬ (x ∈ xs)) → Adding x xs (xs ++ (x ∷ []))

pub record Added (x : Name) (found : List Name) (count : ℕ) (found' : List Name) (count' : ℕ) : Type 0 where
  pub names : Adding (named_by x) (names_in count found) (names_in count' found')
  pub each : (i : ℕ) → i < count' → (get_or found' i nobody ≡ x) ⊎ ((i < count) × (get_or found' i nobody ≡ get_or found i nobody))

-- what was found so far from the name x: no name twice, and none that is not reached
pub record Sought (ls : List Link) (p : Polarity) (x : Named) (names : List Named) : Type 0 where
  pub start : x ∈ names
  pub only : (y : Named) → y ∈ names → Reaches ls p x y
  pub once : Once names

-- the same of the names found: the search started from the first
pub record Search (links : List ℕ) (p : Held.Polarity) (found : List Name) (count : ℕ) : Type 0 where
  pub sought : Sought (links_of links) (polarity_is p) (name_in found 0) (names_in count found)
  pub polar : (i : ℕ) → i < count → (get_or found i nobody).polarity ≡ p

-- names added behind others
pub record Grows (xs ys : List Named) : Type 0 where
  pub later : List Named
  pub all : ys ≡ xs ++ later

-- wherever a link leads from the name x is among the names
abbrev pub Led : List Link → Polarity → Named → List Named → Type 0
Led ls p x names = (l : Link) → l ∈ ls → l.polarity ≡ p → l.first ≡ x → l.second ∈ names

-- the names found stay, and the links of name `next` lead to none that is not there
pub record SayFollowed (links : List ℕ) (p : Held.Polarity) (found : List Name) (count next : ℕ) (found' : List Name) (count' : ℕ) : Type 0 where
  pub search : Search links p found' count'
  pub grows : Grows (names_in count found) (names_in count' found')
  pub led : Led (links_of links) (polarity_is p) (name_in found next) (names_in count' found')
