-- The minimal model of what is held: document 01, "Store and filing"; document 02, N5. Shown in proofs/Model.antt.
use Rattle.std.specs.Prelude.{ℕ, ◌↔◌}
use Rattle.rows.specs.Ordered.{◌∈◌}
use Rattle.rows.specs.Row.{Row, IsRow}
use Rattle.rows.specs.Name.{Polarity, plus, minus}
use Rattle.certificates.specs.Link.{Named}
use Rattle.certificates.specs.Stores.{Held}
use Rattle.meaning.specs.Links.{Reaches}
use Rattle.meaning.specs.Evidence.{named}
use Rattle.meaning.specs.World.{World, AllTrue, Below, AboutRows}

-- "the least + lists and the greatest − lists that satisfy every certificate and link"
pub record Minimal (h : Held) (W : World) : Type 1 where
  pub satisfies : AllTrue W h
  pub least : (U : World) → AllTrue U h → Below W U

-- a certificate says this of a name that links reach from the key's name
pub record Certified (h : Held) (k n : ℕ) (p : Polarity) (r : Row) : Type 0 where
  pub of : Named
  pub reached : Reaches h.links p (named k n) of
  pub says : record { key = of.key; name = of.name; polarity = p; row = r } ∈ h.certificates

-- "a + name has just its certified rows; a − name has all rows but its certified ones": those of every name that links reach from it
pub record JustCertified (h : Held) (W : World) : Type 0 where
  pub plus_name : (k n : ℕ) (r : Row) → (r ∈ W.finite_list k n) ↔ Certified h k n plus r
  pub minus_name : (k n : ℕ) (r : Row) → W.any_list k n r ↔ (IsRow r × (¬ Certified h k n minus r))

pub record Theorem : Type 1 where
  -- there is such a model, circles of links or not,
  pub some : (h : Held) → AboutRows h → (W : World) × Minimal h W
  -- and it is what reaching gives. (That it is what reading reads: `shows` of Faithful.antt.)
  pub reaching : (h : Held) → AboutRows h → (W : World) → Minimal h W → JustCertified h W
