-- What is read is what belongs: document 01's "Reading" held against its "Belonging".
--
-- Where the evidence shows what a world's lists have, and the sets read for the earlier definitions have what those mean there, the set that an expression is
-- read as has just the rows that belong to the expression in that world. It lists rows alone, in ascending order, at most 128 of them. What is held shows
-- the minimal model.
use Rattle.std.specs.Prelude.{ℕ, ◌≤◌, ◌≡◌, ◌↔◌, List, [], T, length, get_or}
use Rattle.rows.specs.Word.{Words}
use Rattle.rows.specs.Row.{Row, IsRow}
use Rattle.rows.specs.Name.{Polarity}
use Rattle.rows.specs.Sets.{RowSet, only, listing, Proper, most_rows, has}
use Rattle.certificates.specs.Stores.{Held}
use Rattle.policy.specs.OwnKey.{Scope}
use Rattle.policy.specs.Syntax.{Expr}
use Rattle.policy.specs.Words.{expr_words}
use Rattle.policy.specs.WellFormed.{Fit}
use Rattle.meaning.specs.Values.{Values}
use Rattle.meaning.specs.Evidence.{Evidence, names_held}
use Rattle.meaning.specs.Reading.{done, read}
use Rattle.meaning.specs.World.{World, AboutRows}
use Rattle.meaning.specs.Model.{Minimal}
use Rattle.meaning.specs.Belonging.{InList, Meanings, Belongs}

-- the set lists rows alone, in ascending order, at most 128 of them: it has a layout
pub record Tidy (s : RowSet) : Type 0 where
  pub proper : Proper (listing s)
  pub few : length (listing s) ≤ most_rows

-- the names' sets list rows alone, in ascending order; 13 is tested where a name is read
abbrev pub ProperNames : Evidence → Type 0
ProperNames names = (k n : ℕ) (p : Polarity) → Proper (listing (names k n p))

-- the sets read for the earlier definitions are tidy
abbrev pub TidySets : List RowSet → Type 0
TidySets sets = (d : ℕ) → Tidy (get_or sets d (only []))

-- the evidence shows what the world's lists have
abbrev pub Shows : Evidence → World → Type 0
Shows names W = (k n : ℕ) (p : Polarity) (r : Row) → IsRow r → T (has (names k n p) r) ↔ InList W k n p r

-- the sets read for the earlier definitions have what those definitions mean
abbrev pub Agree : List RowSet → Meanings → Type 0
Agree sets D = (d : ℕ) (r : Row) → IsRow r → T (has (get_or sets d (only [])) r) ↔ get_or D d (λ x. ⊥) r

-- P holds of whatever set the expression is read as, after however many draws. The expression keeps the rules, n variables being in scope; its words and the
-- variables' values are words.
abbrev pub WheneverRead : ℕ → Evidence → List RowSet → Expr → (Values → RowSet → Type 0) → Type 0
WheneverRead format names sets e P =
    (scope : Scope) (n : ℕ) → Fit scope n e → Words (expr_words e n) → (vs : Values) → Words vs → (k : ℕ) (s : RowSet) (j : ℕ) → read format names sets e vs k ≡ done s j → P vs s

-- the set has just the rows that belong to the expression
abbrev pub JustThose : ℕ → World → Meanings → Expr → Values → RowSet → Type 0
JustThose format W D e vs s = (r : Row) → IsRow r → T (has s r) ↔ Belongs format W D e vs r

pub record Theorem : Type 1 where
  pub tidy : (format : ℕ) (names : Evidence) (sets : List RowSet) → ProperNames names → TidySets sets → (e : Expr) → WheneverRead format names sets e (λ vs s. Tidy s)
  pub rows : (format : ℕ) (names : Evidence) (W : World) → Shows names W → ProperNames names → (sets : List RowSet) (D : Meanings) → Agree sets D → TidySets sets →
      (e : Expr) → WheneverRead format names sets e (JustThose format W D e)
  -- what is held shows the minimal model
  pub proper : (h : Held) → AboutRows h → ProperNames (names_held h)
  pub shows : (h : Held) → AboutRows h → (W : World) → Minimal h W → Shows (names_held h) W
