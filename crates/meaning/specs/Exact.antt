-- "Both gives verdict 0 exact": an expression with both polarities is read the same, draws and refusals too, whatever is held and whatever the earlier
-- definitions were read as. And the set that an expression is read as never depends on the draws made before. So the exact answers of demand 3 are equal.
use Rattle.std.specs.Prelude.{ℕ, ◌≡◌, List, T}
use Rattle.rows.specs.Name.{plus, minus}
use Rattle.rows.specs.Sets.{RowSet}
use Rattle.policy.specs.Syntax.{Expr}
use Rattle.policy.specs.Polarity.{Known, has_polarity}
use Rattle.meaning.specs.Values.{Values}
use Rattle.meaning.specs.Evidence.{Evidence}
use Rattle.meaning.specs.Reading.{done, Reading, read}

-- from whatever counts of draws the reading is done, it gives one value
abbrev pub Steady : {A : Type 0} → Reading A → Type 0
Steady m = (k k' j j' : ℕ) (a a' : _) → m k ≡ done a j → m k' ≡ done a' j' → a ≡ a'

-- with both polarities, the two readings are one
abbrev pub ReadAlike : ℕ → Evidence → Evidence → List RowSet → List RowSet → List Known → Expr → Type 0
ReadAlike format names names' sets sets' ks e =
    T (has_polarity e ks plus) → T (has_polarity e ks minus) → (vs : Values) (k : ℕ) → read format names sets e vs k ≡ read format names' sets' e vs k

pub record Theorem : Type 0 where
  pub alike : (format : ℕ) (names names' : Evidence) (sets sets' : List RowSet) (ks : List Known) (e : Expr) → ReadAlike format names names' sets sets' ks e
  pub steady : (format : ℕ) (names : Evidence) (sets : List RowSet) (e : Expr) (vs : Values) → Steady (read format names sets e vs)
