-- The matching rule: which rows a draw's pattern matches, by the policy's format. Document 02, N6: "In a policy of format 2 a pattern of width w matches every
-- row of at least w atoms by its first w. Format 1 keeps equal widths." Reading goes by `match`, belonging by `Matches`, and both by `fits`.
-- (An absent guard's row, and that of code 8, are whole rows in either format.)
use Rattle.std.specs.Prelude.{ℕ, ◌≡◌, ◌↔◌, Bool, true, false, List, [], ◌∷◌, ◌++◌, T, eqb, leb, length, take}
use Rattle.std.proofs.Math.Option.{Option, none, some}
use Rattle.rows.specs.Row.{Row}
use Rattle.policy.specs.Format.{equal_widths, wider_rows}
use Rattle.policy.specs.Syntax.{Slot, old, new}
use Rattle.policy.specs.Words.{fresh}
use Rattle.meaning.specs.Values.{Values, value}

-- may a pattern of width w match a row of n atoms?
unfoldable pub fits : ℕ → ℕ → ℕ → Bool
fits format w n = elim (eqb format wider_rows) [ true ↦ leb w n | false ↦ eqb w n ]

-- ---- in reading

-- the slots against a row's first atoms: "A term in a pattern must equal the atom drawn; a variable from earlier in the pattern may be used." What comes of it are
-- the values, with those of the new variables behind them.
unfoldable pub match_first : List Slot → Values → Row → Option Values
unfolding value
match_first [] vs x = some vs
match_first (old t ∷ p) vs [] = none
match_first (old t ∷ p) vs (a ∷ x) = elim (eqb (value vs t) a) [ true ↦ match_first p vs x | false ↦ none ]
match_first (new ∷ p) vs [] = none
match_first (new ∷ p) vs (a ∷ x) = match_first p (vs ++ (a ∷ [])) x

-- a pattern against a row; one that it does not fit "is passed over"
unfoldable pub match : ℕ → List Slot → Values → Row → Option Values
unfolding fits match_first
match format p vs x = elim (fits format (length p) (length x)) [ true ↦ match_first p vs x | false ↦ none ]

-- ---- in belonging

-- the pattern with values for its new variables: the atoms that it then matches
unfoldable pub fill : List Slot → Values → List ℕ → Row
unfolding value
fill [] vs own = []
fill (old t ∷ p) vs own = value vs t ∷ fill p vs own
fill (new ∷ p) vs [] = []
fill (new ∷ p) vs (a ∷ own) = a ∷ fill p (vs ++ (a ∷ [])) own

-- the pattern, with these values of its own variables, matches the row by its first atoms
pub record Matches (format : ℕ) (p : List Slot) (vs : Values) (own : List ℕ) (x : Row) : Type 0 where
  pub fitting : T (fits format (length p) (length x))
  pub enough : length own ≡ fresh p
  pub filled : take (length p) x ≡ fill p vs own

-- ---- the law that ties them

-- the row matches with some values of the pattern's own variables, and these stand behind the others
pub record Binds (format : ℕ) (p : List Slot) (vs : Values) (x : Row) (ws : Values) : Type 0 where
  pub own : List ℕ
  pub fit : Matches format p vs own x
  pub behind : ws ≡ vs ++ own

pub record Theorem : Type 0 where
  pub tied : (format : ℕ) (p : List Slot) (vs : Values) (x : Row) (ws : Values) → (match format p vs x ≡ some ws) ↔ Binds format p vs x ws
  -- "Format 1 keeps equal widths": the pattern, filled, is the row
  pub equal : (p : List Slot) (vs : Values) (own : List ℕ) (x : Row) → Matches equal_widths p vs own x ↔ ((length own ≡ fresh p) × (x ≡ fill p vs own))
  -- format 2: the pattern, filled, is what the row begins with
  pub wider : (p : List Slot) (vs : Values) (own : List ℕ) (x : Row) →
      Matches wider_rows p vs own x ↔ ((length own ≡ fresh p) × ((more : Row) × (x ≡ fill p vs own ++ more)))
