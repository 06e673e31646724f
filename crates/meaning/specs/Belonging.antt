-- Document 01, "Belonging": "A world and the values of the variables in scope decide whether a row belongs to an expression".
-- No set, limit or reading order occurs here.
use Rattle.std.specs.Prelude.{ℕ, ◌≡◌, ◌⊎◌, T}
use mathlib.Core.List.{List, [], ◌∷◌, ◌++◌, map}
use Rattle.std.proofs.Math.ListN.{get_or}
use Rattle.rows.specs.Ordered.{◌∈◌}
use Rattle.rows.specs.Row.{Row, IsRow, is_key}
use Rattle.rows.specs.Name.{Polarity, plus, minus}
use Rattle.policy.specs.OwnKey.{Origin, by_certificates, by_definition}
use Rattle.policy.specs.Leaf.{Leaf, finite, cofinite, definition, listed, vetted}
use Rattle.policy.specs.Syntax.{Expr, leaf, union, difference, comprehension, Body, head, draw, same, different, absent}
use Rattle.meaning.specs.Values.{Values, value, row_of}
use Rattle.meaning.specs.World.{World}
use Rattle.meaning.specs.Matching.{Matches}

-- "it is in the list that the world gives that key and name; for a number, never with +, always with −"
unfoldable pub InList : World → ℕ → ℕ → Polarity → Row → Type 0
InList W k n plus r = T (is_key k) × (r ∈ W.finite_list k n)
InList W k n minus r = T (is_key k) → W.any_list k n r

-- what each earlier definition has, in file order
abbrev pub Meanings : Type 1
Meanings = List (Row → Type 0)

-- the rows that a name has: of this key, number and polarity, from there, where the earlier definitions have these
abbrev pub Names : Type 1
Names = Meanings → ℕ → ℕ → Polarity → Origin → Row → Type 0

-- in a world; document 02, N7: an own name "stands for its definition". "The worlds keep their lists for our key, which only variables and links can reach."
unfoldable pub InName : World → Names
unfolding InList
InName W defs k n p by_certificates r = InList W k n p r
InName W defs k n p (by_definition d) r = get_or defs d (λ x. ⊥) r

module _ (names : Names) (defs : Meanings) where
  unfoldable pub BelongsLeaf : Leaf → Values → Row → Type 0
  unfolding row_of value
  BelongsLeaf (finite rs) vs r = r ∈ map (row_of vs) rs
  BelongsLeaf (cofinite rs) vs r = ¬ (r ∈ map (row_of vs) rs)
  BelongsLeaf (definition d) vs r = get_or defs d (λ x. ⊥) r
  BelongsLeaf (listed t n p o) vs r = names defs (value vs t) n p o r
  -- document 02, N2: "that key's list if the one-atom row of the issuer is absent from that definition, and no rows otherwise"
  BelongsLeaf (vetted t n o d) vs r = (¬ get_or defs d (λ x. ⊥) (value vs t ∷ [])) × names defs (value vs t) n plus o r

-- in a policy of this format
module _ (format : ℕ) (names : Names) (defs : Meanings) where
  unfoldable mutual
    unfolding BelongsLeaf row_of value

    pub BelongsBy : Expr → Values → Row → Type 0
    BelongsBy (leaf x) vs r = BelongsLeaf names defs x vs r
    BelongsBy (union a b) vs r = BelongsBy a vs r ⊎ BelongsBy b vs r
    BelongsBy (difference a b) vs r = BelongsBy a vs r × (¬ BelongsBy b vs r)
    BelongsBy (comprehension b) vs r = PassesBy b vs r

    -- "some values of the comprehension's own variables pass every guard and make the head this row": guard by guard, the values of the
    -- variables that a draw brings stand with that draw
    pub PassesBy : Body → Values → Row → Type 0
    PassesBy (head h) vs r = r ≡ row_of vs h
    PassesBy (draw e p rest) vs r = (own : List ℕ) × ((x : Row) × IsRow x × Matches format p vs own x × BelongsBy e vs x) × PassesBy rest (vs ++ own) r
    PassesBy (same x y rest) vs r = (value vs x ≡ value vs y) × PassesBy rest vs r
    PassesBy (different x y rest) vs r = (¬ (value vs x ≡ value vs y)) × PassesBy rest vs r
    PassesBy (absent h e rest) vs r = (¬ BelongsBy e vs (row_of vs h)) × PassesBy rest vs r

-- in a world
abbrev pub Belongs : ℕ → World → Meanings → Expr → Values → Row → Type 0
Belongs format W = BelongsBy format (InName W)

abbrev pub Passes : ℕ → World → Meanings → Body → Values → Row → Type 0
Passes format W = PassesBy format (InName W)

-- "it belongs to that definition's expression, with no variables": each definition in terms of those before it
unfoldable pub meanings_by : ℕ → Names → List Expr → Meanings → Meanings
unfolding BelongsBy
meanings_by format names [] defs = defs
meanings_by format names (e ∷ es) defs = meanings_by format names es (defs ++ (BelongsBy format names defs e [] ∷ []))

abbrev pub meanings : ℕ → World → List Expr → Meanings → Meanings
meanings format W = meanings_by format (InName W)

-- "A query starts with no variables."; "The query follows its policy's format."
unfoldable pub BelongsTo : ℕ → World → List Expr → Expr → Row → Type 0
unfolding meanings_by BelongsBy InName
BelongsTo format W es q r = Belongs format W (meanings format W es []) q [] r
