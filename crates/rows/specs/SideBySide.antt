-- Document 02, N1, "Rows of one observation side by side": what the order of rows is for. Shown in proofs/SideBySide.antt.
use Rattle.std.specs.Prelude.{ℕ, ◌<◌, ◌≡◌, true, List, [], ◌∷◌, ◌++◌, length, take}
use Rattle.rows.specs.Ordered.{ascending}
use Rattle.rows.specs.Row.{Row, first_key, row_before}

-- the row has these first atoms
abbrev pub Begins : List ℕ → Row → Type 0
Begins front r = take (length front) r ≡ front

-- an observation alone, with one and with two atoms more; the next one; a key
abbrev pub example : List Row
example = (7 ∷ []) ∷ (7 ∷ 1 ∷ []) ∷ (7 ∷ 1 ∷ 2 ∷ []) ∷ (8 ∷ []) ∷ (first_key ∷ []) ∷ []

pub record Theorem : Type 0 where
  -- "Row order becomes atom by atom first."
  pub atom_by_atom : (front : List ℕ) (a b : ℕ) (x y : List ℕ) → a < b → row_before (front ++ (a ∷ x)) (front ++ (b ∷ y)) ≡ true
  -- "If one row ends where the other goes on, the shorter comes first."
  pub shorter_first : (r : Row) (a : ℕ) (x : List ℕ) → row_before r (r ++ (a ∷ x)) ≡ true
  -- what stands between two rows with the same first atoms has them too
  pub together : (front : List ℕ) (x y z : Row) → Begins front x → Begins front z → row_before x y ≡ true → row_before y z ≡ true → Begins front y
  pub shown : ascending row_before example ≡ true
