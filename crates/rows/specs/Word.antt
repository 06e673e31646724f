-- Document 01: "Everything is in 32-bit unsigned words."
use Rattle.std.specs.Prelude.{ℕ, ◌<◌, List, [], ◌∷◌}

-- each of the list is so
unfoldable pub All : {A : Type 0} → (A → Type 0) → List A → Type 0
All P [] = Unit {0}
All P (x ∷ xs) = P x × All P xs

abbrev pub IsWord : ℕ → Type 0
IsWord w = w < 4294967296

-- what every slice of words holds
abbrev pub Words : List ℕ → Type 0
Words = All IsWord
