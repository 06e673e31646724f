-- What is left of a text.
use Rattle.std.specs.Prelude.{◌≡◌, ℕ, ◌-◌, List, length, drop}

-- what is left is what stands of the text from some place on, so it is no longer than the text
abbrev pub IsRear : List ℕ → List ℕ → Type 0
IsRear left text = left ≡ drop (length text - length left) text
