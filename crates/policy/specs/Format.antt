-- A policy's format: its word 0. Document 01 has the one, 1; document 02, N6, a second: "Refusal 1 now lets formats 1 and 2 pass." They differ in how
-- patterns match rows, in `meaning/specs/Matching.antt`.
use Rattle.std.specs.Prelude.{ℕ, Bool, ◌||◌, List, eqb, get_or}

-- "Format 1 keeps equal widths."
abbrev pub equal_widths : ℕ
equal_widths = 1

-- "Format 2, wider rows."
abbrev pub wider_rows : ℕ
wider_rows = 2

unfoldable pub is_format : ℕ → Bool
is_format format = eqb format equal_widths || eqb format wider_rows

-- "Word 0 is .. (the format)"
abbrev pub format_of : List ℕ → ℕ
format_of policy = get_or policy 0 0
