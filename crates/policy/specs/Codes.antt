-- The numbers of the code's formats, codes and tags, and how a word is read as one of them.
use Rattle.std.specs.Prelude.{ℕ, ◌≡◌, ◌≢◌, Result, MatchResult}
use Rattle.refusals.specs.declared.Refusal.{Refusal}
use Rattle.refusals.specs.declared.Refusal.TheVariants.{BadWord, BadHeader}
use Rattle.policy.specs.declared.codes.Code.{Code}
use Rattle.policy.specs.declared.codes.Code.TheVariants as code
use Rattle.policy.specs.declared.codes.GuardCode.{GuardCode}
use Rattle.policy.specs.declared.codes.GuardCode.TheVariants as guard
use Rattle.policy.specs.declared.codes.Tag.{Tag}
use Rattle.policy.specs.declared.codes.Tag.TheVariants as tag
use Rattle.policy.specs.declared.codes.Format.{Format}
use Rattle.policy.specs.declared.codes.Format.TheVariants as format
use Rattle.policy.specs.declared.codes.Verdict.{Verdict}
use Rattle.policy.specs.declared.codes.Verdict.TheVariants as verdict

abbrev pub format_number : Format → ℕ
format_number format.EqualWidths = 1
format_number format.WiderRows = 2

abbrev pub code_number : Code → ℕ
code_number code.Finite = 1
code_number code.Cofinite = 2
code_number code.Definition = 3
code_number code.Name = 4
code_number code.Union = 5
code_number code.Difference = 6
code_number code.Comprehension = 7
code_number code.Vetted = 8

abbrev pub guard_number : GuardCode → ℕ
guard_number guard.Draw = 1
guard_number guard.Same = 2
guard_number guard.Different = 3
guard_number guard.Absent = 4

abbrev pub tag_number : Tag → ℕ
tag_number tag.Atom = 0
tag_number tag.Variable = 1
tag_number tag.New = 2

-- 0 exact, 1 lower, 2 upper
abbrev pub verdict_number : Verdict → ℕ
verdict_number verdict.Exact = 0
verdict_number verdict.Lower = 1
verdict_number verdict.Upper = 2

-- the word is its number, or the number of none and refused
abbrev pub FormatRead : ℕ → Result Format Refusal → Type 0
FormatRead w r = MatchResult r (λ f. format_number f ≡ w) (λ e. (e ≡ BadHeader) × ((f : Format) → format_number f ≢ w))

abbrev pub CodeRead : ℕ → Result Code Refusal → Type 0
CodeRead w r = MatchResult r (λ c. code_number c ≡ w) (λ e. (e ≡ BadWord) × ((c : Code) → code_number c ≢ w))

abbrev pub GuardRead : ℕ → Result GuardCode Refusal → Type 0
GuardRead w r = MatchResult r (λ g. guard_number g ≡ w) (λ e. (e ≡ BadWord) × ((g : GuardCode) → guard_number g ≢ w))

abbrev pub TagRead : ℕ → Result Tag Refusal → Type 0
TagRead w r = MatchResult r (λ t. tag_number t ≡ w) (λ e. (e ≡ BadWord) × ((t : Tag) → tag_number t ≢ w))
