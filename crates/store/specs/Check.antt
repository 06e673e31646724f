-- What the test of one record answers.
use Rattle.std.specs.Prelude.{◌≡◌, true, false, List, ℕ, Result, MatchResult}
use Rattle.refusals.specs.Numbers.{number}
use Rattle.refusals.specs.declared.Refusal.{Refusal}
use Rattle.certificates.specs.Filing.{Kind}

-- the words are a record of the kind, or they are refused as the kind says
abbrev pub Checked : Kind → List ℕ → Result Unit Refusal → Type 0
Checked kind w r = MatchResult r (λ u. kind.sound w ≡ true) (λ n. (kind.sound w ≡ false) × (number n ≡ kind.bad_record w))
