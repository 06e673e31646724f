-- The tests of a record's words, a word at a time.
use Prim.Native.Nat.{ℕ, ◌-◌}
use mathlib.Core.Path.{◌≡◌, sym, ◌∙◌}
use mathlib.Core.Bool.{Bool, true}
use mathlib.Core.List.{List}
use Rattle.rows.specs.Records.{record_at, behind_at}
use Rattle.rows.proofs.Case.{and_true}
use Rattle.rows.proofs.Records.{behind_first, behind_before}
use Rattle.certificates.specs.Certificate.{record_words, sound_record, record_before}
use Rattle.certificates.specs.Steps.{sound_at}

-- record i of a store, test by test
module _ (store : List ℕ) (i : ℕ) (r : List ℕ) (at_i : r ≡ record_at record_words store i) where
  pub at_first : true ≡ sound_record r → i ≡ 0 → true ≡ sound_at store i
  at_first e f = rw (← at_i, ← e) (sym (behind_first record_words store record_before i f))

  pub at_next : (b : Bool) (s : List ℕ) → true ≡ sound_record r → (i ≡ 0 → ⊥) → s ≡ record_at record_words store (i - 1) → b ≡ record_before s r → b ≡ sound_at store i
  at_next b s e n f g = g ∙ rw (behind_before record_words store record_before i n r s f at_i, ← at_i, ← e)

pub at_parts : (store : List ℕ) (i : ℕ) → sound_at store i ≡ true → (sound_record (record_at record_words store i) ≡ true) × (behind_at record_words record_before store i ≡ true)
at_parts store i e = and_true (sound_record (record_at record_words store i)) (behind_at record_words record_before store i) e
