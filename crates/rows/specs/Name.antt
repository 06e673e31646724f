-- Document 01, "Rows, sets, worlds": "A name is 0 to 65,535 with a polarity: 0 is + and 1 is −."
use Rattle.std.specs.Prelude.{ℕ, zero, suc, Bool, true, false, leb}

abbrev pub is_name : ℕ → Bool
is_name n = leb n 65535

pub data Polarity : Type 0 where
  plus minus : Polarity

abbrev pub is_polarity : ℕ → Bool
is_polarity w = leb w 1

-- the polarity that a word, 0 or 1, stands for
unfoldable pub polarity_of : ℕ → Polarity
polarity_of zero = plus
polarity_of (suc n) = minus

unfoldable pub polarity_word : Polarity → ℕ
polarity_word plus = 0
polarity_word minus = 1

abbrev pub opposite : Polarity → Polarity
opposite plus = minus
opposite minus = plus

abbrev pub same_polarity : Polarity → Polarity → Bool
same_polarity plus plus = true
same_polarity plus minus = false
same_polarity minus plus = false
same_polarity minus minus = true
