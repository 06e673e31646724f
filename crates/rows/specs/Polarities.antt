-- What the code's polarities and forms are.
use Rattle.std.specs.Prelude.{ℕ}
use Rattle.rows.specs.Name.{Polarity, plus, minus}
use Rattle.rows.specs.declared.Polarity as Held
use Rattle.rows.specs.declared.Polarity.TheVariants.{Plus, Minus}
use Rattle.rows.specs.declared.Form.{Form}
use Rattle.rows.specs.declared.Form.TheVariants.{Finite, Complement}

abbrev pub polarity_is : Held.Polarity → Polarity
polarity_is Plus = plus
polarity_is Minus = minus

abbrev pub polarity_number : Held.Polarity → ℕ
polarity_number Plus = 0
polarity_number Minus = 1

abbrev pub turned : Held.Polarity → Held.Polarity
turned Plus = Minus
turned Minus = Plus

-- a set's form as its word
abbrev pub form_number : Form → ℕ
form_number Finite = 0
form_number Complement = 1

abbrev pub form_of : Held.Polarity → Form
form_of Plus = Finite
form_of Minus = Complement
