-- What is known of an expression on the way: its polarities, whether it is open, whether its draws are from closed sets only.
use Rattle.std.specs.Prelude.{Bool, true, false, not, ◌&&◌, ◌||◌, Result, Ok, Err}
use Rattle.refusals.specs.declared.Refusal.{Refusal}
use Rattle.refusals.specs.declared.Refusal.TheVariants.{NoPolarity, OpenDraw}
use Rattle.rows.specs.Name.{Polarity, plus, minus}
use Rattle.rows.specs.declared.Polarity as Held
use Rattle.rows.specs.declared.Polarity.TheVariants.{Plus, Minus}
use Rattle.policy.specs.Syntax.{Expr}
use Rattle.policy.specs.Polarity.{has_polarity, open_expr, draws_closed}
use Rattle.check_polarity.specs.Earlier.{Before}
use Rattle.check_polarity.specs.declared.Facts.{Facts}

unfoldable pub facts_for : Before → Expr → Facts
unfolding has_polarity open_expr draws_closed
facts_for b e = record { plus = has_polarity e b.known plus; minus = has_polarity e b.known minus; «open» = open_expr e b.known; draws_closed = draws_closed e b.known }

-- of rows of terms alone, or of their complement
abbrev pub term_facts : Bool → Facts
term_facts complement = record { plus = true; minus = true; «open» = complement; draws_closed = true }

-- of an expression, from those of its parts
unfoldable pub union_of : Facts → Facts → Facts
union_of a b = record { plus = a.plus && b.plus; minus = a.minus && b.minus; «open» = a.«open» || b.«open»; draws_closed = a.draws_closed && b.draws_closed }

unfoldable pub difference_of : Facts → Facts → Facts
difference_of a b = record { plus = a.plus && b.minus; minus = a.minus && b.plus; «open» = a.«open»; draws_closed = a.draws_closed && b.draws_closed }

-- of a comprehension, from those of a guard's expression and of what follows the guard
unfoldable pub draw_of : Facts → Facts → Facts
draw_of a b = record { plus = a.plus && b.plus; minus = a.minus && b.minus; «open» = false; draws_closed = not a.«open» && (a.draws_closed && b.draws_closed) }

unfoldable pub absent_of : Facts → Facts → Facts
absent_of a b = record { plus = a.minus && b.plus; minus = a.plus && b.minus; «open» = false; draws_closed = a.draws_closed && b.draws_closed }

-- 6 unless it has the polarity asked for, then 7
unfoldable pub admit_of : Facts → Bool → Result Facts Refusal
admit_of f false = Err NoPolarity
admit_of f true = elim f.draws_closed [ true ↦ Ok f | false ↦ Err OpenDraw ]

-- whether it has this polarity
unfoldable pub declared_of : Facts → Polarity → Bool
declared_of f plus = f.plus
declared_of f minus = f.minus

-- with + for −, and − for +
abbrev pub turned_facts : Facts → Facts
turned_facts f = record { plus = f.minus; minus = f.plus; «open» = f.«open»; draws_closed = f.draws_closed }

-- of a definition that is known: the polarity that it declares alone
abbrev pub one_polarity : Held.Polarity → Bool → Facts
one_polarity Plus o = record { plus = true; minus = false; «open» = o; draws_closed = true }
one_polarity Minus o = record { plus = false; minus = true; «open» = o; draws_closed = true }
