use Rattle.rows.specs.Polarities.{polarity_number}
use Rattle.std.proofs.Common.{ap, arith, ◌≡◌}
use Rattle.read_names.proofs.Named.{belongs_finite, belongs_complement}
use Rattle.read_names.proofs.belongs.Goals as goal

pub returns-in-Plus : goal.returns-in-Plus
returns-in-Plus c = belongs_finite (ap polarity_number c.in-Plus.is)

pub returns-in-Minus : goal.returns-in-Minus
returns-in-Minus c = belongs_complement (λ z. let e : polarity_number c.args.polarity ≡ 1 = ap polarity_number c.in-Minus.is in omega arith)
