-- The two first words.
use Rattle.std.proofs.Common.{ℕ, ◌≤◌, ◌∙◌, ap, set, arith}
use Rattle.rows.specs.declared.Form.{Form}
use Rattle.rows.specs.declared.Form.TheVariants.{Finite, Complement}
use Rattle.rows.specs.Polarities.{form_number}
use Rattle.sets.proofs.Laid.{written_empty}
use Rattle.sets.proofs.listing.clear.Goals as goal

below_two : (f : Form) → form_number f ≤ 1
below_two Finite = omega arith
below_two Complement = omega arith

pub returns : goal.returns
returns c =
    ap (λ (n : ℕ). set (set c.args.set.now 1 0) 0 n) c.into.ensures ∙ written_empty (form_number c.args.form) c.args.set.now (below_two c.args.form) (omega arith)
