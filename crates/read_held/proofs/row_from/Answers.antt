-- The atoms are written over the first of four, and so many are the row's.
use Rattle.std.proofs.Common.{ℕ, List, ◌∷◌, length, ap, ◌∙◌, arith}
use lib.Seq.{take-append_seam}
use Rattle.rows.specs.Layout.{row_in, put}
use Rattle.row_words.specs.Values.{row_is}
use Rattle.read_held.proofs.row_from.Goals as goal

pub returns : goal.returns
unfolding row_is row_in put
returns c =
    let n : ℕ = length c.args.atoms.now in
    (omega (arith, c.if-atoms-gt4.false), ap (λ (ws : List ℕ). row_in (n ∷ ws)) c.write.ensures ∙ take-append_seam c.args.atoms.now _)
