-- What is unused is 0. A no says nothing.
use Rattle.std.proofs.Common.{sym, ◌∙◌, eqb-true}
use Rattle.store_records.proofs.Runs.{short_one, short_two}
use Rattle.store_records.proofs.short_row.Goals as goal

pub returns-then-kind-one_atom : goal.returns-then-kind-one_atom
returns-then-kind-one_atom c =
    λ e. short_one c.args.words.now _ c.requires (λ k. (c.type_inv.words k).fits) c.ranges.polarity.fits (sym c.pair.ensures ∙ c.if-pair-ne0.false)
    (sym c.pair-kind.ensures ∙ c.if-kind-one_atom.true) (eqb-true _ _ e)

pub returns : goal.returns
returns c =
    λ e. short_two c.args.words.now _ c.requires (λ k. (c.type_inv.words k).fits) c.ranges.polarity.fits (sym c.pair.ensures ∙ c.if-pair-ne0.false)
    (sym c.pair-kind.ensures ∙ eqb-true _ _ e)
