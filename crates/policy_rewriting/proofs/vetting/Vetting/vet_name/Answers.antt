-- The name's five words stand there.
use Rattle.std.proofs.Common.{ℕ, [], ◌∷◌, sym, ◌∙◌, ap, arith}
use Rattle.policy_places.proofs.Leaves.{name_inside}
use Rattle.policy_rewriting.specs.Laid.{laid}
use Rattle.policy_rewriting.proofs.Leaves.{word_number, name_broken, name_kept, name_vetted}
use Rattle.policy_rewriting.proofs.vetting.Vetting.vet_name.Goals as goal

pub bounds-self-at : goal.bounds-self-at
bounds-self-at c = let i = name_inside c.requires.0 c.requires.1 in omega arith

pub returns-then-self-at : goal.returns-then-self-at
returns-then-self-at c = name_broken c.requires.1 (λ e. c.if-self-at.true (e ∙ sym (c.from.ensures ∙ word_number _)))

pub copy-end-requires : goal.copy-end-requires
copy-end-requires c =
    let i = name_inside c.requires.0 c.requires.1 in
    let room = c.requires.2.fits in
    (omega arith, omega arith, omega arith)

pub returns-then-not-vets : goal.returns-then-not-vets
returns-then-not-vets c =
    name_kept c.requires.1 (c.if-self-at.false ∙ (c.from.ensures ∙ word_number _)) (sym c.vets.ensures ∙ c.if-not-vets.true) c.copy-end.ensures

pub copy-last-requires : goal.copy-last-requires
copy-last-requires c =
    let i = name_inside c.requires.0 c.requires.1 in
    let room = c.requires.2.fits in
    (omega arith, omega arith, omega arith)

pub returns : goal.returns
returns c =
    name_vetted c.requires.1 (c.if-self-at.false ∙ (c.from.ensures ∙ word_number _)) (sym c.vets.ensures ∙ c.if-not-vets.false)
    (c.lay.ensures ∙ ap (λ (w : ℕ). laid c.args.to (w ∷ []) c.args.area.now) c.from-2.ensures) c.copy-last.ensures c.lay-2.ensures
