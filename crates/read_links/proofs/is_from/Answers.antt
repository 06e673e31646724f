-- Its key or its name differs, or the polarity decides.
use Rattle.std.proofs.Common.{arith}
use Rattle.rows.specs.Polarities.{polarity_number}
use Rattle.read_links.proofs.Starting.{link_inside, other_key_lem, other_name_lem, by_polarity}
use Rattle.read_links.proofs.Finding.{polarity_few}
use Rattle.read_links.proofs.is_from.Goals as goal

pub bounds-links-at : goal.bounds-links-at
bounds-links-at c = let i = link_inside c.args.links.now c.requires.0 c.args.i c.requires.1 in omega arith

pub bounds-links-at-2 : goal.bounds-links-at-2
bounds-links-at-2 c = let i = link_inside c.args.links.now c.requires.0 c.args.i c.requires.1 in omega arith

pub bounds-links-at-3 : goal.bounds-links-at-3
bounds-links-at-3 c = let i = link_inside c.args.links.now c.requires.0 c.args.i c.requires.1 in omega arith

pub returns-then-links-at : goal.returns-then-links-at
returns-then-links-at c =
    other_key_lem c.args.links.now c.requires.0 c.args.name.key c.args.name.number (polarity_number c.args.name.polarity) (polarity_few c.args.name.polarity) c.args.i c.if-links-at.true

pub returns-then-links-at-2 : goal.returns-then-links-at-2
returns-then-links-at-2 c =
    other_name_lem c.args.links.now c.requires.0 c.args.name.key c.args.name.number (polarity_number c.args.name.polarity) (polarity_few c.args.name.polarity) c.args.i c.if-links-at-2.true

pub returns : goal.returns
returns c =
    let says = by_polarity c.args.links.now c.requires.0 c.args.name.key c.args.name.number (polarity_number c.args.name.polarity) (polarity_few c.args.name.polarity) c.args.i c.requires.1
    c.if-links-at.false c.if-links-at-2.false in
    rw c.from.ensures says
