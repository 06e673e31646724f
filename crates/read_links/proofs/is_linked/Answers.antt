-- If any link starts at the name, the first of them does.
use Rattle.std.proofs.Common.{arith}
use borrow.Author.Tests.{le-ltb}
use Rattle.read_links.proofs.Starting.{links_whole, none_there, linked, none_linked}
use Rattle.read_links.proofs.Finding.{polarity_few}
use Rattle.read_links.proofs.is_linked.Goals as goal

pub bounds-links-0 : goal.bounds-links-0
bounds-links-0 c = omega (arith, links_whole c.args.links.now c.requires)

pub returns-then-links-eq0 : goal.returns-then-links-eq0
returns-then-links-eq0 c = none_linked c.args.links.now c.requires _ _ _ (polarity_few c.args.name.polarity) c.if-links-eq0.true

pub returns-then-first-links : goal.returns-then-first-links
returns-then-first-links c = linked c.args.links.now c.requires _ _ _ (polarity_few c.args.name.polarity) c.first_from-first.ensures c.is_from.ensures

pub returns-else-first-links : goal.returns-else-first-links
returns-else-first-links c =
    let few = polarity_few c.args.name.polarity in
    linked c.args.links.now c.requires _ _ _ few c.first_from-first.ensures (none_there c.args.links.now c.requires _ _ _ few c.if-first-links.false (le-ltb _ _ c.if-first-links.false))
