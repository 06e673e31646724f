-- Name after name is followed.
use Rattle.std.proofs.Common.{subst}
use Rattle.read_links.specs.Reached.{SayFollowed}
use Rattle.std.proofs.lemmas.List.{get_or-set_same}
use Rattle.std.proofs.Common.{rules}
use Rattle.read_links.specs.Reached.{nobody}
use Rattle.read_links.proofs.Finding.{reaching_start, reaching_next, reaching_end}
use Rattle.read_links.proofs.found.reach.Goals as goal

pub loop-next-init : goal.loop-next-init
loop-next-init c = reaching_start c.requires c.args.name _ (get_or-set_same c.args.found.now.names 0 c.args.name nobody (search rules))

pub loop-next-preserved : goal.loop-next-preserved
loop-next-preserved c =
    reaching_next c.requires c.args.name c.loop-next.invariant c.loop-next-test.true
    (subst (λ p. SayFollowed c.args.links.now p c.loop-next.found.names c.loop-next.found.count c.loop-next.next c.follow.new.self.names c.follow.new.self.count)
    (c.loop-next.invariant.search.polar c.loop-next.next c.loop-next-test.true) c.follow.ensures)

pub returns : goal.returns
returns c = reaching_end c.requires c.args.name c.loop-next.invariant c.loop-next-test.false
