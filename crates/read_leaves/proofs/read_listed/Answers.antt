-- Under our own key the definition's set is copied; any other name is read.
use Rattle.read_leaves.proofs.Listed.{some_listed, ask_own, listed_own, listed_certified}
use Rattle.read_leaves.proofs.read_listed.Goals as goal

pub is_own-requires : goal.is_own-requires
is_own-requires c = some_listed c.requires.0

pub own_set-requires : goal.own_set-requires
own_set-requires c = (ask_own c.requires.0 c.is_own.ensures c.if-is_own.true, c.requires.0.sound.defs)

pub returns-then-is_own : goal.returns-then-is_own
returns-then-is_own c = listed_own _ _ _ c.is_own.ensures c.if-is_own.true c.own_set.ensures c.args.area.now c.requires.1 c.copy.ensures

pub read_certified-requires : goal.read_certified-requires
read_certified-requires c =
    let ask = c.requires.0 in
    (ask.bound, some_listed ask, ask.sound.store, ask.sound.links, c.requires.1)

pub returns : goal.returns
returns c = listed_certified _ _ _ c.is_own.ensures c.if-is_own.false c.read_certified.ensures
