-- Under our own key the row is looked up in the definition's set; any other name is asked for it.
use Rattle.read_leaves.proofs.Listed.{some_listed, ask_own, listed_own_has, listed_certified_has}
use Rattle.read_leaves.proofs.listed_has.Goals as goal

pub is_own-requires : goal.is_own-requires
is_own-requires c = some_listed c.requires.0

pub own_set-own-requires : goal.own_set-own-requires
own_set-own-requires c = (ask_own c.requires.0 c.is_own.ensures c.if-is_own.true, c.requires.0.sound.defs)

pub returns-then-is_own : goal.returns-then-is_own
returns-then-is_own c = listed_own_has _ _ _ c.is_own.ensures c.if-is_own.true c.own_set-own.ensures c.has_row.ensures

pub certified_has-requires : goal.certified_has-requires
certified_has-requires c =
    let ask = c.requires.0 in
    (ask.bound, some_listed ask, c.requires.2, ask.sound.store, ask.sound.links, c.requires.1)

pub returns : goal.returns
returns c = listed_certified_has _ _ _ c.is_own.ensures c.if-is_own.false c.certified_has.ensures
