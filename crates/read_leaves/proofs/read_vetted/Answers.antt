-- The issuer is in the definition, or the name is read.
use Rattle.policy_places.proofs.Leaves.{vetted_inside}
use Rattle.read_leaves.proofs.ByCode.{some_here}
use Rattle.read_leaves.proofs.Vetted.{vetted_known, ask_vetted, vetted_none, vetted_read}
use Rattle.read_leaves.proofs.read_vetted.Goals as goal

pub issuer_among-requires : goal.issuer_among-requires
issuer_among-requires c =
    let ask = c.requires.0 in
    (ask.bound, vetted_inside (some_here ask) c.requires.2, vetted_known ask c.requires.2, ask.sound.defs)

pub read_listed-requires : goal.read_listed-requires
read_listed-requires c = (ask_vetted c.requires.0 c.requires.2, c.requires.1)

pub returns-then-issuer_among : goal.returns-then-issuer_among
returns-then-issuer_among c = vetted_none _ _ c.requires.2 c.issuer_among.ensures c.if-issuer_among.true c.args.area.now c.requires.1 c.clear.ensures

pub returns-else-issuer_among : goal.returns-else-issuer_among
returns-else-issuer_among c = vetted_read _ _ c.requires.2 c.issuer_among.ensures c.if-issuer_among.false c.read_listed.ensures
