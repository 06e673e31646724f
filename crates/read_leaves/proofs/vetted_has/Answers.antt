-- The issuer is in the definition, or the row is looked up in the name.
use Rattle.policy_places.proofs.Leaves.{vetted_inside}
use Rattle.read_leaves.proofs.ByCode.{some_here}
use Rattle.read_leaves.proofs.Vetted.{vetted_known, ask_vetted, vetted_lacks, vetted_looked}
use Rattle.read_leaves.proofs.vetted_has.Goals as goal

pub issuer_among-requires : goal.issuer_among-requires
issuer_among-requires c =
    let ask = c.requires.0 in
    (ask.bound, vetted_inside (some_here ask) c.requires.3, vetted_known ask c.requires.3, ask.sound.defs)

pub returns-then-issuer_among : goal.returns-then-issuer_among
returns-then-issuer_among c = vetted_lacks _ _ c.requires.3 c.issuer_among.ensures c.if-issuer_among.true

pub listed_has-requires : goal.listed_has-requires
listed_has-requires c = (ask_vetted c.requires.0 c.requires.3, c.requires.1, c.requires.2)

pub returns : goal.returns
returns c = vetted_looked _ _ c.requires.3 c.issuer_among.ensures c.if-issuer_among.false c.listed_has.ensures
