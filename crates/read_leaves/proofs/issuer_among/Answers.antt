-- The one-atom row is looked up where the definition's set stands.
use Rattle.std.proofs.Common.{refl}
use Rattle.read_leaves.proofs.Vetted.{looks_up}
use Rattle.read_leaves.proofs.issuer_among.Goals as goal

pub returns : goal.returns
returns c = looks_up _ c.term_at.ensures c.value_of-key.ensures refl c.definition_set-set.ensures c.has.ensures
