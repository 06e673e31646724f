-- The words that `span_of` finds are the name's part.
use Rattle.capi.proofs.Spanning.{hands_certificates}
use Rattle.capi.proofs.filing.txb_certificates_of.Goals as goal

pub returns : goal.returns
returns c = hands_certificates _ _ _ _ _ _ c.span_of-span.ensures
