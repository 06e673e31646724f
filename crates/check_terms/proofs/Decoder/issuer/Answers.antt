use Rattle.std.proofs.Common.{rules}
use Rattle.policy.specs.Decode.{issuer}
use Rattle.check_terms.proofs.Reading.{untagged}
use Rattle.check_terms.proofs.Decoder.issuer.Goals as goal

pub returns-in_err-tag : goal.returns-in_err-tag
unfolding issuer
returns-in_err-tag c = let e = untagged _ _ c.try_from.ensures c.in_err-tag.was in search rules
