use Rattle.std.proofs.Common.{arith, ap}
use Rattle.check_polarity.specs.Earlier.{earlier_is}
use Rattle.check_polarity.proofs.EarlierAnswers.{known_more}
use Rattle.check_polarity.proofs.Earlier.push.Goals as goal

pub returns-clause-known : goal.returns-clause-known
unfolding earlier_is
returns-clause-known c =
    ap (λ ks. record { our_key = c.args.self.now.our_key; known = ks }) (known_more c.args.self.now.definitions c.args.self.now.count c.args.definition (omega (arith, c.requires)))
