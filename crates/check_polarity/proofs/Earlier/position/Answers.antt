use Rattle.std.proofs.Common.{rules, tests, arith, ◌∙◌}
use Rattle.std.proofs.lemmas.Iterator.{YieldsList-from_slice}
use Rattle.std.proofs.lemmas.Iterator.Search.{position_from_yields_List}
use Rattle.rows.specs.Polarities.{polarity_is}
use Rattle.policy.specs.OwnKey.{declares}
use Rattle.policy.specs.Leaf.{declaration}
use Rattle.check_polarity.specs.Earlier.{known_is}
use Rattle.check_polarity.proofs.Finding.{number_is}
use Rattle.check_polarity.proofs.Earlier.position.Goals as goal

pub returns : goal.returns
returns c =
    let found = position_from_yields_List (λ d. declares (declaration (known_is d)) c.args.name (polarity_is c.args.polarity)) _ _ c.position.result c.position.ensures.ran
    (YieldsList-from_slice c.known.result.now cc) (λ x b q k. search (rules, tests)) in
    (rw c.known.ensures.definitions at found) ∙ number_is c.args.name (polarity_is c.args.polarity) c.args.self.now (omega (arith, c.args.self.now.few))
