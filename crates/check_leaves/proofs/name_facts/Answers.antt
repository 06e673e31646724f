use Rattle.std.proofs.Common.{arith, sym, ◌∙◌, ap, Ok}
use Rattle.rows.specs.Polarities.{polarity_is}
use Rattle.policy.specs.Held.{term_is}
use Rattle.check_polarity.specs.Earlier.{earlier_is}
use Rattle.check_leaves.proofs.Leaving.{reach_is, certified, undefined, defined}
use Rattle.check_leaves.proofs.name_facts.Goals as goal

pub returns-then-not-is_own : goal.returns-then-not-is_own
unfolding earlier_is
returns-then-not-is_own c =
    certified (earlier_is c.args.earlier.now) (term_is c.args.issuer) c.args.name c.args.polarity _ _
    (sym c.is_own.ensures ∙ c.if-not-is_own.true) c.eq.ensures c.of_polarity.ensures

pub of_definition-requires : goal.of_definition-requires
unfolding earlier_is
of_definition-requires c =
    let e = defined (earlier_is c.args.earlier.now) (term_is c.args.issuer) c.args.name (polarity_is c.args.polarity)
    (sym c.is_own.ensures ∙ c.if-not-is_own.false) c.position.ensures c.in-Some.is in
    omega (arith, e.0, reach_is c.args.earlier.now)

pub returns-in-Some : goal.returns-in-Some
unfolding earlier_is
returns-in-Some c =
    let e = defined (earlier_is c.args.earlier.now) (term_is c.args.issuer) c.args.name (polarity_is c.args.polarity)
    (sym c.is_own.ensures ∙ c.if-not-is_own.false) c.position.ensures c.in-Some.is in
    ap Ok c.of_definition.ensures ∙ e.1

pub returns-in-None : goal.returns-in-None
unfolding earlier_is
returns-in-None c =
    undefined (earlier_is c.args.earlier.now) (term_is c.args.issuer) c.args.name (polarity_is c.args.polarity)
    (sym c.is_own.ensures ∙ c.if-not-is_own.false) c.position.ensures c.in-None.is
