-- A definition of a polarity that it may have is walked over.
use Rattle.std.proofs.Common.{sym, ◌∙◌}
use Rattle.policy_rewriting.proofs.Entries.{definition_broken, definition_walked, definition_asked}
use Rattle.policy_rewriting.proofs.vet_definition.Goals as goal

pub returns-then-not-may_be : goal.returns-then-not-may_be
returns-then-not-may_be c = definition_broken c.args.policy.now c.args.i c.entry_place.ensures c.polarity_of-polarity.ensures (sym c.may_be.ensures ∙ c.if-not-may_be.true)

pub vet_expr-requires : goal.vet_expr-requires
vet_expr-requires c = definition_asked c.requires c.definition_words.ensures

pub returns : goal.returns
returns c =
    definition_walked c.args.policy.now c.args.i c.entry_place.ensures c.polarity_of-polarity.ensures (sym c.may_be.ensures ∙ c.if-not-may_be.false)
    c.definition_words.ensures c.vet_expr.ensures
