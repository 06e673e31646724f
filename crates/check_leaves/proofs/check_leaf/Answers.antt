-- A leaf's own function answers for it.
use Rattle.std.proofs.Common.{sym, ◌∙◌}
use Rattle.check_polarity.specs.Earlier.{earlier_is}
use Rattle.check_leaves.proofs.Leaving.{finite_reads, cofinite_reads, definition_reads, no_leaf_reads}
use Rattle.check_leaves.proofs.check_leaf.Goals as goal

pub returns-in-Finite : goal.returns-in-Finite
returns-in-Finite c = rw c.in-Finite.is (c.check_literal.ensures ∙ sym (finite_reads (earlier_is c.args.earlier.now) c.args.variables c.args.decoder.now.words.now c.args.decoder.now.draws))

pub returns-in-Cofinite : goal.returns-in-Cofinite
returns-in-Cofinite c = rw c.in-Cofinite.is (c.check_literal-in-Cofinite.ensures ∙ sym (cofinite_reads (earlier_is c.args.earlier.now) c.args.variables c.args.decoder.now.words.now c.args.decoder.now.draws))

pub returns-in-Definition : goal.returns-in-Definition
returns-in-Definition c = rw c.in-Definition.is (c.check_definition.ensures ∙ sym (definition_reads (earlier_is c.args.earlier.now) c.args.variables c.args.decoder.now.words.now c.args.decoder.now.draws))

pub returns-in-Union : goal.returns-in-Union
returns-in-Union c = no_leaf_reads (earlier_is c.args.earlier.now) c.args.variables c.args.decoder.now.words.now c.args.decoder.now.draws c.in-Union.is
