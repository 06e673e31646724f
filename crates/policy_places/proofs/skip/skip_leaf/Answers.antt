-- A leaf by its code.
use Rattle.std.proofs.Common.{sym, arith}
use Rattle.policy.specs.declared.codes.Code.TheVariants.{Definition, Name, Vetted}
use Rattle.policy_places.proofs.Codes.{leaf_code_lem, other_code}
use Rattle.policy_places.proofs.Leaves.{inside_leaf, some_rows, past_rows, past_definition, past_name, past_vetted}
use Rattle.policy_places.proofs.skip.skip_leaf.Goals as goal

pub offset_bounds-words-at : goal.offset_bounds-words-at
offset_bounds-words-at c = let i = inside_leaf c.requires.here in let fits = c.well_formed in omega arith

pub bounds-words-at : goal.bounds-words-at
bounds-words-at c = inside_leaf c.requires.here

pub of-requires : goal.of-requires
of-requires c = leaf_code_lem c.requires

pub returns-in-Definition : goal.returns-in-Definition
returns-in-Definition c = past_definition (sym c.in-Definition.ensures)

pub returns-in-Name : goal.returns-in-Name
returns-in-Name c = past_name (sym c.in-Name.ensures)

pub returns-in-Vetted : goal.returns-in-Vetted
returns-in-Vetted c = past_vetted (sym c.in-Vetted.ensures)

pub skip_rows-requires : goal.skip_rows-requires
skip_rows-requires c =
    some_rows (other_code _ Definition c.of.ensures c.in_default.not-Definition) (other_code _ Name c.of.ensures c.in_default.not-Name)
    (other_code _ Vetted c.of.ensures c.in_default.not-Vetted) c.requires

pub returns-in_default : goal.returns-in_default
returns-in_default c =
    past_rows (other_code _ Definition c.of.ensures c.in_default.not-Definition) (other_code _ Name c.of.ensures c.in_default.not-Name)
    (other_code _ Vetted c.of.ensures c.in_default.not-Vetted) c.skip_rows.ensures
