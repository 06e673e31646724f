-- A name's row and a definition's are looked up where they stand; of any other leaf the set is read.
use Rattle.std.proofs.Common.{refl, sym, arith}
use Rattle.std.proofs.lemmas.Result.{err_from_is_err_and}
use Rattle.policy_places.proofs.Codes.{leaf_code_lem}
use Rattle.policy_places.proofs.Leaves.{inside_leaf, definition_inside}
use Rattle.read_leaves.proofs.ByCode.{some_here, known_here, ask_listed, leaf_name_has, leaf_definition_has, leaf_filled, leaf_refused, leaf_looked}
use Rattle.read_leaves.proofs.leaf_has.Goals as goal

pub offset_bounds-lent-at : goal.offset_bounds-lent-at
offset_bounds-lent-at c = let i = inside_leaf c.requires.0.here in let fits = c.well_formed in omega arith

pub bounds-lent-at : goal.bounds-lent-at
bounds-lent-at c = let i = inside_leaf c.requires.0.here in let fits = c.well_formed in omega arith

pub of-requires : goal.of-requires
of-requires c = leaf_code_lem (some_here c.requires.0)

pub listed_has-requires : goal.listed_has-requires
listed_has-requires c = (ask_listed c.requires.0 (sym c.in-Name.ensures), c.requires.1, c.requires.2)

pub returns-in-Name : goal.returns-in-Name
returns-in-Name c = leaf_name_has _ (sym c.in-Name.ensures) c.listed_has.ensures

pub overflow_add-at-in-Definition : goal.overflow_add-at-in-Definition
overflow_add-at-in-Definition c = let i = definition_inside (some_here c.requires.0) (sym c.in-Definition.ensures) in let fits = c.well_formed in omega arith

pub bounds-lent-at-in-Definition : goal.bounds-lent-at-in-Definition
bounds-lent-at-in-Definition c = let i = definition_inside (some_here c.requires.0) (sym c.in-Definition.ensures) in omega arith

pub definition_set-set-requires : goal.definition_set-set-requires
definition_set-set-requires c =
    let known = known_here c.requires.0 (sym c.in-Definition.ensures) in
    (omega arith, c.requires.0.sound.defs)

pub returns-in-Definition : goal.returns-in-Definition
returns-in-Definition c = leaf_definition_has _ (sym c.in-Definition.ensures) refl c.definition_set-set.ensures c.has_row.ensures

pub vetted_has-requires : goal.vetted_has-requires
vetted_has-requires c = (c.requires.0, c.requires.1, c.requires.2, sym c.in-Vetted.ensures)

pub returns-in_err-used-in_default : goal.returns-in_err-used-in_default
returns-in_err-used-in_default c =
    let p = err_from_is_err_and c.from_residual.result c.from_residual.ensures.1 in
    rw (p.1, p.2) (leaf_refused _ c.in_err-used-in_default.ensures)

pub has_row-requires-in_default : goal.has_row-requires-in_default
has_row-requires-in_default c = (c.requires.0.bound, leaf_filled _ c.in_ok-used-in_default.ensures, c.requires.2)

pub returns-in_ok-used-in_default : goal.returns-in_ok-used-in_default
returns-in_ok-used-in_default c = leaf_looked _ c.in_ok-used-in_default.ensures c.has_row-in_default.ensures
