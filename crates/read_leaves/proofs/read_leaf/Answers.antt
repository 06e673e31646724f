-- Each leaf by its code; what it says goes to whichever leaf has that code.
use Rattle.std.proofs.Common.{refl, sym, arith}
use Rattle.policy.specs.declared.codes.Code.TheVariants.{Finite, Definition, Name, Vetted}
use Rattle.policy_places.proofs.Codes.{leaf_code_lem, other_code}
use Rattle.policy_places.proofs.Leaves.{inside_leaf, definition_inside, some_rows}
use Rattle.read_leaves.proofs.ByCode.{some_here, known_here, ask_listed, literal_code, leaf_rows, leaf_name, leaf_definition}
use Rattle.read_leaves.proofs.read_leaf.Goals as goal

pub offset_bounds-lent-at : goal.offset_bounds-lent-at
offset_bounds-lent-at c = let i = inside_leaf c.requires.0.here in let fits = c.well_formed in omega arith

pub bounds-lent-at : goal.bounds-lent-at
bounds-lent-at c = let i = inside_leaf c.requires.0.here in let fits = c.well_formed in omega arith

pub of-requires : goal.of-requires
of-requires c = leaf_code_lem (some_here c.requires.0)

pub read_listed-requires : goal.read_listed-requires
read_listed-requires c = (ask_listed c.requires.0 (sym c.in-Name.ensures), c.requires.1)

pub returns-in-Name : goal.returns-in-Name
returns-in-Name c = leaf_name _ (sym c.in-Name.ensures) c.read_listed.ensures

pub overflow_add-at-in-Definition : goal.overflow_add-at-in-Definition
overflow_add-at-in-Definition c = let i = definition_inside (some_here c.requires.0) (sym c.in-Definition.ensures) in let fits = c.well_formed in omega arith

pub bounds-lent-at-in-Definition : goal.bounds-lent-at-in-Definition
bounds-lent-at-in-Definition c = let i = definition_inside (some_here c.requires.0) (sym c.in-Definition.ensures) in omega arith

pub definition_set-requires : goal.definition_set-requires
definition_set-requires c =
    let known = known_here c.requires.0 (sym c.in-Definition.ensures) in
    (omega arith, c.requires.0.sound.defs)

pub returns-in-Definition : goal.returns-in-Definition
returns-in-Definition c = leaf_definition _ (sym c.in-Definition.ensures) refl c.definition_set.ensures c.args.area.now c.requires.1 c.copy.ensures

pub read_vetted-requires : goal.read_vetted-requires
read_vetted-requires c = (c.requires.0, c.requires.1, sym c.in-Vetted.ensures)

pub overflow_add-at-in_default : goal.overflow_add-at-in_default
overflow_add-at-in_default c = let i = inside_leaf c.requires.0.here in let fits = c.well_formed in omega arith

pub overflow_add-at-in-Finite : goal.overflow_add-at-in-Finite
overflow_add-at-in-Finite c = let i = inside_leaf c.requires.0.here in let fits = c.well_formed in omega arith

pub read_rows-requires : goal.read_rows-requires
read_rows-requires c =
    let e = c.in-Finite.ensures in
    (c.requires.0.bound, c.requires.1, some_rows (λ h. omega (arith, e, h)) (λ h. omega (arith, e, h)) (λ h. omega (arith, e, h)) (some_here c.requires.0))

pub returns-in-Finite : goal.returns-in-Finite
returns-in-Finite c =
    let e = c.in-Finite.ensures in
    leaf_rows (λ h. omega (arith, e, h)) (λ h. omega (arith, e, h)) (λ h. omega (arith, e, h)) (omega (arith, e)) c.read_rows.ensures

pub read_rows-requires-in_default : goal.read_rows-requires-in_default
read_rows-requires-in_default c =
    let d = other_code _ Definition c.of.ensures c.in_default.not-Definition in
    let n = other_code _ Name c.of.ensures c.in_default.not-Name in
    let v = other_code _ Vetted c.of.ensures c.in_default.not-Vetted in
    (c.requires.0.bound, c.requires.1, some_rows d n v (some_here c.requires.0))

pub returns-in_default : goal.returns-in_default
returns-in_default c =
    let d = other_code _ Definition c.of.ensures c.in_default.not-Definition in
    let n = other_code _ Name c.of.ensures c.in_default.not-Name in
    let v = other_code _ Vetted c.of.ensures c.in_default.not-Vetted in
    let f = other_code _ Finite c.of.ensures c.in_default.not-Finite in
    let l = literal_code d n v (some_here c.requires.0) in
    leaf_rows d n v (omega (arith, f, l)) c.read_rows-in_default.ensures
