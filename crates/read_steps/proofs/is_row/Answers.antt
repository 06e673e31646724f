use Rattle.std.proofs.Common.{take, subst, arith}
use Rattle.read_values.specs.Rows.{SayAtom}
use Rattle.policy_places.proofs.Places.{row_width}
use Rattle.read_steps.proofs.Last.{other_width, other_atom, comes_start, comes_next, comes_end}
use Rattle.read_steps.proofs.is_row.Goals as goal

pub offset_bounds-lent-at : goal.offset_bounds-lent-at
offset_bounds-lent-at c = let w = row_width c.requires.1 in let fits = c.well_formed in omega arith

pub bounds-lent-at : goal.bounds-lent-at
bounds-lent-at c = let w = row_width c.requires.1 in omega arith

pub returns-then-set-place : goal.returns-then-set-place
returns-then-set-place c = other_width c.args.set.now c.args.place c.requires.3 c.requires.2 c.if-set-place.true

pub loop-j-init : goal.loop-j-init
loop-j-init c = comes_start c.args.set.now c.args.place c.requires.3 c.if-set-place.false c.requires.2

pub returns-then-atom_of-set : goal.returns-then-atom_of-set
returns-then-atom_of-set c =
    other_atom c.args.set.now c.args.place c.requires.3 c.if-set-place.false (omega arith) c.atom_of.ensures c.if-atom_of-set.true

pub loop-j-preserved : goal.loop-j-preserved
loop-j-preserved c =
    comes_next c.args.set.now c.args.place c.requires.3 c.if-set-place.false c.loop-j.invariant (omega arith)
    (subst (SayAtom c.args.lent.now.words.now c.args.at (take c.args.bindings.now.count c.args.bindings.now.values) c.loop-j.j) c.if-atom_of-set.false c.atom_of.ensures)

pub returns : goal.returns
returns c = comes_end c.args.set.now c.args.place c.requires.3 c.if-set-place.false c.loop-j.invariant (omega arith)
