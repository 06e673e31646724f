use Rattle.std.proofs.Common.{arith}
use Rattle.policy_places.proofs.Places.{row_width}
use Rattle.read_values.proofs.Rows.{row_of_atoms}
use Rattle.read_values.proofs.Lent.row_of.Goals as goal

pub offset_bounds-self-at : goal.offset_bounds-self-at
offset_bounds-self-at c = let w = row_width c.requires.1 in let fits = c.well_formed in omega arith

pub bounds-self-at : goal.bounds-self-at
bounds-self-at c = let w = row_width c.requires.1 in let fits = c.well_formed in omega arith

pub returns : goal.returns
returns c = row_of_atoms c.requires.1 c.atom_of-a.ensures c.atom_of-b.ensures c.atom_of-c.ensures c.atom_of-d.ensures
