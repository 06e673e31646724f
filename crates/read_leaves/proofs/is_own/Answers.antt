-- A fixed issuer is an atom, and is ours if it is that one.
use Rattle.std.proofs.Common.{arith}
use Rattle.read_names.proofs.Named.{name_long}
use Rattle.read_leaves.proofs.Listed.{no_atom, by_atom}
use Rattle.read_leaves.proofs.is_own.Goals as goal

pub offset_bounds-lent-at : goal.offset_bounds-lent-at
offset_bounds-lent-at c = let long = name_long c.requires in let fits = c.well_formed in omega arith

pub bounds-lent-at : goal.bounds-lent-at
bounds-lent-at c = let long = name_long c.requires in let fits = c.well_formed in omega arith

pub returns-then-lent-at : goal.returns-then-lent-at
returns-then-lent-at c = no_atom c.if-lent-at.true

pub overflow_add-result : goal.overflow_add-result
overflow_add-result c = let long = name_long c.requires in let fits = c.well_formed in omega arith

pub bounds-lent-at-2 : goal.bounds-lent-at-2
bounds-lent-at-2 c = let long = name_long c.requires in let fits = c.well_formed in omega arith

pub returns : goal.returns
returns c = by_atom c.if-lent-at.false
