-- The definition is found in the policy's table, and its set lies in its place.
use Rattle.std.proofs.Common.{arith}
use Rattle.read_leaves.proofs.Listed.{own_found, own_missing, own_long, own_known, own_lies}
use Rattle.read_leaves.proofs.own_set.Goals as goal

pub overflow_add-name : goal.overflow_add-name
overflow_add-name c = let long = own_long c.requires.0 in let fits = c.well_formed in omega arith

pub offset_bounds-lent-at : goal.offset_bounds-lent-at
offset_bounds-lent-at c = let long = own_long c.requires.0 in let fits = c.well_formed in omega arith

pub bounds-lent-at : goal.bounds-lent-at
bounds-lent-at c = let long = own_long c.requires.0 in let fits = c.well_formed in omega arith

pub bounds-lent-at-2 : goal.bounds-lent-at-2
bounds-lent-at-2 c = let long = own_long c.requires.0 in let fits = c.well_formed in omega arith

pub unreachable-requires : goal.unreachable-requires
unreachable-requires c = own_missing c.requires.0 _ c.polarity_of-polarity.ensures c.in-None.ensures

pub definition_set-requires : goal.definition_set-requires
definition_set-requires c = (own_known c.requires.0 (own_found c.requires.0 _ c.polarity_of-polarity.ensures c.in-Some.ensures.1), c.requires.1)

pub returns : goal.returns
returns c = own_lies c.requires.0 (own_found c.requires.0 _ c.polarity_of-polarity.ensures c.in-Some.ensures.1) c.definition_set.ensures
