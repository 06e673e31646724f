-- An entry is it, or it is passed.
use Rattle.policy_table.proofs.Declared.{none_searched, none_left_lem, found, passed}
use Rattle.policy_table.proofs.entries.find_definition.Goals as goal
use Rattle.std.proofs.Common.{refl}

pub returns-then-declares : goal.returns-then-declares
returns-then-declares c = found _ _ _ _ _ c.loop-i.invariant c.loop-i-test.true _ refl _ c.declares.ensures c.if-declares.true

pub loop-i-init : goal.loop-i-init
loop-i-init c = none_searched _ _ _ _

pub loop-i-preserved : goal.loop-i-preserved
loop-i-preserved c = passed _ _ _ _ _ c.loop-i.invariant c.loop-i-test.true _ refl _ c.declares.ensures c.if-declares.false

pub returns : goal.returns
returns c = none_left_lem _ _ _ _ _ c.loop-i.invariant c.loop-i-test.false
