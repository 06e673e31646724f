-- Each definition is laid where it is due.
use Rattle.std.proofs.Common.{refl, rules, arith}
use Rattle.policy_rewriting.specs.Output.{MeasuredAs}
use Rattle.policy_rewriting.proofs.Entries.{table_of}
use Rattle.policy_rewriting.proofs.Output.{none_laid, next_asked, next_broken, next_room, next_laid, all_laid}
use Rattle.policy_rewriting.proofs.lay_output.Goals as goal

pub bounds-policy-1 : goal.bounds-policy-1
bounds-policy-1 c = omega (arith, (table_of c.requires.0).header.two)

pub entry_place-to-requires : goal.entry_place-to-requires
entry_place-to-requires c = (table_of c.requires.0).header.count

pub loop-i-init : goal.loop-i-init
loop-i-init c = (refl, λ g. none_laid _ _ c.requires.1 g c.entry_place-to.ensures)

pub vet_definition-requires : goal.vet_definition-requires
vet_definition-requires c = next_asked (c.loop-i.invariant.1 c.requires.0) c.loop-i-test.true

pub returns-in_default : goal.returns-in_default
unfolding MeasuredAs
returns-in_default c = record { says = λ g. next_broken (c.loop-i.invariant.1 g) c.loop-i-test.true c.vet_definition.ensures c.in_default.is }

pub lay_entry-requires : goal.lay_entry-requires
lay_entry-requires c = next_room (c.loop-i.invariant.1 c.requires.0) c.loop-i-test.true c.vet_definition.ensures c.in-Some.is

pub loop-i-preserved : goal.loop-i-preserved
loop-i-preserved c = (search rules, λ g. next_laid (c.loop-i.invariant.1 g) c.loop-i-test.true c.vet_definition.ensures c.in-Some.is c.lay_entry.ensures)

pub lay_header-requires : goal.lay_header-requires
lay_header-requires c = (table_of c.requires.0).header.two

pub returns : goal.returns
returns c = record { says = λ g. all_laid (c.loop-i.invariant.1 g) c.loop-i-test.false c.lay_header.ensures }
