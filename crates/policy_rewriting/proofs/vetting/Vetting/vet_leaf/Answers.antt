-- A leaf by its code.
use Rattle.std.proofs.Common.{sym, ◌∙◌, ap}
use Rattle.policy.specs.Codes.{code_number}
use Rattle.policy.specs.declared.codes.Code.TheVariants as code
use Rattle.policy_places.proofs.Codes.{leaf_code_lem, other_code}
use Rattle.policy_places.proofs.Leaves.{inside_leaf}
use Rattle.policy_rewriting.proofs.Leaves.{vetted_broken, leaf_room, other_walked}
use Rattle.policy_rewriting.proofs.vetting.Vetting.vet_leaf.Goals as goal

pub read_code-requires : goal.read_code-requires
read_code-requires c = let l = leaf_code_lem c.requires.0 in (inside_leaf c.requires.0.here, l.0, l.1)

pub returns-in_default : goal.returns-in_default
returns-in_default c = vetted_broken c.in_default.ensures

pub vet_name-requires : goal.vet_name-requires
vet_name-requires c = (c.requires.0, sym c.in-Some.ensures.0 ∙ ap code_number c.in-Name.is, c.requires.1)

pub copy-end-requires : goal.copy-end-requires
copy-end-requires c = leaf_room c.requires.0 c.requires.1 c.skip_leaf-next.ensures

pub returns-in_default-code : goal.returns-in_default-code
returns-in_default-code c =
    other_walked (other_code _ code.Name c.in-Some.ensures.0 c.in_default-code.not-Name) c.in-Some.ensures.1 c.skip_leaf-next.ensures c.copy-end.ensures
