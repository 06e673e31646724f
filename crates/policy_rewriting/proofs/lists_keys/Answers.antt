-- Definition 0 is looked at where there is one.
use Rattle.std.proofs.Common.{sym, ◌∙◌, ap, not, arith}
use Rattle.std.proofs.lemmas.Bool.{false≢true}
use borrow.Author.Tests.{eqb-true, eqb-false, eq-eqb}
use Rattle.policy_rewriting.proofs.Entries.{table_of, none_listed, other_name_listed, polarity_listed, first_inside}
use Rattle.policy_rewriting.proofs.lists_keys.Goals as goal
use Rattle.policy_rewriting.proofs.lists_keys.Goals.{then-policy-ne0, else-policy-ne0}

pub bounds-policy-1 : goal.bounds-policy-1
bounds-policy-1 c = omega (arith, (table_of c.requires).header.two)

pub bounds-policy-2 : goal.bounds-policy-2
bounds-policy-2 c = omega (arith, first_inside _ c.if-policy-ne0.true c.requires)

pub bounds-policy-3 : goal.bounds-policy-3
bounds-policy-3 c = elim c.if-policy-ne0.branch [
  | then-policy-ne0 w ↦ omega (arith, first_inside _ w.if-policy-ne0.true c.requires)
  | else-policy-ne0 w ↦ absurd (false≢true (sym (w.value-is ∙ ap not (eq-eqb _ _ w.if-policy-ne0.false)) ∙ c.if-policy-eq0.true))
]

pub returns-then-policy-eq0 : goal.returns-then-policy-eq0
returns-then-policy-eq0 c = elim c.if-policy-ne0.branch [
  | then-policy-ne0 w ↦ polarity_listed _ w.if-policy-ne0.true (eqb-true _ _ (sym w.value-is ∙ c.if-policy-eq0.true))
  | else-policy-ne0 w ↦ absurd (false≢true (sym (w.value-is ∙ ap not (eq-eqb _ _ w.if-policy-ne0.false)) ∙ c.if-policy-eq0.true))
]

pub returns-else-policy-eq0 : goal.returns-else-policy-eq0
returns-else-policy-eq0 c = rw c.if-policy-eq0.false elim c.if-policy-ne0.branch [
  | then-policy-ne0 w ↦ other_name_listed _ w.if-policy-ne0.true (eqb-false _ _ (sym w.value-is ∙ c.if-policy-eq0.false))
  | else-policy-ne0 w ↦ none_listed _ w.if-policy-ne0.false
]
