-- By the two forms.
use Rattle.std.proofs.Common.{ℕ, List, ◌≡◌, ◌∙◌, sym, ap, refl, Bool, true, false, Result, get_or, nat_eq}
use mathlib.Core.Bool.{not}
use borrow.Author.Tests.{eq-eqb, ne_eqb}
use Rattle.refusals.specs.declared.Refusal.{Refusal}
use Rattle.rows.specs.Sets.{RowSet}
use Rattle.set_algebra.specs.declared.Operation.{Operation}
use Rattle.set_algebra.specs.declared.Operation.TheVariants.{Union, Difference}
use Rattle.set_algebra.specs.Combined.{Combined, left_by, room_for, is_difference, Combines}
use Rattle.set_algebra.specs.Private.{alike}
use Rattle.set_algebra.proofs.Combining.{rooms, filtered_value, rest_value, joined_value}
use Rattle.set_algebra.proofs.Operation.combine.Goals as goal
use Rattle.set_algebra.proofs.Operation.combine.Goals.{in-Union, in-Difference}

as_result : (value : RowSet) (before after : List ℕ) (fits : Bool) (r : Result (Unit {0}) Refusal) → Combined value before after fits → r ≡ room_for fits → Combines value before after r
as_result value before after fits r c e = record { answer = e ∙ ap room_for c.answer; words = c.words ∙ ap (λ (b : Bool). left_by b value before) c.answer }

union_alike : (o : Operation) (b loses : Bool) → o ≡ Union → loses ≡ b → alike (is_difference o) b ≡ not loses
union_alike o b loses e f = ap (λ (p : Operation). alike (is_difference p) b) e ∙ ap not (sym f)

twice : (b : Bool) → b ≡ not (not b)
twice true = refl
twice false = refl

difference_alike : (o : Operation) (b loses : Bool) → o ≡ Difference → loses ≡ not b → alike (is_difference o) b ≡ not loses
difference_alike o b loses e f = ap (λ (p : Operation). alike (is_difference p) b) e ∙ twice b ∙ ap not (sym f)

pub filter-requires : goal.filter-requires
filter-requires c = rooms c.args.area.now c.requires

pub returns-then-loses : goal.returns-then-loses
unfolding room_for
returns-then-loses c =
    let a = c.args.area.now in
    let asked : alike (is_difference c.args.self) (nat_eq (get_or a 0 0) 1) ≡ not c.match-self.loses =
    elim c.match-self.branch [ in-Union w ↦ union_alike _ _ _ w.in-Union.is w.loses-is | in-Difference w ↦ difference_alike _ _ _ w.in-Difference.is w.loses-is ] in
    as_result _ _ _ true _ (filtered_value a c.requires _ (asked ∙ ap not c.if-loses.true) _ c.filter.ensures) refl

pub keep_right-requires : goal.keep_right-requires
keep_right-requires c = rooms c.args.area.now c.requires

pub returns-then-complement : goal.returns-then-complement
unfolding room_for
returns-then-complement c =
    let a = c.args.area.now in
    let asked : alike (is_difference c.args.self) (nat_eq (get_or a 0 0) 1) ≡ not c.match-self.loses =
    elim c.match-self.branch [ in-Union w ↦ union_alike _ _ _ w.in-Union.is w.loses-is | in-Difference w ↦ difference_alike _ _ _ w.in-Difference.is w.loses-is ] in
    as_result _ _ _ true _ (rest_value a c.requires _ (asked ∙ ap not c.if-loses.false) (eq-eqb _ _ c.if-complement.true) _ c.keep_right.ensures) refl

pub join-requires : goal.join-requires
join-requires c = rooms c.args.area.now c.requires

pub returns : goal.returns
returns c =
    let a = c.args.area.now in
    let asked : alike (is_difference c.args.self) (nat_eq (get_or a 0 0) 1) ≡ not c.match-self.loses =
    elim c.match-self.branch [ in-Union w ↦ union_alike _ _ _ w.in-Union.is w.loses-is | in-Difference w ↦ difference_alike _ _ _ w.in-Difference.is w.loses-is ] in
    as_result _ _ _ _ _ (joined_value a c.requires _ (asked ∙ ap not c.if-loses.false) (ne_eqb _ _ c.if-complement.false) _ _ refl c.join.ensures.words) c.join.ensures.answer
