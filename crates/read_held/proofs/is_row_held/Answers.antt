-- The record that is found tells where it holds; where it does not, those of the row beside it do.
use Rattle.std.proofs.Common.{rules, ◌<◌, ◌∙◌, length, sym}
use Rattle.row_words.specs.Values.{row_is}
use Rattle.read_held.proofs.Searching.{none_holds, one_holds, one_beside, beside_tells}
use Rattle.read_held.proofs.is_row_held.Goals as goal

pub returns-in_default : goal.returns-in_default
returns-in_default c = none_holds c.args.minute c.args.records.now (row_is c.args.row.now) (λ l h e. absurd (c.in_default.ensures l h e))

pub offset_bounds-records-found : goal.offset_bounds-records-found
offset_bounds-records-found c = let h : c.in-Some.found < length c.args.records.now = c.in-Some.ensures.0 in search rules

pub bounds-records-found : goal.bounds-records-found
bounds-records-found c = c.in-Some.ensures.0

pub returns-then-holds : goal.returns-then-holds
returns-then-holds c =
    one_holds c.args.minute c.args.records.now (row_is c.args.row.now) c.in-Some.found c.in-Some.ensures.0 c.in-Some.ensures.1 (sym c.holds.ensures ∙ c.if-holds.true)

pub returns-then-held_before : goal.returns-then-held_before
returns-then-held_before c =
    one_beside c.args.minute c.args.records.now (row_is c.args.row.now) c.in-Some.found c.in-Some.ensures.1 (rw c.if-held_before.true at c.held_before.ensures)

pub returns : goal.returns
returns c =
    beside_tells c.args.minute c.args.records.now (row_is c.args.row.now) c.in-Some.found c.in-Some.ensures.1 (sym c.holds.ensures ∙ c.if-holds.false) c.if-held_before.ensures _ c.held_behind.ensures
