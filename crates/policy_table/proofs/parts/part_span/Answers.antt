-- What a sound table says of a number: the query's, a definition's, or none's.
use Rattle.std.proofs.Common.{ap, ◌∙◌}
use Rattle.policy.specs.Table.{entry_at}
use Rattle.policy_table.specs.Entries.{entry_is, entry_place}
use Rattle.policy_table.specs.Spans.{part_span_is}
use Rattle.policy_table.proofs.PartAnswers.{span_none, span_query, span_past, span_entry}
use Rattle.policy_table.proofs.parts.part_span.Goals as goal

pub returns-in_default : goal.returns-in_default
unfolding part_span_is
returns-in_default c = span_none _ _ _ c.in_default.ensures.table

pub returns-then-number-eq-QUERY_PART : goal.returns-then-number-eq-QUERY_PART
unfolding part_span_is
returns-then-number-eq-QUERY_PART c = span_query _ _ _ c.in-Ok.ensures.table c.if-number-eq-QUERY_PART.true

pub returns-then-table-i : goal.returns-then-table-i
unfolding part_span_is
returns-then-table-i c = span_past _ _ _ c.in-Ok.ensures.table c.if-number-eq-QUERY_PART.false c.if-table-i.true

pub returns : goal.returns
unfolding part_span_is
returns c =
    span_entry _ _ _ c.in-Ok.ensures.table c.if-number-eq-QUERY_PART.false c.if-table-i.false (entry_is c.entry-entry.result)
    (c.entry-entry.ensures ∙ ap (λ p. entry_at p.now (entry_place c.args.number)) c.in-Ok.ensures.policy)
