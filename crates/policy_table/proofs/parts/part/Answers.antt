-- A part lies inside the policy.
use Rattle.std.proofs.Common.{arith}
use Rattle.policy_table.proofs.PartAnswers.{span_inside, span_held, query_held, query_part_lem, policy_part}
use Rattle.policy_table.proofs.parts.part.Goals as goal

pub overflow_add-result : goal.overflow_add-result
overflow_add-result c = let h = span_inside _ _ _ _ (span_held _ _ _ _ c.part_span.ensures c.in-InPolicy.is) in omega arith

pub offset_bounds-policy-start : goal.offset_bounds-policy-start
offset_bounds-policy-start c = let h = span_inside _ _ _ _ (span_held _ _ _ _ c.part_span.ensures c.in-InPolicy.is) in omega arith

pub slice_bounds-result-end : goal.slice_bounds-result-end
slice_bounds-result-end c = let h = span_inside _ _ _ _ (span_held _ _ _ _ c.part_span.ensures c.in-InPolicy.is) in omega arith

pub returns-in-WholeQuery : goal.returns-in-WholeQuery
returns-in-WholeQuery c = query_part_lem _ _ _ (query_held _ _ c.part_span.ensures c.in-WholeQuery.is)

pub returns-in-InPolicy : goal.returns-in-InPolicy
returns-in-InPolicy c = policy_part _ _ _ _ _ (span_held _ _ _ _ c.part_span.ensures c.in-InPolicy.is)
