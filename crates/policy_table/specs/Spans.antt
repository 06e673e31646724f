-- Where a part lies, as the code says it.
use Rattle.policy.specs.Part as Part
use Rattle.policy_table.specs.declared.parts.PartSpan.{PartSpan}
use Rattle.policy_table.specs.declared.parts.PartSpan.TheVariants as span

unfoldable pub part_span_is : PartSpan → Part.PartSpan
part_span_is (span.InPolicy start size) = Part.in_policy start size
part_span_is span.WholeQuery = Part.whole_query
