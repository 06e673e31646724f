-- The count lies from low to high. The measure is what lies between them.
use Rattle.std.proofs.Common.{◌≤◌, ◌-◌}
use Rattle.rows.specs.Ordered.{leading}
use Rattle.rows.specs.Records.{count_of, records_in, begins_before}
use Rattle.records.proofs.count_before.Given as goal

abbrev pub invariant-loop-low : goal.invariant-loop-low
invariant-loop-low l =
    (l.low ≤ leading (begins_before l.also l.words) (records_in l.width l.area)) ×
    ((leading (begins_before l.also l.words) (records_in l.width l.area) ≤ l.high) × (l.high ≤ count_of l.area))

abbrev pub decreases-loop-low : goal.decreases-loop-low
decreases-loop-low l = l.high - l.low
