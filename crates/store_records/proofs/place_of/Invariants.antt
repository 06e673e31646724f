-- The place lies from low to high.
use Rattle.std.proofs.Common.{◌≤◌, ◌-◌}
use Rattle.rows.specs.Records.{count_of, place_in}
use Rattle.certificates.specs.Certificate.{record_before}
use Rattle.certificates.specs.Store.{records}
use Rattle.store_records.proofs.place_of.Given as goal

abbrev pub invariant-loop-low : goal.invariant-loop-low
invariant-loop-low l =
    (l.low ≤ place_in record_before (records l.store) l.certificate) × (place_in record_before (records l.store) l.certificate ≤ l.high) × (l.high ≤ count_of l.store)

abbrev pub decreases-loop-low : goal.decreases-loop-low
decreases-loop-low l = l.high - l.low
