-- A part of as many words as a record has.
use Rattle.std.proofs.Common.{◌+◌, ◌*◌}
use native.Mathlib.Nat.{add-sub_cancel_left}
use Rattle.rows.specs.Records.{record_at}
use Rattle.records.proofs.record_at.Goals as goal

pub returns : goal.returns
unfolding record_at
returns c = rw (add-sub_cancel_left (1 + c.args.width * c.args.i) c.args.width)
