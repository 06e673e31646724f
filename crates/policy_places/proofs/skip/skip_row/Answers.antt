-- A row has one to four terms.
use Rattle.policy_places.proofs.Places.{row_width}
use Rattle.policy_places.proofs.Past.{past_row}
use Rattle.policy_places.proofs.skip.skip_row.Goals as goal

pub skip_wide-requires : goal.skip_wide-requires
skip_wide-requires c = (row_width c.requires).inside

pub returns : goal.returns
returns c = rw c.skip_wide.ensures past_row
