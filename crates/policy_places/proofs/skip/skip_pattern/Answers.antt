-- A pattern has one to four slots.
use Rattle.policy_places.proofs.Places.{pattern_width}
use Rattle.policy_places.proofs.Past.{past_pattern}
use Rattle.policy_places.proofs.skip.skip_pattern.Goals as goal

pub skip_wide-requires : goal.skip_wide-requires
skip_wide-requires c = (pattern_width c.requires.1).inside

pub returns : goal.returns
returns c = rw c.skip_wide.ensures past_pattern
