-- The tag tells a new variable from a term.
use Rattle.policy_places.proofs.Held.{is_new_lem, is_old}
use Rattle.policy_places.proofs.slot_at.Goals as goal

pub returns-then-words-at : goal.returns-then-words-at
returns-then-words-at c = is_new_lem c.if-words-at.true

pub returns-else-words-at : goal.returns-else-words-at
returns-else-words-at c = is_old c.if-words-at.false _ c.term_at.ensures
