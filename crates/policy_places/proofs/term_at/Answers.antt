-- The tag tells an atom from a variable.
use Rattle.policy_places.proofs.Held.{is_atom_lem, is_variable}
use Rattle.policy_places.proofs.term_at.Goals as goal

pub returns-then-words-at : goal.returns-then-words-at
returns-then-words-at c = is_atom_lem c.if-words-at.true

pub returns-else-words-at : goal.returns-else-words-at
returns-else-words-at c = is_variable c.if-words-at.false
