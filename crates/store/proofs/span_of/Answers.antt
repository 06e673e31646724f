-- An unsound store has no part.
use Rattle.std.proofs.Common.{sym, ◌∙◌}
use Rattle.certificates.proofs.NameParts.{spans_none}
use Rattle.store.proofs.span_of.Goals as goal

pub returns-then-not-sound_store : goal.returns-then-not-sound_store
returns-then-not-sound_store c = spans_none _ _ _ _ (sym c.sound_store.ensures ∙ c.if-not-sound_store.true)
