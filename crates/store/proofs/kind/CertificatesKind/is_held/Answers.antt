use Rattle.certificates.specs.Store.{sound_store}
use Rattle.store.proofs.kind.CertificatesKind.is_held.Goals as goal

pub is_held-requires : goal.is_held-requires
unfolding sound_store
is_held-requires c = (c.requires.sound_store, c.requires.sound_words)
