use Rattle.certificates.specs.Store.{sound_store}
use Rattle.store.proofs.kind.CertificatesKind.place.Goals as goal

pub place_of-requires : goal.place_of-requires
unfolding sound_store
place_of-requires c = (c.requires.sound_store, c.requires.sound_words)
