use Rattle.certificates.specs.Store.{sound_store}
use Rattle.store.proofs.kind.CertificatesKind.is_sound.Goals as goal

pub returns : goal.returns
unfolding sound_store
returns c = c.sound_store.ensures
