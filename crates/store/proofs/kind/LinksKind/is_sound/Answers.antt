use Rattle.certificates.specs.Link.{sound_links}
use Rattle.store.proofs.kind.LinksKind.is_sound.Goals as goal

pub returns : goal.returns
unfolding sound_links
returns c = c.sound_links.ensures
