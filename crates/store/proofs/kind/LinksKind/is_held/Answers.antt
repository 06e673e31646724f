use Rattle.certificates.specs.Link.{sound_links}
use Rattle.store.proofs.kind.LinksKind.is_held.Goals as goal

pub link_held-requires : goal.link_held-requires
unfolding sound_links
link_held-requires c = (c.requires.sound_store, c.requires.sound_words)
