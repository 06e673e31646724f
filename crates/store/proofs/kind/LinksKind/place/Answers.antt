use Rattle.certificates.specs.Link.{sound_links}
use Rattle.store.proofs.kind.LinksKind.place.Goals as goal

pub link_place-requires : goal.link_place-requires
unfolding sound_links
link_place-requires c = (c.requires.sound_store, c.requires.sound_words)
