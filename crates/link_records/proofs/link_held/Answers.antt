-- The link at its place is not before this one, so it is this one if it is not past it either.
use Rattle.std.proofs.Common.{◌∙◌, arith, le-ltb}
use Rattle.rows.proofs.Order.{words_order}
use Rattle.rows.proofs.Records.{record_length, held_here, held_none}
use Rattle.certificates.specs.Link.{link_words}
use Rattle.certificates.proofs.Links.{sound_link_lem, sound_links_lem}
use Rattle.link_records.proofs.link_held.Goals as goal

pub bounds-links-0 : goal.bounds-links-0
bounds-links-0 c = omega (arith, (sound_links_lem c.args.links.now c.requires.0).long)

pub record_at-requires : goal.record_at-requires
record_at-requires c = let s = sound_links_lem c.args.links.now c.requires.0 in omega arith

pub link_before-requires : goal.link_before-requires
link_before-requires c =
    let s = sound_links_lem c.args.links.now c.requires.0 in
    ((sound_link_lem _ c.requires.1).five, rw c.record_at.ensures (record_length link_words c.args.links.now c.args.place (omega arith)))

pub returns-then-place-links : goal.returns-then-place-links
returns-then-place-links c =
    held_here link_words words_order c.args.links.now c.args.link.now c.args.place _ _ c.if-place-links.true c.link_before.ensures c.record_at.ensures

pub returns-else-place-links : goal.returns-else-place-links
returns-else-place-links c =
    le-ltb _ _ (omega arith) ∙ held_none link_words words_order c.args.links.now c.args.link.now c.args.place (omega arith)
