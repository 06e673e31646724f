-- The links that begin before the link's five words are those that come before it.
use Rattle.std.proofs.Common.{◌∙◌, arith}
use Rattle.certificates.specs.Link.{link_words}
use Rattle.certificates.proofs.Links.{sound_link_lem, sound_links_lem, links_begin_first}
use Rattle.rows.proofs.Fronts.{count_is_place}
use Rattle.link_records.proofs.link_place.Goals as goal

pub count_before-requires-clause-in_bounds : goal.count_before-requires-clause-in_bounds
count_before-requires-clause-in_bounds c =
    let s = sound_links_lem c.args.links.now c.requires.0 in
    (omega arith, omega (arith, (sound_link_lem c.args.link.now c.requires.1).five))

pub count_before-requires-clause-pass_first : goal.count_before-requires-clause-pass_first
count_before-requires-clause-pass_first c = links_begin_first _ _ c.args.links.now c.requires.0

pub returns : goal.returns
returns c = c.count_before.ensures ∙ count_is_place link_words c.args.link.now (sound_link_lem c.args.link.now c.requires.1).five c.args.links.now
