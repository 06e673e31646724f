-- The links that begin with the name and the polarity follow those that begin with earlier words.
use Rattle.std.proofs.Common.{arith, false, ap, length, ◌∙◌}
use Rattle.rows.specs.Ordered.{leading}
use Rattle.rows.specs.Records.{begins_before, records_in}
use Rattle.rows.specs.Polarities.{polarity_number}
use Rattle.certificates.proofs.Links.{links_begin_first}
use Rattle.read_links.proofs.Starting.{links_whole, first_from}
use Rattle.read_links.proofs.Finding.{polarity_few}
use Rattle.read_links.proofs.first_from.Goals as goal

pub count_before-requires-clause-in_bounds : goal.count_before-requires-clause-in_bounds
count_before-requires-clause-in_bounds c = (omega (arith, links_whole c.args.links.now c.requires), omega (arith, ap (λ ws. length ws) c.words.ensures))

pub count_before-requires-clause-pass_first : goal.count_before-requires-clause-pass_first
count_before-requires-clause-pass_first c = links_begin_first c.words.result _ c.args.links.now c.requires

pub returns : goal.returns
returns c =
    first_from c.args.links.now c.requires c.args.name.key c.args.name.number (polarity_number c.args.name.polarity) (polarity_few c.args.name.polarity) c.count_before.result
    (c.count_before.ensures ∙ ap (λ ws. leading (begins_before false ws) (records_in 5 c.args.links.now)) c.words.ensures)
