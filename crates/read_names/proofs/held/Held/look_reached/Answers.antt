-- Where the atoms are more than a row has, no name has a row of them.
use Rattle.rows.specs.Polarities.{polarity_number}
use Rattle.read_names.proofs.Linked.{longer_apart}
use Rattle.read_names.proofs.Named.{polarity_few}
use Rattle.read_names.proofs.held.Held.look_reached.Goals as goal

pub returns-in_ok-look_row_reached-in-None : goal.returns-in_ok-look_row_reached-in-None
returns-in_ok-look_row_reached-in-None c =
    let h = c.args.self.now in
    let n = c.args.name in
    longer_apart h.minute h.store.now h.links.now n.key n.number (polarity_number n.polarity) h.sound (polarity_few n.polarity) c.in-None.ensures c.in_ok-look_row_reached-in-None.ensures
