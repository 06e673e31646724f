-- The rows of all names reached are joined.
use Rattle.rows.specs.Polarities.{polarity_number}
use Rattle.read_names.proofs.Linked.{just_reached, say_listed, say_large}
use Rattle.read_names.proofs.Named.{told_so, polarity_few}
use Rattle.read_names.proofs.held.Held.list_reached.Goals as goal

pub returns : goal.returns
returns c =
    let h = c.args.self.now in
    let n = c.args.name in
    let v = polarity_number n.polarity in
    let found = just_reached c.reach.ensures in
    told_so c.join_names.result c.join_names.ensures
    (λ a j. say_listed h.minute h.store.now h.links.now n.key n.number v h.sound (polarity_few n.polarity) found c.requires j)
    (λ e j. say_large h.minute h.store.now h.links.now n.key n.number v h.sound (polarity_few n.polarity) found c.requires j)
