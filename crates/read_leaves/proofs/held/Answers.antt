use Rattle.read_leaves.proofs.held.Goals as goal

pub returns : goal.returns
returns c = rw (c.new.ensures.store, c.new.ensures.links, c.new.ensures.minute)
