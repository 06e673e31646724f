-- The entry's first two words as they are, then the two others.
use Rattle.std.proofs.Common.{◌-◌}
use Rattle.policy_rewriting.proofs.Entries.{entry_laid}
use Rattle.policy_rewriting.proofs.lay_entry.Goals as goal

pub returns : goal.returns
returns c =
    entry_laid c.args.policy.now c.args.area.now c.args.i c.args.to (c.args.end - c.args.to) c.requires.1 c.entry_place-at.ensures c.lay_words-offset.ensures c.lay.ensures c.lay-2.ensures
