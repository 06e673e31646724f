-- The library copies them.
use Rattle.std.proofs.Common.{◌∙◌, arith}
use Rattle.row_words.proofs.WordLaws.{copied}
use Rattle.set_algebra.proofs.copy_row.Goals as goal

pub returns : goal.returns
returns c = c.copy_within.ensures.after ∙ copied c.args.area.now c.args.from c.args.to 5 (omega arith)
