-- Five words in a row are the row's.
use mathlib.Core.Path.{sym}
use native.Mathlib.Omega.{arith}
use Rattle.row_words.specs.Values.{five_is}
use Rattle.row_words.proofs.RowLaws.{five_words}
use Rattle.row_words.proofs.row.Row.at.Goals as goal

pub returns : goal.returns
unfolding five_is
returns c = sym (five_words c.args.words.now c.args.at (omega arith))
