-- The rows of a set stand five words apart.
use Rattle.std.proofs.Common.{List, subst, refl, arith}
use Rattle.rows.specs.Row.{Row}
use Rattle.row_words.specs.Values.{row_is}
use Rattle.row_words.specs.Search.{Finds}
use Rattle.sets.proofs.SetWords.{size, set_rows, set_listed}
use Rattle.sets.proofs.find.Goals as goal

pub bounds-set-1 : goal.bounds-set-1
bounds-set-1 c = let s = size c.args.set.now c.requires.0 in omega arith

pub find-requires : goal.find-requires
find-requires c = (set_listed c.args.set.now _ refl c.requires.0, c.requires.1)

pub returns : goal.returns
returns c = subst (λ (xs : List Row). Finds xs (row_is c.args.row.now) c.find.result) (set_rows c.args.set.now _ refl) c.find.ensures
