-- The search, and the form.
use Rattle.std.proofs.Common.{arith}
use Rattle.rows.specs.Layout.{rows_in}
use Rattle.row_words.specs.Values.{row_is}
use Rattle.row_words.proofs.SearchLaws.{ok_listed, err_unlisted}
use Rattle.sets.proofs.SetWords.{size, has_listed, has_unlisted}
use Rattle.sets.proofs.has.Goals as goal

pub bounds-set-0 : goal.bounds-set-0
bounds-set-0 c = let s = size c.args.set.now c.requires.0 in omega arith

pub returns-in-Ok : goal.returns-in-Ok
returns-in-Ok c = has_listed c.args.set.now (row_is c.args.row) (ok_listed (rows_in c.args.set.now) (row_is c.args.row) _ _ c.in-Ok.is c.find.ensures)

pub returns-in-Err : goal.returns-in-Err
returns-in-Err c = has_unlisted c.args.set.now (row_is c.args.row) (err_unlisted (rows_in c.args.set.now) (row_is c.args.row) _ _ c.in-Err.is c.find.ensures)
