-- The last row decides, or the search among all.
use Rattle.std.proofs.Common.{refl, arith}
use Rattle.rows.specs.Layout.{rows_in}
use Rattle.row_words.specs.Values.{row_is}
use Rattle.row_words.proofs.SearchLaws.{finds_at}
use Rattle.sets.proofs.SetWords.{size, width_in, row_same, row_after, finds_none, finds_past}
use Rattle.sets.proofs.find_from_end.Goals as goal

pub bounds-set-1 : goal.bounds-set-1
bounds-set-1 c = let s = size c.args.set.now c.requires.0 in omega arith

pub returns-then-count-eq0 : goal.returns-then-count-eq0
returns-then-count-eq0 c = finds_none c.args.set.now _ refl (row_is c.args.row.now) (omega arith)

pub compare-requires : goal.compare-requires
compare-requires c =
    let s = size c.args.set.now c.requires.0 in
    (omega arith, c.requires.1, width_in c.args.set.now _ c.requires.0 (omega arith))

pub returns-in-Equal : goal.returns-in-Equal
returns-in-Equal c =
    let s = size c.args.set.now c.requires.0 in
    finds_at (rows_in c.args.set.now) (row_is c.args.row.now) _ (omega arith) (row_same c.args.set.now _ (omega arith) c.args.row.now _ c.compare.ensures c.in-Equal.is)

pub returns-in-Greater : goal.returns-in-Greater
returns-in-Greater c =
    let s = size c.args.set.now c.requires.0 in
    finds_past c.args.set.now _ refl c.requires.0 (row_is c.args.row.now) (omega arith)
    (row_after c.args.set.now _ (omega arith) c.args.row.now _ c.compare.ensures c.in-Greater.is)
