-- The search decides.
use Rattle.std.proofs.Common.{arith}
use Rattle.row_words.specs.Values.{row_is}
use Rattle.sets.proofs.SetWords.{size}
use Rattle.sets.proofs.Inserting.{known_answer, known_words, err_place, full_answer, full_words, new_answer, new_words}
use Rattle.sets.proofs.listing.insert.Goals as goal

pub bounds-set-1 : goal.bounds-set-1
bounds-set-1 c = let s = size c.args.set.now c.requires.0 in omega arith

pub returns-then-set-eq-MOST_ROWS : goal.returns-then-set-eq-MOST_ROWS
returns-then-set-eq-MOST_ROWS c =
    let s = size c.args.set.now c.requires.0 in
    let f = c.find_from_end.ensures in
    record {
      answer = full_answer c.args.set.now (row_is c.args.row) _ _ f c.in-Err.is (omega arith);
      words = full_words c.args.set.now (row_is c.args.row) _ _ f c.in-Err.is;
    }

pub insert_at-requires : goal.insert_at-requires
insert_at-requires c =
    let p = c.requires in
    let s = size c.args.set.now p.0 in
    (p.0, p.1, err_place c.args.set.now (row_is c.args.row) _ _ c.find_from_end.ensures c.in-Err.is, omega arith, p.3)

pub returns-in-Ok : goal.returns-in-Ok
returns-in-Ok c =
    let f = c.find_from_end.ensures in
    record {
      answer = known_answer c.args.set.now (row_is c.args.row) _ _ f c.in-Ok.is;
      words = known_words c.args.set.now (row_is c.args.row) _ _ f c.requires.0 c.in-Ok.is;
    }

pub returns-else-set-eq-MOST_ROWS : goal.returns-else-set-eq-MOST_ROWS
returns-else-set-eq-MOST_ROWS c =
    let s = size c.args.set.now c.requires.0 in
    let f = c.find_from_end.ensures in
    record {
      answer = new_answer c.args.set.now (row_is c.args.row) _ _ f c.in-Err.is (omega arith);
      words = new_words c.args.set.now (row_is c.args.row) _ _ f c.in-Err.is _ c.insert_at.ensures;
    }
