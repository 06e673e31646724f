-- The names decide; where they are the same, the rows do, and where these are, the terms.
use Rattle.std.proofs.Common.{◌∙◌, arith}
use Rattle.certificates.proofs.Sound.{sound_record_lem}
use Rattle.row_words.proofs.RowLaws.{front_next, loaded_width}
use Rattle.store_records.proofs.Before.{record_width, name_differs, name_same, row_before_lem, row_same, row_after}
use Rattle.store_records.proofs.record.record_before.Goals as goal

pub bounds-a-j : goal.bounds-a-j
bounds-a-j c = omega (arith, (sound_record_lem c.args.a.now c.requires.0).ten)

pub bounds-b-j : goal.bounds-b-j
bounds-b-j c = omega (arith, (sound_record_lem c.args.b.now c.requires.1).ten)

pub returns-then-x-y : goal.returns-then-x-y
returns-then-x-y c =
    name_differs c.args.a.now c.args.b.now c.loop-j.j c.loop-j.invariant (sound_record_lem c.args.a.now c.requires.0).ten (sound_record_lem c.args.b.now c.requires.1).ten (omega arith) c.if-x-y.true

pub loop-j-preserved : goal.loop-j-preserved
loop-j-preserved c =
    front_next c.args.a.now c.args.b.now c.loop-j.j c.loop-j.invariant (omega (arith, (sound_record_lem c.args.a.now c.requires.0).ten)) (omega (arith, (sound_record_lem c.args.b.now c.requires.1).ten)) (omega arith)

pub at-requires : goal.at-requires
at-requires c = omega (arith, (sound_record_lem c.args.a.now c.requires.0).ten)

pub compare-requires : goal.compare-requires
compare-requires c =
    let few = record_width c.args.a.now c.requires.0 in
    (omega (arith, (sound_record_lem c.args.b.now c.requires.1).ten), omega (arith, loaded_width _ c.args.a.now 3 c.at.ensures), record_width c.args.b.now c.requires.1)

pub term_before-requires : goal.term_before-requires
term_before-requires c = ((sound_record_lem c.args.a.now c.requires.0).ten, (sound_record_lem c.args.b.now c.requires.1).ten)

pub returns-in-Less : goal.returns-in-Less
returns-in-Less c =
    row_before_lem c.args.a.now c.args.b.now c.requires.0 c.requires.1 (name_same c.args.a.now c.args.b.now c.loop-j.j c.loop-j.invariant (omega arith)) _ c.at.ensures _ c.compare.ensures c.in-Less.is

pub returns-in-Equal : goal.returns-in-Equal
returns-in-Equal c =
    c.term_before.ensures
    ∙ row_same c.args.a.now c.args.b.now c.requires.0 c.requires.1 (name_same c.args.a.now c.args.b.now c.loop-j.j c.loop-j.invariant (omega arith)) _ c.at.ensures _ c.compare.ensures c.in-Equal.is

pub returns-in-Greater : goal.returns-in-Greater
returns-in-Greater c =
    row_after c.args.a.now c.args.b.now c.requires.0 c.requires.1 (name_same c.args.a.now c.args.b.now c.loop-j.j c.loop-j.invariant (omega arith)) _ c.at.ensures _ c.compare.ensures c.in-Greater.is
