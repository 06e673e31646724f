use Rattle.std.proofs.Common.{arith}
use Rattle.engine.proofs.Driving.{done_filled, number_small, words_inside, place_inside, none_read, next_asked, next_read, next_refused, all_read}
use Rattle.engine.proofs.answering.read_definitions.Goals as goal

pub loop-d-init : goal.loop-d-init
loop-d-init c = none_read c.requires

pub definition_words-requires : goal.definition_words-requires
definition_words-requires c = words_inside c.requires (omega arith)

pub read_whole-requires : goal.read_whole-requires
read_whole-requires c = next_asked c.loop-d.invariant c.loop-d-test.true c.definition_words.ensures c.requires c.loop-d.auto.scratch

pub overflow_cast-part : goal.overflow_cast-part
overflow_cast-part c = record { fits = omega (arith, number_small c.requires c.loop-d-test.true) }

pub returns-in-Err : goal.returns-in-Err
returns-in-Err c = next_refused c.loop-d.invariant c.loop-d-test.true c.definition_words.ensures (number_small c.requires c.loop-d-test.true) c.in-Err.ensures

pub place_set-requires : goal.place_set-requires
place_set-requires c = ((done_filled c.in-Ok.ensures).sound, place_inside c.requires c.loop-d-test.true c.loop-d.auto.definitions)

pub loop-d-preserved : goal.loop-d-preserved
loop-d-preserved c =
    next_read c.loop-d.invariant c.loop-d-test.true c.definition_words.ensures c.in-Ok.ensures (place_inside c.requires c.loop-d-test.true c.loop-d.auto.definitions)
    (words_inside c.requires c.loop-d-test.true).1 c.place_set.ensures

pub returns : goal.returns
returns c = all_read c.loop-d.invariant c.loop-d-test.false
