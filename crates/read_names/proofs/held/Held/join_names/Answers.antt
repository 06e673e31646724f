-- The records of each name are joined.
use Rattle.std.proofs.Common.{arith}
use Rattle.std.proofs.lemmas.Result.{err_from_is_err_and}
use Rattle.rows.specs.Polarities.{polarity_number}
use Rattle.read_links.specs.Reached.{name_in}
use Rattle.read_names.proofs.Linked.{in_found, few_found, its_records, joining_start, joining_same, joining_more, joining_all, joining_full, part_joined, part_full, name_adds, name_among, all_names, no_names}
use Rattle.read_names.proofs.held.Held.join_names.Goals as goal

pub loop-reached-init : goal.loop-reached-init
loop-reached-init c = joining_start _ c.requires.1 (no_names c.args.self.now.minute c.args.self.now.store.now (polarity_number c.args.name.polarity) c.args.found.now.names)

pub join_rows-requires : goal.join_rows-requires
join_rows-requires c = (c.records_of.ensures.sound, c.loop-reached.invariant.filled)

pub returns-in_err-join_rows : goal.returns-in_err-join_rows
returns-in_err-join_rows c =
    let h = c.args.self.now in
    let v = polarity_number c.args.name.polarity in
    let p = err_from_is_err_and c.from_residual.result c.from_residual.ensures.1 in
    rw (p.1, p.2) (joining_full c.loop-reached.invariant (name_among h.minute h.store.now v c.args.found.now.names c.loop-reached.reached-index c.args.found.now.count (in_found c.requires.0 c.names-reached-items.ensures.names c.loop-reached.reached-index c.loop-reached-test.true))
    (part_full h.minute v h.store.now (name_in c.args.found.now.names c.loop-reached.reached-index) _ (its_records c.requires.0 c.names-reached-items.ensures.names h.store.now c.loop-reached.reached-index c.loop-reached-test.true c.records_of.ensures.records) c.in_err-join_rows.ensures))

pub loop-reached-preserved : goal.loop-reached-preserved
loop-reached-preserved c =
    let h = c.args.self.now in
    let v = polarity_number c.args.name.polarity in
    joining_more c.loop-reached.invariant (name_adds h.minute h.store.now v c.args.found.now.names c.loop-reached.reached-index) c.join_rows.auto.area
    (part_joined h.minute v h.store.now (name_in c.args.found.now.names c.loop-reached.reached-index) (its_records c.requires.0 c.names-reached-items.ensures.names h.store.now c.loop-reached.reached-index c.loop-reached-test.true c.records_of.ensures.records) c.in_ok-join_rows.ensures)

pub returns : goal.returns
returns c =
    let h = c.args.self.now in
    let i = c.loop-reached.reached-index in
    let few = c.loop-reached.auto.reached-index-end in
    let size = c.names-reached-items.ensures.count in
    let end = c.loop-reached-test.false in
    joining_all (joining_same c.loop-reached.invariant (all_names h.minute h.store.now (polarity_number c.args.name.polarity) c.args.found.now.names i c.args.found.now.count (few_found c.requires.0 c.names-reached-items.ensures.names i few) (omega arith)))
