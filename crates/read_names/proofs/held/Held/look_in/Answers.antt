-- The records of each name are counted, and the row is looked for among them.
use Rattle.std.proofs.Common.{arith, refl, ap, length}
use Rattle.rows.specs.Polarities.{polarity_number}
use Rattle.read_links.specs.Reached.{name_in}
use Rattle.row_words.specs.Values.{row_is}
use Rattle.read_names.proofs.Own.{records_few}
use Rattle.read_names.proofs.Linked.{in_found, few_found, its_records, looked_none, looked_found, looked_not, looked_all}
use Rattle.read_names.proofs.held.Held.look_in.Goals as goal
use Rattle.read_names.proofs.held.Held.look_in.Goals.{then-is_row_held, else-is_row_held}

pub loop-reached-init : goal.loop-reached-init
loop-reached-init c = looked_none c.args.self.now.minute c.args.self.now.store.now (polarity_number c.args.name.polarity) c.args.found.now.names (row_is c.args.row.now)

pub overflow_add-total : goal.overflow_add-total
overflow_add-total c =
    let h = c.args.self.now in
    let i = c.loop-reached.reached-index in
    let most = c.loop-reached.invariant.most in
    let few = in_found c.requires.0 c.names-reached-items.ensures.names i c.loop-reached-test.true in
    let small = c.args.found.now.few in
    let n = name_in c.args.found.now.names i in
    omega (
      arith,
      records_few h.store.now h.sound n.key n.name (polarity_number c.args.name.polarity) refl,
      ap (λ rs. length rs) (its_records c.requires.0 c.names-reached-items.ensures.names h.store.now i c.loop-reached-test.true c.records_of-records.ensures.records),
    )

pub is_row_held-requires : goal.is_row_held-requires
is_row_held-requires c = (c.records_of-records.ensures.sound, c.requires.1)

pub loop-reached-preserved : goal.loop-reached-preserved
loop-reached-preserved c =
    let h = c.args.self.now in
    let v = polarity_number c.args.name.polarity in
    elim c.if-is_row_held.branch [
      | then-is_row_held w ↦ rw w.held-is (looked_found h.minute h.store.now v c.args.found.now.names (row_is c.args.row.now) c.loop-reached.invariant (its_records c.requires.0 c.names-reached-items.ensures.names h.store.now c.loop-reached.reached-index c.loop-reached-test.true c.records_of-records.ensures.records) h.sound c.is_row_held.ensures w.if-is_row_held.true)
      | else-is_row_held w ↦ rw w.held-is (looked_not h.minute h.store.now v c.args.found.now.names (row_is c.args.row.now) c.loop-reached.invariant (its_records c.requires.0 c.names-reached-items.ensures.names h.store.now c.loop-reached.reached-index c.loop-reached-test.true c.records_of-records.ensures.records) h.sound c.is_row_held.ensures w.if-is_row_held.false)
    ]

pub returns : goal.returns
returns c =
    let h = c.args.self.now in
    let i = c.loop-reached.reached-index in
    let few = c.loop-reached.auto.reached-index-end in
    let size = c.names-reached-items.ensures.count in
    let end = c.loop-reached-test.false in
    looked_all h.minute h.store.now (polarity_number c.args.name.polarity) c.args.found.now.names (row_is c.args.row.now) c.loop-reached.invariant (few_found c.requires.0 c.names-reached-items.ensures.names i few) (omega arith)
