-- A record that does not hold, or whose row is the last one listed, adds nothing; another adds its row behind the others.
use Rattle.std.proofs.Common.{◌≡◌, ◌-◌, ◌+◌, ◌*◌, ℕ, List, length, get_or, [], sym, refl, ap, ◌∙◌, arith}
use borrow.Rule.Slice.PartMut.{put_mid}
use Rattle.rows.specs.Layout.{put, five_at}
use Rattle.certificates.proofs.Sound.{five_long}
use Rattle.read_held.proofs.Copying.{rows_same, rows_known, another, last_sound, the_last, put_part, copying_start, copying_same, copying_full, copying_next, copying_end}
use Rattle.read_held.proofs.copy_rows.Goals as goal
use Rattle.read_held.proofs.copy_rows.Goals.{then-not-holds-via-then-not-holds, then-not-holds-via-else-not-holds+then-is_listed}

pub loop-held-init : goal.loop-held-init
loop-held-init c = copying_start _ c.requires.0 _

pub is_listed-requires : goal.is_listed-requires
is_listed-requires c = (c.requires.0.sound c.loop-held.held-index c.loop-held-test.true, last_sound c.args.records.now c.loop-held.held-index _ c.loop-held.last c.loop-held.invariant.behind)

pub loop-held-preserved-then-not-holds : goal.loop-held-preserved-then-not-holds
loop-held-preserved-then-not-holds c =
    let rs = c.args.records.now in
    let i = c.loop-held.held-index in
    copying_same c.args.minute c.requires.0 _ _ _ _ i c.loop-held.invariant (elim c.then-not-holds.branch [
      | then-not-holds-via-then-not-holds w ↦ rows_same c.args.minute rs c.loop-held-test.true (sym c.holds.ensures ∙ w.if-not-holds.true)
      | then-not-holds-via-else-not-holds+then-is_listed w ↦
          rows_known c.args.minute rs c.loop-held-test.true (the_last rs i _ c.loop-held.last c.loop-held.invariant.behind w.is_listed.ensures w.if-is_listed.true)
    ])

pub returns-then-listed-eq-MOST_ROWS : goal.returns-then-listed-eq-MOST_ROWS
returns-then-listed-eq-MOST_ROWS c =
    let new = another c.args.records.now c.loop-held.held-index c.loop-held.last c.is_listed.ensures c.if-is_listed.false in
    (refl, copying_full c.args.minute c.requires.0 _ _ _ _ _ c.loop-held.invariant c.loop-held-test.true (sym c.holds.ensures ∙ c.if-not-holds.false) new c.if-listed-eq-MOST_ROWS.true)

pub loop-held-preserved : goal.loop-held-preserved
loop-held-preserved c =
    let new = another c.args.records.now c.loop-held.held-index c.loop-held.last c.is_listed.ensures c.if-is_listed.false in
    let few = c.loop-held.invariant.few in
    let other = c.if-listed-eq-MOST_ROWS.false in
    let at : ℕ = 2 + 5 * c.loop-held.listed in
    let held : List ℕ = get_or c.args.records.now c.loop-held.held-index [] in
    let size = c.loop-held.invariant.size in
    let long = c.requires.1 in
    let words : put_mid at (at + 5 - at) c.loop-held.area c.copy_from_slice.new.self ≡ put at (five_at held 3) c.loop-held.area =
    put_part at (at + 5 - at) c.loop-held.area c.copy_from_slice.new.self (omega arith) (omega (arith, ap length c.copy_from_slice.ensures.after, five_long held (c.told-records c.loop-held.held-index c.loop-held-test.true)))
    ∙ ap (λ ws. put at ws c.loop-held.area) c.copy_from_slice.ensures.after in
    copying_next c.args.minute c.requires.0 _ _ _ _ _ c.loop-held.invariant c.loop-held-test.true (sym c.holds.ensures ∙ c.if-not-holds.false) new (omega arith) c.requires.1 _ words _ refl

pub returns : goal.returns
returns c = copying_end c.args.minute c.requires.0 _ _ _ _ _ c.loop-held.invariant c.loop-held-test.false c.requires.1 c.requires.2
