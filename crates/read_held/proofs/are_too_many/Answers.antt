-- A record that does not hold, or whose row is the last one counted, adds nothing; another adds its row behind the others.
use Rattle.std.proofs.Common.{◌≡◌, ◌+◌, refl, sym, ◌∙◌, arith}
use Rattle.rows.proofs.Case.{never}
use Rattle.read_held.proofs.Holding.{rows_few}
use Rattle.read_held.proofs.Copying.{rows_of, rows_same, rows_known, another, last_sound, the_last, counting_start, counting_few, counting_same, counting_full, counting_next}
use Rattle.read_held.proofs.are_too_many.Goals as goal
use Rattle.read_held.proofs.are_too_many.Goals.{Joined-then-not-holds, then-not-holds-via-then-not-holds, then-not-holds-via-else-not-holds+then-is_listed}

pub returns-in_default : goal.returns-in_default
returns-in_default c = (λ t. never t refl, λ h. absurd (c.in_default.ensures (omega (arith, h, rows_few c.args.minute c.args.records.now))))

pub loop-held-init : goal.loop-held-init
loop-held-init c = let e = c.in-Some.ensures in counting_start c.args.minute c.requires c.in-Some.spare (omega (arith, e.0, e.1))

pub is_listed-requires : goal.is_listed-requires
is_listed-requires c = (c.requires.sound c.loop-held.held-index c.loop-held-test.true, last_sound c.args.records.now c.loop-held.held-index _ c.loop-held.last c.loop-held.invariant.behind)

adds_none : (c : Joined-then-not-holds) → rows_of c.args.minute c.args.records.now (c.loop-held.held-index + 1) ≡ rows_of c.args.minute c.args.records.now c.loop-held.held-index
adds_none c =
    let rs = c.args.records.now in
    let i = c.loop-held.held-index in
    elim c.then-not-holds.branch [
      | then-not-holds-via-then-not-holds w ↦ rows_same c.args.minute rs c.loop-held-test.true (sym c.holds.ensures ∙ w.if-not-holds.true)
      | then-not-holds-via-else-not-holds+then-is_listed w ↦
          rows_known c.args.minute rs c.loop-held-test.true (the_last rs i _ c.loop-held.last c.loop-held.invariant.behind w.is_listed.ensures w.if-is_listed.true)
    ]

pub returns-then-spare-eq0 : goal.returns-then-spare-eq0
returns-then-spare-eq0 c =
    let few = counting_few c.args.minute c.requires _ _ _ _ c.loop-held.invariant c.loop-held-test.true (adds_none c.before) c.if-spare-eq0.true in
    (λ t. never t refl, λ h. absurd (omega (arith, h, few)))

pub loop-held-preserved-then-not-holds : goal.loop-held-preserved-then-not-holds
loop-held-preserved-then-not-holds c = counting_same c.args.minute c.requires _ _ _ _ c.loop-held.invariant c.loop-held-test.true (adds_none c.before) c.if-spare-eq0.false

pub returns-then-listed-eq-MOST_ROWS : goal.returns-then-listed-eq-MOST_ROWS
returns-then-listed-eq-MOST_ROWS c =
    let new = another c.args.records.now c.loop-held.held-index c.loop-held.last c.is_listed.ensures c.if-is_listed.false in
    (λ t. counting_full c.args.minute c.requires _ _ _ _ c.loop-held.invariant c.loop-held-test.true (sym c.holds.ensures ∙ c.if-not-holds.false) new c.if-listed-eq-MOST_ROWS.true, λ h. refl)

pub loop-held-preserved : goal.loop-held-preserved
loop-held-preserved c =
    let new = another c.args.records.now c.loop-held.held-index c.loop-held.last c.is_listed.ensures c.if-is_listed.false in
    let few = c.loop-held.invariant.few in
    let other = c.if-listed-eq-MOST_ROWS.false in
    counting_next c.args.minute c.requires _ _ _ _ c.loop-held.invariant c.loop-held-test.true (sym c.holds.ensures ∙ c.if-not-holds.false) new (omega arith) _ refl
