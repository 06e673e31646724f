-- The row before the `i`th was compared with it.
use Rattle.std.proofs.Common.{ℕ, ◌+◌, ◌-◌, ◌*◌, ◌≡◌, sym, ◌∙◌, ap, subst, [], get_or, arith}
use Rattle.rows.specs.Row.{row_before}
use Rattle.rows.specs.Layout.{rows_in}
use Rattle.rows.proofs.Scan.{Climbed, climbed_none, climbed_next, climbed_fails, climbed_all}
use Rattle.rows.proofs.LayoutLaws.{rows_count}
use Rattle.row_words.proofs.RowLaws.{loaded_width}
use Rattle.sets.proofs.SetWords.{width_at, rows_before}
use Rattle.sets.proofs.ascends.Goals as goal

pub loop-i-init : goal.loop-i-init
loop-i-init c = climbed_none row_before (rows_in c.args.set.now)

pub compare-order-requires : goal.compare-order-requires
compare-order-requires c =
    let a = c.args in
    let i : ℕ = c.loop-i.i in
    let w = width_at a.count a.set.now (i - 1) c.requires.2 (omega arith) in
    let v = width_at a.count a.set.now i c.requires.2 (omega arith) in
    (omega arith, omega (arith, loaded_width _ a.set.now (2 + 5 * (i - 1)) c.at-row.ensures), v)

pub returns-then-not-is_lt : goal.returns-then-not-is_lt
returns-then-not-is_lt c =
    let a = c.args in
    let i : ℕ = c.loop-i.i in
    let l = rows_count a.set.now in
    let s : i ≡ i - 1 + 1 = omega arith in
    let e = rows_before a.set.now (i - 1) i (omega arith) (omega arith) _ _ c.at-row.ensures c.compare-order.ensures in
    sym (climbed_fails row_before (rows_in a.set.now) (i - 1) [] c.loop-i.invariant (omega arith)
    (ap (λ (k : ℕ). row_before (get_or (rows_in a.set.now) (i - 1) []) (get_or (rows_in a.set.now) k [])) (sym s) ∙ sym e ∙ sym c.is_lt.ensures ∙ c.if-not-is_lt.true))

pub loop-i-preserved : goal.loop-i-preserved
loop-i-preserved c =
    let a = c.args in
    let i : ℕ = c.loop-i.i in
    let l = rows_count a.set.now in
    let s : i ≡ i - 1 + 1 = omega arith in
    let t : i - 1 + 1 ≡ i + 1 - 1 = omega arith in
    let e = rows_before a.set.now (i - 1) i (omega arith) (omega arith) _ _ c.at-row.ensures c.compare-order.ensures in
    subst (λ (k : ℕ). Climbed row_before (rows_in a.set.now) k) t
    (climbed_next row_before (rows_in a.set.now) (i - 1) [] c.loop-i.invariant (omega arith)
    (ap (λ (k : ℕ). row_before (get_or (rows_in a.set.now) (i - 1) []) (get_or (rows_in a.set.now) k [])) (sym s) ∙ sym e ∙ sym c.is_lt.ensures ∙ c.if-not-is_lt.false))

pub returns : goal.returns
returns c =
    let l = rows_count c.args.set.now in
    sym (climbed_all row_before (rows_in c.args.set.now) (c.loop-i.i - 1) c.loop-i.invariant (omega arith))
