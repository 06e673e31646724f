-- A turn of the loop: the row in the middle is compared.
use Rattle.std.proofs.Common.{ℕ, ◌+◌, ◌-◌, ◌*◌, ◌/◌, ◌≤◌, ◌<◌, sym, [], length, arith}
use Rattle.rows.specs.Row.{row_before}
use Rattle.rows.proofs.Order.{row_order}
use Rattle.rows.proofs.Place.{between_all}
use Rattle.row_words.specs.Values.{row_is}
use Rattle.row_words.proofs.SearchLaws.{rows_at_length, below_count, halve_before, halve_same, halve_after, finds_missing}
use Rattle.row_words.proofs.search.find.Goals as goal

pub loop-low-init : goal.loop-low-init
loop-low-init c = between_all row_before row_order [] _ (row_is c.args.row.now) c.args.count (sym (rows_at_length c.args.words.now c.args.start c.args.step c.args.count))

abbrev middle : ℕ → ℕ → ℕ
middle low high = low + (high - low) / 2

record Middle (low high count start step len : ℕ) : Type 0 where
  above : low ≤ middle low high
  below : middle low high < high
  within : middle low high < count
  inside : start + step * middle low high + 5 ≤ len

in_middle : (c : goal.In-loop-low) → Middle c.loop-low.low c.loop-low.high c.args.count c.args.start c.args.step (length c.args.words.now)
in_middle c =
    let n = below_count c.requires.0 c.loop-low.invariant (middle c.loop-low.low c.loop-low.high) (omega arith) (omega arith) in
    record { above = omega arith; below = omega arith; within = n; inside = c.requires.0.inside (middle c.loop-low.low c.loop-low.high) n }

pub overflow_mul-step : goal.overflow_mul-step
overflow_mul-step c = let m = in_middle c in omega arith

pub overflow_add-start : goal.overflow_add-start
overflow_add-start c = let m = in_middle c in omega arith

pub compare-requires : goal.compare-requires
compare-requires c = let m = in_middle c in (m.inside, c.requires.1, c.requires.0.narrow _ m.within)

pub loop-low-preserved-in-Less : goal.loop-low-preserved-in-Less
loop-low-preserved-in-Less c = halve_before c.requires.0 c.loop-low.invariant (middle c.loop-low.low c.loop-low.high) (omega arith) (omega arith) c.compare.ensures c.in-Less.is

pub returns-in-Equal : goal.returns-in-Equal
returns-in-Equal c = halve_same c.requires.0 c.loop-low.invariant (middle c.loop-low.low c.loop-low.high) (omega arith) (omega arith) c.compare.ensures c.in-Equal.is

pub loop-low-preserved : goal.loop-low-preserved
loop-low-preserved c = halve_after c.requires.0 c.loop-low.invariant (middle c.loop-low.low c.loop-low.high) (omega arith) (omega arith) c.compare.ensures c.in-Greater.is

pub returns : goal.returns
returns c = finds_missing _ _ c.loop-low.low c.loop-low.high c.loop-low.invariant (omega arith)
