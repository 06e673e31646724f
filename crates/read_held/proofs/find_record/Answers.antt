-- A turn of the loop: the record in the middle is compared.
use Rattle.std.proofs.Common.{ℕ, ◌+◌, ◌-◌, ◌/◌, rules, arith}
use Rattle.row_words.specs.Values.{row_is}
use Rattle.read_held.proofs.Halving.{row_narrow, halving_all, halve_before, halve_same, halve_after, halved}
use Rattle.read_held.proofs.find_record.Goals as goal

pub loop-low-init : goal.loop-low-init
loop-low-init c = halving_all c.requires.0 (row_is c.args.row.now)

abbrev middle : ℕ → ℕ → ℕ
middle low high = low + (high - low) / 2

pub bounds-records-middle : goal.bounds-records-middle
bounds-records-middle c = let e = c.loop-low.invariant.end in omega arith

pub compare-requires : goal.compare-requires
compare-requires c = let e = c.loop-low.invariant.end in (search rules, c.requires.1, row_narrow c.requires.0 (middle c.loop-low.low c.loop-low.high) (omega arith))

pub loop-low-preserved-in-Less : goal.loop-low-preserved-in-Less
loop-low-preserved-in-Less c =
    halve_before c.requires.0 (row_is c.args.row.now) c.loop-low.invariant (middle c.loop-low.low c.loop-low.high) (omega arith) (omega arith) c.compare.ensures c.in-Less.is

pub returns-in-Equal : goal.returns-in-Equal
returns-in-Equal c =
    halve_same c.requires.0 (row_is c.args.row.now) c.loop-low.invariant (middle c.loop-low.low c.loop-low.high) (omega arith) (omega arith) c.compare.ensures c.in-Equal.is

pub loop-low-preserved : goal.loop-low-preserved
loop-low-preserved c =
    halve_after c.requires.0 (row_is c.args.row.now) c.loop-low.invariant (middle c.loop-low.low c.loop-low.high) (omega arith) (omega arith) c.compare.ensures c.in-Greater.is

pub returns : goal.returns
returns c = halved c.requires.0 (row_is c.args.row.now) c.loop-low.invariant (omega arith)
