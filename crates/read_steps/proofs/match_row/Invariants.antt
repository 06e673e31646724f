-- The slots passed match the atoms passed. The count is still that of the start.
use Rattle.std.proofs.Common.{◌≡◌}
use Rattle.read_steps.proofs.Match.{Passed}
use Rattle.read_steps.proofs.match_row.Given as goal

abbrev pub invariant-loop-j : goal.invariant-loop-j
invariant-loop-j l = record {
  passed : Passed l.lent.words.now l.at l.fn.bindings.values l.fn.bindings.count l.area l.row l.bindings.values l.scope l.j;
  count : l.bindings.count ≡ l.fn.bindings.count;
}
