-- Fewer levels are left for the expressions inside; at one level the guards that are left are fewer.
use Rattle.std.proofs.Common.{◌+◌, ◌*◌}
use Rattle.check_expressions.proofs.+checkers.Given as goal

abbrev pub decreases-check_expr : goal.decreases-check_expr
decreases-check_expr l = l.levels * 32

abbrev pub decreases-check_code : goal.decreases-check_code
decreases-check_code l = l.levels * 32 + 31

abbrev pub decreases-check_two : goal.decreases-check_two
decreases-check_two l = l.levels * 32 + 1

abbrev pub decreases-check_guards : goal.decreases-check_guards
decreases-check_guards l = l.levels * 32 + 2 * l.left + 1

abbrev pub decreases-check_draw : goal.decreases-check_draw
decreases-check_draw l = l.levels * 32 + 2 * l.left + 2

abbrev pub decreases-check_absent : goal.decreases-check_absent
decreases-check_absent l = l.levels * 32 + 2 * l.left + 2
