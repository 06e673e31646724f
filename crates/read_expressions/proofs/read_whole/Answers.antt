-- What was checked fits, and the area has room for it.
use Rattle.std.proofs.Common.{arith}
use Rattle.read_expressions.proofs.Whole.{ask_whole, say_whole}
use Rattle.read_expressions.proofs.read_whole.Goals as goal

pub read_expr-requires : goal.read_expr-requires
read_expr-requires c = ask_whole (omega arith) c.requires

pub returns : goal.returns
returns c = say_whole c.read_expr.ensures.says
