-- Document 01, "Expressions, in prefix order": the words of a whole definition or query, with refusals 3, 4 and 5.
use Rattle.std.specs.Prelude.{ℕ, List, [], ◌∷◌}
use Rattle.refusals.specs.RefusalTable.{bad_word}
use Rattle.policy.specs.OwnKey.{Scope}
use Rattle.policy.specs.Syntax.{Expr}
use Rattle.policy.specs.Readers.{Read, got}
use Rattle.policy.specs.Readers as Readers
use Rattle.policy.specs.Decode.{expr}

pub data Parsed : Type 0 where
  parsed : Expr → Parsed
  refused : ℕ → Parsed

-- "left-over words last"
unfoldable pub none_left : Read Expr → Parsed
none_left (got e [] k) = parsed e
none_left (got e (w ∷ ws) k) = refused bad_word
none_left (Readers.refused n) = refused n

-- a whole definition or query: 15 levels of depth, no variables, no draws yet
unfoldable pub parse : Scope → List ℕ → Parsed
unfolding expr none_left
parse s ws = none_left (expr s 15 0 ws 0)
