-- Document 01, "Expressions, in prefix order": what parses is just the words of a well-formed expression, and the words of each such expression parse, as
-- it and no other. It is a whole definition or query; what is available there is given.
use Rattle.std.specs.Prelude.{ℕ, ◌≡◌, ◌↔◌, List}
use Rattle.policy.specs.OwnKey.{Scope}
use Rattle.policy.specs.Syntax.{Expr}
use Rattle.policy.specs.Words.{expr_words}
use Rattle.policy.specs.WellFormed.{WellFormed}
use Rattle.policy.specs.Parse.{parsed, parse}

abbrev pub Theorem : Type 0
Theorem = (s : Scope) (ws : List ℕ) (e : Expr) → (parse s ws ≡ parsed e) ↔ ((ws ≡ expr_words e 0) × WellFormed s e)
